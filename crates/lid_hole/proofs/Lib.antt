pub mod HoleLaws
pub mod SurveyLaws
pub mod PutLaws
