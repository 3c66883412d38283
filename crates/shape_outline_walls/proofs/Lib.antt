pub mod WallLaws
pub mod HoleWallLaws
