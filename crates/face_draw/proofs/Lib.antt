pub mod Offers
pub mod OneFace
