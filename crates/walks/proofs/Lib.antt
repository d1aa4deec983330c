pub mod Reaches
pub mod Sides
pub mod Start
