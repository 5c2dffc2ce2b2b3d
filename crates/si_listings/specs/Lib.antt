pub mod RegionText
pub mod ConflictText
pub mod CoverText
pub mod Laws
