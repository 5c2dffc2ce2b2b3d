mod Examples
pub mod StateLists
pub mod SearchLemmas
pub mod UniqueRegions
pub mod ComponentLemmas
pub mod RegionLemmas
pub mod SetsExist
pub mod RegionsExist
pub mod RegionComponents
