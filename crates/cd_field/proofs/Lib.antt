mod PlaceLemmas
mod StrikeLemmas
pub mod RunLemmas
mod WorkedRuns
mod RegionLemmas
mod HullLemmas
mod CutLemmas
mod LoadLemmas
mod PartLemmas
mod FaultLemmas
mod EventLemmas
