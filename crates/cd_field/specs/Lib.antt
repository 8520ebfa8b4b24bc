-- The files of definitions: what each call does to a machine first, then how the two machines keep it.
pub mod FieldModel
pub mod Maps
pub mod RegionWords
pub mod Hulls
pub mod Spans
pub mod Flat
pub mod EventLists
pub mod FaultOrder
pub mod SharedFaults
pub mod FlatMachine
