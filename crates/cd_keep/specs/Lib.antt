-- The files of definitions: what each call does to a pass, and how one over shared pointers keeps it.
pub mod GoneNoteModel
pub mod PassModel
pub mod LayerModel
pub mod Layers
pub mod Known
pub mod Kept
pub mod IdsCode
pub mod Holding
pub mod Arcs
