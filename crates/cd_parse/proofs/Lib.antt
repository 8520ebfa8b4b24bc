pub mod ParseLemmas
pub mod SoundWellRead
mod SoundTold
mod SoundNumbers
pub mod SoundKeeps
mod SoundNamed
mod SoundPlaces
pub mod SoundParsing
pub mod SoundStatements
pub mod Found
mod SoundNames
mod SoundOps
mod SoundHeads
mod SoundGuards
mod SoundBegins
mod SoundChanges
mod SoundDomains
mod SoundSteps
mod SoundLists
mod SoundWalk
mod WorkedTexts
mod Worked
mod WorkedLoops
mod WorkedLimits
mod WorkedSteps
mod WorkedChoices
pub mod UnrolledLemmas
pub mod TurnLemmas
pub mod RoomLemmas
pub mod DraftLemmas
pub mod MarkLemmas
mod Stages
