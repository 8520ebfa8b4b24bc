pub mod WorkedForms
mod Worked
pub mod KindLemmas
pub mod RefusalLemmas
pub mod Potential
pub mod RepeatsParts
pub mod RepeatsReading
pub mod Numbers
pub mod CountsParts
pub mod CountsReading
pub mod CountsSmall
pub mod ShortParts
pub mod ShortReading
mod WorkedGroups
mod WorkedHalts
mod WorkedWords
mod WorkedGrid
mod WorkedTree
pub mod View
pub mod EndKinds
pub mod Leaks
pub mod DetectedSets
pub mod Detected
pub mod PathParents
pub mod PathTexts
pub mod PathEnds
pub mod PathOnly
pub mod Reach
pub mod SameColumns
pub mod SeesReads
pub mod ShapesHold
pub mod Absorbs
pub mod FirstFacts
pub mod OfMembers
mod WorkedFirst
mod WorkedLegal
pub mod EachDomain
pub mod Covers
pub mod Needs
pub mod DeclaredPaths
pub mod Declarations
mod WorkedChecks
mod WorkedRefusals
pub mod Differ
pub mod Walk
pub mod Apart
pub mod ShapeTests
pub mod BeginsParts
pub mod BeginsStates
pub mod BeginsOthers
pub mod BeginsOwn
pub mod BeginsReading
pub mod BeginsTree
pub mod BeginsSaid
pub mod BeginsNumbers
pub mod OtherParts
pub mod OtherCounts
pub mod FrontParts
pub mod FrontSteps
pub mod FrontsStand
pub mod FrontsWait
mod WorkedFronts
pub mod EventsTold
pub mod SavesDeclared
pub mod LegalParts
pub mod TellOwn
pub mod Arrivals
pub mod ArrivalsAll
pub mod FrontCounts
pub mod Slices
pub mod Filled
pub mod Named
pub mod LastChild
pub mod Places
mod WorkedSlices
pub mod Weights
