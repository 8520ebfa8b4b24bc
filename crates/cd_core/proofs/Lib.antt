mod Choices
mod Strikes
mod Following
mod Trying
mod Judging
mod Retrying
mod Rounds
mod LastTries
pub mod Grounds
mod Beginnings
mod Keeping
mod Facts
mod Coming
mod Views
mod ReadyOnes
mod ResumedOnes
mod Given
mod ToGroups
mod ToEnds
mod Standing
mod Arriving
mod Lapses
mod Commons
mod EndsStand
mod Making
mod Advanced
mod Unmoved
mod GoingOn
mod Answering
mod GroupsGiven
mod TakenBack
mod AfterTaking
mod AfterResuming
pub mod FitsTaken
mod TakenOn
mod TakesBack
pub mod MembersBack
mod Arrived
pub mod Roots
pub mod Outcomes
mod FitsBefore
mod Courses
mod Ways
mod TriesLeft
mod FitsTries
mod FitsEnds
mod FitsStart
mod Losses
mod AskedWords
mod AskedCounts
mod AskedLinks
pub mod Viewed
mod AskedMembers
mod Asking
mod RootStands
mod Sent
mod Returning
mod Counting
mod Pairing
mod MemberLinks
mod AfterGroups
pub mod Members
mod KeptRoom
mod LinksBelow
mod Apartness
pub mod SentFit
mod Sends
mod Moving
mod WorkedStates
mod WorkedReturns
mod WorkedBounds
