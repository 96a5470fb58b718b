-- What an accepted schedule adds to a plan: its job, its pieces, what they do and what they leave.
pub mod Enrolling
pub mod Fitting
pub mod LeftWords
pub mod Leaving
pub mod PartFraming
pub mod Running
pub mod Scheduling
pub mod Accepting
pub mod ArgumentBinds
pub mod AtHand
pub mod JobAtHand
pub mod PlainKernels
pub mod Uses
pub mod ScheduleTexts
pub mod ScheduledParts
