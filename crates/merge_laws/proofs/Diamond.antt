-- The worked diamond: its plans, its runs, its merges and its board.
pub mod Worked
pub mod WorkedRuns
pub mod WorkedWords
pub mod WorkedPlans
pub mod WorkedBoard
