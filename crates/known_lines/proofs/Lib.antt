pub mod Takings
pub mod StatementLines
pub mod SchedulePhrases
pub mod ArrayPhrases
