pub mod Takings
pub mod Expressions
mod StatementTakings
pub mod Notes
mod ValueTakings
mod OperandTakings
mod PhraseTakings
