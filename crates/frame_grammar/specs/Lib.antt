-- promises
pub mod Grammar
pub mod Bodies
pub mod Sentences
