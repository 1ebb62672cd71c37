pub mod OneStep
pub mod Statement
