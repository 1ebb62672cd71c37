pub mod Input
pub mod Statement
pub mod Worked
