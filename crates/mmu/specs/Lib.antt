pub mod Access
pub mod Answers
pub mod Entry
pub mod Found
pub mod Laws
pub mod Lookup
pub mod Marks
