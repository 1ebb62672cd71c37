pub mod Fetch
pub mod Hot
pub mod Opens
pub mod Operands
pub mod Results
pub mod Statement
