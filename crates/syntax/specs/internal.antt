pub mod Reader
pub mod Lists
pub mod Expressions
pub mod Measured
pub mod Declarations
pub mod Statements
pub mod Inside
pub mod Results
