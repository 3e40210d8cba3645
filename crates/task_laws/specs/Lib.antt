pub mod CallingConvention
pub mod ProgramTypes
pub mod internal
