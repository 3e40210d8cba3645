pub mod Grown
pub mod OwnBlock
pub mod Parameters
pub mod ParameterItems
pub mod Elements
pub mod Opening
pub mod Closing
pub mod ParametersOfTexts
