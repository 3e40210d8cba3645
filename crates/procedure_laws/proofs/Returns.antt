pub mod StaticReturns
pub mod ReturnsDrop
pub mod ReturnsOver
pub mod ReturnsReentrant
