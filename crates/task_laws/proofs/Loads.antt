pub mod Loads
pub mod ByteLoads
pub mod DirectWords
pub mod BytesInMemory
pub mod ExtendedBytes
