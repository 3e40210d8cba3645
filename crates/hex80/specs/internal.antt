-- A text judged line by line, the parts of the reader and of the writer, and worked texts.
pub mod Judgement
pub mod Reading
pub mod Writing
pub mod Examples
