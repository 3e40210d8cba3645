pub mod Answers
pub mod Feeds
