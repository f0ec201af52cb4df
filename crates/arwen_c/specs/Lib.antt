pub mod Answers
pub mod Calls
pub mod CauseWords
pub mod Causes
pub mod Errors
pub mod Made
pub mod Words
