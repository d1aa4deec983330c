pub mod Replies
pub mod Entered
