pub mod Files
pub mod Replies
pub mod Sessions
pub mod Playing
