pub mod Kinds
pub mod Replies
pub mod Silence
