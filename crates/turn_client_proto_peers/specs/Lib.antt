pub mod Permission
pub mod Channel
