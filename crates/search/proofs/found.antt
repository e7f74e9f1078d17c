pub mod Answer
pub mod Leader
pub mod Places
