pub mod Answer
pub mod Zero
