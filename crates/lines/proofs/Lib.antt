pub mod LineKinds
pub mod RowLines
pub mod Terms
pub mod Refusals
pub mod FirstBad
pub mod Decided
pub mod TermsDecided
