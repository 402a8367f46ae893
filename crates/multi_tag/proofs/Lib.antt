mod Examples
mod JustExamples
pub mod AheadLemmas
pub mod ClosedLemmas
pub mod ClosedTagLemmas
pub mod CutLemmas
pub mod JustLemmas
pub mod NameLemmas
pub mod NumberLemmas
pub mod ReadLemmas
pub mod ShortLemmas
pub mod TagFormLemmas
pub mod TagRowLemmas
pub mod TagOfLemmas
pub mod TagOfExamples
