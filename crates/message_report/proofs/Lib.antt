pub mod BlockLemmas
pub mod ExplanationLemmas
pub mod MarkLemmas
pub mod NoteLemmas
pub mod PageLemmas
pub mod RecordLemmas
pub mod VerdictLemmas
