mod CodeExamples
pub mod CountedLemmas
pub mod CrcLemmas
mod LimitExamples
pub mod LimitsLemmas
pub mod MoveLemmas
pub mod PlaceLemmas
pub mod PoolLemmas
pub mod RegisterLemmas
pub mod ReservedLemmas
mod RowExamples
pub mod ShortLemmas
pub mod StoreRows
pub mod StoredLemmas
pub mod WaitLemmas
pub mod WholeLemmas
pub mod WorkLemmas
mod WriteExamples
