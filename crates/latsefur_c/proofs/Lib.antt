pub mod SignLemmas
pub mod RowLemmas
pub mod JudgedLemmas
pub mod BufferLemmas
pub mod FrameLemmas
pub mod HeldLemmas
