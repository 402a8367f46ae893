pub mod ExplainLemmas
pub mod HeldLemmas
pub mod NextLemmas
pub mod PictureLemmas
