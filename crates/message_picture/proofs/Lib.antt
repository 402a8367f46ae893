pub mod DrawingLemmas
pub mod MomentLemmas
pub mod PpmLemmas
