pub mod BlockLemmas
pub mod FaultLemmas
pub mod SeenLemmas
