pub mod DocumentLemmas
pub mod PermanentLemmas
pub mod SetupLemmas
