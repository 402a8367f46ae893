mod BitLemmas
mod Examples
mod OctetLemmas
pub mod PlaneLemmas
pub mod PutLemmas
mod StoredLemmas
mod WordLemmas
