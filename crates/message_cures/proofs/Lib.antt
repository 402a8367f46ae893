mod CaseLemmas
mod EditLemmas
mod ProposalLemmas
mod ShownLemmas
pub mod TakingLemmas
mod TrailLemmas
