pub mod BudgetLemmas
pub mod ChangeLemmas
mod CodeExamples
pub mod ColourLemmas
mod CountExamples
pub mod CountLemmas
pub mod FrameLemmas
pub mod HeadlineLemmas
mod StateExamples
mod StepExamples
pub mod RestoredLemmas
pub mod RevisionLemmas
pub mod SavedLemmas
pub mod StepLemmas
