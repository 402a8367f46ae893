pub mod BrokenLemmas
mod CountedExamples
pub mod PlaceLemmas
mod ReadingExamples
pub mod ReadingLemmas
pub mod RunLemmas
pub mod SpellingLemmas
pub mod StepLemmas
