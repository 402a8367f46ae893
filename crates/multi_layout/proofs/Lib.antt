pub mod AreaDrawLemmas
pub mod AreaItemsLemmas
pub mod AreaLinesLemmas
pub mod AreaReadLemmas
pub mod AtLemmas
mod BesideLemmas
pub mod BracketedLemmas
pub mod ChangesLemmas
pub mod Common
pub mod DrawLemmas
pub mod FilledLemmas
pub mod FindingLemmas
pub mod FlashLemmas
pub mod ItemLemmas
pub mod KnownLinesLemmas
pub mod LaidLemmas
pub mod LaterLemmas
mod LimitExamples
pub mod PageDrawLemmas
pub mod PageFlashLemmas
pub mod PagesLemmas
pub mod PassedLemmas
pub mod PassingLemmas
pub mod PieceLemmas
pub mod StayLemmas
pub mod TurnLemmas
pub mod WalkLemmas
