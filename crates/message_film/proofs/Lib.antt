pub mod ReelLemmas
pub mod MovingLemmas
pub mod PeriodLemmas
pub mod FlashLemmas
