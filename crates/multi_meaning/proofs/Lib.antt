pub mod Common
pub mod DrawnLemmas
pub mod FillLawLemmas
pub mod FillLemmas
pub mod GroupLemmas
pub mod ItemAtLemmas
pub mod ItemRefusalLemmas
pub mod LaidItemLemmas
pub mod LayoutExamples
pub mod RoomLemmas
pub mod StandingLemmas
mod StepsExamples
pub mod StepsLemmas
pub mod StringExamples
pub mod TimesLemmas
pub mod VerdictLemmas
pub mod WordLemmas
