pub mod AdvanceLemmas
pub mod BitLemmas
pub mod DefaultLemmas
pub mod FaultLemmas
pub mod FindLemmas
pub mod HalfLemmas
pub mod KeptLemmas
mod LimitExamples
pub mod LimitLemmas
pub mod PlaceLemmas
pub mod RisingLemmas
mod SignExamples
pub mod SoundLemmas
pub mod TextLemmas
