mod DigitLemmas
pub mod TextLemmas
