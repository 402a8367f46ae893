pub mod PlacedLemmas
pub mod FieldLemmas
pub mod SealLemmas
pub mod TableLemmas
pub mod ReadLemmas
