mod CountExamples
pub mod CountLemmas
