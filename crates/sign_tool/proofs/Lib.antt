pub mod AlikeLemmas
pub mod AnsweringLemmas
pub mod CodeLemmas
pub mod CutLemmas
pub mod DigitLemmas
pub mod FileLemmas
mod FileSetupRows
pub mod FileSetupLemmas
pub mod FrameLemmas
pub mod HexadecimalLemmas
pub mod RefusedLemmas
pub mod ReadyLemmas
pub mod ReplyLemmas
pub mod RunLemmas
pub mod SavedLemmas
pub mod ScriptLemmas
pub mod ServeClauses
pub mod ServedLemmas
pub mod ServingLemmas
pub mod ServingSteps
pub mod StartLemmas
pub mod TalkLemmas
pub mod ToolLemmas
mod WrittenLemmas
