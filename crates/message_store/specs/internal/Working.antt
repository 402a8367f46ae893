-- What the code answers of a text while it judges its message.
use Rattle.message_store.specs.declared.work.Judgement.{Judgement}
use Rattle.message_store.specs.Work.{JudgementData}

-- what was judged, without its steps (own)
abbrev pub judgement_of : Judgement → JudgementData
judgement_of result = record { error = result.error; syntax = result.syntax }
