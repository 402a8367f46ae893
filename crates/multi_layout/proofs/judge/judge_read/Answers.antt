use Rattle.multi_layout.proofs.Common.{sym, ap, ◌∙◌}
use Rattle.multi_meaning.specs.Meaning.{said_by}
use Rattle.multi_layout.proofs.BracketedLemmas.{read_judged, says_tag}
use Rattle.multi_layout.proofs.judge.judge_read.Goals.{in-HexChar, in_default}
use Rattle.multi_layout.proofs.judge.judge_read.Goals as goal

pub returns-in-Ok-clause-judged : goal.returns-in-Ok-clause-judged
returns-in-Ok-clause-judged g c = rw c.in_ok-tag.was (elim c.match-tag.branch [
  | in-HexChar w ↦ rw (w.pass-is, w.source-is) (read_judged _ c.args.sign.now _ _ c.in_ok-tag.tag _ _ _ c.in-Ok.field-0 _ _ (ap said_by w.in-HexChar.is) w.judge_number-judged.ensures.steps w.judge_number-judged.ensures.judged (sym w.judged-is ∙ c.in-Ok.is))
  | in_default w ↦ rw (w.pass-is, w.source-is) (read_judged _ c.args.sign.now _ _ c.in_ok-tag.tag _ _ _ c.in-Ok.field-0 _ _ (says_tag c.in_ok-tag.tag w.in_default.not-HexChar) w.pass_tag-judged.ensures.steps w.pass_tag-judged.ensures.judged (sym w.judged-is ∙ c.in-Ok.is))
])
