use Rattle.std.proofs.Common.{◌++◌, ap, ◌∙◌}
use Rattle.message_report.proofs.NoteLemmas
use Rattle.message_report.proofs.text.push_flash.Goals as goal

pub returns : goal.returns
returns c =
    c.in_ok-push_all.ensures
    ∙ ap (λ l. c.args.text.now ++ l) (NoteLemmas.flash_is c.args.phase c.as_bytes.result.now c.as_bytes-2.result.now c.as_bytes.ensures.value c.as_bytes-2.ensures.value)
