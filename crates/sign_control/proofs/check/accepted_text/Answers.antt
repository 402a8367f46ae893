use Rattle.std.proofs.Common.{refl}
use Rattle.sign_font.specs.Defaults.{under}
use Rattle.sign_control.proofs.FrameLemmas.{not_refused}
use Rattle.sign_control.proofs.check.accepted_text.Goals as goal

pub unreachable-requires : goal.unreachable-requires
unreachable-requires c =
    not_refused (under c.args.sign.now c.args.defaults) c.args.text.now _ c.in_default.field-0.code c.in_default.field-0.at c.requires.accepted refl c.in_default.ensures.refused
