use Rattle.std.proofs.Common.{◌∙◌, ap, ℕ, Option}
use Rattle.std.specs.Prelude.{if◌then◌else◌, unwrap_or}
use Rattle.multi_token.specs.Spelling.{is_bracket}
use Rattle.sign_font.proofs.KeptLemmas.{width_found}
use Rattle.sign_font.proofs.font.Font.advances.Goals as goal

pub returns : goal.returns
returns c = λ octet small.
    let found = width_found c.self.inside.info c.self.inside.glyphs c.self.invariant.font octet in
    rw (← c.self.view_is) (c.self.invariant.in_table octet small ∙ ap (λ (w : Option ℕ). if is_bracket octet then 32768 else unwrap_or w 32768) found)
