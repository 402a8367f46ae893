use Rattle.std.proofs.Common.{◌≡◌, ◌∙◌, sym, ap, subst, Option, Some, None, ◌==◌}
use Rattle.std.specs.Prelude.{find, IfSome}
use Rattle.sign_font.specs.Cell.{SizedCell}
use Rattle.sign_font.specs.internal.Font.{font_kept}
use Rattle.sign_font.specs.Sound.{IsSoundSize}
use Rattle.sign_font.proofs.SoundLemmas.{cell_sized}
use Rattle.sign_font.proofs.KeptLemmas.{cell_found}
use Rattle.sign_font.proofs.font.Font.cell.Goals as goal

pub returns-in-Some-clause-cell : goal.returns-in-Some-clause-cell
returns-in-Some-clause-cell c =
    let cells = c.self.inside.glyphs in
    let found : Some c.new.result ≡ find (λ (cell : SizedCell). cell.number == c.args.octet) cells = ap Some c.new.ensures ∙ c.in-Some.ensures in
    rw (← c.self.view_is) (cell_found c.self.inside.info cells c.self.invariant.font c.args.octet (Some c.new.result) found)

pub returns-in-None-clause-cell : goal.returns-in-None-clause-cell
returns-in-None-clause-cell c =
    rw (← c.self.view_is) (cell_found c.self.inside.info c.self.inside.glyphs c.self.invariant.font c.args.octet None c.in-None.ensures)

pub returns-in-Some-clause-size : goal.returns-in-Some-clause-size
returns-in-Some-clause-size c = subst (λ (r : Option SizedCell). IfSome r IsSoundSize) (sym (returns-in-Some-clause-cell c)) (rw (← c.self.view_is) (cell_sized (font_kept c.self.inside.info c.self.inside.glyphs) c.args.octet c.self.invariant.font.sound))
