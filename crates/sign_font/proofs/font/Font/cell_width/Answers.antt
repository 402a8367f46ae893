use Rattle.std.proofs.Common.{◌≡◌, ◌∙◌, ap, sym, subst, ℕ, Option, unwrap_or}
use Rattle.std.specs.Prelude.{IfSome, option_map}
use Rattle.sign_font.specs.internal.Font.{font_kept}
use Rattle.sign_font.specs.Sign.{CellData, cell_numbered}
use Rattle.sign_font.specs.Sound.{IsWithin}
use Rattle.sign_font.proofs.KeptLemmas.{width_found}
use Rattle.sign_font.proofs.SoundLemmas.{width_sound, no_width, some_width}
use Rattle.sign_font.proofs.font.Font.cell_width.Goals as goal

pub returns-then-width-eq0-clause-width : goal.returns-then-width-eq0-clause-width
returns-then-width-eq0-clause-width c =
    let font = font_kept c.self.inside.info c.self.inside.glyphs in
    let width = option_map (λ (cell : CellData). cell.width) (cell_numbered font c.args.octet) in
    let read : c.width-width.result ≡ unwrap_or width 0 = c.width-width.ensures ∙ ap (λ (w : Option ℕ). unwrap_or w 0) (width_found c.self.inside.info c.self.inside.glyphs c.self.invariant.font c.args.octet) in
    rw (← c.self.view_is) (no_width width (width_sound font c.args.octet c.self.invariant.font.sound) (sym read ∙ c.if-width-eq0.true))

pub returns-else-width-eq0-clause-width : goal.returns-else-width-eq0-clause-width
returns-else-width-eq0-clause-width c =
    let font = font_kept c.self.inside.info c.self.inside.glyphs in
    let width = option_map (λ (cell : CellData). cell.width) (cell_numbered font c.args.octet) in
    let read : c.width-width.result ≡ unwrap_or width 0 = c.width-width.ensures ∙ ap (λ (w : Option ℕ). unwrap_or w 0) (width_found c.self.inside.info c.self.inside.glyphs c.self.invariant.font c.args.octet) in
    rw (← c.self.view_is) (some_width width c.width-width.result read c.if-width-eq0.false)

pub returns-else-width-eq0-clause-size : goal.returns-else-width-eq0-clause-size
returns-else-width-eq0-clause-size c =
    subst (λ (w : Option ℕ). IfSome w (IsWithin 1 64)) (sym (returns-else-width-eq0-clause-width c)) (rw (← c.self.view_is) (width_sound (font_kept c.self.inside.info c.self.inside.glyphs) c.args.octet c.self.invariant.font.sound))
