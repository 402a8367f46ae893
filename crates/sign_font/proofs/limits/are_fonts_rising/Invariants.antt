use Rattle.std.proofs.Common.{◌≡◌, ◌∷◌, map, drop}
use Rattle.sign_font.specs.Limits.{is_rising}
use Rattle.sign_font.proofs.limits.are_fonts_rising.Given as goal

abbrev pub invariant-loop-font : goal.invariant-loop-font
invariant-loop-font l = is_rising (0 ∷ map (λ font. font.number) l.fonts) ≡ is_rising (l.last ∷ map (λ font. font.number) (drop l.font-index l.fonts))
