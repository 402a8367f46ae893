use Rattle.std.proofs.Common.{rules, ◌≡◌, true, map, length}
use Rattle.std.specs.List.{list_all}
use Rattle.sign_font.specs.Limits.{is_within, is_font}
use Rattle.sign_font.specs.Sign.{font_of}
use Rattle.sign_font.proofs.LimitLemmas.{fonts_decided}
use Rattle.sign_font.proofs.limits.has_fonts.Goals as goal
use Rattle.sign_font.proofs.limits.has_fonts.Goals.{then-contains, else-contains}

pub returns-then-are_fonts : goal.returns-then-are_fonts
returns-then-are_fonts c =
    let fonts = c.args.parts.now.fonts.items in
    elim c.if-contains.branch [
      | then-contains w ↦
          let count : is_within 1 16 (length fonts) ≡ true = search rules in
          let all : list_all is_font (map font_of fonts) ≡ true = cc in
          fonts_decided fonts c.are_fonts_rising.result count all cc
      | else-contains w ↦ cc
    ]
