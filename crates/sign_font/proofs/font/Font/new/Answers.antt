use Rattle.std.proofs.Common.{◌≡◌, ◌∷◌, [], ◌∙◌, ap, append_assoc, length, map, arith, refl, sym, subst}
use Rattle.std.specs.Vec.Iter.{into_iter_items}
use Rattle.std.proofs.lemmas.List.{append-nil, nil_from_length}
use Rattle.std.proofs.lemmas.List.Elements.{All-push}
use Rattle.sign_font.specs.Cell.{SizedCell}
use Rattle.sign_font.specs.declared.font.FontInfo.{FontInfo}
use Rattle.sign_font.specs.Sign.{cell_of, unsized}
use Rattle.sign_font.specs.Sound.{IsSoundCell, IsSoundFont}
use Rattle.sign_font.proofs.KeptLemmas.{kept_more, numbered}
use Rattle.sign_font.proofs.SoundLemmas.{All-among}
use Rattle.sign_font.proofs.font.Font.new.Goals as goal

pub new-requires : goal.new-requires
new-requires c =
    let at = c.loop-cell in
    let steps : into_iter_items at.cell-iterator ≡ c.in-Some.cell ∷ into_iter_items c.next.new.self = c.in-Some.ensures.steps.0 in
    let all = rw steps at at.invariant.so_far ∙ c.into_iter-cell-iterator.ensures.into_iter_gives.0 in
    (All-among (IsSoundCell c.args.part.height) cell_of at.yielded c.in-Some.cell _ _ all c.requires.each).width.1

pub loop-cell-preserved : goal.loop-cell-preserved
loop-cell-preserved c =
    let at = c.loop-cell in
    let steps : into_iter_items at.cell-iterator ≡ c.in-Some.cell ∷ into_iter_items c.next.new.self = c.in-Some.ensures.steps.0 in
    record {
      so_far = append_assoc at.yielded (c.in-Some.cell ∷ []) _ ∙ rw (← steps) at.invariant.so_far;
      made = rw c.in_ok-push.ensures.items (kept_more at.glyphs.items at.yielded c.in_ok-new.field-0 c.in-Some.cell at.invariant.made (rw c.in_ok-new.ensures refl));
      heights = rw c.in_ok-push.ensures.items (All-push (λ (cell : SizedCell). cell.height ≡ c.args.part.height) at.glyphs.items c.in_ok-new.field-0 at.invariant.heights (rw c.in_ok-new.ensures refl));
      len =
          let was = at.invariant.len in
          let gone = c.in-Some.ensures.steps.1 in
          let short = ap length steps in
          omega arith;
    }

pub new-glyphs-requires : goal.new-glyphs-requires
new-glyphs-requires c =
    let at = c.loop-cell in
    let part = c.args.part in
    let none : into_iter_items at.cell-iterator ≡ [] = nil_from_length _ (omega (arith, at.invariant.len, c.in-None.ensures.steps.0)) in
    let whole : at.yielded ≡ part.cells.items = sym (append-nil at.yielded) ∙ (rw none at at.invariant.so_far) ∙ c.into_iter-cell-iterator.ensures.into_iter_gives.0 in
    let made : map cell_of part.cells.items ≡ map unsized at.glyphs.items = sym (at.invariant.made ∙ ap (map cell_of) whole) in
    let info : FontInfo = record {
      number = part.number;
      version = part.version;
      height = part.height;
      char_spacing = part.char_spacing;
      line_spacing = part.line_spacing;
    } in
    numbered info at.glyphs.items
    (subst (λ cells. IsSoundFont (record {
      number = part.number;
      version = part.version;
      height = part.height;
      char_spacing = part.char_spacing;
      line_spacing = part.line_spacing;
      cells = cells;
    })) made c.requires)
