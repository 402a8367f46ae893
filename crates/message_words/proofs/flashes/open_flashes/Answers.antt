use Rattle.std.proofs.Common.{◌≡◌, ◌++◌, ◌&&◌, Bool, [], None, get_or, take, sym, ap, ◌∙◌}
use Rattle.std.specs.Option.{unwrap_or}
use Rattle.message_words.specs.OnItems.{is_page}
use Rattle.message_words.specs.OnPages.{flash_turn, is_flashing, open_flashes, place_first}
use Rattle.message_words.specs.declared.said.Said.{Said}
use Rattle.message_words.proofs.OnPagesLemmas
use Rattle.message_words.proofs.flashes.open_flashes.Goals.{then-is_flashing, else-is_flashing}
use Rattle.message_words.proofs.flashes.open_flashes.Goals as goal

pub loop-one-preserved : goal.loop-one-preserved
loop-one-preserved c =
    let h = c.loop-one.invariant in
    let defaults = c.args.defaults in
    let said = c.args.said.now in
    let i = c.loop-one.one-index in
    let none : Said = record { at = 0; end = 0; tag = None } in
    let one = get_or said i none in
    let before = take i said in
    let is : c.if-is_flashing.add_place ≡ (is_flashing defaults before && is_page one.tag) = elim c.if-is_flashing.branch [
      | then-is_flashing w ↦ w.add_place-is ∙ w.is_page.ensures ∙ ap (λ (b : Bool). b && is_page one.tag) (sym w.if-is_flashing.true ∙ h.flashing)
      | else-is_flashing w ↦ w.add_place-is ∙ w.if-is_flashing.false ∙ ap (λ (b : Bool). b && is_page one.tag) (sym w.if-is_flashing.false ∙ h.flashing)
    ] in
    record {
      so_far = c.in_ok-add_place.ensures ∙ ap (λ l. l ++ place_first c.if-is_flashing.add_place one.at []) h.so_far
          ∙ ap (λ b. open_flashes defaults before ++ place_first b one.at []) is ∙ sym (OnPagesLemmas.open_more defaults said i none c.loop-one-test.true);
      flashing = c.unwrap_or-is_flashing.ensures ∙ ap (λ o. unwrap_or o c.loop-one.is_flashing) c.flash_turn.ensures ∙ ap (unwrap_or (flash_turn defaults one.tag)) h.flashing
          ∙ sym (OnPagesLemmas.flashing_more defaults said i none c.loop-one-test.true);
    }
