use Rattle.std.proofs.Common.{◌≡◌, ◌&&◌, ◌||◌, ◌==◌, Bool, None, get_or, length, not, take, sym, ap, ◌∙◌}
use Rattle.std.proofs.lemmas.List.Folds.{list_any_more}
use Rattle.std.specs.List.{list_any}
use Rattle.std.specs.Option.{unwrap_or}
use Rattle.message_words.specs.OnItems.{is_letter}
use Rattle.message_words.specs.OnPages.{flash_turn, is_flashing, still_letters}
use Rattle.message_words.specs.declared.said.Said.{Said}
use Rattle.message_words.proofs.OnPagesLemmas
use Rattle.message_words.proofs.flashes.all_flash.Goals.{then-has_letters, else-has_letters, then-has_still, else-has_still+then-letter, else-has_still+else-letter}
use Rattle.message_words.proofs.flashes.all_flash.Goals as goal

pub loop-one-preserved : goal.loop-one-preserved
loop-one-preserved c =
    let h = c.loop-one.invariant in
    let defaults = c.args.defaults in
    let said = c.args.said.now in
    let i = c.loop-one.one-index in
    let none : Said = record { at = 0; end = 0; tag = None } in
    let one = get_or said i none in
    let before = take i said in
    let letter = is_letter one.tag in
    let is_still = letter && not (is_flashing defaults before) in
    let below = c.loop-one-test.true in
    let letters : c.if-has_letters.has_letters ≡ (list_any (λ (s : Said). is_letter s.tag) before || letter) = elim c.if-has_letters.branch [
      | then-has_letters w ↦ w.has_letters-is ∙ w.if-has_letters.true ∙ ap (λ (b : Bool). b || letter) (sym w.if-has_letters.true ∙ h.letters)
      | else-has_letters w ↦ w.has_letters-is ∙ c.is_letter-letter.ensures ∙ ap (λ (b : Bool). b || letter) (sym w.if-has_letters.false ∙ h.letters)
    ] in
    let still : not c.if-has_still.has_still ≡ ((length (still_letters defaults before) == 0) && not is_still) = elim c.if-has_still.branch [
      | then-has_still w ↦ ap not (w.has_still-is ∙ w.if-has_still.true) ∙ ap (λ (b : Bool). b && not is_still) (ap not (sym w.if-has_still.true) ∙ h.still)
      | else-has_still+then-letter w ↦
          ap not (w.has_still-is ∙ ap not h.flashing) ∙ ap (λ (b : Bool). not (b && not (is_flashing defaults before))) (sym w.if-letter.true ∙ c.is_letter-letter.ensures)
          ∙ ap (λ (b : Bool). b && not is_still) (ap not (sym w.if-has_still.false) ∙ h.still)
      | else-has_still+else-letter w ↦
          ap not (w.has_still-is ∙ w.if-letter.false) ∙ ap (λ (b : Bool). not (b && not (is_flashing defaults before))) (sym w.if-letter.false ∙ c.is_letter-letter.ensures)
          ∙ ap (λ (b : Bool). b && not is_still) (ap not (sym w.if-has_still.false) ∙ h.still)
    ] in
    record {
      letters = letters ∙ sym (list_any_more (λ (s : Said). is_letter s.tag) said i none below);
      still = still ∙ sym (OnPagesLemmas.still_more defaults said i none below);
      flashing = c.unwrap_or-is_flashing.ensures ∙ ap (λ o. unwrap_or o c.loop-one.is_flashing) c.flash_turn.ensures ∙ ap (unwrap_or (flash_turn defaults one.tag)) h.flashing
          ∙ sym (OnPagesLemmas.flashing_more defaults said i none below);
    }
