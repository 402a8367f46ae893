-- Verdicts on texts, one after the other.
use Rattle.std.proofs.Common.{◌≡◌, ◌≢◌, ℕ, ◌+◌, ◌<◌, ◌≤◌, List, length, map, set, get_or, slice_get, Bor, Some, refl, sym, ap, ◌∙◌, arith, inl, inr, subst}
use Rattle.std.proofs.lemmas.Bool.{cases_lt}
use Rattle.std.proofs.lemmas.List.{get_or-set_other, get_or-set_same, length-map, length-set}
use Rattle.std.proofs.lemmas.Option.{get_or_from_slice_get, same_Some, slice_get-get_or, slice_get-map, slice_get_past, slice_get_within}
use Rattle.std.specs.Option.{option_map}
use Rattle.sign_font.specs.Sign.{SignData}
use Rattle.latsefur_c.specs.declared.check.LatsefurVerdict.{LatsefurVerdict}
use Rattle.latsefur_c.specs.Judged.{AreJudged, IsJudged}

-- the first texts are judged by the verdicts at their places, and the verdicts after those are the old ones
pub record AreJudgedBelow (sign : SignData) (texts : List (Bor (List ℕ))) (old now : List LatsefurVerdict) (count : ℕ) : Type 0 where
  pub same : length now ≡ length old
  pub each : (place : ℕ) (text : List ℕ) (verdict : LatsefurVerdict) → place < count → slice_get (map (λ (t : Bor (List ℕ)). t.now) texts) place ≡ Some text
      → slice_get now place ≡ Some verdict → IsJudged sign text verdict
  pub kept : (place : ℕ) → count ≤ place → slice_get now place ≡ slice_get old place

pub none_yet : (sign : SignData) (texts : List (Bor (List ℕ))) (old : List LatsefurVerdict) → AreJudgedBelow sign texts old old 0
none_yet sign texts old = record {
  same = refl;
  each = λ place text verdict below. absurd (omega (arith, below));
  kept = λ place from. refl;
}

-- what is set at one place is found there
set_here : (verdicts : List LatsefurVerdict) (place : ℕ) (new found : LatsefurVerdict) → slice_get (set verdicts place new) place ≡ Some found → new ≡ found
set_here verdicts place new found is =
    let within : place < length verdicts = let below = slice_get_within (set verdicts place new) place found is in omega (arith, below, length-set verdicts place new) in
    sym (get_or-set_same verdicts place new new within) ∙ get_or_from_slice_get (set verdicts place new) place found new is

-- and all other places stay as they are
set_elsewhere : (verdicts : List LatsefurVerdict) (place other : ℕ) (new : LatsefurVerdict) → other ≢ place → slice_get (set verdicts place new) other ≡ slice_get verdicts other
set_elsewhere verdicts place other new apart = elim (cases_lt other (length verdicts)) [
  | inl within ↦
      let long : other < length (set verdicts place new) = omega (arith, within, length-set verdicts place new) in
      slice_get-get_or (set verdicts place new) other new long ∙ ap Some (get_or-set_other verdicts place other new new apart) ∙ sym (slice_get-get_or verdicts other new within)
  | inr past ↦
      let short : length (set verdicts place new) ≤ other = omega (arith, past, length-set verdicts place new) in
      slice_get_past (set verdicts place new) other short ∙ sym (slice_get_past verdicts other past)
]

-- the text that stands at a place
text_at : (texts : List (Bor (List ℕ))) (place : ℕ) (absent : Bor (List ℕ)) (text : List ℕ) → place < length texts → slice_get (map (λ (t : Bor (List ℕ)). t.now) texts) place ≡ Some text
    → (get_or texts place absent).now ≡ text
text_at texts place absent text within is =
    same_Some _ _ (sym (ap (option_map (λ (t : Bor (List ℕ)). t.now)) (slice_get-get_or texts place absent within)) ∙ sym (slice_get-map (λ (t : Bor (List ℕ)). t.now) texts place) ∙ is)

-- one more text is judged at its place
pub one_more : (sign : SignData) (texts : List (Bor (List ℕ))) (old now : List LatsefurVerdict) (count : ℕ) (absent : Bor (List ℕ)) (new : LatsefurVerdict) → count < length texts
    → AreJudgedBelow sign texts old now count → IsJudged sign (get_or texts count absent).now new → AreJudgedBelow sign texts old (set now count new) (count + 1)
one_more sign texts old now count absent new within so_far judged = record {
  same = length-set now count new ∙ so_far.same;
  each = λ place text verdict below is found. elim (cases_lt place count) [
    | inl before ↦ so_far.each place text verdict before is (sym (set_elsewhere now count place new (λ same. omega (arith, before, same))) ∙ found)
    | inr after ↦
        let last : place ≡ count = omega (arith, below, after) in
        let here : slice_get (set now count new) count ≡ Some verdict = subst (λ k. slice_get (set now count new) k ≡ Some verdict) last found in
        let there : slice_get (map (λ (t : Bor (List ℕ)). t.now) texts) count ≡ Some text = subst (λ k. slice_get (map (λ (t : Bor (List ℕ)). t.now) texts) k ≡ Some text) last is in
        subst (IsJudged sign text) (set_here now count new verdict here) (subst (λ t. IsJudged sign t new) (text_at texts count absent text within there) judged)
  ];
  kept = λ place from. set_elsewhere now count place new (λ same. omega (arith, from, same)) ∙ so_far.kept place (omega (arith, from));
}

-- all texts are judged in the end
pub all_judged : (sign : SignData) (texts : List (Bor (List ℕ))) (old now : List LatsefurVerdict) (count : ℕ) → count ≡ length texts → length texts ≤ length old
    → AreJudgedBelow sign texts old now count → AreJudged sign (map (λ (t : Bor (List ℕ)). t.now) texts) old now
all_judged sign texts old now count all room so_far =
    let many : length (map (λ (t : Bor (List ℕ)). t.now) texts) ≡ length texts = length-map texts (λ (t : Bor (List ℕ)). t.now) in
    record {
      count = so_far.same;
      room = omega (arith, many, room, so_far.same);
      each = λ place text verdict is found.
          let within = slice_get_within (map (λ (t : Bor (List ℕ)). t.now) texts) place text is in
          so_far.each place text verdict (omega (arith, within, many, all)) is found;
      kept = λ place from. so_far.kept place (omega (arith, from, many, all));
    }
