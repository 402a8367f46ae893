-- Text after a character with the same attributes, where lines are filled: what is kept with it.
use Rattle.multi_judge.proofs.Common.{counted, State, held, lengthened_by, map, meaning, laid_items, Words, present_area, Spot, CutAt, parts_sum, ◌≡◌, ◌==◌, ℕ, ◌+◌, ◌-◌, ◌*◌, ◌^◌, ◌<◌, ◌≤◌, true, List, length, take, drop, slice_get, Option, Some, None, refl, sym, ap, subst, ◌∙◌, arith, rules, All, option_map, cases_eq, ne_eqb, IsPlain, SignData, IsWithin, HasWidth, width_in, Attributes, Split, Pass, Line, IsFilledRun, with_run_behind, with_word, with_text, IsFilledFor, ReadSoFar, IsRun, line_in_force, length-take-le, length-drop, IsLastSpaceOf, take-take, drop-drop, drop-take, All-take, All-drop, IsNoSpace, Space, slice_get_within, get_behind, get_front}
use Rattle.std.proofs.Common.{length-take}
use Rattle.multi_judge.proofs.RunReadLemmas.{one_goes_on, one_taken, run_some, split_one, with_one, front_taken, lengthened_more, lengthened_none}
use Rattle.multi_judge.proofs.RunLemmas.{run_stays}

module _ (here : Attributes) (gap : ℕ) where
  split_none : (cut : Option (CutAt Spot)) → option_map (with_run_behind here gap 0 0) (option_map parts_sum cut) ≡ option_map parts_sum cut
  split_none cut = search (rules)

  split_more : (pixels count width : ℕ) (split : Option Split) → (count ≡ 0 → pixels ≡ 0) → (1 ≤ count → gap ≤ pixels)
      → option_map (with_run_behind here gap (gap + width) 1) (option_map (with_run_behind here gap pixels count) split) ≡ option_map (with_run_behind here gap (pixels + (gap + width)) (count + 1)) split
  split_more pixels count width split empty wide = search (rules, cases_eq, ne_eqb, run_some)

module _ (sign : SignData) (octets : List ℕ) (at steps : ℕ) (kept : Pass) (r : ReadSoFar sign octets at steps (IsFilledFor sign kept)) (short : length octets < 2 ^ 63) (run : IsFilledRun kept) (gap : ℕ) (runs : IsRun kept.state gap) where
  abbrev width_of : ℕ → Option ℕ
  width_of = width_in sign kept.state.attributes.font.number

  abbrev line : Line
  line = line_in_force kept.state

  -- what is kept with so many of its characters, and these parts around the last space
  abbrev with_parts : ℕ → ℕ → Option Split → Pass
  with_parts pixels count split = record { state = lengthened_by pixels count kept.state; split = split; order = kept.order }

  -- characters of a kind, and what is known of the parts around the last space after so many of them
  module _ (IsOne : ℕ → Type 0) (IsSplit : ℕ → ℕ → Option Split → Type 0) (is_plain : (octet : ℕ) → IsOne octet → IsPlain octet) (first : IsSplit 0 0 kept.split)
      (next : (pixels count octet wide : ℕ) (split : Option Split) → IsOne octet → IsSplit pixels count split
      → IsSplit (pixels + (gap + wide)) (count + 1) (split_one kept.state.attributes gap wide (octet == 32) (line_in_force (lengthened_by pixels count kept.state)) split)) where
    -- so many are taken
    record Taken (to pixels count : ℕ) : Type 0 where
      pub split : Option Split
      pub is : IsSplit pixels count split
      pub read : ReadSoFar sign octets to (steps + 2 * count) (IsFilledFor sign (with_parts pixels count split))
      pub goes_on : IsFilledRun (with_parts pixels count split)

    one_more : (to pixels count octet wide : ℕ) → Taken to pixels count → slice_get octets to ≡ Some octet → IsOne octet → Some wide ≡ width_of octet → IsWithin 1 64 wide
        → pixels + (gap + wide) ≤ kept.state.limits.width - line.part.width → Taken (to + 1) (pixels + (gap + wide)) (count + 1)
    one_more to pixels count octet wide taken here one is within fits =
        let word = with_parts pixels count taken.split in
        let here_runs = run_stays kept.state gap (held (line.part.width + pixels)) (counted (line.part.count + count)) runs in
        let narrow : held (line.part.width + pixels) + (gap + wide) ≤ kept.state.limits.width = omega (arith, fits, within.0) in
        let split = split_one word.state.attributes gap wide (octet == 32) (line_in_force word.state) word.split in
        let two : steps + 2 * count + 2 ≡ steps + 2 * (count + 1) = omega arith in
        let longer = lengthened_more kept.state pixels count (gap + wide) 1 in
        let read = one_taken sign octets to (steps + 2 * count) word taken.read octet short here (is_plain octet one) taken.goes_on gap here_runs wide within.1 is narrow in
        record {
          split = split;
          is = next pixels count octet wide taken.split one taken.is;
          read = subst (λ (x : State × ℕ). ReadSoFar sign octets (to + 1) x.1 (IsFilledFor sign (record { state = x.0; split = split; order = kept.order }))) (λ i. (longer i, two i)) read;
          goes_on = subst (λ state. IsFilledRun (record { state = state; split = split; order = kept.order })) longer (one_goes_on word taken.goes_on gap here_runs wide narrow (octet == 32));
        }

    -- the front of what stands there
    front_of : (len pixels : ℕ) → at + len ≤ length octets → All IsOne (take len (drop at octets)) → HasWidth width_of gap (take len (drop at octets)) pixels
        → line.part.width + pixels ≤ kept.state.limits.width → Taken (at + len) pixels len
    front_of len pixels within ones has narrow =
        let none = lengthened_none (present_area sign (laid_items Words sign (map meaning r.items) (map meaning r.items))) kept.state r.is.of.state_is.area in
        let nothing : steps ≡ steps + 2 * 0 = omega arith in
        let start : Taken at 0 0 = record {
          split = kept.split;
          is = first;
          read = subst (λ (x : State × ℕ). ReadSoFar sign octets at x.1 (IsFilledFor sign (record { state = x.0; split = kept.split; order = kept.order }))) (λ i. (sym none i, nothing i)) r;
          goes_on = subst (λ (state : State). IsFilledRun (record { state = state; split = kept.split; order = kept.order })) (sym none) run;
        } in
        front_taken octets gap (kept.state.limits.width - line.part.width) width_of IsOne Taken one_more at len pixels start within ones has (omega (arith, narrow))

  -- the front of what stands there, where it has no space
  pub word_taken : (len pixels : ℕ) → at + len ≤ length octets → All IsPlain (take len (drop at octets)) → All IsNoSpace (take len (drop at octets)) → HasWidth width_of gap (take len (drop at octets)) pixels
      → line.part.width + pixels ≤ kept.state.limits.width
      → ReadSoFar sign octets (at + len) (steps + 2 * len) (IsFilledFor sign (with_word gap pixels len kept)) × IsFilledRun (with_word gap pixels len kept)
  word_taken len pixels within plain word has narrow =
      let behind = λ (pixels count : ℕ). option_map (with_run_behind kept.state.attributes gap pixels count) in
      let whole = r.is.of.split_is in
      let all = front_of (λ octet. IsPlain octet × IsNoSpace octet) (λ pixels count split. (split ≡ behind pixels count kept.split) × (count ≡ 0 → pixels ≡ 0) × (1 ≤ count → gap ≤ pixels))
      (λ octet one. one.0) (whole ∙ sym (split_none kept.state.attributes gap _) ∙ ap (behind 0 0) (sym whole), λ none. refl, λ some. absurd (omega (arith, some)))
      (λ pixels count octet wide split one is. (
        rw (ne_eqb octet 32 one.1) (ap (behind (gap + wide) 1) is.0 ∙ split_more kept.state.attributes gap pixels count wide kept.split is.1 is.2),
        λ none. absurd (omega (arith, none)),
        λ some. omega arith,
      )) len pixels within (λ k d h. (plain k d h, word k d h)) has narrow in
      subst (λ split. ReadSoFar sign octets (at + len) (steps + 2 * len) (IsFilledFor sign (with_parts pixels len split)) × IsFilledRun (with_parts pixels len split)) all.is.0 (all.read, all.goes_on)

-- a text, of which this is the last space
module _ (sign : SignData) (octets : List ℕ) (at steps : ℕ) (kept : Pass) (r : ReadSoFar sign octets at steps (IsFilledFor sign kept)) (short : length octets < 2 ^ 63) (run : IsFilledRun kept) (gap : ℕ) (runs : IsRun kept.state gap) where
  pub text_taken : (len pixels : ℕ) (space : Option Space) → at + len ≤ length octets → All IsPlain (take len (drop at octets)) → HasWidth (width_in sign kept.state.attributes.font.number) gap (take len (drop at octets)) pixels
      → (line_in_force kept.state).part.width + pixels ≤ kept.state.limits.width → IsLastSpaceOf (width_in sign kept.state.attributes.font.number) gap (take len (drop at octets)) pixels space
      → ReadSoFar sign octets (at + len) (steps + 2 * len) (IsFilledFor sign (with_text gap pixels len space kept)) × IsFilledRun (with_text gap pixels len space kept)
  text_taken len pixels None within plain has narrow none = word_taken sign octets at steps kept r short run gap runs len pixels within plain none has narrow
  text_taken len pixels (Some space) within plain has narrow last =
      let text = take len (drop at octets) in
      let size : length text ≡ len = length-take-le len (drop at octets) (rw (length-drop at octets) (omega (arith, within))) in
      let inside = last.inside in
      let first : take space.at text ≡ take space.at (drop at octets) = take-take space.at len (drop at octets) (omega (arith, inside, size)) in
      let line = line_in_force kept.state in
      let to = at + space.at in
      let front = front_of sign octets at steps kept r short run gap runs IsPlain (λ pixels count split. Unit {0}) (λ octet plain. plain) tt (λ pixels count octet wide split plain is. tt) space.at space.before (omega (arith, inside, size, within))
      (subst (All IsPlain) first (All-take IsPlain space.at text plain)) (subst (λ t. HasWidth (width_in sign kept.state.attributes.font.number) gap t space.before) first last.before) (omega (arith, narrow, last.fits, last.through)) in
      let word : Pass = record { state = lengthened_by space.before space.at kept.state; split = front.split; order = kept.order } in
      let word_runs = run_stays kept.state gap (held (line.part.width + space.before)) (counted (line.part.count + space.at)) runs in
      let room : held (line.part.width + space.before) + (gap + last.width) ≤ kept.state.limits.width = omega (arith, narrow, last.fits, last.through) in
      let here : slice_get octets to ≡ Some 32 = there len at space.at last.here in
      let spaced = one_taken sign octets to (steps + 2 * space.at) word front.read 32 short here (λ e. omega (arith, e), λ e. omega (arith, e)) front.goes_on gap word_runs last.width last.narrow.1 last.cell room in
      let behind = with_one gap last.width true word in
      let goes_on = one_goes_on word front.goes_on gap word_runs last.width room true in
      let behind_runs = run_stays word.state gap (held ((line_in_force word.state).part.width + (gap + last.width))) (counted ((line_in_force word.state).part.count + 1)) word_runs in
      let count = len - (space.at + 1) in
      let rest : take count (drop (to + 1) octets) ≡ drop (space.at + 1) text = rest_of len at space.at (omega (arith, inside, size)) in
      let more = word_taken sign octets (to + 1) (steps + 2 * space.at + 2) behind spaced short goes_on gap behind_runs count (pixels - space.through) (omega (arith, inside, size, within))
      (subst (All IsPlain) (sym rest) (All-drop IsPlain (space.at + 1) text plain)) (subst (All IsNoSpace) (sym rest) last.none)
      (subst (λ t. HasWidth (width_in sign kept.state.attributes.font.number) gap t (pixels - space.through)) (sym rest) last.behind) (omega (arith, narrow, last.fits, last.through)) in
      let wide : space.before + (gap + last.width) + (pixels - space.through) ≡ pixels = omega (arith, last.fits, last.through) in
      let many : space.at + 1 + count ≡ len = omega (arith, inside, size) in
      let state : lengthened_by (pixels - space.through) count behind.state ≡ lengthened_by pixels len kept.state =
      ap (lengthened_by (pixels - space.through) count) (lengthened_more kept.state space.before space.at (gap + last.width) 1)
      ∙ lengthened_more kept.state (space.before + (gap + last.width)) (space.at + 1) (pixels - space.through) count
      ∙ (λ i. lengthened_by (wide i) (many i) kept.state) in
      let kept_is : with_word gap (pixels - space.through) count behind ≡ with_text gap pixels len (Some space) kept = λ i. record (with_text gap pixels len (Some space) kept) { state = state i } in
      let place : to + 1 + count ≡ at + len = omega (arith, inside, size) in
      let taken : steps + 2 * space.at + 2 + 2 * count ≡ steps + 2 * len = omega (arith, inside, size) in (
        subst (λ (x : ℕ × ℕ × Pass). ReadSoFar sign octets x.0 x.1 (IsFilledFor sign x.2)) (λ i. (place i, taken i, kept_is i)) more.0,
        subst IsFilledRun kept_is more.1,
      )
    where
      there : (len at i : ℕ) → slice_get (take len (drop at octets)) i ≡ Some 32 → slice_get octets (at + i) ≡ Some 32
      there len at i e =
          let inside = slice_get_within (take len (drop at octets)) i 32 e in
          sym (get_behind octets at i) ∙ sym (get_front (drop at octets) len i (omega (arith, inside, length-take len (drop at octets)))) ∙ e

      rest_of : (len at i : ℕ) → i < len → take (len - (i + 1)) (drop (at + i + 1) octets) ≡ drop (i + 1) (take len (drop at octets))
      rest_of len at i h =
          let parts : len ≡ i + 1 + (len - (i + 1)) = omega (arith, h) in
          let whole : at + i + 1 ≡ at + (i + 1) = omega arith in
          ap (λ k. take (len - (i + 1)) (drop k octets)) whole
          ∙ ap (take (len - (i + 1))) (sym (drop-drop (i + 1) at octets))
          ∙ sym (drop-take (i + 1) (len - (i + 1)) (drop at octets))
          ∙ ap (λ k. drop (i + 1) (take k (drop at octets))) (sym parts)
