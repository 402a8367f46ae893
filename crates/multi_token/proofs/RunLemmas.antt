-- Runs: one octet more, where a run ends, and its last space.
use Rattle.std.proofs.Common.{rules, refl, true, false, ◌≡◌, ℕ, ◌+◌, ◌-◌, ◌<◌, ◌≤◌, List, [], ◌∷◌, length, get_or, take, drop, inl, inr, Option, Some, None, sym, ap, subst, ◌∙◌, arith}
use Rattle.std.specs.Prelude.{slice_get}
use Rattle.std.specs.List.{All}
use Rattle.std.proofs.lemmas.List.{length-take-le, length-take, length-drop, get_or-take, get_or-drop, take_more, take-take, drop_all, drop-append-le}
use Rattle.std.proofs.lemmas.Bool.{cases_lt}
use Rattle.std.proofs.lemmas.List.Elements.{All-more, All-nil, All-push}
use Rattle.std.proofs.lemmas.List.Sums.{sum_by_push, sum_by-take-le}
use Rattle.std.proofs.lemmas.Option.{slice_get-get_or, slice_get_past, slice_get_within}
use Rattle.multi_token.specs.declared.source.Space.{Space}
use Rattle.multi_token.specs.Spelling.{IsPlain, is_bracket}
use Rattle.multi_token.specs.Tokens.{IsEndedBy}
use Rattle.multi_token.specs.Run.{IsLastSpace, IsNoSpace, IsRun, taken}

-- the number of pixels of an octet with its gap
abbrev pub advance : List ℕ → ℕ → ℕ → ℕ
advance table gap octet = gap + get_or table octet 0

-- one octet more
pub taken_more : (table : List ℕ) (gap : ℕ) (octets : List ℕ) (len : ℕ) → len < length octets → taken table gap (take (len + 1) octets) ≡ taken table gap (take len octets) + (gap + get_or table (get_or octets len 0) 0)
taken_more table gap octets len short =
    ap (taken table gap) (take_more octets len 0 short) ∙ sum_by_push (advance table gap) (take len octets) (get_or octets len 0)

-- more octets take no less
pub taken_grows : (table : List ℕ) (gap : ℕ) (octets : List ℕ) (i j : ℕ) → i ≤ j → taken table gap (take i octets) ≤ taken table gap (take j octets)
taken_grows table gap octets i j h = rw (← take-take i j octets h) (sum_by-take-le (advance table gap) (take j octets) i)

-- a front of octets that goes into the room leaves so much of it
pub record Front (table : List ℕ) (gap room : ℕ) (octets : List ℕ) (len left : ℕ) : Type 0 where
  pub within : len ≤ length octets
  pub left_is : taken table gap (take len octets) + left ≡ room

module _ {table : List ℕ} {gap room : ℕ} {octets : List ℕ} {len left : ℕ} (f : Front table gap room octets len left) where
  -- one octet more
  pub front_more : (next rest : ℕ) → next ≡ len + 1 → len < length octets → rest + (gap + get_or table (get_or octets len 0) 0) ≡ left → Front table gap room octets next rest
  front_more next rest next_is short is = record {
    within = omega (arith, next_is, short);
    left_is = omega (arith, taken_more table gap octets len short, ap (λ n. taken table gap (take n octets)) next_is, f.left_is, is);
  }

  -- it is a run where one octet more does not go into the room
  pub front_ended : len < length octets → left < gap + get_or table (get_or octets len 0) 0 → IsRun table gap room octets len
  front_ended short over = record {
    within = omega (arith, short);
    fits = omega (arith, f.left_is);
    longest = λ longer more within. omega (arith, taken_more table gap octets len short, taken_grows table gap octets (len + 1) longer (omega arith), f.left_is, over);
  }

  -- and where there is none
  pub front_whole : length octets ≤ len → IsRun table gap room octets len
  front_whole end = record {
    within = f.within;
    fits = omega (arith, f.left_is);
    longest = λ longer more within. absurd (omega (arith, end, more, within));
  }

  pub front_width : room - left ≡ taken table gap (take len octets)
  front_width = omega (arith, f.left_is)

-- what stands after an offset
pub get_behind : (octets : List ℕ) (from at : ℕ) → slice_get (drop from octets) at ≡ slice_get octets (from + at)
get_behind octets from at = elim (cases_lt (from + at) (length octets)) [
  | inl within ↦
      slice_get-get_or (drop from octets) at 0 (omega (arith, within, length-drop from octets))
      ∙ ap Some (get_or-drop from octets at 0)
      ∙ sym (slice_get-get_or octets (from + at) 0 within)
  | inr past ↦ slice_get_past (drop from octets) at (omega (arith, past, length-drop from octets)) ∙ sym (slice_get_past octets (from + at) past)
]

-- what stands in a front
pub get_front : (octets : List ℕ) (len at : ℕ) → at < len → slice_get (take len octets) at ≡ slice_get octets at
get_front octets len at before = elim (cases_lt at (length octets)) [
  | inl within ↦
      slice_get-get_or (take len octets) at 0 (omega (arith, within, before, length-take len octets))
      ∙ ap Some (get_or-take len octets at 0 before)
      ∙ sym (slice_get-get_or octets at 0 within)
  | inr past ↦ slice_get_past (take len octets) at (omega (arith, past, length-take len octets)) ∙ sym (slice_get_past octets at past)
]

-- the last space of a front with one octet more
module _ (table : List ℕ) (gap : ℕ) (octets : List ℕ) (len : ℕ) (short : len < length octets) where
  -- it is that octet
  pub space_here : get_or octets len 0 ≡ 32 → (before through : ℕ) → before ≡ taken table gap (take len octets) → through ≡ before + (gap + get_or table (get_or octets len 0) 0)
      → IsLastSpace table gap (take (len + 1) octets) (Some (record { at = len; before = before; through = through }))
  space_here is before through before_is through_is =
      let long : length (take (len + 1) octets) ≡ len + 1 = length-take-le (len + 1) octets (omega (arith, short)) in (
        get_front octets (len + 1) len (omega arith) ∙ slice_get-get_or octets len 0 short ∙ ap Some is,
        subst (All IsNoSpace) (sym (drop_all (len + 1) (take (len + 1) octets) (omega (arith, long)))) (All-nil IsNoSpace),
        before_is ∙ ap (taken table gap) (sym (take-take len (len + 1) octets (omega arith))),
        (omega (arith, through_is, before_is, taken_more table gap octets len short)) ∙ ap (taken table gap) (sym (take-take (len + 1) (len + 1) octets (omega arith))),
      )

  -- it stays where that is no space
  pub space_stays : (IsNoSpace (get_or octets len 0)) → (space : Option Space) → IsLastSpace table gap (take len octets) space → IsLastSpace table gap (take (len + 1) octets) space
  space_stays other None none = rw (take_more octets len 0 short) (All-push IsNoSpace (take len octets) (get_or octets len 0) none other)
  space_stays other (Some space) (here, none, before, through) =
      let inside = slice_get_within (take len octets) space.at 32 here in
      let within : space.at < len = omega (arith, inside, length-take len octets) in
      let more = take_more octets len 0 short in (
        get_front octets (len + 1) space.at (omega (arith, within)) ∙ sym (get_front octets len space.at within) ∙ here,
        subst (All IsNoSpace)
            (sym (ap (drop (space.at + 1)) more ∙ drop-append-le (space.at + 1) (take len octets) (get_or octets len 0 ∷ []) (omega (arith, inside))))
            (All-push IsNoSpace (drop (space.at + 1) (take len octets)) (get_or octets len 0) none other),
        before ∙ ap (taken table gap) (take-take space.at len octets (omega (arith, within)) ∙ sym (take-take space.at (len + 1) octets (omega (arith, within)))),
        through
            ∙ ap (taken table gap) (take-take (space.at + 1) len octets (omega (arith, within)) ∙ sym (take-take (space.at + 1) (len + 1) octets (omega (arith, within)))),
      )

-- octets without brackets, and the next octet
module _ (octets : List ℕ) (len : ℕ) (short : len < length octets) where
  -- octets without brackets have one more
  pub plain_more : (next : ℕ) → next ≡ len + 1 → is_bracket (get_or octets len 0) ≡ false → All IsPlain (take len octets) → All IsPlain (take next octets)
  plain_more next is none plain = rw is (All-more IsPlain octets len 0 short plain (search rules))

  -- a bracket ends them
  pub ended_here : is_bracket (get_or octets len 0) ≡ true → IsEndedBy octets len (slice_get octets len)
  ended_here bracket = (refl, rw (slice_get-get_or octets len 0 short) (search rules))

-- the end ends octets without brackets
pub ended_past : (octets : List ℕ) (len : ℕ) → length octets ≤ len → IsEndedBy octets len (slice_get octets len)
ended_past octets len long = (refl, rw (slice_get_past octets len long) tt)
