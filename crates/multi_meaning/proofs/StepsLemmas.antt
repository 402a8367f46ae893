-- How many steps judging takes: with one more item, where it ends, and at least and at most.
use Rattle.multi_meaning.proofs.Common.{◌≡◌, ℕ, ◌+◌, ◌-◌, ◌*◌, ◌==◌, ◌≤◌, Bool, true, false, cond, min, nat_lt, Option, List, ◌⊎◌, inl, inr, [], ◌∷◌, ◌++◌, length, map, take, Some, None, Result, Err, refl, sym, ap, subst, ◌∙◌, arith, append_assoc, append-nil, length-append, take_all, sum_by, sum_by_push, eq-eqb, ne_eqb, All, All-nil, All-cons, All-head, All-tail, take-append_seam, IsItem, IsReading, spell, reading, verdict, verdict_on, broken, of_first, pages_of, Accepted, Refused, SignData, Meaning, Shows, Does, meaning, meaning_of_tag, said_by, Faulty, offence, offences, fault_at, tag_of}
use Rattle.std.specs.List.{prefix_len, take_while}
use Rattle.std.proofs.Common.{Ok, eqb-true, length-take}
use Rattle.multi_token.specs.Reading.{Reading, is_plain}
use Rattle.multi_meaning.specs.Verdict.{Verdict}
use Rattle.multi_token.specs.Spelling.{Item, Char, Tag, is_bracket, spelling}
use Rattle.multi_tag.specs.declared.tag.Tag as tag
use Rattle.multi_tag.specs.declared.tag.Tag.TheVariants.{Font, HexChar}
use Rattle.multi_tag.specs.declared.tag.TagFault.{TagFault}
use Rattle.multi_tag.specs.declared.tag.TagFault.TheVariants.{Unsupported, Value}
use Rattle.multi_tag.specs.Body.{Spells}
use Rattle.multi_tag.proofs.AheadLemmas.{body_long, hex_long}
use Rattle.multi_tag.proofs.ShortLemmas.{short_body}
use Rattle.multi_tag.proofs.TagOfLemmas.{tag_of_is_the_table}
use Rattle.multi_token.proofs.SpellingLemmas.{one_reading, reading_begins}
use Rattle.multi_token.proofs.ReadingLemmas.{each_string_has_a_reading}
use Rattle.multi_meaning.specs.Steps.{JudgingIsLinear, TakesLinear, again, fine_front, item_steps, looks, items_steps, judging_steps, rest_steps, steps_on}
use Rattle.multi_meaning.specs.Words.{each_after, some_after}
use Rattle.std.proofs.lemmas.List.Concat.{flat_map-append}
use Rattle.multi_meaning.specs.Laid.{too_big}
use Rattle.multi_meaning.proofs.StandingLemmas.{last_fine, offence-faulty}
use Rattle.multi_meaning.proofs.WordLemmas.{All-split, each_after_push, left_nil, longest_all, longest_push, push_ind, some_after-append}
use Rattle.multi_meaning.proofs.VerdictLemmas.{item_refused, offences_push}

-- one more item
pub items_steps_push : (n : ℕ) (items : List Item) (item : Item) → items_steps n (items ++ item ∷ []) ≡ items_steps n items + item_steps (n - length (spell items)) item
items_steps_push n items item =
    let f = λ (before : List Item) (item : Item). item_steps (n - length (spell before)) item in
    ap (sum_by (λ k. k)) (each_after_push f items item) ∙ sum_by_push (λ k. k) (each_after f items) (f items item)

module _ (sign : SignData) where
  abbrev passes : List Item → Bool
  passes front = length (offences sign front) == 0

  passes_none : (items : List Item) → offences sign items ≡ [] → passes items ≡ true
  passes_none items none = ap (λ l. length l == 0) none

  none_passes : (items : List Item) → passes items ≡ true → offences sign items ≡ []
  none_passes items is = by (offences sign items) is
    where
      by : (faults : List (ℕ × ℕ)) → (length faults == 0) ≡ true → faults ≡ []
      by [] e = refl
      by (fault ∷ faults) e = absurd (omega (arith, eqb-true (length (fault ∷ faults)) 0 e))

  -- all items, where none offends
  pub front_all : (items : List Item) → offences sign items ≡ [] → fine_front sign items ≡ items
  front_all items none = longest_all passes items (passes_none items none)

  module _ (before : List Item) (item : Item) (none : offences sign before ≡ []) (code : ℕ) (offends : offence sign.line_fill sign (map meaning before) (meaning item) ≡ Some code) where
    -- no string with these items passes
    stops : (more : List Item) → passes (before ++ item ∷ more) ≡ false
    stops more = by (passes (before ++ item ∷ more)) refl
      where
        by : (b : Bool) → passes (before ++ item ∷ more) ≡ b → passes (before ++ item ∷ more) ≡ false
        by false e = e
        by true e =
            let whole : before ++ item ∷ more ≡ (before ++ item ∷ []) ++ more = sym (append_assoc before (item ∷ []) more) in
            let all = ap (offences sign) (sym whole) ∙ none_passes (before ++ item ∷ more) e in
            let front = left_nil (some_after (fault_at sign) (before ++ item ∷ [])) _ (sym (some_after-append (fault_at sign) (before ++ item ∷ []) more) ∙ all) in
            let wrong = sym (offences_push sign before item (Some code) none offends) ∙ front in
            absurd cc

    -- the items before the first that offends
    pub front_before : (more : List Item) → fine_front sign (before ++ item ∷ more) ≡ before
    front_before = push_ind (λ more. fine_front sign (before ++ item ∷ more) ≡ before)
        (longest_push passes before item ∙ ap (λ b. cond b (before ++ item ∷ []) (fine_front sign before)) (stops []) ∙ front_all before none)
        (λ more last ih.
        let whole : before ++ item ∷ (more ++ last ∷ []) ≡ (before ++ item ∷ more) ++ last ∷ [] = sym (append_assoc before (item ∷ more) (last ∷ [])) in
        ap (fine_front sign) whole
        ∙ longest_push passes (before ++ item ∷ more) last
        ∙ ap (λ b. cond b ((before ++ item ∷ more) ++ last ∷ []) (fine_front sign (before ++ item ∷ more))) (ap passes (sym whole) ∙ stops (more ++ last ∷ []))
        ∙ ih)

-- where none offends, all items and what is left
pub steps_ended : (sign : SignData) (octets : List ℕ) (items : List Item) (rest : List ℕ) → IsReading octets items rest → offences sign items ≡ [] → judging_steps sign octets ≡ items_steps (length octets) items + rest_steps rest
unfolding judging_steps
steps_ended sign octets items rest read none =
    let (same, left) = one_reading octets (reading octets).items items (reading octets).rest rest (each_string_has_a_reading octets) read in
    let front = front_all sign items none in
    (λ i. steps_on sign (length octets) (same i) (left i))
    ∙ ap (λ (l : List Item). items_steps (length octets) (take (length l + 1) items) + cond (length l == length items) (rest_steps rest) 0) front
    ∙ ap (λ l. items_steps (length octets) l + cond (length items == length items) (rest_steps rest) 0) (take_all (length items + 1) items (omega arith))
    ∙ ap (λ b. items_steps (length octets) items + cond b (rest_steps rest) 0) (eq-eqb (length items) (length items) refl)

-- up to an item that offends, with it
pub steps_offending : (sign : SignData) (before : List Item) (item : Item) (code : ℕ) (rest octets : List ℕ) → All IsItem (before ++ item ∷ []) → offences sign before ≡ [] → offence sign.line_fill sign (map meaning before) (meaning item) ≡ Some code
    → octets ≡ spell (before ++ item ∷ []) ++ rest → judging_steps sign octets ≡ items_steps (length octets) before + item_steps (length octets - length (spell before)) item
unfolding judging_steps
steps_offending sign before item code rest octets each none offends is =
    let r = each_string_has_a_reading octets in
    let (more, all, behind) = reading_begins (before ++ item ∷ []) (reading octets).items rest (reading octets).rest each r.each r.ends (sym is ∙ r.spelled) in
    let items : (reading octets).items ≡ before ++ item ∷ more = all ∙ append_assoc before (item ∷ []) more in
    let n = length octets in
    let longer : length before + 1 ≡ length (before ++ item ∷ []) = sym (length-append before (item ∷ [])) in
    let front : take (length before + 1) (before ++ item ∷ more) ≡ before ++ item ∷ [] = ap (λ k. take k (before ++ item ∷ more)) longer ∙ ap (take (length (before ++ item ∷ []))) (sym (append_assoc before (item ∷ []) more)) ∙ take-append_seam (before ++ item ∷ []) more in
    let short : (length before == length (before ++ item ∷ more)) ≡ false = ne_eqb (length before) (length (before ++ item ∷ more)) (λ e. omega (arith, e, length-append before (item ∷ more))) in
    ap (λ l. steps_on sign n l (reading octets).rest) items
    ∙ ap (λ (l : List Item). items_steps n (take (length l + 1) (before ++ item ∷ more)) + cond (length l == length (before ++ item ∷ more)) (rest_steps (reading octets).rest) 0) (front_before sign before item none code offends more)
    ∙ (λ i. items_steps n (front i) + cond (short i) (rest_steps (reading octets).rest) 0)
    ∙ ap (λ k. k + 0) (items_steps_push n before item)
    ∙ omega arith

-- BOUNDS

-- a tag that has a value is judged by few looks
looks_of : (said : tag.Tag) → looks (said_by said) ≤ 8
looks_of (HexChar number) = by (nat_lt number 256)
  where
    by : (b : Bool) → cond b 1 8 ≤ 8
    by true = omega arith
    by false = omega arith
looks_of (Font None) = omega arith
looks_of (Font (Some pick)) = omega arith
looks_of _ = omega arith

looks_few : (said : tag.Tag) → ((number : ℕ) → said ≡ HexChar number → ⊥) → looks (said_by said) ≤ 1
looks_few (HexChar number) other = absurd (other number refl)
looks_few (Font None) other = omega arith
looks_few (Font (Some pick)) other = omega arith
looks_few _ other = omega arith

-- and it isn't at fault
pub never_again : (said : tag.Tag) (body : List ℕ) → again (said_by said) body ≡ 0
never_again (HexChar number) body = refl
never_again _ body = refl

-- any item is judged by few looks, and any tag is read once more at most
pub looks_most : (means : Meaning) → looks means ≤ 8
looks_most (Shows number) = by (nat_lt number 256)
  where
    by : (b : Bool) → cond b 1 8 ≤ 8
    by true = omega arith
    by false = omega arith
looks_most (Does (Font (Some pick))) = omega arith
looks_most _ = omega arith

pub looks_tag : (said : tag.Tag) → looks (Does said) ≤ 1
looks_tag (Font (Some pick)) = omega arith
looks_tag _ = omega arith

again_most : (means : Meaning) (body : List ℕ) → again means body ≤ length body + 4
again_most (Faulty code) body = omega arith
again_most _ body = omega arith

-- an item takes few steps more than it has octets, and so does what is left
pub item_most : (left : ℕ) (item : Item) → item_steps left item ≤ 41 + length (spelling item)
item_most left (Char number) = by (is_bracket number)
  where
    by : (b : Bool) → cond b 4 2 ≤ 41 + length (cond b (number ∷ number ∷ []) (number ∷ []))
    by true = omega arith
    by false = omega arith
item_most left (Tag body) = omega (arith, again_most (meaning (Tag body)) body, looks_most (meaning (Tag body)), length-append body (93 ∷ []))

pub rest_most : (rest : List ℕ) → rest_steps rest ≤ 30 + length rest
rest_most [] = omega arith
rest_most (bracket ∷ behind) = by (bracket == 91)
  where
    by : (b : Bool) → cond b (3 + min 26 (length behind) + (length (take_while is_plain behind) + 1)) 3 ≤ 30 + length (bracket ∷ behind)
    by true = omega (arith, length-take (prefix_len is_plain behind) behind)
    by false = omega arith

-- an item that isn't at fault takes as many steps as it has octets at least, and nine for each at most
module _ (left : ℕ) where
  tag_bounds : (body : List ℕ) (said : tag.Tag) → Spells body said → length body + 2 ≤ left
      → (length body + 2 ≤ 3 + min 26 (left - 1) + again (said_by said) body + looks (said_by said)) × (3 + min 26 (left - 1) + again (said_by said) body + looks (said_by said) ≤ 9 * (length body + 2))
  tag_bounds body (HexChar number) spells there =
      (omega (arith, (short_body body (HexChar number) spells).few), omega (arith, looks_of (HexChar number), hex_long body number spells))
  tag_bounds body said spells there = grind (arith, short_body, body_long, looks_few, never_again)

  pub item_bounds : (item : Item) → IsItem item → ((code : ℕ) → meaning item ≡ Faulty code → ⊥) → length (spelling item) ≤ left → (length (spelling item) ≤ item_steps left item) × (item_steps left item ≤ 9 * length (spelling item))
  item_bounds (Char number) is sound there = by (is_bracket number)
    where
      by : (b : Bool) → (length (cond b (number ∷ number ∷ []) (number ∷ [])) ≤ cond b 4 2) × (cond b 4 2 ≤ 9 * length (cond b (number ∷ number ∷ []) (number ∷ [])))
      by true = (omega arith, omega arith)
      by false = (omega arith, omega arith)
  item_bounds (Tag body) is sound there = by (tag_of body) refl
    where
      by : (result : Result tag.Tag TagFault) → tag_of body ≡ result
          → (length (spelling (Tag body)) ≤ item_steps left (Tag body)) × (item_steps left (Tag body) ≤ 9 * length (spelling (Tag body)))
      by (Err Unsupported) e = absurd (sound 3 (ap meaning_of_tag e))
      by (Err Value) e = absurd (sound 4 (ap meaning_of_tag e))
      by (Ok read) e =
          let bounds = tag_bounds body read (((tag_of_is_the_table body).0 read).1 e) (omega (arith, there, length-append body (93 ∷ []))) in
          omega (arith, bounds, ap (λ m. again (meaning_of_tag m) body) e, ap (λ m. looks (meaning_of_tag m)) e, length-append body (93 ∷ []))

-- an item that doesn't offend isn't at fault
fine_item : (sign : SignData) (items : List Item) (item : Item) (code : ℕ) → offence sign.line_fill sign (map meaning items) (meaning item) ≡ None → meaning item ≡ Faulty code → ⊥
fine_item sign items item code fine faulty = absurd (let wrong : ◌≡◌ {A = Option ℕ} (Some code) None = sym (offence-faulty (too_big sign.line_fill) sign (map meaning items) code) ∙ ap (offence sign.line_fill sign (map meaning items)) (sym faulty) ∙ fine in cc)

-- so do items none of which offends, in all
pub items_bounds : (sign : SignData) (n : ℕ) (items : List Item) → All IsItem items → offences sign items ≡ [] → length (spell items) ≤ n
    → (length (spell items) ≤ items_steps n items) × (items_steps n items ≤ 9 * length (spell items))
items_bounds sign n = push_ind (λ items. All IsItem items → offences sign items ≡ [] → length (spell items) ≤ n → (length (spell items) ≤ items_steps n items) × (items_steps n items ≤ 9 * length (spell items)))
    (λ each none there. (omega arith, omega arith))
    (λ items item ih each none there.
    let (before, is) = All-split IsItem items item each in
    let size : length (spell (items ++ item ∷ [])) ≡ length (spell items) + length (spelling item) = ap length (flat_map-append spelling items (item ∷ []) ∙ ap (λ l. spell items ++ l) (append-nil (spelling item))) ∙ length-append (spell items) (spelling item) in
    let (none', fine) = last_fine sign items item none in
    let front = ih before none' (omega (arith, there, size)) in
    let one = item_bounds (n - length (spell items)) item is (λ code. fine_item sign items item code fine) (omega (arith, there, size)) in
    let more = items_steps_push n items item in
    (omega (arith, size, front.0, one.0, more), omega (arith, size, front.1, one.1, more)))

-- THE LAW

-- an item of a whole string takes nine steps for each octet from it on at most
any_item : (left : ℕ) (item : Item) → IsItem item → length (spelling item) ≤ left → item_steps left item ≤ 9 * left
any_item left (Char number) is there = by (is_bracket number) there
  where
    by : (b : Bool) → length (cond b (number ∷ number ∷ []) (number ∷ [])) ≤ left → cond b 4 2 ≤ 9 * left
    by true h = omega (arith, h)
    by false h = omega (arith, h)
any_item left (Tag body) is there = by (tag_of body) refl
  where
    size : length (spelling (Tag body)) ≡ length body + 2
    size = omega (arith, length-append body (93 ∷ []))

    faulty : (code : ℕ) → meaning (Tag body) ≡ Faulty code → item_steps left (Tag body) ≤ 9 * left
    faulty code e = omega (arith, size, there, ap (λ m. again m body) e, ap looks e)

    by : (result : Result tag.Tag TagFault) → tag_of body ≡ result → item_steps left (Tag body) ≤ 9 * left
    by (Err Unsupported) e = faulty 3 (ap meaning_of_tag e)
    by (Err Value) e = faulty 4 (ap meaning_of_tag e)
    by (Ok read) e =
        let bounds = tag_bounds left body read (((tag_of_is_the_table body).0 read).1 e) (omega (arith, size, there)) in
        omega (arith, bounds, size, there, ap (λ m. again (meaning_of_tag m) body) e, ap (λ m. looks (meaning_of_tag m)) e)

rest_nine : (rest : List ℕ) → rest_steps rest ≤ 9 * length rest + 1
rest_nine [] = omega arith
rest_nine (bracket ∷ behind) = by (bracket == 91)
  where
    by : (b : Bool) → cond b (3 + min 26 (length behind) + (length (take_while is_plain behind) + 1)) 3 ≤ 9 * length (bracket ∷ behind) + 1
    by true = omega (arith, length-take (prefix_len is_plain behind) behind)
    by false = omega arith

-- no item takes less than two
two_or_more : (left : ℕ) (item : Item) → 2 ≤ item_steps left item
two_or_more left (Char number) = by (is_bracket number)
  where
    by : (b : Bool) → 2 ≤ cond b 4 2
    by true = omega arith
    by false = omega arith
two_or_more left (Tag body) = omega arith

rest_some : (rest : List ℕ) → 1 ≤ rest_steps rest
rest_some [] = omega arith
rest_some (bracket ∷ behind) = by (bracket == 91)
  where
    by : (b : Bool) → 1 ≤ cond b (3 + min 26 (length behind) + (length (take_while is_plain behind) + 1)) 3
    by true = omega arith
    by false = omega arith

-- each of a front
pub All-split-at : {X : Type 0} (P : X → Type 0) (xs ys : List X) → All P (xs ++ ys) → All P xs
All-split-at P [] ys h = All-nil P
All-split-at P (x ∷ xs) ys h = All-cons P x xs (All-head P x (xs ++ ys) h) (All-split-at P xs ys (All-tail P x (xs ++ ys) h))

-- the first item that offends, if one does
pub record Offends (sign : SignData) (items : List Item) : Type 0 where
  pub before : List Item
  pub item : Item
  pub more : List Item
  pub parts : items ≡ before ++ item ∷ more
  pub none : offences sign before ≡ []
  pub code : ℕ
  pub offends : offence sign.line_fill sign (map meaning before) (meaning item) ≡ Some code

pub first_offence : (sign : SignData) (items : List Item) → (offences sign items ≡ []) ⊎ Offends sign items
first_offence sign = push_ind (λ items. (offences sign items ≡ []) ⊎ Offends sign items) (inl refl) (λ items item ih. elim ih [
  | inl none ↦ by items item none (offence sign.line_fill sign (map meaning items) (meaning item)) refl
  | inr found ↦ inr (record {
    before = found.before;
    item = found.item;
    more = found.more ++ item ∷ [];
    parts = ap (λ l. l ++ item ∷ []) found.parts ∙ append_assoc found.before (found.item ∷ found.more) (item ∷ []);
    none = found.none;
    code = found.code;
    offends = found.offends;
  })
])
  where
    by : (items : List Item) (item : Item) → offences sign items ≡ [] → (o : Option ℕ) → offence sign.line_fill sign (map meaning items) (meaning item) ≡ o
        → (offences sign (items ++ item ∷ []) ≡ []) ⊎ Offends sign (items ++ item ∷ [])
    by items item none None e = inl (offences_push sign items item None none e)
    by items item none (Some code) e = inr (record { before = items; item = item; more = []; parts = refl; none = none; code = code; offends = e })

module _ (sign : SignData) (octets : List ℕ) where
  abbrev r : Reading
  r = reading octets

  is_reading : IsReading octets r.items r.rest
  is_reading = each_string_has_a_reading octets

  size : length octets ≡ length (spell r.items) + length r.rest
  size = ap length is_reading.spelled ∙ length-append (spell r.items) r.rest

  ended : offences sign r.items ≡ [] → TakesLinear sign octets
  unfolding verdict verdict_on
  ended none =
      let steps = steps_ended sign octets r.items r.rest is_reading none in
      let bounds = items_bounds sign (length octets) r.items is_reading.each none (omega (arith, size)) in
      record {
        most = omega (arith, steps, bounds, size, rest_nine r.rest);
        accepted = λ pages is. omega (arith, steps, bounds, size, whole r.rest none is);
        refused = λ code at is. omega (arith, steps, bounds, rest_some r.rest, broken_at r.rest none is);
      }
    where
      whole : (rest : List ℕ) → offences sign r.items ≡ [] → {pages : ℕ} → verdict_on sign r.items rest ≡ Accepted pages → length rest + 1 ≤ rest_steps rest
      whole [] none is = omega arith
      whole (octet ∷ rest) none is = absurd (let wrong = sym (ap (λ l. of_first (pages_of (map meaning r.items)) (l ++ broken r.items (octet ∷ rest))) none) ∙ is in cc)

      broken_at : (rest : List ℕ) → offences sign r.items ≡ [] → {code at : ℕ} → verdict_on sign r.items rest ≡ Refused code at → at ≤ length (spell r.items)
      broken_at [] none is = absurd (let wrong = sym (ap (λ l. of_first (pages_of (map meaning r.items)) (l ++ broken r.items [])) none) ∙ is in cc)
      broken_at (octet ∷ rest) none {code} {at} is =
          let same : ◌≡◌ {A = Verdict} (Refused 3 (length (spell r.items))) (Refused code at) = sym (ap (λ l. of_first (pages_of (map meaning r.items)) (l ++ broken r.items (octet ∷ rest))) none) ∙ is in
          let place : length (spell r.items) ≡ at = cc in
          omega (arith, place)

  offending : Offends sign r.items → TakesLinear sign octets
  offending o =
      let upto = o.before ++ o.item ∷ [] in
      let parts : r.items ≡ upto ++ o.more = o.parts ∙ sym (append_assoc o.before (o.item ∷ []) o.more) in
      let rest = spell o.more ++ r.rest in
      let spelled : octets ≡ spell upto ++ rest = is_reading.spelled ∙ ap (λ l. spell l ++ r.rest) parts ∙ ap (λ l. l ++ r.rest) (flat_map-append spelling upto o.more) ∙ append_assoc (spell upto) (spell o.more) r.rest in
      let each : All IsItem upto = (All-split-at IsItem upto o.more (subst (All IsItem) parts is_reading.each)) in
      let (before, is) = All-split IsItem o.before o.item each in
      let front : length (spell upto) ≡ length (spell o.before) + length (spelling o.item) = ap length (flat_map-append spelling o.before (o.item ∷ []) ∙ ap (λ l. spell o.before ++ l) (append-nil (spelling o.item))) ∙ length-append (spell o.before) (spelling o.item) in
      let whole : length octets ≡ length (spell upto) + length rest = ap length spelled ∙ length-append (spell upto) rest in
      let left = length octets - length (spell o.before) in
      let steps = steps_offending sign o.before o.item o.code rest octets each o.none o.offends spelled in
      let bounds = items_bounds sign (length octets) o.before before o.none (omega (arith, whole, front)) in
      let verdict_is = ap (verdict sign) spelled ∙ item_refused sign o.before o.item o.code rest each o.none o.offends in
      record {
        most = omega (arith, steps, bounds, any_item left o.item is (omega (arith, whole, front)), whole, front);
        accepted = λ pages accepts. absurd (let wrong = sym verdict_is ∙ accepts in cc);
        refused = λ code at refuses.
            let same : ◌≡◌ {A = Verdict} (Refused o.code (length (spell o.before))) (Refused code at) = sym verdict_is ∙ refuses in
            let place : length (spell o.before) ≡ at = cc in
            omega (arith, place, steps, bounds, two_or_more left o.item);
      }

pub judging_is_linear : JudgingIsLinear
judging_is_linear sign octets = elim (first_offence sign (reading octets).items) [
  | inl none ↦ ended sign octets none
  | inr found ↦ offending sign octets found
]
