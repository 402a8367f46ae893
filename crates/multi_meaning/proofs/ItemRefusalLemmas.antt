-- A refusal for an item is that of every string with the same octets up to the end of that item.
use Rattle.multi_meaning.proofs.Common.{◌≡◌, ℕ, List, [], ◌∷◌, ◌++◌, map, length, take, drop, refl, sym, ap, subst, ◌∙◌, inl, inr, append_assoc, append-nil, take-append_seam, All, IsItem, Item, SignData, reading, spell, meaning, pages_of, of_first, broken, offences, verdict, verdict_on, Refused}
use Rattle.std.proofs.Math.Seq.{drop-append_seam}
use Rattle.std.proofs.lemmas.List.Concat.{flat_map-append}
use Rattle.multi_token.specs.Spelling.{BeginsWith, IsReading, spelling}
use Rattle.multi_token.proofs.SpellingLemmas.{one_item_begins}
use Rattle.multi_token.proofs.ReadingLemmas.{each_string_has_a_reading}
use Rattle.multi_meaning.specs.Verdict.{ItemRefusalStands, Verdict}
use Rattle.multi_meaning.proofs.StepsLemmas.{All-split-at, Offends, first_offence}
use Rattle.multi_meaning.proofs.VerdictLemmas.{item_refused}
use Rattle.multi_meaning.proofs.WordLemmas.{All-split}

-- the items before one and its octets, in a string
spell_one : (before : List Item) (item : Item) → spell (before ++ item ∷ []) ≡ spell before ++ spelling item
spell_one before item = flat_map-append spelling before (item ∷ []) ∙ ap (λ l. spell before ++ l) (append-nil (spelling item))

module _ (sign : SignData) (octets : List ℕ) (code at : ℕ) (refused : verdict sign octets ≡ Refused code at) (item : Item) (rest more : List ℕ) (begins : BeginsWith (drop at octets) item rest) where
  is_reading : IsReading octets (reading octets).items (reading octets).rest
  is_reading = each_string_has_a_reading octets

  -- no refusal for a broken bracket is one for an item
  ended : offences sign (reading octets).items ≡ [] → ⊥
  unfolding verdict verdict_on
  ended none = by (reading octets).rest refl
    where
      by : (left : List ℕ) → (reading octets).rest ≡ left → ⊥
      by [] e = let wrong = sym (ap (λ l. of_first (pages_of (map meaning (reading octets).items)) (l ++ broken (reading octets).items (reading octets).rest)) none ∙ ap (λ l. of_first (pages_of (map meaning (reading octets).items)) (broken (reading octets).items l)) e) ∙ refused in cc
      by (octet ∷ left) e =
          let same : ◌≡◌ {A = Verdict} (Refused 3 (length (spell (reading octets).items))) (Refused code at) =
          sym (ap (λ l. of_first (pages_of (map meaning (reading octets).items)) (l ++ broken (reading octets).items (reading octets).rest)) none ∙ ap (λ l. of_first (pages_of (map meaning (reading octets).items)) (broken (reading octets).items l)) e) ∙ refused in
          let place : length (spell (reading octets).items) ≡ at = cc in
          let behind : drop at octets ≡ (reading octets).rest = ap (λ k. drop k octets) (sym place) ∙ ap (drop (length (spell (reading octets).items))) is_reading.spelled ∙ drop-append_seam (spell (reading octets).items) (reading octets).rest in
          is_reading.ends item rest (begins.0, sym behind ∙ begins.1)

  offending : Offends sign (reading octets).items → verdict sign (take at octets ++ (spelling item ++ more)) ≡ Refused code at
  offending o =
      let upto = o.before ++ o.item ∷ [] in
      let behind = spell o.more ++ (reading octets).rest in
      let parts : (reading octets).items ≡ upto ++ o.more = o.parts ∙ sym (append_assoc o.before (o.item ∷ []) o.more) in
      let each : All IsItem upto = All-split-at IsItem upto o.more (subst (All IsItem) parts is_reading.each) in
      let (before, is) = All-split IsItem o.before o.item each in
      let spelled : octets ≡ spell upto ++ behind = is_reading.spelled ∙ ap (λ l. spell l ++ (reading octets).rest) parts ∙ ap (λ l. l ++ (reading octets).rest) (flat_map-append spelling upto o.more) ∙ append_assoc (spell upto) (spell o.more) (reading octets).rest in
      let whole : octets ≡ spell o.before ++ (spelling o.item ++ behind) = spelled ∙ ap (λ l. l ++ behind) (spell_one o.before o.item) ∙ append_assoc (spell o.before) (spelling o.item) behind in
      let stands = λ (rest : List ℕ). item_refused sign o.before o.item o.code rest each o.none o.offends in
      let same : ◌≡◌ {A = Verdict} (Refused o.code (length (spell o.before))) (Refused code at) = sym (ap (verdict sign) spelled ∙ stands behind) ∙ refused in
      let place : length (spell o.before) ≡ at = cc in
      let front : take at octets ≡ spell o.before = ap (λ k. take k octets) (sym place) ∙ ap (take (length (spell o.before))) whole ∙ take-append_seam (spell o.before) (spelling o.item ++ behind) in
      let here : drop at octets ≡ spelling o.item ++ behind = ap (λ k. drop k octets) (sym place) ∙ ap (drop (length (spell o.before))) whole ∙ drop-append_seam (spell o.before) (spelling o.item ++ behind) in
      let (item_is, _) = one_item_begins o.item item behind rest is begins.0 (sym here ∙ begins.1) in
      let alike : take at octets ++ (spelling item ++ more) ≡ spell upto ++ more =
      ap (λ l. l ++ (spelling item ++ more)) front ∙ sym (append_assoc (spell o.before) (spelling item) more) ∙ ap (λ (i : Item). (spell o.before ++ spelling i) ++ more) (sym item_is) ∙ ap (λ l. l ++ more) (sym (spell_one o.before o.item))
      in
      ap (verdict sign) alike ∙ stands more ∙ same

pub item_refusal_stands : ItemRefusalStands
item_refusal_stands sign octets code at refused item rest more begins = elim (first_offence sign (reading octets).items) [
  | inl none ↦ absurd (ended sign octets code at refused item rest more begins none)
  | inr found ↦ offending sign octets code at refused item rest more begins found
]
