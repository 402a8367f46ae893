-- A line, its first field, and what is left after it.
use Rattle.std.proofs.Common.{◌≡◌, ℕ, ◌-◌, ◌≤◌, length, take, drop, arith, slice_index_or, Bool, true, false, List, [], ◌∷◌, ◌++◌, Option, None, Some, inl, inr, refl, sym, ap, ◌∙◌, append-nil}
use Rattle.std.specs.Prelude.{◌==◌, ◌⊎◌, not}
use Rattle.std.specs.List.{list_all}
use Rattle.std.proofs.lemmas.Bool.{and_parts, cases_Bool, eqb-true}
use Rattle.std.proofs.lemmas.List.{take_rest}
use Rattle.sign_script.specs.Fields.{◌>>=◌, is_ended, left, parted}
use Rattle.sign_script.specs.Spelling.{AreFields, Field, Hex, IsField, Name, Number, Octets, Text}

-- what is left of a line, with the space before it
abbrev pub tail : Option (List ℕ) → List ℕ
tail None = []
tail (Some text) = 32 ∷ text

pub tail_some : (rest : Option (List ℕ)) (text : List ℕ) → tail rest ≡ 32 ∷ text → rest ≡ Some text
tail_some None text is = cc
tail_some (Some t) text is = cc

pub tail_none : (rest : Option (List ℕ)) → tail rest ≡ [] → rest ≡ None
tail_none None is = refl
tail_none (Some t) is = cc

-- what begins with a space, or isn't written, is what is left after the space, with the space before it
pub tail_left : (rest : List ℕ) → is_ended rest ≡ true → rest ≡ tail (left rest)
tail_left [] ended = refl
tail_left (c ∷ cs) ended = ap (λ (n : ℕ). n ∷ cs) (eqb-true c 32 ended)

pub left_some : (rest : List ℕ) → 1 ≤ length rest → Some (take (length rest - 1) (drop 1 rest)) ≡ left rest
left_some [] some = absurd (omega (arith, some))
left_some (c ∷ cs) some = ap (λ (l : List ℕ). let o : Option (List ℕ) = Some l in o) (take_rest (c ∷ cs) 1)

pub tail_ended : (rest : Option (List ℕ)) → is_ended (tail rest) ≡ true
tail_ended None = refl
tail_ended (Some text) = refl

-- a text is its first field and what is left after it
pub parted_parts : (text : List ℕ) → text ≡ (parted text).field ++ tail (parted text).rest
unfolding parted
parted_parts [] = refl
parted_parts (c ∷ cs) =
    elim (cases_Bool (c == 32)) [
      | inl is ↦ rw is (ap (λ (n : ℕ). n ∷ cs) (eqb-true c 32 is))
      | inr differs ↦ rw differs (ap (λ (l : List ℕ). c ∷ l) (parted_parts cs))
    ]

abbrev pub has_no_space : List ℕ → Bool
has_no_space w = list_all (λ c. not (c == 32)) w

other : (c : ℕ) → not (c == 32) ≡ true → (c == 32) ≡ false
other c h = elim (cases_Bool (c == 32)) [
  | inl is ↦ cc
  | inr differs ↦ differs
]

-- a word without a space is the first field
pub parted_word : (w : List ℕ) (rest : Option (List ℕ)) → has_no_space w ≡ true → parted (w ++ tail rest) ≡ record { field = w; rest = rest }
unfolding parted
parted_word [] None h = refl
parted_word [] (Some text) h = refl
parted_word (c ∷ cs) rest h =
    let parts = and_parts (not (c == 32)) (has_no_space cs) h in
    rw (other c parts.0, parted_word cs rest parts.1) refl

-- octets without a space belong to the first field
pub parted_after : (w rest : List ℕ) → has_no_space w ≡ true → parted (w ++ rest) ≡ record { field = w ++ (parted rest).field; rest = (parted rest).rest }
unfolding parted
parted_after [] rest h = refl
parted_after (c ∷ cs) rest h =
    let parts = and_parts (not (c == 32)) (has_no_space cs) h in
    rw (other c parts.0, parted_after cs rest parts.1) refl

pub parted_ended : (rest : List ℕ) → is_ended rest ≡ true → parted rest ≡ record { field = []; rest = left rest }
unfolding parted
parted_ended [] ended = refl
parted_ended (c ∷ cs) ended = rw ended refl

pub parted_more : (rest : List ℕ) → is_ended rest ≡ false → (more : List ℕ) × ((parted rest).field ≡ slice_index_or rest 0 0 ∷ more)
unfolding parted
parted_more [] more = cc
parted_more (c ∷ cs) more = ((parted cs).field, rw more refl)

-- a field begins with a space, or isn't written
field_starts : (field : Field) (part : List ℕ) → IsField field part → ((text : List ℕ) × (part ≡ 32 ∷ text)) ⊎ (part ≡ [])
field_starts (Number most n) part h = inl (h.0, h.2)
field_starts (Name w) part h = inl (w, h)
field_starts (Octets count octets) part h = inl (h.0, h.2)
field_starts (Text octets) part (inl is) = inl (octets, is)
field_starts (Text octets) part (inr none) = inr none.0
field_starts (Hex octets) part (inl is) = inl (is.0, is.2)
field_starts (Hex octets) part (inr none) = inr none.0

-- fields begin with a space, or aren't written
pub fields_tail : (fields : List Field) (parts : List ℕ) → AreFields fields parts → (rest : Option (List ℕ)) × (parts ≡ tail rest)
fields_tail [] parts h = (None, h)
fields_tail (field ∷ fields) parts h =
    elim (field_starts field h.0 h.3) [
      | inl is ↦ (Some (is.0 ++ h.1), h.2 ∙ ap (λ (part : List ℕ). part ++ h.1) is.1)
      | inr none ↦
          let others = fields_tail fields h.1 h.4 in
          (others.0, h.2 ∙ ap (λ (part : List ℕ). part ++ h.1) none ∙ others.1)
    ]

-- the only field
pub one_field : (field : Field) (parts : List ℕ) → AreFields (field ∷ []) parts → IsField field parts
one_field field parts h =
    let same : parts ≡ h.0 = h.2 ∙ ap (λ (others : List ℕ). h.0 ++ others) h.4 ∙ append-nil h.0 in
    rw same h.3

pub only_field : (field : Field) (parts : List ℕ) → IsField field parts → AreFields (field ∷ []) parts
only_field field parts h = (parts, [], sym (append-nil parts), h, refl)

-- what was read in two steps
pub bind_some : {A B : Type 0} (o : Option A) (next : A → Option B) (y : B) → (o >>= next) ≡ Some y → (x : A) × (o ≡ Some x) × (next x ≡ Some y)
bind_some (Some x) next y h = (x, refl, h)
bind_some None next y h = cc h
