-- Forms before a closing bracket: what was read is their value.
use Rattle.std.proofs.Common.{◌≡◌, ℕ, ◌+◌, ◌^◌, ◌≤◌, false, true, List, [], ◌∷◌, ◌++◌, Option, Some, None, lit≤, refl, sym, ap, subst, ◌∙◌, inl, inr, append_assoc}
use Rattle.std.proofs.lemmas.Option.{none-some, same_Some}
use Rattle.std.proofs.lemmas.List.Elements.{All-head}
use Rattle.multi_tag.specs.declared.name.Name.TheVariants as names
use Rattle.multi_tag.specs.declared.tag.Tag.TheVariants.{Font, PageTime, Flash}
use Rattle.multi_tag.specs.Number.{IsDigit}
use Rattle.multi_tag.specs.Form.{Form, IsNumber, d, d?, h, ◌means◌, between}
use Rattle.multi_tag.specs.Body.{table}
use Rattle.multi_tag.specs.Part.{IsCut, IsPartBefore, HasNoPartBefore, in_range, times}
use Rattle.multi_tag.proofs.CutLemmas.{cut_before, one_front, one_first}
use Rattle.multi_tag.proofs.NumberLemmas.{no_digit, digits_optional, number_written, written_number, optional_written, written_optional}

-- what a form means
pub means_no_part : {U V : Type 0} (form : Form U) (meaning : U → V) (octets : List ℕ) → HasNoPartBefore 93 form octets → HasNoPartBefore 93 (form means meaning) octets
means_no_part form meaning octets none front behind v is (u, f, same) = none front behind u is f

-- two forms with an octet between them
module _ {U V : Type 0} (octet : ℕ) (first : Form U) (second : Form V) (octets : List ℕ) where
  pub between_part : (u : U) (v : V) (next rest : List ℕ) → IsPartBefore octet first octets u next → IsPartBefore 93 second next v rest → IsPartBefore 93 (between octet first second) octets (u, v) rest
  between_part u v next rest (front, is, f) (front', is', f') =
      (front ++ octet ∷ front', is ∙ (ap (λ x. front ++ octet ∷ x) is' ∙ sym (append_assoc front (octet ∷ front') (93 ∷ rest))), (front, front', refl, f, f'))

  pub between_no_part : ((u : U) (next : List ℕ) → IsPartBefore octet first octets u next → HasNoPartBefore 93 second next) → HasNoPartBefore 93 (between octet first second) octets
  between_no_part none front behind v is (a, b, parts, f, g) =
      none v.0 (b ++ 93 ∷ behind) (a, is ∙ (ap (λ x. x ++ 93 ∷ behind) parts ∙ append_assoc a (octet ∷ b) (93 ∷ behind)), f) b behind v.1 refl g

-- a number or none before an octet that is no digit
module _ (low high octet : ℕ) (octets : List ℕ) (value : Option ℕ) (rest : List ℕ) (cut : IsCut 10 5 octets value rest) where
  pub optional_stop : (o : Option ℕ) (behind : List ℕ) → ¬ (IsDigit 10 octet) → IsPartBefore octet (d? low high) octets o behind → (rest ≡ octet ∷ behind) × (in_range low high value ≡ Some o)
  optional_stop o behind none (front, is, f) =
      let (few, passes) = optional_written low high front o f in
      let there = cut_before 10 5 octet octets value rest front behind cut is (digits_optional low high front o f) few none in
      (there.1, ap (in_range low high) there.0 ∙ passes)

  pub optional_part : (o : Option ℕ) (behind : List ℕ) → rest ≡ octet ∷ behind → in_range low high value ≡ Some o → IsPartBefore octet (d? low high) octets o behind
  optional_part o behind is passes =
      (cut.digits, rw (← is) cut.whole, written_optional low high cut.digits o cut.each cut.count (rw (← cut.value_is) passes))

  pub optional_no_part : ¬ (IsDigit 10 octet) → ((o : Option ℕ) (behind : List ℕ) → in_range low high value ≡ Some o → rest ≡ octet ∷ behind → ⊥) → HasNoPartBefore octet (d? low high) octets
  optional_no_part stops none front behind o is f = let there = optional_stop o behind stops (front, is, f) in none o behind there.1 there.0

-- a number before such an octet
module _ (base most low high octet : ℕ) (octets : List ℕ) (value : Option ℕ) (rest : List ℕ) (cut : IsCut base most octets value rest) where
  pub number_part : (v : ℕ) (behind : List ℕ) → value ≡ Some v → rest ≡ octet ∷ behind → base ^ most ≤ high + 1 → 2 ≤ base → low ≤ v → IsPartBefore octet (IsNumber base most low high) octets v behind
  number_part v behind is stop room small above =
      (cut.digits, rw (← stop) cut.whole, written_number base most low high cut.digits v cut.each cut.count (sym is ∙ cut.value_is) room small above)

  pub number_no_part : ¬ (IsDigit base octet) → ((v : ℕ) (behind : List ℕ) → value ≡ Some v → low ≤ v → rest ≡ octet ∷ behind → ⊥) → HasNoPartBefore octet (IsNumber base most low high) octets
  number_no_part stops none front behind v is f =
      let there = cut_before base most octet octets value rest front behind cut is f.each f.count stops in
      none v behind (there.0 ∙ number_written base most low high front v f) f.above there.1

-- a comma and a bracket are no digits
pub comma_stops : ¬ (IsDigit 10 44)
comma_stops = no_digit 10 44 (lit≤ tt)

pub bracket_stops : ¬ (IsDigit 10 93)
bracket_stops = no_digit 10 93 (lit≤ tt)

-- where no number or none stands before a bracket, no number does
pub number_lacks : (low high : ℕ) (octets : List ℕ) → HasNoPartBefore 93 (d? low high) octets → HasNoPartBefore 93 (d low high) octets
number_lacks low high octets none front behind n is f = none front behind (Some n) is (inr (n, f, refl))

pub optional_lacks : (low high : ℕ) (octets rest : List ℕ) → IsPartBefore 93 (d? low high) octets None rest → HasNoPartBefore 93 (d low high) octets
optional_lacks low high octets rest (front, is, inr (n, f, lacks)) a behind v same g = none-some n lacks
optional_lacks low high octets rest (front, is, inl (empty, _)) [] behind v same g = g.least refl
optional_lacks low high octets rest (front, is, inl (empty, _)) (c ∷ a) behind v same g =
    let first : 93 ∷ rest ≡ c ∷ (a ++ 93 ∷ behind) = sym (is ∙ ap (λ x. x ++ 93 ∷ rest) empty) ∙ same in
    let here : c ≡ 93 = cc in
    bracket_stops (rw here at (All-head (IsDigit 10) c a g.each))

-- one time or two
pub times_no_part : (letter : ℕ) (octets : List ℕ) (value : Option ℕ) (rest : List ℕ) → IsCut 10 5 octets value rest → ¬ (IsDigit 10 letter)
    → ((o : Option ℕ) (behind : List ℕ) → in_range 0 255 value ≡ Some o → rest ≡ 93 ∷ behind → ⊥)
    → ((o : Option ℕ) (behind : List ℕ) → in_range 0 255 value ≡ Some o → rest ≡ letter ∷ behind → HasNoPartBefore 93 (d? 0 255) behind)
    → HasNoPartBefore 93 (times letter) octets
times_no_part letter octets value rest cut stops one two front behind v is (inl (o, f, _)) = optional_no_part 0 255 93 octets value rest cut bracket_stops one front behind o is f
times_no_part letter octets value rest cut stops one two front behind v is (inr both) =
    between_no_part letter (d? 0 255) (d? 0 255) octets (λ o next part. let there = optional_stop 0 255 letter octets value rest cut o next stops part in two o next there.1 there.0) front behind v is both

pub page_time_part : (octets rest : List ℕ) (on off : Option ℕ) → IsPartBefore 93 (times 111) octets (on, off) rest → IsPartBefore 93 (table names.PageTime).rest octets (PageTime on off) rest
page_time_part octets rest on off (front, is, inl (u, f, same)) = (front, is, inl (u, f, ap (λ (v : Option ℕ × Option ℕ). PageTime v.0 v.1) same))
page_time_part octets rest on off (front, is, inr both) = (front, is, inr ((on, off), both, refl))

pub page_time_no_part : (octets : List ℕ) → HasNoPartBefore 93 (times 111) octets → HasNoPartBefore 93 (table names.PageTime).rest octets
page_time_no_part octets none front behind tag is (inl (on, f, _)) = none front behind (on, None) is (inl (on, f, refl))
page_time_no_part octets none front behind tag is (inr (v, both, _)) = none front behind v is (inr both)

pub flash_on_part : (octets second rest : List ℕ) (on off : Option ℕ) → octets ≡ 116 ∷ second → IsPartBefore 93 (times 111) second (on, off) rest → IsPartBefore 93 (table names.Flash).rest octets (Flash false on off) rest
flash_on_part octets second rest on off e (front, is, inl (u, f, same)) =
    (116 ∷ front, e ∙ ap (λ x. 116 ∷ x) is, inr (inl (u, (front, refl, f), ap (λ (v : Option ℕ × Option ℕ). Flash false v.0 v.1) same)))
flash_on_part octets second rest on off e (front, is, inr both) = (116 ∷ front, e ∙ ap (λ x. 116 ∷ x) is, inr (inr (inl ((on, off), (front, refl, both), refl))))

pub flash_off_part : (octets second rest : List ℕ) (on off : Option ℕ) → octets ≡ 111 ∷ second → IsPartBefore 93 (times 116) second (off, on) rest → IsPartBefore 93 (table names.Flash).rest octets (Flash true on off) rest
flash_off_part octets second rest on off e (front, is, inl (u, f, same)) =
    (111 ∷ front, e ∙ ap (λ x. 111 ∷ x) is, inr (inr (inr (inl (u, (front, refl, f), ap (λ (v : Option ℕ × Option ℕ). Flash true v.1 v.0) same)))))
flash_off_part octets second rest on off e (front, is, inr both) = (111 ∷ front, e ∙ ap (λ x. 111 ∷ x) is, inr (inr (inr (inr ((off, on), (front, refl, both), refl)))))

pub flash_no_part : (octets : List ℕ) → ((rest : List ℕ) → octets ≡ 93 ∷ rest → ⊥) → ((rest : List ℕ) → octets ≡ 116 ∷ rest → HasNoPartBefore 93 (times 111) rest) → ((rest : List ℕ) → octets ≡ 111 ∷ rest → HasNoPartBefore 93 (times 116) rest) → HasNoPartBefore 93 (table names.Flash).rest octets
flash_no_part octets none t o front behind tag is f =
    let whole : (x : List ℕ) → front ≡ x → octets ≡ x ++ 93 ∷ behind = λ x e. is ∙ ap (λ y. y ++ 93 ∷ behind) e in
    elim f [
      | inl (empty, _) ↦ none behind (whole [] empty)
      | inr (inl (u, (r, e, g), _)) ↦ t (r ++ 93 ∷ behind) (whole (116 ∷ r) e) r behind (u, None) refl (inl (u, g, refl))
      | inr (inr (inl (v, (r, e, g), _))) ↦ t (r ++ 93 ∷ behind) (whole (116 ∷ r) e) r behind v refl (inr g)
      | inr (inr (inr (inl (u, (r, e, g), _)))) ↦ o (r ++ 93 ∷ behind) (whole (111 ∷ r) e) r behind (u, None) refl (inl (u, g, refl))
      | inr (inr (inr (inr (v, (r, e, g), _)))) ↦ o (r ++ 93 ∷ behind) (whole (111 ∷ r) e) r behind v refl (inr g)
    ]

-- a font, and its version after a comma
pub font_no_part : (octets : List ℕ) (value : Option ℕ) (rest : List ℕ) → IsCut 10 5 octets value rest
    → ((o : Option ℕ) (behind : List ℕ) → in_range 1 255 value ≡ Some o → rest ≡ 93 ∷ behind → ⊥)
    → ((m : ℕ) (behind : List ℕ) → in_range 1 255 value ≡ Some (Some m) → rest ≡ 44 ∷ behind → HasNoPartBefore 93 (h 0 65535) behind)
    → HasNoPartBefore 93 (table names.Font).rest octets
font_no_part octets value rest cut one two front behind tag is f = elim f [
  | inl (empty, _) ↦ optional_no_part 1 255 93 octets value rest cut bracket_stops one front behind None is (inl (empty, refl))
  | inr (inl (n, g, _)) ↦ optional_no_part 1 255 93 octets value rest cut bracket_stops one front behind (Some n) is (inr (n, g, refl))
  | inr (inr (v, both, _)) ↦
      between_no_part 44 (d 1 255) (h 0 65535) octets (λ m next (a, whole, g). let there = optional_stop 1 255 44 octets value rest cut (Some m) next comma_stops (a, whole, inr (m, g, refl)) in two m next there.1 there.0) front behind v is both
]

pub font_version_part : (octets second rest : List ℕ) (m v : ℕ) → IsPartBefore 44 (d? 1 255) octets (Some m) second → IsPartBefore 93 (h 0 65535) second v rest
    → IsPartBefore 93 (table names.Font).rest octets (Font (Some (record { number = m; version = Some v }))) rest
font_version_part octets second rest m v (front, is, inl (_, same)) next = absurd (none-some m (sym same))
font_version_part octets second rest m v (front, is, inr (n, f, same)) next =
    let (whole, e, both) = between_part 44 (d 1 255) (h 0 65535) octets m v second rest (front, is, rw (same_Some m n same) f) next in
    (whole, e, inr (inr ((m, v), both, refl)))

-- a number before a comma, and a form after it
module _ {V : Type 0} (form : Form V) (octets : List ℕ) where
  pub pair_no_first : HasNoPartBefore 44 (d 0 99999) octets → HasNoPartBefore 93 (between 44 (d 0 99999) form) octets
  pair_no_first none = between_no_part 44 (d 0 99999) form octets (λ x next (a, whole, g). absurd (none a next x whole g))

  pub pair_no_second : (second : List ℕ) (x : ℕ) → IsPartBefore 44 (d 0 99999) octets x second → HasNoPartBefore 93 form second → HasNoPartBefore 93 (between 44 (d 0 99999) form) octets
  pair_no_second second x (front, is, f) none =
      between_no_part 44 (d 0 99999) form octets (λ y next (a, whole, g).
      let same = one_front 10 front a (44 ∷ second) (44 ∷ next) f.each g.each (λ small. absurd (comma_stops small)) comma_stops (sym is ∙ whole) in
      subst (HasNoPartBefore 93 form) (one_first refl same.1).1 none)
