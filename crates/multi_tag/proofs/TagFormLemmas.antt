-- Forms: a relation and the function that reads it say the same.
use Rattle.std.proofs.Common.{◌≡◌, ℕ, true, List, [], ◌∷◌, Option, Some, None, length, refl, sym, ap, ◌∙◌, inl, inr, arith, Bool, false, cond, ◌++◌}
use Rattle.std.specs.Prelude.{nat_lt, Decides, option_map, ◌==◌}
use Rattle.std.specs.Option.{option_or, option_zip}
use Rattle.std.specs.List.{All, list_all}
use Rattle.std.specs.Char.{digit_value}
use Rattle.std.proofs.lemmas.Option.{cond_some, none-some, same_Some, option_and_then_some, some_pair_parts}
use Rattle.std.proofs.lemmas.Bool.{le-leb, eqb-true, eq-eqb, ne_eqb}
use Rattle.std.proofs.lemmas.Bool.Decides.{nat_tests, Decides-by_and, Decides-ltb}
use Rattle.multi_tag.specs.Number.{IsDigit, number}
use Rattle.multi_tag.specs.Form as form
use Rattle.multi_tag.specs.Form.{Form, IsNumber}
use Rattle.multi_tag.specs.TagOf as reads
use Rattle.multi_tag.specs.TagOf.{Reads, are_digits, parts}
use Rattle.std.proofs.lemmas.List.Elements.{All-head, All-tail}

-- what a form spells is what is read
pub record IsRead {V : Type 0} (spells : Form V) (read : Reads V) : Type 0 where
  pub sound : (octets : List ℕ) (v : V) → read octets ≡ Some v → spells octets v
  pub whole : (octets : List ℕ) (v : V) → spells octets v → read octets ≡ Some v

-- nothing
pub nothing_read : {V : Type 0} (value : V) → IsRead (form.nothing value) (reads.read_nothing value)
nothing_read {V} value = record { sound = sound; whole = whole }
  where
    sound : (octets : List ℕ) (v : V) → reads.read_nothing value octets ≡ Some v → form.nothing value octets v
    sound [] v e = (refl, sym (same_Some value v e))
    sound (c ∷ cs) v e = absurd (none-some v e)

    whole : (octets : List ℕ) (v : V) → form.nothing value octets v → reads.read_nothing value octets ≡ Some v
    whole [] v (empty, is) = ap Some (sym is)
    whole (c ∷ cs) v (empty, is) = absurd cc

-- digits
module _ (base most low high : ℕ) where
  all_digits : (octets : List ℕ) → Decides (list_all (λ octet. nat_lt (digit_value octet) base) octets) (All (IsDigit base) octets)
  all_digits octets = Decides-by_and (λ octet. nat_lt (digit_value octet) base) (IsDigit base) (list_all (λ octet. nat_lt (digit_value octet) base)) (λ octet. Decides-ltb (digit_value octet) base) refl (λ _ _. refl) octets

  digits_number : (octets : List ℕ) → are_digits base most low high octets ≡ true → IsNumber base most low high octets (number base octets)
  digits_number octets e = record {
    each = (all_digits octets).0 (grind (arith, nat_tests));
    least = λ empty. grind (arith, nat_tests);
    count = grind (arith, nat_tests);
    spelled = refl;
    above = grind (arith, nat_tests);
    below = grind (arith, nat_tests);
  }

  number_digits : (octets : List ℕ) → IsNumber base most low high octets (number base octets) → are_digits base most low high octets ≡ true
  number_digits [] f = absurd (f.least refl)
  number_digits (c ∷ cs) f =
      rw ((all_digits (c ∷ cs)).1 f.each, le-leb 1 (length (c ∷ cs)) (omega arith), le-leb (length (c ∷ cs)) most f.count, le-leb low (number base (c ∷ cs)) f.above, le-leb (number base (c ∷ cs)) high f.below) refl

  pub digits_read : IsRead (IsNumber base most low high) (reads.digits base most low high)
  digits_read = record {
    sound = λ octets v e.
        let (passes, same) = cond_some (are_digits base most low high octets) (number base octets) v e in
        rw (← same) (digits_number octets passes);
    whole = λ octets v f.
        let is = f.spelled in
        rw (number_digits octets (rw is at f)) (ap Some (sym is));
  }

-- a meaning
pub means_read : {U V : Type 0} {spells : Form U} {read : Reads U} (meaning : U → V) → IsRead spells read → IsRead (form.◌means◌ spells meaning) (reads.◌means◌ read meaning)
means_read {U} {V} {spells} {read} meaning is = record {
  sound = λ octets v e. sound octets v (read octets) refl e;
  whole = λ octets v (u, f, same). rw (is.whole octets u f) (ap Some (sym same));
}
  where
    sound : (octets : List ℕ) (v : V) (r : Option U) → read octets ≡ r → option_map meaning r ≡ Some v → form.◌means◌ spells meaning octets v
    sound octets v None e m = absurd (none-some v m)
    sound octets v (Some u) e m = (u, is.sound octets u e, sym (same_Some (meaning u) v m))

-- one form or another, where no octets have both
pub or_read : {V : Type 0} {a b : Form V} {f g : Reads V} → IsRead a f → IsRead b g → ((octets : List ℕ) (v w : V) → a octets v → b octets w → ⊥) → IsRead (form.◌or◌ a b) (reads.◌or◌ f g)
or_read {V} {a} {b} {f} {g} is also apart = record {
  sound = λ octets v e. sound octets v (f octets) refl e;
  whole = whole;
}
  where
    sound : (octets : List ℕ) (v : V) (r : Option V) → f octets ≡ r → option_or r (g octets) ≡ Some v → form.◌or◌ a b octets v
    sound octets v None e m = inr (also.sound octets v m)
    sound octets v (Some u) e m = inl (is.sound octets v (e ∙ m))

    second : (octets : List ℕ) (v : V) (r : Option V) → f octets ≡ r → b octets v → option_or r (g octets) ≡ Some v
    second octets v None e k = also.whole octets v k
    second octets v (Some u) e k = absurd (apart octets u v (is.sound octets u e) k)

    whole : (octets : List ℕ) (v : V) → form.◌or◌ a b octets v → option_or (f octets) (g octets) ≡ Some v
    whole octets v (inl k) = rw (is.whole octets v k) refl
    whole octets v (inr k) = second octets v (f octets) refl k

-- nothing, or a form that isn't read of nothing
pub nothing_or_read : {V : Type 0} {b : Form V} {g : Reads V} (value : V) → g [] ≡ None → IsRead b g → IsRead (form.◌or◌ (form.nothing value) b) (reads.◌or◌ (reads.read_nothing value) g)
nothing_or_read value none also = or_read (nothing_read value) also (λ octets v w (empty, _) k. none-some w (sym none ∙ (rw empty at (also.whole octets w k))))

-- d?
pub optional_read : (low high : ℕ) → IsRead (form.d? low high) (reads.decimal? low high)
optional_read low high = nothing_or_read None refl (means_read Some (digits_read 10 5 low high))

-- after an octet
pub after_read : {V : Type 0} {spells : Form V} {read : Reads V} (octet : ℕ) → IsRead spells read → IsRead (form.after octet spells) (reads.read_after octet read)
after_read {V} {spells} {read} octet is = record {
  sound = sound;
  whole = λ octets v (rest, same, f). rw (same, eq-eqb octet octet refl) (is.whole rest v f);
}
  where
    begun : (first : ℕ) (rest : List ℕ) (v : V) (same : Bool) → (first == octet) ≡ same → cond same (read rest) None ≡ Some v → form.after octet spells (first ∷ rest) v
    begun first rest v true t e = (rest, ap (λ c. c ∷ rest) (eqb-true first octet t), is.sound rest v e)
    begun first rest v false t e = absurd (none-some v e)

    sound : (octets : List ℕ) (v : V) → reads.read_after octet read octets ≡ Some v → form.after octet spells octets v
    sound [] v e = absurd (none-some v e)
    sound (first ∷ rest) v e = begun first rest v (first == octet) refl e

-- the octets before the first of a kind, and those after it
module _ (octet : ℕ) where
  parts_are : (octets front rest : List ℕ) → parts octet octets ≡ Some (front, rest) → octets ≡ front ++ octet ∷ rest
  parts_are [] front rest e = cc
  parts_are (first ∷ octets) front rest e = step (first == octet) (parts octet octets) refl (parts_are octets) e
    where
      step : (same : Bool) (r : Option (List ℕ × List ℕ)) → (first == octet) ≡ same → ((ys zs : List ℕ) → r ≡ Some (ys, zs) → octets ≡ ys ++ octet ∷ zs)
          → cond same (Some ([], octets)) (option_map {U = List ℕ × List ℕ} (λ (ys, zs). (first ∷ ys, zs)) r) ≡ Some (front, rest) → first ∷ octets ≡ front ++ octet ∷ rest
      step true r is shorter m = let (none, behind) = some_pair_parts [] front octets rest m in rw (eqb-true first octet is, ← none, ← behind) refl
      step false None is shorter m = absurd cc
      step false (Some (ys, zs)) is shorter m =
          let (longer, behind) = some_pair_parts (first ∷ ys) front zs rest m in
          rw (← longer, ← behind) (ap (λ cs. first ∷ cs) (shorter ys zs refl))

  parts_at : (front rest : List ℕ) → ¬ (IsDigit 10 octet) → All (IsDigit 10) front → parts octet (front ++ octet ∷ rest) ≡ Some (front, rest)
  parts_at [] rest none each = rw (eq-eqb octet octet refl) refl
  parts_at (c ∷ front) rest none each =
      let other : c ≡ octet → ⊥ = λ same. none (rw same at (All-head (IsDigit 10) c front each)) in
      rw (ne_eqb c octet other, parts_at front rest none (All-tail (IsDigit 10) c front each)) refl

-- two forms with an octet between them that is no digit, where the first is of digits
pub between_read : {U V : Type 0} {a : Form U} {b : Form V} {f : Reads U} {g : Reads V} (octet : ℕ) → ¬ (IsDigit 10 octet) → ((octets : List ℕ) (u : U) → a octets u → All (IsDigit 10) octets) → IsRead a f → IsRead b g → IsRead (form.between octet a b) (reads.read_between octet f g)
between_read {U} {V} {a} {b} {f} {g} octet none digits is also = record {
  sound = λ octets v e. option_and_then_some _ (parts octet octets) v e (λ (front, rest) k m. both octets front rest v (f front) (g rest) (parts_are octet octets front rest k) refl refl m);
  whole = λ octets v (front, rest, same, k, l). rw (same, parts_at octet front rest none (digits front v.0 k), is.whole front v.0 k, also.whole rest v.1 l) refl;
}
  where
    both : (octets front rest : List ℕ) (v : U × V) (r : Option U) (s : Option V) → octets ≡ front ++ octet ∷ rest → f front ≡ r → g rest ≡ s → option_zip r s ≡ Some v → form.between octet a b octets v
    both octets front rest v None s e p q m = absurd (none-some v m)
    both octets front rest v (Some u) None e p q m = absurd (none-some v m)
    both octets front rest (x, y) (Some u) (Some w) e p q m =
        let (first, second) = some_pair_parts u x w y m in
        (front, rest, e, is.sound front x (p ∙ ap Some first), also.sound rest y (q ∙ ap Some second))
