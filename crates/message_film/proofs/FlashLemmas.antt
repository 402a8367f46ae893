-- The least time in which each flash of a text is over a whole number of times.
use Rattle.std.proofs.Common.{◌≡◌, ◌≢◌, ℕ, zero, suc, ◌+◌, ◌*◌, ◌/◌, ◌%◌, ◌<◌, ◌≤◌, List, [], ◌∷◌, ◌++◌, drop, length, map, Option, Some, None, IfSome, refl, sym, ap, ◌∙◌, inl, inr, ◌⊎◌, subst, arith, append_assoc, append-nil}
use Rattle.std.proofs.Math.Nat.{add-mul, add-mul-mod_self_right, mul_assoc, mul-mod_left, mul-mod_right, zero-mul}
use Rattle.std.proofs.lemmas.Bool.{cases_eq}
use Rattle.std.proofs.lemmas.Nat.{div-add-mod'}
use Rattle.std.specs.List.{AllByRecursion}
use Rattle.std.specs.Option.{option_map_or}
use Rattle.multi_token.specs.Reading.{reading}
use Rattle.multi_token.proofs.ReadingLemmas.{each_string_has_a_reading}
use Rattle.multi_token.proofs.SpellingLemmas.{one_reading}
use Rattle.sign_font.specs.declared.parts.Defaults.{Defaults}
use Rattle.sign_font.specs.Sign.{SignData}
use Rattle.multi_meaning.specs.Attributes.{given_flash}
use Rattle.multi_meaning.specs.declared.attributes.FlashTimes.{FlashTimes}
use Rattle.multi_meaning.specs.Meaning.{Meaning, meaning, meanings}
use Rattle.message_film.specs.Period.{Allows, Divides, EndsFlashes, IsCommonTime, IsFlashPeriod, IsPeriod, PlaysFor, flash_time, times_of}
use Rattle.multi_meaning.specs.Times.{cycle}
use Rattle.multi_meaning.specs.Verdict.{Accepted, IsCycle, IsVerdict, broken, of_first, offences, pages_of, verdict_on}
use Rattle.multi_meaning.proofs.VerdictLemmas.{cycle_is}
use Rattle.multi_meaning.proofs.TimesLemmas.{times_count}
use Rattle.message_film.proofs.PeriodLemmas

-- MULTIPLES

-- a number that t divides and s divides is a multiple of the least multiple of t that s divides
multiple_again : (t s k other m j : ℕ) → 1 ≤ k → 1 ≤ s → ((fewer : ℕ) → 1 ≤ fewer → fewer < k → fewer * t % s ≢ 0) → k * t % s ≡ 0 → other ≡ m * t → other ≡ j * s
    → (q : ℕ) × (other ≡ q * (k * t))
multiple_again t s k other m j some flash least whole by_t by_s =
    let q = m / k in
    let r = m % k in
    let c = k * t / s in
    let split : q * k + r ≡ m = div-add-mod' m k in
    let parts : k * t / s * s + k * t % s ≡ k * t = div-add-mod' (k * t) s in
    let exact : k * t ≡ c * s = omega (arith, parts, whole) in
    let sum : other ≡ q * (k * t) + r * t = by_t ∙ ap (λ n. n * t) (sym split) ∙ add-mul (q * k) r t ∙ ap (λ n. n + r * t) (mul_assoc q k t) in
    let scaled : q * (k * t) ≡ q * c * s = ap (λ n. q * n) exact ∙ sym (mul_assoc q c s) in
    let turned : other ≡ r * t + q * c * s = omega (arith, sum, scaled) in
    let rest : r * t % s ≡ 0 = sym (add-mul-mod_self_right (r * t) (q * c) s) ∙ ap (λ n. n % s) (sym turned ∙ by_s) ∙ mul-mod_left j s in
    elim (cases_eq r 0) [
      | inl none ↦
          let nothing : r * t ≡ 0 = ap (λ n. n * t) none ∙ zero-mul t in
          (q, omega (arith, sum, nothing))
      | inr isn't ↦
          let below : r < k = omega (arith, some) in
          absurd (least r (omega (arith, isn't)) below rest)
    ]

-- FLASHES BY THEIR TIMES

-- a time of a flash is 0, or the tenths are a multiple of it
abbrev pub Fits : ℕ → ℕ → Type 0
Fits tenths time = (time ≡ 0) ⊎ ((times : ℕ) × (tenths ≡ times * time))

allows_given : (tenths : ℕ) (given : Option (Option FlashTimes))
    → Fits tenths (option_map_or (λ given. option_map_or (λ (flash : FlashTimes). flash.on + flash.off) given 0) given 0)
    → IfSome given (λ flash. IfSome flash (Divides tenths))
allows_given tenths None fits = tt
allows_given tenths (Some None) fits = tt
allows_given tenths (Some (Some flash)) fits = fits

allows : (defaults : Defaults) (tenths : ℕ) (item : Meaning) → Fits tenths (flash_time defaults item) → Allows defaults tenths item
allows defaults tenths item fits = allows_given tenths (given_flash defaults item) fits

fits_given : (tenths : ℕ) (given : Option (Option FlashTimes)) → IfSome given (λ flash. IfSome flash (Divides tenths))
    → Fits tenths (option_map_or (λ given. option_map_or (λ (flash : FlashTimes). flash.on + flash.off) given 0) given 0)
fits_given tenths None allow = inl refl
fits_given tenths (Some None) allow = inl refl
fits_given tenths (Some (Some flash)) allow = allow

fits : (defaults : Defaults) (tenths : ℕ) (item : Meaning) → Allows defaults tenths item → Fits tenths (flash_time defaults item)
fits defaults tenths item allow = fits_given tenths (given_flash defaults item) allow

fits_more : (k tenths time : ℕ) → Fits tenths time → Fits (k * tenths) time
fits_more k tenths time (inl none) = inl none
fits_more k tenths time (inr (times, is)) = inr (k * times, ap (λ n. k * n) is ∙ sym (mul_assoc k times time))

-- ITEMS

all_map : {X : Type 0} (P Q : X → Type 0) → ((x : X) → P x → Q x) → (xs : List X) → AllByRecursion P xs → AllByRecursion Q xs
all_map P Q turn [] all = tt
all_map P Q turn (x ∷ xs) all = (turn x all.0, all_map P Q turn xs all.1)

all_front : {X : Type 0} (P : X → Type 0) (xs ys : List X) → AllByRecursion P (xs ++ ys) → AllByRecursion P xs
all_front P [] ys all = tt
all_front P (x ∷ xs) ys all = (all.0, all_front P xs ys all.1)

all_last : {X : Type 0} (P : X → Type 0) (xs : List X) (y : X) → AllByRecursion P (xs ++ y ∷ []) → P y
all_last P [] y all = all.0
all_last P (x ∷ xs) y all = all_last P xs y all.1

all_snoc : {X : Type 0} (P : X → Type 0) (xs : List X) (y : X) → AllByRecursion P xs → P y → AllByRecursion P (xs ++ y ∷ [])
all_snoc P [] y all one = (one, tt)
all_snoc P (x ∷ xs) y all one = (all.0, all_snoc P xs y all.1 one)

-- the items before an offset, and the least time in which each of their flashes is over a whole number of times
pub record Passed (sign : SignData) (octets : List ℕ) (at period : ℕ) : Type 0 where
  pub items : List Meaning
  pub whole : meanings octets ≡ items ++ meanings (drop at octets)
  pub some : 1 ≤ period
  pub ends : AllByRecursion (Allows sign.defaults period) items
  pub multiple : (other : ℕ) → AllByRecursion (Allows sign.defaults other) items → (times : ℕ) × (other ≡ times * period)

pub begins : (sign : SignData) (octets : List ℕ) → Passed sign octets 0 1
begins sign octets = record {
  items = [];
  whole = refl;
  some = omega arith;
  ends = tt;
  multiple = λ other all. (other, omega arith);
}

-- the common time is a multiple of the tenths, fits the flash, and is at least 1
common_fits : (tenths flash common : ℕ) → 1 ≤ tenths → IsCommonTime tenths flash common → (times : ℕ) × (1 ≤ times) × (common ≡ times * tenths) × Fits common flash
common_fits tenths flash common some (inl (none, is)) = (1, omega arith, omega (arith, is), inl none)
common_fits tenths flash common some (inr (flashes, (times, many, is, whole, least))) =
    let parts : common / flash * flash + common % flash ≡ common = div-add-mod' common flash in
    (times, many, is, inr (common / flash, omega (arith, parts, whole)))

common_multiple : (tenths flash common other m : ℕ) → IsCommonTime tenths flash common → other ≡ m * tenths → Fits other flash → (q : ℕ) × (other ≡ q * common)
common_multiple tenths flash common other m (inl (none, is)) by_tenths fits = (m, by_tenths ∙ ap (λ n. m * n) (sym is))
common_multiple tenths flash common other m (inr (flashes, (times, many, is, whole, least))) by_tenths (inl none) = absurd (omega (arith, flashes, none))
common_multiple tenths flash common other m (inr (flashes, (times, many, is, whole, least))) by_tenths (inr (j, by_flash)) =
    let (q, at) = multiple_again tenths flash times other m j many flashes least (ap (λ n. n % flash) (sym is) ∙ whole) by_tenths by_flash in
    (q, at ∙ ap (λ n. q * n) (sym is))

positive : (k t : ℕ) → 1 ≤ k → 1 ≤ t → 1 ≤ k * t
positive zero t some one = absurd (omega (arith, some))
positive (suc k) t some one = omega (arith, one)

-- one more item
pub passed_more : (sign : SignData) (octets : List ℕ) (at next period flash common : ℕ) (item : Meaning) → meanings (drop at octets) ≡ item ∷ meanings (drop next octets) → flash ≡ flash_time sign.defaults item
    → IsCommonTime period flash common → Passed sign octets at period → Passed sign octets next common
passed_more sign octets at next period flash common item read is common_is p =
    let (times, many, by, fit) = common_fits period flash common p.some common_is in
    let front : AllByRecursion (Allows sign.defaults common) p.items = all_map (Allows sign.defaults period) (Allows sign.defaults common)
    (λ other allow. allows sign.defaults common other (subst (λ n. Fits n (flash_time sign.defaults other)) (sym by) (fits_more times period (flash_time sign.defaults other) (fits sign.defaults period other allow))))
    p.items p.ends in
    let last : Allows sign.defaults common item = allows sign.defaults common item (subst (Fits common) is fit) in
    record {
      items = p.items ++ item ∷ [];
      whole = p.whole ∙ ap (λ l. p.items ++ l) read ∙ sym (append_assoc p.items (item ∷ []) (meanings (drop next octets)));
      some = subst (λ n. 1 ≤ n) (sym by) (positive times period many p.some);
      ends = all_snoc (Allows sign.defaults common) p.items item front last;
      multiple = λ other all.
          let (m, before) = p.multiple other (all_front (Allows sign.defaults other) p.items (item ∷ []) all) in
          common_multiple period flash common other m common_is before
          (subst (Fits other) (sym is) (fits sign.defaults other item (all_last (Allows sign.defaults other) p.items item all)));
    }

-- a multiple that isn't 0
at_least : (times period other : ℕ) → 1 ≤ other → other ≡ times * period → period ≤ other
at_least zero period other some is = absurd (omega (arith, some, is))
at_least (suc times) period other some is = omega (arith, is)

-- the items are the first of the text, so its flashes are over no earlier
pub not_earlier : (sign : SignData) (octets : List ℕ) (at period : ℕ) → Passed sign octets at period → (other : ℕ) → EndsFlashes sign octets other → period ≤ other
not_earlier sign octets at period p other (some, all) =
    let front = all_front (Allows sign.defaults other) p.items (meanings (drop at octets)) (subst (AllByRecursion (Allows sign.defaults other)) p.whole all) in
    let (times, by) = p.multiple other front in
    at_least times period other some by

-- that long or longer
pub too_long : (sign : SignData) (octets : List ℕ) (at period : ℕ) → Passed sign octets at period → 4294967295 ≤ period → IsFlashPeriod sign octets 4294967295
too_long sign octets at period p long = record {
  some = omega arith;
  least = λ other ends. let most = not_earlier sign octets at period p other ends in omega (arith, long, most);
  ends = λ less. absurd (omega (arith, less));
}

-- at the end of the items
pub at_end : (sign : SignData) (octets : List ℕ) (at period : ℕ) → Passed sign octets at period → meanings (drop at octets) ≡ [] → IsFlashPeriod sign octets period
at_end sign octets at period p none =
    let all : meanings octets ≡ p.items = p.whole ∙ ap (λ l. p.items ++ l) none ∙ append-nil p.items in
    record {
      some = p.some;
      least = not_earlier sign octets at period p;
      ends = λ _. (p.some, subst (AllByRecursion (Allows sign.defaults period)) (sym all) p.ends);
    }

-- the least multiple, found
pub found : (tenths flash times : ℕ) → 1 ≤ flash → 1 ≤ times → ((fewer : ℕ) → 1 ≤ fewer → fewer < times → fewer * tenths % flash ≢ 0) → times * tenths % flash ≡ 0
    → IsCommonTime tenths flash (times * tenths)
found tenths flash times flashes many least whole = inr (flashes, (times, many, refl, whole, least))

pub found_last : (tenths flash : ℕ) → 1 ≤ flash → ((fewer : ℕ) → 1 ≤ fewer → fewer < flash → fewer * tenths % flash ≢ 0) → IsCommonTime tenths flash (flash * tenths)
found_last tenths flash flashes least = found tenths flash flash flashes flashes least (mul-mod_right flash tenths)

-- HOW LONG A TEXT PLAYS

no_fault : (pages number : ℕ) (faults : List (ℕ × ℕ)) → Accepted pages ≡ of_first number faults → pages ≡ number
no_fault pages number [] is = cc
no_fault pages number (fault ∷ faults) is = absurd cc

-- as many times as pages
pages_are : (sign : SignData) (octets : List ℕ) (pages : ℕ) → IsVerdict sign octets (Accepted pages) → length (times_of sign octets) ≡ pages
unfolding verdict_on
pages_are sign octets pages (items, rest, read, is) =
    let same = one_reading octets items (reading octets).items rest (reading octets).rest read (each_string_has_a_reading octets) in
    let count = no_fault pages (pages_of (map meaning items)) (offences sign items ++ broken items rest) is ∙ ap (λ l. pages_of (map meaning l)) same.0 in
    times_count sign (meanings octets) ∙ sym count

pub flashes_play : (sign : SignData) (octets : List ℕ) (tenths : ℕ) → (length (times_of sign octets) ≡ 1) ⊎ (cycle (times_of sign octets) ≡ 0) → IsFlashPeriod sign octets tenths
    → PlaysFor sign octets tenths × (tenths < 4294967295 → IsPeriod sign octets tenths) × (1 ≤ tenths)
flashes_play sign octets tenths one is = (inr (one, is), λ less. PeriodLemmas.flashes_have_period sign octets tenths one (is.ends less).1, is.some)

pub one_page : (sign : SignData) (octets : List ℕ) (pages tenths : ℕ) → IsVerdict sign octets (Accepted pages) → pages ≡ 1 → IsFlashPeriod sign octets tenths
    → PlaysFor sign octets tenths × (tenths < 4294967295 → IsPeriod sign octets tenths) × (1 ≤ tenths)
one_page sign octets pages tenths verdict one is = flashes_play sign octets tenths (inl (pages_are sign octets pages verdict ∙ one)) is

pub no_cycle : (sign : SignData) (octets : List ℕ) (whole tenths : ℕ) → IsCycle sign octets whole → whole ≡ 0 → IsFlashPeriod sign octets tenths
    → PlaysFor sign octets tenths × (tenths < 4294967295 → IsPeriod sign octets tenths) × (1 ≤ tenths)
no_cycle sign octets whole tenths cycles none is = flashes_play sign octets tenths (inr (sym (cycle_is sign octets whole cycles) ∙ none)) is

pub one_cycle : (sign : SignData) (octets : List ℕ) (pages whole : ℕ) → IsVerdict sign octets (Accepted pages) → pages ≢ 1 → IsCycle sign octets whole → whole ≢ 0
    → PlaysFor sign octets whole × (whole < 4294967295 → IsPeriod sign octets whole) × (1 ≤ whole)
one_cycle sign octets pages whole verdict several cycles some =
    let many : length (times_of sign octets) ≢ 1 = λ one. several (sym (pages_are sign octets pages verdict) ∙ one) in
    let is = cycle_is sign octets whole cycles in
    let long : 1 ≤ whole = omega (arith, some) in
    (inl (many, long, is), λ _. subst (IsPeriod sign octets) (sym is) (PeriodLemmas.cycle_is_period sign octets many), long)
