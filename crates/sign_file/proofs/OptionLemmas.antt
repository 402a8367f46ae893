-- What is there under an option.
use Rattle.std.proofs.Common.{◌≡◌, ℕ, Bool, true, false, if◌then◌else◌, List, Option, Some, None, option_map, refl, ap}
use Rattle.std.proofs.lemmas.Option.{none-some, same_Some, some_pair_parts}
use Rattle.toml_parser.specs.Lexical.{Read}
use Rattle.toml.specs.Parse.{read_map}

-- what is there under an `option_map`
pub option_map_some : {A B P : Type 0} (f : A → B) (o : Option A) (y : B) → option_map f o ≡ Some y → ((x : A) → o ≡ Some x → f x ≡ y → P) → P
option_map_some f None y e k = absurd (none-some y e)
option_map_some f (Some x) y e k = k x refl (same_Some (f x) y e)

-- what is there under a test
pub under_test : {A : Type 0} (b : Bool) (o : Option A) (value : A) → if◌then◌else◌ {A = Option A} b o None ≡ Some value → o ≡ Some value
under_test true o value is = is
under_test false o value is = absurd (none-some value is)

-- what was read under a function, with the same rest
pub read_map_some : {A B P : Type 0} (f : A → B) (read : Read A) (b : B) (rest : List ℕ) → read_map f read ≡ Some (b, rest) → ((a : A) → read ≡ Some (a, rest) → f a ≡ b → P) → P
read_map_some f None b rest e k = absurd (none-some (b, rest) e)
read_map_some f (Some a) b rest e k =
    let same = some_pair_parts (f a.0) b a.1 rest e in
    k a.0 (ap (λ (r : List ℕ). Some (a.0, r)) same.1) same.0

-- the rest of a text, beside what was read before it
pub beside_some : {A P : Type 0} (a b : A) (found : Option (List ℕ)) (rest : List ℕ) → option_map {U = A × List ℕ} (λ r. (a, r)) found ≡ Some (b, rest) → (found ≡ Some rest → a ≡ b → P) → P
beside_some a b None rest e k = absurd (none-some (b, rest) e)
beside_some a b (Some r) rest e k =
    let same = some_pair_parts a b r rest e in
    k (ap (λ (t : List ℕ). Some t) same.1) same.0
