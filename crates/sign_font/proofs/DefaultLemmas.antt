-- Defaults that a sign takes in place of its own.
use Rattle.std.proofs.Common.{◌≡◌, ℕ, ◌≤◌, ◌==◌, Bool, true, false, not, List, [], ◌∷◌, None, refl, arith, inl, inr}
use Rattle.std.specs.Prelude.{find, option_map, is_some, All}
use Rattle.std.proofs.lemmas.Bool.{and_parts, and_from, le-leb, leb-true, eqb-true, cases_Bool}
use Rattle.std.proofs.lemmas.List.Elements.{All-head, All-tail}
use Rattle.sign_font.specs.declared.fault.DefaultFault.{DefaultFault}
use Rattle.sign_font.specs.declared.fault.DefaultFault.TheVariants.{Value, FontUnknown}
use Rattle.sign_font.specs.declared.parts.Defaults.{Defaults}
use Rattle.sign_font.specs.Defaults.{under, are_values, default_fault}
use Rattle.sign_font.specs.Sign.{FontData, SignData, font_numbered}
use Rattle.sign_font.specs.Sound.{IsSound, IsSoundFont}
use Rattle.sign_font.proofs.FaultLemmas.{passes}
use Rattle.sign_font.proofs.SoundLemmas.{within}

-- no refusal, no limit that isn't kept
kept : (a b : Bool) → option_map (λ (l : Bool × DefaultFault). l.1) (find (λ (l : Bool × DefaultFault). not l.0) ((a, Value) ∷ (b, FontUnknown) ∷ [])) ≡ None
    → (a ≡ true) × (b ≡ true)
kept true true h = (refl, refl)
kept true false h = cc
kept false b h = cc

-- where each limit is kept, there is no refusal
none_outside : (a b : Bool) → a ≡ true → b ≡ true
    → option_map (λ (l : Bool × DefaultFault). l.1) (find (λ (l : Bool × DefaultFault). not l.0) ((a, Value) ∷ (b, FontUnknown) ∷ [])) ≡ None
none_outside a b p q = rw (p, q) refl

-- a sign within its limits is within them under defaults that it takes
pub sound_under : (sign : SignData) (defaults : Defaults) → IsSound sign → default_fault sign defaults ≡ None → IsSound (under sign defaults)
sound_under sign defaults sound none =
    let both = kept (are_values defaults) (is_some (font_numbered sign defaults.font)) none in
    let values = and_parts _ _ both.0 in
    let colours = and_parts _ _ values.1 in
    let places = and_parts _ _ colours.0 in
    let justs = and_parts _ _ places.0 in
    record {
      width = sound.width;
      height = sound.height;
      count = sound.count;
      each = sound.each;
      rising = sound.rising;
      font = both.1;
      line = within 2 5 defaults.line justs.0;
      page = within 2 4 defaults.page justs.1;
      fore = leb-true defaults.fore 9 places.1;
      back = leb-true defaults.back 9 colours.1;
      max_pages = sound.max_pages;
    }

-- the number of a font that is found among sound ones is above 0
found_above : (number : ℕ) (fonts : List FontData) → All IsSoundFont fonts → is_some (find (λ font. font.number == number) fonts) ≡ true → 1 ≤ number
found_above number [] all h = cc
found_above number (font ∷ fonts) all h =
    elim (cases_Bool (font.number == number)) [
      | inl e ↦
          let same : font.number ≡ number = eqb-true font.number number e in
          let above : 1 ≤ font.number = (All-head IsSoundFont font fonts all).number.0 in
          omega arith
      | inr e ↦ found_above number fonts (All-tail IsSoundFont font fonts all) (rw e at h)
    ]

-- a sign takes its own defaults
pub own_taken : (sign : SignData) → IsSound sign → default_fault sign sign.defaults ≡ None
own_taken sign sound =
    let places = and_from _ _ (passes 2 5 sign.defaults.line sound.line) (passes 2 4 sign.defaults.page sound.page) in
    let known = and_from _ _ (and_from _ _ places (le-leb sign.defaults.fore 9 sound.fore)) (le-leb sign.defaults.back 9 sound.back) in
    let above = le-leb 1 sign.defaults.font (found_above sign.defaults.font sign.fonts sound.each sound.font) in
    none_outside (are_values sign.defaults) (is_some (font_numbered sign sign.defaults.font)) (and_from _ _ above known) sound.font
