-- A sign without a fault is within its limits.
use Rattle.std.proofs.Common.{◌≡◌, ℕ, ◌+◌, ◌-◌, ◌*◌, ◌/◌, ◌<◌, ◌≤◌, ◌==◌, Bool, true, false, not, List, [], ◌∷◌, ◌++◌, length, map, get_or, Option, Some, None, Bor, refl, sym, ap, subst, ◌∙◌, arith, inl, inr}
use Rattle.std.specs.Prelude.{find, option_map, option_copied, unwrap_or, IfSome, All, Result, Ok, Err}
use Rattle.std.specs.Result.{OkIff, result_ok}
use Rattle.std.specs.List.{list_all, range_with_len}
use Rattle.std.proofs.lemmas.Bool.{and_parts, leb-true, eqb-true, not-true, cases_lt, cases_Bool}
use Rattle.std.proofs.lemmas.List.Elements.{All-head, All-tail}
use Rattle.std.proofs.lemmas.List.Sums.{AllPass-from_list_all}
use Rattle.std.proofs.lemmas.List.FromFn.{length-range_with_len, get_or-range_with_len}
use Rattle.std.proofs.lemmas.List.{get_or_past}
use Rattle.std.proofs.lemmas.Nat.Bits.{bit_at-zero}
use Rattle.sign_font.specs.declared.fault.SignFault.{SignFault}
use Rattle.sign_font.specs.declared.fault.SignFault.TheVariants.{BadSize, BadFont, BadCell, BadDefault, BadLimit}
use Rattle.sign_font.specs.Cell.{is_set}
use Rattle.sign_font.specs.Sign.{CellData, FontData, SignData, sized, cell_numbered}
use Rattle.sign_font.specs.Limits.{is_within, is_font, is_cell, has_cells, is_clear_behind, first_fault, has_size, has_fonts, has_defaults, has_pages}
use Rattle.sign_font.specs.Sound.{IsWithin, IsSoundCell, IsSoundFont, IsSound, IsSoundSize}

pub within : (low high number : ℕ) → is_within low high number ≡ true → IsWithin low high number
within low high number e =
    let parts = and_parts _ _ e in
    (leb-true low number parts.0, leb-true number high parts.1)

-- after the pixels no bit is set: neither a spare one nor one after the last octet
clear_behind : (octets : List ℕ) (pixels : ℕ) → is_clear_behind octets pixels ≡ true → (place : ℕ) → pixels ≤ place → is_set octets place ≡ false
clear_behind octets pixels e place h =
    let spare = 8 * length octets - pixels in
    elim (cases_lt place (8 * length octets)) [
      | inl inside ↦
          let k = place - pixels in
          let short : k < length (range_with_len pixels spare) = rw (length-range_with_len pixels spare) (omega arith) in
          let there : get_or (range_with_len pixels spare) k 0 ≡ place = get_or-range_with_len pixels spare k 0 (omega arith) ∙ (let s : pixels + k ≡ place = omega arith in s) in
          let clear = AllPass-from_list_all (λ p. not (is_set octets p)) (range_with_len pixels spare) e k 0 short in
          not-true (is_set octets place) (rw there at clear)
      | inr outside ↦
          let past : length octets ≤ place / 8 = omega arith in
          rw (get_or_past octets (place / 8) 0 past, bit_at-zero) refl
    ]

cell_sound : (height : ℕ) (cell : CellData) → is_cell height cell ≡ true → IsSoundCell height cell
cell_sound height cell e =
    let upper = and_parts _ _ e in
    let middle = and_parts _ _ upper.0 in
    let lower = and_parts _ _ middle.0 in
    record {
      number = within 1 65535 cell.number lower.0;
      width = within 1 64 cell.width lower.1;
      len = eqb-true (length cell.bits) ((height * cell.width + 7) / 8) middle.1;
      spare = clear_behind cell.bits (height * cell.width) upper.1;
    }

font_sound : (font : FontData) → is_font font ≡ true → has_cells font ≡ true → IsSoundFont font
font_sound font e f =
    let own = and_parts _ _ e in
    let upper = and_parts _ _ f in
    let lower = and_parts _ _ upper.0 in
    record {
      number = within 1 255 font.number own.0;
      height = within 1 64 font.height own.1;
      count = leb-true (length font.cells) 255 lower.0;
      each = λ k d h. cell_sound font.height (get_or font.cells k d) (AllPass-from_list_all (is_cell font.height) font.cells lower.1 k d h);
      rising = upper.1;
    }

-- no fault, no limit that isn't kept
kept : (a b c d e : Bool) → option_map (λ (l : Bool × SignFault). l.1) (find (λ (l : Bool × SignFault). not l.0) ((a, BadSize) ∷ (b, BadFont) ∷ (c, BadCell) ∷ (d, BadDefault) ∷ (e, BadLimit) ∷ [])) ≡ None
    → (a ≡ true) × (b ≡ true) × (c ≡ true) × (d ≡ true) × (e ≡ true)
kept true true true true true h = (refl, refl, refl, refl, refl)
kept true true true true false h = cc
kept true true true false e h = cc
kept true true false d e h = cc
kept true false c d e h = cc
kept false b c d e h = cc

-- a sign without a fault is within its limits
pub sound_from_none : (sign : SignData) → first_fault sign ≡ None → IsSound sign
sound_from_none sign none =
    let all = kept (has_size sign) (has_fonts sign) (list_all has_cells sign.fonts) (has_defaults sign) (has_pages sign) none in
    let size = and_parts _ _ all.0 in
    let fonts = and_parts _ _ all.1 in
    let listed = and_parts _ _ fonts.0 in
    let defaults = and_parts _ _ all.3 in
    let colours = and_parts _ _ defaults.1 in
    let places = and_parts _ _ colours.0 in
    let justs = and_parts _ _ places.0 in
    record {
      width = within 1 1024 sign.width size.0;
      height = within 1 128 sign.height size.1;
      count = within 1 16 (length sign.fonts) listed.0;
      each = λ k d h. font_sound (get_or sign.fonts k d) (AllPass-from_list_all is_font sign.fonts listed.1 k d h) (AllPass-from_list_all has_cells sign.fonts all.2 k d h);
      rising = fonts.1;
      font = defaults.0;
      line = within 2 5 sign.defaults.line justs.0;
      page = within 2 4 sign.defaults.page justs.1;
      fore = leb-true sign.defaults.fore 9 places.1;
      back = leb-true sign.defaults.back 9 colours.1;
      max_pages = within 1 255 sign.max_pages all.4;
    }

-- a sign whose fonts are those that were written
pub sound_made : (sign : SignData) (fonts : List FontData) → first_fault sign ≡ None → fonts ≡ sign.fonts → IsSound (record sign { fonts = fonts })
sound_made sign fonts none same = subst (λ made. IsSound (record sign { fonts = made })) (sym same) (sound_from_none sign none)

among : {X Y : Type 0} (P : Y → Type 0) (of : X → Y) (before : List X) (x : X) (behind : List X) → All P (map of (before ++ x ∷ behind)) → P (of x)
among P of [] x behind all = All-head P (of x) (map of behind) all
among P of (y ∷ before) x behind all = among P of before x behind (All-tail P (of y) (map of (before ++ x ∷ behind)) all)

-- what holds of each that is made of a list holds of what is made of one of them
pub All-among : {X Y : Type 0} (P : Y → Type 0) (of : X → Y) (before : List X) (x : X) (behind xs : List X) → before ++ x ∷ behind ≡ xs → All P (map of xs) → P (of x)
All-among P of before x behind xs e all = among P of before x behind (subst (λ ys. All P (map of ys)) (sym e) all)

-- what holds of each holds of what is found
pub found_holds : {X : Type 0} (P : X → Type 0) (test : X → Bool) (xs : List X) → All P xs → IfSome (find test xs) P
found_holds P test [] all = tt
found_holds P test (x ∷ xs) all =
    elim (cases_Bool (test x)) [
      | inl e ↦ rw e (All-head P x xs all)
      | inr e ↦ rw e (found_holds P test xs (All-tail P x xs all))
    ]

sized_sound : (font : FontData) → IsSoundFont font → (found : Option CellData) → IfSome found (IsSoundCell font.height) → IfSome (option_map (sized font) found) IsSoundSize
sized_sound font sound None cell = tt
sized_sound font sound (Some found) cell = (cell.width, sound.height)

-- a font of an accepted sign has cells of sound sizes
pub cell_sized : (font : FontData) (number : ℕ) → IsSoundFont font → IfSome (option_map (sized font) (cell_numbered font number)) IsSoundSize
cell_sized font number sound =
    sized_sound font sound (cell_numbered font number) (found_holds (IsSoundCell font.height) (λ cell. cell.number == number) font.cells sound.each)

sound_width : (height : ℕ) (found : Option CellData) → IfSome found (IsSoundCell height) → IfSome (option_map (λ (cell : CellData). cell.width) found) (IsWithin 1 64)
sound_width height None cell = tt
sound_width height (Some found) cell = cell.width

-- and of sound widths
pub width_sound : (font : FontData) (number : ℕ) → IsSoundFont font → IfSome (option_map (λ (cell : CellData). cell.width) (cell_numbered font number)) (IsWithin 1 64)
width_sound font number sound =
    sound_width font.height (cell_numbered font number) (found_holds (IsSoundCell font.height) (λ cell. cell.number == number) font.cells sound.each)

-- what holds of what is found holds of it where it is lent
pub lent_holds : {X : Type 0} (P : X → Type 0) (lent : Option (Bor X)) (found : Option X) → option_copied lent ≡ found → IfSome found P → IfSome lent (λ x. P x.now)
lent_holds P None found is holds = tt
lent_holds P (Some x) found is holds = rw (← is) at holds

-- a width table's 0 is for no cell
pub no_width : (width : Option ℕ) → IfSome width (IsWithin 1 64) → unwrap_or width 0 ≡ 0 → None ≡ width
no_width None sound is = refl
no_width (Some width) sound is = absurd (omega (arith, sound.0))

-- a number of a table that is no octet is for no cell
pub taken_width : {E : Type 0} (width : Option ℕ) → IfSome width (IsWithin 1 64) → (advance : ℕ) → advance ≡ unwrap_or width 32768
    → (octet : Result ℕ E) → OkIff octet (advance < 256) advance → result_ok octet ≡ width
taken_width None sound advance is (Ok octet) fits = absurd (omega (arith, fits.0, is))
taken_width None sound advance is (Err error) past = refl
taken_width (Some width) sound advance is (Ok octet) fits = ap Some (fits.1 ∙ is)
taken_width (Some width) sound advance is (Err error) past = absurd (past (omega (arith, is, sound.1)))

pub some_width : (width : Option ℕ) (result : ℕ) → result ≡ unwrap_or width 0 → (result ≡ 0 → ⊥) → Some result ≡ width
some_width None result is some = absurd (some is)
some_width (Some width) result is some = ap Some is
