-- A sign within its limits has no fault.
use Rattle.std.proofs.Common.{◌≡◌, ℕ, ◌+◌, ◌-◌, ◌*◌, ◌/◌, ◌≤◌, Bool, true, false, not, List, [], ◌∷◌, length, get_or, None, refl, arith}
use Rattle.std.specs.Prelude.{find, option_map}
use Rattle.std.specs.List.{list_all, range_with_len}
use Rattle.std.proofs.lemmas.Bool.{and_from, le-leb, eq-eqb, not_from_false}
use Rattle.std.proofs.lemmas.List.Sums.{list_all-from_AllPass}
use Rattle.std.proofs.lemmas.List.FromFn.{length-range_with_len, get_or-range_with_len}
use Rattle.sign_font.specs.declared.fault.SignFault.{SignFault}
use Rattle.sign_font.specs.declared.fault.SignFault.TheVariants.{BadSize, BadFont, BadCell, BadDefault, BadLimit}
use Rattle.sign_font.specs.Cell.{is_set}
use Rattle.sign_font.specs.Sign.{CellData, FontData, SignData}
use Rattle.sign_font.specs.Limits.{is_within, is_font, is_cell, has_cells, is_clear_behind, first_fault, has_size, has_fonts, has_defaults, has_pages}
use Rattle.sign_font.specs.Sound.{IsWithin, IsSoundCell, IsSoundFont, IsSound}

pub passes : (low high number : ℕ) → IsWithin low high number → is_within low high number ≡ true
passes low high number within = and_from _ _ (le-leb low number within.0) (le-leb number high within.1)

is_clear : (octets : List ℕ) (pixels : ℕ) → ((place : ℕ) → pixels ≤ place → is_set octets place ≡ false) → is_clear_behind octets pixels ≡ true
is_clear octets pixels clear =
    let spare = 8 * length octets - pixels in
    list_all-from_AllPass (λ place. not (is_set octets place)) (range_with_len pixels spare) (λ k d h.
    let inside = rw (length-range_with_len pixels spare) at h in
    rw (get_or-range_with_len pixels spare k d inside) (not_from_false _ (clear (pixels + k) (omega arith))))

cell_passes : (height : ℕ) (cell : CellData) → IsSoundCell height cell → is_cell height cell ≡ true
cell_passes height cell sound =
    let lower = and_from _ _ (passes 1 65535 cell.number sound.number) (passes 1 64 cell.width sound.width) in
    let middle = and_from _ _ lower (eq-eqb (length cell.bits) ((height * cell.width + 7) / 8) sound.len) in
    and_from _ _ middle (is_clear cell.bits (height * cell.width) sound.spare)

font_passes : (font : FontData) → IsSoundFont font → is_font font ≡ true
font_passes font sound = and_from _ _ (passes 1 255 font.number sound.number) (passes 1 64 font.height sound.height)

cells_pass : (font : FontData) → IsSoundFont font → has_cells font ≡ true
cells_pass font sound =
    let each = list_all-from_AllPass (is_cell font.height) font.cells (λ k d h. cell_passes font.height (get_or font.cells k d) (sound.each k d h)) in
    and_from _ _ (and_from _ _ (le-leb (length font.cells) 255 sound.count) each) sound.rising

-- where each limit is kept, there is no fault
none_outside : (a b c d e : Bool) → a ≡ true → b ≡ true → c ≡ true → d ≡ true → e ≡ true
    → option_map (λ (l : Bool × SignFault). l.1) (find (λ (l : Bool × SignFault). not l.0) ((a, BadSize) ∷ (b, BadFont) ∷ (c, BadCell) ∷ (d, BadDefault) ∷ (e, BadLimit) ∷ [])) ≡ None
none_outside a b c d e p q r s t = rw (p, q, r, s, t) refl

-- a sign within its limits has no fault
pub none_from_sound : (sign : SignData) → IsSound sign → first_fault sign ≡ None
none_from_sound sign sound =
    let size = and_from _ _ (passes 1 1024 sign.width sound.width) (passes 1 128 sign.height sound.height) in
    let listed = list_all-from_AllPass is_font sign.fonts (λ k d h. font_passes (get_or sign.fonts k d) (sound.each k d h)) in
    let fonts = and_from _ _ (and_from _ _ (passes 1 16 (length sign.fonts) sound.count) listed) sound.rising in
    let cells = list_all-from_AllPass has_cells sign.fonts (λ k d h. cells_pass (get_or sign.fonts k d) (sound.each k d h)) in
    let places = and_from _ _ (passes 2 5 sign.defaults.line sound.line) (passes 2 4 sign.defaults.page sound.page) in
    let known = and_from _ _ (and_from _ _ places (le-leb sign.defaults.fore 9 sound.fore)) (le-leb sign.defaults.back 9 sound.back) in
    let defaults = and_from _ _ sound.font known in
    none_outside (has_size sign) (has_fonts sign) (list_all has_cells sign.fonts) (has_defaults sign) (has_pages sign) size fonts cells defaults (passes 1 255 sign.max_pages sound.max_pages)
