-- The palette, one colour after the other.
use Rattle.std.proofs.Common.{◌≡◌, ℕ, suc, ◌+◌, Bool, true, false, ◌++◌, length, refl, ap, ◌∙◌, arith}
use Rattle.std.specs.List.{flat_map, range_with_len}
use Rattle.octet_text.proofs.TextLemmas.{flat_map_more}
use Rattle.page_picture.specs.Palette.{palette, shares, shine}

pub numbers_more : (classic : Bool) (n : ℕ) → flat_map (shares classic) (range_with_len 0 (n + 1)) ≡ flat_map (shares classic) (range_with_len 0 n) ++ shares classic n
numbers_more classic n =
    let next : n + 1 ≡ suc n = omega arith in
    ap (λ k. flat_map (shares classic) (range_with_len 0 k)) next ∙ flat_map_more (shares classic) 0 n n (omega arith)

pub is_palette : (classic : Bool) → flat_map (shares classic) (range_with_len 0 16) ≡ palette classic
unfolding palette
is_palette classic = refl

pub count : (classic : Bool) → length (palette classic) ≡ 48
unfolding palette shares shine
count true = refl
count false = refl
