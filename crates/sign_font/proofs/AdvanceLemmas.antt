-- Runs by a table of what octets take: what they take is the width of their text.
use Rattle.std.proofs.Common.{◌≡◌, ℕ, ◌+◌, ◌<◌, List, [], ◌∷◌, true, false, Option, Some, None, refl, ap, ◌∙◌, inl, inr, arith}
use Rattle.std.specs.Prelude.{slice_index, IfSome, unwrap_or, if◌then◌else◌}
use Rattle.std.specs.List.{All}
use Rattle.std.proofs.lemmas.Bool.{cases_Bool}
use Rattle.std.proofs.lemmas.List.Sums.{sum_by-cons}
use Rattle.std.proofs.lemmas.List.Elements.{All-nil, All-cons, All-head, All-tail}
use Rattle.multi_token.specs.Run.{taken}
use Rattle.multi_token.specs.Spelling.{IsPlain, is_bracket}
use Rattle.sign_font.specs.Advance.{AreAdvances}
use Rattle.sign_font.specs.Sound.{IsWithin}
use Rattle.sign_font.specs.Text.{HasWidth}

abbrev pub IsOctet : ℕ → Type 0
IsOctet octet = octet < 256

module _ (width_of : ℕ → Option ℕ) (sound : (octet : ℕ) → IfSome (width_of octet) (IsWithin 1 64)) (table : List ℕ) (tables : AreAdvances width_of table) where
  -- an octet that takes no more than a line can have ends no run and has a width
  pub record HasCell (octet : ℕ) : Type 0 where
    pub plain : IsPlain octet
    pub width : ℕ
    pub found : width_of octet ≡ Some width
    pub within : IsWithin 1 64 width
    pub takes : slice_index table octet ≡ width

  with_width : (octet : ℕ) (w : Option ℕ) → width_of octet ≡ w → IfSome w (IsWithin 1 64) → is_bracket octet ≡ false → slice_index table octet ≡ unwrap_or w 32768 → slice_index table octet < 32768 → HasCell octet
  with_width octet None is within goes takes small = absurd (omega arith)
  with_width octet (Some w) is within goes takes small = record {
    plain = (λ e. absurd (let b : is_bracket octet ≡ true = rw e refl in cc), λ e. absurd (let b : is_bracket octet ≡ true = rw e refl in cc));
    width = w;
    found = is;
    within = within;
    takes = takes;
  }

  pub has_cell : (octet : ℕ) → octet < 256 → slice_index table octet < 32768 → HasCell octet
  has_cell octet is small = elim (cases_Bool (is_bracket octet)) [
    | inl ends ↦
        let takes : slice_index table octet ≡ 32768 = tables octet is ∙ ap (λ b. if b then 32768 else unwrap_or (width_of octet) 32768) ends in
        absurd (omega arith)
    | inr goes ↦
        let takes : slice_index table octet ≡ unwrap_or (width_of octet) 32768 = tables octet is ∙ ap (λ b. if b then 32768 else unwrap_or (width_of octet) 32768) goes in
        with_width octet (width_of octet) refl (sound octet) goes takes small
  ]

  -- octets that go into a room have a width, which is what they take
  pub run_width : (gap : ℕ) (octets : List ℕ) → All IsOctet octets → taken table gap octets < 32768 → HasWidth width_of gap octets (taken table gap octets)
  run_width gap [] each small = record { widths = []; each = refl; within = All-nil (IsWithin 1 64); together = refl }
  run_width gap (c ∷ cs) each small =
      let first = sum_by-cons (λ octet. gap + slice_index table octet) c cs in
      let cell = has_cell c (All-head IsOctet c cs each) (omega (arith, first)) in
      let rest = run_width gap cs (All-tail IsOctet c cs each) (omega (arith, first)) in
      let size = sum_by-cons (λ width. gap + width) cell.width rest.widths in
      record {
        widths = cell.width ∷ rest.widths;
        each = let found = cell.found in let others = rest.each in cc;
        within = All-cons (IsWithin 1 64) cell.width rest.widths cell.within rest.within;
        together = omega (arith, first, size, rest.together, cell.takes);
      }

  -- none of them is a bracket
  pub run_plain : (gap : ℕ) (octets : List ℕ) → All IsOctet octets → taken table gap octets < 32768 → All IsPlain octets
  run_plain gap [] each small = All-nil IsPlain
  run_plain gap (c ∷ cs) each small =
      let first = sum_by-cons (λ octet. gap + slice_index table octet) c cs in
      All-cons IsPlain c cs (has_cell c (All-head IsOctet c cs each) (omega (arith, first))).plain (run_plain gap cs (All-tail IsOctet c cs each) (omega (arith, first)))
