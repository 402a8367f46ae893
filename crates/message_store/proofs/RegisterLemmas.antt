-- The registers of the CRC that are kept after texts.
use Rattle.std.proofs.Common.{◌≡◌, ◌<◌, ◌^◌, ◌⊎◌, ℕ, zero, suc, List, [], ◌∷◌, map, length, replicate, slice_set, slice_index_or, Option, None, Some, IfSome, inl, inr, refl, sym, ap, ◌∙◌, subst, arith}
use Rattle.std.proofs.lemmas.Bool.{cases_order}
use Rattle.std.proofs.lemmas.List.{get_or-set_same, get_or-set_other, length-replicate}
use Rattle.message_store.specs.declared.places.Span.{Span}
use Rattle.message_store.specs.internal.Pool.{AreRegisters, AreTexts, Reserve, no_span, register_behind, text_in}
use Rattle.message_store.proofs.PoolLemmas.{none-placed}

none_at : (count i : ℕ) → ◌≡◌ {A = Option ℕ} (slice_index_or (replicate count None) i None) None
none_at zero i = refl
none_at (suc count) zero = refl
none_at (suc count) (suc i) = none_at count i

pub none_kept : (count : ℕ) (texts : List (List ℕ)) → AreRegisters (replicate count None) texts
none_kept count texts i =
    let P : Option ℕ → Type 0 = λ kept. IfSome kept (λ register. register ≡ register_behind (slice_index_or texts i [])) in
    subst P (sym (none_at count i)) tt

forgotten : (registers : List (Option ℕ)) (i : ℕ) → slice_index_or (slice_set registers i None) i None ≡ None
forgotten [] i = refl
forgotten (r ∷ registers) zero = refl
forgotten (r ∷ registers) (suc i) = forgotten registers i

differ : (k i : ℕ) → (k < i) ⊎ (i < k) → k ≡ i → ⊥
differ k i apart same = elim apart [ inl less ↦ absurd (omega (arith, less, same)) | inr more ↦ absurd (omega (arith, more, same)) ]

-- the register of a text that is replaced is forgotten
pub forgets : (registers : List (Option ℕ)) (texts : List (List ℕ)) (i : ℕ) (text : List ℕ) → AreRegisters registers texts → AreRegisters (slice_set registers i None) (slice_set texts i text)
forgets registers texts i text are k =
    let now : List ℕ = slice_index_or (slice_set texts i text) k [] in
    let P : Option ℕ → Type 0 = λ kept. IfSome kept (λ register. register ≡ register_behind now) in
    elim (cases_order k i) [
      | inl same ↦ subst P (sym (ap (λ n. slice_index_or (slice_set registers i None) n None) same ∙ forgotten registers i)) tt
      | inr other ↦
          let Q : List ℕ → Type 0 = λ t. IfSome (slice_index_or registers k None) (λ register. register ≡ register_behind t) in
          subst P (sym (get_or-set_other registers i k None None (differ k i other))) (subst Q (sym (get_or-set_other texts i k text [] (differ k i other))) (are k))
    ]

-- the register after a text is kept
pub keeps : (registers : List (Option ℕ)) (texts : List (List ℕ)) (i register : ℕ) → i < length registers → register ≡ register_behind (slice_index_or texts i [])
    → AreRegisters registers texts → AreRegisters (slice_set registers i (Some register)) texts
keeps registers texts i register below is are k =
    let P : Option ℕ → Type 0 = λ kept. IfSome kept (λ r. r ≡ register_behind (slice_index_or texts k [])) in
    elim (cases_order k i) [
      | inl same ↦
          subst P (sym (ap (λ n. slice_index_or (slice_set registers i (Some register)) n None) same ∙ get_or-set_same registers i (Some register) None below))
          (is ∙ ap (λ n. register_behind (slice_index_or texts n [])) (sym same))
      | inr other ↦ subst P (sym (get_or-set_other registers i k (Some register) None (differ k i other))) (are k)
    ]

-- a register that is found is that after its text
pub found : (registers : List (Option ℕ)) (texts : List (List ℕ)) (i register : ℕ) → AreRegisters registers texts → slice_index_or registers i None ≡ Some register
    → register ≡ register_behind (slice_index_or texts i [])
found registers texts i register are is =
    let P : Option ℕ → Type 0 = λ kept. IfSome kept (λ r. r ≡ register_behind (slice_index_or texts i [])) in
    subst P is (are i)

-- empty texts, of which no register is kept
pub none-texts : (spans : List Span) (held : Reserve) (registers : List (Option ℕ)) (count room : ℕ) → spans ≡ replicate count no_span → held ≡ record { octets = []; room = room }
    → registers ≡ replicate count None → room < 2 ^ 32 → AreTexts spans held registers
none-texts spans held registers count room spans_is held_is registers_is narrow =
    let none : AreTexts (replicate count no_span) (record { octets = []; room = room }) (replicate count None) = record {
      placed = none-placed count;
      within = omega arith;
      narrow = narrow;
      each = length-replicate count None ∙ sym (length-replicate count no_span);
      behind = none_kept count (map (text_in []) (replicate count no_span));
    } in
    let P : List Span → Type 0 = λ ss. AreTexts ss held registers in
    let Q : Reserve → Type 0 = λ h. AreTexts (replicate count no_span) h registers in
    let R : List (Option ℕ) → Type 0 = AreTexts (replicate count no_span) (record { octets = []; room = room }) in
    subst P (sym spans_is) (subst Q (sym held_is) (subst R (sym registers_is) none))
