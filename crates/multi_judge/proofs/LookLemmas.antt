-- What stands after the items so far, read and looked up for its steps.
use Rattle.multi_judge.proofs.Common.{◌≡◌, ℕ, ◌+◌, ◌*◌, ◌^◌, ◌<◌, ◌≤◌, List, length, slice_get, Option, Some, None, refl, ap, ◌∙◌, arith, option_map, Meaning, SignData, FontData, ReadSoFar, IsAt, entry_in, Counted, charged, slice_index, get_or_from_slice_get, entry_of, look_steps, AreAdvances, width_numbered, items_bounds, rules, Entry}

-- what stands at an offset, looked up in the table of a font
pub entry_found : (font : FontData) (table : List ℕ) → AreAdvances (width_numbered font) table → (octets : List ℕ) (at : ℕ) → ((k : ℕ) → slice_index octets k < 2 ^ 8)
    → option_map (entry_of table) (slice_get octets at) ≡ option_map (entry_in font) (slice_get octets at)
entry_found font table tables octets at each = by (slice_get octets at) refl
  where
    by : (o : Option ℕ) → slice_get octets at ≡ o → option_map (entry_of table) o ≡ option_map (entry_in font) o
    by None e = refl
    by (Some octet) e =
        let small : octet < 256 = omega (arith, each at, get_or_from_slice_get octets at octet 0 e) in
        ap (λ n. let entry : Entry = record { octet = octet; advance = n } in Some entry) (tables octet small)

-- the items so far took few steps
pub so_far_few : {sign : SignData} {octets : List ℕ} {at steps : ℕ} {IsKept : List Meaning → Type 0} (r : ReadSoFar sign octets at steps IsKept) → (at ≤ steps) × (steps ≤ 9 * at)
so_far_few {sign} {octets} r =
    let bounds = items_bounds sign (length octets) r.items r.each r.none (omega (arith, r.place, r.within)) in
    (omega (arith, bounds, r.place, r.taken), omega (arith, bounds, r.place, r.taken))

-- no count stops below this
pub added : (source new : Counted) (k : ℕ) → new ≡ charged source k → source.steps + k < 2 ^ 64 → new.steps ≡ source.steps + k
added source new k is small = search rules

-- what stands after the items so far is read and looked up last
pub looked_at : {sign : SignData} {octets : List ℕ} {at steps : ℕ} {IsKept : List Meaning → Type 0} (r : ReadSoFar sign octets at steps IsKept) → length octets < 2 ^ 32 → (font : FontData) (next : Option Entry) (old new : Counted) (k : ℕ)
    → old.octets ≡ octets → next ≡ option_map (entry_in font) (slice_get old.octets at) → new ≡ charged old k → old.steps + k ≡ steps + look_steps (length octets) at
    → IsAt sign octets at font next IsKept new
looked_at {sign} {octets} {at} {steps} r short font next old new k same entry is more = record {
  before = steps;
  so_far = r;
  entry = entry ∙ ap (λ os. option_map (entry_in font) (slice_get os at)) same;
  same = ap (λ (s : Counted). s.octets) is ∙ same;
  steps = omega (arith, added old new k is (let few = so_far_few r in let within = r.within in omega (arith, more, few, within, short)), more);
}
