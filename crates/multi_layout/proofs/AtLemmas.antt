-- What stands at an offset, read and looked up: how it is refused, and what is judged and read after it, each for its steps.
use Rattle.multi_layout.proofs.Common.{◌≡◌, ℕ, ◌+◌, ◌-◌, ◌^◌, ◌<◌, ◌≤◌, ◌*◌, inl, inr, List, [], ◌∷◌, ◌++◌, length, drop, map, slice_get, Option, Some, None, refl, sym, ap, subst, ◌∙◌, arith, Bool, slice_get_within, Counted, charged, IsPlain, SignData, SyntaxError, code_of, too_big, Meaning, Shows, meaning, offence, IsVerdict, pages_of, offence-faulty, IsTold, IsAt, at_end, Pass, IsPassOf, attributes_of, standing, cycle, ended_times, Result, Ok, Err}
use Rattle.std.specs.Prelude.{option_map}
use Rattle.std.proofs.lemmas.List.{length-drop}
use Rattle.multi_token.specs.Run.{look_steps}
use Rattle.multi_token.specs.Tokens.{item_of}
use Rattle.multi_token.specs.declared.source.Entry.{Entry}
use Rattle.multi_token.specs.declared.token.Token.{Token}
use Rattle.multi_token.specs.declared.token.Kind.TheVariants as kinds
use Rattle.multi_token.proofs.PlaceLemmas.{single_token}
use Rattle.sign_font.specs.Sign.{FontData}
use Rattle.multi_meaning.specs.Steps.{item_steps, looks}
use Rattle.multi_meaning.specs.Verdict.{Refused}
use Rattle.multi_meaning.specs.internal.ItemAt.{IsFaultRead, IsBracketedRead}
use Rattle.multi_meaning.proofs.StepsLemmas.{item_most, rest_most}
use Rattle.multi_judge.specs.declared.line.Line.{Line}
use Rattle.multi_layout.specs.internal.Bracketed.{IsBracketedJudged, JudgesBracketed}
use Rattle.multi_layout.specs.internal.Told.{IsRefused}
use Rattle.multi_judge.specs.internal.Judging.{IsBehind, ReadSoFar, entry_in}
use Rattle.multi_judge.proofs.ReadLemmas.{nothing_read, read_more, refused_at_bracket, refused_here, steps_at_bracket, steps_at_end, steps_here, accepted_at_end, cycle_at_end, kept_pages, kept_times}
use Rattle.multi_judge.proofs.LookLemmas.{added, looked_at, so_far_few}
use Rattle.multi_judge.proofs.RunReadLemmas.{octet_steps}
use Rattle.multi_judge.specs.internal.State.{whole_times}
use Rattle.multi_judge.proofs.FilledJudgedLemmas.{attributes_here}

-- what a look tells of the octet
pub entry_there : (font : FontData) (o : Option ℕ) (entry : Entry) → Some entry ≡ option_map (entry_in font) o → (o ≡ Some entry.octet) × (entry ≡ entry_in font entry.octet)
entry_there font None entry e = absurd cc
entry_there font (Some octet) entry e =
    let is : entry ≡ entry_in font octet = cc in
    let octet_is : entry.octet ≡ octet = ap (λ (x : Entry). x.octet) is in
    (ap Some (sym octet_is), is ∙ ap (entry_in font) (sym octet_is))

module _ (sign : SignData) (octets : List ℕ) (at : ℕ) (font : FontData) (entry : Entry) (IsKept : List Meaning → Type 0) (source : Counted) (i : IsAt sign octets at font (Some entry) IsKept source) (short : length octets < 2 ^ 32) where
  there : (slice_get octets at ≡ Some entry.octet) × (entry ≡ entry_in font entry.octet)
  there = entry_there font (slice_get octets at) entry i.entry

  pub here : slice_get octets at ≡ Some entry.octet
  here = there.0

  pub known : entry ≡ entry_in font entry.octet
  known = there.1

  pub before : at < length octets
  before = slice_get_within octets at entry.octet here

  few : i.before ≤ 9 * at
  few = (so_far_few i.so_far).1

  read : source.steps ≡ i.before + 2
  read = omega (arith, i.steps, before)

  -- the items so far, as they are meant
  abbrev so_far : List Meaning
  so_far = map meaning i.so_far.items

  -- an item of these octets that begins with a bracket, read and judged
  module _ (len : ℕ) (means : Meaning) (steps : ℕ) (item : IsBracketedRead octets at len means steps) (behind judged : Counted) (reads : behind ≡ charged source steps) (judges : judged ≡ charged behind (looks means)) where
    small : steps + looks means < 2 ^ 40
    small =
        let (t, at_is, len_is, token, meant, counted) = item in
        omega (arith, counted, item_most (length octets - at) (item_of octets t), token.len, token.within, short)

    pub same : judged.octets ≡ octets
    same = ap (λ (s : Counted). s.octets) judges ∙ ap (λ (s : Counted). s.octets) reads ∙ i.same

    taken : judged.steps ≡ i.before + 2 + steps + looks means
    taken =
        let one = added source behind (steps) reads (omega (arith, read, few, before, short, small)) in
        let two = added behind judged (looks means) judges (omega (arith, one, read, few, before, short, small)) in
        omega (arith, one, two, read)

    pub item_offends : (error : SyntaxError) → offence sign.line_fill sign so_far means ≡ Some (code_of error) → IsRefused sign octets (record { error = error; at = at }) judged
    item_offends error offends =
        let (t, at_is, len_is, token, meant, counted) = item in
        let is = ap (offence sign.line_fill sign so_far) meant ∙ offends in
        record {
          verdict = refused_here sign octets at i.before IsKept i.so_far t at_is token (code_of error) is;
          before_end = before;
          same = same;
          steps = omega (arith, taken, counted, steps_here sign octets at i.before IsKept i.so_far t at_is token (code_of error) is);
        }

    items_more : (IsNow : List Meaning → Type 0) → offence sign.line_fill sign so_far means ≡ None → IsNow (so_far ++ means ∷ []) → ReadSoFar sign octets (at + len) judged.steps IsNow
    items_more IsNow fine is =
        let (t, at_is, len_is, token, meant, counted) = item in
        let more = read_more sign octets at i.before IsKept i.so_far t at_is token IsNow (ap (offence sign.line_fill sign so_far) meant ∙ fine) (subst (λ (m : Meaning). IsNow (so_far ++ m ∷ [])) (sym meant) is) in
        let all : i.before + item_steps (length octets - at) (item_of octets t) ≡ judged.steps = omega (arith, taken, counted) in
        subst (λ (x : ℕ × ℕ). ReadSoFar sign octets (at + x.0) x.1 IsNow) (λ j. (len_is j, all j)) more

    pub item_behind : (IsNow : List Meaning → Type 0) → offence sign.line_fill sign so_far means ≡ None → IsNow (so_far ++ means ∷ []) → (font' : FontData) (next : Option Entry) (looked : Counted)
        → next ≡ option_map (entry_in font') (slice_get judged.octets (at + len)) → looked ≡ charged judged (look_steps (length judged.octets) (at + len)) → IsAt sign octets (at + len) font' next IsNow looked
    item_behind IsNow fine is font' next looked next_is step =
        let r = items_more IsNow fine is in
        let size = ap length same in
        looked_at r (omega (arith, short)) font' next judged looked (look_steps (length judged.octets) (at + len)) same next_is step (omega (arith, size))

    pub within_behind : (IsNow : List Meaning → Type 0) → offence sign.line_fill sign so_far means ≡ None → IsNow (so_far ++ means ∷ []) → at + len ≤ length judged.octets
    within_behind IsNow fine is = omega (arith, (items_more IsNow fine is).within, ap length same)

  -- an octet that stands for itself, which was looked up
  module _ (plain : IsPlain entry.octet) where
    abbrev token : Token
    token = record { at = at; len = 1; kind = kinds.Char entry.octet }

    pub octet_offends : (error : SyntaxError) → offence sign.line_fill sign so_far (Shows entry.octet) ≡ Some (code_of error) → IsRefused sign octets (record { error = error; at = at }) source
    octet_offends error offends =
        let stands = single_token octets at entry.octet (omega (arith, short)) here plain in
        record {
          verdict = refused_here sign octets at i.before IsKept i.so_far token refl stands (code_of error) offends;
          before_end = before;
          same = i.same;
          steps = omega (arith, read, octet_steps (length octets - at) entry.octet plain, steps_here sign octets at i.before IsKept i.so_far token refl stands (code_of error) offends);
        }

    pub octet_behind : (IsNow : List Meaning → Type 0) → offence sign.line_fill sign so_far (Shows entry.octet) ≡ None → IsNow (so_far ++ Shows entry.octet ∷ []) → IsBehind sign octets (at + 1) IsNow source
    octet_behind IsNow fine is =
        let stands = single_token octets at entry.octet (omega (arith, short)) here plain in
        let all : i.before + item_steps (length octets - at) (item_of octets token) ≡ source.steps = omega (arith, read, octet_steps (length octets - at) entry.octet plain) in
        record {
          so_far = subst (λ k. ReadSoFar sign octets (at + 1) k IsNow) all (read_more sign octets at i.before IsKept i.so_far token refl stands IsNow fine is);
          same = i.same;
        }

  -- a bracket with which no item begins, or a tag at fault
  pub fault_refused : (error : SyntaxError) (steps : ℕ) → IsFaultRead octets at (code_of error) steps → (behind : Counted) → behind ≡ charged source steps → IsRefused sign octets (record { error = error; at = at }) behind
  fault_refused error steps (inl (none, code, counted)) behind reads =
      let small = rest_most (drop at octets) in
      let size = length-drop at octets in
      let one = added source behind (steps) reads (omega (arith, read, few, before, short, small, size, counted)) in
      record {
        verdict = subst (λ c. IsVerdict sign octets (Refused c at)) (sym code) (refused_at_bracket sign octets at i.before IsKept i.so_far before none);
        before_end = before;
        same = ap (λ (s : Counted). s.octets) reads ∙ i.same;
        steps = omega (arith, one, read, counted, steps_at_bracket sign octets at i.before IsKept i.so_far none);
      }
  fault_refused error steps (inr (len, (t, at_is, len_is, token, meant, counted))) behind reads =
      let one = added source behind (steps) reads (omega (arith, read, few, before, short, counted, item_most (length octets - at) (item_of octets t), token.len, token.within)) in
      let is = ap (offence sign.line_fill sign so_far) meant ∙ offence-faulty (too_big sign.line_fill) sign so_far (code_of error) in
      record {
        verdict = refused_here sign octets at i.before IsKept i.so_far t at_is token (code_of error) is;
        before_end = before;
        same = ap (λ (s : Counted). s.octets) reads ∙ i.same;
        steps = omega (arith, one, read, counted, steps_here sign octets at i.before IsKept i.so_far t at_is token (code_of error) is);
      }

-- what begins with a bracket, read and judged in one
module _ (sign : SignData) (octets : List ℕ) (at : ℕ) (font : FontData) (entry : Entry) (words : Bool) (pass : Pass) (source : Counted) (i : IsAt sign octets at font (Some entry) (IsPassOf words sign pass) source) (short : length octets < 2 ^ 32) {new : Pass} {judged : Counted} where
  module _ {len : ℕ} {result : Result (Option Line) SyntaxError} (j : IsBracketedJudged words sign source at 0 len pass result new judged) where
    item : IsBracketedRead octets at len j.means j.steps
    item = subst (λ (os : List ℕ). IsBracketedRead os at len j.means j.steps) i.same (subst (IsBracketedRead source.octets at len j.means) (omega arith) j.item)

  pub bracket_refused : (error : SyntaxError) → JudgesBracketed words sign source at pass (Err error) new judged → IsRefused sign octets (record { error = error; at = at }) judged
  bracket_refused error (inl (steps, reads, fault)) =
      fault_refused sign octets at font entry (IsPassOf words sign pass) source i short error steps (subst (λ (os : List ℕ). IsFaultRead os at (code_of error) steps) i.same fault) judged reads
  bracket_refused error (inr (len, j)) =
      item_offends sign octets at font entry (IsPassOf words sign pass) source i short len j.means j.steps (item j) j.read judged j.reads j.judges error (j.item_judged (map meaning i.so_far.items) i.so_far.is)

  module _ {len : ℕ} {ended : Option Line} (j : IsBracketedJudged words sign source at 0 len pass (Ok ended) new judged) where
    pub bracket_within : at + len ≤ length judged.octets
    bracket_within =
        let (fine, of, apart, on) = j.item_judged (map meaning i.so_far.items) i.so_far.is in
        within_behind sign octets at font entry (IsPassOf words sign pass) source i short len j.means j.steps (item j) j.read judged j.reads j.judges (IsPassOf words sign new) fine of

    pub bracket_behind : (font' : FontData) (next : Option Entry) (looked : Counted) → next ≡ option_map (entry_in font') (slice_get judged.octets (at + len)) → looked ≡ charged judged (look_steps (length judged.octets) (at + len))
        → IsAt sign octets (at + len) font' next (IsPassOf words sign new) looked
    bracket_behind font' next looked next_is step =
        let (fine, of, apart, on) = j.item_judged (map meaning i.so_far.items) i.so_far.is in
        item_behind sign octets at font entry (IsPassOf words sign pass) source i short len j.means j.steps (item j) j.read judged j.reads j.judges (IsPassOf words sign new) fine of font' next looked next_is step

-- WHERE JUDGING BEGINS AND ENDS

-- nothing is read yet, but what stands first
pub at_start : (sign : SignData) (octets : List ℕ) (font : FontData) (IsKept : List Meaning → Type 0) → IsKept [] → (first : Option Entry) (old new : Counted) → old.octets ≡ octets → old.steps ≡ 0
    → first ≡ option_map (entry_in font) (slice_get octets 0) → new ≡ charged old (look_steps (length octets) 0) → IsAt sign octets 0 font first IsKept new
at_start sign octets font IsKept is first old new same fresh entry step = record {
  before = 0;
  so_far = nothing_read sign octets IsKept is;
  entry = entry;
  same = ap (λ (s : Counted). s.octets) step ∙ same;
  steps = omega (arith, added old new (look_steps (length octets) 0) step (omega (arith, fresh)), fresh);
}

-- the state has the pages and times of its items, and the values in force after them
told : (words : Bool) (sign : SignData) (pass : Pass) (items : List Meaning) → IsPassOf words sign pass items
    → (pass.state.pages ≡ pages_of items) × (pass.state.cycle ≡ cycle (ended_times sign items)) × (pass.state.attributes ≡ attributes_of (standing sign items))
told words sign pass items p = grind (arith, kept_pages, kept_times, attributes_here)

nothing_there : (font : FontData) (o : Option ℕ) → ◌≡◌ {A = Option Entry} None (option_map (entry_in font) o) → o ≡ None
nothing_there font None e = refl
nothing_there font (Some octet) e = absurd cc

-- what is told of a string where all its items are read
pub pass_told : (sign : SignData) (octets : List ℕ) (at : ℕ) (font : FontData) (pass : Pass) (words : Bool) (source : Counted) → IsAt sign octets at font None (IsPassOf words sign pass) source
    → IsTold sign octets pass.state.pages (whole_times pass.state) source
pass_told sign octets at font pass words source i =
    let end = at_end octets at i.so_far.within (nothing_there font (slice_get octets at) i.entry) in
    let (pages, times, attributes) = told words sign pass (map meaning i.so_far.items) i.so_far.is in
    record {
      verdict = accepted_at_end sign octets at i.before (IsPassOf words sign pass) i.so_far end pass.state.pages pages;
      cycle = cycle_at_end sign octets at i.before (IsPassOf words sign pass) i.so_far end pass.state times attributes;
      same = i.same;
      steps = omega (arith, i.steps, end, steps_at_end sign octets at i.before (IsPassOf words sign pass) i.so_far end);
    }
