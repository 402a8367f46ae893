-- What is held and what is ready, where messages are explained.
use Rattle.std.proofs.Common.{◌≡◌, ◌≢◌, ℕ, ◌+◌, ◌-◌, ◌<◌, ◌≤◌, List, [], ◌∷◌, ◌++◌, length, Option, Some, refl, arith, sym, ap, ◌∙◌, subst, append_assoc, append-nil, inl, inr, take, drop, Result, Ok, Err}
use Rattle.std.specs.Io.KnownBytes.{Appends, Consumes, prepend_known}
use Rattle.std.proofs.KnownBytes.{Appends-trans, Consumes-nil, Keeps-refl}
use Rattle.std.specs.Io.BufRead.{ends_with_byte}
use Rattle.std.proofs.lemmas.Bool.{cases_Bool}
use Rattle.std.proofs.lemmas.List.{length-append, length-take, take_all}
use Rattle.std.proofs.lemmas.List.Elements.{All-nil}
use Rattle.tool_streams.specs.declared.fault.ToolFault.{ToolFault}
use Rattle.tool_streams.specs.declared.fault.ToolFault.TheVariants as faults
use Rattle.tool_streams.specs.declared.lines.LineStart.{LineStart}
use Rattle.sign_aids.specs.Explain.{IsMessageFault}
use Rattle.sign_aids.specs.internal.Explaining.{IsHeld, WritesFront}
use Rattle.tool_streams.specs.Blocks.{IsLineEnd}
use Rattle.tool_streams.specs.Lines.{input_limit, text_of}
use Rattle.tool_streams.specs.Streams.{WritesWhole}
use Rattle.tool_streams.proofs.BlockLemmas.{Consumes-all_held, first_line, reads_behind}

-- a text is no longer than its line
pub text_short : (line : List ℕ) → length (text_of line) ≤ length line
text_short line = elim (cases_Bool (ends_with_byte 13 line)) [
  | inl is ↦ rw is (omega (arith, length-take (length line - 1) line))
  | inr isn't ↦ rw isn't (omega arith)
]

-- ---- what is held

-- all that is held is taken
pub all_held : (input : Option (List ℕ)) (held : List ℕ) → Consumes (prepend_known held input) input held
all_held input held = Consumes-all_held input input held (Keeps-refl input)

-- nothing is held yet
pub held_none : (place : LineStart) (held : List ℕ) → held ≡ [] → place.number + place.left ≤ input_limit + 1 → IsHeld place held 0
held_none place held is few = subst (λ l. IsHeld place l 0) (sym is) (record { few = few; most = omega arith; looked = omega arith; none = All-nil (λ c. c ≢ 10) })

-- more is read after what is held
pub read_behind : (input input' : Option (List ℕ)) (held held' more : List ℕ) → Consumes input input' more → held' ≡ held ++ more → Consumes (prepend_known held input) (prepend_known held' input') []
read_behind input input' held held' more took grown =
    subst (λ l. Consumes (prepend_known held input) (prepend_known l input') []) (sym grown) (reads_behind (prepend_known held input) input input' held more [] took (Consumes-nil (prepend_known held input)))

-- the first line of what is held has too many octets
pub long_first : (place : LineStart) (input : Option (List ℕ)) (held : List ℕ) (end : ℕ) → IsLineEnd (take place.left held) (Some end) → 8300 < length (text_of (take end (take place.left held)))
    → IsMessageFault place.number place.left held input (faults.LineTooLong place.number)
long_first place input held end is long =
    let line = take end (take place.left held) in
    let (parts, size, fits, all) = first_line held place.left end is in
    inl (line ++ 10 ∷ [], drop (end + 1) held, parts, (refl, (line, refl, is.1, omega (arith, size, fits, length-append line (10 ∷ [])), long)))

-- what is held where the input ends within a line is all of it, or it has too many octets
pub held_whole : (held taken : List ℕ) → take 8301 held ≡ take 8301 taken → length held ≤ 8300 → held ≡ taken
held_whole held taken front short =
    let count : length (take 8301 held) ≡ length (take 8301 taken) = ap length front in
    sym (take_all 8301 held (omega (arith, short))) ∙ front ∙ take_all 8301 taken (omega (arith, count, short, length-take 8301 held, length-take 8301 taken))

pub held_long : (held taken : List ℕ) → take 8301 held ≡ take 8301 taken → 8300 < length held → 8300 < length taken
held_long held taken front long =
    let count : length (take 8301 held) ≡ length (take 8301 taken) = ap length front in
    omega (arith, count, long, length-take 8301 held, length-take 8301 taken)

-- ---- what is written

-- what was ready is written, and then a text, or its beginning
pub writes_both : (output middle output' : Option (List ℕ)) (ready text : List ℕ) (result : Result (Unit {0}) ToolFault) → Appends output middle ready → WritesWhole middle output' text result
    → WritesFront output output' (ready ++ text) [] result
writes_both output middle output' ready text (Ok done) first last = (ready ++ text, Appends-trans output middle output' ready text first last, append-nil (ready ++ text))
writes_both output middle output' ready text (Err e) first (same, sent, unsent, writes, all) =
    (same, ready ++ sent, unsent, Appends-trans output middle output' ready sent first writes, append_assoc ready sent unsent ∙ ap (λ l. ready ++ l) all)

-- the writer fails at what was ready, before a text
pub writes_part : (output output' : Option (List ℕ)) (ready text : List ℕ) (e : ToolFault) → WritesWhole output output' ready (Err e) → WritesWhole output output' (ready ++ text) (Err e)
writes_part output output' ready text e (same, sent, unsent, writes, all) =
    (same, sent, unsent ++ text, writes, sym (append_assoc sent unsent text) ∙ ap (λ l. l ++ text) all)

-- nothing more is written
pub quiet : (output middle output' : Option (List ℕ)) (ready : List ℕ) → Appends output middle ready → Appends middle output' [] → Appends output output' ready
quiet output middle output' ready first last = subst (Appends output output') (append-nil ready) (Appends-trans output middle output' ready [] first last)

-- two parts of what is written, one after the other
pub parts_more : (sent sent' ready ready' ready'' text text' : List ℕ) → sent ++ ready' ≡ ready ++ text → sent' ++ ready'' ≡ ready' ++ text' → (sent ++ sent') ++ ready'' ≡ ready ++ (text ++ text')
parts_more sent sent' ready ready' ready'' text text' e f =
    append_assoc sent sent' ready'' ∙ ap (λ l. sent ++ l) f ∙ sym (append_assoc sent ready' text') ∙ ap (λ l. l ++ text') e ∙ append_assoc ready text text'

-- what is written in all
pub all_written : (output middle output' : Option (List ℕ)) → (sent ready text more : List ℕ) → sent ++ ready ≡ text → Appends output middle sent → Appends middle output' (ready ++ more) → Appends output output' (text ++ more)
all_written output middle output' sent ready text more parts writes last =
    subst (Appends output output') (sym (append_assoc sent ready more) ∙ ap (λ l. l ++ more) parts) (Appends-trans output middle output' sent (ready ++ more) writes last)
