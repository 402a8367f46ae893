-- The next message that is explained, and faults.
use Rattle.std.proofs.Common.{◌≡◌, ◌≢◌, ℕ, ◌+◌, ◌-◌, ◌<◌, ◌≤◌, Bool, if◌then◌else◌, List, [], ◌∷◌, ◌++◌, length, Option, Some, refl, arith, sym, ap, ◌∙◌, subst, append_assoc, append-nil, inl, inr, take, drop, Ok, Err}
use Rattle.std.specs.Io.KnownBytes.{Appends, Consumes, IsAtEnd, prepend_known}
use Rattle.std.proofs.KnownBytes.{Appends-nil, Appends-trans, Consumes-nil, Consumes-trans}
use Rattle.std.proofs.lemmas.List.{length-append, length-drop}
use Rattle.message_report.specs.Explanation.{Explains}
use Rattle.message_report.specs.declared.format.Told.{Told}
use Rattle.tool_streams.specs.declared.fault.ToolFault.{ToolFault}
use Rattle.tool_streams.specs.declared.fault.ToolFault.TheVariants as faults
use Rattle.tool_streams.specs.declared.lines.LineStart.{LineStart}
use Rattle.sign_aids.specs.Explain.{Asking, BeginsAfter, ExplainsLines, IsMessageFault, refused_one}
use Rattle.sign_aids.specs.internal.Explaining.{EndsAfter, Explained, ExplainsLast, TellsLast, TellsMessage}
use Rattle.tool_streams.specs.Blocks.{EndsWith, IsLineEnd}
use Rattle.tool_streams.specs.Lines.{IsOneLine, octets_of, text_of}
use Rattle.tool_streams.specs.Streams.{WritesWhole}
use Rattle.tool_streams.proofs.BlockLemmas.{first_line, passes_front}
use Rattle.sign_aids.proofs.ExplainLemmas.{explained_one, lines_more, more_length, octets_more, one_length, one_line}
use Rattle.sign_aids.proofs.HeldLemmas.{all_held, held_long, held_whole, parts_more, quiet, text_short, writes_both}

module _ (asking : Asking) where
  -- ---- faults

  -- lines, and then a fault
  pub begins_more : (place place' : LineStart) (input between input' output middle output' : Option (List ℕ)) → (ready : List ℕ) (messages refused : ℕ) (mended : List Told) (fault : ToolFault) → Explained asking place place' input between output middle [] ready messages refused mended
      → BeginsAfter asking place' between input' middle output' ready fault → BeginsAfter asking place input input' output output' [] fault
  begins_more place place' input between input' output middle output' ready messages refused mended fault e f = record {
    lines = e.lines ++ f.lines;
    more = f.more;
    told = f.told;
    sent = e.sent ++ f.sent;
    unsent = f.unsent;
    left = f.left;
    reads = subst (Consumes input input') (sym (append_assoc (octets_of e.lines) (octets_of f.lines) f.more) ∙ ap (λ l. l ++ f.more) (sym (octets_more e.lines f.lines)))
        (Consumes-trans input between input' (octets_of e.lines) (octets_of f.lines ++ f.more) e.reads f.reads);
    room = let both = more_length e.lines f.lines in omega (arith, both, e.left, f.room);
    most = f.most;
    fault =
        let number : place'.number + length f.lines ≡ place.number + length (e.lines ++ f.lines) = let both = length-append e.lines f.lines in omega (arith, both, e.number) in
        subst (λ n. IsMessageFault n f.left f.more input' fault) number f.fault;
    last = f.last;
    text = e.text ++ f.text;
    tolds = mended ++ f.tolds;
    explains = subst (λ l. ExplainsLines asking place.number l (mended ++ f.tolds) (e.text ++ f.text)) (sym (append_assoc e.lines f.lines f.told))
        (lines_more asking place.number e.lines (f.lines ++ f.told) mended f.tolds e.text f.text e.explains (subst (λ n. ExplainsLines asking n (f.lines ++ f.told) f.tolds f.text) e.number f.explains));
    parts = parts_more e.sent f.sent [] ready f.unsent e.text f.text e.parts f.parts;
    writes = Appends-trans output middle output' e.sent f.sent e.writes f.writes;
    whole = f.whole;
  }

  -- something is read that has a fault, and what is ready is written, or the writer fails
  pub begins_after : (place : LineStart) (input input' output output' : Option (List ℕ)) → (taken ready : List ℕ) (fault e : ToolFault) → Consumes input input' taken → length taken ≤ place.left + 1
      → IsMessageFault place.number place.left taken input' fault → EndsAfter output output' ready fault e → BeginsAfter asking place input input' output output' ready e
  begins_after place input input' output output' taken ready fault e reads most is (inl (same, writes)) = subst (BeginsAfter asking place input input' output output' ready) (sym same) record {
    lines = [];
    more = taken;
    told = [];
    text = [];
    sent = ready;
    unsent = [];
    left = place.left;
    reads = reads;
    room = omega arith;
    most = most;
    fault = let number : place.number ≡ place.number + 0 = omega arith in subst (λ n. IsMessageFault n place.left taken input' fault) number is;
    last = inl refl;
    tolds = [];
    explains = (refl, refl);
    writes = writes;
    parts = refl;
    whole = λ other. refl;
  }
  begins_after place input input' output output' taken ready fault e reads most is (inr (same, sent, unsent, writes, all)) = subst (BeginsAfter asking place input input' output output' ready) (sym same) record {
    lines = [];
    more = taken;
    told = [];
    text = [];
    sent = sent;
    unsent = unsent;
    left = place.left;
    reads = reads;
    room = omega arith;
    most = most;
    fault = tt;
    last = inl refl;
    tolds = [];
    explains = (refl, refl);
    writes = writes;
    parts = all ∙ sym (append-nil ready);
    whole = λ other. absurd (other refl);
  }

  -- the writer fails at what is told of a line
  pub begins_one : (place : LineStart) (left : ℕ) (input input' output output' : Option (List ℕ)) → (line more : List ℕ) (kept : Told) (text ready : List ℕ) (e : ToolFault) → Consumes input input' ((line ++ 10 ∷ []) ++ more) → IsOneLine line
      → length line + 1 + left ≡ place.left → length more ≤ left + 1 → length (text_of line) ≤ 8300
      → Explains asking.telling asking.sign asking.most asking.name (place.number - asking.before) (text_of line) kept text → WritesWhole output output' (ready ++ text) (Err e)
      → BeginsAfter asking place input input' output output' ready e
  begins_one place left input input' output output' line more kept text ready e reads one room most short is (same, sent, unsent, writes, all) = subst (BeginsAfter asking place input input' output output' ready) (sym same) record {
    lines = line ∷ [];
    more = more;
    told = [];
    text = text;
    sent = sent;
    unsent = unsent;
    left = left;
    reads = subst (λ l. Consumes input input' (l ++ more)) (sym (append-nil (line ++ 10 ∷ []))) reads;
    room = omega (arith, one_length line, room);
    most = most;
    fault = tt;
    last = inl refl;
    tolds = kept ∷ [];
    explains = one_line asking place.number line kept text one short is;
    writes = writes;
    parts = all;
    whole = λ other. absurd (other refl);
  }

  -- the writer fails at what is told of what stands after the last line feed
  pub begins_last : (place : LineStart) (input input' output output' : Option (List ℕ)) → (line : List ℕ) (kept : Told) (text ready : List ℕ) (e : ToolFault) → Consumes input input' line → IsAtEnd input' → IsOneLine line
      → length line ≤ place.left + 1 → length (text_of line) ≤ 8300
      → Explains asking.telling asking.sign asking.most asking.name (place.number - asking.before) (text_of line) kept text → WritesWhole output output' (ready ++ text) (Err e)
      → BeginsAfter asking place input input' output output' ready e
  begins_last place input input' output output' line kept text ready e reads end one most short is (same, sent, unsent, writes, all) = subst (BeginsAfter asking place input input' output output' ready) (sym same) record {
    lines = [];
    more = line;
    told = line ∷ [];
    text = text;
    sent = sent;
    unsent = unsent;
    left = place.left;
    reads = reads;
    room = omega arith;
    most = most;
    fault = tt;
    last = inr (refl, refl, end);
    tolds = kept ∷ [];
    explains = one_line asking place.number line kept text one short is;
    writes = writes;
    parts = all;
    whole = λ other. absurd (other refl);
  }

  -- no memory for the sign
  pub begins_none : (place : LineStart) (input output : Option (List ℕ)) → BeginsAfter asking place input input output output [] faults.Memory
  begins_none place input output = record {
    lines = [];
    more = [];
    told = [];
    text = [];
    sent = [];
    unsent = [];
    left = place.left;
    reads = Consumes-nil input;
    room = omega arith;
    most = omega arith;
    fault = tt;
    last = inl refl;
    tolds = [];
    explains = (refl, refl);
    writes = Appends-nil output;
    parts = refl;
    whole = λ other. refl;
  }

  -- ---- the next message

  -- the first line of what is held is explained
  pub told_first : (place place' : LineStart) (input output output' : Option (List ℕ)) → (held held' ready ready' : List ℕ) (end : ℕ) (told : Told) → IsLineEnd (take place.left held) (Some end) → held' ≡ drop (end + 1) held
      → place'.number ≡ place.number + 1 → place'.left ≡ place.left - (end + 1) → length (text_of (take end (take place.left held))) ≤ 8300
      → TellsMessage asking place.number (take end (take place.left held)) ready ready' output output' (Ok told)
      → Explained asking place place' (prepend_known held input) (prepend_known held' input) output output' ready ready' 1 (if told.is_taken then 0 else 1) (told ∷ [])
  told_first place place' input output output' held held' ready ready' end told is passed number left short (text, explains, writes, taken) =
      let line = take end (take place.left held) in
      let (parts, size, fits, all) = first_line held place.left end is in
      let reads = passes_front (prepend_known held input) input held (line ++ 10 ∷ []) (drop (end + 1) held) [] parts (Consumes-nil (prepend_known held input)) in
      let here : Consumes (prepend_known held input) (prepend_known held' input) (line ++ 10 ∷ []) = subst (λ l. Consumes (prepend_known held input) (prepend_known l input) (line ++ 10 ∷ [])) (sym passed) reads in
      let refused : (if told.is_taken then 0 else 1) ≡ refused_one asking.sign line = ap (λ (b : Bool). if b then 0 else 1) taken in
      explained_one asking place place' (prepend_known held input) (prepend_known held' input) output output' line text ready ready' (if told.is_taken then 0 else 1) told here is.1 number (omega (arith, size, fits, left)) short explains refused writes

  -- it isn't, or the writer fails
  pub first_fails : (place : LineStart) (input output output' : Option (List ℕ)) → (held ready ready' : List ℕ) (end : ℕ) (e : ToolFault) → IsLineEnd (take place.left held) (Some end) → length held ≤ place.left + 1
      → length (text_of (take end (take place.left held))) ≤ 8300 → TellsMessage asking place.number (take end (take place.left held)) ready ready' output output' (Err e)
      → BeginsAfter asking place (prepend_known held input) input output output' ready e
  first_fails place input output output' held ready ready' end e is most short (inl ends) =
      begins_after place (prepend_known held input) input output output' held ready faults.Memory e (all_held input held) most tt ends
  first_fails place input output output' held ready ready' end e is most short (inr (text, kept, explains, fails)) =
      let line = take end (take place.left held) in
      let (parts, size, fits, all) = first_line held place.left end is in
      begins_one place (place.left - (end + 1)) (prepend_known held input) input output output' line (drop (end + 1) held) kept text ready e (subst (Consumes (prepend_known held input) input) parts (all_held input held)) is.1
      (omega (arith, size, fits)) (omega (arith, most, fits, length-drop (end + 1) held)) short explains fails

  -- what stands after the last line feed is explained
  pub last_told : (place : LineStart) (input input' output middle output' : Option (List ℕ)) → (held taken ready : List ℕ) (number : ℕ) (told : Told) → Consumes input input' taken → IsAtEnd input' → IsOneLine taken → 0 < length taken
      → take 8301 held ≡ take 8301 taken → number ≡ place.number → Appends output middle ready → TellsLast asking number held middle output' (Ok told)
      → ExplainsLast asking place input input' output output' ready (if told.is_taken then 0 else 1) (told ∷ [])
  last_told place input input' output middle output' held taken ready number told reads end one some front same first (short, (text, explains, last, is)) =
      let all = held_whole held taken front short in
      let here = subst (λ n. Explains asking.telling asking.sign asking.most asking.name (n - asking.before) (text_of held) told text) same explains in
      record {
        line = held;
        text = text;
        reads = subst (Consumes input input') (sym all) reads;
        end = end;
        some = subst (λ l. 0 < length l) (sym all) some;
        explains = one_line asking place.number held told text (subst IsOneLine (sym all) one) (omega (arith, short, text_short held)) here;
        writes = Appends-trans output middle output' ready text first last;
        refused_is = ap (λ (b : Bool). if b then 0 else 1) is;
      }

  -- it isn't, or the writer fails
  pub last_fails : (place : LineStart) (input input' output middle output' : Option (List ℕ)) → (held taken ready : List ℕ) (number : ℕ) (e : ToolFault) → Consumes input input' taken → IsAtEnd input' → IsOneLine taken → length taken ≤ place.left
      → take 8301 held ≡ take 8301 taken → number ≡ place.number → Appends output middle ready → TellsLast asking number held middle output' (Err e)
      → BeginsAfter asking place input input' output output' ready e
  last_fails place input input' output middle output' held taken ready number e reads end one few front same first (inl (is, long, none)) =
      begins_after place input input' output output' taken ready (faults.LineTooLong number) e reads (omega (arith, few)) (inr (same, one, few, end, held_long held taken front long)) (inl (is, quiet output middle output' ready first none))
  last_fails place input input' output middle output' held taken ready number e reads end one few front same first (inr (short, inl (is, none))) =
      begins_after place input input' output output' taken ready faults.Memory e reads (omega (arith, few)) tt (inl (is, quiet output middle output' ready first none))
  last_fails place input input' output middle output' held taken ready number e reads end one few front same first (inr (short, inr (text, kept, explains, fails))) =
      let all = held_whole held taken front short in
      let here = subst (λ n. Explains asking.telling asking.sign asking.most asking.name (n - asking.before) (text_of held) kept text) same explains in
      begins_last place input input' output output' held kept text ready e (subst (Consumes input input') (sym all) reads) end (subst IsOneLine (sym all) one) (subst (λ l. length l ≤ place.left + 1) (sym all) (omega (arith, few)))
      (omega (arith, short, text_short held)) here (writes_both output middle output' ready text (Err e) first fails)

  -- there is a fault where more is read
  pub read_fails : (place : LineStart) (input input' output output' : Option (List ℕ)) → (ready : List ℕ) (e : ToolFault) → ((line : ℕ) → e ≢ faults.BadLine line) → EndsWith input input' place.number place.left e → Appends output output' ready
      → BeginsAfter asking place input input' output output' ready e
  read_fails place input input' output output' ready (faults.LineTooLong n) other (same, (taken, reads, one, fits, long)) writes =
      let count = length-append taken (10 ∷ []) in
      begins_after place input input' output output' (taken ++ 10 ∷ []) ready (faults.LineTooLong n) (faults.LineTooLong n) reads (omega (arith, count, fits))
      (inl (taken ++ 10 ∷ [], [], sym (append-nil (taken ++ 10 ∷ [])), (same, (taken, refl, one, omega (arith, count, fits), long)))) (inl (refl, writes))
  read_fails place input input' output output' ready (faults.BadLine n) other ends writes = absurd (other n refl)
  read_fails place input input' output output' ready faults.InputTooLong other (taken, octet, reads, one, full) writes =
      begins_after place input input' output output' (taken ++ octet ∷ []) ready faults.InputTooLong faults.InputTooLong reads (omega (arith, length-append taken (octet ∷ []), full)) (taken, octet, refl, one, full) (inl (refl, writes))
  read_fails place input input' output output' ready faults.Read other (taken, reads, fits, one) writes =
      begins_after place input input' output output' taken ready faults.Read faults.Read reads (omega (arith, fits)) one (inl (refl, writes))
  read_fails place input input' output output' ready faults.Memory other (taken, reads, fits, any) writes =
      begins_after place input input' output output' taken ready faults.Memory faults.Memory reads (omega (arith, fits)) tt (inl (refl, writes))
  read_fails place input input' output output' ready faults.Write other (taken, reads, fits, bad) writes = absurd (let wrong : faults.Write ≡ faults.Memory = bad in cc)
  read_fails place input input' output output' ready faults.BadSign other (taken, reads, fits, bad) writes = absurd (let wrong : faults.BadSign ≡ faults.Memory = bad in cc)
  read_fails place input input' output output' ready (faults.SignRefused n) other (taken, reads, fits, bad) writes = absurd (let wrong : faults.SignRefused n ≡ faults.Memory = bad in cc)
