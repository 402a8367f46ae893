-- Messages that are explained one after the other.
use Rattle.std.proofs.Common.{◌≡◌, ℕ, ◌+◌, ◌-◌, ◌^◌, ◌<◌, ◌≤◌, min, Bool, true, false, if◌then◌else◌, List, [], ◌∷◌, ◌++◌, length, Option, None, Some, refl, arith, sym, ap, ◌∙◌, subst, append_assoc, append-nil, Ok}
use Rattle.std.specs.Io.KnownBytes.{Appends, Consumes, IsAtEnd, prepend_known}
use Rattle.std.proofs.KnownBytes.{Appends-nil, Appends-trans, Consumes-trans}
use Rattle.std.proofs.lemmas.Grind.{flat_map-append}
use Rattle.std.proofs.lemmas.List.{length-append}
use Rattle.std.proofs.lemmas.List.Sums.{sum_by-append}
use Rattle.message_cures.specs.declared.mending.Kind.{Kind}
use Rattle.message_report.specs.Explanation.{Explains}
use Rattle.message_report.specs.declared.format.Told.{Told}
use Rattle.tool_streams.specs.declared.lines.LineStart.{LineStart}
use Rattle.sign_aids.specs.declared.explain.Counts.{Counts}
use Rattle.sign_aids.specs.Explain.{Asking, ExplainedAll, ExplainsLines, proposed_one, refused_of, refused_one}
use Rattle.sign_aids.specs.internal.Explaining.{Explained, ExplainsLast, IsCounted, WritesFront}
use Rattle.tool_streams.specs.Lines.{IsOneLine, octets_of, text_of}
use Rattle.tool_streams.proofs.BlockLemmas.{takes_nothing}
use Rattle.sign_tool.specs.Serving.{last_line}
use Rattle.sign_aids.proofs.HeldLemmas.{all_written, parts_more}

pub octets_more : (lines more : List (List ℕ)) → octets_of (lines ++ more) ≡ octets_of lines ++ octets_of more
octets_more lines more = flat_map-append (λ line. line ++ 10 ∷ []) lines more

-- the octets of one line, and of lines and more lines
pub one_length : (line : List ℕ) → length (octets_of (line ∷ [])) ≡ length line + 1
one_length line = ap length (append-nil (line ++ 10 ∷ [])) ∙ length-append line (10 ∷ [])

pub more_length : (lines more : List (List ℕ)) → length (octets_of (lines ++ more)) ≡ length (octets_of lines) + length (octets_of more)
more_length lines more = ap length (octets_more lines more) ∙ length-append (octets_of lines) (octets_of more)

-- what some octets are read for has some octets, and is then the last line
pub last_is : (line : List ℕ) → 0 < length line → last_line line ≡ line ∷ []
last_is [] some = absurd (omega arith)
last_is (c ∷ cs) some = refl

module _ (asking : Asking) where
  -- two explanations, one after the other
  pub lines_more : (number : ℕ) (lines more : List (List ℕ)) (mended further : List Told) (text next : List ℕ) → ExplainsLines asking number lines mended text
      → ExplainsLines asking (number + length lines) more further next → ExplainsLines asking number (lines ++ more) (mended ++ further) (text ++ next)
  lines_more number [] more mended further text next (zero, none) explains =
      let same : number + 0 ≡ number = omega arith in
      let count : further ≡ mended ++ further = ap (λ l. l ++ further) (sym zero) in
      subst (λ n. ExplainsLines asking number more n (text ++ next)) count
      (subst (λ t. ExplainsLines asking number more further (t ++ next)) (sym none) (subst (λ n. ExplainsLines asking n more further next) same explains))
  lines_more number (line ∷ lines) more mended further text next (one, short, (first, rest, kept, count, is, others, counted, parts)) explains =
      let same : number + length (line ∷ lines) ≡ (number + 1) + length lines = omega arith in
      let behind = lines_more (number + 1) lines more count further rest next others (subst (λ n. ExplainsLines asking n more further next) same explains) in
      (one, short, (first, rest ++ next, kept, count ++ further, is, behind, ap (λ l. l ++ further) counted, ap (λ t. t ++ next) parts ∙ append_assoc first rest next))

  -- one line
  pub one_line : (number : ℕ) (line : List ℕ) (kept : Told) (text : List ℕ) → IsOneLine line → length (text_of line) ≤ 8300
      → Explains asking.telling asking.sign asking.most asking.name (number - asking.before) (text_of line) kept text → ExplainsLines asking number (line ∷ []) (kept ∷ []) text
  one_line number line kept text one short is = (one, short, (text, [], kept, [], is, (refl, refl), refl, sym (append-nil text)))

  -- nothing is read yet
  pub explained_none : (place : LineStart) (input output : Option (List ℕ)) → (held ready : List ℕ) → held ≡ [] → ready ≡ []
      → Explained asking place place input (prepend_known held input) output output [] ready 0 0 []
  explained_none place input output held ready is empty =
      subst (λ l. Explained asking place place input (prepend_known l input) output output [] ready 0 0 []) (sym is)
      (subst (λ l. Explained asking place place input (prepend_known [] input) output output [] l 0 0 []) (sym empty) record {
        lines = [];
        text = [];
        sent = [];
        reads = takes_nothing input;
        number = omega arith;
        left = omega arith;
        explains = (refl, refl);
        writes = Appends-nil output;
        parts = refl;
        messages_is = refl;
        refused_is = refl;
      })

  -- what was ready is written, and more is read
  pub explained_more_read : (place : LineStart) (input input' output output' : Option (List ℕ)) → (ready : List ℕ) → Consumes input input' [] → Appends output output' ready
      → Explained asking place place input input' output output' ready [] 0 0 []
  explained_more_read place input input' output output' ready reads writes = record {
    lines = [];
    text = [];
    sent = ready;
    reads = reads;
    number = omega arith;
    left = omega arith;
    explains = (refl, refl);
    writes = writes;
    parts = refl;
    messages_is = refl;
    refused_is = refl;
  }

  -- one line
  pub explained_one : (place place' : LineStart) (input input' output output' : Option (List ℕ)) → (line text ready ready' : List ℕ) (refused : ℕ) (kept : Told) → Consumes input input' (line ++ 10 ∷ []) → IsOneLine line
      → place'.number ≡ place.number + 1 → length line + 1 + place'.left ≡ place.left → length (text_of line) ≤ 8300
      → Explains asking.telling asking.sign asking.most asking.name (place.number - asking.before) (text_of line) kept text
      → refused ≡ refused_one asking.sign line → WritesFront output output' (ready ++ text) ready' (Ok tt) → Explained asking place place' input input' output output' ready ready' 1 refused (kept ∷ [])
  explained_one place place' input input' output output' line text ready ready' refused kept reads one number left short is count writes = record {
    lines = line ∷ [];
    text = text;
    sent = writes.0;
    reads = subst (Consumes input input') (sym (append-nil (line ++ 10 ∷ []))) reads;
    number = number;
    left = omega (arith, one_length line, left);
    explains = one_line place.number line kept text one short is;
    writes = writes.1;
    parts = writes.2;
    messages_is = refl;
    refused_is = let one : refused_of asking.sign (line ∷ []) ≡ refused_one asking.sign line = omega arith in count ∙ sym one;
  }

  -- lines, and more lines
  pub explained_more : (place middle_place place' : LineStart) (input between input' output middle output' : Option (List ℕ)) → (ready ready' ready'' : List ℕ) (messages refused : ℕ) (mended : List Told) (more_messages more_refused : ℕ) (more_mended : List Told)
      → Explained asking place middle_place input between output middle ready ready' messages refused mended → Explained asking middle_place place' between input' middle output' ready' ready'' more_messages more_refused more_mended
      → Explained asking place place' input input' output output' ready ready'' (messages + more_messages) (refused + more_refused) (mended ++ more_mended)
  explained_more place middle_place place' input between input' output middle output' ready ready' ready'' messages refused mended more_messages more_refused more_mended e f = record {
    lines = e.lines ++ f.lines;
    text = e.text ++ f.text;
    sent = e.sent ++ f.sent;
    reads = subst (Consumes input input') (sym (octets_more e.lines f.lines)) (Consumes-trans input between input' (octets_of e.lines) (octets_of f.lines) e.reads f.reads);
    number = let both = length-append e.lines f.lines in omega (arith, both, e.number, f.number);
    left = let both = more_length e.lines f.lines in omega (arith, both, e.left, f.left);
    explains = lines_more place.number e.lines f.lines mended more_mended e.text f.text e.explains (subst (λ n. ExplainsLines asking n f.lines more_mended f.text) e.number f.explains);
    writes = Appends-trans output middle output' e.sent f.sent e.writes f.writes;
    parts = parts_more e.sent f.sent ready ready' ready'' e.text f.text e.parts f.parts;
    messages_is = let both = length-append e.lines f.lines in omega (arith, both, e.messages_is, f.messages_is);
    refused_is = let both = sum_by-append (refused_one asking.sign) e.lines f.lines in omega (arith, both, e.refused_is, f.refused_is);
  }

  -- lines, and one more, which is counted
  pub explained_with : (place middle_place place' : LineStart) (input between input' output middle output' : Option (List ℕ)) → (ready ready' ready'' : List ℕ) (counts counts' : Counts) (mended : List Told) (more : ℕ) (told : Told)
      → Explained asking place middle_place input between output middle ready ready' counts.messages counts.refused mended → Explained asking middle_place place' between input' middle output' ready' ready'' 1 more (told ∷ [])
      → counts'.messages ≡ counts.messages + 1 → counts'.refused ≡ counts.refused + more → Explained asking place place' input input' output output' ready ready'' counts'.messages counts'.refused (mended ++ told ∷ [])
  explained_with place middle_place place' input between input' output middle output' ready ready' ready'' counts counts' mended more told e f messages refused =
      let both = explained_more place middle_place place' input between input' output middle output' ready ready' ready'' counts.messages counts.refused mended 1 more (told ∷ []) e f in
      subst (λ n. Explained asking place place' input input' output output' ready ready'' n counts'.refused (mended ++ told ∷ [])) (sym messages)
      (subst (λ n. Explained asking place place' input input' output output' ready ready'' (counts.messages + 1) n (mended ++ told ∷ [])) (sym refused) both)

  -- lines, and then a read
  pub explained_read : (place middle_place place' : LineStart) (input between input' output middle output' : Option (List ℕ)) → (ready ready' ready'' : List ℕ) (messages refused : ℕ) (mended : List Told)
      → Explained asking place middle_place input between output middle ready ready' messages refused mended → Explained asking middle_place place' between input' middle output' ready' ready'' 0 0 []
      → Explained asking place place' input input' output output' ready ready'' messages refused mended
  explained_read place middle_place place' input between input' output middle output' ready ready' ready'' messages refused mended e f =
      let both = explained_more place middle_place place' input between input' output middle output' ready ready' ready'' messages refused mended 0 0 [] e f in
      let same : messages + 0 ≡ messages = omega arith in
      let same_refused : refused + 0 ≡ refused = omega arith in
      subst (λ n. Explained asking place place' input input' output output' ready ready'' n refused mended) same
      (subst (λ n. Explained asking place place' input input' output output' ready ready'' (messages + 0) n mended) same_refused
      (subst (λ l. Explained asking place place' input input' output output' ready ready'' (messages + 0) (refused + 0) l) (append-nil mended) both))

  -- lines, and then the end
  pub explained_end : (place place' : LineStart) (input between input' output middle output' : Option (List ℕ)) → (ready : List ℕ) (counts : Counts) (mended : List Told) → Explained asking place place' input between output middle [] ready counts.messages counts.refused mended
      → IsCounted counts mended → Consumes between input' [] → IsAtEnd input' → Appends middle output' ready → ExplainedAll asking place input input' output output' counts
  explained_end place place' input between input' output middle output' ready counts mended e counted reads end writes = record {
    lines = e.lines;
    rest = [];
    tolds = mended;
    text = e.text;
    reads = Consumes-trans input between input' (octets_of e.lines) [] e.reads reads;
    end = end;
    explains = subst (λ l. ExplainsLines asking place.number l mended e.text) (sym (append-nil e.lines)) e.explains;
    writes = subst (Appends output output') (append-nil e.text)
        (all_written output middle output' e.sent ready e.text [] e.parts e.writes (subst (Appends middle output') (sym (append-nil ready)) writes));
    messages_is = e.messages_is ∙ ap length (sym (append-nil e.lines));
    refused_is = e.refused_is ∙ ap (refused_of asking.sign) (sym (append-nil e.lines));
    mended_is = counted.mended;
    warnings_is = counted.warnings;
  }

  -- lines, and then what stands after the last line feed
  pub explained_last : (place place' : LineStart) (input between input' output middle output' : Option (List ℕ)) → (ready : List ℕ) (messages refused : ℕ) (mended : List Told) (more : ℕ) (told : Told) (counts : Counts)
      → Explained asking place place' input between output middle [] ready messages refused mended → ExplainsLast asking place' between input' middle output' ready more (told ∷ [])
      → counts.messages ≡ messages + 1 → counts.refused ≡ refused + more → IsCounted counts (mended ++ told ∷ []) → ExplainedAll asking place input input' output output' counts
  explained_last place place' input between input' output middle output' ready messages refused mended more told counts e f counted refusals tallied =
      let last = last_is f.line f.some in
      let all = mended ++ told ∷ [] in
      let behind = lines_more place.number e.lines (f.line ∷ []) mended (told ∷ []) e.text f.text e.explains (subst (λ n. ExplainsLines asking n (f.line ∷ []) (told ∷ []) f.text) e.number f.explains) in
      let messages_are : counts.messages ≡ length (e.lines ++ f.line ∷ []) = let both = length-append e.lines (f.line ∷ []) in omega (arith, both, e.messages_is, counted) in
      let refused_are : counts.refused ≡ refused_of asking.sign (e.lines ++ f.line ∷ []) =
      let both = sum_by-append (refused_one asking.sign) e.lines (f.line ∷ []) in
      let one : refused_of asking.sign (f.line ∷ []) ≡ refused_one asking.sign f.line = omega arith in
      omega (arith, both, one, e.refused_is, f.refused_is, refusals) in
      record {
        lines = e.lines;
        rest = f.line;
        tolds = all;
        text = e.text ++ f.text;
        reads = Consumes-trans input between input' (octets_of e.lines) f.line e.reads f.reads;
        end = f.end;
        explains = subst (λ l. ExplainsLines asking place.number (e.lines ++ l) all (e.text ++ f.text)) (sym last) behind;
        writes = all_written output middle output' e.sent ready e.text f.text e.parts e.writes f.writes;
        messages_is = subst (λ l. counts.messages ≡ length (e.lines ++ l)) (sym last) messages_are;
        refused_is = subst (λ l. counts.refused ≡ refused_of asking.sign (e.lines ++ l)) (sym last) refused_are;
        mended_is = tallied.mended;
        warnings_is = tallied.warnings;
      }

-- counts with one more message
pub counted_more : (counts counts' : Counts) (tolds : List Told) (told : Told) → IsCounted counts tolds → counts'.mended ≡ counts.mended + proposed_one told.proposal → counts'.warnings ≡ min (counts.warnings + told.warnings) (2 ^ 64 - 1)
    → IsCounted counts' (tolds ++ told ∷ [])
counted_more counts counts' tolds told counted mended warnings =
    let proposals = sum_by-append (λ (t : Told). proposed_one t.proposal) tolds (told ∷ []) in
    let all = sum_by-append (λ (t : Told). t.warnings) tolds (told ∷ []) in
    record {
      mended = omega (arith, proposals, mended, counted.mended);
      warnings = omega (arith, all, warnings, counted.warnings);
    }

-- one message is refused once, or not
pub one_at_most : (is_taken : Bool) → (if is_taken then 0 else 1) ≤ 1
one_at_most true = omega arith
one_at_most false = omega arith

pub proposed_at_most : (kept : Option Kind) → proposed_one kept ≤ 1
proposed_at_most None = omega arith
proposed_at_most (Some kind) = omega arith
