-- A run that answers line by line, from a first line on.
use Rattle.std.proofs.Common.{◌≡◌, ◌≢◌, ℕ, ◌+◌, ◌-◌, ◌<◌, ◌≤◌, true, false, List, [], ◌∷◌, ◌++◌, Option, None, Some, IfSome, Ok, Err, length, take, map, refl, sym, ap, ◌∙◌, subst, arith, append_assoc, append-nil}
use Rattle.std.specs.Prelude.{nat_lt}
use Rattle.std.proofs.lemmas.Bool.{lt-ltb, le-ltb}
use Rattle.std.proofs.lemmas.List.{length-append, take_all, take_at}
use Rattle.std.proofs.lemmas.List.Elements.{All-nil}
use Rattle.std.specs.Io.KnownBytes.{Consumes, Appends, IsAtEnd}
use Rattle.std.proofs.KnownBytes.{Consumes-trans, Consumes-whole}
use Rattle.tool_streams.specs.declared.fault.ToolFault.{ToolFault}
use Rattle.tool_streams.specs.declared.fault.ToolFault.TheVariants as faults
use Rattle.tool_streams.specs.Lines.{Cut, cut, input_limit, IsOneLine, octets_of, text_of}
use Rattle.sign_tool.specs.Output.{Outcome, ended, after, answered, outcome, output_of_whole}
use Rattle.tool_streams.specs.declared.lines.NextLine.TheVariants as next
use Rattle.tool_streams.specs.Streams.{TakesLine}
use Rattle.sign_tool.specs.Runs.{IsFront, IsOfLines, IsWritten, Runs}
use Rattle.sign_tool.specs.internal.Blocks.{AllAnswers, Progress}
use Rattle.sign_tool.proofs.CutLemmas.{AreLines-append, octets_of-append, cut-line, cut-lines, cut-unfinished, take-past, nat_lt-past}

-- what stands after these octets, where a reader tells
pub told : (a b : Option (List ℕ)) (bs : List ℕ) (P : List ℕ → Type 0) → Consumes a b bs → ((ys : List ℕ) → P (bs ++ ys)) → IfSome a P
told None b bs P c h = tt
told (Some x) None bs P c h = absurd c
told (Some x) (Some y) bs P c h = subst P (sym c) (h y)

-- what holds of any octets
pub if_some_always : (input : Option (List ℕ)) (P : List ℕ → Type 0) → ((octets : List ℕ) → P octets) → IfSome input P
if_some_always None P h = tt
if_some_always (Some octets) P h = h octets

-- ---- one line

module _ (answers : AllAnswers) (number limit : ℕ) where
  pub outcome-line : (behind : AllAnswers) (line rest text : List ℕ) (left : ℕ) → IsOneLine line → limit ≡ length line + 1 + left → length (text_of line) ≤ 8300
      → ((lines : List (List ℕ)) → answers (text_of line ∷ lines) ≡ Some text ∷ behind lines)
      → outcome answers number limit ((line ++ 10 ∷ []) ++ rest) ≡ after text (outcome behind (number + 1) left rest)
  unfolding outcome answered
  outcome-line behind line rest text left one fits short says =
      let regrouped : take limit ((line ++ 10 ∷ []) ++ rest) ≡ line ++ 10 ∷ take left rest =
      take-past (line ++ 10 ∷ []) rest limit left (omega (arith, length-append line (10 ∷ []))) ∙ append_assoc line (10 ∷ []) (take left rest) in
      let past : nat_lt limit (length ((line ++ 10 ∷ []) ++ rest)) ≡ nat_lt left (length rest) =
      nat_lt-past limit left (length line + 1) (length rest) _ (omega arith) (omega (arith, length-append line (10 ∷ []), length-append (line ++ 10 ∷ []) rest)) in
      rw (regrouped, past, cut-line line (take left rest) one, le-ltb _ _ short, says) refl

  pub outcome-bad : (line rest : List ℕ) (left : ℕ) → IsOneLine line → limit ≡ length line + 1 + left → length (text_of line) ≤ 8300
      → ((lines : List (List ℕ)) → (others : List (Option (List ℕ))) × (answers (text_of line ∷ lines) ≡ None ∷ others))
      → outcome answers number limit ((line ++ 10 ∷ []) ++ rest) ≡ ended (Some (faults.BadLine number))
  unfolding outcome answered
  outcome-bad line rest left one fits short says =
      let regrouped : take limit ((line ++ 10 ∷ []) ++ rest) ≡ line ++ 10 ∷ take left rest =
      take-past (line ++ 10 ∷ []) rest limit left (omega (arith, length-append line (10 ∷ []))) ∙ append_assoc line (10 ∷ []) (take left rest) in
      rw (regrouped, cut-line line (take left rest) one, le-ltb _ _ short, (says (map text_of (cut (take left rest)).whole)).1) refl

  pub outcome-long : (line rest : List ℕ) → IsOneLine line → length line + 1 ≤ limit → 8300 < length (text_of line)
      → outcome answers number limit ((line ++ 10 ∷ []) ++ rest) ≡ ended (Some (faults.LineTooLong number))
  unfolding outcome answered
  outcome-long line rest one fits long =
      let left = limit - length line - 1 in
      let regrouped : take limit ((line ++ 10 ∷ []) ++ rest) ≡ line ++ 10 ∷ take left rest =
      take-past (line ++ 10 ∷ []) rest limit left (omega (arith, length-append line (10 ∷ []))) ∙ append_assoc line (10 ∷ []) (take left rest) in
      rw (regrouped, cut-line line (take left rest) one, lt-ltb _ _ long) refl

  pub outcome-unfinished : (line : List ℕ) → IsOneLine line → length line ≤ limit → 0 < length line → outcome answers number limit line ≡ ended (Some (faults.BadLine number))
  unfolding outcome answered
  outcome-unfinished [] one fits some = absurd (omega arith)
  outcome-unfinished (c ∷ line) one fits some =
      let whole : take limit (c ∷ line) ≡ c ∷ line = take_all limit (c ∷ line) fits in
      rw (whole, cut-unfinished (c ∷ line) one, le-ltb _ _ fits) refl

  pub outcome-end : outcome answers number limit [] ≡ ended None
  unfolding outcome answered cut
  outcome-end =
      let none : take {A = ℕ} limit [] ≡ [] = take_all {A = ℕ} limit [] (omega arith) in
      let short : nat_lt limit 0 ≡ false = le-ltb limit 0 (omega arith) in
      rw (none, short) refl

  pub outcome-past : (line rest : List ℕ) (octet : ℕ) → IsOneLine line → length line ≡ limit → outcome answers number limit ((line ++ octet ∷ []) ++ rest) ≡ ended (Some faults.InputTooLong)
  unfolding outcome answered
  outcome-past line rest octet one full =
      let regrouped : take limit ((line ++ octet ∷ []) ++ rest) ≡ line = ap (take limit) (append_assoc line (octet ∷ []) rest) ∙ take_at line (octet ∷ rest) limit full in
      let past : nat_lt limit (length ((line ++ octet ∷ []) ++ rest)) ≡ true = lt-ltb _ _ (omega (arith, length-append line (octet ∷ []), length-append (line ++ octet ∷ []) rest)) in
      rw (regrouped, past, cut-unfinished line one) refl

-- ---- the lines so far

pub Progress-none : (first : ℕ) (answers : AllAnswers) → Progress first answers answers first [] [] []
Progress-none first answers = record { taken_is = refl; each = tt; says = λ more at_end. refl }

-- one line is answered
pub Progress-one : (first : ℕ) (answers behind : AllAnswers) (line text : List ℕ) → IsOneLine line → length (text_of line) ≤ 8300
    → ((more : List (List ℕ)) → answers (text_of line ∷ more) ≡ Some text ∷ behind more)
    → Progress first answers behind (first + 1) (line ++ 10 ∷ []) text (line ∷ [])
unfolding answered
Progress-one first answers behind line text one short says = record {
  taken_is = sym (append-nil (line ++ 10 ∷ []));
  each = (one, tt);
  says = λ more at_end. rw (le-ltb _ _ short, says (map text_of more)) refl;
}

module _ (first : ℕ) (answers behind : AllAnswers) (number : ℕ) (taken sent : List ℕ) (lines : List (List ℕ)) (p : Progress first answers behind number taken sent lines) where
  -- more lines are answered
  pub Progress-more : (next : AllAnswers) (number' : ℕ) (taken' sent' : List ℕ) (lines' : List (List ℕ)) → Progress number behind next number' taken' sent' lines'
      → Progress first answers next number' (taken ++ taken') (sent ++ sent') (lines ++ lines')
  Progress-more next number' taken' sent' lines' q = record {
    taken_is = (λ i. p.taken_is i ++ q.taken_is i) ∙ sym (octets_of-append lines lines');
    each = AreLines-append lines lines' p.each q.each;
    says = λ more at_end.
        let behind_them = answered number' more (next (map text_of more)) at_end in
        ap (λ ls. answered first ls (answers (map text_of ls)) at_end) (append_assoc lines lines' more) ∙ p.says (lines' ++ more) at_end ∙ ap (after sent) (q.says more at_end)
        ∙ ap (λ l. let o : Outcome = record { output = l; fault = behind_them.fault } in o) (sym (append_assoc sent sent' behind_them.output));
  }

  -- what comes for the whole input follows from what comes for the rest
  pub Progress-outcome : (rest : List ℕ) (left room : ℕ) → length taken + left ≡ room → outcome answers first room (taken ++ rest) ≡ after sent (outcome behind number left rest)
  unfolding outcome
  Progress-outcome rest left room fits =
      let whole : take room (taken ++ rest) ≡ octets_of lines ++ take left rest =
      take-past taken rest room left (sym fits) ∙ ap (λ l. l ++ take left rest) p.taken_is in
      let past : nat_lt room (length (taken ++ rest)) ≡ nat_lt left (length rest) =
      nat_lt-past room left (length taken) (length rest) _ (sym fits) (length-append taken rest) in
      rw (whole, past, cut-lines lines (take left rest) p.each) (p.says _ _)

  -- an unfinished line is no whole line
  pub Progress-whole : (line : List ℕ) → IsOneLine line → output_of_whole answers first (taken ++ line) ≡ sent
  unfolding output_of_whole answered
  Progress-whole line one =
      let parts : cut (taken ++ line) ≡ record { whole = lines ++ []; rest = line } =
      ap (λ l. cut (l ++ line)) p.taken_is ∙ cut-lines lines line p.each ∙ ap (λ (c : Cut). let d : Cut = record { whole = lines ++ c.whole; rest = c.rest } in d) (cut-unfinished line one) in
      ap (λ (c : Cut). (answered first c.whole (answers (map text_of c.whole)) (λ n. None)).output) parts ∙ ap (λ (o : Outcome). o.output) (p.says [] (λ n. None)) ∙ append-nil sent

  -- what was sent is the answers to the lines so far, whatever was taken after them
  pub Progress-lines : (more : List ℕ) → IsOfLines (output_of_whole answers first) (taken ++ more) sent
  Progress-lines more =
      (taken, (more, refl), ap (output_of_whole answers first) (sym (append-nil taken)) ∙ Progress-whole [] (All-nil (λ c. c ≢ 10)))

-- a run so far: what was taken, what was sent, and how much may still come
pub record Going (first room : ℕ) (answers behind : AllAnswers) (input now output written : Option (List ℕ)) (number left : ℕ) (taken sent : List ℕ) (lines : List (List ℕ)) : Type 0 where
  pub takes : Consumes input now taken
  pub writes : Appends output written sent
  pub limit : length taken + left ≡ room
  pub counted : number + left ≤ input_limit + 1
  pub progress : Progress first answers behind number taken sent lines

-- ---- how a run ends

module _ (first room : ℕ) (answers behind : AllAnswers) (input now new output written : Option (List ℕ)) (number left left' : ℕ) (taken sent line : List ℕ) (lines : List (List ℕ))
    (go : Going first room answers behind input now output written number left taken sent lines) where
  -- the run ends with this fault, whatever stands after what was taken last
  pub ends : (more : List ℕ) (fault : Option ToolFault) → Consumes now new more → length more ≤ left + 1
      → IsWritten (outcome answers first room) (output_of_whole answers first) input (taken ++ more) sent fault → Runs (outcome answers first room) (output_of_whole answers first) room input new output written fault
  ends more fault took few is = record {
    taken = taken ++ more;
    sent = sent;
    takes = Consumes-trans input now new taken more go.takes took;
    writes = go.writes;
    most = omega (arith, go.limit, length-append taken more);
    written = is;
  }

  -- the whole outcome, from that of what was taken last and stands after it
  pub whole : (more : List ℕ) (fault : Option ToolFault) → Consumes now new more
      → ((ys : List ℕ) → outcome behind number left (more ++ ys) ≡ ended fault)
      → IfSome input (λ octets. outcome answers first room octets ≡ record { output = sent; fault = fault })
  whole more fault took is =
      told input new (taken ++ more) (λ octets. outcome answers first room octets ≡ record { output = sent; fault = fault }) (Consumes-trans input now new taken more go.takes took)
      (λ ys. ap (outcome answers first room) (append_assoc taken more ys)
      ∙ Progress-outcome first answers behind number taken sent lines go.progress (more ++ ys) left room go.limit
      ∙ ap (after sent) (is ys)
      ∙ ap (λ l. let o : Outcome = record { output = l; fault = fault } in o) (append-nil sent))

  pub ends_too_long : TakesLine now new left left' line (Ok next.TooLong) → Runs (outcome answers first room) (output_of_whole answers first) room input new output written (Some (faults.LineTooLong number))
  ends_too_long t =
      let (seen, took, one, few, long) = t in
      ends (seen ++ 10 ∷ []) _ took (omega (arith, length-append seen (10 ∷ []))) (whole (seen ++ 10 ∷ []) _ took (λ ys. outcome-long behind number left seen ys one few long))

  pub ends_past : TakesLine now new left left' line (Ok next.InputTooLong) → Runs (outcome answers first room) (output_of_whole answers first) room input new output written (Some faults.InputTooLong)
  ends_past t =
      let (seen, octet, took, one, full) = t in
      ends (seen ++ octet ∷ []) _ took (omega (arith, length-append seen (octet ∷ []))) (whole (seen ++ octet ∷ []) _ took (λ ys. outcome-past behind number left seen ys octet one full))

  -- the same where the reader is at its end
  whole_at_end : (more : List ℕ) (fault : Option ToolFault) → Consumes now new more → IsAtEnd new
      → outcome behind number left more ≡ ended fault
      → IfSome input (λ octets. outcome answers first room octets ≡ record { output = sent; fault = fault })
  whole_at_end more fault took end is =
      Consumes-whole input new (taken ++ more) (λ octets. outcome answers first room octets ≡ record { output = sent; fault = fault }) (Consumes-trans input now new taken more go.takes took) end
      (Progress-outcome first answers behind number taken sent lines go.progress more left room go.limit
      ∙ ap (after sent) is
      ∙ ap (λ l. let o : Outcome = record { output = l; fault = fault } in o) (append-nil sent))

  pub ends_unfinished : TakesLine now new left left' line (Ok next.Unfinished) → Runs (outcome answers first room) (output_of_whole answers first) room input new output written (Some (faults.BadLine number))
  ends_unfinished t =
      let (seen, took, end, one, few, some) = t in
      ends seen _ took (omega arith) (whole_at_end seen _ took end (outcome-unfinished behind number left seen one few some))

  pub ends_well : TakesLine now new left left' line (Ok next.End) → Runs (outcome answers first room) (output_of_whole answers first) room input new output written None
  ends_well t = ends [] _ t.0 (omega arith) (whole_at_end [] _ t.0 t.1 (outcome-end behind number left))

  -- what was sent is a front of the output
  front : (more : List ℕ) → Consumes now new more → IfSome input (λ octets. IsFront sent (outcome answers first room octets).output)
  front more took =
      told input new (taken ++ more) (λ octets. IsFront sent (outcome answers first room octets).output) (Consumes-trans input now new taken more go.takes took)
      (λ ys. (
        (outcome behind number left (more ++ ys)).output,
        ap (λ (o : Outcome). o.output) (ap (outcome answers first room) (append_assoc taken more ys)
            ∙ Progress-outcome first answers behind number taken sent lines go.progress (more ++ ys) left room go.limit),
      ))

  pub ends_failing : (e : ToolFault) → TakesLine now new left left' line (Err e) → Runs (outcome answers first room) (output_of_whole answers first) room input new output written (Some e)
  ends_failing faults.Read t =
      let (seen, took, few, one) = t in
      ends seen _ took (omega arith) (Progress-whole first answers behind number taken sent lines go.progress seen one)
  ends_failing faults.Memory t =
      let (seen, took, few, one) = t in
      ends seen _ took (omega arith) (Progress-lines first answers behind number taken sent lines go.progress seen, front seen took)
  ends_failing faults.Write t = let (seen, took, few, bad) = t in absurd (let wrong : faults.Write ≡ faults.Memory = bad in cc)
  ends_failing (faults.LineTooLong n) t = let (seen, took, few, bad) = t in absurd (let wrong : faults.LineTooLong n ≡ faults.Memory = bad in cc)
  ends_failing (faults.BadLine n) t = let (seen, took, few, bad) = t in absurd (let wrong : faults.BadLine n ≡ faults.Memory = bad in cc)
  ends_failing faults.InputTooLong t = let (seen, took, few, bad) = t in absurd (let wrong : faults.InputTooLong ≡ faults.Memory = bad in cc)
  ends_failing (faults.SignRefused n) t = let (seen, took, few, bad) = t in absurd (let wrong : faults.SignRefused n ≡ faults.Memory = bad in cc)
  ends_failing faults.BadSign t = let (seen, took, few, bad) = t in absurd (let wrong : faults.BadSign ≡ faults.Memory = bad in cc)
