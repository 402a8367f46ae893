-- The lines of a sign file, taken one after another, and what comes after them.
use Rattle.std.proofs.Common.{◌≡◌, ◌≢◌, ℕ, ◌+◌, ◌-◌, ◌<◌, ◌≤◌, true, false, List, [], ◌∷◌, ◌++◌, Option, None, Some, IfSome, Result, Ok, Err, length, take, refl, sym, ap, ◌∙◌, subst, arith, append_assoc, append-nil, inl, inr}
use Rattle.std.specs.Prelude.{nat_lt}
use Rattle.std.specs.Io.KnownBytes.{Consumes, IsAtEnd}
use Rattle.std.proofs.KnownBytes.{Consumes-nil, Consumes-trans, Consumes-whole}
use Rattle.std.proofs.lemmas.Bool.{cases_Bool, lt-ltb, le-ltb}
use Rattle.std.proofs.lemmas.List.{length-append, take_all, take_at}
use Rattle.std.proofs.lemmas.List.Elements.{All-nil}
use Rattle.std.proofs.lemmas.Slice.Eq.{bytes_eq-Decides}
use Rattle.tool_streams.specs.declared.fault.ToolFault.{ToolFault}
use Rattle.tool_streams.specs.declared.fault.ToolFault.TheVariants as faults
use Rattle.tool_streams.specs.declared.lines.NextLine.TheVariants as next
use Rattle.sign_tool.specs.declared.setup.Setup.{Setup}
use Rattle.sign_tool.specs.declared.tool.Mode.{Mode}
use Rattle.tool_streams.specs.Lines.{Cut, cut, input_limit, IsOneLine, is_mark, octets_of, parted, text_of}
use Rattle.sign_tool.specs.Output.{Outcome, answered_on, behind_file, ended, fault_at_end, fault_unmarked, filed, first_long, outcome, outcome_of_file, output_of_whole, output_of_whole_file, unless_long}
use Rattle.sign_tool.specs.Runs.{Fails, IsWritten, Leads, outcome_on, output_on}
use Rattle.sign_tool.specs.FileSetup.{setup_of_octets}
use Rattle.tool_streams.specs.Streams.{TakesLine}
use Rattle.sign_tool.specs.Tool.{answers_of, outcome_of, output_so_far}
use Rattle.sign_tool.specs.internal.Blocks.{AllAnswers, AreLines}
use Rattle.sign_tool.proofs.CutLemmas.{octets_of-more, cut-line, cut-lines, cut-unfinished, take-past, nat_lt-past}
use Rattle.sign_tool.proofs.RefusedLemmas.{written_refused}
use Rattle.sign_tool.proofs.RunLemmas.{told}

-- ---- lines of a sign file

-- a line of a sign file, which is finished, not too long, and no mark
pub record IsFileLine (line : List ℕ) : Type 0 where
  pub one : IsOneLine line
  pub short : length (text_of line) ≤ 8300
  pub other : is_mark line ≡ false

abbrev pub AreFileLines : List (List ℕ) → Type 0
AreFileLines [] = Unit {0}
AreFileLines (line ∷ lines) = IsFileLine line × AreFileLines lines

AreFileLines-more : (lines : List (List ℕ)) (line : List ℕ) → AreFileLines lines → IsFileLine line → AreFileLines (lines ++ line ∷ [])
AreFileLines-more [] line each one = (one, tt)
AreFileLines-more (x ∷ lines) line each one = (each.0, AreFileLines-more lines line each.1 one)

lines_of : (lines : List (List ℕ)) → AreFileLines lines → AreLines lines
lines_of [] each = tt
lines_of (line ∷ lines) each = (each.0.one, lines_of lines each.1)

parted-lines : (lines more : List (List ℕ)) → AreFileLines lines → parted (lines ++ more) ≡ record { file = lines ++ (parted more).file; behind = (parted more).behind }
unfolding parted
parted-lines [] more each = refl
parted-lines (line ∷ lines) more each = rw (each.0.other, parted-lines lines more each.1) refl

first_long-lines : (number : ℕ) (lines more : List (List ℕ)) → AreFileLines lines → first_long number (lines ++ more) ≡ first_long (number + length lines) more
first_long-lines number [] more each = ap (λ n. first_long n more) (let same : number ≡ number + 0 = omega arith in same)
first_long-lines number (line ∷ lines) more each =
    rw (le-ltb _ _ each.0.short) (first_long-lines (number + 1) lines more each.1 ∙ ap (λ n. first_long n more) (let same : number + 1 + length lines ≡ number + length (line ∷ lines) = omega arith in same))

-- a line that is too long is no mark
not_mark : (line : List ℕ) → 8300 < length (text_of line) → is_mark line ≡ false
not_mark line long = elim (cases_Bool (is_mark line)) [
  | inl marks ↦ absurd (let same : text_of line ≡ 37 ∷ 37 ∷ [] = (bytes_eq-Decides (text_of line) (37 ∷ 37 ∷ [])).0 marks in omega (arith, ap length same))
  | inr differs ↦ differs
]

-- ---- what comes after them

module _ (answers : Setup → AllAnswers) (lines : List (List ℕ)) (left : ℕ) where
  -- the outcome of these file lines and of the octets after them
  behind : List ℕ → Outcome
  behind rest =
      let parts = cut (take left rest) in
      let p = parted parts.whole in
      let is_longer = nat_lt left (length rest) in
      unless_long (first_long (1 + length lines) p.file) (behind_file answers (lines ++ p.file) p.behind (fault_unmarked is_longer) (fault_at_end is_longer parts.rest))

  outcome-lines : (room : ℕ) (rest : List ℕ) → AreFileLines lines → length (octets_of lines) + left ≡ room
      → outcome_of_file answers room (octets_of lines ++ rest) ≡ behind rest
  unfolding outcome_of_file filed behind
  outcome-lines room rest each fits =
      let whole : take room (octets_of lines ++ rest) ≡ octets_of lines ++ take left rest = take-past (octets_of lines) rest room left (sym fits) in
      let past : nat_lt room (length (octets_of lines ++ rest)) ≡ nat_lt left (length rest) =
      nat_lt-past room left (length (octets_of lines)) (length rest) _ (sym fits) (length-append (octets_of lines) rest) in
      rw (whole, past, cut-lines lines (take left rest) (lines_of lines each), parted-lines lines (cut (take left rest)).whole each, first_long-lines 1 lines (parted (cut (take left rest)).whole).file each) refl

  behind-long : (line rest : List ℕ) → IsOneLine line → length line + 1 ≤ left → 8300 < length (text_of line)
      → behind ((line ++ 10 ∷ []) ++ rest) ≡ ended (Some (faults.LineTooLong (1 + length lines)))
  unfolding behind parted
  behind-long line rest one fits long =
      let left' = left - length line - 1 in
      let regrouped : take left ((line ++ 10 ∷ []) ++ rest) ≡ line ++ 10 ∷ take left' rest =
      take-past (line ++ 10 ∷ []) rest left left' (omega (arith, length-append line (10 ∷ []))) ∙ append_assoc line (10 ∷ []) (take left' rest) in
      rw (regrouped, cut-line line (take left' rest) one, not_mark line long, lt-ltb _ _ long) refl

  behind-unfinished : (line : List ℕ) → IsOneLine line → length line ≤ left → behind line ≡ ended (Some faults.BadSign)
  unfolding behind parted
  behind-unfinished line one fits =
      let whole : take left line ≡ line = take_all left line fits in
      rw (whole, cut-unfinished line one, le-ltb _ _ fits) refl

  behind-past : (line rest : List ℕ) (octet : ℕ) → IsOneLine line → length line ≡ left → behind ((line ++ octet ∷ []) ++ rest) ≡ ended (Some faults.InputTooLong)
  unfolding behind parted
  behind-past line rest octet one full =
      let regrouped : take left ((line ++ octet ∷ []) ++ rest) ≡ line = ap (take left) (append_assoc line (octet ∷ []) rest) ∙ take_at line (octet ∷ rest) left full in
      let past : nat_lt left (length ((line ++ octet ∷ []) ++ rest)) ≡ true = lt-ltb _ _ (omega (arith, length-append line (octet ∷ []), length-append (line ++ octet ∷ []) rest)) in
      rw (regrouped, past, cut-unfinished line one) refl

  behind-mark : (mark rest : List ℕ) (left' : ℕ) → IsOneLine mark → left ≡ length mark + 1 + left' → is_mark mark ≡ true
      → behind ((mark ++ 10 ∷ []) ++ rest)
      ≡ answered_on answers (setup_of_octets (octets_of lines)) (length lines + 2) (cut (take left' rest)).whole (fault_at_end (nat_lt left' (length rest)) (cut (take left' rest)).rest)
  unfolding behind parted
  behind-mark mark rest left' one fits is =
      let regrouped : take left ((mark ++ 10 ∷ []) ++ rest) ≡ mark ++ 10 ∷ take left' rest =
      take-past (mark ++ 10 ∷ []) rest left left' (omega (arith, length-append mark (10 ∷ []))) ∙ append_assoc mark (10 ∷ []) (take left' rest) in
      let past : nat_lt left (length ((mark ++ 10 ∷ []) ++ rest)) ≡ nat_lt left' (length rest) =
      nat_lt-past left left' (length mark + 1) (length rest) _ (omega arith) (omega (arith, length-append mark (10 ∷ []), length-append (mark ++ 10 ∷ []) rest)) in
      rw (regrouped, past, cut-line mark (take left' rest) one, is, append-nil lines) refl

-- what is known of the lines after the mark is what comes for a sign
outcome-sign : (mode : Mode) (sign : Result Setup ToolFault) (number left : ℕ) (rest : List ℕ)
    → answered_on (answers_of mode) sign number (cut (take left rest)).whole (fault_at_end (nat_lt left (length rest)) (cut (take left rest)).rest) ≡ outcome_on mode sign (record { number = number; left = left }) rest
unfolding outcome
outcome-sign mode (Err e) number left rest = refl
outcome-sign mode (Ok sign) number left rest = refl

output-sign : (mode : Mode) (sign : Result Setup ToolFault) (number left : ℕ) (rest : List ℕ)
    → (answered_on (answers_of mode) sign number (cut rest).whole (λ n. None)).output ≡ output_on mode sign (record { number = number; left = left }) rest
unfolding output_of_whole
output-sign mode (Err e) number left rest = refl
output-sign mode (Ok sign) number left rest = refl

module _ (answers : Setup → AllAnswers) (lines : List (List ℕ)) (each : AreFileLines lines) where
  -- without a mark there is no sign, whatever comes after
  filed-unmarked : (unmarked : ToolFault) (at_end : ℕ → Option ToolFault) → filed answers (lines ++ []) unmarked at_end ≡ ended (Some unmarked)
  unfolding filed parted
  filed-unmarked unmarked at_end = rw (parted-lines lines [] each, first_long-lines 1 lines [] each) refl

  filed-mark : (mark : List ℕ) (others : List (List ℕ)) (unmarked : ToolFault) (at_end : ℕ → Option ToolFault) → is_mark mark ≡ true
      → filed answers (lines ++ mark ∷ others) unmarked at_end ≡ answered_on answers (setup_of_octets (octets_of lines)) (length lines + 2) others at_end
  unfolding filed parted
  filed-mark mark others unmarked at_end is = rw (parted-lines lines (mark ∷ others) each, is, first_long-lines 1 lines [] each, append-nil lines) refl

  so_far-file : (line : List ℕ) → IsOneLine line → output_of_whole_file answers (octets_of lines ++ line) ≡ []
  unfolding output_of_whole_file
  so_far-file line one =
      let parts : cut (octets_of lines ++ line) ≡ record { whole = lines ++ []; rest = line } =
      cut-lines lines line (lines_of lines each) ∙ ap (λ (c : Cut). let d : Cut = record { whole = lines ++ c.whole; rest = c.rest } in d) (cut-unfinished line one) in
      ap (λ (c : Cut). (filed answers c.whole faults.BadSign (λ n. None)).output) parts ∙ ap (λ (o : Outcome). o.output) (filed-unmarked faults.BadSign (λ n. None))

  so_far-mark : (mark rest : List ℕ) → IsOneLine mark → is_mark mark ≡ true
      → output_of_whole_file answers (octets_of lines ++ ((mark ++ 10 ∷ []) ++ rest))
      ≡ (answered_on answers (setup_of_octets (octets_of lines)) (length lines + 2) (cut rest).whole (λ n. None)).output
  unfolding output_of_whole_file
  so_far-mark mark rest one is =
      let regrouped : (mark ++ 10 ∷ []) ++ rest ≡ mark ++ 10 ∷ rest = append_assoc mark (10 ∷ []) rest in
      let parts : cut (octets_of lines ++ ((mark ++ 10 ∷ []) ++ rest)) ≡ record { whole = lines ++ mark ∷ (cut rest).whole; rest = (cut rest).rest } =
      ap (λ l. cut (octets_of lines ++ l)) regrouped ∙ cut-lines lines (mark ++ 10 ∷ rest) (lines_of lines each)
      ∙ ap (λ (c : Cut). let d : Cut = record { whole = lines ++ c.whole; rest = c.rest } in d) (cut-line mark rest one) in
      ap (λ (c : Cut). (filed answers c.whole faults.BadSign (λ n. None)).output) parts ∙ ap (λ (o : Outcome). o.output) (filed-mark mark (cut rest).whole faults.BadSign (λ n. None) is)

-- ---- a sign file that is read

-- a file so far: its lines and their octets, and how much may still come
pub record Reading (input now : Option (List ℕ)) (number left : ℕ) (octets : List ℕ) (lines : List (List ℕ)) : Type 0 where
  pub takes : Consumes input now (octets_of lines)
  pub limit : length (octets_of lines) + left ≡ input_limit
  pub counted : number + left ≤ input_limit + 1
  pub number_is : number ≡ 1 + length lines
  pub octets_is : octets ≡ octets_of lines
  pub each : AreFileLines lines

pub Reading-none : (input : Option (List ℕ)) (octets : List ℕ) → octets ≡ [] → Reading input input 1 input_limit octets []
Reading-none input octets is = record {
  takes = Consumes-nil input;
  limit = refl;
  counted = omega arith;
  number_is = refl;
  octets_is = is;
  each = tt;
}

module _ (input now new : Option (List ℕ)) (number left left' : ℕ) (octets line : List ℕ) (lines : List (List ℕ)) (r : Reading input now number left octets lines) where
  -- the run ends with this fault
  fails : (more : List ℕ) (e : ToolFault) → Consumes now new more → length more ≤ left + 1
      → ((mode : Mode) → IsWritten (outcome_of mode false) (output_so_far mode false) input (octets_of lines ++ more) [] (Some e)) → Fails false input new e
  fails more e took few is = record {
    taken = octets_of lines ++ more;
    takes = Consumes-trans input now new (octets_of lines) more r.takes took;
    most = omega (arith, r.limit, length-append (octets_of lines) more);
    written = is;
  }

  -- the whole outcome, from that of what was taken last and stands after it
  whole : (more : List ℕ) (e : ToolFault) → Consumes now new more
      → ((mode : Mode) (ys : List ℕ) → behind (answers_of mode) lines left (more ++ ys) ≡ ended (Some e))
      → (mode : Mode) → IfSome input (λ all. outcome_of mode false all ≡ record { output = []; fault = Some e })
  whole more e took is mode =
      told input new (octets_of lines ++ more) (λ all. outcome_of mode false all ≡ record { output = []; fault = Some e })
      (Consumes-trans input now new (octets_of lines) more r.takes took)
      (λ ys. ap (outcome_of mode false) (append_assoc (octets_of lines) more ys)
      ∙ outcome-lines (answers_of mode) lines left input_limit (more ++ ys) r.each r.limit
      ∙ is mode ys)

  -- the same where the reader is at its end
  whole_at_end : (more : List ℕ) (e : ToolFault) → Consumes now new more → IsAtEnd new
      → ((mode : Mode) → behind (answers_of mode) lines left more ≡ ended (Some e))
      → (mode : Mode) → IfSome input (λ all. outcome_of mode false all ≡ record { output = []; fault = Some e })
  whole_at_end more e took end is mode =
      Consumes-whole input new (octets_of lines ++ more) (λ all. outcome_of mode false all ≡ record { output = []; fault = Some e })
      (Consumes-trans input now new (octets_of lines) more r.takes took) end
      (outcome-lines (answers_of mode) lines left input_limit more r.each r.limit ∙ is mode)

  pub fails_long : TakesLine now new left left' line (Ok next.TooLong) → Fails false input new (faults.LineTooLong number)
  fails_long t =
      let (seen, took, one, few, long) = t in
      subst (λ n. Fails false input new (faults.LineTooLong n)) (sym r.number_is) (fails (seen ++ 10 ∷ []) _ took (omega (arith, length-append seen (10 ∷ [])))
      (whole (seen ++ 10 ∷ []) (faults.LineTooLong (1 + length lines)) took (λ mode ys. behind-long (answers_of mode) lines left seen ys one few long)))

  pub fails_past : TakesLine now new left left' line (Ok next.InputTooLong) → Fails false input new faults.InputTooLong
  fails_past t =
      let (seen, octet, took, one, full) = t in
      fails (seen ++ octet ∷ []) _ took (omega (arith, length-append seen (octet ∷ [])))
      (whole (seen ++ octet ∷ []) faults.InputTooLong took (λ mode ys. behind-past (answers_of mode) lines left seen ys octet one full))

  pub fails_unfinished : TakesLine now new left left' line (Ok next.Unfinished) → Fails false input new faults.BadSign
  fails_unfinished t =
      let (seen, took, end, one, few, some) = t in
      fails seen _ took (omega arith) (whole_at_end seen faults.BadSign took end (λ mode. behind-unfinished (answers_of mode) lines left seen one few))

  pub fails_at_end : TakesLine now new left left' line (Ok next.End) → Fails false input new faults.BadSign
  fails_at_end t = fails [] _ t.0 (omega arith) (whole_at_end [] faults.BadSign t.0 t.1 (λ mode. behind-unfinished (answers_of mode) lines left [] (All-nil (λ c. c ≢ 10)) (omega arith)))

  -- nothing was written yet
  fails_memory : (more : List ℕ) → Consumes now new more → length more ≤ left + 1 → Fails false input new faults.Memory
  fails_memory more took few =
      fails more _ took few (λ mode. written_refused mode false input (octets_of lines ++ more))

  pub fails_reading : (e : ToolFault) → TakesLine now new left left' line (Err e) → Fails false input new e
  fails_reading faults.Read t =
      let (seen, took, few, one) = t in
      fails seen _ took (omega arith) (λ mode. so_far-file (answers_of mode) lines r.each seen one)
  fails_reading faults.Memory t = let (seen, took, few, one) = t in fails_memory seen took (omega arith)
  fails_reading faults.Write t = let (seen, took, few, bad) = t in absurd (let wrong : faults.Write ≡ faults.Memory = bad in cc)
  fails_reading (faults.LineTooLong n) t = let (seen, took, few, bad) = t in absurd (let wrong : faults.LineTooLong n ≡ faults.Memory = bad in cc)
  fails_reading (faults.BadLine n) t = let (seen, took, few, bad) = t in absurd (let wrong : faults.BadLine n ≡ faults.Memory = bad in cc)
  fails_reading faults.InputTooLong t = let (seen, took, few, bad) = t in absurd (let wrong : faults.InputTooLong ≡ faults.Memory = bad in cc)
  fails_reading faults.BadSign t = let (seen, took, few, bad) = t in absurd (let wrong : faults.BadSign ≡ faults.Memory = bad in cc)
  fails_reading (faults.SignRefused n) t = let (seen, took, few, bad) = t in absurd (let wrong : faults.SignRefused n ≡ faults.Memory = bad in cc)

  pub fails_keeping : (e : ToolFault) → TakesLine now new left left' line (Ok next.Line) → e ≡ faults.Memory → Fails false input new e
  fails_keeping e t is =
      let (took, one, few, short) = t in
      subst (Fails false input new) (sym is) (fails_memory (line ++ 10 ∷ []) took (omega (arith, length-append line (10 ∷ []))))

  -- the mark was read
  pub leads : TakesLine now new left left' line (Ok next.Line) → is_mark line ≡ true
      → (taken : List ℕ) × Consumes input new taken × Leads false taken (setup_of_octets octets) (record { number = number + 1; left = left' })
  leads t is =
      let (took, one, few, short) = t in
      let number_is : length lines + 2 ≡ number + 1 = omega (arith, r.number_is) in (
        octets_of lines ++ (line ++ 10 ∷ []),
        Consumes-trans input now new (octets_of lines) (line ++ 10 ∷ []) r.takes took,
        record {
          place_is = (omega (arith, r.limit, length-append (octets_of lines) (line ++ 10 ∷ []), length-append line (10 ∷ [])), omega (arith, r.counted));
          whole = λ mode rest.
              ap (outcome_of mode false) (append_assoc (octets_of lines) (line ++ 10 ∷ []) rest)
              ∙ outcome-lines (answers_of mode) lines left input_limit ((line ++ 10 ∷ []) ++ rest) r.each r.limit
              ∙ behind-mark (answers_of mode) lines left line rest left' one (sym few) is
              ∙ outcome-sign mode (setup_of_octets (octets_of lines)) (length lines + 2) left' rest
              ∙ ap (λ n. outcome_on mode (setup_of_octets (octets_of lines)) (record { number = n; left = left' }) rest) number_is
              ∙ ap (λ o. outcome_on mode (setup_of_octets o) (record { number = number + 1; left = left' }) rest) (sym r.octets_is);
          so_far = λ mode rest.
              ap (output_so_far mode false) (append_assoc (octets_of lines) (line ++ 10 ∷ []) rest)
              ∙ so_far-mark (answers_of mode) lines r.each line rest one is
              ∙ output-sign mode (setup_of_octets (octets_of lines)) (length lines + 2) left' rest
              ∙ ap (λ n. output_on mode (setup_of_octets (octets_of lines)) (record { number = n; left = left' }) rest) number_is
              ∙ ap (λ o. output_on mode (setup_of_octets o) (record { number = number + 1; left = left' }) rest) (sym r.octets_is);
        },
      )

  pub goes_on : (octets' : List ℕ) → TakesLine now new left left' line (Ok next.Line) → is_mark line ≡ false → octets' ≡ octets ++ (line ++ 10 ∷ [])
      → Reading input new (number + 1) left' octets' (lines ++ line ∷ [])
  goes_on octets' t other grown =
      let (took, one, few, short) = t in
      let more : octets_of (lines ++ line ∷ []) ≡ octets_of lines ++ (line ++ 10 ∷ []) = octets_of-more lines line in
      record {
        takes = subst (Consumes input new) (sym more) (Consumes-trans input now new (octets_of lines) (line ++ 10 ∷ []) r.takes took);
        limit = omega (arith, r.limit, ap length more, length-append (octets_of lines) (line ++ 10 ∷ []), length-append line (10 ∷ []));
        counted = omega (arith, r.counted);
        number_is = omega (arith, r.number_is, length-append lines (line ∷ []));
        octets_is = grown ∙ ap (λ o. o ++ (line ++ 10 ∷ [])) r.octets_is ∙ sym more;
        each = AreFileLines-more lines line r.each (record { one = one; short = short; other = other });
      }
