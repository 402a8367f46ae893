-- A run that answers the lines of a block where they stand.
use Rattle.std.proofs.Common.{◌≡◌, ◌≢◌, inl, inr, ℕ, ◌+◌, ◌-◌, ◌<◌, ◌≤◌, true, List, [], ◌∷◌, ◌++◌, Option, None, Some, IfSome, Ok, Err, length, take, drop, refl, sym, ap, ◌∙◌, subst, arith, append_assoc, append-nil, take-append-drop}
use Rattle.std.proofs.lemmas.List.{drop-take, length-append, length-drop, length-take, length-take-le, take-take, take_all, take_at}
use Rattle.std.proofs.Math.Seq.{take-add}
use Rattle.std.proofs.lemmas.List.Elements.{All-nil}
use Rattle.std.specs.Io.KnownBytes.{Appends, Consumes, prepend_known}
use Rattle.std.proofs.KnownBytes.{Appends-nil, Appends-trans, Keeps-refl}
use Rattle.std.specs.declared.alloc.AllocError.{AllocError}
use Rattle.tool_streams.specs.declared.fault.ToolFault.{ToolFault}
use Rattle.tool_streams.specs.declared.fault.ToolFault.TheVariants as faults
use Rattle.sign_tool.specs.declared.first.FirstLine.{FirstLine}
use Rattle.sign_tool.specs.declared.first.FirstLine.TheVariants as line_is
use Rattle.sign_tool.specs.declared.first.Front.{Front}
use Rattle.tool_streams.specs.declared.lines.NextLine.TheVariants as next
use Rattle.tool_streams.specs.Blocks.{EndsWith, ReadsOn}
use Rattle.sign_tool.specs.internal.Blocks.{AllAnswers, AnswersFirst, AnswersLines, AnswersWhole, EndsRefused, Progress, StopsAt, StopsAtMany, WritesReady}
use Rattle.tool_streams.specs.Lines.{IsOneLine, input_limit, text_of}
use Rattle.sign_tool.specs.Output.{Outcome, ended, outcome, output_of_whole}
use Rattle.sign_tool.specs.Runs.{IsFront, Runs}
use Rattle.tool_streams.specs.Streams.{TakesLine}
use Rattle.tool_streams.proofs.BlockLemmas.{Consumes-all_held, passes_front, reads_behind, taken_held, takes_nothing}
use Rattle.sign_tool.proofs.RunLemmas.{Going, Progress-lines, Progress-more, Progress-none, Progress-one, Progress-outcome, ends, ends_failing, ends_past, ends_too_long, ends_unfinished, ends_well, outcome-bad, outcome-long, told, whole}

-- no line is answered yet
pub no_lines : (answers : AllAnswers) (octets ready : List ℕ) → AnswersLines answers answers octets ready ready 0 0
no_lines answers octets ready = record {
  within = omega arith;
  few = omega arith;
  sent = [];
  added = sym (append-nil ready);
  lines = [];
  progress = λ first. subst (λ n. Progress first answers answers n [] [] []) (let same : first ≡ first + 0 = omega arith in same) (Progress-none first answers);
}

-- one more line is answered
pub one_more : (before between behind : AllAnswers) (octets old ready new : List ℕ) (at lines count : ℕ) → AnswersLines before between octets old ready at lines
    → AnswersFirst between behind (drop at octets) ready new (Ok (line_is.Answered count)) → AnswersLines before behind octets old new (at + count) (lines + 1)
one_more before between behind octets old ready new at lines count a f =
    let (line, others, begins, counts, short, says) = f in
    let whole_line = line ++ 10 ∷ [] in
    let size : length whole_line ≡ count = omega (arith, counts, length-append line (10 ∷ [])) in
    let stands : drop at octets ≡ whole_line ++ others = begins.stands ∙ sym (append_assoc line (10 ∷ []) others) in
    let front : take (at + count) octets ≡ take at octets ++ whole_line =
    take-add at count octets ∙ ap (λ l. take at octets ++ l) (ap (take count) stands ∙ take_at whole_line others count size) in
    record {
      within = omega (arith, a.within, counts, ap length stands, length-append whole_line others, size, length-drop at octets);
      few = omega (arith, a.few, counts);
      sent = a.sent ++ says.0;
      added = says.1 ∙ ap (λ l. l ++ says.0) a.added ∙ append_assoc old a.sent says.0;
      lines = a.lines ++ line ∷ [];
      progress = λ first.
          let number : first + lines + 1 ≡ first + (lines + 1) = omega arith in
          subst (λ (x : ℕ × List ℕ). Progress first before behind x.0 x.1 (a.sent ++ says.0) (a.lines ++ line ∷ [])) (λ i. (number i, sym front i))
          (Progress-more first before between (first + lines) (take at octets) a.sent a.lines (a.progress first) behind (first + lines + 1) whole_line says.0 (line ∷ []) (Progress-one (first + lines) between behind line says.0 begins.one short says.2));
    }

-- where no line is answered the answering stops
pub stops_here : (at : ℕ) (before behind : AllAnswers) (octets old new : List ℕ) (last : FirstLine) → ((count : ℕ) → last ≡ line_is.Answered count → ⊥) → AnswersFirst before behind octets old new (Ok last)
    → StopsAt at before behind octets old new last × (length old < 98304 → StopsAtMany last new)
stops_here at before behind octets old new (line_is.Answered count) other f = absurd (other count refl)
stops_here at before behind octets old new line_is.Open other f = (f, λ few. omega (arith, ap length f.1, few))
stops_here at before behind octets old new line_is.TooLong other f = (f, λ few. omega (arith, ap length f.3, few))
stops_here at before behind octets old new line_is.Bad other f = (f, λ few. omega (arith, ap length f.4.0, few))

-- a run so far: `rest` was read and isn't answered, and `ready` is answered and isn't written
pub record Answering (first room : ℕ) (answers behind : AllAnswers) (input now output written : Option (List ℕ)) (rest ready : List ℕ) (number left seen : ℕ) (taken gone : List ℕ) (lines : List (List ℕ)) : Type 0 where
  pub takes : Consumes input (prepend_known rest now) taken
  pub writes : Appends output written gone
  pub limit : length taken + left ≡ room
  pub counted : number + left ≤ input_limit + 1
  pub most : length rest ≤ left + 1
  pub looked : seen ≤ length (take left rest)
  pub none : IsOneLine (take seen (take left rest))
  pub progress : Progress first answers behind number taken (gone ++ ready) lines

-- the same in other words
pub first_is : (before behind : AllAnswers) (octets octets' old new : List ℕ) (line line' : FirstLine) → octets ≡ octets' → line ≡ line' → AnswersFirst before behind octets old new (Ok line) → AnswersFirst before behind octets' old new (Ok line')
first_is before behind octets octets' old new line line' e h a =
    subst (λ l. AnswersFirst before behind octets' old new (Ok l)) h (subst (λ o. AnswersFirst before behind o old new (Ok line)) e a)

pub written_is : (old new : Option (List ℕ)) (line line' : FirstLine) (ready ready' : List ℕ) → line ≡ line' → WritesReady old new line ready ready' (Ok tt) → WritesReady old new line' ready ready' (Ok tt)
written_is old new line line' ready ready' h w = subst (λ l. WritesReady old new l ready ready' (Ok tt)) h w

pub stops_is : (at : ℕ) (before behind : AllAnswers) (octets old new : List ℕ) (last last' : FirstLine) → last ≡ last' → StopsAt at before behind octets old new last → StopsAt at before behind octets old new last'
stops_is at before behind octets old new last last' h a = subst (λ l. StopsAt at before behind octets old new l) h a

-- a run begins with no octets
pub begins : (first room : ℕ) (answers : AllAnswers) (input output : Option (List ℕ)) (rest ready : List ℕ) → rest ≡ [] → ready ≡ [] → first + room ≤ input_limit + 1
    → Answering first room answers answers input input output output rest ready first room 0 [] [] []
begins first room answers input output rest ready is empty counted =
    subst (λ l. Answering first room answers answers input input output output l ready first room 0 [] [] []) (sym is)
    (subst (λ l. Answering first room answers answers input input output output [] l first room 0 [] [] []) (sym empty) record {
      takes = takes_nothing input;
      writes = Appends-nil output;
      limit = omega arith;
      counted = counted;
      most = omega arith;
      looked = omega arith;
      none = All-nil (λ c. c ≢ 10);
      progress = Progress-none first answers;
    })

module _ (first room : ℕ) (answers behind : AllAnswers) (input now output written : Option (List ℕ)) (rest ready : List ℕ) (number left seen : ℕ) (taken gone : List ℕ) (lines : List (List ℕ))
    (go : Answering first room answers behind input now output written rest ready number left seen taken gone lines) where
  -- some of what is ready is written
  pub wrote : (written' : Option (List ℕ)) (sent ready' : List ℕ) → Appends written written' sent → sent ++ ready' ≡ ready
      → Answering first room answers behind input now output written' rest ready' number left seen taken (gone ++ sent) lines
  wrote written' sent ready' appended is = record {
    takes = go.takes;
    writes = Appends-trans output written written' gone sent go.writes appended;
    limit = go.limit;
    counted = go.counted;
    most = go.most;
    looked = go.looked;
    none = go.none;
    progress = subst (λ l. Progress first answers behind number taken l lines) (ap (λ l. gone ++ l) (sym is) ∙ sym (append_assoc gone sent ready')) go.progress;
  }

  -- what was written is a front of the output
  front : (part unsent : List ℕ) → part ++ unsent ≡ ready → IfSome input (λ octets. IsFront (gone ++ part) (outcome answers first room octets).output)
  front part unsent all =
      told input now (taken ++ rest) (λ octets. IsFront (gone ++ part) (outcome answers first room octets).output) (taken_held input now taken rest go.takes) (λ ys.
      let others = (outcome behind number left (rest ++ ys)).output in (
        unsent ++ others,
        ap (λ (o : Outcome). o.output) (ap (outcome answers first room) (append_assoc taken rest ys) ∙ Progress-outcome first answers behind number taken (gone ++ ready) lines go.progress (rest ++ ys) left room go.limit)
            ∙ (let regrouped : (gone ++ ready) ++ others ≡ (gone ++ part) ++ (unsent ++ others) = rw (← all) (simp append_assoc refl) in regrouped),
      ))

  -- not all of what is ready is written
  pub ends_cut : (written' : Option (List ℕ)) (part unsent : List ℕ) (e : ToolFault) → e ≡ faults.Write → Appends written written' part → part ++ unsent ≡ ready
      → Runs (outcome answers first room) (output_of_whole answers first) room input now output written' (Some e)
  ends_cut written' part unsent e is appended all =
      subst (λ f. Runs (outcome answers first room) (output_of_whole answers first) room input now output written' (Some f)) (sym is) record {
        taken = taken ++ rest;
        sent = gone ++ part;
        takes = taken_held input now taken rest go.takes;
        writes = Appends-trans output written written' gone part go.writes appended;
        most = omega (arith, go.limit, go.most, length-append taken rest);
        written = front part unsent all;
      }

  -- there is no memory for an answer
  pub ends_refused : (written' : Option (List ℕ)) (e : ToolFault) → EndsRefused written written' ready e
      → Runs (outcome answers first room) (output_of_whole answers first) room input now output written' (Some e)
  ends_refused written' e ends = elim ends [
    | inl all ↦ subst (λ f. Runs (outcome answers first room) (output_of_whole answers first) room input now output written' (Some f)) (sym all.0) record {
      taken = taken ++ rest;
      sent = gone ++ ready;
      takes = taken_held input now taken rest go.takes;
      writes = Appends-trans output written written' gone ready go.writes all.1;
      most = omega (arith, go.limit, go.most, length-append taken rest);
      written = (Progress-lines first answers behind number taken (gone ++ ready) lines go.progress rest, front ready [] (append-nil ready));
    }
    | inr cut ↦ ends_cut written' cut.1 cut.2 e cut.0 cut.3 cut.4
  ]

  -- where all is written, only what was read is still to be answered
  pub going : ready ≡ [] → Going first room answers behind input (prepend_known rest now) output written number left taken gone lines
  going empty = record {
    takes = go.takes;
    writes = go.writes;
    limit = go.limit;
    counted = go.counted;
    progress = subst (λ l. Progress first answers behind number taken l lines) (ap (λ l. gone ++ l) empty ∙ append-nil gone) go.progress;
  }

  -- the run ends before its next line
  pub ends_with : (new : Option (List ℕ)) (e : ToolFault) → ready ≡ [] → EndsWith (prepend_known rest now) new number left e
      → Runs (outcome answers first room) (output_of_whole answers first) room input new output written (Some e)
  ends_with new (faults.LineTooLong n) empty t =
      subst (λ m. Runs (outcome answers first room) (output_of_whole answers first) room input new output written (Some (faults.LineTooLong m))) (sym t.0)
      (ends_too_long first room answers behind input (prepend_known rest now) new output written number left left taken gone [] lines (going empty) t.1)
  ends_with new (faults.BadLine n) empty t =
      subst (λ m. Runs (outcome answers first room) (output_of_whole answers first) room input new output written (Some (faults.BadLine m))) (sym t.0)
      (ends_unfinished first room answers behind input (prepend_known rest now) new output written number left left taken gone [] lines (going empty) t.1)
  ends_with new faults.InputTooLong empty t = ends_past first room answers behind input (prepend_known rest now) new output written number left left taken gone [] lines (going empty) t
  ends_with new faults.Read empty t = ends_failing first room answers behind input (prepend_known rest now) new output written number left left taken gone [] lines (going empty) faults.Read t
  ends_with new faults.Write empty t = ends_failing first room answers behind input (prepend_known rest now) new output written number left left taken gone [] lines (going empty) faults.Write t
  ends_with new faults.Memory empty t = ends_failing first room answers behind input (prepend_known rest now) new output written number left left taken gone [] lines (going empty) faults.Memory t
  ends_with new faults.BadSign empty t = ends_failing first room answers behind input (prepend_known rest now) new output written number left left taken gone [] lines (going empty) faults.BadSign t
  ends_with new (faults.SignRefused n) empty t = ends_failing first room answers behind input (prepend_known rest now) new output written number left left taken gone [] lines (going empty) (faults.SignRefused n) t

  -- the input is at its end
  pub ends_at_end : (new : Option (List ℕ)) → ready ≡ [] → TakesLine (prepend_known rest now) new left left [] (Ok next.End)
      → Runs (outcome answers first room) (output_of_whole answers first) room input new output written None
  ends_at_end new empty t = ends_well first room answers behind input (prepend_known rest now) new output written number left left taken gone [] lines (going empty) t

  -- the rest begins with a line
  regrouped : (line others ys : List ℕ) → take left rest ≡ line ++ 10 ∷ others → rest ++ ys ≡ (line ++ 10 ∷ []) ++ (others ++ (drop left rest ++ ys))
  regrouped line others ys stands =
      ap (λ l. l ++ ys) (sym (take-append-drop left rest) ∙ ap (λ l. l ++ drop left rest) stands) ∙ (let same : ((line ++ 10 ∷ others) ++ drop left rest) ++ ys ≡ (line ++ 10 ∷ []) ++ (others ++ (drop left rest ++ ys)) = simp append_assoc refl in same)

  within : (line others : List ℕ) → take left rest ≡ line ++ 10 ∷ others → length line + 1 + length others ≤ left
  within line others stands = omega (arith, ap length stands, length-take left rest, length-append line (10 ∷ others))

  ends_in_block : (fault : Option ToolFault) → ready ≡ [] → ((ys : List ℕ) → outcome behind number left (rest ++ ys) ≡ ended fault)
      → IfSome input (λ octets. outcome answers first room octets ≡ record { output = gone; fault = fault })
  ends_in_block fault empty is =
      whole first room answers behind input (prepend_known rest now) now output written number left left taken gone [] lines (going empty) rest fault (Consumes-all_held now now rest (Keeps-refl now)) is

  pub ends_long : (line others : List ℕ) → ready ≡ [] → take left rest ≡ line ++ 10 ∷ others → IsOneLine line → 8300 < length (text_of line)
      → Runs (outcome answers first room) (output_of_whole answers first) room input now output written (Some (faults.LineTooLong number))
  ends_long line others empty stands one long =
      ends first room answers behind input (prepend_known rest now) now output written number left left taken gone [] lines (going empty) rest _ (Consumes-all_held now now rest (Keeps-refl now)) go.most
      (ends_in_block (Some (faults.LineTooLong number)) empty (λ ys.
      ap (outcome behind number left) (regrouped line others ys stands) ∙ outcome-long behind number left line (others ++ (drop left rest ++ ys)) one (omega (arith, within line others stands)) long))

  pub ends_bad : (line others : List ℕ) → ready ≡ [] → take left rest ≡ line ++ 10 ∷ others → IsOneLine line → length (text_of line) ≤ 8300
      → ((others' : List (List ℕ)) → (replies : List (Option (List ℕ))) × (behind (text_of line ∷ others') ≡ None ∷ replies))
      → Runs (outcome answers first room) (output_of_whole answers first) room input now output written (Some (faults.BadLine number))
  ends_bad line others empty stands one short bad =
      ends first room answers behind input (prepend_known rest now) now output written number left left taken gone [] lines (going empty) rest _ (Consumes-all_held now now rest (Keeps-refl now)) go.most
      (ends_in_block (Some (faults.BadLine number)) empty (λ ys.
      ap (outcome behind number left) (regrouped line others ys stands)
      ∙ outcome-bad behind number left line (others ++ (drop left rest ++ ys)) (left - (length line + 1)) one (omega (arith, within line others stands)) short bad))

  -- what stands after the first octets of a block stands after them in what was read
  pub behind_front : (at : ℕ) → at ≤ left → drop at (take left rest) ≡ take (left - at) (drop at rest)
  behind_front at fits = ap (λ n. drop at (take n rest)) (let parts : left ≡ at + (left - at) = omega (arith, fits) in parts) ∙ drop-take at (left - at) rest

  -- the first lines are answered
  pub answered_lines : (next' : AllAnswers) (ready' : List ℕ) (at count : ℕ) (a : AnswersLines behind next' (take left rest) ready ready' at count)
      → Answering first room answers next' input now output written (drop at rest) ready' (number + count) (left - at) 0 (taken ++ take at (take left rest)) gone (lines ++ a.lines)
  answered_lines next' ready' at count a =
      let fits : at ≤ left = omega (arith, a.within, length-take left rest) in
      let size : length (take at (take left rest)) ≡ at = length-take-le at (take left rest) a.within in
      let parts : rest ≡ take at (take left rest) ++ drop at rest =
      sym (take-append-drop at rest) ∙ ap (λ l. l ++ drop at rest) (sym (take-take at left rest fits)) in
      record {
        takes = passes_front input now rest (take at (take left rest)) (drop at rest) taken parts go.takes;
        writes = go.writes;
        limit = omega (arith, go.limit, fits, length-append taken (take at (take left rest)), size);
        counted = omega (arith, go.counted, fits, a.few);
        most = omega (arith, go.most, fits, length-drop at rest);
        looked = omega arith;
        none = All-nil (λ c. c ≢ 10);
        progress = subst (λ l. Progress first answers next' (number + count) (taken ++ take at (take left rest)) l (lines ++ a.lines)) (append_assoc gone ready a.sent ∙ ap (λ l. gone ++ l) (sym a.added))
            (Progress-more first answers behind number taken (gone ++ ready) lines go.progress next' (number + count) (take at (take left rest)) a.sent a.lines (a.progress number));
      }

module _ (first room : ℕ) (answers behind : AllAnswers) (input now output written : Option (List ℕ)) (rest ready : List ℕ) (number left seen : ℕ) (taken gone : List ℕ) (lines : List (List ℕ))
    (go : Answering first room answers behind input now output written rest ready number left seen taken gone lines) where
  -- a writer fails where the answering stopped
  pub ends_writing : (at : ℕ) (behind' : AllAnswers) (line : FirstLine) (ready' ready'' : List ℕ) (written' : Option (List ℕ)) (e : ToolFault) → StopsAt at behind behind' (take left rest) ready ready' line
      → WritesReady written written' line ready' ready'' (Err e) → Runs (outcome answers first room) (output_of_whole answers first) room input now output written' (Some e)
  ends_writing at behind' (line_is.Answered count) ready' ready'' written' e a w = ends_cut first room answers behind input now output written rest ready number left seen taken gone lines go written' w.1 w.2 e w.0 w.3 (w.4 ∙ a.2)
  ends_writing at behind' line_is.Open ready' ready'' written' e a w = ends_cut first room answers behind input now output written rest ready number left seen taken gone lines go written' w.1 w.2 e w.0 w.3 (w.4 ∙ a.1)
  ends_writing at behind' line_is.TooLong ready' ready'' written' e a w = ends_cut first room answers behind input now output written rest ready number left seen taken gone lines go written' w.1 w.2 e w.0 w.3 (w.4 ∙ a.3)
  ends_writing at behind' line_is.Bad ready' ready'' written' e a w = ends_cut first room answers behind input now output written rest ready number left seen taken gone lines go written' w.1 w.2 e w.0 w.3 (w.4 ∙ a.4.0)

  -- the answering stopped after an answered line, and what is ready may be written
  pub goes_on : (at : ℕ) (behind' : AllAnswers) (count : ℕ) (ready' ready'' : List ℕ) (written' : Option (List ℕ)) → StopsAt at behind behind' (take left rest) ready ready' (line_is.Answered count)
      → (w : WritesReady written written' (line_is.Answered count) ready' ready'' (Ok tt))
      → Answering first room answers behind' input now output written' rest ready'' number left seen taken (gone ++ w.0) lines
  goes_on at behind' count ready' ready'' written' a w =
      subst (λ b. Answering first room answers b input now output written' rest ready'' number left seen taken (gone ++ w.0) lines) (sym a.1)
      (wrote first room answers behind input now output written rest ready number left seen taken gone lines go written' w.0 ready'' w.1 (w.2 ∙ a.2))

  -- no line ends here, and what is ready is written
  pub paused : (behind' : AllAnswers) (ready' ready'' : List ℕ) (written' : Option (List ℕ)) → AnswersFirst behind behind' (take left rest) ready ready' (Ok line_is.Open)
      → (w : WritesReady written written' line_is.Open ready' ready'' (Ok tt))
      → Answering first room answers behind' input now output written' rest ready'' number left seen taken (gone ++ w.0) lines
  paused behind' ready' ready'' written' a w =
      subst (λ b. Answering first room answers b input now output written' rest ready'' number left seen taken (gone ++ w.0) lines) (sym a.2)
      (wrote first room answers behind input now output written rest ready number left seen taken gone lines go written' w.0 ready'' w.1 (w.2 ∙ a.1))

  -- more was read
  pub read_more : (new : Option (List ℕ)) (rest' : List ℕ) (seen' : ℕ) → IsOneLine (take left rest) → seen' ≡ length rest → ReadsOn now new number left rest rest' (Ok true)
      → Answering first room answers behind input new output written rest' ready number left seen' taken gone lines
  read_more new rest' seen' one is r =
      let (more, took, grown, some, most) = r in
      let fits : length rest ≤ left = omega (arith, ap length grown, some, most, length-append rest more) in
      let front : take seen' (take left rest') ≡ take left rest =
      ap (λ n. take n (take left rest')) is ∙ take-take (length rest) left rest' fits ∙ ap (take (length rest)) grown ∙ take_at rest more (length rest) refl ∙ sym (take_all left rest fits) in
      record {
        takes = subst (λ l. Consumes input (prepend_known l new) taken) (sym grown) (reads_behind input now new rest more taken took go.takes);
        writes = go.writes;
        limit = go.limit;
        counted = go.counted;
        most = most;
        looked = omega (arith, is, fits, ap length grown, length-take left rest', length-append rest more);
        none = subst IsOneLine (sym front) one;
        progress = go.progress;
      }

  -- the first line is too long
  pub stops_long : (behind' : AllAnswers) (ready' ready'' : List ℕ) (written' : Option (List ℕ)) → AnswersFirst behind behind' (take left rest) ready ready' (Ok line_is.TooLong)
      → WritesReady written written' line_is.TooLong ready' ready'' (Ok tt) → Runs (outcome answers first room) (output_of_whole answers first) room input now output written' (Some (faults.LineTooLong number))
  stops_long behind' ready' ready'' written' a w =
      let (line, others, begins, same, long) = a in
      ends_long first room answers behind input now output written' rest ready'' number left seen taken (gone ++ w.0) lines
      (wrote first room answers behind input now output written rest ready number left seen taken gone lines go written' w.0 ready'' w.1 (w.2 ∙ same)) line others w.3 begins.stands begins.one long

  -- the first line is bad
  pub stops_bad : (behind' : AllAnswers) (ready' ready'' : List ℕ) (written' : Option (List ℕ)) → AnswersFirst behind behind' (take left rest) ready ready' (Ok line_is.Bad)
      → WritesReady written written' line_is.Bad ready' ready'' (Ok tt) → Runs (outcome answers first room) (output_of_whole answers first) room input now output written' (Some (faults.BadLine number))
  stops_bad behind' ready' ready'' written' a w =
      let (line, others, begins, short, answer) = a in
      ends_bad first room answers behind input now output written' rest ready'' number left seen taken (gone ++ w.0) lines
      (wrote first room answers behind input now output written rest ready number left seen taken gone lines go written' w.0 ready'' w.1 (w.2 ∙ answer.0)) line others w.3 begins.stands begins.one short answer.1

-- a run whose answering stopped, after so many octets of a block
pub record Stopped (first room : ℕ) (answers behind : AllAnswers) (input now output written : Option (List ℕ)) (rest ready : List ℕ) (number left at : ℕ) (last : FirstLine) (gone : List ℕ) : Type 0 where
  pub between : AllAnswers
  pub ready_then : List ℕ
  pub taken : List ℕ
  pub lines : List (List ℕ)
  pub go : Answering first room answers between input now output written rest ready_then number left 0 taken gone lines
  pub stops : StopsAt at between behind (take left rest) ready_then ready last

pub stopped : (first room : ℕ) (answers behind : AllAnswers) (input now output written : Option (List ℕ)) (rest ready : List ℕ) (number left seen : ℕ) (taken gone : List ℕ) (lines : List (List ℕ))
    → Answering first room answers behind input now output written rest ready number left seen taken gone lines
    → (behind' : AllAnswers) (octets ready' : List ℕ) (front : Front) → octets ≡ take left rest → AnswersWhole behind behind' octets ready ready' (Ok front)
    → Stopped first room answers behind' input now output written (drop front.at rest) ready' (number + front.lines) (left - front.at) front.at front.last gone
stopped first room answers behind input now output written rest ready number left seen taken gone lines go behind' octets ready' front is whole =
    let (between, mid, a, stops) = subst (λ l. AnswersWhole behind behind' l ready ready' (Ok front)) is whole in
    let fits : front.at ≤ left = omega (arith, a.within, length-take left rest) in
    record {
      between = between;
      ready_then = mid;
      taken = taken ++ take front.at (take left rest);
      lines = lines ++ a.lines;
      go = answered_lines first room answers behind input now output written rest ready number left seen taken gone lines go between mid front.at front.lines a;
      stops = subst (λ l. StopsAt front.at between behind' l mid ready' front.last) (behind_front first room answers behind input now output written rest ready number left seen taken gone lines go front.at fits) stops;
    }

-- there is no memory for an answer
pub stops_refused : (first room : ℕ) (answers behind : AllAnswers) (input now output written : Option (List ℕ)) (rest ready : List ℕ) (number left seen : ℕ) (taken gone : List ℕ) (lines : List (List ℕ))
    → Answering first room answers behind input now output written rest ready number left seen taken gone lines
    → (behind' : AllAnswers) (octets ready' : List ℕ) (refused : AllocError) → octets ≡ take left rest → AnswersWhole behind behind' octets ready ready' (Err refused)
    → (written' : Option (List ℕ)) (e : ToolFault) → EndsRefused written written' ready' e → Runs (outcome answers first room) (output_of_whole answers first) room input now output written' (Some e)
stops_refused first room answers behind input now output written rest ready number left seen taken gone lines go behind' octets ready' refused is whole written' e ends =
    let (between, at, count, a) = subst (λ l. AnswersWhole behind behind' l ready ready' (Err refused)) is whole in
    ends_refused first room answers between input now output written (drop at rest) ready' (number + count) (left - at) 0 (taken ++ take at (take left rest)) gone (lines ++ a.lines)
    (answered_lines first room answers behind input now output written rest ready number left seen taken gone lines go between ready' at count a) written' e ends

-- how far it went
pub went : (before behind : AllAnswers) (octets old new : List ℕ) (left : ℕ) (rest : List ℕ) (front : Front) → octets ≡ take left rest → AnswersWhole before behind octets old new (Ok front)
    → (front.at ≤ left) × (front.at ≤ length rest) × (front.lines ≤ front.at)
went before behind octets old new left rest front is whole =
    let (between, mid, a, stops) = whole in
    let size = ap length is in
    (omega (arith, a.within, size, length-take left rest), omega (arith, a.within, size, length-take left rest), a.few)
