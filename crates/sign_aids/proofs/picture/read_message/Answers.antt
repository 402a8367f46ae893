use Rattle.std.proofs.Common.{◌+◌, [], ◌∷◌, ◌++◌, arith, refl}
use Rattle.std.proofs.lemmas.List.{length-append}
use Rattle.tool_streams.specs.declared.fault.ToolFault.TheVariants.{BadLine, InputTooLong, LineTooLong}
use Rattle.tool_streams.proofs.FaultLemmas
use Rattle.sign_aids.proofs.PictureLemmas
use Rattle.sign_aids.proofs.picture.read_message.Goals as goal

pub returns-in-Ok-TooLong-clause-fault : goal.returns-in-Ok-TooLong-clause-fault
returns-in-Ok-TooLong-clause-fault g c =
    let taken = rw c.in-Ok-TooLong.field-0-is at c.in-Ok-TooLong.ensures.taken in
    PictureLemmas.first_fault c.args.place _ _ (taken.0 ++ 10 ∷ []) (LineTooLong c.args.place.number) taken.1 (FaultLemmas.too_long c.args.place.number _ taken.0 (g.R.Read.remaining c.next_line.new.reader) taken.2 taken.3 taken.4)

pub returns-in-Ok-Unfinished-clause-fault : goal.returns-in-Ok-Unfinished-clause-fault
returns-in-Ok-Unfinished-clause-fault g c =
    let taken = rw c.in-Ok-Unfinished.field-0-is at c.in-Ok-Unfinished.ensures.taken in
    PictureLemmas.first_fault c.args.place _ _ taken.0 (BadLine c.args.place.number) taken.1 (refl, taken.3, taken.5, taken.4, taken.2)

pub returns-in-Ok-InputTooLong-clause-fault : goal.returns-in-Ok-InputTooLong-clause-fault
returns-in-Ok-InputTooLong-clause-fault g c =
    let taken = rw c.in-Ok-InputTooLong.field-0-is at c.in-Ok-InputTooLong.ensures.taken in
    PictureLemmas.first_fault c.args.place _ _ (taken.0 ++ taken.1 ∷ []) InputTooLong taken.2
    (FaultLemmas.past_limit c.args.place.number _ taken.0 taken.1 (g.R.Read.remaining c.next_line.new.reader) taken.3 taken.4)

pub returns-in-Err-clause-fault : goal.returns-in-Err-clause-fault
returns-in-Err-clause-fault g c =
    let taken = c.in-Err.ensures.taken in
    PictureLemmas.first_fault c.args.place _ _ taken.0 _ taken.1 (FaultLemmas.failed _ _ taken.0 _ _ taken.3)

pub returns-in-Ok-Line-next_line-clause-fault : goal.returns-in-Ok-Line-next_line-clause-fault
returns-in-Ok-Line-next_line-clause-fault g c =
    let first = rw c.in-Ok-Line.field-0-is at c.in-Ok-Line.ensures.taken in
    let taken = rw c.in-Ok-Line-next_line.field-0-is at c.in-Ok-Line-next_line.ensures.taken in
    let more = c.next_line-2.new.line.items in
    PictureLemmas.second_line c.args.place _ _ _ c.next_line.new.line.items (more ++ 10 ∷ []) first.0 first.1 taken.0 (omega (arith, length-append more (10 ∷ [])))

pub returns-in-Ok-TooLong-next_line-clause-fault : goal.returns-in-Ok-TooLong-next_line-clause-fault
returns-in-Ok-TooLong-next_line-clause-fault g c =
    let first = rw c.in-Ok-Line.field-0-is at c.in-Ok-Line.ensures.taken in
    let taken = rw c.in-Ok-TooLong-next_line.field-0-is at c.in-Ok-TooLong-next_line.ensures.taken in
    PictureLemmas.second_line c.args.place _ _ _ c.next_line.new.line.items (taken.0 ++ 10 ∷ []) first.0 first.1 taken.1 (omega (arith, length-append taken.0 (10 ∷ [])))

pub returns-in-Ok-Unfinished-next_line-clause-fault : goal.returns-in-Ok-Unfinished-next_line-clause-fault
returns-in-Ok-Unfinished-next_line-clause-fault g c =
    let first = rw c.in-Ok-Line.field-0-is at c.in-Ok-Line.ensures.taken in
    let taken = rw c.in-Ok-Unfinished-next_line.field-0-is at c.in-Ok-Unfinished-next_line.ensures.taken in
    PictureLemmas.second_line c.args.place _ _ _ c.next_line.new.line.items taken.0 first.0 first.1 taken.1 taken.5

pub returns-in-Ok-InputTooLong-next_line-clause-fault :
    goal.returns-in-Ok-InputTooLong-next_line-clause-fault
returns-in-Ok-InputTooLong-next_line-clause-fault g c =
    let first = rw c.in-Ok-Line.field-0-is at c.in-Ok-Line.ensures.taken in
    let taken = rw c.in-Ok-InputTooLong-next_line.field-0-is at c.in-Ok-InputTooLong-next_line.ensures.taken in
    PictureLemmas.second_fault c.args.place _ _ _ _ c.next_line.new.line.items (taken.0 ++ taken.1 ∷ []) InputTooLong first.0 first.2 taken.2
    (FaultLemmas.past_limit (c.args.place.number + 1) _ taken.0 taken.1 (g.R.Read.remaining c.next_line-2.new.reader) taken.3 taken.4)

pub returns-in-Err-next_line-clause-fault : goal.returns-in-Err-next_line-clause-fault
returns-in-Err-next_line-clause-fault g c =
    let first = rw c.in-Ok-Line.field-0-is at c.in-Ok-Line.ensures.taken in
    let taken = c.in-Err-next_line.ensures.taken in
    PictureLemmas.second_fault c.args.place _ _ _ _ c.next_line.new.line.items taken.0 _ first.0 first.2 taken.1 (FaultLemmas.failed _ _ taken.0 _ _ taken.3)
