use Rattle.std.proofs.Common.{◌≡◌, ◌+◌, Some, drop, length, sym, ap, ◌∙◌, arith, length-drop}
use Rattle.std.specs.Prelude.{slice_get}
use Rattle.std.proofs.lemmas.Option.{slice_get_within}
use Rattle.multi_token.specs.Spelling.{Char, IsPlain}
use Rattle.multi_token.proofs.PlaceLemmas.{bracket_few, single_token}
use Rattle.multi_token.specs.Counted.{charged}
use Rattle.multi_token.specs.Tokens.{bracket_steps}
use Rattle.multi_token.proofs.StepLemmas.{charged-charged}
use Rattle.multi_token.proofs.token.next_token.Goals as goal

pub returns-in-Err-clause-fault_steps : goal.returns-in-Err-clause-fault_steps
returns-in-Err-clause-fault_steps c =
    let start = c.args.source.now in
    let first = c.in-Some.first in
    let k = bracket_steps first (drop (c.args.at + 1) c.read.new.self.octets) in
    let few = bracket_few first (drop (c.args.at + 1) c.read.new.self.octets) in
    let same = ap (λ s. length s.octets) c.read.ensures.step in
    let within = slice_get_within start.octets c.args.at first (sym c.in-Some.ensures.octet) in
    (1 + k, omega arith, omega (arith, few, length-drop (c.args.at + 1) c.read.new.self.octets, same, within), c.in-Err.ensures.fault_steps ∙ ap (λ s. charged s k) c.read.ensures.step ∙ charged-charged start 1 k)

pub returns-then-first-ne93-clause-at_none : goal.returns-then-first-ne93-clause-at_none
returns-then-first-ne93-clause-at_none c = λ before none.
    let xs = c.args.source.now.octets in
    let here : slice_get xs c.args.at ≡ Some c.in-Some.first = sym c.in-Some.ensures.octet in
    let plain : IsPlain c.in-Some.first = (λ e. omega arith, λ e. omega arith) in
    let token = single_token xs c.args.at c.in-Some.first c.read.ensures.room here plain in
    absurd (none (Char c.in-Some.first) (drop (c.args.at + 1) xs) token.begins)

pub returns-in-Err-clause-fault : goal.returns-in-Err-clause-fault
returns-in-Err-clause-fault c =
    let within = slice_get_within c.args.source.now.octets c.args.at c.in-Some.first (sym c.in-Some.ensures.octet) in
    (c.in-Err.ensures.fault, within)

pub returns-in-Err-clause-at_end : goal.returns-in-Err-clause-at_end
returns-in-Err-clause-at_end c = λ end.
    let within = slice_get_within c.args.source.now.octets c.args.at c.in-Some.first (sym c.in-Some.ensures.octet) in
    absurd (omega (arith, within, end))
