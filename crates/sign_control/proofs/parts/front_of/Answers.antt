use Rattle.std.proofs.Common.{◌-◌, ◌∙◌, List, ℕ, Result, Ok, ap, sym, drop, length, arith, length-drop}
use Rattle.std.proofs.lemmas.List.{take_all}
use Rattle.saved_octets.specs.declared.fault.StateFault.{StateFault}
use Rattle.sign_control.specs.declared.parts.Parts.{Parts}
use Rattle.sign_control.proofs.SavedLemmas.{front_read}
use Rattle.sign_control.proofs.parts.front_of.Goals as goal

pub returns-clause-front : goal.returns-clause-front
returns-clause-front c =
    let octets = c.args.octets.now in
    let whole = take_all (length octets - 53) (drop 53 octets) (omega (arith, length-drop 53 octets)) in
    front_read octets c.in_ok-parts.parts (omega arith) c.in_ok-parts.ensures.parts
    ∙ ap (λ (l : List ℕ). let r : Result (Parts × List ℕ) StateFault = Ok (c.in_ok-parts.parts, l) in r) (sym whole)
