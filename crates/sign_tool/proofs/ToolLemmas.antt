-- What a run says of the tool.
use Rattle.std.proofs.Common.{◌≡◌, ◌⊎◌, inl, inr, ℕ, List, Option, None, Some, IfSome, sym, ap, subst}
use Rattle.std.specs.Io.KnownBytes.{Consumes, Appends}
use Rattle.tool_streams.specs.declared.fault.ToolFault.{ToolFault}
use Rattle.tool_streams.specs.declared.fault.ToolFault.TheVariants as faults
use Rattle.sign_tool.specs.Output.{Outcome}
use Rattle.sign_tool.specs.Runs.{IsFront, Runs, WritesLines}
use Rattle.sign_tool.specs.Tool.{IsOfInput}

if_some : (input : Option (List ℕ)) (P Q : List ℕ → Type 0) → ((octets : List ℕ) → P octets → Q octets) → IfSome input P → IfSome input Q
if_some None P Q h p = tt
if_some (Some octets) P Q h p = h octets p

module _ (outcomes : List ℕ → Outcome) (so_far : List ℕ → List ℕ) (limit : ℕ) (input input' output output' : Option (List ℕ)) where
  Whole : Option ToolFault → List ℕ → Type 0
  Whole fault octets = Appends output output' (outcomes octets).output × (fault ≡ (outcomes octets).fault)

  -- what was sent is the output, and the fault is its fault
  all_of : (fault : Option ToolFault) (sent : List ℕ) → Appends output output' sent
      → IfSome input (λ octets. outcomes octets ≡ record { output = sent; fault = fault }) → IfSome input (Whole fault)
  unfolding Whole
  all_of fault sent wrote = if_some input (λ octets. outcomes octets ≡ record { output = sent; fault = fault }) (Whole fault)
      (λ octets e. (subst (Appends output output') (sym (ap (λ (o : Outcome). o.output) e)) wrote, sym (ap (λ (o : Outcome). o.fault) e)))

  whole_of : (fault : Option ToolFault) → Runs outcomes so_far limit input input' output output' fault → IsOfInput fault → IfSome input (Whole fault)
  whole_of None r own = all_of _ _ r.writes r.written
  whole_of (Some faults.Read) r own = absurd own
  whole_of (Some faults.Write) r own = absurd own
  whole_of (Some faults.Memory) r own = absurd own
  whole_of (Some (faults.LineTooLong n)) r own = all_of _ _ r.writes r.written
  whole_of (Some (faults.BadLine n)) r own = all_of _ _ r.writes r.written
  whole_of (Some faults.InputTooLong) r own = all_of _ _ r.writes r.written
  whole_of (Some faults.BadSign) r own = all_of _ _ r.writes r.written
  whole_of (Some (faults.SignRefused n)) r own = all_of _ _ r.writes r.written

  pub whole : (fault : Option ToolFault) → Runs outcomes so_far limit input input' output output' fault → IsOfInput fault
      → IfSome input (λ octets. Appends output output' (outcomes octets).output × (fault ≡ (outcomes octets).fault))
  unfolding Whole
  whole fault r own = whole_of fault r own

  pub read : (fault : Option ToolFault) → fault ≡ Some faults.Read → Runs outcomes so_far limit input input' output output' fault
      → (taken : List ℕ) × Consumes input input' taken × Appends output output' (so_far taken)
  read fault is r =
      let s = subst (Runs outcomes so_far limit input input' output output') is r in
      (s.taken, s.takes, subst (Appends output output') (sym s.written) s.writes)

  front_of : (sent : List ℕ) → Appends output output' sent → IfSome input (λ octets. IsFront sent (outcomes octets).output)
      → IfSome input (λ octets. (sent : List ℕ) × Appends output output' sent × IsFront sent (outcomes octets).output)
  front_of sent wrote = if_some input (λ octets. IsFront sent (outcomes octets).output)
      (λ octets. (sent : List ℕ) × Appends output output' sent × IsFront sent (outcomes octets).output) (λ octets f. (sent, wrote, f))

  pub front : (fault : Option ToolFault) → (fault ≡ Some faults.Write) ⊎ (fault ≡ Some faults.Memory) → Runs outcomes so_far limit input input' output output' fault
      → IfSome input (λ octets. (sent : List ℕ) × Appends output output' sent × IsFront sent (outcomes octets).output)
  front fault which r = elim which [
    | inl e ↦ let s = subst (Runs outcomes so_far limit input input' output output') e r in front_of s.sent s.writes s.written
    | inr e ↦ let s = subst (Runs outcomes so_far limit input input' output output') e r in front_of s.sent s.writes s.written.1
  ]

  pub lines : (fault : Option ToolFault) → fault ≡ Some faults.Memory → Runs outcomes so_far limit input input' output output' fault
      → WritesLines so_far input input' output output'
  lines fault is r =
      let s = subst (Runs outcomes so_far limit input input' output output') is r in
      let (front, begins, answers) = s.written.0 in
      (s.taken, front, s.takes, begins, subst (Appends output output') (sym answers) s.writes)
