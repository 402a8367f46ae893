-- What is said of a sign that was served.
use Rattle.std.proofs.Common.{◌≡◌, ◌⊎◌, inl, inr, ℕ, ◌^◌, ◌≤◌, List, Option, None, Some, IfSome, IfErr, OnOk, Result, Ok, Err, length, refl, sym, subst}
use Rattle.std.specs.Io.KnownBytes.{Consumes, Appends}
use Rattle.tool_streams.specs.declared.fault.ToolFault.{ToolFault}
use Rattle.tool_streams.specs.declared.fault.ToolFault.TheVariants as faults
use Rattle.sign_tool.specs.Runs.{IsFront, WritesLines, fault_of}
use Rattle.sign_tool.specs.Serving.{ServerData, Serves, replies_so_far, replies_to_all}

if_some : (input : Option (List ℕ)) (P Q : List ℕ → Type 0) → ((octets : List ℕ) → P octets → Q octets) → IfSome input P → IfSome input Q
if_some None P Q h p = tt
if_some (Some octets) P Q h p = h octets p

module _ (server : ServerData) (input input' output output' : Option (List ℕ)) where
  Written : List ℕ → Type 0
  Written octets = Appends output output' (replies_to_all server octets)

  whole_of : Serves server input input' output output' None → IfSome input Written
  unfolding Written
  whole_of s = if_some input (λ octets. replies_to_all server octets ≡ s.sent) Written (λ octets e. subst (Appends output output') (sym e) s.writes) s.served

  pub whole : (result : Result (Unit {0}) ToolFault) → Serves server input input' output output' (fault_of result)
      → OnOk result (IfSome input (λ octets. Appends output output' (replies_to_all server octets)))
  unfolding Written
  whole (Ok done) s = whole_of s
  whole (Err e) s = tt

  pub read : (fault : Option ToolFault) → fault ≡ Some faults.Read → Serves server input input' output output' fault
      → (taken : List ℕ) × Consumes input input' taken × Appends output output' (replies_so_far server taken)
  read fault is r =
      let s = subst (Serves server input input' output output') is r in
      (s.taken, s.takes, subst (Appends output output') (sym s.served) s.writes)

  front_of : (sent : List ℕ) → Appends output output' sent → IfSome input (λ octets. IsFront sent (replies_to_all server octets))
      → IfSome input (λ octets. (sent : List ℕ) × Appends output output' sent × IsFront sent (replies_to_all server octets))
  front_of sent wrote = if_some input (λ octets. IsFront sent (replies_to_all server octets))
      (λ octets. (sent : List ℕ) × Appends output output' sent × IsFront sent (replies_to_all server octets)) (λ octets f. (sent, wrote, f))

  pub front : (fault : Option ToolFault) → (fault ≡ Some faults.Write) ⊎ (fault ≡ Some faults.Memory) → Serves server input input' output output' fault
      → IfSome input (λ octets. (sent : List ℕ) × Appends output output' sent × IsFront sent (replies_to_all server octets))
  front fault which r = elim which [
    | inl e ↦ let s = subst (Serves server input input' output output') e r in front_of s.sent s.writes s.served
    | inr e ↦ let s = subst (Serves server input input' output output') e r in front_of s.sent s.writes s.served.1
  ]

  pub lines : (fault : Option ToolFault) → fault ≡ Some faults.Memory → Serves server input input' output output' fault
      → WritesLines (replies_so_far server) input input' output output'
  lines fault is r =
      let s = subst (Serves server input input' output output') is r in
      let (front, begins, answers) = s.served.0 in
      (s.taken, front, s.takes, begins, subst (Appends output output') (sym answers) s.writes)

  pub long : (fault : Option ToolFault) → fault ≡ Some faults.InputTooLong → Serves server input input' output output' fault
      → (taken : List ℕ) × Consumes input input' taken × (2 ^ 63 ≤ length taken)
  long fault is r =
      let s = subst (Serves server input input' output output') is r in
      (s.taken, s.takes, s.served.0)

  pub only : (result : Result (Unit {0}) ToolFault) → Serves server input input' output output' (fault_of result)
      → IfErr result (λ e. (e ≡ faults.Read) ⊎ (e ≡ faults.Write) ⊎ (e ≡ faults.Memory) ⊎ (e ≡ faults.InputTooLong))
  only (Ok done) s = tt
  only (Err faults.Read) s = inl refl
  only (Err faults.Write) s = inr (inl refl)
  only (Err faults.Memory) s = inr (inr (inl refl))
  only (Err faults.InputTooLong) s = inr (inr (inr refl))
  only (Err (faults.LineTooLong n)) s = absurd s.served
  only (Err (faults.BadLine n)) s = absurd s.served
  only (Err faults.BadSign) s = absurd s.served
  only (Err (faults.SignRefused n)) s = absurd s.served
