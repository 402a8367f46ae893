-- The faults of lines.
use Rattle.std.proofs.Common.{◌≡◌, ℕ, ◌+◌, ◌<◌, ◌≤◌, List, [], ◌∷◌, ◌++◌, length, Option, refl, arith}
use Rattle.std.proofs.lemmas.List.{length-append}
use Rattle.tool_streams.specs.declared.fault.ToolFault.{ToolFault}
use Rattle.tool_streams.specs.declared.fault.ToolFault.TheVariants as faults
use Rattle.tool_streams.specs.Lines.{IsOneLine, text_of}
use Rattle.tool_streams.specs.Streams.{FailsAfter, IsLineFault}

-- a line that is too long
pub too_long : (number left : ℕ) (taken : List ℕ) (input : Option (List ℕ)) → IsOneLine taken → length taken + 1 ≤ left → 8300 < length (text_of taken)
    → IsLineFault number left (taken ++ 10 ∷ []) input (faults.LineTooLong number)
too_long number left taken input one room long = (refl, (taken, refl, one, omega (arith, length-append taken (10 ∷ []), room), long))

-- more than an input may have
pub past_limit : (number left : ℕ) (taken : List ℕ) (octet : ℕ) (input : Option (List ℕ)) → IsOneLine taken → length taken ≡ left → IsLineFault number left (taken ++ octet ∷ []) input faults.InputTooLong
past_limit number left taken octet input one all = (taken, octet, refl, one, all)

-- what is so of a reader that fails, and of refused memory, is so of each failure
pub failing : (Holds : ToolFault → Type 0) (taken : List ℕ) (e : ToolFault) → (IsOneLine taken → Holds faults.Read) → Holds faults.Memory → FailsAfter taken e → Holds e
failing Holds taken faults.Read read memory is = read is
failing Holds taken faults.Memory read memory is = memory
failing Holds taken faults.Write read memory is = absurd cc
failing Holds taken (faults.LineTooLong line) read memory is = absurd cc
failing Holds taken (faults.BadLine line) read memory is = absurd cc
failing Holds taken faults.InputTooLong read memory is = absurd cc
failing Holds taken faults.BadSign read memory is = absurd cc
failing Holds taken (faults.SignRefused fault) read memory is = absurd cc

pub failed : (number left : ℕ) (taken : List ℕ) (input : Option (List ℕ)) (e : ToolFault) → FailsAfter taken e → IsLineFault number left taken input e
failed number left taken input e is = failing (λ (e : ToolFault). IsLineFault number left taken input e) taken e (λ one. one) tt is
