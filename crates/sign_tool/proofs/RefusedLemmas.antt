-- A run for which memory was refused before it had its sign.
use Rattle.std.proofs.Common.{◌≡◌, ℕ, Bool, true, false, List, [], Some, IfSome, Option, refl}
use Rattle.tool_streams.specs.declared.fault.ToolFault.TheVariants as faults
use Rattle.sign_tool.specs.declared.tool.Mode.{Mode}
use Rattle.tool_streams.specs.Lines.{cut, parted}
use Rattle.sign_tool.specs.Output.{answered, filed, output_of_whole, output_of_whole_file}
use Rattle.sign_tool.specs.Runs.{IsFront, IsWritten}
use Rattle.sign_tool.specs.Tool.{outcome_of, output_so_far}
use Rattle.sign_tool.proofs.RunLemmas.{if_some_always}

-- nothing was written yet, which is a front of any output
pub front_of_any : (mode : Mode) (sample : Bool) (input : Option (List ℕ)) → IfSome input (λ octets. IsFront [] (outcome_of mode sample octets).output)
front_of_any mode sample input = if_some_always input _ (λ octets. ((outcome_of mode sample octets).output, refl))

-- where no octet is taken there is no line to answer
none_so_far : (mode : Mode) (sample : Bool) → output_so_far mode sample [] ≡ []
unfolding output_of_whole output_of_whole_file filed parted cut answered
none_so_far mode true = refl
none_so_far mode false = refl

-- memory was refused, and nothing was written yet
pub written_refused : (mode : Mode) (sample : Bool) (input : Option (List ℕ)) (taken : List ℕ) → IsWritten (outcome_of mode sample) (output_so_far mode sample) input taken [] (Some faults.Memory)
written_refused mode sample input taken = (([], (taken, refl), none_so_far mode sample), front_of_any mode sample input)
