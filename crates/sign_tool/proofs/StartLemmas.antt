-- The start of a run: from what stands before the lines to the lines.
use Rattle.std.proofs.Common.{◌≡◌, ◌⊎◌, inl, inr, ℕ, Bool, true, List, [], ◌++◌, Option, None, Some, IfSome, Result, Ok, Err, refl, sym, ap, ◌∙◌, subst, arith, append_assoc, append-nil, map}
use Rattle.std.specs.Io.KnownBytes.{Consumes}
use Rattle.std.proofs.KnownBytes.{Consumes-nil, Consumes-trans, Appends-nil}
use Rattle.std.proofs.lemmas.List.{length-append}
use Rattle.tool_streams.specs.declared.fault.ToolFault.{ToolFault}
use Rattle.tool_streams.specs.declared.fault.ToolFault.TheVariants as faults
use Rattle.tool_streams.specs.declared.lines.LineStart.{LineStart}
use Rattle.sign_tool.specs.declared.setup.Setup.{Setup}
use Rattle.sign_tool.specs.declared.tool.Mode.{Mode}
use Rattle.sign_tool.specs.declared.tool.Mode.TheVariants.{Check, Show}
use Rattle.sign_font.specs.Sign.{SignData}
use Rattle.sign_tool.specs.Frame.{ShowerData, show_answer}
use Rattle.sign_tool.specs.Reply.{check_answer}
use Rattle.tool_streams.specs.Lines.{cut, input_limit}
use Rattle.sign_tool.specs.Output.{Outcome, answered, outcome, output_of_whole}
use Rattle.sign_tool.specs.Runs.{Fails, IsFront, IsOfLines, IsWritten, Leads, Runs, outcome_on, output_on}
use Rattle.sign_tool.specs.SampleSetup.{sample_setup}
use Rattle.sign_tool.specs.Tool.{answers_of, outcome_of, output_so_far}
use Rattle.sign_tool.proofs.RefusedLemmas.{front_of_any, written_refused}
use Rattle.sign_tool.proofs.RunLemmas.{if_some_always, told}

-- what is known of what stands after these octets, where a reader tells
told_by : (a b : Option (List ℕ)) (bs : List ℕ) (P Q : List ℕ → Type 0) → Consumes a b bs → ((ys : List ℕ) → Q ys → P (bs ++ ys)) → IfSome b Q → IfSome a P
told_by None b bs P Q c h q = tt
told_by (Some x) None bs P Q c h q = absurd c
told_by (Some x) (Some y) bs P Q c h q = subst P (sym c) (h y q)

-- the sample sign is there before anything is read
pub leads_at_once : (setup : Setup) → setup ≡ sample_setup → Leads true [] (Ok setup) (record { number = 1; left = input_limit })
leads_at_once setup is = subst (λ s. Leads true [] (Ok s) (record { number = 1; left = input_limit })) (sym is) record {
  place_is = (refl, omega arith);
  whole = λ mode rest. refl;
  so_far = λ mode rest. refl;
}

-- there is no memory for the sample sign
pub fails_at_once : (input : Option (List ℕ)) (e : ToolFault) → e ≡ faults.Memory → Fails true input input e
fails_at_once input e is = subst (Fails true input input) (sym is) record {
  taken = [];
  takes = Consumes-nil input;
  most = omega arith;
  written = λ mode. written_refused mode true input [];
}

module _ (sample : Bool) (input new : Option (List ℕ)) (taken : List ℕ) (sign : Result Setup ToolFault) (place : LineStart) (took : Consumes input new taken) (l : Leads sample taken sign place) where
  -- there is no sign
  unsigned : (e : ToolFault) → sign ≡ Err e → (mode : Mode) → IfSome input (λ all. outcome_of mode sample all ≡ record { output = []; fault = Some e })
  unsigned e is mode =
      told input new taken (λ all. outcome_of mode sample all ≡ record { output = []; fault = Some e }) took
      (λ ys. l.whole mode ys ∙ ap (λ s. outcome_on mode s place ys) is)

  written_unsigned : (e : ToolFault) → sign ≡ Err e → (mode : Mode) → IsWritten (outcome_of mode sample) (output_so_far mode sample) input taken [] (Some e)
  written_unsigned faults.Read is mode =
      ap (output_so_far mode sample) (sym (append-nil taken)) ∙ l.so_far mode [] ∙ ap (λ s. output_on mode s place []) is
  written_unsigned faults.Write is mode = front_of_any mode sample input
  written_unsigned faults.Memory is mode = written_refused mode sample input taken
  written_unsigned (faults.LineTooLong n) is mode = unsigned _ is mode
  written_unsigned (faults.BadLine n) is mode = unsigned _ is mode
  written_unsigned faults.InputTooLong is mode = unsigned _ is mode
  written_unsigned faults.BadSign is mode = unsigned _ is mode
  written_unsigned (faults.SignRefused n) is mode = unsigned _ is mode

  pub fails_unsigned : (e : ToolFault) → (e ≡ faults.Memory) ⊎ (sign ≡ Err e) → Fails sample input new e
  fails_unsigned e why = record {
    taken = taken;
    takes = took;
    most = omega (arith, l.place_is.0);
    written = elim why [
      | inl is ↦ subst (λ f. (mode : Mode) → IsWritten (outcome_of mode sample) (output_so_far mode sample) input taken [] (Some f)) (sym is) (λ mode. written_refused mode sample input taken)
      | inr is ↦ written_unsigned e is
    ];
  }

-- a run that ends before its sign is there
pub Runs-failed : (mode : Mode) (sample : Bool) (input new output : Option (List ℕ)) (e : ToolFault) → Fails sample input new e
    → Runs (outcome_of mode sample) (output_so_far mode sample) input_limit input new output output (Some e)
Runs-failed mode sample input new output e f = record {
  taken = f.taken;
  sent = [];
  takes = f.takes;
  writes = Appends-nil output;
  most = f.most;
  written = f.written mode;
}

module _ (mode : Mode) (sample : Bool) (input now new output written : Option (List ℕ)) (taken : List ℕ) (sign : Setup) (place : LineStart) (took : Consumes input now taken) (l : Leads sample taken (Ok sign) place) where
  -- the outcome of the lines after the sign
  outcomes : List ℕ → Outcome
  outcomes = outcome (answers_of mode sign) place.number place.left

  so_far : List ℕ → List ℕ
  so_far = output_of_whole (answers_of mode sign) place.number

  module _ (more sent : List ℕ) where
    behind_all : (fault : Option ToolFault) → IfSome now (λ all. outcomes all ≡ record { output = sent; fault = fault }) → IfSome input (λ all. outcome_of mode sample all ≡ record { output = sent; fault = fault })
    unfolding outcomes
    behind_all fault is =
        told_by input now taken (λ all. outcome_of mode sample all ≡ record { output = sent; fault = fault }) (λ all. outcomes all ≡ record { output = sent; fault = fault }) took (λ ys e. l.whole mode ys ∙ e) is

    behind_front : IfSome now (λ all. IsFront sent (outcomes all).output) → IfSome input (λ all. IsFront sent (outcome_of mode sample all).output)
    unfolding outcomes
    behind_front is =
        told_by input now taken (λ all. IsFront sent (outcome_of mode sample all).output) (λ all. IsFront sent (outcomes all).output) took
        (λ ys f. (f.0, ap (λ (o : Outcome). o.output) (l.whole mode ys) ∙ f.1)) is

    behind_lines : IsOfLines so_far more sent → IsOfLines (output_so_far mode sample) (taken ++ more) sent
    unfolding so_far
    behind_lines is = (taken ++ is.0, (is.1.0, ap (λ l. taken ++ l) is.1.1 ∙ sym (append_assoc taken is.0 is.1.0)), l.so_far mode is.0 ∙ is.2)

    behind_written : (fault : Option ToolFault) → IsWritten outcomes so_far now more sent fault → IsWritten (outcome_of mode sample) (output_so_far mode sample) input (taken ++ more) sent fault
    unfolding so_far
    behind_written None is = behind_all _ is
    behind_written (Some faults.Read) is = l.so_far mode more ∙ is
    behind_written (Some faults.Write) is = behind_front is
    behind_written (Some faults.Memory) is = (behind_lines is.0, behind_front is.1)
    behind_written (Some (faults.LineTooLong n)) is = behind_all _ is
    behind_written (Some (faults.BadLine n)) is = behind_all _ is
    behind_written (Some faults.InputTooLong) is = behind_all _ is
    behind_written (Some faults.BadSign) is = behind_all _ is
    behind_written (Some (faults.SignRefused n)) is = behind_all _ is

  -- a run on the lines after the sign is one from the start
  pub Runs-behind : (fault : Option ToolFault) → Runs (outcome (answers_of mode sign) place.number place.left) (output_of_whole (answers_of mode sign) place.number) place.left now new output written fault
      → Runs (outcome_of mode sample) (output_so_far mode sample) input_limit input new output written fault
  unfolding outcomes so_far
  Runs-behind fault r = record {
    taken = taken ++ r.taken;
    sent = r.sent;
    takes = Consumes-trans input now new taken r.taken took r.takes;
    writes = r.writes;
    most = omega (arith, l.place_is.0, r.most, length-append taken r.taken);
    written = behind_written r.taken r.sent fault r.written;
  }

-- a run that ends because memory was refused, before a line is read
pub Runs-unread : (outcomes : List ℕ → Outcome) (answers : List (List ℕ) → List (Option (List ℕ))) (number limit : ℕ) (input output : Option (List ℕ)) (e : ToolFault) → e ≡ faults.Memory
    → Runs outcomes (output_of_whole answers number) limit input input output output (Some e)
unfolding output_of_whole cut answered
Runs-unread outcomes answers number limit input output e is = subst (λ f. Runs outcomes (output_of_whole answers number) limit input input output output (Some f)) (sym is) record {
  taken = [];
  sent = [];
  takes = Consumes-nil input;
  writes = Appends-nil output;
  most = omega arith;
  written = (([], ([], refl), refl), if_some_always input _ (λ octets. ((outcomes octets).output, refl)));
}

-- the answers of what is shown (own)
abbrev shown_answers : ShowerData → List (List ℕ) → List (Option (List ℕ))
shown_answers s lines = map (λ line. Some (show_answer s.sign s.colour s.clock line)) lines

-- the answers of a run that judges by a sign
abbrev pub checked_answers : SignData → List (List ℕ) → List (Option (List ℕ))
checked_answers sign lines = map (λ line. Some (check_answer sign line)) lines

-- a run that answers by the verdicts of the sign is one of the mode that judges
pub Runs-checking : (mode : Mode) (setup : Setup) (number left limit : ℕ) (sign : SignData) (input new output written : Option (List ℕ)) (fault : Option ToolFault)
    → mode ≡ Check → sign ≡ setup.sign
    → Runs (outcome (checked_answers sign) number left) (output_of_whole (checked_answers sign) number) limit input new output written fault
    → Runs (outcome (answers_of mode setup) number left) (output_of_whole (answers_of mode setup) number) limit input new output written fault
Runs-checking mode setup number left limit sign input new output written fault checks is runs =
    subst (λ m. Runs (outcome (answers_of m setup) number left) (output_of_whole (answers_of m setup) number) limit input new output written fault) (sym checks)
    (subst (λ (s : SignData). Runs (outcome (checked_answers s) number left) (output_of_whole (checked_answers s) number) limit input new output written fault) is runs)

-- a run that answers by what is shown is one of the mode that shows
pub Runs-showing : (mode : Mode) (setup : Setup) (colour clock number left limit : ℕ) (shower : ShowerData) (input new output written : Option (List ℕ)) (fault : Option ToolFault)
    → mode ≡ Show colour clock → shower ≡ record { sign = setup.sign; colour = colour; clock = clock }
    → Runs (outcome (shown_answers shower) number left) (output_of_whole (shown_answers shower) number) limit input new output written fault
    → Runs (outcome (answers_of mode setup) number left) (output_of_whole (answers_of mode setup) number) limit input new output written fault
Runs-showing mode setup colour clock number left limit shower input new output written fault shows is runs =
    subst (λ m. Runs (outcome (answers_of m setup) number left) (output_of_whole (answers_of m setup) number) limit input new output written fault) (sym shows)
    (subst (λ (s : ShowerData). Runs (outcome (shown_answers s) number left) (output_of_whole (shown_answers s) number) limit input new output written fault) is runs)
