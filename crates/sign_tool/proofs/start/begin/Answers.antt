use Rattle.std.proofs.Common.{subst, ◌⊎◌, Err, ◌≡◌, refl}
use Rattle.std.proofs.lemmas.Result.{err_from_is_err_and}
use Rattle.tool_streams.specs.declared.fault.ToolFault.TheVariants as faults
use Rattle.sign_tool.specs.FileSetup.{setup_of_octets}
use Rattle.sign_tool.proofs.StartLemmas
use Rattle.sign_tool.proofs.start.begin.Goals as goal

pub returns-in_err-setup-2 : goal.returns-in_err-setup-2
returns-in_err-setup-2 g c =
    let p = err_from_is_err_and c.from_residual-in_err-setup-2.result c.from_residual-in_err-setup-2.ensures.1 in
    let (taken, took, leads) = c.in_ok-part.ensures.taken in
    let why = subst (λ o. (c.in_err-setup-2.field-0.0 ≡ faults.Memory) ⊎ (setup_of_octets o ≡ Err c.in_err-setup-2.field-0.0)) c.deref.ensures.value c.in_err-setup-2.ensures.err in
    rw (p.1, p.2, c.if-sample.false) (record { starts = StartLemmas.fails_unsigned _ _ _ taken _ _ took leads _ why })

pub returns-in_err-setup : goal.returns-in_err-setup
returns-in_err-setup g c =
    let p = err_from_is_err_and c.from_residual.result c.from_residual.ensures.1 in
    rw (p.1, p.2, c.if-sample.true) (record { starts = StartLemmas.fails_at_once _ _ refl })
