use Rattle.std.proofs.Common.{inl, subst, sym, ◌∙◌}
use Rattle.sign_file.specs.SignFile.{file_of}
use Rattle.latsefur_c.specs.Outcome.{HasNoSign}
use Rattle.latsefur_c.proofs.SignLemmas
use Rattle.latsefur_c.proofs.setup.controller_of.Goals as goal

pub returns-in-Err-clause-err : goal.returns-in-Err-clause-err
returns-in-Err-clause-err c =
    inl (subst (HasNoSign c.args.octets.now) (sym c.why_unmade.ensures) (SignLemmas.unmade c.args.octets.now (file_of c.in-Ok.file) c.in-Err.fault c.in-Ok.ensures.read c.in-Err.ensures.faulty c.in-Err.ensures.memory))

pub returns-in-Ok-new-2-clause-ok : goal.returns-in-Ok-new-2-clause-ok
returns-in-Ok-new-2-clause-ok c =
    let sign = c.in-Ok-new-2.ensures.sign in
    let made = c.in-Ok-store_of.ensures.made in
    let state = c.in-Ok-new-2.ensures.state in (
      file_of c.in-Ok.file,
      c.in-Ok.ensures.read,
      SignLemmas.made c.args.octets.now (file_of c.in-Ok.file) c.in-Ok-new-2.controller.sign c.in-Ok.ensures.read c.in-Ok-new.ensures.faultless (sign ∙ c.in-Ok-new.ensures.accepted),
      c.in-Ok-store_of.ensures.sound,
      cc,
      c.in-Ok-new-2.ensures.steps,
      c.in-Ok-new-2.ensures.revision,
    )
