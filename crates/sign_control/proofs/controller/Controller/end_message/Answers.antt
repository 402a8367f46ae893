use Rattle.std.proofs.Common.{◌∙◌, [], ap}
use Rattle.sign_control.specs.Code.{id_code}
use Rattle.sign_control.proofs.SavedLemmas.{end_again}
use Rattle.sign_control.proofs.controller.Controller.end_message.Goals as goal

pub returns : goal.returns
returns c =
    let e = c.self.inside.end in
    rw (← c.self.view_is) (record { code = ap id_code c.end_octets.ensures.octets ∙ end_again e [] c.end_octets.ensures.fits.0 c.end_octets.ensures.fits.1 })
