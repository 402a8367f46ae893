use Rattle.std.proofs.Common.{ap, ◌∙◌}
use Rattle.std.specs.Prelude.{if◌then◌else◌, unwrap_or}
use Rattle.sign_font.specs.Text.{width_numbered}
use Rattle.sign_font.proofs.SoundLemmas.{taken_width, width_sound}
use Rattle.sign_font.proofs.font.FontCells.width_of.Goals as goal

pub returns : goal.returns
returns c =
    rw (← c.self.view_is) record {
      width = λ takes plain.
          let font = c.self.inside.font.now in
          let octet = c.args.entry.octet in
          c.ok.ensures.value
          ∙ taken_width (width_numbered font octet) (width_sound font octet c.self.invariant) c.args.entry.advance
          (takes ∙ ap (λ b. if b then 32768 else unwrap_or (width_numbered font octet) 32768) plain) c.try_from.result c.try_from.ensures;
    }
