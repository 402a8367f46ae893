use Rattle.std.proofs.Common.{◌∙◌, ap, inl, inr, subst}
use Rattle.tool_streams.specs.Lines.{text_of}
use Rattle.sign_aids.specs.Pictures.{DrawsLit}
use Rattle.sign_aids.proofs.picture.draw_picture.Goals as goal

pub returns-in-Err-read_message-clause-fault : goal.returns-in-Err-read_message-clause-fault
returns-in-Err-read_message-clause-fault g c =
    let (taken, took, leads) = c.in-Ok.ensures.starts in
    inr (inl (taken, c.in-Ok.start.setup, c.in-Ok.start.place, g.R.Read.remaining c.begin.new.reader, leads, took, c.in-Err-read_message.ensures.fault))

pub returns-in-Ok-lit_picture-clause-drawn : goal.returns-in-Ok-lit_picture-clause-drawn
returns-in-Ok-lit_picture-clause-drawn g c =
    let (taken, took, leads) = c.in-Ok.ensures.starts in
    let line = c.in-Ok-read_message.line.items in
    let said = c.text_of.ensures.text ∙ ap text_of c.deref.ensures.value in (
      c.in-Ok.start.setup,
      line,
      record {
        taken = taken;
        place = c.in-Ok.start.place;
        between = g.R.Read.remaining c.begin.new.reader;
        leads = leads;
        reads = took;
        last = c.in-Ok-read_message.ensures.last;
      },
      subst (λ l. DrawsLit c.args.lit c.args.side c.in-Ok.start.setup.sign l c.args.view c.in-Ok-lit_picture.file.items) said c.in-Ok-lit_picture.ensures.drawn,
    )
