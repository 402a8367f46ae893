use Rattle.page_picture.proofs.ShownLemmas
use Rattle.page_picture.proofs.colours.PageColours.of_shown.Goals as goal

pub returns-clause-shown : goal.returns-clause-shown
returns-clause-shown c =
    ShownLemmas.are_shown c.args.sign.now c.args.checked.now.source.octets c.args.shown _ c.width.ensures.width c.height.ensures.height c.in_ok-colours.ensures.colours
