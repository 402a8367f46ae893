use Rattle.std.proofs.Common.{◌≡◌, ◌++◌, replicate, sym, ap, ◌∙◌, subst}
use Rattle.multi_meaning.specs.Times.{shown}
use Rattle.page_picture.specs.Shown.{IsThere, colours}
use Rattle.page_picture.proofs.ShownLemmas
use Rattle.message_film.proofs.MovingLemmas
use Rattle.message_film.proofs.play.push_moment.Goals as goal

pub draw_colours-requires-clause-there : goal.draw_colours-requires-clause-there
draw_colours-requires-clause-there c =
    let old = c.args.checked.now in
    let there = ShownLemmas.there_at old.sign old.source.octets c.from.result c.locate-shown.result c.locate-shown.ensures.shown in
    subst (λ text. IsThere text c.locate-shown.result) (sym (ap (λ s. s.octets) c.locate-shown.ensures.steps)) there

pub returns-clause-points : goal.returns-clause-points
returns-clause-points c =
    let sign = c.args.sign.now in
    let text = c.args.checked.now.source.octets in
    let reel = c.args.reel.now in
    let located = c.locate-shown.ensures in
    let text_is = ap (λ s. s.octets) located.steps in
    let seen : c.locate-shown.result ≡ shown sign text c.args.clock =
    located.shown ∙ ap (λ s. shown s text c.from.result) c.requires.sign ∙ ap (shown sign text) c.from.ensures in
    let drawn : c.in_ok-moment.moment.items ≡ colours sign text (shown sign text c.args.clock) =
    c.in_ok-moment.ensures.colours ∙ ap (λ t. colours sign t c.locate-shown.result) text_is ∙ ap (colours sign text) seen in
    c.in_ok-push.ensures.points
    ∙ ap (λ p. reel.points ++ replicate 10 p) (MovingLemmas.moment reel.side reel.width reel.height sign text c.in_ok-moment.moment.items (shown sign text c.args.clock) c.requires.size.0 c.requires.size.1 drawn)
