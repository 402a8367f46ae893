use Rattle.std.proofs.Common.{◌+◌, ap, ◌∙◌, subst}
use Rattle.multi_token.specs.Counted.{charged}
use Rattle.multi_tag.specs.Closed.{IsClosedTag, HasNoClosedTag}
use Rattle.multi_tag.proofs.AheadLemmas.{front_length, tag_there, no_tag_there}
use Rattle.multi_tag.proofs.ahead.read_ahead.Goals as goal

pub returns-in_err-tag-clause-none : goal.returns-in_err-tag-clause-none
returns-in_err-tag-clause-none c =
    rw c.from_residual.ensures (no_tag_there c.args.source.now.octets c.args.at (subst HasNoClosedTag c.ahead.ensures.octets c.in_err-tag.ensures.none))

pub returns-in_err-tag-clause-steps : goal.returns-in_err-tag-clause-steps
returns-in_err-tag-clause-steps c =
    c.ahead.follows.holds-at-none ∙ ap (charged c.args.source.now) (front_length 26 (c.args.at + 1) c.args.source.now.octets c.ahead.result.now c.ahead.ensures.octets)

pub returns-clause-some : goal.returns-clause-some
returns-clause-some c =
    tag_there c.args.source.now.octets c.args.at c.in_ok-tag.tag c.in_ok-tag.len c.requires.room c.requires.stands (subst (λ ys. IsClosedTag ys c.in_ok-tag.tag c.in_ok-tag.len) c.ahead.ensures.octets c.in_ok-tag.ensures.some)

pub returns-clause-steps : goal.returns-clause-steps
returns-clause-steps c =
    c.ahead.follows.holds-at-none ∙ ap (charged c.args.source.now) (front_length 26 (c.args.at + 1) c.args.source.now.octets c.ahead.result.now c.ahead.ensures.octets)
