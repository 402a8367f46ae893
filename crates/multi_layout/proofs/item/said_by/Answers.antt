use Rattle.std.proofs.Common.{ap, ◌∙◌}
use Rattle.multi_token.specs.Tokens.{body_of}
use Rattle.multi_tag.proofs.TagOfLemmas.{tag_of-read}
use Rattle.multi_meaning.specs.Meaning.{meaning_of_tag}
use Rattle.multi_meaning.proofs.ItemAtLemmas.{meaning-tag}
use Rattle.multi_layout.proofs.ItemLemmas
use Rattle.multi_layout.proofs.item.said_by.Goals as goal

pub returns-in-Ok-clause-said : goal.returns-in-Ok-clause-said
returns-in-Ok-clause-said c =
    let octets = c.args.source.now.octets in
    let e = c.read_tag.ensures in
    let is = tag_of-read (body_of octets c.args.token.now) c.read_tag.result e.spelled e.unsupported e.value in
    meaning-tag octets c.args.token.now c.read_tag.result c.in-Tag.is is ∙ ap meaning_of_tag c.in-Ok.is

pub returns-in-Err-clause-said : goal.returns-in-Err-clause-said
returns-in-Err-clause-said c =
    let octets = c.args.source.now.octets in
    let e = c.read_tag.ensures in
    let is = tag_of-read (body_of octets c.args.token.now) c.read_tag.result e.spelled e.unsupported e.value in
    ItemLemmas.faulty _ _ (meaning-tag octets c.args.token.now c.read_tag.result c.in-Tag.is is ∙ ap meaning_of_tag c.in-Err.is)
