use Rattle.multi_tag.proofs.TagOfLemmas.{one_tag}
use Rattle.multi_tag.proofs.laws.one_tag_at_most.Goals as goal

pub returns : goal.returns
returns c = one_tag
