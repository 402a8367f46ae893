use Rattle.multi_tag.proofs.TagOfLemmas.{tag_of_is_the_table}
use Rattle.multi_tag.proofs.laws.tag_of_is_the_table.Goals as goal

pub returns : goal.returns
returns c = tag_of_is_the_table
