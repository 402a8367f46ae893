use Rattle.multi_tag.proofs.ShortLemmas.{short_body}
use Rattle.multi_tag.proofs.laws.no_long_body.Goals as goal

pub returns : goal.returns
returns c = λ body tag is. (short_body body tag is).few
