use Rattle.sign_font.proofs.DefaultLemmas.{own_taken}
use Rattle.sign_font.proofs.sign.Sign.default_font.Goals as goal

pub font_of-requires : goal.font_of-requires
font_of-requires c = rw (← c.self.view_is) (own_taken _ c.self.invariant)
