-- The pages of a text that is accepted.
use Rattle.std.proofs.Common.{◌≡◌, ℕ, ◌<◌, ◌≤◌, ◌^◌, List, length, sym, subst, arith}
use Rattle.sign_font.specs.Sign.{SignData}
use Rattle.multi_meaning.specs.Meaning.{meanings}
use Rattle.multi_meaning.specs.Verdict.{Accepted, IsVerdict, pages_of}
use Rattle.multi_meaning.proofs.VerdictLemmas.{accepted_is}
use Rattle.message_picture.specs.declared.draw.DrawFault.TheVariants.{NoPage}
use Rattle.message_picture.specs.declared.view.Moment.{Moment}
use Rattle.message_picture.specs.declared.view.Moment.TheVariants.{Page}
use Rattle.message_picture.specs.Drawn.{IsNoMoment}

-- a page of those that are told of is one of its pages
pub has_page : (sign : SignData) (text : List ℕ) (pages page : ℕ) → length text < 2 ^ 32 → IsVerdict sign text (Accepted pages) → page < pages → page < pages_of (meanings text)
has_page sign text pages page short is below = let count = (accepted_is sign text pages is short).1 in omega (arith, count, below)

-- and another isn't
pub no_page : (sign : SignData) (text : List ℕ) (moment : Moment) (pages page phase : ℕ) → length text < 2 ^ 32 → IsVerdict sign text (Accepted pages) → moment ≡ Page page phase → pages ≤ page
    → IsNoMoment text moment (NoPage pages)
no_page sign text moment pages page phase short is at most =
    let count = (accepted_is sign text pages is short).1 in
    subst (λ m. IsNoMoment text m (NoPage pages)) (sym at) ((let same : pages ≡ pages_of (meanings text) = omega (arith, count) in same), most)
