-- What a frame shows of an accepted text.
use Rattle.std.proofs.Common.{◌≡◌, ◌∙◌, ◌≤◌, ◌==◌, ◌++◌, ℕ, List, [], ◌∷◌, refl, sym, ap, inl, inr, lit≤}
use Rattle.std.proofs.lemmas.Bool.{cases_Bool, eqb-true, eqb-false, eq-eqb, ne_eqb}
use Rattle.multi_token.specs.Reading.{reading}
use Rattle.sign_font.specs.Sign.{SignData}
use Rattle.sign_font.specs.Sound.{IsSound}
use Rattle.multi_meaning.specs.declared.times.Shown.{Shown}
use Rattle.multi_meaning.specs.declared.times.Shown.TheVariants.{Page, Off}
use Rattle.multi_meaning.specs.Laid.{laid_out}
use Rattle.multi_meaning.specs.Meaning.{meanings}
use Rattle.multi_meaning.specs.Picture.{colour_of, in_plane, pixel_at, shown_colour, things}
use Rattle.multi_meaning.specs.Verdict.{Accepted, IsVerdict, Refused, broken, of_first, offences, pages_of, verdict, verdict_on}
use Rattle.multi_meaning.proofs.VerdictLemmas.{one_verdict}
use Rattle.sign_control.specs.Headline.{IsOnly}
use Rattle.sign_control.specs.internal.Ready.{IsAccepted}
use Rattle.sign_control.proofs.ColourLemmas.{colour_most, laid_out_coloured}

-- an accepted text isn't refused
pub not_refused : (sign : SignData) (text octets : List ℕ) (code at : ℕ) → IsAccepted sign text → octets ≡ text → IsVerdict sign octets (Refused code at) → ⊥
not_refused sign text octets code at (pages, accepted) same is =
    let one : Refused code at ≡ Accepted pages = (one_verdict sign octets (Refused code at)).0 is ∙ ap (λ (l : List ℕ). verdict sign l) same ∙ accepted in
    cc

-- an accepted text has the pages of its items
pages-first : (pages count : ℕ) (faults : List (ℕ × ℕ)) → of_first pages faults ≡ Accepted count → count ≡ pages
pages-first pages count [] is = cc
pages-first pages count (fault ∷ faults) is = absurd cc

pub accepted-pages : (sign : SignData) (text : List ℕ) → IsAccepted sign text → verdict sign text ≡ Accepted (pages_of (meanings text))
unfolding verdict verdict_on
accepted-pages sign text (count, is) =
    let read = reading text in
    is ∙ ap Accepted (pages-first (pages_of (meanings text)) count (offences sign read.items ++ broken read.items read.rest) is)

same-test : (a b : ℕ) → (a == b) ≡ (b == a)
same-test a b = elim (cases_Bool (a == b)) [
  | inl e ↦ e ∙ sym (eq-eqb b a (sym (eqb-true a b e)))
  | inr e ↦ e ∙ sym (ne_eqb b a (λ is. eqb-false a b e (sym is)))
]

-- each pixel has one colour
pub one-colour : (sign : SignData) (octets : List ℕ) (s : Shown) (column row : ℕ) → IsSound sign → (colour : ℕ) × (colour ≤ 9) × IsOnly colour (λ other. pixel_at sign (meanings octets) s other column row)
unfolding in_plane
one-colour sign octets (Page page phase) column row sound =
    let laid = laid_out sign (meanings octets) in
    let colour = shown_colour sign (colour_of sign.defaults (things sign phase laid) page column row) in
    (colour, colour_most sign sound.fore sound.back phase laid page column row (laid_out_coloured sign octets), λ other. same-test colour other)
one-colour sign octets Off column row sound = (0, lit≤ tt, λ other. refl)
