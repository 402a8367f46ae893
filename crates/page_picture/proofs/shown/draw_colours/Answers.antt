use Rattle.std.proofs.Common.{◌≡◌, ℕ, ◌*◌, ◌≤◌, ap, ◌∙◌, ◌++◌, drop, length, replicate, subst, sym}
use Rattle.std.proofs.lemmas.List.{length-replicate}
use Rattle.std.specs.List.{All}
use Rattle.sign_font.specs.Sign.{SignData}
use Rattle.page_picture.specs.Shown.{colours}
use Rattle.page_picture.proofs.ShownLemmas
use Rattle.page_picture.proofs.WriteLemmas
use Rattle.page_picture.proofs.shown.draw_colours.Goals as goal

pub returns-clause-range : goal.returns-clause-range
returns-clause-range c =
    let sign = c.args.checked.now.sign in
    let text = c.args.checked.now.source.octets in
    let size = sign.width * sign.height in
    let small = ShownLemmas.colours_small sign text c.args.shown in
    let count = ap (λ w. w * c.from-2.result) (c.from.ensures ∙ c.width-2.ensures.width) ∙ ap (λ h. c.args.sign.now.width * h) (c.from-2.ensures ∙ c.height-2.ensures.height) ∙ ap (λ (s : SignData). s.width * s.height) (sym c.requires.sign) in
    let octets = c.in_ok-octets.octets in
    let zeros : octets.items ≡ replicate (c.from.result * c.from-2.result) 0 = c.in_ok-octets.ensures.items_if_clones_equal (λ y e. e) in
    let whole : length octets.items ≡ size = ap length zeros ∙ length-replicate {A = ℕ} (c.from.result * c.from-2.result) 0 ∙ count in
    let is = c.write_colours.ensures.colours c.if-not-write_colours.false ∙ ap (λ l. colours sign text c.args.shown ++ drop size l) c.deref_mut.ensures.value in
    subst (All (λ colour. colour ≤ 9)) (sym (WriteLemmas.vec_written size octets.len octets.items c.write_colours.new.octets (colours sign text c.args.shown) (c.in_ok-octets.ensures.len ∙ count) whole small.1 is)) small.0
