use Rattle.std.proofs.Common.{◌≤◌, ◌∙◌, arith, length, sym, ap, subst}
use Rattle.std.specs.List.{All}
use Rattle.std.proofs.lemmas.List.{with_items_is}
use Rattle.page_picture.proofs.ShownLemmas.{colours_small}
use Rattle.sign_control.specs.Headline.{shown_by, shown_now}
use Rattle.sign_tool.proofs.DigitLemmas
use Rattle.sign_tool.proofs.answers.push_colours.Goals as goal

pub push_digit_rows-requires-clause-small : goal.push_digit_rows-requires-clause-small
push_digit_rows-requires-clause-small c =
    let here = c.args.controller.now in
    let judge = shown_by here.sign here.state in
    let seen = shown_now here.sign here.state in
    let small = colours_small judge here.state.text seen in
    let old = c.args.pixels.now in
    let new = c.colours.new.octets in
    let size = ap length c.deref_mut.ensures.value ∙ c.requires.room in
    let all = DigitLemmas.all_told judge here.state.text seen c.in-Some.shown _ new size c.in-Some.ensures.colours in
    let full = with_items_is old new (omega (arith, c.requires.room, ap length all.0, small.1)) in
    subst (All (λ colour. colour ≤ 9)) (sym (c.deref.ensures.value ∙ full ∙ all.0)) small.0
