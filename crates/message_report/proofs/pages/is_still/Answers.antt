use Rattle.std.proofs.Common.{◌&&◌, ◌==◌, sym, ap, ◌∙◌, arith}
use Rattle.std.proofs.lemmas.Bool.{le-ltb, lt-ltb}
use Rattle.multi_layout.specs.Pages.{page_count}
use Rattle.multi_meaning.specs.Meaning.{meanings}
use Rattle.multi_meaning.specs.Times.{cycle, page_times}
use Rattle.multi_meaning.proofs.VerdictLemmas.{cycle_is}
use Rattle.message_report.proofs.ExplanationLemmas
use Rattle.message_report.proofs.pages.is_still.Goals as goal

pub returns-then-pages-gt1 : goal.returns-then-pages-gt1
returns-then-pages-gt1 c =
    let string = c.args.checked.now in
    let none = cycle (page_times string.sign (meanings string.source.octets)) == 0 in
    let pages = ExplanationLemmas.pages_are string.sign string.source.octets c.pages-pages.result c.pages-pages.ensures c.requires.short in
    let many = lt-ltb 1 (page_count string) (omega (arith, pages, c.if-pages-gt1.true)) in
    ap (λ n. n == 0) (cycle_is string.sign string.source.octets c.cycle-cycle.result c.cycle-cycle.ensures) ∙ sym (ap (λ b. b && none) many)

pub returns-else-pages-gt1 : goal.returns-else-pages-gt1
returns-else-pages-gt1 c =
    let string = c.args.checked.now in
    let none = cycle (page_times string.sign (meanings string.source.octets)) == 0 in
    let pages = ExplanationLemmas.pages_are string.sign string.source.octets c.pages-pages.result c.pages-pages.ensures c.requires.short in
    let one = le-ltb 1 c.pages-pages.result (omega (arith, c.if-pages-gt1.false)) in
    let few = le-ltb 1 (page_count string) (omega (arith, pages, c.if-pages-gt1.false)) in
    one ∙ sym (ap (λ b. b && none) few)
