use Rattle.multi_layout.proofs.Common.{◌≡◌, ◌<◌, ◌∙◌, refl, arith, accepted_is, IsSized, page_count}
use Rattle.multi_layout.proofs.PagesLemmas.{turns_page, under_way_further}
use Rattle.multi_layout.proofs.pages.Pages.next_page.Goals.{Else-page-pages}
use Rattle.multi_layout.proofs.pages.Pages.next_page.Goals as goal

pub returns-then-page-pages : goal.returns-then-page-pages
returns-then-page-pages c =
    let i = c.self.inside in
    let s = i.string in
    let u = c.self.invariant in
    let count = (accepted_is s.sign s.source.octets c.pages.result c.pages.ensures u.short).1 in
    let last : i.next ≡ page_count s = omega (arith, count, u.next_most, c.if-page-pages.true) in
    ((refl, (λ _. tt), c.self.view_is), record { after = tt; page = rw (← c.self.view_is) last; size = tt })

-- another page comes next
more : (c : Else-page-pages) → c.self.inside.next < page_count c.self.inside.string
more c = omega (arith, (accepted_is c.self.inside.string.sign c.self.inside.string.source.octets c.pages.result c.pages.ensures c.self.invariant.short).1, c.if-page-pages.false)

pub draw_next-requires-clause-page : goal.draw_next-requires-clause-page
draw_next-requires-clause-page c = (c.self.inside.next, more (goal.at.draw_next-requires-clause-page c).Else-page-pages, c.self.invariant.begins)

pub invariant_of-self-2 : goal.invariant_of-self-2
invariant_of-self-2 c =
    let i = c.self.inside in
    let u = c.self.invariant in
    let e = c.draw_next.ensures in
    under_way_further _ i.start c.draw_next.new.next u (more (goal.at.invariant_of-self-2 c).Else-page-pages) c.draw_next.new.self c.draw_next.new.plane e.kept e.size e.on e.fills (e.next i.next u.begins)

pub returns : goal.returns
returns c =
    let i = c.self.inside in
    let u = c.self.invariant in
    let e = c.draw_next.ensures in
    let more' = more (goal.at.returns c).Else-page-pages in
    let turns = turns_page _ i.start c.draw_next.new.next u more' c.draw_next.new.self c.draw_next.new.plane e.kept e.size e.on e.fills (e.next i.next u.begins) in
    let shows = e.drawn i.next more' u.begins in
    let sized : IsSized c.draw_next.new.plane i.string.sign = (e.size.0 ∙ u.size.0, e.size.1 ∙ u.size.1) in
    ((refl, (λ _. tt), (rw (← c.self.view_is) turns, refl)), record { after = tt; page = rw (← c.self.view_is) (more', refl, shows); size = rw (← c.self.view_is) sized })
