use Rattle.std.proofs.Common.{◌≡◌, ◌++◌, ℕ, List}
use Rattle.multi_layout.specs.NextPage.{IsNextPage}
use Rattle.multi_layout.specs.Pages.{IsSized}
use Rattle.message_report.specs.Explanation.{HasPages, picture_text}
use Rattle.message_report.specs.declared.picture.Picture.TheVariants.{Marks}
use Rattle.message_report.proofs.pages.push_lit_pages.Given as goal

abbrev pub invariant-loop-page : goal.invariant-loop-page
invariant-loop-page l = ((shown : List ℕ) × (l.text ≡ l.fn.text ++ shown)
    × HasPages (picture_text Marks l.fn.message.sign.now l.fn.checked.source.octets l.fn.message.telling.phase) l.pages l.page shown)
    × (l.checked.sign ≡ l.fn.checked.sign) × (l.checked.source.octets ≡ l.fn.checked.source.octets)
    × IsNextPage l.checked l.next l.page × IsSized l.plane l.fn.checked.sign
