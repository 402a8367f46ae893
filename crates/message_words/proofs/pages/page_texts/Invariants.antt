use Rattle.std.proofs.Common.{◌≡◌, ◌≤◌, take}
use Rattle.message_words.specs.OnPages.{ended_pages, page_after}
use Rattle.message_words.proofs.pages.page_texts.Given as goal

abbrev pub invariant-loop-one : goal.invariant-loop-one
invariant-loop-one l = record {
  ended : l.pages.items ≡ ended_pages (take l.one-index l.said);
  here : record { begin = l.begin; letters = l.letters } ≡ page_after (take l.one-index l.said);
  few : l.letters ≤ l.one-index;
}
