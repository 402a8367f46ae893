use Rattle.std.proofs.Common.{◌≡◌, ◌++◌, drop, map}
use Rattle.message_words.specs.PageTimes.{times_data}
use Rattle.message_words.specs.OnPages.{short_places}
use Rattle.message_words.proofs.pages.short_places.Given as goal

abbrev pub invariant-loop-page : goal.invariant-loop-page
invariant-loop-page l = short_places (map times_data l.times) l.pages ≡ l.places.items ++ short_places (drop l.page (map times_data l.times)) (drop l.page l.pages)
