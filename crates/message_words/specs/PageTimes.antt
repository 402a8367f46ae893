-- The times of the pages of a message.
use Rattle.std.specs.Prelude.{◌≡◌, ℕ, List, map}
use Rattle.sign_font.specs.Sign.{SignData}
use Rattle.multi_meaning.specs.Meaning.{meanings}
use Rattle.multi_meaning.specs.Times as meant
use Rattle.message_words.specs.declared.times.Times.{Times}

-- a page's on time and off time, in tenths of a second (NTCIP 1203 v03, MULTI tag 'pt')
abbrev pub times_data : Times → meant.Times
times_data times = record { on = times.on; off = times.off }

-- the times where no tag sets them (NTCIP 1203 v03, defaultPageOnTime and defaultPageOffTime)
abbrev pub default_times : SignData → meant.Times
default_times sign = record { on = sign.defaults.page_on; off = sign.defaults.page_off }

-- these are the times of the pages of a message, in the order of the pages (NTCIP 1203 v03, MULTI tag 'pt')
abbrev pub AreTimes : SignData → List ℕ → List Times → Type 0
AreTimes sign octets all = map times_data all ≡ meant.page_times sign (meanings octets)
