-- The times of pages and the page at a clock, in tenths of a second (NTCIP 1203 v03, MULTI tag 'pt').
use Rattle.std.specs.Prelude.{ℕ, ◌+◌, ◌-◌, ◌%◌, Bool, false, ◌||◌, ◌&&◌, ◌==◌, nat_le, nat_lt, List, [], ◌∷◌, ◌++◌, take, length, slice_get, Some, None, if◌then◌else◌}
use Rattle.std.specs.List.{sum_by, find, range_with_len}
use Rattle.std.specs.Option.{option_map_or}
use Rattle.sign_font.specs.Sign.{SignData}
use Rattle.multi_meaning.specs.declared.times.Shown.{Shown}
use Rattle.multi_meaning.specs.declared.times.Shown.TheVariants.{Page, Off}
use Rattle.multi_meaning.specs.Meaning.{Meaning, is_new_page, meanings}
use Rattle.multi_meaning.specs.Address.{Standing, standing}
use Rattle.multi_meaning.specs.Words.{some_after}

-- a page's on time and off time (NTCIP 1203 v03, MULTI tag 'pt')
pub record Times : Type 0 where
  pub on : ℕ
  pub off : ℕ

-- the times that are in force where an item stands (own)
abbrev pub times_at : Standing → Times
times_at at = record { on = at.on; off = at.off }

-- the times of each page that an `np` ends: those in force before it (NTCIP 1203 v03, MULTI tag 'pt'; which of several is own)
abbrev pub ended_times : SignData → List Meaning → List Times
ended_times sign items = some_after (λ before item. if is_new_page item then Some (times_at (standing sign before)) else None) items

-- the times of each page, the last one's being those in force at the end (NTCIP 1203 v03, MULTI tag 'pt')
unfoldable pub page_times : SignData → List Meaning → List Times
unfolding standing
page_times sign items = ended_times sign items ++ times_at (standing sign items) ∷ []

-- the cycle: the times of all pages together (own)
abbrev pub cycle : List Times → ℕ
cycle pages = sum_by (λ times. times.on + times.off) pages

-- when page k, counted from 0, begins (own)
abbrev pub begin : List Times → ℕ → ℕ
begin pages k = cycle (take k pages)

-- the clock is in the on time of page k (own)
abbrev pub is_on : List Times → ℕ → ℕ → Bool
is_on pages clock k =
    nat_le (begin pages k) clock && option_map_or (λ times. nat_lt clock (begin pages k + times.on)) (slice_get pages k) false

-- what is shown at a time of the cycle: the page in whose on time it is, with the time since it began, or nothing (own)
unfoldable pub shown_within : List Times → ℕ → Shown
shown_within pages time = option_map_or (λ k. Page k (time - begin pages k)) (find (is_on pages time) (range_with_len 0 (length pages))) Off

-- what is shown at a clock: of one page, or of a cycle of 0, always page 0 with the clock as its phase; else what is shown at
-- the clock modulo the cycle (own)
unfoldable pub shown_at : List Times → ℕ → Shown
shown_at pages clock = if (length pages == 1) || (cycle pages == 0) then Page 0 clock else shown_within pages (clock % cycle pages)

-- what a string shows at a clock (NTCIP 1203 v03, MULTI tag 'pt')
abbrev pub shown : SignData → List ℕ → ℕ → Shown
shown sign octets clock = shown_at (page_times sign (meanings octets)) clock
