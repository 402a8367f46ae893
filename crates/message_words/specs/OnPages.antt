-- Which pages of a string are too short to be read, and where a flash is in force.
use Rattle.std.specs.Prelude.{ℕ, ◌/◌, Bool, false, not, ◌&&◌, ◌||◌, ◌==◌, nat_lt, List, [], ◌∷◌, ◌++◌, length, map, Option, None, Some, is_some, if◌then◌else◌}
use Rattle.std.specs.List.{after_last, count_by, filter, filter_map, last_or, list_any}
use Rattle.std.specs.Option.{unwrap_or}
use Rattle.sign_font.specs.declared.parts.Defaults.{Defaults}
use Rattle.multi_tag.specs.declared.tag.Tag.{Tag}
use Rattle.multi_tag.specs.declared.tag.Tag.TheVariants.{Flash, FlashEnd}
use Rattle.multi_meaning.specs.Times.{Times, cycle}
use Rattle.multi_meaning.specs.Words.{some_after}
use Rattle.message_words.specs.OnItems.{flash_period, is_letter, is_page}
use Rattle.message_words.specs.declared.pages.PageText.{PageText}
use Rattle.message_words.specs.declared.said.Said.{Said}

-- the page on which some items end: where it begins, and how many characters it shows that are no spaces (own)
abbrev pub page_after : List Said → PageText
page_after before = record {
  begin = unwrap_or (last_or None (map (λ (s : Said). s.end) (filter (λ (s : Said). is_page s.tag) before))) 0;
  letters = count_by (λ (s : Said). is_letter s.tag) (after_last (λ (s : Said). is_page s.tag) before);
}

-- the pages that an item ends (NTCIP 1203 v03, MULTI tag 'np')
abbrev pub ended_pages : List Said → List PageText
ended_pages said = some_after (λ before (s : Said). if is_page s.tag then Some (page_after before) else None) said

-- the pages of a message (NTCIP 1203 v03, MULTI tag 'np')
abbrev pub page_texts : List Said → List PageText
page_texts said = ended_pages said ++ page_after said ∷ []

-- a page that is shown for so many tenths of a second is too short to be read: it lasts less than half a second, or less than one second
-- for each four letters (own)
abbrev pub is_short : ℕ → ℕ → Bool
is_short on letters = nat_lt on 5 || nat_lt (on / 10) (letters / 4)

-- a place before others, if it is one (own)
abbrev pub place_first : Bool → ℕ → List ℕ → List ℕ
place_first is at places = if is then at ∷ places else places

-- where the pages begin that are too short, by the times of each (own)
abbrev pub short_places : List Times → List PageText → List ℕ
short_places [] pages = []
short_places (times ∷ later) [] = []
short_places (times ∷ later) (page ∷ pages) = place_first (is_short times.on page.letters) page.begin (short_places later pages)

-- one page, or page 1 of pages without times, is shown all the time (NTCIP 1203 v03, MULTI tag 'pt'; that it is page 1 is own)
abbrev pub is_shown_always : List Times → Bool
is_shown_always times = (length times == 1) || (cycle times == 0)

-- where the pages of a message begin that are too short (own)
abbrev pub short_pages : List Times → List PageText → List ℕ
short_pages times pages = if is_shown_always times then [] else short_places times pages

-- a flash that goes on and off is in force after an item, or none is; most items leave what was (NTCIP 1203 v03, MULTI tags 'fl' and '/fl')
abbrev pub flash_turn : Defaults → Option Tag → Option Bool
flash_turn defaults (Some (Flash first on off)) = Some (is_some (flash_period defaults (Some (Flash first on off))))
flash_turn defaults (Some FlashEnd) = Some false
flash_turn defaults _ = None

-- a flash that goes on and off is in force after some items (own)
abbrev pub is_flashing : Defaults → List Said → Bool
is_flashing defaults before = unwrap_or (last_or None (filter_map (λ (s : Said). flash_turn defaults s.tag) before)) false

-- where a page ends in such a flash (own)
abbrev pub open_flashes : Defaults → List Said → List ℕ
open_flashes defaults said = some_after (λ before (s : Said). if is_flashing defaults before && is_page s.tag then Some s.at else None) said

-- where letters stand that don't flash (own)
abbrev pub still_letters : Defaults → List Said → List ℕ
still_letters defaults said =
    some_after (λ before (s : Said). if is_letter s.tag && not (is_flashing defaults before) then Some s.at else None) said

-- all letters flash, and there are some (own)
abbrev pub all_flash : Defaults → List Said → Bool
all_flash defaults said = list_any (λ (s : Said). is_letter s.tag) said && (length (still_letters defaults said) == 0)
