-- On which items of a string there are warnings.
use Rattle.std.specs.Prelude.{ℕ, ◌+◌, Bool, true, false, not, ◌&&◌, ◌==◌, nat_lt, List, [], ◌∷◌, map, slice_get, Option, None, Some, if◌then◌else◌}
use Rattle.std.specs.List.{filter}
use Rattle.std.specs.Option.{option_map, option_map_or, unwrap_or}
use Rattle.sign_font.specs.Sign.{SignData, font_numbered, info_of}
use Rattle.sign_font.specs.declared.font.FontInfo.{FontInfo}
use Rattle.sign_font.specs.declared.parts.Defaults.{Defaults}
use Rattle.multi_tag.specs.declared.tag.FontPick.{FontPick}
use Rattle.multi_tag.specs.declared.tag.Tag.{Tag}
use Rattle.multi_tag.specs.declared.tag.Tag.TheVariants.{Flash, Font, Fore, HexChar, NewPage, PageTime}
use Rattle.message_words.specs.declared.code.WarningCode.{WarningCode}
use Rattle.message_words.specs.declared.code.WarningCode.TheVariants.{AnyVersion, EndlessFlash, FastFlash, IdleOff, LongDark, ManyPages, NoColours, RapidFlash}
use Rattle.message_words.specs.declared.said.Said.{Said}

-- an item begins a page (NTCIP 1203 v03, MULTI tag 'np')
abbrev pub is_page : Option Tag → Bool
is_page (Some NewPage) = true
is_page _ = false

-- an item shows a character that is no space, whose number is 32 (own)
abbrev pub is_letter : Option Tag → Bool
is_letter (Some (HexChar number)) = not (number == 32)
is_letter _ = false

-- an off time does nothing on a page that is shown all the time, unless it is 0 or the sign's own (own)
abbrev pub is_idle : Defaults → ℕ → Bool
is_idle defaults off = not (off == 0) && not (off == defaults.page_off)

-- an item sets such an off time in a message of one page (NTCIP 1203 v03, MULTI tag 'pt')
abbrev pub sets_idle_off : Defaults → ℕ → Option Tag → Bool
sets_idle_off defaults pages (Some (PageTime on off)) = (pages == 1) && is_idle defaults (unwrap_or off defaults.page_off)
sets_idle_off defaults pages _ = false

-- an item sets an off time of more than two seconds in a message of several pages (NTCIP 1203 v03, MULTI tag 'pt')
abbrev pub sets_long_dark : Defaults → ℕ → Option Tag → Bool
sets_long_dark defaults pages (Some (PageTime on off)) = nat_lt 1 pages && nat_lt 20 (unwrap_or off defaults.page_off)
sets_long_dark defaults pages _ = false

-- an item asks for a colour other than black (NTCIP 1203 v03, MULTI tag 'cf')
abbrev pub asks_colour : Option Tag → Bool
asks_colour (Some (Fore (Some colour))) = not (colour == 0)
asks_colour _ = false

-- after how many tenths of a second a flash with these times lights again, if it goes on and off (NTCIP 1203 v03, MULTI tag 'fl')
abbrev pub period_of : ℕ → ℕ → Option ℕ
period_of on off = if nat_lt 0 on && nat_lt 0 off then Some (on + off) else None

-- the same of the flash that an item begins (NTCIP 1203 v03, MULTI tag 'fl')
abbrev pub flash_period : Defaults → Option Tag → Option ℕ
flash_period defaults (Some (Flash first on off)) = period_of (unwrap_or on defaults.flash_on) (unwrap_or off defaults.flash_off)
flash_period defaults _ = None

-- an item begins a flash that lights more often than twice a second, but not as often as three times (NTCIP 1203 v03, MULTI tag 'fl')
abbrev pub begins_fast : Defaults → Option Tag → Bool
begins_fast defaults tag = option_map_or (λ tenths. tenths == 4) (flash_period defaults tag) false

-- an item begins a flash that lights three times a second or more often (NTCIP 1203 v03, MULTI tag 'fl')
abbrev pub begins_rapid : Defaults → Option Tag → Bool
begins_rapid defaults tag = option_map_or (λ tenths. nat_lt tenths 4) (flash_period defaults tag) false

-- an item begins a flash that never goes out (NTCIP 1203 v03, MULTI tag 'fl')
abbrev pub begins_endless : Defaults → Option Tag → Bool
begins_endless defaults (Some (Flash first on off)) = unwrap_or off defaults.flash_off == 0
begins_endless defaults _ = false

-- a font has a version, which is no 0 (NTCIP 1203 v03, object fontVersionID)
abbrev pub has_version : Option FontInfo → Bool
has_version (Some font) = not (font.version == 0)
has_version None = false

-- a font is asked for that has a version, and the version isn't (NTCIP 1203 v03, MULTI tag 'fo')
abbrev pub is_any_version : SignData → FontPick → Bool
is_any_version sign pick = of pick.version
  where
    of : Option ℕ → Bool
    of None = has_version (option_map info_of (font_numbered sign pick.number))
    of (Some version) = false

-- an item asks so for a font (NTCIP 1203 v03, MULTI tag 'fo')
abbrev pub asks_any_version : SignData → Option Tag → Bool
asks_any_version sign (Some (Font (Some pick))) = is_any_version sign pick
asks_any_version sign _ = false

-- a warning of this code is on an item of a message of so many pages (own)
abbrev pub is_on_item : SignData → ℕ → WarningCode → Option Tag → Bool
is_on_item sign pages IdleOff tag = sets_idle_off sign.defaults pages tag
is_on_item sign pages LongDark tag = sets_long_dark sign.defaults pages tag
is_on_item sign pages NoColours tag = not sign.classic && asks_colour tag
is_on_item sign pages FastFlash tag = begins_fast sign.defaults tag
is_on_item sign pages RapidFlash tag = begins_rapid sign.defaults tag
is_on_item sign pages EndlessFlash tag = begins_endless sign.defaults tag
is_on_item sign pages ManyPages tag = is_page tag
is_on_item sign pages AnyVersion tag = asks_any_version sign tag
is_on_item sign pages _ tag = false

-- where such items begin (own)
abbrev pub item_places : SignData → ℕ → WarningCode → List Said → List ℕ
item_places sign pages code said = map (λ (s : Said). s.at) (filter (λ (s : Said). is_on_item sign pages code s.tag) said)

-- one place, or none (own)
abbrev pub one_place : Option ℕ → List ℕ
one_place None = []
one_place (Some at) = at ∷ []

-- at which of the places a warning of this code stands: at the first alone, or where the third page begins, or at all (own)
abbrev pub chosen_places : WarningCode → List ℕ → List ℕ
chosen_places NoColours places = one_place (slice_get places 0)
chosen_places AnyVersion places = one_place (slice_get places 0)
chosen_places ManyPages places = one_place (slice_get places 1)
chosen_places _ places = places
