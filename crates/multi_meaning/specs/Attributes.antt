-- The attributes and their values in force (NTCIP 1203 v03, MULTI and group multiCfg). The defaults are the sign's: under
-- other defaults a sign is the same sign with those.
use Rattle.std.specs.Prelude.{ℕ, ◌+◌, ◌-◌, Bool, ◌&&◌, ◌==◌, nat_le, List, [], Option, Some, None, if◌then◌else◌}
use Rattle.std.specs.List.{filter_map, last_or}
use Rattle.std.specs.Option.{unwrap_or}
use Rattle.multi_tag.specs.declared.just.LineJust.{LineJust}
use Rattle.multi_tag.specs.declared.just.PageJust.{PageJust}
use Rattle.multi_tag.specs.declared.tag.Tag.TheVariants.{NewPage, Font, CharSpacing, CharSpacingEnd, PageTime, Flash, FlashEnd, Fore, Back, Rect}
use Rattle.multi_tag.specs.declared.tag.Tag.TheVariants as tags
use Rattle.multi_tag.specs.Just.{line_just_of, page_just_of}
use Rattle.sign_font.specs.declared.parts.Defaults.{Defaults}
use Rattle.sign_font.specs.Sign.{SignData, FontData, font_numbered}
use Rattle.multi_meaning.specs.declared.attributes.FlashTimes.{FlashTimes}
use Rattle.multi_meaning.specs.declared.attributes.Rectangle.{Rectangle}
use Rattle.multi_meaning.specs.Meaning.{Meaning, Does}

-- an attribute in force after some items is the value that the last of them which gives it gives, else its default
-- (NTCIP 1203 v03, MULTI)
abbrev pub in_force : {A : Type 0} → (Meaning → Option A) → A → List Meaning → A
in_force given default before = unwrap_or (last_or None (filter_map given before)) default

-- the default font, which an accepted sign defines (NTCIP 1203 v03, defaultFont)
abbrev pub default_font : SignData → FontData
default_font sign =
    unwrap_or (font_numbered sign sign.defaults.font)
    (record { number = 0; version = 0; height = 0; char_spacing = 0; line_spacing = 0; cells = [] })

-- the font that an item gives: that of the number, or the default (NTCIP 1203 v03, MULTI tag 'fo')
abbrev pub given_font : SignData → Meaning → Option FontData
given_font sign (Does (Font None)) = Some (default_font sign)
given_font sign (Does (Font (Some pick))) = font_numbered sign pick.number
given_font sign _ = None

-- the default line justification (NTCIP 1203 v03, defaultJustificationLine)
abbrev pub default_line_just : Defaults → LineJust
default_line_just defaults = line_just_of defaults.line

-- the default page justification (NTCIP 1203 v03, defaultJustificationPage)
abbrev pub default_page_just : Defaults → PageJust
default_page_just defaults = page_just_of defaults.page

-- the line justification that an item gives (NTCIP 1203 v03, MULTI tag 'jl')
abbrev pub given_line_just : Defaults → Meaning → Option LineJust
given_line_just defaults (Does (tags.LineJust just)) = Some (unwrap_or just (default_line_just defaults))
given_line_just defaults _ = None

-- the page justification that an item gives (NTCIP 1203 v03, MULTI tag 'jp')
abbrev pub given_page_just : Defaults → Meaning → Option PageJust
given_page_just defaults (Does (tags.PageJust just)) = Some (unwrap_or just (default_page_just defaults))
given_page_just defaults _ = None

-- the character spacing that an item gives, in pixels; at its end none (NTCIP 1203 v03, MULTI tags 'sc' and '/sc')
abbrev pub given_spacing : Meaning → Option (Option ℕ)
given_spacing (Does (CharSpacing pixels)) = Some (Some pixels)
given_spacing (Does CharSpacingEnd) = Some None
given_spacing _ = None

-- the foreground colour that an item gives (NTCIP 1203 v03, MULTI tag 'cf')
abbrev pub given_fore : Defaults → Meaning → Option ℕ
given_fore defaults (Does (Fore colour)) = Some (unwrap_or colour defaults.fore)
given_fore defaults _ = None

-- the page background that an item gives (NTCIP 1203 v03, MULTI tag 'pb')
abbrev pub given_back : Defaults → Meaning → Option ℕ
given_back defaults (Does (Back colour)) = Some (unwrap_or colour defaults.back)
given_back defaults _ = None

-- the page on time that an item gives, in tenths; an absent one is the default (NTCIP 1203 v03, MULTI tag 'pt')
abbrev pub given_on : Defaults → Meaning → Option ℕ
given_on defaults (Does (PageTime on off)) = Some (unwrap_or on defaults.page_on)
given_on defaults _ = None

-- the page off time that an item gives, in tenths; an absent one is the default (NTCIP 1203 v03, MULTI tag 'pt')
abbrev pub given_off : Defaults → Meaning → Option ℕ
given_off defaults (Does (PageTime on off)) = Some (unwrap_or off defaults.page_off)
given_off defaults _ = None

-- the flash that an item gives, with the default of each absent time; at its end none (NTCIP 1203 v03, MULTI tags 'fl' and '/fl')
abbrev pub given_flash : Defaults → Meaning → Option (Option FlashTimes)
given_flash defaults (Does (Flash off_first on off)) =
    Some (Some (record { off_first = off_first; on = unwrap_or on defaults.flash_on; off = unwrap_or off defaults.flash_off }))
given_flash defaults (Does FlashEnd) = Some None
given_flash defaults _ = None

-- the whole sign (NTCIP 1203 v03, vmsSignWidthPixels and vmsSignHeightPixels)
abbrev pub whole_sign : SignData → Rectangle
whole_sign sign = record { left = 0; top = 0; width = sign.width; height = sign.height }

-- a rectangle of a tag, whose upper left pixel is counted from 1, is inside the sign (NTCIP 1203 v03, MULTI tag 'tr')
abbrev pub is_inside : SignData → ℕ → ℕ → ℕ → ℕ → Bool
is_inside sign x y w h =
    nat_le 1 x && nat_le 1 y && nat_le x sign.width && nat_le y sign.height
    && nat_le (x - 1 + w) sign.width && nat_le (y - 1 + h) sign.height

-- the rectangle of a tag; a width or height of 0 is all that remains (NTCIP 1203 v03, MULTI tag 'tr')
abbrev pub rectangle : SignData → ℕ → ℕ → ℕ → ℕ → Rectangle
rectangle sign x y w h = record {
  left = x - 1;
  top = y - 1;
  width = if w == 0 then sign.width - (x - 1) else w;
  height = if h == 0 then sign.height - (y - 1) else h;
}

-- the rectangle that an item gives; a new page has the whole sign again (own)
abbrev pub given_rectangle : SignData → Meaning → Option Rectangle
given_rectangle sign (Does NewPage) = Some (whole_sign sign)
given_rectangle sign (Does (Rect x y w h)) = Some (rectangle sign x y w h)
given_rectangle sign _ = None
