-- The keys of a sign, of its fonts and of its defaults.
use Rattle.std.specs.Prelude.{Option, Some, codes}
use Rattle.toml.specs.Data.{Members, get_member}
use Rattle.sign_font.specs.Sign.{CellData, FontData, SignData}
use Rattle.sign_font.specs.declared.parts.Defaults.{Defaults}
use Rattle.sign_file.specs.Keys.{◌>>=◌, entry_of, flag_at, line_fill_at, list_at, number_at, number_or, octets_at, scheme_of, text_at}

-- The keys of `[[font.cell]]` (NTCIP 1203 v03, object characterTable).
unfoldable pub cell_of_table : Members → Option CellData
cell_of_table members = do
  number ← number_at 65535 (codes "number") members
  width ← number_at 255 (codes "width") members
  bits ← octets_at (codes "bits") members
  Some (record { number = number; width = width; bits = bits })

-- The keys of `[[font]]` (NTCIP 1203 v03, object fontTable).
unfoldable pub font_of_table : Members → Option FontData
font_of_table members = do
  number ← number_at 255 (codes "number") members
  version ← number_or 65535 0 (codes "version") members
  height ← number_at 255 (codes "height") members
  char_spacing ← number_at 255 (codes "char_spacing") members
  line_spacing ← number_at 255 (codes "line_spacing") members
  cells ← list_at cell_of_table (codes "cell") members
  Some (record {
    number = number;
    version = version;
    height = height;
    char_spacing = char_spacing;
    line_spacing = line_spacing;
    cells = cells;
  })

-- The keys of `[defaults]` (NTCIP 1203 v03, group multiCfg).
unfoldable pub defaults_of_table : Members → Option Defaults
defaults_of_table members = do
  font ← number_at 255 (codes "font") members
  line ← number_at 255 (codes "line") members
  page ← number_at 255 (codes "page") members
  page_on ← number_at 255 (codes "page_on") members
  page_off ← number_at 255 (codes "page_off") members
  flash_on ← number_at 255 (codes "flash_on") members
  flash_off ← number_at 255 (codes "flash_off") members
  fore ← number_at 255 (codes "fore") members
  back ← number_at 255 (codes "back") members
  Some (record {
    font = font;
    line = line;
    page = page;
    page_on = page_on;
    page_off = page_off;
    flash_on = flash_on;
    flash_off = flash_off;
    fore = fore;
    back = back;
  })

-- The keys of a sign (own).
unfoldable pub sign_of_table : Members → Option SignData
sign_of_table members = do
  width ← number_at 65535 (codes "width") members
  height ← number_at 65535 (codes "height") members
  scheme ← text_at (codes "scheme") members
  classic ← scheme_of scheme
  max_pages ← number_at 255 (codes "max_pages") members
  beacons ← flag_at (codes "beacons") members
  pixel_service ← flag_at (codes "pixel_service") members
  line_fill ← line_fill_at (codes "line_fill") members
  table ← get_member (codes "defaults") members
  defaults ← entry_of defaults_of_table table
  fonts ← list_at font_of_table (codes "font") members
  Some (record {
    width = width;
    height = height;
    classic = classic;
    max_pages = max_pages;
    beacons = beacons;
    pixel_service = pixel_service;
    line_fill = line_fill;
    defaults = defaults;
    fonts = fonts;
  })
