-- The sample sign, by which the definitions are tried (own).
use Rattle.std.specs.Prelude.{false, [], ◌∷◌}
use Rattle.sign_font.specs.declared.parts.LineFill.TheVariants.{Off}
use Rattle.sign_font.specs.Sign.{FontData, SignData}

-- the font of three rows (own)
abbrev pub small_font : FontData
small_font = record {
  number = 1;
  version = 6699;
  height = 3;
  char_spacing = 1;
  line_spacing = 1;
  cells = record { number = 32; width = 2; bits = 0x00 ∷ [] }
      ∷ record { number = 65; width = 3; bits = 0x5e ∷ 0x80 ∷ [] }
      ∷ record { number = 73; width = 1; bits = 0xe0 ∷ [] }
      ∷ record { number = 91; width = 2; bits = 0xec ∷ [] }
      ∷ record { number = 93; width = 2; bits = 0xdc ∷ [] } ∷ [];
}

-- the font of five rows (own)
abbrev pub large_font : FontData
large_font = record {
  number = 2;
  version = 0;
  height = 5;
  char_spacing = 2;
  line_spacing = 2;
  cells = record { number = 65; width = 4; bits = 0x69 ∷ 0xf9 ∷ 0x90 ∷ [] } ∷ [];
}

-- a sign of 12 columns and 7 rows with these two fonts (own)
abbrev pub sample : SignData
sample = record {
  width = 12;
  height = 7;
  classic = false;
  max_pages = 2;
  beacons = false;
  pixel_service = false;
  line_fill = Off;
  defaults = record {
    font = 1;
    line = 3;
    page = 3;
    page_on = 30;
    page_off = 0;
    flash_on = 5;
    flash_off = 5;
    fore = 1;
    back = 0;
  };
  fonts = small_font ∷ large_font ∷ [];
}
