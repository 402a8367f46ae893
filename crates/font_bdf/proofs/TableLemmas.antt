-- A table after the other keys of a sign file.
use Rattle.std.proofs.Common.{◌≡◌, ℕ, true, List, [], ◌∷◌, ◌++◌, Option, None, Some, refl, ap, subst, length}
use Rattle.std.specs.Prelude.{is_none}
use Rattle.std.proofs.lemmas.Bool.{and_parts}
use Rattle.sign_font.specs.Limits.{first_fault}
use Rattle.sign_font.specs.Sign.{FontData}
use Rattle.sign_file.specs.SignFile.{FileData, file_of_octets}
use Rattle.font_bdf.specs.declared.setting.FontSetting.{FontSetting}
use Rattle.font_bdf.specs.Tables.{IsTable, IsTableOf, fonts_read, front, is_one_font, is_sound, is_taken, messages_read, with_font}

-- signs take the font of a file that is read, that has this one font and no permanent message, and whose sign has no fault
pub taken : (setting : FontSetting) (text : List ℕ) (file : FileData) (font : FontData) → file_of_octets (front ++ text) ≡ Some file → is_one_font setting file.sign.fonts ≡ true
    → file.sign.fonts ≡ font ∷ [] → length file.permanents ≡ 0 → is_none (first_fault (with_font file.sign setting.number)) ≡ true → IsTableOf setting font text
unfolding is_taken fonts_read messages_read
taken setting text file font is one only none sound = record {
  taken = rw (is, one, sound) refl;
  same = rw is (ap (λ (fonts : List FontData). Some fonts) only);
  alone = rw is (ap (λ (count : ℕ). Some count) none);
}

-- a file that signs take by a setting is sound
sound_read : (setting : FontSetting) (file : Option FileData) → is_taken setting file ≡ true → is_sound setting.number file ≡ true
unfolding is_taken is_sound
sound_read setting None is = is
sound_read setting (Some file) is = (and_parts (is_one_font setting file.sign.fonts) (is_none (first_fault (with_font file.sign setting.number))) is).1

-- the table of a font by a setting with its number is its table
pub alone : (setting : FontSetting) (font : FontData) (text : List ℕ) → IsTableOf setting font text → setting.number ≡ font.number → IsTable font text
alone setting font text is same = record {
  sound = subst (λ (n : ℕ). is_sound n (file_of_octets (front ++ text)) ≡ true) same (sound_read setting (file_of_octets (front ++ text)) is.taken);
  same = is.same;
  alone = is.alone;
}
