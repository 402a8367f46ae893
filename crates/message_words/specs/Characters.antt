-- The characters that a sign's fonts have.
use Rattle.std.specs.Prelude.{◌≡◌, ℕ, ◌+◌, ◌-◌, ◌==◌, Bool, List, [], ◌∷◌, ◌++◌, All, map, is_some, if◌then◌else◌}
use Rattle.std.specs.List.{filter, flat_map, range_with_len}
use Rattle.sign_font.specs.Sign.{SignData, cell_in, font_numbered}
use Rattle.message_words.specs.declared.characters.CharacterRun.{CharacterRun}
use Rattle.message_words.specs.declared.characters.FontCharacters.{FontCharacters}

-- the numbers from one up to below another (own)
abbrev pub numbers_below : ℕ → ℕ → List ℕ
numbers_below first end = range_with_len first (end - first)

-- a font of a sign has a character of this number (NTCIP 1203 v03, object characterNumber)
abbrev pub has_character : SignData → ℕ → ℕ → Bool
has_character sign font number = is_some (cell_in sign font number)

-- the numbers of the characters that a font of a sign has, below another number (NTCIP 1203 v03, object characterNumber)
abbrev pub characters_below : SignData → ℕ → ℕ → List ℕ
characters_below sign font end = filter (has_character sign font) (numbers_below 1 end)

-- all of them (NTCIP 1203 v03, object characterNumber)
unfoldable pub font_characters : SignData → ℕ → List ℕ
font_characters sign font = characters_below sign font 65536

-- the numbers of a run (own)
abbrev pub numbers_of : CharacterRun → List ℕ
numbers_of run = numbers_below run.first (run.last + 1)

-- the numbers of some runs (own)
abbrev pub run_numbers : List CharacterRun → List ℕ
run_numbers runs = flat_map numbers_of runs

-- the numbers up to below another of a run that has begun; none has where the number of its first is 0 (own)
abbrev pub open_run : ℕ → ℕ → List ℕ
open_run first end = if first == 0 then [] else numbers_below first end

-- the numbers of the fonts that a sign has, below another number (NTCIP 1203 v03, object fontNumber)
abbrev pub fonts_below : SignData → ℕ → List ℕ
fonts_below sign end = filter (λ number. is_some (font_numbered sign number)) (numbers_below 1 end)

-- these runs are those of the font's characters (own)
abbrev pub IsOfFont : SignData → FontCharacters → Type 0
IsOfFont sign font = run_numbers font.runs.items ≡ font_characters sign font.font

-- the characters of a font are added to those of others (own)
abbrev pub IsAdded : SignData → ℕ → List FontCharacters → List FontCharacters → Type 0
IsAdded sign number old new = (font : FontCharacters) × (new ≡ old ++ font ∷ []) × (font.font ≡ number) × IsOfFont sign font

-- these are the characters of fonts below a number: each of these fonts stands there once, in the order of their numbers, with its
-- characters (NTCIP 1203 v03, objects fontNumber and characterNumber)
abbrev pub AreCharacters : SignData → ℕ → List FontCharacters → Type 0
AreCharacters sign end fonts = (map (λ (font : FontCharacters). font.font) fonts ≡ fonts_below sign end) × All (IsOfFont sign) fonts
