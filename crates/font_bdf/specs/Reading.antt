-- What was read, or why nothing was.
use Rattle.std.specs.Prelude.{◌≡◌, ◌≢◌, ℕ, List, ◌++◌, Option, None, Some, Result, Ok, Err}
use Rattle.std.specs.Option.{option_map}
use Rattle.sign_font.specs.Sign.{CellData}
use Rattle.font_bdf.specs.declared.fault.BdfFault.{BdfFault}
use Rattle.font_bdf.specs.declared.fault.BdfProblem.{BdfProblem}
use Rattle.font_bdf.specs.declared.fault.BdfProblem.TheVariants.{Memory, Unread}
use Rattle.font_bdf.specs.declared.rows.FontBox.{FontBox}
use Rattle.font_bdf.specs.declared.setting.FontSetting.{FontSetting}
use Rattle.font_bdf.specs.Character.{cells_of}
use Rattle.font_bdf.specs.Order.{if_apart}
use Rattle.font_bdf.specs.Lines.{◌>>=◌}

-- nothing is written, unless memory was refused (own)
abbrev pub Refuses : {Y : Type 0} → BdfProblem → Option Y → Type 0
Refuses problem written = problem ≢ Memory → written ≡ None

-- what was read, seen by `view`, is what is written; a fault says that nothing is, unless memory was refused (own)
abbrev pub Gives : {X Y : Type 0} → (X → Y) → Result X BdfFault → Option Y → Type 0
Gives view (Ok x) written = written ≡ Some (view x)
Gives view (Err fault) written = Refuses fault.problem written

-- memory was refused, or a table isn't read back: its octets may be a font (own)
abbrev pub IsLater : BdfProblem → Type 0
IsLater problem = problem ≢ Memory → problem ≢ Unread → ⊥

-- cells of which no two have one number, at most 255 (own)
abbrev pub IsApart : List CellData → Type 0
IsApart cells = if_apart cells ≡ Some cells

-- the cells of a font, where these were read and these characters are left (own)
unfoldable pub cells_with : List CellData → FontSetting → FontBox → List (List (List ℕ)) → Option (List CellData)
cells_with read setting font blocks = option_map (λ others. read ++ others) (cells_of setting font blocks) >>= if_apart
