-- What is kept of the items that were read, by whether lines are filled (own).
use Rattle.std.specs.Prelude.{◌≡◌, Bool, true, false, List}
use Rattle.sign_font.specs.declared.parts.LineFill.{LineFill}
use Rattle.sign_font.specs.declared.parts.LineFill.TheVariants.{Off, Words}
use Rattle.sign_font.specs.Sign.{SignData}
use Rattle.multi_meaning.specs.Meaning.{Meaning}
use Rattle.multi_judge.specs.declared.pass.Pass.{Pass}
use Rattle.multi_judge.specs.internal.FilledState.{IsFilledFor, IsFilledReady}
use Rattle.multi_judge.specs.internal.FilledRun.{IsFilledRun}
use Rattle.multi_judge.specs.internal.Run.{line_in_force, IsBehindCharacter, is_within}
use Rattle.multi_judge.specs.internal.State.{IsReady, IsUnfilledOf}

-- whether lines are filled, as a sign says it (own)
abbrev pub fill_of : Bool → LineFill
fill_of true = Words
fill_of false = Off

-- a pass over lines of this kind is what is kept of these items (own)
abbrev pub IsPassOf : Bool → SignData → Pass → List Meaning → Type 0
IsPassOf true sign pass items = IsFilledFor sign pass items
IsPassOf false sign pass items = IsUnfilledOf sign pass.state items

-- the times of a pass over lines of this kind are within their bound, and where lines are filled, its order is that of its lines (own)
abbrev pub IsPassReady : Bool → Pass → Type 0
IsPassReady true pass = IsFilledReady pass
IsPassReady false pass = IsReady pass.state

-- a pass over lines of this kind is after a character, unless that is a space that was dropped, and what is there is within its
-- limits (own)
pub record IsPassBehind (words : Bool) (pass : Pass) : Type 0 where
  pub within : is_within pass.state ≡ true
  pub behind : words ≡ false → IsBehindCharacter pass.state
  pub filled : words ≡ true → (line_in_force pass.state).any ≡ true → IsFilledRun pass
