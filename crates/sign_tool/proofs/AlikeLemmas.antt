-- A served sign and a script answer the lines of a script alike.
use Rattle.std.proofs.Common.{◌≡◌, ◌≢◌, ℕ, false, List, [], ◌∷◌, map, Option, None, Some, IsSomeAnd, length, refl, sym, ap, ◌∙◌}
use Rattle.std.specs.Prelude.{nat_lt}
use Rattle.sign_font.specs.Sign.{SignData}
use Rattle.sign_control.specs.State.{StateData}
use Rattle.sign_script.specs.declared.ask.Ask.{Ask}
use Rattle.sign_script.specs.declared.ask.Ask.TheVariants as ask
use Rattle.sign_script.specs.Asks.{ask_of}
use Rattle.sign_tool.specs.Script.{Told, replies, told}
use Rattle.sign_tool.specs.Served.{served, told_ask, told_line}
use Rattle.sign_tool.specs.ServedLaws.{ServesAsRuns}
use Rattle.sign_tool.proofs.ScriptLemmas.{replies_told}

-- what is there
there : (asked : Option Ask) (P : Ask → Type 0) → IsSomeAnd asked P → (a : Ask) × (asked ≡ Some a) × P a
there None P p = absurd p
there (Some a) P p = (a, refl, p)

-- what a script asks for is told alike
told_alike : (sign : SignData) (state : StateData) (a : Ask) → a ≢ ask.Nothing → told_ask sign state a ≡ told sign state a
told_alike sign state ask.Nothing other = absurd (other refl)
told_alike sign state (ask.Command command) other = refl
told_alike sign state (ask.Frame colour) other = refl
told_alike sign state (ask.Row message) other = refl
told_alike sign state ask.Report other = refl
told_alike sign state ask.Defaults other = refl

-- a line is told alike
line_alike : (sign : SignData) (state : StateData) (line : List ℕ) (a : Ask) → nat_lt 8300 (length line) ≡ false → ask_of line ≡ Some a → a ≢ ask.Nothing
    → told_line sign state line ≡ told sign state a
line_alike sign state line a short is other = rw (short, is) (told_alike sign state a other)

-- the replies of a served sign to a line and those after it
served_more : (sign : SignData) (state : StateData) (line : List ℕ) (lines : List (List ℕ)) (t : Told) → told_line sign state line ≡ t
    → served sign state (line ∷ lines) ≡ t.text ∷ served sign t.state lines
unfolding served
served_more sign state line lines t is = ap (λ (u : Told). u.text ∷ served sign u.state lines) is

pub serves_as_runs : ServesAsRuns
unfolding replies served
serves_as_runs sign state [] each = refl
serves_as_runs sign state (line ∷ lines) each =
    let (a, is, other) = there (ask_of line) (λ asked. asked ≢ ask.Nothing) each.0.1 in
    let t = told sign state a in
    replies_told sign state line a lines is
    ∙ ap (λ (l : List (Option (List ℕ))). Some t.text ∷ l) (serves_as_runs sign t.state lines each.1)
    ∙ sym (ap (map (λ (text : List ℕ). Some text)) (served_more sign state line lines t (line_alike sign state line a each.0.0 is other)))
