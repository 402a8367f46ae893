-- Items that begin with a bracket, read and judged in one (own).
use Rattle.std.specs.Prelude.{◌≡◌, ◌⊎◌, ℕ, ◌+◌, ◌-◌, Bool, min, length, Option, Some, None, Result, Ok, Err}
use Rattle.multi_token.specs.Counted.{Counted, charged}
use Rattle.multi_tag.specs.declared.tag.Tag.{Tag}
use Rattle.multi_tag.specs.Closed.{HasNoTagAt}
use Rattle.sign_font.specs.Sign.{SignData}
use Rattle.multi_meaning.specs.Codes.{code_of}
use Rattle.multi_meaning.specs.Meaning.{Meaning, said_by}
use Rattle.multi_meaning.specs.Steps.{looks}
use Rattle.multi_meaning.specs.declared.fault.SyntaxError.{SyntaxError}
use Rattle.multi_meaning.specs.internal.ItemAt.{IsBracketedRead, IsFaultRead}
use Rattle.multi_judge.specs.internal.Passed.{JudgesItem}
use Rattle.multi_judge.specs.declared.line.Line.{Line}
use Rattle.multi_judge.specs.declared.pass.Pass.{Pass}

-- an item that begins with a bracket at an offset is read, with `before` steps of them taken already, and judged: it doesn't offend, or
-- by this error (own)
pub record IsBracketedJudged (words : Bool) (sign : SignData) (source : Counted) (at before len : ℕ) (old : Pass)
    (result : Result (Option Line) SyntaxError) (new : Pass) (judged : Counted) : Type 0
  where
    pub means : Meaning
    pub steps : ℕ
    pub read : Counted
    pub item : IsBracketedRead source.octets at len means (before + steps)
    pub reads : read ≡ charged source steps
    pub judges : judged ≡ charged read (looks means)
    pub item_judged : JudgesItem words sign old means result new

-- a tag that was read, with the number of its octets, is judged, if there is one (own)
abbrev pub JudgesRead : Bool → SignData → Pass → Counted → Option (Tag × ℕ) → Option (Result ℕ SyntaxError) → Pass → Counted → Type 0
JudgesRead words sign old source None None new judged = judged ≡ source
JudgesRead words sign old source (Some (tag, len)) (Some (Ok long)) new judged =
    (long ≡ len) × (judged ≡ charged source (looks (said_by tag)))
    × ((ended : Option Line) × JudgesItem words sign old (said_by tag) (Ok ended) new)
JudgesRead words sign old source (Some (tag, len)) (Some (Err error)) new judged =
    (judged ≡ charged source (looks (said_by tag))) × JudgesItem words sign old (said_by tag) (Err error) new
JudgesRead words sign old source _ _ new judged = ⊥

-- the tag that begins with the opening bracket at an offset, after which one octet was read, is read ahead and judged, if one stands there
-- (own)
abbrev pub JudgesAhead : Bool → SignData → Counted → ℕ → Pass → Option (Result ℕ SyntaxError) → Pass → Counted → Type 0
JudgesAhead words sign source at old None new judged =
    HasNoTagAt source.octets at × (judged ≡ charged source (min 26 (length source.octets - (at + 1))))
JudgesAhead words sign source at old (Some (Ok len)) new judged =
    (ended : Option Line) × IsBracketedJudged words sign source at 1 (len + 1) old (Ok ended) new judged
JudgesAhead words sign source at old (Some (Err error)) new judged =
    (len : ℕ) × IsBracketedJudged words sign source at 1 len old (Err error) new judged

-- the item that begins with a bracket at an offset is read and judged, if one stands there that has a meaning (own)
abbrev pub JudgesBracketed : Bool → SignData → Counted → ℕ → Pass → Result ℕ SyntaxError → Pass → Counted → Type 0
JudgesBracketed words sign source at old (Ok len) new judged =
    (ended : Option Line) × IsBracketedJudged words sign source at 0 len old (Ok ended) new judged
JudgesBracketed words sign source at old (Err error) new judged =
    ((steps : ℕ) × (judged ≡ charged source steps) × IsFaultRead source.octets at (code_of error) steps)
    ⊎ ((len : ℕ) × IsBracketedJudged words sign source at 0 len old (Err error) new judged)
