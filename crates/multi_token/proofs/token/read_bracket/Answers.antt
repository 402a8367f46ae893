use Rattle.std.proofs.Common.{◌≡◌, ℕ, ◌+◌, ◌-◌, List, drop, Result, Ok, Err, refl}
use Rattle.std.specs.Prelude.{IfOk, IsErr}
use Rattle.multi_token.specs.Counted.{Counted, charged}
use Rattle.multi_token.specs.Spelling.{Char, HasNoItem}
use Rattle.multi_token.specs.Tokens.{IsBracketed, item_of, octets_of}
use Rattle.multi_token.specs.declared.token.Kind.TheVariants as kinds
use Rattle.multi_token.specs.declared.token.Bracketed.{Bracketed}
use Rattle.multi_token.specs.declared.token.Bracketed.TheVariants as bracketed
use Rattle.multi_token.specs.declared.token.TokenFault.{TokenFault}
use Rattle.multi_token.proofs.token.read_bracket.Goals as goal

item_stands : (octets : List ℕ) (at bracket : ℕ) (spelled : Bracketed) → IsBracketed octets at bracket spelled → ¬ (HasNoItem (drop at octets))
item_stands octets at bracket bracketed.Doubled token none = none (Char bracket) (drop (at + 2) octets) token.begins
item_stands octets at bracket (bracketed.Tag len) token none =
    none (item_of octets (record { at = at; len = len + 2; kind = kinds.Tag })) (drop (at + (len + 2)) octets) token.begins

refused : (octets : List ℕ) (at bracket : ℕ) (old new : Counted) (r : Result Bracketed TokenFault) → IfOk r (λ spelled. IsBracketed octets at bracket spelled × (new ≡ charged old (octets_of spelled - 1)))
    → HasNoItem (drop at octets) → IsErr r
refused octets at bracket old new (Ok spelled) is none = absurd (item_stands octets at bracket spelled is.0 none)
refused octets at bracket old new (Err fault) is none = refl

pub returns-then-bracket-eq91-clause-at_none : goal.returns-then-bracket-eq91-clause-at_none
returns-then-bracket-eq91-clause-at_none c = refused c.args.source.now.octets c.args.at 91 c.args.source.now c.open_bracket.new.source c.open_bracket.result c.open_bracket.ensures.spelled

pub returns-else-bracket-eq91-clause-at_none : goal.returns-else-bracket-eq91-clause-at_none
returns-else-bracket-eq91-clause-at_none c = refused c.args.source.now.octets c.args.at 93 c.args.source.now c.close_bracket.new.source c.close_bracket.result c.close_bracket.ensures.spelled
