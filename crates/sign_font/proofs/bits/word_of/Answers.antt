use Rattle.std.proofs.Common.{◌≡◌, ◌+◌, ◌∙◌, sym, subst, arith, true, false}
use Rattle.sign_font.specs.Cell.{is_set}
use Rattle.sign_font.specs.internal.Rows.{IsWordOf}
use Rattle.sign_font.proofs.BitLemmas.{word_lit, word_dark}
use Rattle.sign_font.proofs.bits.word_of.Goals as goal
use Rattle.sign_font.proofs.bits.word_of.Goals.{then-is_set, else-is_set}

pub loop-column-preserved : goal.loop-column-preserved
loop-column-preserved c =
    let octets = c.args.octets.now in
    let at = c.loop-column in
    elim c.if-is_set.branch [
      | then-is_set w ↦
          let lit : is_set octets (c.args.first + at.column) ≡ true = sym c.is_set.ensures ∙ w.if-is_set.true in
          subst (IsWordOf octets c.args.first (at.column + 1)) (sym w.word-is) (word_lit octets c.args.first at.column at.word (omega arith) lit at.invariant)
      | else-is_set w ↦
          let dark : is_set octets (c.args.first + at.column) ≡ false = sym c.is_set.ensures ∙ w.if-is_set.false in
          subst (IsWordOf octets c.args.first (at.column + 1)) (sym w.word-is) (word_dark octets c.args.first at.column at.word dark at.invariant)
    ]
