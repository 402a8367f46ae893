use Rattle.std.proofs.Common.{◌≡◌, ◌+◌, ◌-◌, ◌*◌, ◌∙◌, arith, length, refl, sym}
use Rattle.std.proofs.lemmas.Bool.{and_parts}
use Rattle.page_picture.proofs.RowLemmas.{same_ends, same_more}
use Rattle.page_picture.proofs.rows.are_all.Goals as goal

pub loop-word-preserved : goal.loop-word-preserved
loop-word-preserved c = record {
  front = λ dark.
      let l = c.loop-word in
      let both = and_parts l.same c.is_word_of-same-in-loop-word.result dark in
      let word = 8 * l.word in
      let wide : 8 * l.word + 8 - word ≡ 8 = omega arith in
      same_more c.args.octet c.args.octets.now _ word (word + 8 - word) (8 * (l.word + 1)) (omega (arith, wide)) refl
      ∙ rw (l.invariant.front both.0, sym c.is_word_of-same-in-loop-word.ensures) both.1;
  end = λ dark. c.loop-word.invariant.end (and_parts c.loop-word.same c.is_word_of-same-in-loop-word.result dark).0;
}

pub returns : goal.returns
returns c = λ dark.
    let l = c.loop-word in
    same_ends c.args.octet c.args.octets.now (8 * l.word) (length c.args.octets.now - 8) (omega (arith, c.loop-word-test.false)) (l.invariant.front dark) (l.invariant.end dark)
