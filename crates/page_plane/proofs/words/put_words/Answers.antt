use Rattle.std.proofs.Common.{refl, arith, ◌∙◌, ◌*◌, ◌+◌, ◌≤◌, ◌≡◌, ◌/◌, length, slice_index}
use Rattle.std.proofs.Math.Nat.{mul-le-mul_right}
use Rattle.page_plane.specs.Octets.{row_octets}
use Rattle.page_plane.proofs.WordLemmas.{is_word, words_none, words_more}
use Rattle.page_plane.proofs.words.put_words.Goals as goal

pub loop-bits-init : goal.loop-bits-init
loop-bits-init c = record {
  size = refl;
  at = let first : c.args.y + 0 ≡ c.args.y = omega arith in rw (c.from.ensures, c.from-2.ensures, first) refl;
  put = words_none c.args.octets.now c.args.columns c.args.x c.args.y c.args.width c.args.rows.now c.args.on;
}

pub put_word-requires : goal.put_word-requires
put_word-requires c =
    let a = c.args in
    let l = c.loop-bits in
    let len = row_octets a.columns in
    let here : l.at ≡ (a.y + l.bits-index) * len + a.x / 8 = rw c.row_len-len.ensures at l.invariant.at in
    let rows : (a.y + l.bits-index + 1) * len ≤ (a.y + length a.rows.now) * len = mul-le-mul_right len (omega arith) in
    omega (arith, l.invariant.size, c.requires.room)

pub loop-bits-preserved : goal.loop-bits-preserved
loop-bits-preserved c =
    let a = c.args in
    let l = c.loop-bits in
    let len = row_octets a.columns in
    let bits = slice_index a.rows.now l.bits-index in
    let turn = c.from-turn.result in
    let here : l.at ≡ (a.y + l.bits-index) * len + a.x / 8 = rw c.row_len-len.ensures at l.invariant.at in
    let word = is_word _ a.width bits c.word_mask-mask.result c.word_of.result (omega (arith, c.requires.word, c.from-turn.ensures)) c.word_mask-mask.ensures c.word_of.ensures in
    record {
      size = c.put_word.ensures.len ∙ l.invariant.size;
      at = rw c.row_len-len.ensures (omega arith);
      put = words_more a.octets.now l.octets c.put_word.new.octets a.columns a.x a.y a.width a.rows.now l.bits-index l.at bits c.word_of.result _ a.on
          word (rw c.from-turn.ensures refl) c.requires.column here refl c.put_word.ensures.bits l.invariant.put;
    }
