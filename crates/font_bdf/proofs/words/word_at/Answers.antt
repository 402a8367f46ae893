use Rattle.std.proofs.Common.{sym, ◌∙◌}
use Rattle.std.specs.Option.{option_copied}
use Rattle.font_bdf.specs.Lines.{word_at}
use Rattle.font_bdf.proofs.WordLemmas.{word_after_empty, word_behind, word_here}
use Rattle.font_bdf.proofs.words.word_at.Goals as goal

pub loop-rest-preserved-then-is_empty : goal.loop-rest-preserved-then-is_empty
loop-rest-preserved-then-is_empty c =
    let before = rw c.in-Some.is at c.loop-rest.invariant in
    word_after_empty c.in-Some.text.now c.parted.result.0.now (option_copied c.parted.result.1) c.loop-rest.left (word_at c.args.place c.args.line.now) c.parted.ensures.parts (sym c.is_empty.ensures ∙ c.if-is_empty.true) before

pub returns-then-left-eq0 : goal.returns-then-left-eq0
returns-then-left-eq0 c =
    let before = rw c.in-Some.is at c.loop-rest.invariant in
    word_here c.in-Some.text.now c.parted.result.0.now (option_copied c.parted.result.1) c.loop-rest.left (word_at c.args.place c.args.line.now) c.parted.ensures.parts (sym c.is_empty.ensures ∙ c.if-is_empty.false) c.if-left-eq0.true before

pub loop-rest-preserved : goal.loop-rest-preserved
loop-rest-preserved c =
    let before = rw c.in-Some.is at c.loop-rest.invariant in
    word_behind c.in-Some.text.now c.parted.result.0.now (option_copied c.parted.result.1) c.loop-rest.left (word_at c.args.place c.args.line.now) c.parted.ensures.parts (sym c.is_empty.ensures ∙ c.if-is_empty.false) c.if-left-eq0.false before
