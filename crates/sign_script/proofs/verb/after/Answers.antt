use Rattle.std.proofs.Common.{◌≡◌, ◌++◌, List, ℕ, length, take, drop, refl, sym, ap, ◌∙◌, arith}
use Rattle.std.proofs.lemmas.List.{take-append-drop, take_all, take_more_same, take_rest}
use Rattle.sign_script.proofs.verb.after.Goals as goal

pub loop-index-init : goal.loop-index-init
loop-index-init c = refl

pub loop-index-preserved : goal.loop-index-preserved
loop-index-preserved c =
    take_more_same c.args.line.now c.args.word.now c.loop-index.index 0 (omega arith) (omega arith) c.loop-index.invariant c.if-line-index.false

pub returns-clause-some : goal.returns-clause-some
returns-clause-some c =
    let line = c.args.line.now in
    let word = c.args.word.now in
    let all : c.loop-index.index ≡ length word = omega arith in
    let same : take (length word) line ≡ word =
    ap (λ n. take n line) (sym all) ∙ c.loop-index.invariant ∙ take_all c.loop-index.index word (omega arith) in
    rw (take_rest line (length word)) (sym (take-append-drop (length word) line) ∙ ap (λ (l : List ℕ). l ++ drop (length word) line) same)
