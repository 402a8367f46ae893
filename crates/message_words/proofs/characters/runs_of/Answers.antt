use Rattle.std.proofs.Common.{◌≡◌, ◌+◌, ◌++◌, not, sym, ap, ◌∙◌, arith}
use Rattle.sign_font.specs.Sign.{cell_in}
use Rattle.message_words.specs.Characters.{characters_below, font_characters, has_character, open_run, run_numbers}
use Rattle.message_words.proofs.CharacterLemmas
use Rattle.message_words.proofs.characters.runs_of.Goals.{then-is_none+in_ok-end_run, else-is_none+then-first-eq0, else-is_none+else-first-eq0}
use Rattle.message_words.proofs.characters.runs_of.Goals as goal

pub loop-last-preserved : goal.loop-last-preserved
loop-last-preserved c =
    let h = c.loop-last.invariant in
    let sign = c.args.sign.now in
    let font = c.args.font in
    let last = c.loop-last.last in
    let p = has_character sign font in
    let old = run_numbers c.loop-last.runs.items in
    let all = characters_below sign font (last + 1) in
    let there : p (last + 1) ≡ not c.is_none.result = CharacterLemmas.there_of _ (cell_in sign font (last + 1)) c.cell_width.result (not c.is_none.result) c.cell_width.ensures.width c.is_none.ensures in
    let more = sym (CharacterLemmas.passed_more p (last + 1) (omega arith)) in
    let few = h.few in
    elim c.if-is_none.branch [
      | then-is_none+in_ok-end_run w ↦ rw (w.runs-is, w.first-is) (record {
        so_far = CharacterLemmas.lacks p c.loop-last.first last old all h.so_far (run_numbers w.end_run.new.runs.items) w.in_ok-end_run.ensures (there ∙ ap not w.if-is_none.true) ∙ more;
        few = omega arith;
      })
      | else-is_none+then-first-eq0 w ↦ rw (w.runs-is, w.first-is) (record {
        so_far = CharacterLemmas.begins p c.loop-last.first last old all h.so_far (omega (arith, w.if-first-eq0.true)) (there ∙ ap not w.if-is_none.false) ∙ more;
        few = omega arith;
      })
      | else-is_none+else-first-eq0 w ↦ rw (w.runs-is, w.first-is) (record {
        so_far = CharacterLemmas.goes_on p c.loop-last.first last old all h.so_far (omega (arith, w.if-first-eq0.false)) few (there ∙ ap not w.if-is_none.false) ∙ more;
        few = omega (arith, few);
      })
    ]

pub returns : goal.returns
unfolding font_characters
returns c =
    let h = c.loop-last.invariant in
    let end : c.loop-last.last ≡ 65535 = omega (arith, c.loop-last-test.false, c.loop-last.auto.last-end) in
    c.in_ok-end_run-2.ensures ∙ ap (λ n. run_numbers c.loop-last.runs.items ++ open_run c.loop-last.first (n + 1)) (sym end) ∙ h.so_far ∙ ap (λ n. characters_below c.args.sign.now c.args.font (n + 1)) end
