use Rattle.std.proofs.Common.{◌≡◌, ◌++◌, List, ℕ, [], OnOk, subst, refl}
use Rattle.sign_font.specs.Defaults.{under}
use Rattle.sign_tool.specs.Frame.{head_text}
use Rattle.sign_tool.proofs.FrameLemmas
use Rattle.sign_tool.proofs.script.push_display.Goals as goal

pub returns-clause-text : goal.returns-clause-text
returns-clause-text c =
    let old = c.args.controller.now in
    let display = old.state.display in
    let s = c.frame.result.shown in
    let frame = FrameLemmas.frame_of [] (head_text s) (under old.sign display.defaults) old.state.text display.clock c.args.colour s c.frame.result.plane.now
    c.frame.ensures.shown c.frame.ensures.drawn c.frame.ensures.size refl in
    subst (λ (l : List ℕ). OnOk c.push_lent.result (c.push_lent.new.text.begun ≡ c.args.text.now.begun ++ l)) frame c.push_lent.ensures.text
