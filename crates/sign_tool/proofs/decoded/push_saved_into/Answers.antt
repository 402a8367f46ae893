use Rattle.std.proofs.Common.{◌≡◌, ◌++◌, OnOk, subst, List, ℕ}
use Rattle.sign_control.specs.Saved.{saved_octets, save_size}
use Rattle.sign_tool.specs.ServedTexts.{octets_reply}
use Rattle.sign_tool.proofs.SavedLemmas.{saved_front}
use Rattle.sign_tool.proofs.decoded.push_saved_into.Goals as goal

pub returns-clause-text : goal.returns-clause-text
returns-clause-text c =
    let state = c.args.controller.now.state in
    let front = saved_front (save_size state.store.limits) c.in-Some.count (saved_octets state) _ _ c.in-Some.ensures.saved in
    subst (λ (l : List ℕ). OnOk c.push_saved_octets.result (c.push_saved_octets.new.text.begun ≡ c.args.text.now.begun ++ octets_reply l)) front c.push_saved_octets.ensures.text
