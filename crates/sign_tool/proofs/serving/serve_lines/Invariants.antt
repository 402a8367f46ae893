use Rattle.std.proofs.Common.{◌≡◌, ℕ, List, [], ◌++◌}
use Rattle.sign_tool.proofs.ServingLemmas.{Serving}
use Rattle.sign_tool.proofs.TalkLemmas.{Talking}
use Rattle.sign_tool.proofs.serving.serve_lines.Given as goal

abbrev pub invariant-loop-round : goal.invariant-loop-round
invariant-loop-round g l =
    (taken : List ℕ) × (lost : List ℕ) × (gone : List ℕ) × (lines : List (List ℕ))
    × Serving l.fn.server l.server (g.T.Talk.remaining l.fn.talk) (g.T.Talk.remaining l.talk) (g.T.Talk.contents l.fn.talk) (g.T.Talk.contents l.talk)
    l.block l.ready.whole l.seen l.is_cut taken lost gone lines l.round
    × (l.ready.begun ≡ [])
    × Talking l.fn.server (g.T.Talk.did l.fn.talk l.talk) (taken ++ (lost ++ l.block)) gone
    × ((g.T.Talk.reads_by l.talk ≡ g.T.Talk.reads_by l.fn.talk) × (g.T.Talk.writes_by l.talk ≡ g.T.Talk.writes_by l.fn.talk))
