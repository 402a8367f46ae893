use Rattle.std.proofs.Common.{◌++◌, [], ◌∷◌, ap, sym, ◌∙◌, append_assoc}
use Rattle.std.proofs.lemmas.List.Elements.{All-push}
use Rattle.message_words.specs.Warned.{IsSeen}
use Rattle.message_words.proofs.warnings.add_seen.Goals as goal

pub loop-warning-preserved-in-Continue-1 : goal.loop-warning-preserved-in-Continue-1
loop-warning-preserved-in-Continue-1 c =
    let (more, all, is) = c.loop-warning.invariant in
    let next = c.in-Some.warning in
    (more ++ next ∷ [], All-push (IsSeen c.args.told) more next all (sym c.is_seen.ensures ∙ c.if-is_seen.true), c.in_ok-push.ensures.items ∙ ap (λ l. l ++ next ∷ []) is ∙ append_assoc c.args.found.now.items more (next ∷ []))
