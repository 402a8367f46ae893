use Rattle.std.proofs.Common.{[], ◌∷◌, ◌++◌, ap, map, refl, subst, ◌∙◌}
use Rattle.std.proofs.lemmas.List.{map-append, take_all}
use Rattle.serde_json.specs.View.{view}
use Rattle.message_cures.specs.Cures.{AreFurther}
use Rattle.message_cures.specs.Edits.{IsEdited}
use Rattle.message_cures.specs.declared.proposal.Proposal.{Proposal}
use Rattle.message_report.specs.Fixes.{AreFixesOf, fix_record}
use Rattle.message_report.proofs.RecordLemmas
use Rattle.message_report.proofs.fixes.all_fixes.Goals as goal

pub loop-other-init : goal.loop-other-init
loop-other-init c =
    let (edits, edited, is) = c.in_ok-value.ensures in
    let same = c.deref-2.ensures.value in
    let first = c.args.first.now.items in
    let listed = ap (map view) (c.in_ok-push.ensures.items ∙ ap (λ l. l ++ c.in_ok-value.value ∷ []) c.new-list.ensures.items) in
    let written = is ∙ ap (λ l. fix_record c.args.kind l edits) same in
    (edits, [], subst (IsEdited c.args.message.now edits) same edited, refl, listed ∙ ap (λ d. d ∷ []) written)

pub loop-other-preserved : goal.loop-other-preserved
loop-other-preserved c =
    let others = c.deref-other-items.result.now in
    let next = c.other-item.result in
    let first : Proposal = record { text = c.args.first.now; kind = c.args.kind } in
    let (edits, edited, is) = c.in_ok-value-2.ensures in
    let same = c.deref-in-loop-other.ensures.value in
    let list = c.loop-other.list.items in
    let value = c.in_ok-value-2.value in
    let written = is ∙ ap (λ l. fix_record next.kind l edits) same in
    let grown = ap (map view) c.in_ok-push-2.ensures.items ∙ map-append view list (value ∷ []) ∙ ap (λ d. map view list ++ d ∷ []) written in
    RecordLemmas.next_fix c.args.message.now first others c.loop-other.other-index next edits (map view list) (map view c.push-in-loop-other.new.self.items) c.loop-other-test.true c.other-item.is c.loop-other.invariant
    (subst (IsEdited c.args.message.now edits) same edited) grown

pub returns : goal.returns
returns c =
    let first : Proposal = record { text = c.args.first.now; kind = c.args.kind } in
    let others = c.deref-other-items.result.now in
    let same = c.deref-other-items.ensures.value in
    let records = map view c.loop-other.list.items in
    let all = subst (λ ps. AreFixesOf c.args.message.now (first ∷ ps) records) (take_all c.loop-other.other-index others c.loop-other-test.false) c.loop-other.invariant in
    let further = subst (λ l. AreFurther c.args.sign.now c.args.message.now l c.in_ok-others.others.items) c.deref.ensures.value c.in_ok-others.ensures in
    (c.in_ok-others.others.items, further, subst (λ ps. AreFixesOf c.args.message.now (first ∷ ps) records) same all)
