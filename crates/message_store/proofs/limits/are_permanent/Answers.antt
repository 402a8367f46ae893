use Rattle.std.proofs.Common.{rules, tests, ◌≡◌, ◌∙◌, sym}
use Rattle.std.specs.List.{list_all}
use Rattle.std.proofs.lemmas.Iterator.{YieldsList-from_slice}
use Rattle.std.proofs.lemmas.Iterator.Search.{all_from_yields_List}
use Rattle.std.proofs.lemmas.List.Folds.{list_all-map}
use Rattle.message_store.specs.Limits.{is_permanent}
use Rattle.message_store.specs.Slot.{permanent_of}
use Rattle.message_store.specs.declared.message.Permanent.{Permanent}
use Rattle.message_store.proofs.limits.are_permanent.Goals as goal

pub returns : goal.returns
returns c =
    let each : c.all.result ≡ list_all (λ (x : Permanent). is_permanent c.args.limits (permanent_of x)) c.args.permanent.now =
    all_from_yields_List (λ (x : Permanent). is_permanent c.args.limits (permanent_of x)) _ _ c.all.result c.all.ensures.ran (YieldsList-from_slice c.args.permanent.now cc) (λ x b q k. search (rules, tests)) in
    each ∙ sym (list_all-map (is_permanent c.args.limits) permanent_of c.args.permanent.now)
