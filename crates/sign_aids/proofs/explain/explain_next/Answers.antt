use Rattle.std.proofs.Common.{refl}
use Rattle.tool_streams.specs.declared.fault.ToolFault.TheVariants as faults
use Rattle.sign_aids.proofs.HeldLemmas
use Rattle.sign_aids.proofs.NextLemmas
use Rattle.sign_aids.proofs.explain.explain_next.Goals as goal

pub returns-then-text_of-gt-MAX_LINE-clause-explains : goal.returns-then-text_of-gt-MAX_LINE-clause-explains
returns-then-text_of-gt-MAX_LINE-clause-explains g c =
    let place = c.args.unread.now.place in
    let held = c.args.unread.now.block in
    let is = rw c.first-octets.ensures at c.in-Some.ensures in
    let long = rw (c.text_of.ensures.text, c.first-octets.ensures) at c.if-text_of-gt-MAX_LINE.true in
    NextLemmas.begins_after c.args.asker.now place _ _ _ _ held _ (faults.LineTooLong place.number) c.end_with.result (HeldLemmas.all_held _ held) c.requires.most (HeldLemmas.long_first place _ held c.in-Some.end is long) c.end_with.ensures

pub returns-in-Ok-clause-explains : goal.returns-in-Ok-clause-explains
returns-in-Ok-clause-explains g c =
    let place = c.args.unread.now.place in
    let held = c.args.unread.now.block in
    let is = rw c.first-octets.ensures at c.in-Some.ensures in
    let short = rw (c.text_of.ensures.text, c.first-octets.ensures) at c.if-text_of-gt-MAX_LINE.false in
    let told = rw c.first-octets.ensures at c.in-Ok.ensures in
    NextLemmas.told_first c.args.asker.now place _ _ _ _ held c.pass.new.self c.args.gathered.now.ready.items _ c.in-Some.end c.in-Ok.told is c.pass.ensures refl refl short told

pub returns-in-Err-clause-explains : goal.returns-in-Err-clause-explains
returns-in-Err-clause-explains g c =
    let place = c.args.unread.now.place in
    let held = c.args.unread.now.block in
    let is = rw c.first-octets.ensures at c.in-Some.ensures in
    let short = rw (c.text_of.ensures.text, c.first-octets.ensures) at c.if-text_of-gt-MAX_LINE.false in
    let told = rw c.first-octets.ensures at c.in-Err.ensures in
    NextLemmas.first_fails c.args.asker.now place _ _ _ held c.args.gathered.now.ready.items c.tell.new.gathered.ready.items c.in-Some.end c.in-Err.fault is c.requires.most short told
