use Rattle.std.proofs.Common.{◌≡◌, ◌<◌, ◌∙◌, ap, sym, arith}
use Rattle.message_store.specs.declared.limits.StoreLimits.{StoreLimits}
use Rattle.message_store.specs.View.{seen}
use Rattle.saved_octets.specs.Slots.{slot_in}
use Rattle.saved_octets.proofs.ReadLemmas.{filled_is, filling_next, filling_stops}
use Rattle.saved_octets.proofs.table.fill.Goals as goal

pub unreachable-requires : goal.unreachable-requires
unreachable-requires c =
    let old = c.args.store.now in
    let limits : c.limits-limits.result ≡ old.limits = c.limits-limits.ensures.limits ∙ c.clear.ensures.limits in
    let below : c.loop-index.index < old.limits.slots = omega (arith, c.loop-index-test.true, c.count-index-end.ensures.count, c.count-index-end.ensures.kept.count, ap (λ (l : StoreLimits). l.slots) c.clear.ensures.limits) in
    filling_stops old c.loop-index.store c.args.octets.now c.loop-index.rest.now c.loop-index.index c.loop-index.left c.in_default.field-0 c.requires.read.0 c.requires.read.1
    below c.loop-index.invariant (sym (ap (λ (l : StoreLimits). slot_in l c.loop-index.left c.loop-index.rest.now) limits) ∙ c.in_default.ensures.slot) c.requires.read.2

pub loop-index-preserved : goal.loop-index-preserved
loop-index-preserved c =
    let old = c.args.store.now in
    let limits : c.limits-limits.result ≡ old.limits = c.limits-limits.ensures.limits ∙ c.clear.ensures.limits in
    let below : c.loop-index.index < old.limits.slots = omega (arith, c.loop-index-test.true, c.count-index-end.ensures.count, c.count-index-end.ensures.kept.count, ap (λ (l : StoreLimits). l.slots) c.clear.ensures.limits) in
    filling_next old c.loop-index.store c.replace.new.self c.args.octets.now c.loop-index.rest.now c.in-Ok.after.now c.loop-index.index c.loop-index.left (seen c.in-Ok.slot)
    below c.loop-index.invariant (sym (ap (λ (l : StoreLimits). slot_in l c.loop-index.left c.loop-index.rest.now) limits) ∙ c.in-Ok.ensures.slot) c.in-Ok.ensures.room c.replace.ensures.put

pub returns : goal.returns
returns c =
    let old = c.args.store.now in
    record {
      filled = λ slots rest read. filled_is old c.loop-index.store c.args.octets.now c.loop-index.rest.now c.loop-index.index c.loop-index.left slots rest
          (omega (arith, c.loop-index-test.false, c.count-index-end.ensures.count, c.count-index-end.ensures.kept.count, ap (λ (l : StoreLimits). l.slots) c.clear.ensures.limits))
          c.loop-index.invariant read;
    }
