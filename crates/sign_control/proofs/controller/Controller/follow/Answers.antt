use Rattle.std.proofs.Common.{◌∙◌}
use Rattle.message_store.specs.Step.{beacon_set, multi_set, owner_set, pixel_service_set, priority_set, requested}
use Rattle.sign_control.specs.State.{StateData}
use Rattle.sign_control.proofs.StepLemmas.{stored}
use Rattle.sign_control.proofs.controller.Controller.follow.Goals as goal

pub returns-in-Request-clause-state : goal.returns-in-Request-clause-state
returns-in-Request-clause-state c =
    let s = c.self.inside in
    let state : StateData = record { store = s.store; defaults = s.defaults; display = s.display; text = s.text.items; registers = s.registers; end = s.end } in
    rw (← c.self.view_is, c.in-Request.is) (stored state (requested s.store c.in-Request.message c.in-Request.code) c.request.new.self c.request.result c.request.ensures.step).0

pub returns-in-Request-clause-reply : goal.returns-in-Request-clause-reply
returns-in-Request-clause-reply c =
    let s = c.self.inside in
    let state : StateData = record { store = s.store; defaults = s.defaults; display = s.display; text = s.text.items; registers = s.registers; end = s.end } in
    rw (← c.self.view_is, c.in-Request.is) (c.reply_of.ensures ∙ (stored state (requested s.store c.in-Request.message c.in-Request.code) c.request.new.self c.request.result c.request.ensures.step).1)

pub returns-in-SetMulti-clause-state : goal.returns-in-SetMulti-clause-state
returns-in-SetMulti-clause-state c =
    let s = c.self-in-SetMulti.inside in
    let state : StateData = record { store = s.store; defaults = s.defaults; display = s.display; text = s.text.items; registers = s.registers; end = s.end } in
    rw (← c.self-in-SetMulti.view_is, c.in-SetMulti.is) (stored state (multi_set s.store c.in-SetMulti.message c.in-SetMulti.text.now) c.set_multi.new.self c.set_multi.result c.set_multi.ensures.step).0

pub returns-in-SetMulti-clause-reply : goal.returns-in-SetMulti-clause-reply
returns-in-SetMulti-clause-reply c =
    let s = c.self-in-SetMulti.inside in
    let state : StateData = record { store = s.store; defaults = s.defaults; display = s.display; text = s.text.items; registers = s.registers; end = s.end } in
    rw (← c.self-in-SetMulti.view_is, c.in-SetMulti.is) (c.reply_of-in-SetMulti.ensures ∙ (stored state (multi_set s.store c.in-SetMulti.message c.in-SetMulti.text.now) c.set_multi.new.self c.set_multi.result c.set_multi.ensures.step).1)

pub returns-in-SetOwner-clause-state : goal.returns-in-SetOwner-clause-state
returns-in-SetOwner-clause-state c =
    let s = c.self-in-SetOwner.inside in
    let state : StateData = record { store = s.store; defaults = s.defaults; display = s.display; text = s.text.items; registers = s.registers; end = s.end } in
    rw (← c.self-in-SetOwner.view_is, c.in-SetOwner.is) (stored state (owner_set s.store c.in-SetOwner.message c.in-SetOwner.owner.now) c.set_owner.new.self c.set_owner.result c.set_owner.ensures.step).0

pub returns-in-SetOwner-clause-reply : goal.returns-in-SetOwner-clause-reply
returns-in-SetOwner-clause-reply c =
    let s = c.self-in-SetOwner.inside in
    let state : StateData = record { store = s.store; defaults = s.defaults; display = s.display; text = s.text.items; registers = s.registers; end = s.end } in
    rw (← c.self-in-SetOwner.view_is, c.in-SetOwner.is) (c.reply_of-in-SetOwner.ensures ∙ (stored state (owner_set s.store c.in-SetOwner.message c.in-SetOwner.owner.now) c.set_owner.new.self c.set_owner.result c.set_owner.ensures.step).1)

pub returns-in-SetPriority-clause-state : goal.returns-in-SetPriority-clause-state
returns-in-SetPriority-clause-state c =
    let s = c.self-in-SetPriority.inside in
    let state : StateData = record { store = s.store; defaults = s.defaults; display = s.display; text = s.text.items; registers = s.registers; end = s.end } in
    rw (← c.self-in-SetPriority.view_is, c.in-SetPriority.is) (stored state (priority_set s.store c.in-SetPriority.message c.in-SetPriority.priority) c.set_priority.new.self c.set_priority.result c.set_priority.ensures.step).0

pub returns-in-SetPriority-clause-reply : goal.returns-in-SetPriority-clause-reply
returns-in-SetPriority-clause-reply c =
    let s = c.self-in-SetPriority.inside in
    let state : StateData = record { store = s.store; defaults = s.defaults; display = s.display; text = s.text.items; registers = s.registers; end = s.end } in
    rw (← c.self-in-SetPriority.view_is, c.in-SetPriority.is) (c.reply_of-in-SetPriority.ensures ∙ (stored state (priority_set s.store c.in-SetPriority.message c.in-SetPriority.priority) c.set_priority.new.self c.set_priority.result c.set_priority.ensures.step).1)

pub returns-in-SetBeacon-clause-state : goal.returns-in-SetBeacon-clause-state
returns-in-SetBeacon-clause-state c =
    let s = c.self-in-SetBeacon.inside in
    let state : StateData = record { store = s.store; defaults = s.defaults; display = s.display; text = s.text.items; registers = s.registers; end = s.end } in
    rw (← c.self-in-SetBeacon.view_is, c.in-SetBeacon.is) (stored state (beacon_set s.store c.in-SetBeacon.message c.in-SetBeacon.beacon) c.set_beacon.new.self c.set_beacon.result c.set_beacon.ensures.step).0

pub returns-in-SetBeacon-clause-reply : goal.returns-in-SetBeacon-clause-reply
returns-in-SetBeacon-clause-reply c =
    let s = c.self-in-SetBeacon.inside in
    let state : StateData = record { store = s.store; defaults = s.defaults; display = s.display; text = s.text.items; registers = s.registers; end = s.end } in
    rw (← c.self-in-SetBeacon.view_is, c.in-SetBeacon.is) (c.reply_of-in-SetBeacon.ensures ∙ (stored state (beacon_set s.store c.in-SetBeacon.message c.in-SetBeacon.beacon) c.set_beacon.new.self c.set_beacon.result c.set_beacon.ensures.step).1)

pub returns-in-SetPixelService-clause-state : goal.returns-in-SetPixelService-clause-state
returns-in-SetPixelService-clause-state c =
    let s = c.self-in-SetPixelService.inside in
    let state : StateData = record { store = s.store; defaults = s.defaults; display = s.display; text = s.text.items; registers = s.registers; end = s.end } in
    rw (← c.self-in-SetPixelService.view_is, c.in-SetPixelService.is) (stored state (pixel_service_set s.store c.in-SetPixelService.message c.in-SetPixelService.pixel) c.set_pixel_service.new.self c.set_pixel_service.result c.set_pixel_service.ensures.step).0

pub returns-in-SetPixelService-clause-reply : goal.returns-in-SetPixelService-clause-reply
returns-in-SetPixelService-clause-reply c =
    let s = c.self-in-SetPixelService.inside in
    let state : StateData = record { store = s.store; defaults = s.defaults; display = s.display; text = s.text.items; registers = s.registers; end = s.end } in
    rw (← c.self-in-SetPixelService.view_is, c.in-SetPixelService.is) (c.reply_of-in-SetPixelService.ensures ∙ (stored state (pixel_service_set s.store c.in-SetPixelService.message c.in-SetPixelService.pixel) c.set_pixel_service.new.self c.set_pixel_service.result c.set_pixel_service.ensures.step).1)
