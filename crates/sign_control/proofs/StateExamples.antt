-- The state at making, and what commands make of it that no worked script gives, computed.
use Rattle.std.proofs.Common.{◌≡◌, ◌<◌, ℕ, List, [], ◌∷◌, map, codes, refl, None}
use Rattle.sign_font.specs.declared.fault.DefaultFault.TheVariants.{Value, FontUnknown}
use Rattle.sign_font.specs.declared.parts.Defaults.{Defaults}
use Rattle.sign_font.specs.Sample.{sample}
use Rattle.multi_meaning.specs.declared.times.Shown.TheVariants as shown
use Rattle.multi_meaning.specs.Meaning.{meanings}
use Rattle.multi_meaning.specs.Verdict.{pages_of}
use Rattle.page_picture.specs.Shown.{IsThere}
use Rattle.message_store.specs.declared.fault.StoreFault.TheVariants as fault
use Rattle.message_store.specs.declared.message.MsgRef.{MsgRef}
use Rattle.message_store.specs.declared.slot.Status.TheVariants.{Modifying}
use Rattle.message_store.specs.Slot.{SlotData, StoreData, empty_slot}
use Rattle.sign_control.specs.declared.code.ActivateError.TheVariants as error
use Rattle.sign_control.specs.declared.code.SourceMode.TheVariants.{Other}
use Rattle.sign_control.specs.declared.command.Command.TheVariants.{SetBeacon, SetPixelService, Clear, SetEnd, SetDefault}
use Rattle.sign_control.specs.declared.command.DefaultField.{DefaultField}
use Rattle.sign_control.specs.declared.command.DefaultField.TheVariants.{Font, Line, Page, PageOn, PageOff, FlashOn, FlashOff, Fore, Back}
use Rattle.sign_control.specs.declared.command.Reply.TheVariants.{Done, Refused, NotSet}
use Rattle.sign_control.specs.State.{StateData, no_errors, started}
use Rattle.sign_control.specs.Step.{step, with_default}

abbrev with_slot : SlotData → StoreData
with_slot slot = record { limits = record { slots = 1; bytes = 4; max_string = 64 }; permanent = []; slots = slot ∷ [] }

abbrev written : SlotData
written = record empty_slot { status = Modifying; multi = codes "A" }

-- the sample sign's, with a slot that is being modified
abbrev state : StateData
state = started sample.defaults (with_slot written)

-- ---- at making

there_is_no_error : no_errors ≡ record { activate = error.None; validate = 2; multi = 2; position = 0 }
there_is_no_error = refl

blank_1_is_shown_without_end : state.display ≡ record {
  source = record { memory = 7; number = 1 };
  priority = 1;
  beacon = 0;
  pixel = 0;
  crc = 0;
  defaults = sample.defaults;
  clock = 0;
  remaining = None;
  requester = 0;
  mode = Other;
}
blank_1_is_shown_without_end = refl

no_text_is_shown : state.text ≡ []
no_text_is_shown = refl

blank_1_follows_a_duration : state.end ≡ record { message = record { memory = 7; number = 1 }; crc = 0 }
blank_1_follows_a_duration = refl

the_second_page_needs_two : (text : List ℕ) → IsThere text (shown.Page 1 5) → 1 < pages_of (meanings text)
the_second_page_needs_two text there = there

-- ---- commands

abbrev first : MsgRef
first = record { memory = 3; number = 1 }

a_beacon_is_set : step sample state (SetBeacon first 1) ≡ record { state = record state { store = with_slot (record written { beacon = 1 }) }; reply = Done }
a_beacon_is_set = refl

a_pixel_service_is_set : step sample state (SetPixelService first 1) ≡ record { state = record state { store = with_slot (record written { pixel = 1 }) }; reply = Done }
a_pixel_service_is_set = refl

a_pixel_service_of_2_is_refused : step sample state (SetPixelService first 2) ≡ record { state = state; reply = Refused fault.BadValue }
a_pixel_service_of_2_is_refused = refl

every_slot_is_emptied : step sample state Clear ≡ record { state = record state { store = with_slot empty_slot }; reply = Done }
every_slot_is_emptied = refl

what_follows_a_duration_is_set : step sample state (SetEnd (3 ∷ 0 ∷ 1 ∷ 0x9A ∷ 0x66 ∷ []))
    ≡ record { state = record state { end = record { message = record { memory = 3; number = 1 }; crc = 0x9A66 } }; reply = Done }
what_follows_a_duration_is_set = refl

-- ---- defaults

abbrev nine : DefaultField → Defaults
nine field = with_default sample.defaults field 9

each_default_is_its_own : map nine (Font ∷ Line ∷ Page ∷ PageOn ∷ PageOff ∷ FlashOn ∷ FlashOff ∷ Fore ∷ Back ∷ [])
    ≡ record sample.defaults { font = 9 } ∷ record sample.defaults { line = 9 } ∷ record sample.defaults { page = 9 }
    ∷ record sample.defaults { page_on = 9 } ∷ record sample.defaults { page_off = 9 }
    ∷ record sample.defaults { flash_on = 9 } ∷ record sample.defaults { flash_off = 9 }
    ∷ record sample.defaults { fore = 9 } ∷ record sample.defaults { back = 9 } ∷ []
each_default_is_its_own = refl

a_colour_is_set : step sample state (SetDefault Fore 9) ≡ record { state = record state { defaults = record sample.defaults { fore = 9 } }; reply = Done }
a_colour_is_set = refl

a_colour_of_10_is_no_value : step sample state (SetDefault Fore 10) ≡ record { state = state; reply = NotSet Value }
a_colour_of_10_is_no_value = refl

a_font_must_be_there : step sample state (SetDefault Font 3) ≡ record { state = state; reply = NotSet FontUnknown }
a_font_must_be_there = refl
