-- Which text a command judges, and the limits on its steps, computed.
use Rattle.std.proofs.Common.{◌≡◌, ℕ, Bool, true, false, List, [], ◌∷◌, codes, refl, Option, Some, None, Ok}
use Rattle.sign_font.specs.Sample.{sample}
use Rattle.sign_font.specs.Sign.{SignData}
use Rattle.message_store.specs.declared.slot.Status.TheVariants.{Validating}
use Rattle.message_store.specs.Slot.{SlotData, empty_slot}
use Rattle.sign_control.specs.declared.command.Command.TheVariants.{Clear, Work, Activate, SetEnd, Tick}
use Rattle.sign_control.specs.Activation.{blank_one}
use Rattle.sign_control.specs.Counts.{JudgedText, activated_text, slot_text, text_judged, text_steps, ticked_text}
use Rattle.sign_control.specs.Run.{run_limit, run_steps, text_limit}
use Rattle.sign_control.specs.State.{StateData, started}

-- `A` waits to be judged
abbrev waiting : SlotData
waiting = record empty_slot { status = Validating; multi = codes "A" }

-- the sample sign's, with that message
abbrev state : StateData
state = started sample.defaults (record { limits = record { slots = 1; bytes = 4; max_string = 64 }; permanent = []; slots = waiting ∷ [] })

abbrev judged : List ℕ → Option JudgedText
judged text = Some (record { sign = sample; text = text })

-- ---- by the sign's beacons and pixel service

abbrev sign_with : Bool → Bool → SignData
sign_with beacons pixel_service = record sample { beacons = beacons; pixel_service = pixel_service }

abbrev asking : ℕ → ℕ → SlotData
asking beacon pixel = record waiting { beacon = beacon; pixel = pixel }

without_beacons_no_text_is_judged : slot_text (sign_with false true) (asking 1 1) ≡ None
without_beacons_no_text_is_judged = refl

without_a_pixel_service_no_text_is_judged : slot_text (sign_with true false) (asking 1 1) ≡ None
without_a_pixel_service_no_text_is_judged = refl

with_both_a_text_is_judged : slot_text (sign_with true true) (asking 1 1) ≡ Some (record { sign = sign_with true true; text = codes "A" })
with_both_a_text_is_judged = refl

asking_for_neither_a_text_is_judged : slot_text sample (asking 0 0) ≡ judged (codes "A")
asking_for_neither_a_text_is_judged = refl

-- ---- by priority and time

-- blank 1 is asked for while a message of priority 5 is shown
abbrev by_priority : ℕ → Option JudgedText
by_priority priority = activated_text sample (record state { display = record (state.display) { priority = 5 } })
    (record { duration = 1; priority = priority; id = state.end; requester = 0 }) (Ok (blank_one sample.defaults))

a_lower_priority_judges_no_text : by_priority 4 ≡ None
a_lower_priority_judges_no_text = refl

an_equal_priority_judges_the_text : by_priority 5 ≡ judged []
an_equal_priority_judges_the_text = refl

a_higher_priority_judges_the_text : by_priority 6 ≡ judged []
a_higher_priority_judges_the_text = refl

-- ten tenths pass
abbrev by_left : Option ℕ → Option JudgedText
by_left left = ticked_text sample state 10 left

without_end_no_text_follows : by_left None ≡ None
without_end_no_text_follows = refl

within_a_duration_no_text_follows : by_left (Some 11) ≡ None
within_a_duration_no_text_follows = refl

with_the_last_tenth_the_text_follows : by_left (Some 10) ≡ judged []
with_the_last_tenth_the_text_follows = refl

after_the_last_tenth_the_text_follows : by_left (Some 9) ≡ judged []
after_the_last_tenth_the_text_follows = refl

-- ---- by command

clear_judges_no_text : text_judged sample state Clear ≡ None
clear_judges_no_text = refl

work_judges_the_text_that_waits : text_judged sample state Work ≡ judged (codes "A")
work_judges_the_text_that_waits = refl

-- for a minute, by priority 1
an_activation_judges_its_text : text_judged sample state (Activate (0 ∷ 1 ∷ 1 ∷ 7 ∷ 0 ∷ 1 ∷ 0x0F ∷ 0x47 ∷ 0 ∷ 0 ∷ 0 ∷ 0 ∷ [])) ≡ judged []
an_activation_judges_its_text = refl

a_code_is_set_unjudged : text_judged sample state (SetEnd (7 ∷ 0 ∷ 1 ∷ 0 ∷ 0 ∷ [])) ≡ None
a_code_is_set_unjudged = refl

a_tick_judges_what_follows : text_judged sample (record state { display = record (state.display) { remaining = Some 600 } }) (Tick 600) ≡ judged []
a_tick_judges_what_follows = refl

-- ---- steps

without_a_text_there_are_no_steps : text_steps None ≡ 0
without_a_text_there_are_no_steps = refl

without_commands_there_are_no_steps : run_steps sample state [] ≡ 0
without_commands_there_are_no_steps = refl

without_a_text_the_limit_is_0 : text_limit None ≡ 0
without_a_text_the_limit_is_0 = refl

a_text_of_four_octets_has_a_limit_of_37 : text_limit (judged (codes "AAAI")) ≡ 37
a_text_of_four_octets_has_a_limit_of_37 = refl

without_commands_the_limit_is_0 : run_limit sample state [] ≡ 0
without_commands_the_limit_is_0 = refl

limits_are_added : run_limit sample state (SetEnd (7 ∷ 0 ∷ 1 ∷ 0 ∷ 0 ∷ []) ∷ Work ∷ []) ≡ 10
limits_are_added = refl
