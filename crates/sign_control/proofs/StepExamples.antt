-- Worked scripts on the sample sign, and the codes, CRCs, durations and clocks in them, computed.
use Rattle.std.proofs.Common.{◌≡◌, ◌-◌, ◌^◌, ℕ, true, false, List, [], ◌∷◌, ◌++◌, replicate, codes, Some, None, Ok, refl}
use Rattle.multi_token.specs.Reading.{reading, read_items, read_item}
use Rattle.multi_tag.specs.TagOf.{tag_of}
use Rattle.sign_font.specs.Sample.{sample}
use Rattle.multi_meaning.specs.Address.{standing, spots}
use Rattle.multi_meaning.specs.Offence.{offence_by}
use Rattle.multi_meaning.specs.Verdict.{verdict, verdict_on}
use Rattle.message_store.specs.declared.fault.StoreFault.TheVariants as fault
use Rattle.message_store.specs.declared.message.MsgRef.{MsgRef}
use Rattle.message_store.specs.Limits.{made}
use Rattle.sign_control.specs.declared.command.Command.{Command}
use Rattle.sign_control.specs.declared.command.Command.TheVariants.{Request, SetMulti, SetOwner, SetPriority, Work, Activate, Tick}
use Rattle.sign_control.specs.declared.command.Reply.{Reply}
use Rattle.sign_control.specs.declared.command.Reply.TheVariants.{Done, Refused, Idle, Worked, Shown, NotShown, Ticked, Ended}
use Rattle.sign_control.specs.Activation.{CandidateData, blank_one, is_crc, remaining_of}
use Rattle.sign_control.specs.Code.{activation_code}
use Rattle.sign_control.specs.Report.{minutes_left, report_of, row_shown}
use Rattle.sign_control.specs.Run.{run}
use Rattle.sign_control.specs.State.{StateData, started}
use Rattle.sign_control.specs.Time.{later}

-- the sample sign with one slot, four octets for texts of at most 64, and a permanent message
abbrev new : StateData
new = started sample.defaults (made (record { slots = 1; bytes = 4; max_string = 64 }) (record { multi = codes "AAAI"; priority = 5; beacon = 0; pixel = 0 } ∷ []))

abbrev message : ℕ → ℕ → MsgRef
message memory number = record { memory = memory; number = number }

abbrev write : ℕ → ℕ → List ℕ → Command
write memory number text = SetMulti (message memory number) (record { ref_ptr = (0, 0); now = text })

abbrev own : List ℕ → Command
own owner = SetOwner (message 3 1) (record { ref_ptr = (0, 0); now = owner })

-- `A` is written in the slot and judged
abbrev written : List Command
written = Request (message 3 1) 6 ∷ write 3 1 (codes "A") ∷ SetPriority (message 3 1) 200 ∷ Request (message 3 1) 7 ∷ Work ∷ []

-- a message is asked for by 127.0.0.1, with a duration, a priority, a memory type, a number and a CRC
abbrev show : (high low priority memory number crc_high crc_low : ℕ) → Command
show high low priority memory number crc_high crc_low = Activate (high ∷ low ∷ priority ∷ memory ∷ 0 ∷ number ∷ crc_high ∷ crc_low ∷ 0x7F ∷ 0 ∷ 0 ∷ 1 ∷ [])

unfoldable replies : List Command → List Reply
unfolding verdict verdict_on offence_by spots standing reading read_items read_item tag_of
replies commands = (run sample new commands).replies

unfoldable after : List Command → StateData
unfolding verdict verdict_on offence_by spots standing reading read_items read_item tag_of
after commands = (run sample new commands).state

-- ---- the store

calls_are_refused : replies (
    Request (message 3 1) 6 ∷ write 3 1 (codes "AAAA") ∷ write 3 1 (codes "AAAAA") ∷ Request (message 3 2) 6 ∷ write 2 1 (codes "A") ∷ write 4 1 (codes "A")
    ∷ SetPriority (message 3 1) 0 ∷ write 3 1 (replicate 65 65) ∷ Request (message 3 1) 7 ∷ write 3 1 (codes "A") ∷ [])
    ≡ Done ∷ Done ∷ Refused fault.NoSpace ∷ Refused fault.Number ∷ Refused fault.ReadOnly ∷ Refused fault.MemoryType
    ∷ Refused fault.BadValue ∷ Refused fault.TooLong ∷ Done ∷ Refused fault.WrongState ∷ []
unfolding replies
calls_are_refused = refl

a_refused_text_leaves_the_old_one : row_shown (after (Request (message 3 1) 6 ∷ write 3 1 (codes "AAAA") ∷ write 3 1 (codes "AAAAA") ∷ [])) (message 3 1)
    ≡ Ok (record { status = 2; multi = codes "AAAA"; owner = []; priority = 1; beacon = 0; pixel = 0; crc = 0x6DB5 })
unfolding after
a_refused_text_leaves_the_old_one = refl

abbrev owned : List Command
owned = Request (message 3 1) 6 ∷ own (codes "AB") ∷ own (codes "ABCDE") ∷ write 3 1 (codes "AAA") ∷ []

an_owner_and_a_text_share_the_budget : replies owned ≡ Done ∷ Done ∷ Refused fault.NoSpace ∷ Refused fault.NoSpace ∷ []
unfolding replies
an_owner_and_a_text_share_the_budget = refl

an_owner_is_no_part_of_the_crc : row_shown (after owned) (message 3 1)
    ≡ Ok (record { status = 2; multi = []; owner = codes "AB"; priority = 1; beacon = 0; pixel = 0; crc = 0x0F47 })
unfolding after
an_owner_is_no_part_of_the_crc = refl

a_message_is_judged_once : replies (written ++ Work ∷ []) ≡ Done ∷ Done ∷ Done ∷ Done ∷ Worked 1 4 2 2 0 ∷ Idle ∷ []
unfolding replies
a_message_is_judged_once = refl

-- ---- activation

abbrev activated : List Command
activated = written ++ show 0xFF 0xFF 0x80 3 1 0x9A 0x67 ∷ show 0xFF 0xFF 0x80 3 1 0x66 0x9A ∷ []

a_message_is_shown_until_a_higher_priority_comes : replies (activated ++ show 0xFF 0xFF 0x80 7 1 0 0 ∷ show 0xFF 0xFF 0xC8 7 1 0x47 0x0F ∷ [])
    ≡ Done ∷ Done ∷ Done ∷ Done ∷ Worked 1 4 2 2 0 ∷ NotShown 7 ∷ Shown ∷ NotShown 3 ∷ Shown ∷ []
unfolding replies
a_message_is_shown_until_a_higher_priority_comes = refl

what_is_shown_is_reported : report_of (after activated) ≡ record {
  used = 1;
  free = 3;
  mode = 8;
  shown_memory = 3;
  shown_number = 1;
  crc = 0x9A66;
  priority = 200;
  remaining = 65535;
  requester = 0x7F000001;
  activate = 2;
  validate = 2;
  multi = 2;
  position = 0;
  clock = 0;
}
unfolding after
what_is_shown_is_reported = refl

abbrev emptied : List Command
emptied = written ++ show 0xFF 0xFF 0x80 3 1 0x9A 0x66 ∷ Request (message 3 1) 8 ∷ []

what_is_shown_outlives_its_message : row_shown (after emptied) (message 5 1)
    ≡ Ok (record { status = 4; multi = codes "A"; owner = []; priority = 200; beacon = 0; pixel = 0; crc = 0x9A66 })
unfolding after
what_is_shown_outlives_its_message = refl

the_currentBuffer_is_shown_again : replies (emptied ++ show 0xFF 0xFF 0x80 3 1 0x9A 0x66 ∷ show 0xFF 0xFF 0xC8 5 1 0x9A 0x66 ∷ [])
    ≡ Done ∷ Done ∷ Done ∷ Done ∷ Worked 1 4 2 2 0 ∷ Shown ∷ Done ∷ NotShown 4 ∷ Shown ∷ []
unfolding replies
the_currentBuffer_is_shown_again = refl

a_text_that_is_too_wide_is_not_shown : replies (show 0xFF 0xFF 0x80 2 1 0xAB 0x77 ∷ []) ≡ NotShown 8 ∷ []
unfolding replies
a_text_that_is_too_wide_is_not_shown = refl

its_error_is_reported : report_of (after (show 0xFF 0xFF 0x80 2 1 0xAB 0x77 ∷ [])) ≡ record {
  used = 0;
  free = 4;
  mode = 1;
  shown_memory = 7;
  shown_number = 1;
  crc = 0;
  priority = 1;
  remaining = 65535;
  requester = 0;
  activate = 8;
  validate = 2;
  multi = 5;
  position = 3;
  clock = 0;
}
unfolding after
its_error_is_reported = refl

-- ---- time

abbrev ended : List Command
ended = written ++ show 0 1 0x80 3 1 0x66 0x9A ∷ Tick 599 ∷ Tick 6 ∷ []

a_duration_ends_with_the_tick_that_uses_it_up : replies (ended ++ show 0 0 0x80 3 1 0x9A 0x66 ∷ Tick 0 ∷ [])
    ≡ Done ∷ Done ∷ Done ∷ Done ∷ Worked 1 4 2 2 0 ∷ Shown ∷ Ticked ∷ Ended ∷ Shown ∷ Ended ∷ []
unfolding replies
a_duration_ends_with_the_tick_that_uses_it_up = refl

the_rest_of_the_tick_goes_to_what_follows : report_of (after ended) ≡ record {
  used = 1;
  free = 3;
  mode = 14;
  shown_memory = 7;
  shown_number = 1;
  crc = 0;
  priority = 1;
  remaining = 65535;
  requester = 0x7F000001;
  activate = 2;
  validate = 2;
  multi = 2;
  position = 0;
  clock = 5;
}
unfolding after
the_rest_of_the_tick_goes_to_what_follows = refl

-- ---- codes and numbers

the_high_octet_comes_first : activation_code (0xFF ∷ 0xFE ∷ 0x80 ∷ 3 ∷ 0 ∷ 1 ∷ 0x9A ∷ 0x66 ∷ 0x7F ∷ 0 ∷ 0 ∷ 1 ∷ [])
    ≡ record { duration = 65534; priority = 128; id = record { message = record { memory = 3; number = 1 }; crc = 0x9A66 }; requester = 0x7F000001 }
the_high_octet_comes_first = refl

-- changeable 1 with an empty text
empty : CandidateData
empty = record { source = record { memory = 3; number = 1 }; text = Some []; priority = 1; beacon = 0; pixel = 0; crc = 0x0F47; status = 4; defaults = sample.defaults }

a_crc_is_taken_in_either_order : is_crc empty 0x470F ≡ true
unfolding empty
a_crc_is_taken_in_either_order = refl

an_empty_text_is_no_blank_message : is_crc empty 0 ≡ false
unfolding empty
an_empty_text_is_no_blank_message = refl

a_blank_message_takes_the_crc_of_an_empty_text : is_crc (blank_one sample.defaults) 0x470F ≡ true
a_blank_message_takes_the_crc_of_an_empty_text = refl

a_minute_has_600_tenths : remaining_of 65534 ≡ Some 39320400
a_minute_has_600_tenths = refl

a_duration_of_65535_has_no_end : remaining_of 65535 ≡ None
a_duration_of_65535_has_no_end = refl

minutes_are_rounded_up : minutes_left (Some 601) ≡ 2
minutes_are_rounded_up = refl

no_time_is_no_minute : minutes_left (Some 0) ≡ 0
no_time_is_no_minute = refl

a_clock_stays_at_its_largest_number : later (2 ^ 64 - 2) 14 ≡ 2 ^ 64 - 1
a_clock_stays_at_its_largest_number = refl
