-- Worked lines of scripts, computed.
use Rattle.std.proofs.Common.{◌≡◌, [], ◌∷◌, None, Some, refl, codes}
use Rattle.hex.proofs.OnLiterals.{hex_on_literals}
use Rattle.message_store.specs.declared.message.MsgRef.{MsgRef}
use Rattle.sign_control.specs.declared.command.Command.TheVariants as command
use Rattle.sign_control.specs.declared.command.DefaultField.TheVariants as field
use Rattle.sign_script.specs.Asks.{ask_of, ask_of_line, lent}
use Rattle.sign_script.specs.Fields.{parted}
use Rattle.sign_script.specs.Verbs.{field_of, verb_of}
use Rattle.sign_script.specs.declared.ask.Ask.TheVariants as ask

abbrev first : MsgRef
first = record { memory = 3; number = 1 }

a_request_is_read : ask_of (codes "request 3 1 6") ≡ Some (ask.Command (command.Request first 6))
unfolding ask_of_line parted verb_of
a_request_is_read = refl

a_text_keeps_its_spaces : ask_of (codes "multi 3 1  A B ") ≡ Some (ask.Command (command.SetMulti first (lent (codes " A B "))))
unfolding ask_of_line parted verb_of
a_text_keeps_its_spaces = refl

an_empty_text_may_go_without_its_space : ask_of (codes "multi 3 1") ≡ Some (ask.Command (command.SetMulti first (lent [])))
unfolding ask_of_line parted verb_of
an_empty_text_may_go_without_its_space = refl

octets_are_written_in_either_case : ask_of (codes "multix 3 1 4A4b") ≡ Some (ask.Command (command.SetMulti first (lent (74 ∷ 75 ∷ []))))
unfolding ask_of_line hex_on_literals parted verb_of
octets_are_written_in_either_case = refl

an_owner_may_be_empty : ask_of (codes "owner 3 1") ≡ Some (ask.Command (command.SetOwner first (lent [])))
unfolding ask_of_line hex_on_literals parted verb_of
an_owner_may_be_empty = refl

five_octets_are_read : ask_of (codes "end 020001ab77") ≡ Some (ask.Command (command.SetEnd (2 ∷ 0 ∷ 1 ∷ 171 ∷ 119 ∷ [])))
unfolding ask_of_line hex_on_literals parted verb_of
five_octets_are_read = refl

ten_digits_are_read : ask_of (codes "tick 0000000001") ≡ Some (ask.Command (command.Tick 1))
unfolding ask_of_line parted verb_of
ten_digits_are_read = refl

a_default_is_read : ask_of (codes "default page_on 30") ≡ Some (ask.Command (command.SetDefault field.PageOn 30))
unfolding ask_of_line field_of parted verb_of
a_default_is_read = refl

a_comment_asks_for_nothing : ask_of (codes "# work") ≡ Some ask.Nothing
a_comment_asks_for_nothing = refl

eleven_digits_are_bad : ask_of (codes "tick 00000000001") ≡ None
unfolding ask_of_line parted verb_of
eleven_digits_are_bad = refl

a_colour_of_256_is_bad : ask_of (codes "frame 256") ≡ None
unfolding ask_of_line parted verb_of
a_colour_of_256_is_bad = refl

two_spaces_are_bad : ask_of (codes "request 3  1 6") ≡ None
unfolding ask_of_line parted verb_of
two_spaces_are_bad = refl

a_space_at_the_end_is_bad : ask_of (codes "work ") ≡ None
unfolding ask_of_line parted verb_of
a_space_at_the_end_is_bad = refl

capitals_are_bad : ask_of (codes "Work") ≡ None
unfolding ask_of_line parted verb_of
capitals_are_bad = refl
