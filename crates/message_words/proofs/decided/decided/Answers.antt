use Rattle.std.proofs.Common.{◌++◌, ap, ◌∙◌, map}
use Rattle.std.specs.List.{flat_map}
use Rattle.message_words.specs.Codes.{decided_codes}
use Rattle.message_words.specs.PageTimes.{times_data}
use Rattle.message_words.specs.Said.{said_items}
use Rattle.message_words.specs.Warned.{decided_notes, notes_of, places_in, told_notes, warned_places}
use Rattle.message_words.proofs.decided.decided.Goals as goal

pub returns : goal.returns
unfolding decided_notes warned_places
returns c =
    let sign = c.args.sign.now in
    let most = c.args.max_string in
    let octets = c.args.message.now in
    let told = c.args.told in
    let said = c.deref.ensures.value ∙ c.in_ok-said.ensures in
    let times = ap (map times_data) c.deref-2.ensures.value ∙ c.in_ok-times.ensures in
    c.in_ok-add_all.ensures ∙ ap (λ w. notes_of w ++ flat_map (λ code. told_notes told code (places_in sign most octets c.deref.result.now (map times_data c.deref-2.result.now) code)) decided_codes) c.new-found.ensures.items
    ∙ ap (λ s. flat_map (λ code. told_notes told code (places_in sign most octets s (map times_data c.deref-2.result.now) code)) decided_codes) said
    ∙ ap (λ t. flat_map (λ code. told_notes told code (places_in sign most octets (said_items octets) t code)) decided_codes) times
