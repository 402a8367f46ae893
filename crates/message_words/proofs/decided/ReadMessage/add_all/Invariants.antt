use Rattle.std.proofs.Common.{◌≡◌, ◌++◌, map, take}
use Rattle.std.specs.List.{flat_map}
use Rattle.message_words.specs.PageTimes.{times_data}
use Rattle.message_words.specs.Warned.{notes_of, places_in, told_notes}
use Rattle.message_words.proofs.decided.ReadMessage.add_all.Given as goal

abbrev pub invariant-loop-code : goal.invariant-loop-code
invariant-loop-code l =
    notes_of l.found.items ≡ notes_of l.fn.found.items ++ flat_map (λ code. told_notes l.told code (places_in l.self.sign.now l.self.max_string l.self.octets.now l.self.said.now (map times_data l.self.times.now) code)) (take l.code-index l.codes)
