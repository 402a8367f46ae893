-- What a line of a script asks for.
use Rattle.std.specs.Prelude.{ℕ, ◌==◌, List, [], ◌∷◌, if◌then◌else◌, Option, Some, IsSomeAnd}
use Rattle.std.specs.Borrow.{Bor}
use Rattle.std.specs.Option.{option_map}
use Rattle.sign_control.specs.declared.command.Command.{Command}
use Rattle.sign_control.specs.declared.command.Command.TheVariants as command
use Rattle.sign_script.specs.declared.ask.Ask.{Ask}
use Rattle.sign_script.specs.declared.ask.Ask.TheVariants as ask
use Rattle.sign_script.specs.declared.verb.Verb.{Verb}
use Rattle.sign_script.specs.declared.verb.Verb.TheVariants as verb
use Rattle.sign_script.specs.Fields.{◌>>=◌, at_end, last_message, last_number, last_octets, message_octets, message_value, next_field, next_message, parted, text_of}
use Rattle.sign_script.specs.Verbs.{field_of, verb_of}

-- octets, wherever they stand in memory (own)
abbrev pub lent : List ℕ → Bor (List ℕ)
lent octets = record { ref_ptr = (0, 0); now = octets }

-- a command by its octets alone, wherever they stand in memory (own)
abbrev pub bare_command : Command → Command
bare_command (command.SetMulti message text) = command.SetMulti message (lent text.now)
bare_command (command.SetOwner message owner) = command.SetOwner message (lent owner.now)
bare_command c = c

-- what is asked for, by its octets alone (own)
abbrev pub bare : Ask → Ask
bare (ask.Command c) = ask.Command (bare_command c)
bare a = a

-- what is asked for by a verb and what is left of its line (own)
abbrev pub ask_with : Verb → Option (List ℕ) → Option Ask
ask_with verb.Request rest = option_map (λ v. ask.Command (command.Request v.0 v.1)) (message_value rest)
ask_with verb.Multi rest = option_map (λ m. ask.Command (command.SetMulti m.0 (lent (text_of m.1)))) (next_message rest)
ask_with verb.MultiHex rest = option_map (λ m. ask.Command (command.SetMulti m.0 (lent m.1))) (message_octets rest)
ask_with verb.Owner rest = option_map (λ m. ask.Command (command.SetOwner m.0 (lent m.1))) (message_octets rest)
ask_with verb.Priority rest = option_map (λ v. ask.Command (command.SetPriority v.0 v.1)) (message_value rest)
ask_with verb.Beacon rest = option_map (λ v. ask.Command (command.SetBeacon v.0 v.1)) (message_value rest)
ask_with verb.Pixel rest = option_map (λ v. ask.Command (command.SetPixelService v.0 v.1)) (message_value rest)
ask_with verb.Clear rest = at_end (ask.Command command.Clear) rest
ask_with verb.Work rest = at_end (ask.Command command.Work) rest
ask_with verb.Activate rest = option_map (λ octets. ask.Command (command.Activate octets)) (last_octets 12 rest)
ask_with verb.End rest = option_map (λ octets. ask.Command (command.SetEnd octets)) (last_octets 5 rest)
ask_with verb.Tick rest = option_map (λ tenths. ask.Command (command.Tick tenths)) (last_number 4294967295 rest)
ask_with verb.Frame rest = option_map (λ colour. ask.Frame colour) (last_number 255 rest)
ask_with verb.Row rest = option_map (λ message. ask.Row message) (last_message rest)
ask_with verb.Report rest = at_end ask.Report rest
ask_with verb.Default rest = do
  named ← next_field rest
  field ← field_of named.0
  value ← last_number 255 named.1
  Some (ask.Command (command.SetDefault field value))
ask_with verb.Defaults rest = at_end ask.Defaults rest

-- a verb whose line needs no room for octets (own)
abbrev pub IsPlain : Verb → Type 0
IsPlain verb.MultiHex = ⊥
IsPlain verb.Owner = ⊥
IsPlain v = Unit {0}

-- a line whose word is that of a verb which needs room for octets (own)
abbrev pub WritesHex : List ℕ → Type 0
WritesHex line = IsSomeAnd (verb_of (parted line).field) (λ v. IsPlain v → ⊥)

-- what is asked for by the word and the rest of a line (own)
unfoldable pub ask_of_line : List ℕ → Option Ask
ask_of_line line = do
  v ← verb_of (parted line).field
  ask_with v (parted line).rest

-- what a line asks for, where it is one of a script: an empty line, and one that begins with `#`, octet 35, ask for
-- nothing (own)
abbrev pub ask_of : List ℕ → Option Ask
ask_of [] = Some ask.Nothing
ask_of (c ∷ cs) = if c == 35 then Some ask.Nothing else ask_of_line (c ∷ cs)
