-- The commands of verbs whose fields are read in the same way.
use Rattle.std.specs.Prelude.{ℕ, List}
use Rattle.message_store.specs.declared.message.MsgRef.{MsgRef}
use Rattle.sign_control.specs.declared.command.Command.{Command}
use Rattle.sign_control.specs.declared.command.Command.TheVariants as command
use Rattle.sign_script.specs.Asks.{lent}
use Rattle.sign_script.specs.declared.verb.Verb.{Verb}
use Rattle.sign_script.specs.declared.verb.Verb.TheVariants as verb

-- the command of a verb whose fields are a message and a value (own)
abbrev pub valued : Verb → MsgRef → ℕ → Command
valued verb.Priority message value = command.SetPriority message value
valued verb.Beacon message value = command.SetBeacon message value
valued verb.Pixel message value = command.SetPixelService message value
valued v message value = command.Request message value

-- the command of a verb whose fields are a message and octets in hexadecimal (own)
abbrev pub octets_set : Verb → MsgRef → List ℕ → Command
octets_set verb.Owner message octets = command.SetOwner message (lent octets)
octets_set v message octets = command.SetMulti message (lent octets)
