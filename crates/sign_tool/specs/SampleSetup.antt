-- What a run stands on without a file: the sample sign with its message store.
use Rattle.std.specs.Prelude.{List, [], ◌∷◌, codes}
use Rattle.sign_font.specs.Sample.{sample}
use Rattle.message_store.specs.declared.limits.StoreLimits.{StoreLimits}
use Rattle.message_store.specs.Limits.{made}
use Rattle.message_store.specs.Slot.{PermanentData}
use Rattle.sign_tool.specs.declared.setup.Setup.{Setup}

-- The sample sign's store has 1 slot and 4 octets, and its texts have at most 64 octets (own).
abbrev pub sample_limits : StoreLimits
sample_limits = record { slots = 1; bytes = 4; max_string = 64 }

-- Its one permanent message is `AAAI`, with priority 5 (own).
abbrev pub sample_messages : List PermanentData
sample_messages = record { multi = codes "AAAI"; priority = 5; beacon = 0; pixel = 0 } ∷ []

-- The sample sign, with its store in which no slot is used (own).
abbrev pub sample_setup : Setup
sample_setup = record { sign = sample; store = made sample_limits sample_messages }
