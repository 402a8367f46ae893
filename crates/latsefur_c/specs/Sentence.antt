-- A sentence for each number that the library answers with.
use Rattle.std.specs.Prelude.{◌≡◌, ℕ, ◌==◌, if◌then◌else◌, codes, List, Option, None, Some}
use Rattle.latsefur_c.specs.Recorded.{CountsFront}

-- why the message table refuses a command (own)
abbrev pub table_sentence : ℕ → Option (List ℕ)
table_sentence number =
    if number == 1 then Some (codes "there is no such memory type")
    else (if number == 2 then Some (codes "there is no message of this number")
    else (if number == 3 then Some (codes "messages of this memory type aren't written")
    else (if number == 4 then Some (codes "the status of the message doesn't take this")
    else (if number == 5 then Some (codes "the value is outside its range")
    else (if number == 6 then Some (codes "the text or the owner is too long")
    else (if number == 7 then Some (codes "the table has no room left for it") else None))))))

-- why a message is not valid (NTCIP 1203 v03, dmsValidateMessageError)
abbrev pub validate_sentence : ℕ → Option (List ℕ)
validate_sentence number =
    if number == 1 then Some (codes "another fault")
    else (if number == 2 then Some (codes "nothing is wrong with the message")
    else (if number == 3 then Some (codes "the sign can't do what the message asks of its beacons")
    else (if number == 4 then Some (codes "the sign can't do what the message asks of its pixel service")
    else (if number == 5 then Some (codes "the text of the message is wrong") else None))))

-- why a message isn't shown (NTCIP 1203 v03, dmsActivateMsgError)
abbrev pub activate_sentence : ℕ → Option (List ℕ)
activate_sentence number =
    if number == 1 then Some (codes "another fault")
    else (if number == 2 then Some (codes "nothing is wrong with the activation")
    else (if number == 3 then Some (codes "what is shown has a higher priority")
    else (if number == 4 then Some (codes "the message isn't valid")
    else (if number == 5 then Some (codes "there is no such memory type")
    else (if number == 6 then Some (codes "there is no message of this number")
    else (if number == 7 then Some (codes "the message has another CRC")
    else (if number == 8 then Some (codes "the text of the message is wrong") else None)))))))

-- why a text is refused (NTCIP 1203 v03, dmsMultiSyntaxError)
abbrev pub multi_sentence : ℕ → Option (List ℕ)
multi_sentence number =
    if number == 1 then Some (codes "another fault")
    else (if number == 2 then Some (codes "nothing is wrong with the text")
    else (if number == 3 then Some (codes "the sign doesn't support the tag")
    else (if number == 4 then Some (codes "the sign doesn't support the value of the tag")
    else (if number == 5 then Some (codes "the text is too big for the sign")
    else (if number == 6 then Some (codes "the sign has no such font")
    else (if number == 7 then Some (codes "the font has no such character")
    else (if number == 11 then Some (codes "the tag conflicts with another one")
    else (if number == 12 then Some (codes "the text has too many pages")
    else (if number == 13 then Some (codes "the font has another version") else None)))))))))

-- why a default is refused (own)
abbrev pub default_sentence : ℕ → Option (List ℕ)
default_sentence number =
    if number == 9 then Some (codes "the value is outside its range")
    else (if number == 10 then Some (codes "the sign has no such font") else None)

-- why saved octets are refused (own)
abbrev pub state_sentence : ℕ → Option (List ℕ)
state_sentence number =
    if number == 1 then Some (codes "there are fewer or more octets than there should be")
    else (if number == 2 then Some (codes "they are of another version")
    else (if number == 3 then Some (codes "their CRC-32 isn't theirs")
    else (if number == 4 then Some (codes "a number is outside its range")
    else (if number == 5 then Some (codes "a text is too long")
    else (if number == 6 then Some (codes "the texts would pass the budget")
    else (if number == 7 then Some (codes "the table has another number of messages")
    else (if number == 8 then Some (codes "the sign refuses the defaults")
    else (if number == 9 then Some (codes "the sign refuses the text of the display") else None))))))))

-- how a call ended (own)
abbrev pub outcome_sentence : ℕ → Option (List ℕ)
outcome_sentence number =
    if number == 0 then Some (codes "all is done")
    else (if number == 1 then Some (codes "the sign refuses the text")
    else (if number == 2 then Some (codes "memory was refused")
    else (if number == 3 then Some (codes "the octets can't be read as a sign file")
    else (if number == 4 then Some (codes "the sign of the sign file is outside its limits")
    else (if number == 5 then Some (codes "the buffer is too small")
    else (if number == 6 then Some (codes "the text has no such page")
    else (if number == 7 then Some (codes "the text has 2^32 octets or more")
    else (if number == 8 then Some (codes "the message table of the sign file is outside its limits")
    else (if number == 9 then Some (codes "the handle holds no controller")
    else (if number == 10 then Some (codes "the code hasn't the length that it must have")
    else (if number == 11 then Some (codes "no default has this number")
    else (if number == 12 then Some (codes "the sign has no such font")
    else (if number == 13 then Some (codes "a number is outside its range")
    else (if number == 14 then Some (codes "the film would have more than 64,000,000 octets")
    else (if number == 15 then Some (codes "the text begins anew after more than ten minutes") else None)))))))))))))))

-- the sentence of a number of a kind: 1 table, 2 validate, 3 activate, 4 MULTI, 5 default, 6 state, 7 outcome (own)
abbrev pub sentence_of : ℕ → ℕ → Option (List ℕ)
sentence_of kind number =
    if kind == 1 then table_sentence number
    else (if kind == 2 then validate_sentence number
    else (if kind == 3 then activate_sentence number
    else (if kind == 4 then multi_sentence number
    else (if kind == 5 then default_sentence number
    else (if kind == 6 then state_sentence number
    else (if kind == 7 then outcome_sentence number else None))))))

-- a sentence is told, and its octets are counted; or there is none (13), and nothing is told (own)
abbrev pub TellsSentence : Option (List ℕ) → List ℕ → List ℕ → ℕ → ℕ → ℕ → Type 0
TellsSentence None was now before count outcome = (outcome ≡ 13) × (now ≡ was) × (count ≡ before)
TellsSentence (Some words) was now before count outcome = CountsFront words was now count outcome
