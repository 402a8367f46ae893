-- The octets of a state, put one after the other, are read again as the state was.
use Rattle.std.proofs.Common.{◌≡◌, ◌<◌, ◌≤◌, ◌^◌, ◌*◌, ℕ, ◌+◌, ◌-◌, Bool, false, cond, ltb, eqb, List, ◌∷◌, ◌++◌, take, drop, length, slice_index, Option, Some, None, IfSome, Result, Ok, Err, refl, ap, ◌∙◌, arith, length-append, append_assoc}
use Rattle.std.specs.List.{All}
use Rattle.std.proofs.lemmas.Bool.{le-ltb}
use Rattle.std.proofs.lemmas.Bool.Decides.{nat_tests}
use Rattle.std.proofs.lemmas.List.{length-drop, take_all, take_at}
use Rattle.byteorder.specs.Endian.{big_bytes, big_number}
use Rattle.byteorder.specs.Numbers.{big_number-reads_back}
use Rattle.sign_font.specs.Defaults.{default_fault, under}
use Rattle.sign_font.specs.Sign.{SignData}
use Rattle.multi_meaning.specs.Verdict.{Verdict}
use Rattle.message_store.specs.declared.limits.StoreLimits.{StoreLimits}
use Rattle.message_store.specs.Judged.{is_accepted}
use Rattle.message_store.specs.Limits.{IsKept}
use Rattle.message_store.specs.Ranged.{AreRanged}
use Rattle.message_store.specs.Slot.{StoreData, used_bytes}
use Rattle.saved_octets.specs.declared.fault.StateFault.{StateFault}
use Rattle.saved_octets.specs.declared.fault.StateFault.TheVariants as fault
use Rattle.saved_octets.specs.Checksum.{crc32}
use Rattle.saved_octets.specs.Field.{◌>>=◌, placed, text_octets}
use Rattle.saved_octets.specs.Seal.{head_octets, headed, sealed}
use Rattle.sign_font.specs.declared.parts.Defaults.{Defaults}
use Rattle.saved_octets.specs.Slots.{IsRanged, is_unranged, table_in, table_octets}
use Rattle.saved_octets.proofs.FieldLemmas.{text_again}
use Rattle.saved_octets.proofs.PlacedLemmas.{placed_more}
use Rattle.saved_octets.proofs.ReadLemmas.{table_again, unranged_again}
use Rattle.saved_octets.proofs.SealLemmas.{sealed_again}
use Rattle.saved_octets.proofs.TableLemmas.{all_whole, length-slots}
use Rattle.sign_control.specs.declared.code.ActivateError.{ActivateError}
use Rattle.sign_control.specs.declared.code.ActivateError.TheVariants as error
use Rattle.sign_control.specs.declared.code.IdCode.{IdCode}
use Rattle.sign_control.specs.declared.code.SourceMode.{SourceMode}
use Rattle.sign_control.specs.declared.code.SourceMode.TheVariants as mode
use Rattle.sign_control.specs.declared.display.Display.{Display}
use Rattle.sign_control.specs.declared.display.Registers.{Registers}
use Rattle.sign_control.specs.declared.parts.Parts.{Parts}
use Rattle.sign_control.specs.Code.{error_code, id_code, mode_code}
use Rattle.sign_control.specs.State.{StateData}
use Rattle.sign_control.specs.Saved.{IsRestorable, ReadData, Saves, body_octets, defaults_in, defaults_octets, display_in, display_with, end_octets, error_numbered, front_in, mode_numbered, parts_in, parts_octets, parts_of, read_in, registers_in, registers_octets, registers_with, remaining_in, remaining_number, restored, save_size, saved_octets, shown_octets, sign_fault}
use Rattle.sign_control.specs.internal.Ready.{IsAccepted}
use Rattle.sign_control.specs.internal.Saving.{AreNumbers}

-- ---- the parts

-- one more part was put, which the code has as another list of the same octets
pub put_part : (old now after done given part : List ℕ) (at next : ℕ) → now ≡ placed old at done → next ≡ at + length done → given ≡ part → next + length part ≤ length old
    → after ≡ placed now next given → after ≡ placed old at (done ++ part)
put_part old now after done given part at next was ends same room is = placed_more old now after done part at next was ends room (is ∙ ap (placed now next) same)

pub end_again : (code : IdCode) (rest : List ℕ) → code.message.number < 2 ^ 16 → code.crc < 2 ^ 16 → id_code (end_octets code ++ rest) ≡ code
end_again code rest number crc =
    let made : ℕ → ℕ → IdCode = λ n c. record { message = record { memory = code.message.memory; number = n }; crc = c } in
    let behind : List ℕ = big_bytes 2 code.crc ++ rest in
    ap (λ n. made n (big_number 2 behind)) (big_number-reads_back 2 code.message.number behind number)
    ∙ ap (made code.message.number) (big_number-reads_back 2 code.crc rest crc)

error_again : (e : ActivateError) → error_numbered (error_code e) ≡ Some e
error_again error.None = refl
error_again error.Priority = refl
error_again error.MessageStatus = refl
error_again error.MessageMemoryType = refl
error_again error.MessageNumber = refl
error_again error.MessageCrc = refl
error_again error.SyntaxMulti = refl

mode_again : (m : SourceMode) → mode_numbered (mode_code m) ≡ Some m
mode_again mode.Other = refl
mode_again mode.Central = refl
mode_again mode.EndDuration = refl

registers_again : (r : Registers) (rest : List ℕ) → r.position < 2 ^ 16 → registers_in (registers_octets r ++ rest) ≡ Ok r
unfolding registers_in
registers_again r rest position =
    let octets : List ℕ = registers_octets r ++ rest in
    let made : ℕ → Result Registers StateFault = λ n. Ok (record { activate = r.activate; validate = r.validate; multi = r.multi; position = n }) in
    ap (registers_with octets) (error_again r.activate) ∙ ap made (big_number-reads_back 2 r.position rest position)

remaining_again : (left : Option ℕ) → IfSome left (λ tenths. tenths ≤ 65534 * 600) → remaining_in (remaining_number left) ≡ Ok left
unfolding remaining_in
remaining_again None limited = refl
remaining_again (Some n) limited =
    let ends : eqb n 0xFFFFFFFF ≡ false = grind (arith, nat_tests, limited) in
    let fits : ltb (65534 * 600) n ≡ false = le-ltb _ _ limited in
    rw (ends, fits) refl

remaining_fits : (left : Option ℕ) → IfSome left (λ tenths. tenths ≤ 65534 * 600) → remaining_number left < 2 ^ 32
remaining_fits None limited = omega arith
remaining_fits (Some n) limited = omega (arith, limited)

display_again : (d : Display) (rest : List ℕ) → AreRanged d.priority d.beacon d.pixel → d.source.number < 2 ^ 16 → d.crc < 2 ^ 16 → d.requester < 2 ^ 32 → d.clock < 2 ^ 64 → IfSome d.remaining (λ tenths. tenths ≤ 65534 * 600)
    → display_in (shown_octets d ++ defaults_octets d.defaults ++ rest) ≡ Ok d
unfolding display_in
display_again d rest ranged number crc requester clock limited =
    let octets : List ℕ = shown_octets d ++ defaults_octets d.defaults ++ rest in
    let behind-clock : List ℕ = defaults_octets d.defaults ++ rest in
    let behind-left : List ℕ = big_bytes 8 d.clock ++ behind-clock in
    let behind-requester : List ℕ = big_bytes 4 (remaining_number d.remaining) ++ behind-left in
    let behind-crc : List ℕ = big_bytes 4 d.requester ++ behind-requester in
    let behind-number : List ℕ = d.priority ∷ d.beacon ∷ d.pixel ∷ mode_code d.mode ∷ big_bytes 2 d.crc ++ behind-crc in
    let made : ℕ → ℕ → ℕ → ℕ → Result Display StateFault = λ n c r t. Ok (record {
      source = record { memory = d.source.memory; number = n };
      priority = d.priority;
      beacon = d.beacon;
      pixel = d.pixel;
      crc = c;
      defaults = d.defaults;
      clock = t;
      remaining = d.remaining;
      requester = r;
      mode = d.mode;
    }) in
    let left : remaining_in (big_number 4 (drop 13 octets)) ≡ Ok d.remaining =
    ap remaining_in (big_number-reads_back 4 (remaining_number d.remaining) behind-left (remaining_fits d.remaining limited)) ∙ remaining_again d.remaining limited in
    ap (λ (r : Result (Option ℕ) StateFault). r >>= λ remaining. display_with octets (defaults_in (drop 25 octets)) remaining (mode_numbered (slice_index octets 6))) left
    ∙ ap (display_with octets d.defaults d.remaining) (mode_again d.mode)
    ∙ ap (λ (b : Bool). cond b (Err fault.Value) (made (big_number 2 (drop 1 octets)) (big_number 2 (drop 7 octets)) (big_number 4 (drop 9 octets)) (big_number 8 (drop 17 octets))))
    (unranged_again d.priority d.beacon d.pixel ranged.from_one ranged.beacon_flag ranged.pixel_flag)
    ∙ ap (λ n. made n (big_number 2 (drop 7 octets)) (big_number 4 (drop 9 octets)) (big_number 8 (drop 17 octets))) (big_number-reads_back 2 d.source.number behind-number number)
    ∙ ap (λ n. made d.source.number n (big_number 4 (drop 9 octets)) (big_number 8 (drop 17 octets))) (big_number-reads_back 2 d.crc behind-crc crc)
    ∙ ap (λ n. made d.source.number d.crc n (big_number 8 (drop 17 octets))) (big_number-reads_back 4 d.requester behind-requester requester)
    ∙ ap (λ n. made d.source.number d.crc d.requester n) (big_number-reads_back 8 d.clock behind-clock clock)

parts_again : (p : Parts) (rest : List ℕ) → AreRanged p.display.priority p.display.beacon p.display.pixel → AreNumbers p → IfSome p.display.remaining (λ tenths. tenths ≤ 65534 * 600) → parts_in (parts_octets p ++ rest) ≡ Ok p
unfolding parts_in
parts_again p rest ranged are limited =
    let octets : List ℕ = parts_octets p ++ rest in
    let shown : List ℕ = shown_octets p.display ++ defaults_octets p.display.defaults ++ rest in
    let made : IdCode → Result Parts StateFault = λ e. Ok (record { defaults = p.defaults; end = e; registers = p.registers; display = p.display }) in
    let whole : Result Registers StateFault → Result Display StateFault → Result Parts StateFault =
    λ (r : Result Registers StateFault) (d : Result Display StateFault). r >>= λ registers. d >>= λ display. Ok (record { defaults = p.defaults; end = id_code (drop 9 octets); registers = registers; display = display }) in
    ap (λ (r : Result Registers StateFault). whole r (display_in (drop 19 octets))) (registers_again p.registers shown are.position)
    ∙ ap (whole (Ok p.registers)) (display_again p.display rest ranged are.source_number are.crc are.requester are.clock limited)
    ∙ ap made (end_again p.end (registers_octets p.registers ++ shown) are.end_number are.end_crc)

front_again : (p : Parts) (rest : List ℕ) → AreRanged p.display.priority p.display.beacon p.display.pixel → AreNumbers p → IfSome p.display.remaining (λ tenths. tenths ≤ 65534 * 600) → front_in (parts_octets p ++ rest) ≡ Ok (p, rest)
unfolding front_in
front_again p rest ranged are limited =
    let octets : List ℕ = parts_octets p ++ rest in
    let long : ltb (length octets) 53 ≡ false = le-ltb _ _ (let e : 53 ≤ length octets = omega arith in e) in
    rw (long, parts_again p rest ranged are limited) refl

-- what was read at the front
pub front_read : (octets : List ℕ) (parts : Parts) → 53 ≤ length octets → parts_in octets ≡ Ok parts → front_in octets ≡ Ok (parts, drop 53 octets)
unfolding front_in
front_read octets parts long is =
    let test : ltb (length octets) 53 ≡ false = le-ltb _ _ long in
    rw (test, is) refl

-- ---- the state

-- how many octets there are
pub length-body : (state : StateData) → length (body_octets state) ≡ 57 + length state.text + 8 * length state.store.slots + used_bytes state.store
length-body state =
    let table = table_octets state.store.slots in
    let front = parts_octets (parts_of state) ++ text_octets state.text in
    let first : length front ≡ 55 + length state.text = omega arith in
    let last : length table ≡ 2 + (8 * length state.store.slots + used_bytes state.store) = omega (arith, length-slots state.store.slots) in
    length-append front table ∙ omega (arith, first, last)

-- what stands at the front of a buffer
pub take-front : (old octets : List ℕ) (n : ℕ) → length octets ≡ n → take n (placed old 0 octets) ≡ octets
take-front old octets n is = take_at octets (drop (0 + length octets) old) n is

-- the octets that a buffer has once head, body and seal are put
pub record IsSaved (state : StateData) (old second third : List ℕ) (end : ℕ) : Type 0 where
  pub saves : Saves (save_size state.store.limits) (saved_octets state) old third (Some (end + 4))
  pub sum : crc32 (take end second) ≡ crc32 (headed (body_octets state))

pub saved_is : (state : StateData) (old first second third : List ℕ) (count end : ℕ) → save_size state.store.limits ≤ length old → IsKept state.store → length state.text ≤ state.store.limits.max_string
    → count ≡ length (body_octets state) → end ≡ 5 + length (body_octets state)
    → first ≡ placed old 0 (head_octets count) → second ≡ placed first 5 (body_octets state) → third ≡ placed second end (big_bytes 4 (crc32 (take end second)))
    → IsSaved state old second third end
saved_is state old first second third count end room kept short counts ends one two three =
    let body = body_octets state in
    let long = length-body state in
    let begun : first ≡ placed old 0 (head_octets (length body)) = one ∙ ap (λ n. placed old 0 (head_octets n)) counts in
    let within : 9 + length body ≤ length old = omega (arith, long, room, short, kept.count, kept.within) in
    let both : second ≡ placed old 0 (headed body) = placed_more old first second (head_octets (length body)) body 0 5 begun refl (omega (arith, within)) two in
    let all : length (headed body) ≡ end = omega (arith, ends) in
    let front : take end second ≡ headed body = ap (take end) both ∙ take-front old (headed body) end all in
    let sum = ap crc32 front in
    let crc = big_bytes 4 (crc32 (headed body)) in
    let last : third ≡ placed old 0 (sealed body) = placed_more old second third (headed body) crc 0 end both (omega (arith, all)) (omega (arith, within, ends))
    (three ∙ ap (λ n. placed second end (big_bytes 4 n)) sum) in
    record {
      saves = (room, omega (arith, ends, length-append (headed body) crc, all), last);
      sum = sum;
    }

read_again : (state : StateData) (most : ℕ) → AreRanged state.display.priority state.display.beacon state.display.pixel → AreNumbers (parts_of state) → IfSome state.display.remaining (λ tenths. tenths ≤ 65534 * 600) → length state.text ≤ most → most < 2 ^ 16
    → length (body_octets state) + 9 < 2 ^ 32 → crc32 (headed (body_octets state)) < 2 ^ 32
    → read_in most (saved_octets state) ≡ Ok (record { parts = parts_of state; text = state.text; rest = table_octets state.store.slots })
unfolding read_in
read_again state most ranged are limited short narrow small sum =
    let body = body_octets state in
    let table = table_octets state.store.slots in
    let p = parts_of state in
    let grouped : body ≡ parts_octets p ++ (text_octets state.text ++ table) = append_assoc (parts_octets p) (text_octets state.text) table in
    let front : front_in body ≡ Ok (p, text_octets state.text ++ table) = ap front_in grouped ∙ front_again p (text_octets state.text ++ table) ranged are limited in
    rw (sealed_again body small sum, front, text_again most state.text table short narrow) refl

-- the sign takes what it shows
taken_again : (sign : SignData) (parts : Parts) (text : List ℕ) → default_fault sign parts.defaults ≡ None → default_fault sign parts.display.defaults ≡ None
    → IsAccepted (under sign parts.display.defaults) text → sign_fault sign parts text ≡ None
unfolding sign_fault
taken_again sign parts text taken shown accepted =
    rw (taken, shown) (ap (λ (v : Verdict). cond (is_accepted v) None (Some fault.Text)) accepted.1)

-- what was saved is restored
pub restored_again : (sign : SignData) (state : StateData) → AreRanged state.display.priority state.display.beacon state.display.pixel → AreNumbers (parts_of state) → All IsRanged state.store.slots → IsKept state.store
    → IfSome state.display.remaining (λ tenths. tenths ≤ 65534 * 600) → length state.text ≤ state.store.limits.max_string → default_fault sign state.defaults ≡ None → default_fault sign state.display.defaults ≡ None
    → IsAccepted (under sign state.display.defaults) state.text → crc32 (headed (body_octets state)) < 2 ^ 32 → IsRestorable sign state
unfolding restored
restored_again sign state within are ranged kept limited short taken shown accepted sum store limits permanent =
    let slots = state.store.slots in
    let small : length (body_octets state) + 9 < 2 ^ 32 = omega (arith, length-body state, short, kept.count, kept.within, kept.sound.slots, kept.sound.bytes, kept.sound.longest) in
    let most = ap (λ (l : StoreLimits). l.max_string) limits in
    let told : ReadData = record { parts = parts_of state; text = state.text; rest = table_octets slots } in
    let read : read_in store.limits.max_string (saved_octets state) ≡ Ok told =
    read_again state store.limits.max_string within are limited (omega (arith, most, short)) (omega (arith, most, kept.sound.longest)) small sum in
    let table : table_in store.limits (table_octets slots) ≡ Ok slots =
    ap (λ (l : StoreLimits). table_in l (table_octets slots)) limits
    ∙ table_again state.store.limits slots kept.count (omega (arith, kept.sound.slots)) (omega (arith, kept.sound.longest)) (all_whole state.store.limits slots ranged kept.short) kept.within in
    let same : (let st : StoreData = record store { slots = slots } in st) ≡ state.store =
    ap (λ (l : StoreLimits). let st : StoreData = record { limits = l; permanent = store.permanent; slots = slots } in st) limits
    ∙ ap (λ p. let st : StoreData = record { limits = state.store.limits; permanent = p; slots = slots } in st) permanent in
    rw (read, taken_again sign (parts_of state) state.text taken shown accepted, table)
    (ap (λ (st : StoreData). let r : Result StateData StateFault = Ok (record state { store = st }) in r) same)

-- a display that was read
pub display_read : (octets : List ℕ) (remaining : Option ℕ) (mode : SourceMode) (number crc requester clock : ℕ) (defaults : Defaults)
    → remaining_in (big_number 4 (drop 13 octets)) ≡ Ok remaining → mode_numbered (slice_index octets 6) ≡ Some mode → is_unranged (slice_index octets 3) (slice_index octets 4) (slice_index octets 5) ≡ false
    → number ≡ big_number 2 (drop 1 octets) → crc ≡ big_number 2 (drop 7 octets) → requester ≡ big_number 4 (drop 9 octets) → clock ≡ big_number 8 (drop 17 octets) → defaults ≡ defaults_in (drop 25 octets)
    → display_in octets ≡ Ok (record {
      source = record { memory = slice_index octets 0; number = number };
      priority = slice_index octets 3;
      beacon = slice_index octets 4;
      pixel = slice_index octets 5;
      crc = crc;
      defaults = defaults;
      clock = clock;
      remaining = remaining;
      requester = requester;
      mode = mode;
    })
unfolding display_in
display_read octets remaining mode number crc requester clock defaults left moded ranged n c r t d = rw (n, c, r, t, d) (rw (left, moded, ranged) refl)

-- the octets from a place on
pub rest_is : (octets : List ℕ) (k : ℕ) → take (length octets - k) (drop k octets) ≡ drop k octets
rest_is octets k = take_all (length octets - k) (drop k octets) (omega (arith, length-drop k octets))
