-- Records that are written.
use Rattle.std.proofs.Common.{◌≡◌, ℕ, ◌+◌, Bool, true, false, List, [], ◌∷◌, ◌++◌, refl, sym, ap, ◌∙◌, subst, arith, append_assoc, codes, decimal, ◌<◌, length, get_or, take, inl, inr, map, string_bytes}
use Rattle.std.proofs.lemmas.Bool.{cases_Bool, or_from, or_parts}
use Rattle.std.proofs.lemmas.List.{get_or-map, length-map, length-take-le, take_more}
use Rattle.std.specs.Str.{IsUtf8, is_utf8}
use Rattle.std.proofs.lemmas.Str.{IsUtf8-from_is_utf8, is_utf8-from_IsUtf8}
use Rattle.hex.specs.Hex.{encode_lower}
use Rattle.serde_json.specs.Data.{Data, null, string}
use Rattle.serde_json.specs.View.{items_of}
use Rattle.serde_json.proofs.OnLiterals.{serde_json_on_literals}
use Rattle.serde_json.specs.Written.{compact_text, has_float, items_have_float}
use Rattle.sign_font.specs.Sign.{SignData}
use Rattle.multi_meaning.specs.Meaning.{meanings}
use Rattle.multi_meaning.specs.Times.{Times, page_times}
use Rattle.multi_meaning.specs.Verdict.{pages_of}
use Rattle.multi_meaning.proofs.TimesLemmas.{times_count}
use Rattle.message_words.specs.PageTimes.{AreTimes, times_data}
use Rattle.message_words.specs.declared.times.Times as kept
use Rattle.message_report.specs.declared.format.Telling.{Telling}
use Rattle.message_report.specs.Names.{name_of}
use Rattle.message_report.specs.Pictures.{page_text}
use Rattle.message_cures.specs.declared.mending.Kind.{Kind}
use Rattle.message_cures.specs.Edits.{IsEdited}
use Rattle.message_cures.specs.declared.difference.Edit.{Edit}
use Rattle.message_cures.specs.declared.mending.Outcome.{Outcome}
use Rattle.message_cures.specs.declared.mending.Outcome.TheVariants as outcomes
use Rattle.message_cures.specs.declared.proposal.Proposal.{Proposal}
use Rattle.message_words.specs.Codes.{code_text}
use Rattle.message_words.specs.declared.warnings.Warning.{Warning}
use Rattle.message_report.specs.Records.{accepted_json, accepted_record, page_data, page_record, pages_from, picture_data, refused_json, refused_record, too_long_record, warning_record, warning_records}
use Rattle.message_report.specs.Fixes.{AreFixes, AreFixesOf, edit_record, fix_record, octets_data, text_data}

-- one more item without a float
pub more_items : (ds : List Data) (d : Data) → items_have_float (items_of ds) ≡ false → has_float d ≡ false → items_have_float (items_of (ds ++ d ∷ [])) ≡ false
more_items [] d none one = or_from (has_float d) false one refl
more_items (e ∷ ds) d none one =
    let parts = or_parts (has_float e) (items_have_float (items_of ds)) none in
    or_from (has_float e) (items_have_float (items_of (ds ++ d ∷ []))) parts.0 (more_items ds d parts.1 one)

-- a picture has no float
picture_whole : (asked : Bool) (text : List ℕ) → has_float (picture_data asked text) ≡ false
picture_whole true text = refl
picture_whole false text = refl

-- and neither has the record of a page
page_whole : (page on off : ℕ) (asked : Bool) (text : List ℕ) → has_float (page_record page on off (picture_data asked text)) ≡ false
unfolding page_record
page_whole page on off true text = refl
page_whole page on off false text = refl

-- nor those of pages that follow one another
pub pages_whole : (telling : Telling) (sign : SignData) (octets : List ℕ) (page : ℕ) (all : List Times) → items_have_float (items_of (pages_from telling sign octets page all)) ≡ false
pages_whole telling sign octets page [] = refl
pages_whole telling sign octets page (times ∷ later) =
    or_from (has_float (page_data telling sign octets page times)) _ (page_whole page times.on times.off telling.pictures (page_text sign octets page telling.phase)) (pages_whole telling sign octets (page + 1) later)

-- octets that are text in UTF-8, and others
pub text_is : (octets : List ℕ) → IsUtf8 octets → text_data octets ≡ string octets
unfolding text_data
text_is octets is = rw (is_utf8-from_IsUtf8 octets is) refl

pub no_hexadecimal : (octets : List ℕ) → IsUtf8 octets → octets_data octets ≡ null
unfolding octets_data
no_hexadecimal octets is = rw (is_utf8-from_IsUtf8 octets is) refl

not_utf8 : (octets : List ℕ) → (IsUtf8 octets → ⊥) → is_utf8 octets ≡ false
not_utf8 octets isn't = elim (cases_Bool (is_utf8 octets)) [
  | inl is ↦ absurd (isn't (IsUtf8-from_is_utf8 octets is))
  | inr other ↦ other
]

pub no_text : (octets : List ℕ) → (IsUtf8 octets → ⊥) → text_data octets ≡ null
unfolding text_data
no_text octets isn't = rw (not_utf8 octets isn't) refl

pub hexadecimal_is : (octets : List ℕ) → (IsUtf8 octets → ⊥) → octets_data octets ≡ string (encode_lower octets)
unfolding octets_data
hexadecimal_is octets isn't = rw (not_utf8 octets isn't) refl

-- octets as text, and in hexadecimal, have no float
pub text_whole : (octets : List ℕ) → has_float (text_data octets) ≡ false
unfolding text_data
text_whole octets = elim (cases_Bool (is_utf8 octets)) [
  | inl is ↦ rw is refl
  | inr isn't ↦ rw isn't refl
]

pub octets_whole : (octets : List ℕ) → has_float (octets_data octets) ≡ false
unfolding octets_data
octets_whole octets = elim (cases_Bool (is_utf8 octets)) [
  | inl is ↦ rw is refl
  | inr isn't ↦ rw isn't refl
]

-- nor have the records of edits and of what is proposed
edit_whole : (edit : Edit) → has_float (edit_record edit) ≡ false
unfolding edit_record
edit_whole edit = or_from (has_float (octets_data edit.octets.items)) _ (octets_whole edit.octets.items) (or_from (has_float (text_data edit.octets.items)) false (text_whole edit.octets.items) refl)

edits_whole : (edits : List Edit) → items_have_float (items_of (map (λ (e : Edit). edit_record e) edits)) ≡ false
edits_whole [] = refl
edits_whole (edit ∷ edits) = or_from (has_float (edit_record edit)) _ (edit_whole edit) (edits_whole edits)

fix_whole : (kind : Kind) (text : List ℕ) (edits : List Edit) → has_float (fix_record kind text edits) ≡ false
unfolding fix_record
fix_whole kind text edits = or_from (items_have_float (items_of (map (λ (e : Edit). edit_record e) edits))) _ (edits_whole edits) (or_from (has_float (octets_data text)) _ (octets_whole text) (or_from (has_float (text_data text)) false (text_whole text) refl))

pub fixes_of_whole : (octets : List ℕ) (proposals : List Proposal) (records : List Data) → AreFixesOf octets proposals records → items_have_float (items_of records) ≡ false
fixes_of_whole octets [] records none = rw none refl
fixes_of_whole octets (proposal ∷ proposals) records (edits, others, edited, are, is) =
    rw is (or_from (has_float (fix_record proposal.kind proposal.text.items edits)) _ (fix_whole proposal.kind proposal.text.items edits) (fixes_of_whole octets proposals others are))

pub fixes_whole : (sign : SignData) (octets : List ℕ) (outcome : Outcome) (records : List Data) → AreFixes sign octets outcome records → items_have_float (items_of records) ≡ false
fixes_whole sign octets (outcomes.Mended other kind) records (proposals, further, are) = fixes_of_whole octets (record { text = other; kind = kind } ∷ proposals) records are
fixes_whole sign octets outcomes.Taken records none = rw none refl
fixes_whole sign octets outcomes.Unknown records none = rw none refl

-- nor those of warnings
warning_whole : (code : List ℕ) (at : ℕ) (words : List ℕ) → has_float (warning_record code at words) ≡ false
unfolding warning_record
warning_whole code at words = refl

pub warnings_whole : (warnings : List Warning) → items_have_float (items_of (warning_records warnings)) ≡ false
warnings_whole [] = refl
warnings_whole (w ∷ warnings) = or_from (has_float (warning_record (code_text w.code) w.at (string_bytes w.words))) _ (warning_whole (code_text w.code) w.at (string_bytes w.words)) (warnings_whole warnings)

-- one more proposal
pub more_fixes : (octets : List ℕ) (proposals : List Proposal) (next : Proposal) (edits : List Edit) (records : List Data) → AreFixesOf octets proposals records → IsEdited octets edits next.text.items
    → AreFixesOf octets (proposals ++ next ∷ []) (records ++ fix_record next.kind next.text.items edits ∷ [])
more_fixes octets [] next edits records none is = (edits, [], is, refl, ap (λ l. l ++ fix_record next.kind next.text.items edits ∷ []) none)
more_fixes octets (proposal ∷ proposals) next edits records (own, others, edited, are, all) is =
    (own, others ++ fix_record next.kind next.text.items edits ∷ [], edited, more_fixes octets proposals next edits others are is, ap (λ l. l ++ fix_record next.kind next.text.items edits ∷ []) all)

pub next_fix : (octets : List ℕ) (first : Proposal) (others : List Proposal) (i : ℕ) (next : Proposal) (edits : List Edit) (records new : List Data) → i < length others → next ≡ get_or others i next → AreFixesOf octets (first ∷ take i others) records
    → IsEdited octets edits next.text.items → new ≡ records ++ fix_record next.kind next.text.items edits ∷ [] → AreFixesOf octets (first ∷ take (i + 1) others) new
next_fix octets first others i next edits records new below is so_far edited grown =
    let grows : take (i + 1) others ≡ take i others ++ next ∷ [] = take_more others i next below ∙ ap (λ p. take i others ++ p ∷ []) (sym is) in
    let all : AreFixesOf octets ((first ∷ take i others) ++ next ∷ []) new = subst (AreFixesOf octets ((first ∷ take i others) ++ next ∷ [])) (sym grown) (more_fixes octets (first ∷ take i others) next edits records so_far edited) in
    subst (λ ps. AreFixesOf octets (first ∷ ps) new) (sym grows) all

-- a record is written as JSON
pub refused_written : (line : ℕ) (octets : List ℕ) (code at : ℕ) (reason : List ℕ) (fixes : Data) → refused_json line (compact_text (text_data octets)) (compact_text (octets_data octets)) (compact_text (string (name_of code))) code at (compact_text (string reason)) (compact_text fixes) ≡ compact_text (refused_record line octets code at reason fixes)
unfolding refused_json refused_record serde_json_on_literals
refused_written line octets code at reason fixes = refl

pub refused_is : (line : ℕ) (m o n w f : List ℕ) (octets : List ℕ) (code at : ℕ) (reason : List ℕ) (fixes : Data) → m ≡ compact_text (text_data octets) → o ≡ compact_text (octets_data octets) → n ≡ compact_text (string (name_of code)) → w ≡ compact_text (string reason)
    → f ≡ compact_text fixes → refused_json line m o n code at w f ≡ compact_text (refused_record line octets code at reason fixes)
refused_is line m o n w f octets code at reason fixes one two three four five =
    ap (λ l. refused_json line l o n code at w f) one
    ∙ ap (λ l. refused_json line (compact_text (text_data octets)) l n code at w f) two
    ∙ ap (λ l. refused_json line (compact_text (text_data octets)) (compact_text (octets_data octets)) l code at w f) three
    ∙ ap (λ l. refused_json line (compact_text (text_data octets)) (compact_text (octets_data octets)) (compact_text (string (name_of code))) code at l f) four
    ∙ ap (λ l. refused_json line (compact_text (text_data octets)) (compact_text (octets_data octets)) (compact_text (string (name_of code))) code at (compact_text (string reason)) l) five
    ∙ refused_written line octets code at reason fixes

pub accepted_written : (line : ℕ) (octets : List ℕ) (pages warnings : Data) → accepted_json line (compact_text (text_data octets)) (compact_text (octets_data octets)) (compact_text pages) (compact_text warnings) ≡ compact_text (accepted_record line octets pages warnings)
unfolding accepted_json accepted_record serde_json_on_literals
accepted_written line octets pages warnings = refl

pub accepted_is : (line : ℕ) (m o p w : List ℕ) (octets : List ℕ) (pages warnings : Data) → m ≡ compact_text (text_data octets) → o ≡ compact_text (octets_data octets) → p ≡ compact_text pages → w ≡ compact_text warnings
    → accepted_json line m o p w ≡ compact_text (accepted_record line octets pages warnings)
accepted_is line m o p w octets pages warnings one two three four =
    ap (λ l. accepted_json line l o p w) one
    ∙ ap (λ l. accepted_json line (compact_text (text_data octets)) l p w) two
    ∙ ap (λ l. accepted_json line (compact_text (text_data octets)) (compact_text (octets_data octets)) l w) three
    ∙ ap (λ l. accepted_json line (compact_text (text_data octets)) (compact_text (octets_data octets)) (compact_text pages) l) four
    ∙ accepted_written line octets pages warnings

pub too_long_written : (line : ℕ) → (codes "{\"line\":" ++ decimal line) ++ codes ",\"outcome\":\"too long\",\"reason\":\"a message has at most 4096 octets\"}\n" ≡ compact_text (too_long_record line) ++ 10 ∷ []
unfolding too_long_record serde_json_on_literals
too_long_written line =
    let rest : List ℕ = codes ",\"outcome\":\"too long\",\"reason\":\"a message has at most 4096 octets\"}" in
    ap (λ l. codes "{\"line\":" ++ l) (sym (append_assoc (decimal line) rest (10 ∷ [])))

-- one more page comes after those before it
pub pages_push : (telling : Telling) (sign : SignData) (octets : List ℕ) (page : ℕ) (front : List Times) (times : Times)
    → pages_from telling sign octets page (front ++ times ∷ []) ≡ pages_from telling sign octets page front ++ page_data telling sign octets (page + length front) times ∷ []
pages_push telling sign octets page [] times = let here : page ≡ page + 0 = omega arith in ap (λ n. page_data telling sign octets n times ∷ []) here
pages_push telling sign octets page (first ∷ front) times =
    let last : (page + 1) + length front ≡ page + length (first ∷ front) = omega arith in
    ap (λ l. page_data telling sign octets page first ∷ l) (pages_push telling sign octets (page + 1) front times ∙ ap (λ n. pages_from telling sign octets (page + 1) front ++ page_data telling sign octets n times ∷ []) last)

-- the first pages, and one more of them
pub first_pages : (telling : Telling) (sign : SignData) (octets : List ℕ) (all : List Times) (page : ℕ) (times : Times) → page < length all → times ≡ get_or all page times
    → pages_from telling sign octets 0 (take (page + 1) all) ≡ pages_from telling sign octets 0 (take page all) ++ page_data telling sign octets page times ∷ []
first_pages telling sign octets all page times below is =
    let grows : take (page + 1) all ≡ take page all ++ times ∷ [] = take_more all page times below ∙ ap (λ t. take page all ++ t ∷ []) (sym is) in
    let taken = length-take-le page all (omega (arith, below)) in
    let count : 0 + length (take page all) ≡ page = omega (arith, taken) in
    ap (pages_from telling sign octets 0) grows ∙ pages_push telling sign octets 0 (take page all) times
    ∙ ap (λ n. pages_from telling sign octets 0 (take page all) ++ page_data telling sign octets n times ∷ []) count

-- there are as many times as pages
pub times_counted : (sign : SignData) (octets : List ℕ) (all : List kept.Times) → AreTimes sign octets all → length all ≡ pages_of (meanings octets)
times_counted sign octets all are = sym (length-map all times_data) ∙ ap length are ∙ times_count sign (meanings octets)

-- the records of the first pages, and that of one more
pub one_page_more : (telling : Telling) (sign : SignData) (octets : List ℕ) (all : List kept.Times) (page : ℕ) (times : kept.Times) → AreTimes sign octets all → page < length all → times ≡ get_or all page times
    → pages_from telling sign octets 0 (take (page + 1) (page_times sign (meanings octets)))
    ≡ pages_from telling sign octets 0 (take page (page_times sign (meanings octets))) ++ page_data telling sign octets page (times_data times) ∷ []
one_page_more telling sign octets all page times are below is =
    let meant = page_times sign (meanings octets) in
    let count = sym (length-map all times_data) ∙ ap length are in
    let here : times_data times ≡ get_or meant page (times_data times) =
    ap times_data is ∙ sym (get_or-map times_data all page times (times_data times) below) ∙ ap (λ l. get_or l page (times_data times)) are in
    first_pages telling sign octets meant page (times_data times) (omega (arith, below, count)) here
