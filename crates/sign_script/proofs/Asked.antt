-- What a line asks of a served sign, and the lines by which it is asked.
use Rattle.std.proofs.Common.{◌≡◌, ℕ, List, [], ◌∷◌, ◌++◌, true, Option, None, Some, Result, Ok, Err, refl, sym, ap, ◌∙◌, subst}
use Rattle.std.specs.Prelude.{IfOk}
use Rattle.std.proofs.lemmas.Option.{none-some, same_Some}
use Rattle.sign_script.specs.Asks.{ask_of, ask_of_line, bare}
use Rattle.sign_script.specs.Fields.{Gives, last_number, next_message, next_number, parted}
use Rattle.sign_script.specs.Questions.{IsAsked, bare_question, more_asked, more_with, query_of, query_word, question_of}
use Rattle.sign_script.specs.Spelling.{AreFields, Field, IsLine, Number, Text, of_message}
use Rattle.sign_script.specs.Verbs.{verb_of}
use Rattle.sign_script.specs.declared.ask.Ask.{Ask}
use Rattle.sign_script.specs.declared.ask.LineFault.{LineFault}
use Rattle.sign_script.specs.declared.ask.LineFault.TheVariants as fault
use Rattle.sign_script.specs.declared.question.Query.{Query}
use Rattle.sign_script.specs.declared.question.Query.TheVariants as query
use Rattle.sign_script.specs.declared.question.Question.{Question}
use Rattle.sign_script.specs.declared.question.Question.TheVariants as question
use Rattle.sign_script.proofs.AskLemmas.{found, only, unbare}
use Rattle.sign_script.proofs.FieldsFound.{at_end_found, last_number_found, next_message_found, next_number_found, text_found}
use Rattle.sign_script.proofs.FieldsRead.{last_number_read, next_message_read, next_number_read, text_read}
use Rattle.sign_script.proofs.PartsLemmas.{bind_some, fields_tail, has_no_space, parted_parts, parted_word, tail, tail_none}
use Rattle.sign_script.proofs.WordLemmas.{tested}

query_word_is : (w : List ℕ) (u : Query) → query_of w ≡ Some u → w ≡ query_word u
unfolding query_of
query_word_is w u h =
    let next = tested query_word w u in
    next query.Colours _ (next query.Verdict _ (next query.Crc _ (next query.Next _ (next query.Code _ (next query.Help _ (next query.VerdictHex _ (next query.CrcHex _ (next query.Save _ (next query.Restore None (λ none. cc)))))))))) h

-- a line that begins with such a word is none of a script, and its word has no space
record BeginsQuery (q : Query) : Type 0 where
  plain : has_no_space (query_word q) ≡ true
  is : query_of (query_word q) ≡ Some q
  other : verb_of (query_word q) ≡ None
  asks : (parts : List ℕ) → ask_of (query_word q ++ parts) ≡ ask_of_line (query_word q ++ parts)

query_begins : (q : Query) → BeginsQuery q
unfolding query_of verb_of
query_begins query.Colours = record { plain = refl; is = refl; other = refl; asks = λ parts. refl }
query_begins query.Verdict = record { plain = refl; is = refl; other = refl; asks = λ parts. refl }
query_begins query.Crc = record { plain = refl; is = refl; other = refl; asks = λ parts. refl }
query_begins query.Next = record { plain = refl; is = refl; other = refl; asks = λ parts. refl }
query_begins query.Code = record { plain = refl; is = refl; other = refl; asks = λ parts. refl }
query_begins query.Help = record { plain = refl; is = refl; other = refl; asks = λ parts. refl }
query_begins query.VerdictHex = record { plain = refl; is = refl; other = refl; asks = λ parts. refl }
query_begins query.CrcHex = record { plain = refl; is = refl; other = refl; asks = λ parts. refl }
query_begins query.Save = record { plain = refl; is = refl; other = refl; asks = λ parts. refl }
query_begins query.Restore = record { plain = refl; is = refl; other = refl; asks = λ parts. refl }

module _ (line : List ℕ) where
  abbrev left : Option (List ℕ)
  left = (parted line).rest

  -- a line is its word and what is left after it
  line_is : (q : Query) → query_of (parted line).field ≡ Some q → line ≡ query_word q ++ tail left
  line_is q is = parted_parts line ∙ ap (λ (w : List ℕ). w ++ tail left) (query_word_is (parted line).field q is)

  abbrev spells : Question → Type 0
  spells q = IsAsked q line

  code_found : (a : Question) → query_of (parted line).field ≡ Some query.Code → more_with query.Code left ≡ Some a → spells a
  code_found a is h =
      let message = bind_some (next_message left) _ a h in
      let duration = bind_some (next_number 65535 message.0.1) _ a message.2 in
      let priority = bind_some (last_number 255 duration.0.1) _ a duration.2 in
      let last = last_number_found 255 priority.0 duration.0.1 priority.1 in
      let behind = next_number_found 65535 (Number 255 priority.0 ∷ []) duration.0 message.0.1 duration.1 last in
      let fields = next_message_found (Number 65535 duration.0.0 ∷ Number 255 priority.0 ∷ []) message.0 left message.1 behind in
      subst spells (same_Some _ a priority.2) (tail left, line_is query.Code is, fields)

  query_found : (q : Query) (a : Question) → query_of (parted line).field ≡ Some q → more_with q left ≡ Some a → spells a
  query_found query.Colours a is h =
      let e = at_end_found question.Colours a left h in
      subst spells e.0 (tail left, line_is query.Colours is, e.1)
  query_found query.Verdict a is h = subst spells (same_Some _ a h) (tail left, line_is query.Verdict is, text_found left)
  query_found query.Crc a is h = subst spells (same_Some _ a h) (tail left, line_is query.Crc is, text_found left)
  query_found query.Next a is h =
      let e = at_end_found question.Next a left h in
      subst spells e.0 (tail left, line_is query.Next is, e.1)
  query_found query.Code a is h = code_found a is h
  query_found query.Help a is h =
      let e = at_end_found question.Help a left h in
      subst spells e.0 (tail left, line_is query.Help is, e.1)
  query_found query.VerdictHex a is h = subst spells (same_Some _ a h) (tail left, line_is query.VerdictHex is, text_found left)
  query_found query.CrcHex a is h = subst spells (same_Some _ a h) (tail left, line_is query.CrcHex is, text_found left)
  query_found query.Save a is h =
      let e = at_end_found question.Save a left h in
      subst spells e.0 (tail left, line_is query.Save is, e.1)
  query_found query.Restore a is h = subst spells (same_Some _ a h) (tail left, line_is query.Restore is, text_found left)

  more_found : (a : Question) → more_asked line ≡ Some a → spells a
  unfolding more_asked
  more_found a h =
      let q = bind_some (query_of (parted line).field) _ a h in
      query_found q.0 a q.1 q.2

-- what a line asks for is spelled so
found_by : (line : List ℕ) (a : Question) (asked : Option Ask) → ask_of line ≡ asked → question_of line ≡ Some a → IsAsked a line
found_by line a (Some ask) is h =
    let script = rw is at h in
    subst (λ (q : Question). IsAsked q line) (same_Some (question.Script ask) a script) (found line ask is)
found_by line a None is h =
    let more = rw is at h in
    more_found line a more

pub question_found : (line : List ℕ) (a : Question) → question_of line ≡ Some a → IsAsked a line
question_found line a h = found_by line a (ask_of line) refl h

-- a line is read by its word and what is left after it
line_read : (q : Query) (fields : List Field) (line : List ℕ) (asked : Option Question) → IsLine (query_word q) fields line
    → ((rest : Option (List ℕ)) → AreFields fields (tail rest) → more_with q rest ≡ asked) → question_of line ≡ asked
unfolding ask_of_line more_asked
line_read q fields line asked h reads =
    let rest = fields_tail fields h.0 h.2 in
    let begins = query_begins q in
    let is : line ≡ query_word q ++ tail rest.0 = h.1 ∙ ap (λ (parts : List ℕ). query_word q ++ parts) rest.1 in
    let none : ask_of (query_word q ++ tail rest.0) ≡ None = begins.asks (tail rest.0) ∙ rw (parted_word (query_word q) rest.0 begins.plain, begins.other) refl in
    ap question_of is ∙ rw none (rw (parted_word (query_word q) rest.0 begins.plain, begins.is) (reads rest.0 (rw (← rest.1) h.2)))

-- what is spelled is asked for
pub question_only : (line : List ℕ) (a : Question) → IsAsked a line → question_of line ≡ Some (bare_question a)
question_only line (question.Script ask) h = rw (only line ask h) refl
question_only line question.Colours h = line_read query.Colours [] line _ h (λ rest are. rw (tail_none rest are) refl)
question_only line (question.Verdict text) h = line_read query.Verdict (Text text.now ∷ []) line _ h (λ rest are. rw (text_read text.now rest are) refl)
question_only line (question.Crc text) h = line_read query.Crc (Text text.now ∷ []) line _ h (λ rest are. rw (text_read text.now rest are) refl)
question_only line question.Next h = line_read query.Next [] line _ h (λ rest are. rw (tail_none rest are) refl)
question_only line (question.Code message duration priority) h =
    line_read query.Code (of_message message (Number 65535 duration ∷ Number 255 priority ∷ [])) line _ h (λ rest are.
    let next = next_message_read message (Number 65535 duration ∷ Number 255 priority ∷ []) rest are in
    let minutes = next_number_read 65535 duration (Number 255 priority ∷ []) next.0 next.2 in
    rw (next.1, minutes.1, last_number_read 255 priority minutes.0 minutes.2) refl)
question_only line question.Help h = line_read query.Help [] line _ h (λ rest are. rw (tail_none rest are) refl)
question_only line (question.VerdictHex digits) h = line_read query.VerdictHex (Text digits.now ∷ []) line _ h (λ rest are. rw (text_read digits.now rest are) refl)
question_only line (question.CrcHex digits) h = line_read query.CrcHex (Text digits.now ∷ []) line _ h (λ rest are. rw (text_read digits.now rest are) refl)
question_only line question.Save h = line_read query.Save [] line _ h (λ rest are. rw (tail_none rest are) refl)
question_only line (question.Restore digits) h = line_read query.Restore (Text digits.now ∷ []) line _ h (λ rest are. rw (text_read digits.now rest are) refl)

-- where octets lie says nothing of how they are spelled
unbare_question : (line : List ℕ) (a : Question) → IsAsked (bare_question a) line → IsAsked a line
unbare_question line (question.Script ask) h = unbare line ask h
unbare_question line question.Colours h = h
unbare_question line (question.Verdict text) h = h
unbare_question line (question.Crc text) h = h
unbare_question line question.Next h = h
unbare_question line (question.Code message duration priority) h = h
unbare_question line question.Help h = h
unbare_question line (question.VerdictHex digits) h = h
unbare_question line (question.CrcHex digits) h = h
unbare_question line question.Save h = h
unbare_question line (question.Restore digits) h = h

-- what a line gives is spelled so
pub gives_asked : (r : Result Question LineFault) (line : List ℕ) → Gives bare_question r (question_of line) → IfOk r (λ a. IsAsked a line)
gives_asked (Ok a) line h = unbare_question line a (question_found line (bare_question a) h)
gives_asked (Err e) line h = tt

-- a bad line asks for nothing
pub gives_unasked : (r : Result Question LineFault) (line : List ℕ) → Gives bare_question r (question_of line) → r ≡ Err fault.Bad
    → (a : Question) → IsAsked a line → ⊥
gives_unasked (Ok x) line h is a spelled = cc
gives_unasked (Err fault.Bad) line h is a spelled = none-some (bare_question a) (sym h ∙ question_only line a spelled)
gives_unasked (Err fault.Memory) line h is a spelled = cc

-- what is read of a line of a script is read of a line of a served sign
pub question_script : (line : List ℕ) (a : Ask) → ask_of line ≡ Some (bare a) → question_of line ≡ Some (bare_question (question.Script a))
question_script line a h = rw h refl

-- and what is none of a script may be one of the others
pub question_more : (line : List ℕ) → ask_of line ≡ None → question_of line ≡ more_asked line
question_more line h = rw h refl

pub question_bad : (line : List ℕ) (e : LineFault) → e ≡ fault.Bad → Gives bare (Err e) (ask_of line) → question_of line ≡ more_asked line
question_bad line fault.Bad is gives = question_more line gives
question_bad line fault.Memory is gives = cc
