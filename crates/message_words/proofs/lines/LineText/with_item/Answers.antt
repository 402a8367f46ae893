use Rattle.std.proofs.Common.{◌≡◌, ◌∙◌, [], sym, ap}
use Rattle.std.specs.Option.{unwrap_or}
use Rattle.message_words.specs.OnItems.{is_letter}
use Rattle.message_words.specs.OnLines.{just_set, with_character}
use Rattle.message_words.specs.declared.lines.LineText.{LineText}
use Rattle.message_words.proofs.OnLinesLemmas
use Rattle.message_words.proofs.OnLinesLemmas.{text, text_of}
use Rattle.message_words.proofs.lines.LineText.with_item.Goals as goal

pub returns-then-ends_line : goal.returns-then-ends_line
returns-then-ends_line c = λ before is.
    let defaults = c.args.defaults in
    let one = c.args.one.now in
    let just : c.unwrap_or-just.result ≡ unwrap_or (just_set defaults one.tag) c.args.self.just = c.unwrap_or-just.ensures ∙ ap (λ o. unwrap_or o c.args.self.just) c.just_set.ensures in
    c.empty_line.ensures ∙ ap (λ j. text_of j []) just ∙ ap (λ (t : LineText). text_of (unwrap_or (just_set defaults one.tag) t.just) []) is
    ∙ OnLinesLemmas.ended defaults before one (sym c.ends_line.ensures ∙ c.if-ends_line.true)

pub returns-then-is_character : goal.returns-then-is_character
returns-then-is_character c = λ before is.
    let defaults = c.args.defaults in
    let one = c.args.one.now in
    let self = c.args.self in
    let just : c.unwrap_or-just.result ≡ unwrap_or (just_set defaults one.tag) self.just = c.unwrap_or-just.ensures ∙ ap (λ o. unwrap_or o self.just) c.just_set.ensures in
    c.with_character.ensures
    ∙ ap (λ b. with_character (text self.lead self.trail self.is_empty self.has_letters c.unwrap_or-just.result) b one.at) c.is_letter.ensures
    ∙ ap (λ j. with_character (text self.lead self.trail self.is_empty self.has_letters j) (is_letter one.tag) one.at) just
    ∙ ap (λ (t : LineText). with_character (text t.lead t.trail t.is_empty t.has_letters (unwrap_or (just_set defaults one.tag) t.just)) (is_letter one.tag) one.at) is
    ∙ OnLinesLemmas.shown defaults before one (sym c.ends_line.ensures ∙ c.if-ends_line.false) (sym c.is_character.ensures ∙ c.if-is_character.true)

pub returns : goal.returns
returns c = λ before is.
    let defaults = c.args.defaults in
    let one = c.args.one.now in
    let self = c.args.self in
    let just : c.unwrap_or-just.result ≡ unwrap_or (just_set defaults one.tag) self.just = c.unwrap_or-just.ensures ∙ ap (λ o. unwrap_or o self.just) c.just_set.ensures in
    ap (λ j. text self.lead self.trail self.is_empty self.has_letters j) just
    ∙ ap (λ (t : LineText). text t.lead t.trail t.is_empty t.has_letters (unwrap_or (just_set defaults one.tag) t.just)) is
    ∙ OnLinesLemmas.other defaults before one (sym c.ends_line.ensures ∙ c.if-ends_line.false) (sym c.is_character.ensures ∙ c.if-is_character.false)
