-- The next item of a text, and what it says.
use Rattle.std.proofs.Common.{◌≡◌, ℕ, ◌+◌, true, List, [], ◌∷◌, ◌++◌, drop, length, Option, Some, None, Err, refl, sym, ap, ◌∙◌, arith, append_assoc}
use Rattle.std.proofs.Math.Seq.{drop-length}
use Rattle.std.proofs.lemmas.List.{length-append}
use Rattle.std.proofs.lemmas.List.Elements.{All-cons, All-nil}
use Rattle.multi_token.specs.declared.token.Token.{Token}
use Rattle.multi_token.specs.Reading.{reading}
use Rattle.multi_token.specs.Spelling.{BeginsWith, HasNoItem, IsItem, IsReading, Item, spell, spelling}
use Rattle.multi_token.specs.Tokens.{IsTokenOf, item_of}
use Rattle.multi_token.proofs.ReadingLemmas.{each_string_has_a_reading, spelling_some}
use Rattle.multi_token.proofs.SpellingLemmas.{one_reading}
use Rattle.multi_tag.specs.declared.tag.Tag.{Tag}
use Rattle.multi_tag.specs.declared.tag.TagFault.{TagFault}
use Rattle.multi_tag.specs.declared.tag.TagFault.TheVariants.{Unsupported, Value}
use Rattle.multi_tag.specs.declared.tag.Tag.TheVariants.{NewPage, NewLine, LineJust, PageJust, Font, CharSpacing, CharSpacingEnd, PageTime, Flash, FlashEnd, Fore, Back, Rect, HexChar}
use Rattle.multi_meaning.specs.Meaning.{Does, Faulty, Meaning, is_new_page, meaning_of_tag}
use Rattle.multi_layout.specs.Items.{IsSaid, is_page_said}

-- what is left after an item is read as if it stood alone
reading_next : (octets rest : List ℕ) (item : Item) → BeginsWith octets item rest → (reading octets).items ≡ item ∷ (reading rest).items
reading_next octets rest item begins =
    let behind = each_string_has_a_reading rest in
    let whole : IsReading octets (item ∷ (reading rest).items) (reading rest).rest = record {
      each = All-cons IsItem item (reading rest).items begins.0 behind.each;
      spelled = begins.1 ∙ ap (λ l. spelling item ++ l) behind.spelled ∙ sym (append_assoc (spelling item) (spell (reading rest).items) (reading rest).rest);
      ends = behind.ends;
    } in
    (one_reading octets (reading octets).items (item ∷ (reading rest).items) (reading octets).rest (reading rest).rest (each_string_has_a_reading octets) whole).0

pub token_next : (octets : List ℕ) (token : Token) → IsTokenOf octets token → (reading (drop token.at octets)).items ≡ item_of octets token ∷ (reading (drop (token.at + token.len) octets)).items
token_next octets token is = reading_next (drop token.at octets) (drop (token.at + token.len) octets) (item_of octets token) is.begins

pub items_none : (octets : List ℕ) → HasNoItem octets → (reading octets).items ≡ []
items_none octets none =
    let empty : IsReading octets [] octets = record { each = All-nil IsItem; spelled = refl; ends = none } in
    (one_reading octets (reading octets).items [] (reading octets).rest octets (each_string_has_a_reading octets) empty).0

nothing_begins : HasNoItem []
nothing_begins item rest begins =
    let some = spelling_some item in
    let long = ap length begins.1 ∙ length-append (spelling item) rest in
    omega (arith, some, long)

pub items_end : (octets : List ℕ) (at : ℕ) → at ≡ length octets → (reading (drop at octets)).items ≡ []
items_end octets at end = ap (λ l. (reading l).items) (ap (λ n. drop n octets) end ∙ drop-length octets) ∙ items_none [] nothing_begins

-- a tag at fault
pub faulty : (item : Meaning) (fault : TagFault) → item ≡ meaning_of_tag (Err fault) → (code : ℕ) × (item ≡ Faulty code)
faulty item Unsupported is = (3, is)
faulty item Value is = (4, is)

-- a page begins after what says so alone
pub page_said : (item : Meaning) (said : Option Tag) → IsSaid item said → is_new_page item ≡ is_page_said said
page_said item None (code, is) = ap is_new_page is
page_said item (Some NewPage) is = ap is_new_page is
page_said item (Some (NewLine gap)) is = ap is_new_page is
page_said item (Some (LineJust just)) is = ap is_new_page is
page_said item (Some (PageJust just)) is = ap is_new_page is
page_said item (Some (Font pick)) is = ap is_new_page is
page_said item (Some (CharSpacing pixels)) is = ap is_new_page is
page_said item (Some CharSpacingEnd) is = ap is_new_page is
page_said item (Some (PageTime on off)) is = ap is_new_page is
page_said item (Some (Flash first on off)) is = ap is_new_page is
page_said item (Some FlashEnd) is = ap is_new_page is
page_said item (Some (Fore colour)) is = ap is_new_page is
page_said item (Some (Back colour)) is = ap is_new_page is
page_said item (Some (Rect x y w h)) is = ap is_new_page is
page_said item (Some (HexChar number)) is = ap is_new_page is

pub new_page_is : (item : Meaning) → is_new_page item ≡ true → item ≡ Does NewPage
new_page_is (Does NewPage) is = refl
new_page_is _ is = absurd cc
