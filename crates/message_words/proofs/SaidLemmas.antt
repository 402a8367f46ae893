-- On the way through a message: what its items say.
use Rattle.std.proofs.Common.{◌≡◌, ℕ, ◌+◌, List, [], ◌∷◌, ◌++◌, drop, length, Option, None, Some, sym, ap, ◌∙◌, append-nil, append_assoc}
use Rattle.multi_token.specs.Reading.{reading}
use Rattle.multi_token.specs.Spelling.{spelling}
use Rattle.multi_tag.specs.declared.tag.Tag.{Tag}
use Rattle.multi_tag.specs.declared.tag.Tag.TheVariants.{NewPage, NewLine, LineJust, PageJust, Font, CharSpacing, CharSpacingEnd, PageTime, Flash, FlashEnd, Fore, Back, Rect, HexChar}
use Rattle.multi_meaning.specs.Meaning.{Meaning, meaning}
use Rattle.multi_layout.specs.Items.{IsNext, IsSaid}
use Rattle.multi_layout.specs.declared.item.StringItem.{StringItem}
use Rattle.message_words.specs.Said.{said_at, said_from, tag_said}
use Rattle.message_words.specs.declared.said.Said.{Said}

-- what is read of an item is what it says
tag_is : (item : Meaning) (tag : Option Tag) → IsSaid item tag → tag_said item ≡ tag
tag_is item None (code, is) = ap tag_said is
tag_is item (Some NewPage) is = ap tag_said is
tag_is item (Some (NewLine gap)) is = ap tag_said is
tag_is item (Some (LineJust just)) is = ap tag_said is
tag_is item (Some (PageJust just)) is = ap tag_said is
tag_is item (Some (Font pick)) is = ap tag_said is
tag_is item (Some (CharSpacing pixels)) is = ap tag_said is
tag_is item (Some CharSpacingEnd) is = ap tag_said is
tag_is item (Some (PageTime on off)) is = ap tag_said is
tag_is item (Some (Flash first on off)) is = ap tag_said is
tag_is item (Some FlashEnd) is = ap tag_said is
tag_is item (Some (Fore colour)) is = ap tag_said is
tag_is item (Some (Back colour)) is = ap tag_said is
tag_is item (Some (Rect x y w h)) is = ap tag_said is
tag_is item (Some (HexChar number)) is = ap tag_said is

-- one more item is passed
pub next_said : (octets : List ℕ) (at : ℕ) (read : StringItem) (old new all : List Said) → IsNext octets at read → new ≡ old ++ record { at = at; end = at + read.len; tag = read.tag } ∷ []
    → all ≡ old ++ said_from at (reading (drop at octets)).items → all ≡ new ++ said_from (at + read.len) (reading (drop (at + read.len) octets)).items
next_said octets at read old new all is grown so_far =
    let one : Said = record { at = at; end = at + read.len; tag = read.tag } in
    let rest = (reading (drop (at + read.len) octets)).items in
    let first : said_at at is.item ≡ one = ap (λ n. record { at = at; end = at + n; tag = tag_said (meaning is.item) }) (sym is.len) ∙ ap (λ t. record { at = at; end = at + read.len; tag = t }) (tag_is (meaning is.item) read.tag is.is) in
    so_far ∙ ap (λ items. old ++ said_from at items) is.next ∙ ap (λ (s : Said). old ++ s ∷ said_from (at + length (spelling is.item)) rest) first ∙ ap (λ n. old ++ one ∷ said_from (at + n) rest) (sym is.len)
    ∙ sym (ap (λ l. l ++ said_from (at + read.len) rest) grown ∙ append_assoc old (one ∷ []) (said_from (at + read.len) rest))

-- none is left
pub all_said : (octets : List ℕ) (at : ℕ) (all old : List Said) → (reading (drop at octets)).items ≡ [] → all ≡ old ++ said_from at (reading (drop at octets)).items → old ≡ all
all_said octets at all old none so_far = sym (so_far ∙ ap (λ items. old ++ said_from at items) none ∙ append-nil old)
