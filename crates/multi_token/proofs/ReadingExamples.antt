-- Items, their spelling and the reading of strings, computed.
use Rattle.std.proofs.Common.{◌≡◌, ℕ, true, false, List, [], ◌∷◌, Some, None, codes, refl, inl, inr, arith}
use Rattle.std.specs.List.{All}
use Rattle.std.proofs.lemmas.List.Elements.{All-from_recursion}
use Rattle.multi_token.specs.Spelling.{Char, Tag, IsPlain, IsBody, IsItem, BeginsWith, spelling, spell}
use Rattle.multi_token.specs.Tokens.{IsEndedBy}
use Rattle.multi_token.specs.Reading.{Reading, is_plain, reading, read_items, read_item}
use Rattle.multi_token.specs.Broken.{IsOpen, StaysBroken, CanBeMended}

-- SPELLING

an_octet_stands_for_itself : spelling (Char 65) ≡ codes "A"
an_octet_stands_for_itself = refl

an_opening_bracket_is_doubled : spelling (Char 91) ≡ codes "[["
an_opening_bracket_is_doubled = refl

a_closing_bracket_is_doubled : spelling (Char 93) ≡ codes "]]"
a_closing_bracket_is_doubled = refl

octets_beside_brackets_are_not_doubled : spell (Char 90 ∷ Char 92 ∷ Char 94 ∷ []) ≡ 90 ∷ 92 ∷ 94 ∷ []
octets_beside_brackets_are_not_doubled = refl

a_body_stands_between_brackets : spelling (Tag (codes "np")) ≡ codes "[np]"
a_body_stands_between_brackets = refl

items_are_spelled_one_by_one : spell (Char 65 ∷ Tag (codes "nl") ∷ Char 91 ∷ []) ≡ codes "A[nl][["
items_are_spelled_one_by_one = refl

a_string_begins_with_its_first_item : BeginsWith (codes "AB") (Char 65) (codes "B")
a_string_begins_with_its_first_item = (tt, refl)

brackets_are_not_plain : (IsPlain 91 → ⊥) × (IsPlain 93 → ⊥)
brackets_are_not_plain = (λ p. p.0 refl, λ p. p.1 refl)

octets_beside_brackets_are_plain : IsPlain 90 × (IsPlain 92 × IsPlain 94)
octets_beside_brackets_are_plain = ((λ e. omega (arith, e), λ e. omega (arith, e)), ((λ e. omega (arith, e), λ e. omega (arith, e)), (λ e. omega (arith, e), λ e. omega (arith, e))))

a_body_has_an_octet : IsBody [] → ⊥
a_body_has_an_octet = λ b. b.0 refl

each_character_is_an_item : IsItem (Char 91)
each_character_is_an_item = tt

an_opening_bracket_ends_plain_octets : IsEndedBy (codes "A[") 1 (Some 91)
an_opening_bracket_ends_plain_octets = (refl, inl refl)

a_closing_bracket_ends_plain_octets : IsEndedBy (codes "A]") 1 (Some 93)
a_closing_bracket_ends_plain_octets = (refl, inr refl)

the_end_ends_plain_octets : IsEndedBy (codes "A") 1 None
the_end_ends_plain_octets = (refl, tt)

-- READING

unfoldable read : List ℕ → Reading
unfolding reading read_items read_item
read octets = reading octets

brackets_alone_are_not_plain : (is_plain 90 ≡ true) × ((is_plain 91 ≡ false) × (is_plain 93 ≡ false))
brackets_alone_are_not_plain = (refl, (refl, refl))

an_empty_string_has_no_item : read [] ≡ record { items = []; rest = [] }
unfolding read
an_empty_string_has_no_item = refl

characters_and_tags : read (codes "A[nl]B") ≡ record { items = Char 65 ∷ Tag (codes "nl") ∷ Char 66 ∷ []; rest = [] }
unfolding read
characters_and_tags = refl

doubled_brackets_are_characters : read (codes "[[]]") ≡ record { items = Char 91 ∷ Char 93 ∷ []; rest = [] }
unfolding read
doubled_brackets_are_characters = refl

a_doubled_bracket_comes_before_a_tag : read (codes "[[np]") ≡ record { items = Char 91 ∷ Char 110 ∷ Char 112 ∷ []; rest = codes "]" }
unfolding read
a_doubled_bracket_comes_before_a_tag = refl

reading_ends_at_a_lone_bracket : read (codes "A]B") ≡ record { items = Char 65 ∷ []; rest = codes "]B" }
unfolding read
reading_ends_at_a_lone_bracket = refl

reading_ends_at_a_closing_bracket_at_the_end : read (codes "A]") ≡ record { items = Char 65 ∷ []; rest = codes "]" }
unfolding read
reading_ends_at_a_closing_bracket_at_the_end = refl

an_empty_tag_is_no_item : read (codes "[]A") ≡ record { items = []; rest = codes "[]A" }
unfolding read
an_empty_tag_is_no_item = refl

a_tag_has_an_end : read (codes "A[nl") ≡ record { items = Char 65 ∷ []; rest = codes "[nl" }
unfolding read
a_tag_has_an_end = refl

an_opening_bracket_alone_is_no_item : read (codes "[") ≡ record { items = []; rest = codes "[" }
unfolding read
an_opening_bracket_alone_is_no_item = refl

no_bracket_opens_in_a_body : read (codes "[n[l]") ≡ record { items = []; rest = codes "[n[l]" }
unfolding read
no_bracket_opens_in_a_body = refl

octets_beside_brackets_are_characters : read (90 ∷ 92 ∷ 94 ∷ []) ≡ record { items = Char 90 ∷ Char 92 ∷ Char 94 ∷ []; rest = [] }
unfolding read
octets_beside_brackets_are_characters = refl

-- BROKEN BRACKETS

a_closing_bracket_at_the_end_is_open : IsOpen (codes "]")
a_closing_bracket_at_the_end_is_open = inl refl

an_opening_bracket_at_the_end_is_open : IsOpen (codes "[")
an_opening_bracket_at_the_end_is_open = inr ([], All-from_recursion IsPlain [] tt, refl)

a_letter : All IsPlain (codes "n")
a_letter = All-from_recursion IsPlain (codes "n") ((λ e. omega (arith, e), λ e. omega (arith, e)), tt)

an_opening_bracket_with_octets_behind_it_is_open : IsOpen (codes "[n")
an_opening_bracket_with_octets_behind_it_is_open = inr (codes "n", a_letter, refl)

what_follows_mends_open_octets : CanBeMended (codes "[n")
what_follows_mends_open_octets = (codes "]", Tag (codes "n"), ((λ e. cc, a_letter), refl))

open_octets_do_not_stay_broken : StaysBroken (codes "[n") → ⊥
open_octets_do_not_stay_broken = λ stays. stays (codes "]") (Tag (codes "n")) [] ((λ e. cc, a_letter), refl)
