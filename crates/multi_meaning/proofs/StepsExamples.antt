-- The steps of items and of what stands after them, computed.
use Rattle.multi_meaning.proofs.Common.{◌≡◌, [], ◌∷◌, map, refl}
use Rattle.multi_token.specs.Spelling.{Char}
use Rattle.multi_meaning.specs.Steps.{item_steps, items_steps, rest_steps}

an_octet_is_read_and_looked_up : item_steps 1 (Char 65) ≡ 2
an_octet_is_read_and_looked_up = refl

a_doubled_bracket_takes_both_twice : item_steps 2 (Char 91) ≡ 4
a_doubled_bracket_takes_both_twice = refl

three_characters : items_steps 4 (Char 65 ∷ Char 93 ∷ Char 73 ∷ []) ≡ 8
three_characters = refl

the_end_is_read : rest_steps [] ≡ 1
the_end_is_read = refl

-- a closing bracket, an opening one at the end, and one with two octets after it before the next bracket
broken_brackets : map rest_steps ((93 ∷ []) ∷ (91 ∷ []) ∷ (91 ∷ 110 ∷ 108 ∷ 91 ∷ []) ∷ []) ≡ 3 ∷ 4 ∷ 9 ∷ []
broken_brackets = refl
