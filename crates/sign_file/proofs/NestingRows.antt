-- Worked examples of names and of what nests too deep, computed.
use Rattle.std.proofs.Common.{◌≡◌, true, false, [], ◌∷◌, map, refl, codes}
use Rattle.sign_file.specs.Names.{names, parts}
use Rattle.sign_file.specs.Nesting.{is_shallow}
use Rattle.sign_file.proofs.OnLiterals.{sign_file_on_literals}

sixteen_brackets_are_not_too_deep : is_shallow (codes "a = [{b = [{b = [{b = [{b = [{b = [{b = [{b = [{") ≡ true
unfolding sign_file_on_literals
sixteen_brackets_are_not_too_deep = refl

seventeen_brackets_are : is_shallow (codes "a = [{b = [{b = [{b = [{b = [{b = [{b = [{b = [{b = [") ≡ false
unfolding sign_file_on_literals
seventeen_brackets_are = refl

brackets_that_were_closed_are_not_counted : is_shallow (codes "a = [[[[[[[[[[[[[[[[]], []]]]]]]]]]]]]]]\nb = []") ≡ true
unfolding sign_file_on_literals
brackets_that_were_closed_are_not_counted = refl

brackets_of_a_string_are_not_counted : is_shallow (codes "a = \"[[[[[[[[\\\"[[[[[[[[[\"\n'[' = '[[[[[[[[[[[[[[[['\n") ≡ true
unfolding sign_file_on_literals
brackets_of_a_string_are_not_counted = refl

brackets_of_a_comment_are_not_counted : is_shallow (codes "a = [ # [[[[[[[[[[[[[[[[\n]") ≡ true
unfolding sign_file_on_literals
brackets_of_a_comment_are_not_counted = refl

four_parts_are_not_too_many : is_shallow (codes "[a.b.c.d]\na.b.c.d = 1.5\na.b.c.e = { a.b.c.d = 1.5, a.b.c.e = 1.5 }") ≡ true
unfolding sign_file_on_literals
four_parts_are_not_too_many = refl

five_parts_are : is_shallow (codes "a.b.c.d.e = 1") ≡ false
unfolding sign_file_on_literals
five_parts_are = refl

they_are_counted_as_five : map parts (names (codes "a.b.c.d.e = 1")) ≡ 5 ∷ []
unfolding sign_file_on_literals
they_are_counted_as_five = refl

numbers_and_dates_are_no_names : is_shallow (codes "a.b.c.d = [1.5, 2.5, 3.5, 4.5, 1979-05-27 07:32:00.5]\n") ≡ true
unfolding sign_file_on_literals
numbers_and_dates_are_no_names = refl

names_of_headers_and_pairs : names (codes "[a.b]\nc.d = 1.5 # e.f\n") ≡ (codes "a" ∷ [], codes "b") ∷ (codes "c" ∷ [], codes "d") ∷ []
unfolding sign_file_on_literals
names_of_headers_and_pairs = refl

names_inside_values : names (codes "a = [{ b.c = 1 }, { d = 'e.f', 'g.h'.i = [] }]") ≡
    ([], codes "a") ∷ (codes "b" ∷ [], codes "c") ∷ ([], codes "d") ∷ (codes "g.h" ∷ [], codes "i") ∷ []
unfolding sign_file_on_literals
names_inside_values = refl
