-- Justifications, and their numbers.
use Rattle.std.proofs.Common.{◌≡◌, [], ◌∷◌, map, refl}
use Rattle.multi_tag.specs.declared.just.LineJust.{LineJust}
use Rattle.multi_tag.specs.declared.just.LineJust.TheVariants.{Left, Centre, Right, Full}
use Rattle.multi_tag.specs.declared.just.PageJust.{PageJust}
use Rattle.multi_tag.specs.declared.just.PageJust.TheVariants.{Top, Middle, Bottom}
use Rattle.multi_tag.specs.Just.{line_number, page_number, line_just_of, page_just_of}
use Rattle.multi_tag.proofs.JustLemmas.{page_just_back}

numbers_of_lines : map line_number (Left ∷ Centre ∷ Right ∷ Full ∷ []) ≡ 2 ∷ 3 ∷ 4 ∷ 5 ∷ []
numbers_of_lines = refl

numbers_of_pages : map page_number (Top ∷ Middle ∷ Bottom ∷ []) ≡ 2 ∷ 3 ∷ 4 ∷ []
numbers_of_pages = refl

-- a number stands for the justification that has it
each_line_number_stands_for_its_own : (just : LineJust) → line_just_of (line_number just) ≡ just
each_line_number_stands_for_its_own Left = refl
each_line_number_stands_for_its_own _ = refl

each_page_number_stands_for_its_own : (just : PageJust) → page_just_of (page_number just) ≡ just
each_page_number_stands_for_its_own = page_just_back
