-- Justifications and their numbers.
use Rattle.std.proofs.Common.{◌≡◌, ◌≤◌, refl, sym, ap, ◌∙◌, lit≤}
use Rattle.multi_tag.specs.declared.just.LineJust.{LineJust}
use Rattle.multi_tag.specs.declared.just.LineJust.TheVariants.{Left}
use Rattle.multi_tag.specs.declared.just.PageJust.{PageJust}
use Rattle.multi_tag.specs.declared.just.PageJust.TheVariants.{Top}
use Rattle.multi_tag.specs.Just.{line_number, page_just_of, page_number}

-- the number of a justification is a known one
pub line_number_known : (just : LineJust) → (2 ≤ line_number just) × (line_number just ≤ 5)
line_number_known Left = (lit≤ tt, lit≤ tt)
line_number_known _ = (lit≤ tt, lit≤ tt)

pub page_number_known : (just : PageJust) → (2 ≤ page_number just) × (page_number just ≤ 4)
page_number_known Top = (lit≤ tt, lit≤ tt)
page_number_known _ = (lit≤ tt, lit≤ tt)

-- page justifications with the same number are the same
pub page_just_back : (just : PageJust) → page_just_of (page_number just) ≡ just
page_just_back Top = refl
page_just_back _ = refl

pub same_page_just : (a b : PageJust) → page_number a ≡ page_number b → a ≡ b
same_page_just a b same = sym (page_just_back a) ∙ ap page_just_of same ∙ page_just_back b
