-- Bodies, and their tags.
use Rattle.std.proofs.Common.{◌≡◌, ℕ, true, false, List, [], ◌∷◌, map, Some, None, Result, Ok, Err, codes, refl}
use Rattle.multi_tag.specs.declared.just.LineJust.TheVariants.{Left, Centre, Right, Full}
use Rattle.multi_tag.specs.declared.just.PageJust.TheVariants.{Top, Middle, Bottom}
use Rattle.multi_tag.specs.declared.tag.Tag.{Tag}
use Rattle.multi_tag.specs.declared.tag.TagFault.{TagFault}
use Rattle.multi_tag.specs.declared.tag.Tag.TheVariants.{NewPage, NewLine, LineJust, PageJust, Font, CharSpacing, CharSpacingEnd, PageTime, Flash, FlashEnd, Fore, Back, Rect, HexChar}
use Rattle.multi_tag.specs.declared.tag.TagFault.TheVariants.{Unsupported, Value}
use Rattle.multi_tag.specs.TagOf.{tag_of}

unfoldable tags_of : List (List ℕ) → List (Result Tag TagFault)
unfolding tag_of
tags_of bodies = map tag_of bodies

times : tags_of (codes "flT5o05" ∷ codes "flo7t3" ∷ codes "flo" ∷ codes "pto5" ∷ [])
    ≡ Ok (Flash false (Some 5) (Some 5)) ∷ Ok (Flash true (Some 3) (Some 7)) ∷ Ok (Flash true None None) ∷ Ok (PageTime None (Some 5)) ∷ []
unfolding tags_of
times = refl

other_tags : tags_of (codes "fo1,1a2B" ∷ codes "tr1,1,0,99999" ∷ codes "/SC" ∷ codes "cf" ∷ [])
    ≡ Ok (Font (Some (record { number = 1; version = Some 6699 }))) ∷ Ok (Rect 1 1 0 99999) ∷ Ok CharSpacingEnd ∷ Ok (Fore None) ∷ []
unfolding tags_of
other_tags = refl

-- a number out of range, six digits, what isn't the form of its name, and a name that isn't listed
faults : tags_of (codes "jl1" ∷ codes "nl000001" ∷ codes "foo" ∷ codes "hd41" ∷ []) ≡ Err Value ∷ Err Value ∷ Err Value ∷ Err Unsupported ∷ []
unfolding tags_of
faults = refl

-- THE RANGES OF THE TABLE

gaps_of_lines : tags_of (codes "nl" ∷ codes "nl0" ∷ codes "nl255" ∷ codes "nl256" ∷ codes "nl00255" ∷ codes "nl000255" ∷ codes "nla" ∷ codes "nl9" ∷ codes "nl:" ∷ codes "nl/" ∷ [])
    ≡ Ok (NewLine None) ∷ Ok (NewLine (Some 0)) ∷ Ok (NewLine (Some 255)) ∷ Err Value ∷ Ok (NewLine (Some 255)) ∷ Err Value ∷ Err Value ∷ Ok (NewLine (Some 9)) ∷ Err Value
    ∷ Err Value ∷ []
unfolding tags_of
gaps_of_lines = refl

justifications_of_lines : tags_of (codes "jl" ∷ codes "jl1" ∷ codes "jl2" ∷ codes "jl3" ∷ codes "jl4" ∷ codes "jl5" ∷ codes "jl6" ∷ [])
    ≡ Ok (LineJust None) ∷ Err Value ∷ Ok (LineJust (Some Left)) ∷ Ok (LineJust (Some Centre))
    ∷ Ok (LineJust (Some Right)) ∷ Ok (LineJust (Some Full)) ∷ Err Value ∷ []
unfolding tags_of
justifications_of_lines = refl

justifications_of_pages : tags_of (codes "jp" ∷ codes "jp1" ∷ codes "jp2" ∷ codes "jp3" ∷ codes "jp4" ∷ codes "jp5" ∷ [])
    ≡ Ok (PageJust None) ∷ Err Value ∷ Ok (PageJust (Some Top)) ∷ Ok (PageJust (Some Middle)) ∷ Ok (PageJust (Some Bottom)) ∷ Err Value ∷ []
unfolding tags_of
justifications_of_pages = refl

fonts : tags_of (codes "fo" ∷ codes "fo0" ∷ codes "FO01" ∷ codes "fo255" ∷ codes "fo256" ∷ codes "fo0,1" ∷ codes "fo1,0" ∷ codes "fo255,ffff" ∷ codes "fo256,1" ∷ codes "fo1,10000"
    ∷ codes "fo1," ∷ [])
    ≡ Ok (Font None) ∷ Err Value ∷ Ok (Font (Some (record { number = 1; version = None }))) ∷ Ok (Font (Some (record { number = 255; version = None }))) ∷ Err Value ∷ Err Value
    ∷ Ok (Font (Some (record { number = 1; version = Some 0 }))) ∷ Ok (Font (Some (record { number = 255; version = Some 65535 }))) ∷ Err Value ∷ Err Value ∷ Err Value ∷ []
unfolding tags_of
fonts = refl

spacings_of_characters : tags_of (codes "sc" ∷ codes "sc0" ∷ codes "sc255" ∷ codes "sc256" ∷ codes "/sc" ∷ codes "/sc1" ∷ [])
    ≡ Err Value ∷ Ok (CharSpacing 0) ∷ Ok (CharSpacing 255) ∷ Err Value ∷ Ok CharSpacingEnd ∷ Err Value ∷ []
unfolding tags_of
spacings_of_characters = refl

times_of_pages : tags_of (codes "pt" ∷ codes "pt0" ∷ codes "pt255" ∷ codes "pt256" ∷ codes "PT30O0" ∷ codes "pto" ∷ codes "pt0o255" ∷ codes "pt255o0" ∷ codes "pt256o0" ∷ codes "pt0o256"
    ∷ codes "pt1t2" ∷ [])
    ≡ Ok (PageTime None None) ∷ Ok (PageTime (Some 0) None) ∷ Ok (PageTime (Some 255) None) ∷ Err Value ∷ Ok (PageTime (Some 30) (Some 0)) ∷ Ok (PageTime None None)
    ∷ Ok (PageTime (Some 0) (Some 255)) ∷ Ok (PageTime (Some 255) (Some 0)) ∷ Err Value ∷ Err Value ∷ Err Value ∷ []
unfolding tags_of
times_of_pages = refl

times_of_flashing_on_first : tags_of (codes "fl" ∷ codes "flt" ∷ codes "flt0" ∷ codes "flt255" ∷ codes "flt256" ∷ codes "fl5" ∷ codes "flto" ∷ codes "flt0o255" ∷ codes "flt255o0" ∷ codes "flt256o0"
    ∷ codes "flt0o256" ∷ [])
    ≡ Ok (Flash false None None) ∷ Ok (Flash false None None) ∷ Ok (Flash false (Some 0) None) ∷ Ok (Flash false (Some 255) None) ∷ Err Value ∷ Err Value
    ∷ Ok (Flash false None None) ∷ Ok (Flash false (Some 0) (Some 255)) ∷ Ok (Flash false (Some 255) (Some 0)) ∷ Err Value ∷ Err Value ∷ []
unfolding tags_of
times_of_flashing_on_first = refl

times_of_flashing_off_first : tags_of (codes "flo" ∷ codes "flo0" ∷ codes "flo255" ∷ codes "flo256" ∷ codes "flot" ∷ codes "flo0t255" ∷ codes "flo255t0" ∷ codes "flo256t0" ∷ codes "flo0t256" ∷ [])
    ≡ Ok (Flash true None None) ∷ Ok (Flash true None (Some 0)) ∷ Ok (Flash true None (Some 255)) ∷ Err Value ∷ Ok (Flash true None None) ∷ Ok (Flash true (Some 255) (Some 0))
    ∷ Ok (Flash true (Some 0) (Some 255)) ∷ Err Value ∷ Err Value ∷ []
unfolding tags_of
times_of_flashing_off_first = refl

tags_without_a_number : tags_of (codes "np" ∷ codes "np1" ∷ codes "/fl" ∷ codes "/fl1" ∷ codes "NP" ∷ [])
    ≡ Ok NewPage ∷ Err Value ∷ Ok FlashEnd ∷ Err Value ∷ Ok NewPage ∷ []
unfolding tags_of
tags_without_a_number = refl

colours : tags_of (codes "cf" ∷ codes "cf0" ∷ codes "cf9" ∷ codes "cf10" ∷ codes "cf255,0,0" ∷ codes "pb" ∷ codes "pb0" ∷ codes "pb9" ∷ codes "pb10" ∷ [])
    ≡ Ok (Fore None) ∷ Ok (Fore (Some 0)) ∷ Ok (Fore (Some 9)) ∷ Err Value ∷ Err Value ∷ Ok (Back None) ∷ Ok (Back (Some 0)) ∷ Ok (Back (Some 9)) ∷ Err Value ∷ []
unfolding tags_of
colours = refl

rectangles : tags_of (codes "tr0,0,0,0" ∷ codes "tr99999,99998,99997,99996" ∷ codes "tr1,2,3" ∷ codes "tr1,2,3,4,5" ∷ codes "tr" ∷ codes "tr1,,3,4" ∷ [])
    ≡ Ok (Rect 0 0 0 0) ∷ Ok (Rect 99999 99998 99997 99996) ∷ Err Value ∷ Err Value ∷ Err Value ∷ Err Value ∷ []
unfolding tags_of
rectangles = refl

characters : tags_of (codes "hc0" ∷ codes "hc1" ∷ codes "hcFFFF" ∷ codes "hc10000" ∷ codes "hcg" ∷ codes "HC0041" ∷ codes "hcFfFf" ∷ codes "hc0000" ∷ codes "hc00041" ∷ codes "hc" ∷ [])
    ≡ Err Value ∷ Ok (HexChar 1) ∷ Ok (HexChar 65535) ∷ Err Value ∷ Err Value ∷ Ok (HexChar 65) ∷ Ok (HexChar 65535) ∷ Err Value ∷ Err Value ∷ Err Value ∷ []
unfolding tags_of
characters = refl

bodies_that_no_name_begins : tags_of (codes "cb1" ∷ codes "f1" ∷ codes "ms" ∷ codes "x" ∷ codes "/" ∷ codes "/f" ∷ codes "n" ∷ [])
    ≡ Err Unsupported ∷ Err Unsupported ∷ Err Unsupported ∷ Err Unsupported ∷ Err Unsupported ∷ Err Unsupported ∷ Err Unsupported ∷ []
unfolding tags_of
bodies_that_no_name_begins = refl
