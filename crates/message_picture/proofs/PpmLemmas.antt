-- What is shown of a text, in PPM.
use Rattle.std.proofs.Common.{◌≡◌, ℕ, ◌*◌, Bool, List, ◌++◌, ap, ◌∙◌}
use Rattle.std.specs.List.{flat_map}
use Rattle.sign_font.specs.Sign.{SignData}
use Rattle.multi_meaning.specs.declared.times.Shown.{Shown}
use Rattle.page_picture.specs.Colours.{ColourData, colour_at}
use Rattle.page_picture.specs.Dots.{dots}
use Rattle.page_picture.specs.Palette.{shares}
use Rattle.page_picture.specs.Ppm.{head_of, scaled_ppm}
use Rattle.page_picture.specs.Shown.{AreShown, shown_colour_at}
use Rattle.message_film.specs.Moving.{seen_points}
use Rattle.message_film.proofs.MovingLemmas.{dots_same}
use Rattle.message_picture.specs.Drawn.{ppm_of}

-- the picture of colours that are those of what is shown
pub is_ppm : (side : ℕ) (sign : SignData) (text : List ℕ) (at : Shown) (page : ColourData) (classic : Bool) → AreShown sign text at page → classic ≡ sign.classic
    → scaled_ppm side classic page ≡ ppm_of side sign text at
unfolding scaled_ppm
is_ppm side sign text at page classic is same =
    ap (λ w. head_of (side * w) (side * page.height) ++ flat_map (shares classic) (dots side (colour_at page) w page.height)) is.width
    ∙ ap (λ h. head_of (side * sign.width) (side * h) ++ flat_map (shares classic) (dots side (colour_at page) sign.width h)) is.height
    ∙ ap (λ points. head_of (side * sign.width) (side * sign.height) ++ flat_map (shares classic) points)
    (dots_same side (colour_at page) (shown_colour_at sign text at) sign.width sign.height is.pixels)
    ∙ ap (λ b. head_of (side * sign.width) (side * sign.height) ++ flat_map (shares b) (seen_points side sign text at)) same
