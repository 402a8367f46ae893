-- What is shown of a text, in PNG.
use Rattle.std.proofs.Common.{◌≡◌, ℕ, ◌*◌, Bool, List, Some, ap, ◌∙◌}
use Rattle.sign_font.specs.Sign.{SignData}
use Rattle.multi_meaning.specs.declared.times.Shown.{Shown}
use Rattle.page_picture.specs.Palette.{palette}
use Rattle.page_picture.specs.Shown.{colours}
use Rattle.png.specs.Png.{Picture}
use Rattle.png.specs.Reader.{picture_of}
use Rattle.message_film.specs.Looks.{points_of}
use Rattle.message_film.specs.Moving.{seen_points}
use Rattle.message_film.proofs.MovingLemmas
use Rattle.message_picture.specs.Drawn.{IsPngOf}

-- a picture of points
abbrev picture : ℕ → ℕ → List ℕ → List ℕ → Picture
picture width height of_points points = record { width = width; height = height; palette = of_points; pixels = points }

-- the picture of colours that are those of what is shown
pub is_png : (side width height : ℕ) (classic : Bool) (sign : SignData) (text drawn : List ℕ) (at : Shown) (file : List ℕ) → width ≡ sign.width → height ≡ sign.height
    → classic ≡ sign.classic → drawn ≡ colours sign text at
    → picture_of file ≡ Some (record { width = side * width; height = side * height; palette = palette classic; pixels = points_of side width height drawn })
    → IsPngOf side sign (seen_points side sign text at) file
is_png side width height classic sign text drawn at file wide high same is means =
    means
    ∙ ap (λ p. Some (picture (side * width) (side * height) (palette classic) p)) (MovingLemmas.moment side width height sign text drawn at wide high is)
    ∙ ap (λ w. Some (picture (side * w) (side * height) (palette classic) (seen_points side sign text at))) wide
    ∙ ap (λ h. Some (picture (side * sign.width) (side * h) (palette classic) (seen_points side sign text at))) high
    ∙ ap (λ b. Some (picture (side * sign.width) (side * sign.height) (palette b) (seen_points side sign text at))) same
