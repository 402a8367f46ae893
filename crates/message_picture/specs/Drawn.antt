-- A text as a picture in a file.
use Rattle.std.specs.Prelude.{◌≡◌, ℕ, ◌*◌, ◌≤◌, List, [], ◌∷◌, ◌++◌, length, IfSome, Option, Some}
use Rattle.std.specs.List.{flat_map}
use Rattle.sign_font.specs.Sign.{SignData}
use Rattle.multi_meaning.specs.declared.times.Shown.{Shown}
use Rattle.multi_meaning.specs.declared.times.Shown.TheVariants as shows
use Rattle.multi_meaning.specs.Meaning.{meanings}
use Rattle.multi_meaning.specs.Times.{shown}
use Rattle.multi_meaning.specs.Verdict.{pages_of}
use Rattle.page_picture.specs.Palette.{palette, shares}
use Rattle.page_picture.specs.Ppm.{head_of}
use Rattle.page_picture.specs.Shown.{IsThere}
use Rattle.message_film.specs.declared.play.FilmFault.TheVariants as films
use Rattle.message_film.specs.Film as plays
use Rattle.message_film.specs.Film.{Lasts}
use Rattle.message_film.specs.Moving.{IsFilmOf, moving, seen_points}
use Rattle.png.specs.Reader.{picture_of}
use Rattle.message_picture.specs.declared.draw.DrawFault.{DrawFault}
use Rattle.message_picture.specs.declared.draw.DrawFault.TheVariants.{Memory, NoPage, TooLarge, TooLong}
use Rattle.message_picture.specs.declared.view.Moment.{Moment}
use Rattle.message_picture.specs.declared.view.Moment.TheVariants.{Clock, Page}
use Rattle.message_picture.specs.declared.view.View.{View}
use Rattle.message_picture.specs.declared.view.View.TheVariants.{Film, Gif, Png, Ppm}

-- what is shown of a text at a moment (own)
abbrev pub seen : SignData → List ℕ → Moment → Shown
seen sign text (Page page phase) = shows.Page page phase
seen sign text (Clock clock) = shown sign text clock

-- what is shown of a text as a file in PPM: red, green and blue of each point (own)
abbrev pub ppm_of : ℕ → SignData → List ℕ → Shown → List ℕ
ppm_of side sign text at =
    head_of (side * sign.width) (side * sign.height) ++ flat_map (shares sign.classic) (seen_points side sign text at)

-- octets are a file in PNG of these points of a sign (own)
abbrev pub IsPngOf : ℕ → SignData → List ℕ → List ℕ → Type 0
IsPngOf side sign points file =
    picture_of file
    ≡ Some (record { width = side * sign.width; height = side * sign.height; palette = palette sign.classic; pixels = points })

-- each pixel has a point at least, where a file in PNG is asked for: there is no such file without points (PNG)
abbrev pub HasPoints : ℕ → View → Type 0
HasPoints side (Png moment) = 1 ≤ side
HasPoints side view = Unit {0}

-- a film is asked for that lasts until the text begins anew, or for 1 to 600 seconds, or no film is (own)
abbrev pub AllowsSeconds : View → Type 0
AllowsSeconds (Film seconds) = IfSome seconds (λ count. (1 ≤ count) × (count ≤ 600))
AllowsSeconds view = Unit {0}

-- octets are the file that is asked for: what is shown at a moment, of a page that the text has, in PPM, in PNG or as a film of
-- one picture; or what the text shows in each tenth of a second, for as long as the film lasts, in at most 64,000,000 octets (own)
abbrev pub IsDrawn : ℕ → SignData → List ℕ → View → List ℕ → Type 0
IsDrawn side sign text (Ppm moment) file = IsThere text (seen sign text moment) × (file ≡ ppm_of side sign text (seen sign text moment))
IsDrawn side sign text (Gif moment) file =
    IsThere text (seen sign text moment) × IsFilmOf side sign (seen_points side sign text (seen sign text moment) ∷ []) file
IsDrawn side sign text (Png moment) file =
    IsThere text (seen sign text moment) × IsPngOf side sign (seen_points side sign text (seen sign text moment)) file
IsDrawn side sign text (Film seconds) file =
    (tenths : ℕ) × Lasts sign text seconds tenths × (tenths ≤ 6000) × IsFilmOf side sign (moving side sign text tenths) file
    × (length file ≤ 64000000)

-- why there is no moment of a text: memory was refused, or it hasn't the page that is asked for, but so many (own)
abbrev pub IsNoMoment : List ℕ → Moment → DrawFault → Type 0
IsNoMoment text moment Memory = Unit {0}
IsNoMoment text (Page page phase) (NoPage pages) = (pages ≡ pages_of (meanings text)) × (pages ≤ page)
IsNoMoment text moment fault = ⊥

-- why there is no film of a text: memory was refused, or it would be too large or too long (own)
abbrev pub IsNoFilm : ℕ → SignData → List ℕ → Option ℕ → DrawFault → Type 0
IsNoFilm side sign text seconds Memory = Unit {0}
IsNoFilm side sign text seconds (TooLarge tenths) = plays.IsNoFilm side sign text seconds (films.TooLarge tenths)
IsNoFilm side sign text seconds (TooLong tenths) = plays.IsNoFilm side sign text seconds (films.TooLong tenths)
IsNoFilm side sign text seconds fault = ⊥

-- why there is no such picture (own)
abbrev pub IsUndrawn : ℕ → SignData → List ℕ → View → DrawFault → Type 0
IsUndrawn side sign text (Ppm moment) fault = IsNoMoment text moment fault
IsUndrawn side sign text (Gif moment) fault = IsNoMoment text moment fault
IsUndrawn side sign text (Png moment) fault = IsNoMoment text moment fault
IsUndrawn side sign text (Film seconds) fault = IsNoFilm side sign text seconds fault
