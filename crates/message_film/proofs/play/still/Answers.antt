use Rattle.std.proofs.Common.{◌++◌, ◌∷◌, [], replicate, sym, ap, ◌∙◌}
use Rattle.page_picture.specs.Palette.{palette}
use Rattle.message_film.specs.Moving.{seen_points}
use Rattle.message_film.specs.Looks.{points_of}
use Rattle.message_film.specs.Reel.{ReelData}
use Rattle.message_film.proofs.MovingLemmas
use Rattle.message_film.proofs.play.still.Goals as goal

pub returns : goal.returns
returns c =
    let sign = c.args.sign.now in
    let text = c.args.checked.now.source.octets in
    let p = c.in_ok-push.ensures in
    let n = c.in_ok-reel.ensures in
    let colours = c.in_ok-colours.colours.items in
    let wide = ap (λ (r : ReelData). r.width) n ∙ c.width.ensures.width in
    let high = ap (λ (r : ReelData). r.height) n ∙ c.height.ensures.height in
    let sided = ap (λ (r : ReelData). r.side) n in
    let points = p.points
    ∙ ap (λ l. l ++ replicate 10 (points_of c.in_ok-reel.reel.side c.in_ok-reel.reel.width c.in_ok-reel.reel.height colours)) (ap (λ (r : ReelData). r.points) n)
    ∙ ap (λ s. replicate 10 (points_of s c.in_ok-reel.reel.width c.in_ok-reel.reel.height colours)) sided
    ∙ ap (replicate 10) (MovingLemmas.moment c.args.side c.in_ok-reel.reel.width c.in_ok-reel.reel.height sign text colours c.args.shown wide high c.in_ok-colours.ensures.colours)
    ∙ sym (MovingLemmas.tenths_one (seen_points c.args.side sign text c.args.shown)) in
    MovingLemmas.is_film c.args.side sign c.push.new.self (seen_points c.args.side sign text c.args.shown ∷ []) c.in_ok-octets.octets.items
    (p.size.0 ∙ sided) (p.size.1 ∙ wide) (p.size.2 ∙ high) (p.palette ∙ ap (λ (r : ReelData). r.palette) n ∙ ap palette c.classic.ensures.classic) points c.in_ok-octets.ensures.plays
