use Rattle.std.proofs.Common.{◌≡◌}
use Rattle.page_picture.specs.Palette.{palette}
use Rattle.message_film.specs.Moving.{in_tenths, moving}
use Rattle.message_film.proofs.play.film.Given as goal

abbrev pub invariant-loop-clock : goal.invariant-loop-clock
invariant-loop-clock l = record {
  sign : l.checked.sign ≡ l.sign;
  text : l.checked.source.octets ≡ l.fn.checked.source.octets;
  side : l.reel.side ≡ l.side;
  size : (l.reel.width ≡ l.sign.width) × (l.reel.height ≡ l.sign.height);
  palette : l.reel.palette ≡ palette l.sign.classic;
  points : l.reel.points ≡ in_tenths (moving l.side l.sign l.fn.checked.source.octets l.clock);
}
