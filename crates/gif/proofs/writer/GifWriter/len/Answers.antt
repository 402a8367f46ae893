use Rattle.std.proofs.Common.{◌≡◌, length, ap, ◌∙◌, arith}
use Rattle.gif.specs.Count.{film_octets}
use Rattle.gif.specs.Reader.{Film}
use Rattle.gif.proofs.writer.GifWriter.len.Goals as goal

pub returns-clause-value : goal.returns-clause-value
returns-clause-value c =
    let octets = c.self.inside.octets in
    let count : c.len.result ≡ length octets.items = omega (arith, c.len.ensures, octets.ok.0) in
    count ∙ c.self.invariant.2 ∙ ap (λ (f : Film). film_octets f.pictures) c.self.view_is
