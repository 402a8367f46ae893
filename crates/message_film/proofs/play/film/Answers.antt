use Rattle.std.proofs.Common.{◌≡◌, ◌++◌, length, refl, replicate, sym, ap, ◌∙◌, arith}
use Rattle.multi_meaning.specs.Times.{shown}
use Rattle.page_picture.specs.Palette.{palette}
use Rattle.message_film.specs.Moving.{in_tenths, moving, seen_points}
use Rattle.message_film.specs.Reel.{ReelData}
use Rattle.message_film.proofs.MovingLemmas
use Rattle.message_film.proofs.play.film.Goals as goal

pub loop-clock-init : goal.loop-clock-init
loop-clock-init c =
    let n = c.in-Ok.ensures in
    record {
      sign = c.requires.sign;
      text = refl;
      side = ap (λ (r : ReelData). r.side) n;
      size = (ap (λ (r : ReelData). r.width) n ∙ c.width.ensures.width, ap (λ (r : ReelData). r.height) n ∙ c.height.ensures.height);
      palette = ap (λ (r : ReelData). r.palette) n ∙ ap palette c.classic.ensures.classic;
      points = ap (λ (r : ReelData). r.points) n ∙ sym (MovingLemmas.none c.args.side c.args.sign.now c.args.checked.now.source.octets);
    }

pub loop-clock-preserved : goal.loop-clock-preserved
loop-clock-preserved c =
    let l = c.loop-clock in
    let h = l.invariant in
    let p = c.in-Ok-push_moment.ensures in
    let sign = c.args.sign.now in
    let text = c.args.checked.now.source.octets in
    record {
      sign = p.kept.0 ∙ h.sign;
      text = p.kept.1 ∙ h.text;
      side = p.size.0 ∙ h.side;
      size = (p.size.1 ∙ h.size.0, p.size.2 ∙ h.size.1);
      palette = p.palette ∙ h.palette;
      points = p.points
          ∙ ap (λ q. q ++ replicate 10 (seen_points l.reel.side sign l.checked.source.octets (shown sign l.checked.source.octets l.clock))) h.points
          ∙ MovingLemmas.next c.args.side l.reel.side sign text l.checked.source.octets l.clock h.side h.text;
    }

pub returns-then-len-gt-MOST_OCTETS-clause-fault : goal.returns-then-len-gt-MOST_OCTETS-clause-fault
returns-then-len-gt-MOST_OCTETS-clause-fault c =
    let l = c.loop-clock in
    let h = l.invariant in
    let p = c.in-Ok-push_moment.ensures in
    let sign = c.args.sign.now in
    let text = c.args.checked.now.source.octets in
    let reel = c.push_moment.new.reel in
    let points = p.points
    ∙ ap (λ q. q ++ replicate 10 (seen_points l.reel.side sign l.checked.source.octets (shown sign l.checked.source.octets l.clock))) h.points
    ∙ MovingLemmas.next c.args.side l.reel.side sign text l.checked.source.octets l.clock h.side h.text in (
      refl,
      MovingLemmas.large c.args.side sign text reel l.clock c.args.tenths c.len.result (p.size.0 ∙ h.side) (p.size.1 ∙ h.size.0) (p.size.2 ∙ h.size.1) points c.loop-clock-test.true
          c.len.ensures.front c.len.ensures.most c.if-len-gt-MOST_OCTETS.true,
    )

pub returns-then-len-gt-MOST_OCTETS-2-clause-fault : goal.returns-then-len-gt-MOST_OCTETS-2-clause-fault
returns-then-len-gt-MOST_OCTETS-2-clause-fault c =
    let l = c.loop-clock in
    let sign = c.args.sign.now in
    let text = c.args.checked.now.source.octets in
    let last = c.loop-clock-test.false in
    let most = l.auto.clock-end in
    let end : l.clock ≡ c.args.tenths = omega (arith, last, most) in
    let points = l.invariant.points ∙ ap (λ n. in_tenths (moving c.args.side sign text n)) end in
    let f = c.in-Ok-finish.ensures in (
      refl,
      MovingLemmas.large_end c.args.side sign text l.reel c.args.tenths (length c.in-Ok-finish.octets.items) l.invariant.side l.invariant.size.0 l.invariant.size.1 points f.exact f.size
          (omega (arith, c.len-2.ensures, c.if-len-gt-MOST_OCTETS-2.true)),
    )
