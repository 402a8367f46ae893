use Rattle.std.proofs.Common.{arith, ◌*◌, refl, ◌∙◌}
use Rattle.page_plane.proofs.OctetLemmas.{left_none, left_more, left_all}
use Rattle.page_plane.proofs.octets.put_strips.Goals as goal

pub loop-strip-init : goal.loop-strip-init
loop-strip-init c = record {
  size = refl;
  put = left_none c.args.octets.now c.args.columns c.args.x c.args.y c.args.width c.args.rows.now c.args.on _ (omega arith);
}

pub loop-strip-preserved : goal.loop-strip-preserved
loop-strip-preserved c =
    let a = c.args in
    let l = c.loop-strip in
    record {
      size = c.put_strip.ensures.len ∙ l.invariant.size;
      put = left_more a.octets.now l.octets c.put_strip.new.octets a.columns l.strip a.x a.y a.width a.rows.now a.on c.put_strip.ensures.pixels l.invariant.put;
    }

pub returns-clause-pixels : goal.returns-clause-pixels
returns-clause-pixels c =
    let a = c.args in
    let l = c.loop-strip in
    left_all a.octets.now l.octets a.columns a.x a.y a.width a.rows.now a.on (8 * l.strip) (omega arith) l.invariant.put
