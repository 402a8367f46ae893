use Rattle.std.proofs.Common.{◌≡◌, ◌≤◌, ◌+◌, ◌-◌, ◌*◌, ◌/◌, ◌∙◌, ap, arith, refl, sym, take}
use Rattle.std.proofs.Math.Nat.{mul-le-mul_left}
use Rattle.std.proofs.lemmas.List.{length-take-le}
use Rattle.page_plane.specs.Octets.{bit_place, is_bit_set}
use Rattle.page_picture.specs.Rows.{mark_of, marked_rows}
use Rattle.page_picture.proofs.RowLemmas.{lines_joined, rows_none}
use Rattle.page_picture.proofs.rows.+write_lines.Goals as goal

pub returns-then-height-gt0 : goal.returns-then-height-gt0
returns-then-height-gt0 g t c mark table =
    let a = c.args in
    let some : (a.width + 1) * 1 ≤ (a.width + 1) * a.height = mul-le-mul_left (a.width + 1) (omega (arith, c.if-height-gt0.true)) in
    let row = length-take-le (a.width + 9) a.text.now (omega (arith, c.requires.room, some)) in
    lines_joined mark a.width ((a.width + 7) / 8) (a.height - 1) a.height _ a.octets.now a.text.now c.write_row.new.text _ c.write_lines.new.text refl
    (omega (arith, c.if-height-gt0.true)) c.requires.room c.requires.octets (c.write_row.ensures.len ∙ row) (c.write_row.ensures.written mark table) refl refl
    (c.write_lines.ensures mark table)

pub returns-else-height-gt0 : goal.returns-else-height-gt0
returns-else-height-gt0 g t c mark table =
    let a = c.args in
    let none : a.height ≡ 0 = omega (arith, c.if-height-gt0.false) in
    let end : (a.width + 1) * a.height ≡ 0 = ap (λ n. (a.width + 1) * n) none ∙ (let zeros : (a.width + 1) * 0 ≡ 0 = omega arith in zeros) in
    record {
      len = refl;
      written = ap (λ n. take n a.text.now) end ∙ sym (rows_none (λ column row. mark_of mark (is_bit_set a.octets.now (bit_place a.width column row))) a.width)
          ∙ ap (marked_rows mark (λ column row. is_bit_set a.octets.now (bit_place a.width column row)) a.width) (sym none);
      behind = refl;
    }
