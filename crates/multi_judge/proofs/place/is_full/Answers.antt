use Rattle.multi_judge.proofs.Lemmas.{◌≡◌, ◌∷◌, ◌++◌, ◌==◌, ◌<◌, ◌^◌, ℕ, length, arith, nat_tests, [], sym, ap, ◌∙◌, take, slice_index_or, after_last, count_by, line_number, is_break, lines_of, ended_count, Group, group_sum, counted_line, full_known, kept_width_is, line_is_there, width_in_is, look_up, held, segment, width_of, table_length}
use Rattle.multi_judge.specs.internal.Table.{width_in}
use Rattle.multi_judge.proofs.place.is_full.Goals as goal

-- what is kept of a sum is a small number where the sum is
held_is : (n m : ℕ) → m < 2 ^ 16 → (held n == m) ≡ (n == m)
held_is n m small = grind (arith, nat_tests)

pub returns : goal.returns
returns c = record {
  full = λ front back spots y area order own lines placing stands.
      let just = c.number-just.result in
      let known = c.number-just.ensures.known in
      let all_lines = lines_of (front ++ y ∷ back) in
      let k = count_by is_break front in
      let sum : c.group_for-group.result ≡ group_sum front = c.group_for-group.ensures.sum spots area order ∙ ap group_sum own in
      let there = line_is_there front back y in
      let ended : c.group_for-group.result.ended ≡ k = omega (arith, ap (λ (g : Group). g.ended) sum, ended_count front, there, ap length lines, table_length all_lines) in
      let entry = counted_line (take k all_lines) (slice_index_or all_lines k []) in
      let line : c.line_at-line.result ≡ entry = c.line_at-line.ensures.line entry (rw (lines, ended) (look_up all_lines k there)) in
      let wide = c.width.ensures ∙ kept_width_is (after_last is_break front) c.group_for-group.result.line (ap (λ (g : Group). g.line) sum) just known.0 known.1 in
      let whole = c.from.ensures ∙ c.width-2.ensures ∙ ap (width_in just) line ∙ width_in_is (take k all_lines) (slice_index_or all_lines k []) just known.0 known.1 in
      (λ i. wide i == whole i) ∙ held_is (width_of (segment just (after_last is_break front))) (width_of (segment just (slice_index_or all_lines k []))) (omega (arith, whole)) ∙ full_known just front y back placing (λ g. (ap line_number (stands g).0 ∙ sym c.number-just.ensures.number, (stands g).1));
}
