use Rattle.multi_judge.proofs.Lemmas.{◌==◌, common_steps, ◌≡◌, ◌++◌, [], ◌∷◌, refl, ap, ◌∙◌, arith, rules, if◌then◌else◌, TableLines, split_lines, each_group, pushed_middle, pushed_top, group_lines}
use Rattle.multi_judge.proofs.table.LineTable.push.Goals as goal

pub returns-in-2 : goal.returns-in-2
returns-in-2 c = first_of (search (rules, each_group, pushed_top), grind (arith, common_steps, each_group, pushed_top))

pub returns-in-3 : goal.returns-in-3
returns-in-3 c = record {
  pushed = λ just known.
      let last = rw c.in-3.is at c.requires.last in
      let none4 = ap (λ (t : TableLines). t.bottom) c.self.view_is ∙ last 4 (omega arith) (omega arith) in
      let s = c.self.inside in
      let new = split_lines c.push.new.self.items s.middle c.len-self-inside-in-3.result in
      let (top, middle, bottom) = pushed_middle s.lines.items s.middle s.bottom c.self.invariant c.args.line c.push.new.self.items c.push.ensures.items s.middle c.len-self-inside-in-3.result refl c.len-self-inside-in-3.ensures.value none4 in
      rw (c.in-3.is, ← c.self.view_is) (each_group (λ just. group_lines just new ≡ (if just == 3 then group_lines just (split_lines s.lines.items s.middle s.bottom) ++ c.args.line ∷ [] else group_lines just (split_lines s.lines.items s.middle s.bottom))) top middle bottom just known.0 known.1);
}
