use Rattle.multi_judge.proofs.Lemmas.{◌≡◌, ◌+◌, ℕ, Some, true, refl, ap, ◌∙◌, rules, cond, option_map_or, unwrap_or, average, Group, kept_height, group_break, counted, held}
use Rattle.multi_judge.proofs.area.Group.add_break.Goals as goal

pub returns-clause-sum : goal.returns-clause-sum
returns-clause-sum c group s placing e is =
    let self = c.args.self.now in
    let line = c.if-not-self.self.line in
    let info = c.args.font.now in
    let (same, any, height, spacing) : (c.if-not-self.self ≡ record self { line = line }) × (line.any ≡ true) × (line.height ≡ cond self.line.any self.line.height info.height) × (line.spacing ≡ cond self.line.any self.line.spacing info.line_spacing) = elim c.if-not-self.branch [
      | goal.then-not-self w ↦ rw (w.self-is, w.if-not-self.true) (refl, refl, refl, refl)
      | goal.else-not-self w ↦ rw (w.self-is, w.if-not-self.false) (refl, refl, refl, refl)
    ] in
    let gap = option_map_or (λ ended. unwrap_or ended.gap (average ended.spacing line.spacing)) self.last 0 in
    let closed : c.height-self.result ≡ held (self.closed + (gap + line.height)) = c.height-self.ensures.kept ∙ ap kept_height same ∙ ap {B = ℕ} (λ b. cond b (held (self.closed + (gap + line.height))) self.closed) any in
    let ended : ◌≡◌ {A = Group} (record { ended = counted (c.if-not-self.self.ended + 1); closed = c.height-self.result; last = Some (record { gap = c.args.gap; spacing = line.spacing }); line = c.default-self.result })
    (record { ended = counted (self.ended + 1); closed = held (self.closed + (gap + line.height)); last = Some (record { gap = c.args.gap; spacing = line.spacing }); line = c.default-self.result }) =
    λ i. record { ended = counted ((same i).ended + 1); closed = closed i; last = Some (record { gap = c.args.gap; spacing = line.spacing }); line = c.default-self.result } in
    ended ∙ group_break group s c.args.gap info placing is self c.default-self.result gap line.height line.spacing e (search rules) refl height spacing
