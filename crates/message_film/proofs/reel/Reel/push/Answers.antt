use Rattle.std.proofs.Common.{◌≡◌, ◌≤◌, ◌++◌, map, replicate, sym, subst, ap, ◌∙◌}
use Rattle.message_film.specs.Looks.{AreColours, pending, picture_of, points_of}
use Rattle.message_film.specs.Reel.{ReelData}
use Rattle.message_film.proofs.ReelLemmas
use Rattle.message_film.proofs.reel.Reel.push.Goals as goal
use Rattle.message_film.proofs.reel.Reel.push.Goals.{else-self-lt-MOST_TENTHS-via-then-self-lt-MOST_TENTHS+else-same, else-self-lt-MOST_TENTHS-via-else-self-lt-MOST_TENTHS}

pub returns-then-same-clause-points : goal.returns-then-same-clause-points
returns-then-same-clause-points c =
    let old = c.self.inside in
    let same = sym c.deref.ensures.value ∙ c.same.ensures.same c.if-same.true ∙ c.deref-then-self-lt-MOST_TENTHS.ensures.value in
    ReelLemmas.again old.side old.width old.height old.writer old.colours.items c.args.colours.items old.tenths same
    ∙ ap (λ (r : ReelData). r.points ++ replicate 10 (points_of r.side r.width r.height c.args.colours.items)) c.self.view_is

pub returns-clause-points : goal.returns-clause-points
returns-clause-points c =
    let old = c.self.inside in
    let w = c.in_ok-write.ensures in
    let written = w.pictures ∙ ap (λ l. old.writer.pictures ++ map (picture_of old.side old.width old.height) (pending l old.tenths)) c.deref-2.ensures.value in
    ReelLemmas.other old.side old.width old.height old.writer c.write.new.writer old.colours.items c.args.colours.items old.tenths written
    ∙ ap (λ (r : ReelData). r.points ++ replicate 10 (points_of r.side r.width r.height c.args.colours.items)) c.self.view_is

pub invariant_of-self : goal.invariant_of-self
invariant_of-self c =
    let old = c.self.inside in
    let same = sym c.deref.ensures.value ∙ c.same.ensures.same c.if-same.true ∙ c.deref-then-self-lt-MOST_TENTHS.ensures.value in
    let whole = subst (λ (r : ReelData). AreColours r.width r.height c.args.colours.items) (sym c.self.view_is) c.requires in
    ReelLemmas.again_sound old.side old.width old.height old.writer old.colours.items c.args.colours.items old.tenths c.self.invariant same whole c.if-self-lt-MOST_TENTHS.true

pub invariant_of-self-2 : goal.invariant_of-self-2
invariant_of-self-2 c =
    let old = c.self.inside in
    let w = c.in_ok-write.ensures in
    let written = w.pictures ∙ ap (λ l. old.writer.pictures ++ map (picture_of old.side old.width old.height) (pending l old.tenths)) c.deref-2.ensures.value in
    let whole = subst (λ (r : ReelData). AreColours r.width r.height c.args.colours.items) (sym c.self.view_is) c.requires in
    let apart : old.colours.items ≡ c.args.colours.items → 6553 ≤ old.tenths = elim c.else-self-lt-MOST_TENTHS.branch [
      | else-self-lt-MOST_TENTHS-via-then-self-lt-MOST_TENTHS+else-same w ↦
          λ is. absurd (w.same.ensures.other w.if-same.false (w.deref.ensures.value ∙ is ∙ sym w.deref-then-self-lt-MOST_TENTHS.ensures.value))
      | else-self-lt-MOST_TENTHS-via-else-self-lt-MOST_TENTHS w ↦ λ _. w.if-self-lt-MOST_TENTHS.false
    ] in
    ReelLemmas.other_sound old.side old.width old.height old.writer c.write.new.writer old.colours.items c.args.colours.items old.tenths c.self.invariant written w.size whole apart
