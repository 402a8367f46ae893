-- `of_parts` moves two fields, and what the parts own goes with them.
use Rattle.held_controller.proofs.Steps.{refl, [], ◌∷◌, proved_at, Goes-blank, D, Val, SProp, id⊢, ftrue, tables, ‵, ◌⊛◌, ◌$◌, ◌∵◌, !, qed, move, drop, use1, split, join, fsplit, fjoin, suffices, done, owns, types_at, nothing, says, Stays, stay_dropped, walk_of, ends_at}
use Rattle.std.specs.Prelude.{Some}
use Rattle.held_controller.proofs.Boxed.{boxed, in_parts}
use Rattle.held_controller.proofs.Moves.{moved}
use Rattle.held_controller.specs.contracts.slot.Slot as slot
use Rattle.held_controller.specs.contracts.slot.Slot.of_parts as f
use Rattle.held_controller.proofs.slot.Slot.of_parts.Statement.{statement}
use Rattle.held_controller.proofs.slot.Slot.of_parts.Code as code

abbrev stayed : Stays f.ended.signature.params f.ended.kept
stayed = (stay_dropped in_parts f.ended.kept.0, tt)

pub of_parts_spec : {M : Type 1} → statement M
of_parts_spec 𝓤 𝓛 𝓜 𝓡 wired =
    let c = f.clauses 𝓛 𝓜.mem 𝓡.returns in let 𝓣 = tables 𝓤 𝓛.H 𝓜 𝓡 𝓡.env in
    proved_at 𝓛 f.ended stayed c 𝓜 𝓡 (Goes-blank 𝓛 0 in_parts f.ended.kept.0 (λ κs x left. tt), tt) f.Key.name code.function (code.unfolded 𝓤 𝓛.H 𝓜 𝓡 wired) (λ z are.
    let parts = z.0.3.0 in let vs = z.0.4.0 in
    let Post : Val → SProp 𝓤 = (walk_of 𝓛 f.ended stayed c).post z in
    let box : D boxed = record { ptr = parts.at; alloc = parts.alloc; value = parts.value } in
    let made : (slot.the_row).Denot = record { at = parts.at; alloc = parts.alloc; held = Some parts.value } in
    qed 𝓛 ((‵ ftrue ⊛ ‵ (owns (types_at f.signature.params z.0.0) z.0.3 z.0.4)) ∷ ‵ ftrue ∷ []) ∵ split ! $ drop ! $ fsplit ! $ move ! (1 ∷ 2 ∷ []) $ drop ! $ drop ! $
    moved 𝓤 𝓛 𝓣.C 𝓣.Λ _ _ box vs Post (λ w. use1 𝓛 (‵ ((slot.the_row).own_val made (w ∷ []))) (id⊢ 𝓤 _) $
    suffices ! _ (ends_at 𝓛 f.ended stayed c z w made (tt, tt) (tt, tt)) $ says ! refl $
    nothing ! $ nothing ! $ fjoin ! $ join ! $ nothing ! $ join ! $ done !))
