-- `into_parts` moves two fields, and what the slot owns goes with them.
use Rattle.held_controller.proofs.Steps.{refl, [], ◌∷◌, proved_at, Goes-blank, D, Val, SProp, id⊢, ftrue, tables, fact, ‵, raw, ◌⊛◌, ◌$◌, ◌∵◌, !, qed, drop, move, use1, split, join, fsplit, fjoin, rewrite, suffices, done, nothing, heard, says, Stays, stay_dropped, walk_of, ends_at}
use Rattle.std.specs.Prelude.{Option, IsSome}
use base.Fml.{fsep}
use Rattle.sign_control.specs.State.{ControllerData}
use Rattle.held_controller.proofs.Boxed.{boxed, in_slot, some_of}
use Rattle.held_controller.proofs.Moves.{moved}
use Rattle.held_controller.specs.contracts.slot.Slot as slot
use Rattle.held_controller.specs.contracts.slot.Slot.into_parts as f
use Rattle.held_controller.proofs.slot.Slot.into_parts.Statement.{statement}
use Rattle.held_controller.proofs.slot.Slot.into_parts.Code as code
use denote.Signature.{type_at}

abbrev stayed : Stays f.ended.signature.params f.ended.kept
stayed = (stay_dropped in_slot f.ended.kept.0, tt)

pub into_parts_spec : {M : Type 1} → statement M
into_parts_spec 𝓤 𝓛 𝓜 𝓡 wired =
    let c = f.clauses 𝓛 𝓜.mem 𝓡.returns in let 𝓣 = tables 𝓤 𝓛.H 𝓜 𝓡 𝓡.env in
    proved_at 𝓛 f.ended stayed c 𝓜 𝓡 (Goes-blank 𝓛 0 in_slot f.ended.kept.0 (λ κs x left. tt), tt) f.Key.name code.function (code.unfolded 𝓤 𝓛.H 𝓜 𝓡 wired) (λ z are.
    let s = z.0.3.0 in let vs = z.0.4.0 in
    let Post : Val → SProp 𝓤 = (walk_of 𝓛 f.ended stayed c).post z in
    let Own = (slot.the_row).own_val in
    qed 𝓛 ((‵ ftrue ⊛ ‵ (fsep (Own s vs) ftrue)) ∷ raw (fact 𝓤 (IsSome s.held)) ∷ []) ∵ move ! (1 ∷ []) $ heard ! _ (λ full. split ! $ drop ! $ fsplit ! $ move ! (1 ∷ []) $ drop ! $
    let held = some_of s.held full in
    let box : D boxed = record { ptr = s.at; alloc = s.alloc; value = held.0 } in
    let Parts = type_at f.signature.result tt in
    let made : Parts.Denot = record { at = s.at; alloc = s.alloc; value = held.0 } in
    rewrite ! 0 (λ (h : Option ControllerData). ‵ (Own (record { at = s.at; alloc = s.alloc; held = h }) vs)) held.1 refl $
    moved 𝓤 𝓛 𝓣.C 𝓣.Λ _ _ box vs Post (λ w. use1 𝓛 (‵ (Parts.own_val made (w ∷ []))) (id⊢ 𝓤 _) $
    suffices ! _ (ends_at 𝓛 f.ended stayed c z w made (tt, tt) (tt, tt)) $ says ! held.1 $
    nothing ! $ nothing ! $ fjoin ! $ join ! $ nothing ! $ join ! $ done !)))
