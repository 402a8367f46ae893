-- `empty` owns nothing but the allocator that it is given.
use Rattle.held_controller.proofs.Steps.{refl, List, [], ◌∷◌, ◌++◌, proved_at, Goes-blank, handle_tells, Val, SProp, ftrue, WpFn, tables, ‵, ◌⊛◌, prop, ◌$◌, ◌∵◌, !, qed, drop, move, split, join, fsplit, fjoin, regoal, suffices, done, agg, lit, no_more, and_then, returns, enter, alloc_all, pass_all, free_all, look_at, get, sets, owns, types_at, nothing, says, Stays, stay_dropped, walk_of, ends_at}
use Rattle.std.specs.Prelude.{None}
use mir.Val.{has_ty, vint, vstruct, vnil, vcons}
use mir.Syntax.{w64}
use lib.Dec.{lit<}
use types.Kit.{feq_i, fpack}
use denote.RattleType.{Valss}
use denote.RawPtr.{null_ptr, ptr_val}
use denote.Struct.Struct.{within}
use denote.Struct.Owning.{shape, fields, to}
use Rattle.std.proofs.alloc.Calls.{α}
use Rattle.std.proofs.ResultValues.{and_tt}
use Rattle.held_controller.proofs.Boxed.{boxed, in_global}
use Rattle.held_controller.specs.contracts.slot.Slot as slot
use Rattle.held_controller.specs.contracts.slot.Slot.empty as f
use Rattle.held_controller.proofs.slot.Slot.empty.Statement.{statement}
use Rattle.held_controller.proofs.slot.Slot.empty.Code as code

abbrev stayed : Stays f.ended.signature.params f.ended.kept
stayed = (stay_dropped in_global f.ended.kept.0, tt)

pub empty_spec : {M : Type 1} → statement M
empty_spec 𝓤 𝓛 𝓜 𝓡 wired =
    let c = f.clauses 𝓛 𝓜.mem 𝓡.returns in let 𝓣 = tables 𝓤 𝓛.H 𝓜 𝓡 𝓡.env in
    proved_at 𝓛 f.ended stayed c 𝓜 𝓡 (Goes-blank 𝓛 0 in_global f.ended.kept.0 (λ κs x left. tt), tt) f.Key.name code.function (code.unfolded 𝓤 𝓛.H 𝓜 𝓡 wired) (λ z are.
    let alloc = z.0.3.0 in let vs = z.0.4.0 in
    let Post : Val → SProp 𝓤 = (walk_of 𝓛 f.ended stayed c).post z in
    let made : (slot.the_row).Denot = record { at = null_ptr; alloc = alloc; held = None } in
    qed 𝓛 ((‵ ftrue ⊛ ‵ (owns (types_at f.signature.params z.0.0) z.0.3 z.0.4)) ∷ ‵ ftrue ∷ []) ∵ split ! $ drop ! $ fsplit ! $ move ! (1 ∷ 2 ∷ []) $ drop ! $ drop ! $
    handle_tells boxed.al ! alloc vs (λ handle is fits.
    let null = vint w64 0 in let word = vstruct (vcons null (vcons handle vnil)) in
    regoal ! (λ (us : List Val). prop (WpFn 𝓤 𝓛.H 𝓣.C 𝓣.Λ code.function us Post)) (λ i. is i ++ []) refl $
    enter ! 𝓣.C 𝓣.Λ code.function (handle ∷ []) Post $ alloc_all ! (λ l. pass_all ! refl (fits, tt) $
    sets ! (agg ! (and_then ! (lit ! tt) (and_then ! (get ! refl) (no_more !)))) refl (and_tt (has_ty (α boxed.al) handle) fits.0, (record { fits = lit< tt }, (fits.1, tt))) $ returns ! (look_at ! 0 refl) $ free_all ! refl $
    nothing ! $ nothing ! $ move ! (2 ∷ 0 ∷ []) $ fjoin ! $ feq_i ! (List Val) (null ∷ []) (ptr_val null_ptr ∷ []) refl $ fjoin ! $ feq_i ! (List Val) (word ∷ []) (word ∷ []) refl $ fjoin ! $
    fpack ! (Valss (fields slot.the_type)) (within (shape slot.the_type) (to slot.the_type made) (word ∷ [])) (null ∷ [], (handle ∷ [], tt)) $ fjoin ! $
    suffices ! _ (ends_at 𝓛 f.ended stayed c z word made (tt, tt) (tt, tt)) $ says ! refl $
    nothing ! $ nothing ! $ fjoin ! $ join ! $ nothing ! $ join ! $ done !)))
