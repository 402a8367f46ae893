-- `of` takes from the call what the box owned, and its parts own that.
use Rattle.held_controller.proofs.Steps.{◌≡◌, refl, ap, ◌∙◌, List, [], ◌∷◌, ◌++◌, proved_at, Goes-blank, handle_tells, token, Bx, B, D, P, R, word, box_typed, box_in, box_out, Fn, Val, SProp, id⊢, ftrue, WpFn, tables, fact, ‵, raw, ◌⊛◌, prop, ◌$◌, ◌∵◌, !, qed, move, drop, use1, split, join, fsplit, fjoin, rewrite, regoal, suffices, done, whole, sub, agg, stop, fld, of_opd, no_more, and_then, returns, enter, alloc_all, pass_all, free_all, look_at, get, get_in, sets, nothing, heard, says, Stays, stay_dropped, walk_of, ends_at, triple_of, framed, calls_at, lands_as, only, some, later, await, pick, split3, fpick, feq_l, in_a_block, fsep, flft, plain, Args, bounded, a_type, dcons, dnil, inst_fn, no}
use mir.Raw.{raw as bare}
use mir.Val.{vstruct, of_list}
use base.Logic.{never, fst∗}
use types.Logic.{sem}
use contract.BorrowLft.{◌⊑◌}
use denote.RawPtr.{Ptr, RawPtr, block_ptr, null_ptr, ptr_val}
use denote.Struct.Tuple.{Tuple}
use Rattle.std.specs.Box.Ownership.{box_owns}
use Rattle.std.proofs.BoxSteps.Form.{τ}
use Rattle.held_controller.specs.contracts.parts.Parts as parts
use Rattle.std.specs.contracts.boxed.Box.into_raw_with_allocator as g
use Rattle.std.proofs.boxed.Box.into_raw_with_allocator.Met.{met}
use Rattle.held_controller.specs.contracts.parts.Parts.of as f
use Rattle.held_controller.proofs.parts.Parts.of.Statement.{statement}
use Rattle.held_controller.proofs.parts.Parts.of.Code as code

pub of_spec : {M : Type 1} → statement M
of_spec 𝓤 𝓛 𝓜 𝓡 wired X Z LX LZ ghosts dict drops item_drops allocator dropped item_dropped =
    let E : Bx = record { row = X; laws = LX; al = record { row = Z; laws = LZ; g = ghosts; d = dict; drops = drops } } in
    let args : Args = bounded (a_type ∷ a_type ∷ []) (X, (Z, tt)) (dcons dict (dcons drops (dcons item_drops dnil))) in
    let fn : Fn = inst_fn args code.function in
    let T = f.ended X Z ghosts dict drops item_drops in let c = f.clauses X Z ghosts dict drops item_drops 𝓛 𝓜.mem 𝓡.returns in
    let G = triple_of 𝓛 (g.signature X Z ghosts dict drops item_drops) (g.spec X Z ghosts dict drops item_drops 𝓛 𝓜.mem 𝓡.returns) in
    let stayed : Stays T.signature.params T.kept = (stay_dropped (plain (λ _. B E)) no, tt) in
    let 𝓣 = tables 𝓤 𝓛.H 𝓜 𝓡 𝓡.env in
    proved_at 𝓛 T stayed c 𝓜 𝓡 (Goes-blank 𝓛 2 (plain (λ _. B E)) no (λ κs x left. tt), tt) (f.Key.name args) fn (code.unfolded 𝓤 𝓛.H 𝓜 𝓡 wired (X, (Z, tt)) dict drops item_drops) (λ z are.
    let Post : Val → SProp 𝓤 = (walk_of 𝓛 T stayed c).post z in
    let κs = z.0.0 in let qs = z.0.1 in let box = z.0.3.0 in
    let alive = ‵ (flft κs.0 qs.0) ⊛ ‵ (flft κs.1.0 qs.1.0) ⊛ ‵ ftrue in
    let outlived = raw (fact 𝓤 (κs.0 ⊑ X.lives)) ⊛ raw (fact 𝓤 (κs.1.0 ⊑ Z.lives)) ⊛ ‵ ftrue in
    qed 𝓛 ((alive ⊛ ‵ (fsep ((B E).own_val box z.0.4.0) ftrue)) ∷ outlived ∷ []) ∵ split ! $ move ! (1 ∷ []) $ fsplit ! $
    box_out E ! box z.0.4.0 (λ b o handle at is fits. box_in E ! box b o box.value at refl $
    let w = word E handle b o in let y : G.Ghost = ((κs, qs, tt, (box, tt), (w ∷ [], tt)), tt) in
    regoal ! (λ (us : List Val). prop (WpFn 𝓤 𝓛.H 𝓣.C 𝓣.Λ fn us Post)) (λ i. is i ++ []) refl $
    enter ! 𝓣.C 𝓣.Λ fn (w ∷ []) Post $ alloc_all ! (λ l. pass_all ! refl (box_typed E handle b o fits, tt) $
    sets ! (of_opd ! (get ! refl)) refl (box_typed E handle b o fits) $
    fjoin ! $ move ! (1 ∷ 0 ∷ []) $ join ! $ join ! $ use1 𝓛 (raw (G.pre y)) (id⊢ 𝓤 _) $
    calls_at ! (framed 𝓤 𝓛.H 𝓜 𝓣) G (met 𝓤 𝓛 𝓜 𝓡 (code.calls-std_alloc::boxed::Box::into_raw_with_allocator 𝓡.env wired) X Z LX LZ ghosts dict drops item_drops allocator dropped item_dropped) y (and_then ! (get ! refl) (no_more !)) (λ u.
    use1 𝓛 (later (some (λ (r : Ptr × Z.Denot). (alive ⊛ ‵ ((Tuple (RawPtr ∷ P E ∷ [])).own_val r (u ∷ []))) ⊛
    some (λ (_ : (Unit {0} × (Unit {0} × Unit {0})) × Unit {0}). ‵ (fsep (fsep ftrue (fsep ftrue ftrue)) ftrue) ⊛ (raw (fact 𝓤 (r.1 ≡ box.alloc)) ⊛ ‵ (box_owns (token E.al box.alloc) (R E) r.0 box.value)))))) (id⊢ 𝓤 _) $
    await ! tt $ pick ! (λ r. split ! $ move ! (1 ∷ []) $ pick ! (λ _. split3 ! $ drop ! $ heard ! (r.1 ≡ box.alloc) (λ same.
    in_a_block ! r.0 (λ p. box_owns (token E.al box.alloc) (R E) p box.value) (fst∗ 𝓤 (never 𝓤) (sem 𝓛 (token E.al box.alloc (bare (τ E)) null_ptr))) (λ b' o' at'.
    -- [what the box owned; the tokens and the pair]
    move ! (1 ∷ []) $ split ! $ move ! (1 ∷ []) $ fpick ! (λ vss. fsplit ! $ feq_l ! (λ pair. fsplit ! $ feq_l ! (λ first. fsplit ! $
    rewrite ! 0 (λ (a : Z.Denot). ‵ (Z.own_val a vss.1.0)) same refl $ handle_tells E.al ! box.alloc vss.1.0 (λ handle' second fits'.
    let w' = word E handle' b' o' in let typed = box_typed E handle' b' o' fits' in
    let taken : D E = record { ptr = block_ptr b' o'; alloc = box.alloc; value = box.value } in
    let Parts = parts.the_row (R E) (P E) ghosts in
    let made : Parts.Denot = record { at = block_ptr b' o'; alloc = box.alloc; value = box.value } in
    lands_as ! (ap only (pair ∙ (λ i. vstruct (of_list ((first ∙ ap (λ (p : Ptr). ptr_val p ∷ []) at') i ++ (second i ++ []))) ∷ []))) refl typed $
    sets ! (of_opd ! (get_in ! (fld ! refl (stop !)) (sub ! 0 refl (whole !)))) refl (tt, tt) $
    sets ! (of_opd ! (get_in ! (fld ! refl (stop !)) (sub ! 1 refl (whole !)))) refl fits' $
    sets ! (of_opd ! (get ! refl)) refl fits' $
    sets ! (agg ! (and_then ! (get ! refl) (and_then ! (get ! refl) (no_more !)))) refl typed $ returns ! (look_at ! 0 refl) $ free_all ! refl $
    -- [the handle; true; the tokens; what the box owned]
    move ! (3 ∷ []) $ fsplit ! $ box_in E ! taken b' o' box.value refl refl $ use1 𝓛 (‵ (Parts.own_val made (w' ∷ []))) (id⊢ 𝓤 _) $ move ! (1 ∷ []) $ drop ! $
    suffices ! _ (ends_at 𝓛 T stayed c z w' made ((tt, (tt, tt)), tt) (tt, tt)) $ says ! refl $
    nothing ! $ nothing ! $ fjoin ! $ join ! $ move ! (1 ∷ 0 ∷ []) $ join ! $ done !))))))))))))
