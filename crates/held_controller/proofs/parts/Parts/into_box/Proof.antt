-- `into_box` hands to the call what the parts own.
use Rattle.held_controller.proofs.Steps.{◌≡◌, refl, sym, ap, subst, List, [], ◌∷◌, ◌++◌, proved_at, Goes-blank, Bx, B, D, P, R, word, box_typed, box_in, box_out, Fn, Val, SProp, id⊢, ftrue, WpFn, tables, fact, ‵, raw, ◌⊛◌, prop, ◌$◌, ◌∵◌, !, qed, move, drop, use1, split, join, fsplit, fjoin, rewrite, regoal, suffices, done, whole, sub, stop, fld, of_opd, no_more, and_then, returns, enter, alloc_all, pass_all, free_all, look_at, get, get_in, sets, nothing, heard, says, Stays, stay_dropped, walk_of, ends_at, triple_of, framed, only, some, later, await, pick, split3, fsep, flft, plain, Args, bounded, a_type, dcons, dnil, inst_fn, no}
use lib.Dec.{T}
use mir.Val.{vptr, has_ty, WT}
use mir.Syntax.{place, copy, assign, rv_opd, seq, return}
use contract.BorrowLft.{◌⊑◌}
use denote.RawPtr.{block_ptr}
use denote.Triple.Call.{calls_at_last}
use types.Kit.{at_ret, feq_i}
use types.Run.{first, blocks, exec}
use types.ByLocal.{lands_last, env}
use Rattle.std.proofs.BoxSteps.Form.{box_ty}
use Rattle.held_controller.specs.contracts.parts.Parts as parts
use Rattle.std.specs.contracts.boxed.Box.from_raw as g
use Rattle.std.proofs.boxed.Box.from_raw.Met.{met}
use Rattle.held_controller.specs.contracts.parts.Parts.into_box as f
use Rattle.held_controller.proofs.parts.Parts.into_box.Statement.{statement}
use Rattle.held_controller.proofs.parts.Parts.into_box.Code as code

pub into_box_spec : {M : Type 1} → statement M
into_box_spec 𝓤 𝓛 𝓜 𝓡 wired X Z LX LZ ghosts dict drops allocator dropped =
    let E : Bx = record { row = X; laws = LX; al = record { row = Z; laws = LZ; g = ghosts; d = dict; drops = drops } } in
    let args : Args = bounded (a_type ∷ a_type ∷ []) (X, (Z, tt)) (dcons dict (dcons drops dnil)) in
    let fn : Fn = inst_fn args code.function in
    let T' = f.ended X Z ghosts dict drops in let c = f.clauses X Z ghosts dict drops 𝓛 𝓜.mem 𝓡.returns in
    let G = triple_of 𝓛 (g.signature X Z ghosts dict drops) (g.spec X Z ghosts dict drops 𝓛 𝓜.mem 𝓡.returns) in
    let Parts = parts.the_row (R E) (P E) ghosts in
    let stayed : Stays T'.signature.params T'.kept = (stay_dropped (plain (λ _. Parts)) no, tt) in
    let 𝓣 = tables 𝓤 𝓛.H 𝓜 𝓡 𝓡.env in
    proved_at 𝓛 T' stayed c 𝓜 𝓡 (Goes-blank 𝓛 2 (plain (λ _. Parts)) no (λ κs x left. tt), tt) (f.Key.name args) fn (code.unfolded 𝓤 𝓛.H 𝓜 𝓡 wired (X, (Z, tt)) dict drops) (λ z are.
    let Post : Val → SProp 𝓤 = (walk_of 𝓛 T' stayed c).post z in
    let κs = z.0.0 in let qs = z.0.1 in let p = z.0.3.0 in
    let had : D E = record { ptr = p.at; alloc = p.alloc; value = p.value } in
    let alive = ‵ (flft κs.0 qs.0) ⊛ ‵ (flft κs.1.0 qs.1.0) ⊛ ‵ ftrue in
    let outlived = raw (fact 𝓤 (κs.0 ⊑ X.lives)) ⊛ raw (fact 𝓤 (κs.1.0 ⊑ Z.lives)) ⊛ ‵ ftrue in
    qed 𝓛 ((alive ⊛ ‵ (fsep ((B E).own_val had z.0.4.0) ftrue)) ∷ outlived ∷ []) ∵ split ! $ move ! (1 ∷ []) $ fsplit ! $
    box_out E ! had z.0.4.0 (λ b o handle at is fits. fjoin ! $
    let y : G.Ghost = ((κs, qs, tt, (p.alloc, (block_ptr b o, tt)), (handle ∷ [], (vptr b o ∷ [], tt))), p.value) in
    regoal ! (λ (us : List Val). prop (WpFn 𝓤 𝓛.H 𝓣.C 𝓣.Λ fn us Post)) (λ i. is i ++ []) refl $
    enter ! 𝓣.C 𝓣.Λ fn (word E handle b o ∷ []) Post $ alloc_all ! (λ l. pass_all ! refl (box_typed E handle b o fits, tt) $
    sets ! (of_opd ! (get_in ! (fld ! refl (stop !)) (sub ! 0 refl (whole !)))) refl (tt, tt) $
    sets ! (of_opd ! (get_in ! (fld ! refl (stop !)) (sub ! 1 refl (whole !)))) refl fits $
    first ! $ blocks ! $ sets ! (of_opd ! (get ! refl)) refl fits $
    move ! (4 ∷ []) $ split3 ! $ move ! (2 ∷ []) $ drop ! $ move ! (1 ∷ 2 ∷ []) $ join ! $ move ! (1 ∷ 0 ∷ []) $ join ! $
    -- [what the call requires; the handle; true; the tokens]
    move ! (2 ∷ []) $ feq_i ! (List Val) (vptr b o ∷ []) (vptr b o ∷ []) refl $ fjoin ! $ move ! (2 ∷ 0 ∷ []) $ fjoin ! $ move ! (2 ∷ 0 ∷ []) $ join ! $ join ! $ use1 𝓛 (raw (G.pre y)) (id⊢ 𝓤 _) $
    calls_at_last ! (framed 𝓤 𝓛.H 𝓜 𝓣) G (met 𝓤 𝓛 𝓜 𝓡 (code.calls-std_alloc::boxed::Box::from_raw 𝓡.env wired) X Z LX LZ ghosts dict drops allocator dropped) y (and_then ! (get ! refl) (and_then ! (get ! refl) (no_more !))) (λ u.
    use1 𝓛 (later (some (λ (r : D E). (alive ⊛ ‵ ((B E).own_val r (u ∷ []))) ⊛
    some (λ (_ : Unit {0} × (Unit {0} × Unit {0})). ‵ (fsep ftrue (fsep ftrue ftrue)) ⊛ (raw (fact 𝓤 (r.value ≡ p.value)) ⊛ raw (fact 𝓤 (r.alloc ≡ p.alloc))))))) (id⊢ 𝓤 _) $
    await ! tt $ pick ! (λ r. split ! $ move ! (1 ∷ []) $ pick ! (λ _. split3 ! $ drop ! $ heard ! (r.value ≡ p.value) (λ same. drop ! $ split ! $ move ! (1 ∷ []) $
    box_out E ! r (u ∷ []) (λ b' o' handle' at' is' fits'. box_in E ! r b' o' r.value at' refl $ rewrite ! 0 (λ (us : List Val). ‵ ((B E).own_val r us)) (sym is') refl $
    let typed : T (has_ty (box_ty E) u) × WT u = subst (λ (v : Val). T (has_ty (box_ty E) v) × WT v) (sym (ap only is')) (box_typed E handle' b' o' fits') in
    lands_last ! refl typed $ exec ! 𝓣.C 𝓣.Λ (env fn.locals l) (seq (assign (place 0 []) (rv_opd (copy (place 4 [])))) return) (at_ret (env fn.locals l) Post) $
    sets ! (of_opd ! (get ! refl)) refl typed $ returns ! (look_at ! 0 refl) $ free_all ! refl $
    suffices ! _ (ends_at 𝓛 T' stayed c z u r ((tt, (tt, tt)), tt) (tt, tt)) $ says ! same $
    nothing ! $ nothing ! $ fjoin ! $ join ! $ move ! (1 ∷ 0 ∷ []) $ join ! $ done !))))))))
