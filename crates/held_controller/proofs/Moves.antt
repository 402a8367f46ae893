-- `of_parts` and `into_parts` run the same code, which moves a pointer and an allocator; what they own goes with them.
use Rattle.held_controller.proofs.Steps.{refl, List, [], ◌∷◌, ◌++◌, B, D, word, box_typed, box_in, box_out, Val, SProp, WpFn, ‵, prop, ◌$◌, !, regoal, whole, sub, agg, stop, fld, of_opd, no_more, and_then, returns, enter, alloc_all, pass_all, free_all, look_at, get, get_in, sets}
use mir.Syntax.{Sym, Ty, Fn, ty_struct, tnil, tcons, local, value_local, ty_ptr, seq, assign, place, field, copy, rv_opd, aggregate, return}
use seplogic.Ra.Ura.{Ura}
use prog.Wp.{Calls, Loops}
use types.Logic.{Logic}
use types.Kit.{Sq}
use Rattle.std.proofs.alloc.Calls.{α}
use Rattle.held_controller.proofs.Boxed.{boxed}

-- a struct of this name with a pointer and an allocator
abbrev pub pair_ty : Sym → Ty
pair_ty name = ty_struct name (tcons ty_ptr (tcons (α boxed.al) tnil))

-- the code of both, which takes a struct of one name and gives one of another
abbrev pub moving : Sym → Sym → Fn
moving taken given = record {
  lifetimes = 0;
  outlives = [];
  ty_params = [];
  givens = 0;
  params = 1;
  locals = local (pair_ty given) value_local ∷ local (pair_ty taken) value_local ∷ local ty_ptr value_local ∷ local (α boxed.al) value_local ∷ local ty_ptr value_local ∷ [];
  body = seq (assign (place 2 []) (rv_opd (copy (place 1 (field 0 ∷ [])))))
      (seq (assign (place 3 []) (rv_opd (copy (place 1 (field 1 ∷ [])))))
      (seq (assign (place 4 []) (rv_opd (copy (place 2 []))))
      (seq (assign (place 0 []) (aggregate (copy (place 4 []) ∷ copy (place 3 []) ∷ []))) return)));
}

-- where its argument owns what a box owns, it gives the value of that argument, which owns the same
pub moved : {M : Type 1} (𝓤 : Ura M) (𝓛 : Logic 𝓤) (C : Calls 𝓤 𝓛.H) (Λ : Loops 𝓤 𝓛.H) (taken given : Sym) (box : D boxed) (vs : List Val) (Post : Val → SProp 𝓤)
    → ((w : Val) → Sq 𝓛 (‵ ((B boxed).own_val box (w ∷ [])) ∷ []) (prop (Post w)))
    → Sq 𝓛 (‵ ((B boxed).own_val box vs) ∷ []) (prop (WpFn 𝓤 𝓛.H C Λ (moving taken given) (vs ++ []) Post))
moved 𝓤 𝓛 C Λ taken given box vs Post rest =
    box_out boxed ! box vs (λ b o handle at is fits. box_in boxed ! box b o box.value at refl $
    let w = word boxed handle b o in let typed = box_typed boxed handle b o fits in
    regoal ! (λ (us : List Val). prop (WpFn 𝓤 𝓛.H C Λ (moving taken given) us Post)) (λ i. is i ++ []) refl $
    enter ! C Λ (moving taken given) (w ∷ []) Post $ alloc_all ! (λ l. pass_all ! refl (typed, tt) $
    sets ! (of_opd ! (get_in ! (fld ! refl (stop !)) (sub ! 0 refl (whole !)))) refl (tt, tt) $
    sets ! (of_opd ! (get_in ! (fld ! refl (stop !)) (sub ! 1 refl (whole !)))) refl fits $
    sets ! (of_opd ! (get ! refl)) refl (tt, tt) $
    sets ! (agg ! (and_then ! (get ! refl) (and_then ! (get ! refl) (no_more !)))) refl typed $ returns ! (look_at ! 0 refl) $ free_all ! refl $ rest w))
