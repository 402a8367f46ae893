-- The words of the walks.
pub use Rattle.std.proofs.Common.{◌≡◌, refl, sym, ap, subst, ◌∙◌, ℕ, List, [], ◌∷◌, ◌++◌}
pub use Rattle.std.proofs.raw_atomic.Walks.{proved_at}
pub use Rattle.std.proofs.alloc.Calls.{Goes-blank, handle_tells, token}
pub use Rattle.std.proofs.BoxSteps.Form.{Bx, B, D, P, R, word, box_typed}
pub use Rattle.std.proofs.BoxSteps.Steps.{box_in, box_out}
pub use mir.Syntax.{Fn, Args, a_type, dcons, dnil}
pub use mir.MapTy.{inst_fn}
pub use mir.Val.{Val}
pub use base.Logic.{SProp, id⊢}
pub use base.Fml.{ftrue, fsep, flft}
pub use prog.Wp.{WpFn}
pub use contract.Running.{tables}
pub use contract.Monad.{fact}
pub use types.Kit.{‵, raw, ◌⊛◌, prop, ◌$◌, ◌∵◌, !, qed, by, move, drop, use1, split, join, fsplit, fjoin, rewrite, regoal, suffices, done, some, later, await, pick, split3, fpick, feq_l}
pub use types.Part.{whole, sub, agg}
pub use types.Run.{stop, fld, of_opd, lit, no_more, and_then, returns, enter}
pub use types.ByLocal.{alloc_all, pass_all, free_all, look_at, get, get_in, sets, lands_as}
pub use denote.RattleType.{owns}
pub use denote.Signature.{types_at, plain}
pub use denote.Exit.{no}
pub use denote.Param.{bounded}
pub use denote.RawPtr.{in_a_block}
pub use denote.Triple.Call.{calls_at}
pub use denote.Triple.Spec.{triple_of}
pub use denote.Triple.Table.{framed}
pub use denote.Steps.{nothing, heard, only}
pub use denote.Triple.Walked.{Stays, stay_dropped, walk_of, ends_at, says}
