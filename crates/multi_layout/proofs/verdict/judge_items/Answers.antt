use Rattle.multi_layout.proofs.Common.{slice_get_within, ◌≡◌, ℕ, ◌+◌, refl, ◌==◌, not, List, map, Option, Some, sym, subst, ◌∙◌, arith, Counted, spelling_some, item_of, SignData, Meaning, meaning, IsAt, IsPassOf}
use Rattle.multi_token.specs.declared.source.Entry.{Entry}
use Rattle.sign_font.specs.Sign.{FontData}
use Rattle.multi_judge.specs.internal.Judging.{IsBehind}
use Rattle.multi_layout.proofs.WalkLemmas.{a_bracket, no_bracket}
use Rattle.multi_layout.proofs.AtLemmas.{at_start, bracket_behind, bracket_refused, bracket_within, here, known, octet_behind, octet_offends}
use Rattle.multi_judge.proofs.LookLemmas.{entry_found}
use Rattle.multi_judge.proofs.ReadLemmas.{pass_ready}
use Rattle.multi_layout.proofs.verdict.judge_items.Goals as goal

-- what was read and looked up
at_first : {sign : SignData} {octets : List ℕ} {at : ℕ} {font : FontData} {next : Option Entry} {IsKept : List Meaning → Type 0} {source : Counted} → IsAt sign octets at font next IsKept source → {entry : Entry} → next ≡ Some entry
    → IsAt sign octets at font (Some entry) IsKept source
at_first {sign} {octets} {at} {font} {next} {IsKept} {source} i is = subst (λ (n : Option Entry). IsAt sign octets at font n IsKept source) is i

pub loop-next-init : goal.loop-next-init
loop-next-init g c =
    let sign = c.args.sign.now in
    let words = not (g.row.WORDS == 0) in
    let cells = c.same-cells.result in (
      at_start sign c.args.source.now.octets cells (IsPassOf words sign c.args.pass.now) c.requires.start c.look-next.result c.args.source.now c.look-next.new.self refl c.requires.fresh
          (c.look-next.ensures.entry ∙ entry_found cells c.advances.result.now c.advances.ensures.table c.args.source.now.octets 0 c.look-next.ensures.octets) c.look-next.ensures.steps,
      rw (c.requires.font, ← c.sign.view_is, c.same-cells.ensures) c.sign.invariant.6,
    )

pub judge_bracketed-requires : goal.judge_bracketed-requires
judge_bracketed-requires g c =
    let l = c.loop-next in
    let i = at_first l.invariant.0 c.in-Some.is in
    let first = here c.args.sign.now c.args.source.now.octets l.at l.cells c.in-Some.entry (IsPassOf (not (g.row.WORDS == 0)) c.args.sign.now l.pass) l.source i c.requires.short in
    record {
      bracket = a_bracket c.in-Some.entry.octet (sym c.is_bracket.ensures ∙ c.if-is_bracket.true);
      stands = rw i.same first;
      room = rw i.same (omega (arith, c.requires.short));
      ready = pass_ready (not (g.row.WORDS == 0)) c.args.sign.now l.pass _ i.so_far.is;
    }

pub returns-in-Err-clause-refused : goal.returns-in-Err-clause-refused
returns-in-Err-clause-refused g c =
    let l = c.loop-next in
    bracket_refused c.args.sign.now c.args.source.now.octets l.at l.cells c.in-Some.entry (not (g.row.WORDS == 0)) l.pass l.source (at_first l.invariant.0 c.in-Some.is) c.requires.short c.in-Err.error c.in-Err.ensures.judged

pub look-next-requires-then-is_bracket : goal.look-next-requires-then-is_bracket
look-next-requires-then-is_bracket g c =
    let l = c.loop-next in
    record { within = bracket_within c.args.sign.now c.args.source.now.octets l.at l.cells c.in-Some.entry (not (g.row.WORDS == 0)) l.pass l.source (at_first l.invariant.0 c.in-Some.is) c.requires.short c.in-Ok.ensures.judged.1 }

pub loop-next-preserved-then-is_bracket : goal.loop-next-preserved-then-is_bracket
loop-next-preserved-then-is_bracket g c =
    let l = c.loop-next in
    let look = c.look-next-then-is_bracket in
    let cells = c.judge_bracketed.new.cells in (
      bracket_behind c.args.sign.now c.args.source.now.octets l.at l.cells c.in-Some.entry (not (g.row.WORDS == 0)) l.pass l.source (at_first l.invariant.0 c.in-Some.is) c.requires.short c.in-Ok.ensures.judged.1 cells look.result look.new.self
          (look.ensures.entry ∙ entry_found cells c.advances-then-is_bracket.result.now c.advances-then-is_bracket.ensures.table c.judge_bracketed.new.source.octets (l.at + c.in-Ok.len) look.ensures.octets) look.ensures.steps,
      c.in-Ok.ensures.cells l.invariant.1,
    )

pub judge_octet-requires : goal.judge_octet-requires
judge_octet-requires g c =
    let l = c.loop-next in
    record {
      ready = pass_ready (not (g.row.WORDS == 0)) c.args.sign.now l.pass _ l.invariant.0.so_far.is;
      known = known c.args.sign.now c.args.source.now.octets l.at l.cells c.in-Some.entry (IsPassOf (not (g.row.WORDS == 0)) c.args.sign.now l.pass) l.source (at_first l.invariant.0 c.in-Some.is) c.requires.short;
      plain = sym c.is_bracket.ensures ∙ c.if-is_bracket.false;
    }

pub returns-in-Err-judge_octet-clause-refused : goal.returns-in-Err-judge_octet-clause-refused
returns-in-Err-judge_octet-clause-refused g c =
    let l = c.loop-next in
    let i = at_first l.invariant.0 c.in-Some.is in
    let r = i.so_far in
    let sign = c.args.sign.now in
    octet_offends sign c.args.source.now.octets l.at l.cells c.in-Some.entry (IsPassOf (not (g.row.WORDS == 0)) sign l.pass) l.source i c.requires.short
    (no_bracket c.in-Some.entry.octet (sym c.is_bracket.ensures ∙ c.if-is_bracket.false))
    c.in-Err-judge_octet.error (c.in-Err-judge_octet.ensures.judged sign l.invariant.1 (map meaning r.items) r.is)

pub judge_run-requires : goal.judge_run-requires
judge_run-requires g c =
    let l = c.loop-next in
    let i = at_first l.invariant.0 c.in-Some.is in
    let r = i.so_far in
    let sign = c.args.sign.now in
    let words = not (g.row.WORDS == 0) in
    let octets = c.args.source.now.octets in
    let new = c.judge_octet.new.self in
    let (fine, of, apart, on) = c.in_default-judge_octet.ensures.judged sign l.invariant.1 (map meaning r.items) r.is in
    let behind = octet_behind sign octets l.at l.cells c.in-Some.entry (IsPassOf words sign l.pass) l.source i c.requires.short
    (no_bracket c.in-Some.entry.octet (sym c.is_bracket.ensures ∙ c.if-is_bracket.false)) (IsPassOf words sign new) fine of in
    record {
      short = rw i.same c.requires.short;
      behind = subst (λ (os : List ℕ). IsBehind sign os (l.at + 1) (IsPassOf words sign new) l.source) (sym i.same) behind;
      character = c.in_default-judge_octet.ensures.behind;
      cells = rw c.in_default-judge_octet.ensures.same l.invariant.1;
    }

pub loop-next-smaller-then-is_bracket : goal.loop-next-smaller-then-is_bracket
loop-next-smaller-then-is_bracket g c =
    let i = at_first c.loop-next.invariant.0 c.in-Some.is in
    let inside = slice_get_within c.args.source.now.octets c.loop-next.at c.in-Some.entry.octet (here c.args.sign.now c.args.source.now.octets c.loop-next.at c.loop-next.cells c.in-Some.entry (IsPassOf (not (g.row.WORDS == 0)) c.args.sign.now c.loop-next.pass) c.loop-next.source i c.requires.short) in
    let (t, at, len, token, meant, counted) = c.in-Ok.ensures.judged.1.item in
    omega (arith, inside, len, token.len, spelling_some (item_of c.loop-next.source.octets t))
