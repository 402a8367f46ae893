use Rattle.std.proofs.Common.{◌≡◌, ◌≤◌, ◌<◌, ◌-◌, ◌++◌, length, slice_range, take, arith, ap, ◌∙◌}
use Rattle.std.proofs.lemmas.List.{length-take-le}
use Rattle.tool_streams.proofs.BlockLemmas
use Rattle.tool_streams.proofs.block.Block.read_more.Goals.{then-self-eq-BLOCK, else-self-eq-BLOCK}
use Rattle.tool_streams.proofs.block.Block.read_more.Goals as goal

pub returns-in-Ok : goal.returns-in-Ok
returns-in-Ok g c =
    let old = c.self.inside in
    let held : slice_range c.if-self-eq-BLOCK.self-inside.octets c.if-self-eq-BLOCK.self-inside.start c.if-self-eq-BLOCK.self-inside.end ≡ c.args.self.now = elim c.if-self-eq-BLOCK.branch [
      | then-self-eq-BLOCK w ↦ rw w.self-inside-is
          (ap (λ l. slice_range l 0 (old.end - old.start)) w.copy_within.ensures.after ∙ BlockLemmas.moved old.octets old.start old.end (omega arith) (omega arith) ∙ c.self.view_is)
      | else-self-eq-BLOCK w ↦ rw w.self-inside-is c.self.view_is
    ] in
    let ordered : c.if-self-eq-BLOCK.self-inside.start ≤ c.if-self-eq-BLOCK.self-inside.end = elim c.if-self-eq-BLOCK.branch [
      | then-self-eq-BLOCK w ↦ rw w.self-inside-is (omega arith)
      | else-self-eq-BLOCK w ↦ rw w.self-inside-is (omega arith)
    ] in
    let size = BlockLemmas.waiting_size old.octets old.start old.end (omega arith) (omega arith) in
    let room : c.if-self-eq-BLOCK.self-inside.end < 16384 = elim c.if-self-eq-BLOCK.branch [
      | then-self-eq-BLOCK w ↦ rw w.self-inside-is (omega (arith, size, ap length c.self.view_is, c.requires.room))
      | else-self-eq-BLOCK w ↦ rw w.self-inside-is (omega arith)
    ] in
    let (took, end) = c.in-Ok.ensures.bytes in
    let bytes = c.read.new.buf in
    let fits : c.in-Ok.count ≤ length bytes = c.in-Ok.ensures.bound.0 in
    record {
      reads = (
        take c.in-Ok.count bytes,
        took,
        BlockLemmas.added c.if-self-eq-BLOCK.self-inside.octets bytes _ _ _ c.in-Ok.count ordered (omega (arith, room)) fits ∙ ap (λ l. l ++ take c.in-Ok.count bytes) held,
        length-take-le c.in-Ok.count bytes fits,
        omega arith,
        λ none. end none (omega (arith, room)),
      );
    }
