use Rattle.std.proofs.Common.{arith, ◌≡◌, ◌<◌, ◌*◌, ◌%◌, ℕ, List, length, replicate, refl, ap, ◌∙◌}
use Rattle.std.proofs.lemmas.Bool.{lt-ltb}
use Rattle.std.proofs.lemmas.Nat.{mod_below}
use Rattle.page_plane.specs.Octets.{row_octets, is_bit_set}
use Rattle.page_plane.proofs.OctetLemmas.{all_set, none_set}
use Rattle.page_plane.proofs.octets.fill_rows.Goals as goal

pub returns-else-width-ne0 : goal.returns-else-width-ne0
returns-else-width-ne0 c = λ place h.
    let size = 8 * row_octets c.args.width in
    let filled : c.fill.new.self ≡ replicate (length c.args.octets.now) 255 = c.fill.ensures.after (λ y e. e) in
    let whole : size ≡ c.args.width = omega arith in
    let below : place % size < size = mod_below place size (omega arith) in
    ap (λ (ns : List ℕ). is_bit_set ns place) filled ∙ all_set (length c.args.octets.now) place h ∙ rw (c.if-on.true, lt-ltb (place % size) c.args.width (omega arith)) refl

pub returns-else-on : goal.returns-else-on
returns-else-on c = λ place h.
    let filled : c.fill-else-on.new.self ≡ replicate (length c.args.octets.now) 0 = c.fill-else-on.ensures.after (λ y e. e) in
    ap (λ (ns : List ℕ). is_bit_set ns place) filled ∙ none_set (length c.args.octets.now) place ∙ rw c.if-on.false refl
