use Rattle.std.proofs.Common.{◌∷◌, [], ◌+◌, ◌++◌, ◌∙◌, ap, length, refl, arith}
use Rattle.message_store.specs.Codes.{status_code}
use Rattle.saved_octets.specs.Field.{placed, text_octets}
use Rattle.saved_octets.proofs.PlacedLemmas.{placed_more}
use Rattle.saved_octets.proofs.slot.put_slot.Goals as goal

pub returns : goal.returns
returns c =
    let slot = c.args.slot.now in
    let head = status_code slot.status ∷ slot.priority ∷ slot.beacon ∷ slot.pixel ∷ [] in
    let multi = slot.multi.now in
    let owner = slot.owner.now in
    let first = c.put.ensures.put ∙ ap (λ n. placed c.args.buffer.now c.args.at (n ∷ slot.priority ∷ slot.beacon ∷ slot.pixel ∷ [])) c.code.ensures in
    let second = placed_more c.args.buffer.now c.put.new.buffer c.put_text.new.buffer head (text_octets multi) c.args.at (c.args.at + 4) first refl (omega (arith, c.requires.room)) c.put_text.ensures.put in
    record {
      put = placed_more c.args.buffer.now c.put_text.new.buffer c.put_text-2.new.buffer (head ++ text_octets multi) (text_octets owner) c.args.at (c.args.at + 6 + length multi) second (omega arith)
          (omega (arith, c.requires.room)) c.put_text-2.ensures.put;
    }
