use Rattle.std.proofs.Common.{◌∙◌, ap, sym, bit_xor, fold, ◌∷◌, []}
use Rattle.std.proofs.lemmas.List.Sums.{fold-append}
use Rattle.message_store.specs.Crc.{octet_step}
use Rattle.message_store.proofs.crc.crc_behind.Goals as goal

pub returns : goal.returns
returns c = λ text is.
    ap (λ r. bit_xor r 0xFFFF) (
    c.with_text.ensures
    ∙ ap (λ r. fold octet_step r (c.args.beacon ∷ c.args.pixel ∷ [])) is
    ∙ sym (fold-append octet_step 0xFFFF text (c.args.beacon ∷ c.args.pixel ∷ []))
    )
