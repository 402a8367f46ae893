-- Permanent messages that are judged one after another.
use Rattle.std.proofs.Common.{◌≡◌, ℕ, ◌+◌, ◌<◌, ◌≤◌, ◌^◌, List, ◌++◌, map, length, get_or, drop, sym, ap, ◌∙◌, append_assoc, append-nil, arith, subst}
use Rattle.std.proofs.lemmas.List.{at_drop_more, at_drop_all, get_or-map, length-map}
use Rattle.std.proofs.lemmas.List.Elements.{All-get_or}
use Rattle.sign_font.specs.Sign.{SignData}
use Rattle.multi_meaning.specs.Verdict.{IsVerdict, Verdict, verdict}
use Rattle.multi_meaning.proofs.VerdictLemmas.{one_verdict}
use Rattle.message_store.specs.Limits.{IsKept, IsPermanent}
use Rattle.message_store.specs.Slot.{StoreData, permanent_of}
use Rattle.message_store.specs.declared.message.Permanent.{Permanent}
use Rattle.sign_words.specs.declared.refusal.PermanentRefusal.{PermanentRefusal}
use Rattle.sign_report.specs.Permanents.{as_list, refusal_of, refusals_from}

module _ (sign : SignData) (messages : List Permanent) (i number : ℕ) (found all : List PermanentRefusal) where
  -- one more message is judged
  pub one_more : (d : Permanent) (grown : List PermanentRefusal) → i < length messages
      → grown ≡ found ++ as_list (refusal_of number (verdict sign (get_or messages i d).multi.items))
      → found ++ refusals_from sign number (map permanent_of (drop i messages)) ≡ all
      → grown ++ refusals_from sign (number + 1) (map permanent_of (drop (i + 1) messages)) ≡ all
  unfolding refusals_from
  one_more d grown within is so_far =
      ap (λ l. l ++ refusals_from sign (number + 1) (map permanent_of (drop (i + 1) messages))) is
      ∙ append_assoc found (as_list (refusal_of number (verdict sign (get_or messages i d).multi.items))) _
      ∙ ap (λ l. found ++ l) (sym (at_drop_more (λ l. refusals_from sign number (map permanent_of l)) messages i d within))
      ∙ so_far

  -- no message is left
  pub none_left : length messages ≤ i → found ++ refusals_from sign number (map permanent_of (drop i messages)) ≡ all → found ≡ all
  unfolding refusals_from
  none_left past so_far =
      sym (append-nil found)
      ∙ ap (λ l. found ++ l) (sym (at_drop_all (λ l. refusals_from sign number (map permanent_of l)) messages i past))
      ∙ so_far

-- what is told by a verdict is told by the one verdict on the text
pub by_verdict : (sign : SignData) (number : ℕ) (text octets : List ℕ) (v : Verdict) → octets ≡ text → IsVerdict sign octets v
    → refusal_of number v ≡ refusal_of number (verdict sign text)
by_verdict sign number text octets v same is = ap (refusal_of number) ((one_verdict sign octets v).0 is ∙ ap (λ l. verdict sign l) same)

-- the text of a permanent message of a store is short
pub short_text : (store : StoreData) (messages : List Permanent) (i : ℕ) (d : Permanent) → IsKept store → map permanent_of messages ≡ store.permanent
    → i < length messages → length (get_or messages i d).multi.items < 2 ^ 32
short_text store messages i d kept same within =
    let few : i < length store.permanent = omega (arith, ap length same, length-map messages permanent_of, within) in
    let each : IsPermanent store.limits (get_or store.permanent i (permanent_of d)) = All-get_or (IsPermanent store.limits) store.permanent i (permanent_of d) few kept.permanent.each in
    let here : get_or store.permanent i (permanent_of d) ≡ permanent_of (get_or messages i d) =
    ap (λ l. get_or l i (permanent_of d)) (sym same) ∙ get_or-map permanent_of messages i d (permanent_of d) within in
    let short : IsPermanent store.limits (permanent_of (get_or messages i d)) = subst (IsPermanent store.limits) here each in
    omega (arith, short.multi, kept.sound.longest.1)
