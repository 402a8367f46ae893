-- What is proposed beside a first text.
use Rattle.std.proofs.Common.{◌≡◌, ◌≢◌, ℕ, ◌+◌, ◌<◌, List, [], ◌∷◌, ◌++◌, All, length, sym, ◌∙◌, arith, true, false, get_or, nat_eq, subst, take}
use Rattle.std.proofs.lemmas.List.{length-append, take_more}
use Rattle.std.proofs.lemmas.List.Elements.{All-head, All-push, All-tail}
use Rattle.std.specs.Cmp.Lexicographic.{bytes_decides, pointwise}
use Rattle.sign_font.specs.Sign.{SignData}
use Rattle.message_cures.specs.declared.proposal.Proposal.{Proposal}
use Rattle.message_cures.specs.Cures.{AreFurther, AreOthers, IsProposal}

-- one more, which is another text than each of them
pub more_others : (first : List ℕ) (proposals : List Proposal) (next : Proposal) → AreOthers first proposals → next.text.items ≢ first
    → All (λ (proposal : Proposal). next.text.items ≢ proposal.text.items) proposals → AreOthers first (proposals ++ next ∷ [])
more_others first [] next none other all = (other, tt, tt)
more_others first (proposal ∷ proposals) next (one, rest, behind) other all =
    let tail = All-tail (λ (p : Proposal). next.text.items ≢ p.text.items) proposal proposals all in
    (one, more_others first proposals next rest other tail, more_others proposal.text.items proposals next behind (All-head (λ (p : Proposal). next.text.items ≢ p.text.items) proposal proposals all) tail)

pub more_further : (sign : SignData) (text first : List ℕ) (proposals : List Proposal) (next : Proposal) → AreFurther sign text first proposals → length proposals < 2 → IsProposal sign text next → next.text.items ≢ first
    → All (λ (proposal : Proposal). next.text.items ≢ proposal.text.items) proposals → AreFurther sign text first (proposals ++ next ∷ [])
more_further sign text first proposals next are room is other all = record {
  few = omega (arith, room, length-append proposals (next ∷ []));
  taken = All-push (IsProposal sign text) proposals next are.taken is;
  others = more_others first proposals next are.others other all;
}

-- a text is another one than one more of them
pub other_more : (text : List ℕ) (proposals : List Proposal) (i : ℕ) (d : Proposal) → i < length proposals → All (λ (proposal : Proposal). text ≢ proposal.text.items) (take i proposals)
    → text ≢ (get_or proposals i d).text.items → All (λ (proposal : Proposal). text ≢ proposal.text.items) (take (i + 1) proposals)
other_more text proposals i d below so_far other =
    let P : Proposal → Type 0 = λ proposal. text ≢ proposal.text.items in
    subst (All P) (sym (take_more proposals i d below)) (All-push P (take i proposals) (get_or proposals i d) so_far other)

-- octets that aren't equal one by one are others
pub differ : (one other : List ℕ) → false ≡ pointwise nat_eq one other → other ≢ one
differ one other not same = let is = (bytes_decides one other).1 (sym same) in absurd (let wrong : false ≡ true = not ∙ is in cc)
