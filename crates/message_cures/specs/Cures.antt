-- What is proposed in place of a message that a sign refuses.
use Rattle.std.specs.Prelude.{◌≡◌, ◌≢◌, ⊤, ℕ, ◌+◌, ◌≤◌, true, false, List, [], ◌∷◌, ◌++◌, All, length, map, Option, None, Some, Vec}
use Rattle.sign_font.specs.Sign.{SignData}
use Rattle.message_cures.specs.Shown.{in_capitals, in_lines, in_small_letters, letters_of}
use Rattle.message_cures.specs.Taking.{takes}
use Rattle.message_cures.specs.declared.proposal.Proposal.{Proposal}
use Rattle.message_cures.specs.declared.mending.Kind.{Kind}
use Rattle.message_cures.specs.declared.mending.Kind.TheVariants.{Capitals, OtherLetters, SameLetters, SmallLetters}
use Rattle.message_cures.specs.declared.mending.Outcome.{Outcome}
use Rattle.message_cures.specs.declared.mending.Outcome.TheVariants.{Mended, Taken, Unknown}
use Rattle.message_cures.specs.declared.trial.Answer.{Answer}
use Rattle.message_cures.specs.declared.trial.Answer.TheVariants as answers

-- what a proposal of a kind keeps of a message (own)
abbrev pub IsOfKind : Kind → List ℕ → List ℕ → Type 0
IsOfKind Capitals text other = other ≡ in_capitals text
IsOfKind SmallLetters text other = other ≡ in_small_letters text
IsOfKind SameLetters text other = letters_of other ≡ letters_of text
IsOfKind OtherLetters text other = letters_of other ≢ letters_of text

-- and one that is changed otherwise than in its case (own)
abbrev pub IsChanged : Kind → List ℕ → List ℕ → Type 0
IsChanged Capitals text other = ⊥
IsChanged SmallLetters text other = ⊥
IsChanged SameLetters text other = letters_of other ≡ letters_of text
IsChanged OtherLetters text other = letters_of other ≢ letters_of text

-- a proposal is of the first kind that there is: the message in capitals, in small letters, or changed otherwise (own)
abbrev pub IsFirst : SignData → Kind → List ℕ → Type 0
IsFirst sign Capitals text = takes sign (in_capitals text) ≡ true
IsFirst sign SmallLetters text = takes sign (in_capitals text) ≡ false
IsFirst sign SameLetters text = (takes sign (in_capitals text) ≡ false) × (takes sign (in_small_letters text) ≡ false)
IsFirst sign OtherLetters text = (takes sign (in_capitals text) ≡ false) × (takes sign (in_small_letters text) ≡ false)

-- a sign takes a message as it is; or it doesn't, and it takes what is proposed, of the first kind that there is; or nothing is proposed,
-- and then the sign takes it neither in one case nor with each word in capitals on a line of its own (own)
abbrev pub Mends : SignData → List ℕ → Outcome → Type 0
Mends sign text Taken = takes sign text ≡ true
Mends sign text (Mended other kind) =
    (takes sign text ≡ false) × (takes sign other.items ≡ true) × IsOfKind kind text other.items × IsFirst sign kind text
Mends sign text Unknown = (takes sign text ≡ false) × (takes sign (in_capitals text) ≡ false)
    × (takes sign (in_small_letters text) ≡ false) × (takes sign (in_lines text) ≡ false)

-- a law: a message in capitals, and one in small letters, shows the same letters and digits, apart from their case (own)
abbrev pub CaseKeepsLetters : Type 0
CaseKeepsLetters = (octets : List ℕ)
    → (letters_of (in_capitals octets) ≡ letters_of octets) × (letters_of (in_small_letters octets) ≡ letters_of octets)

-- what a sign makes of a text that is tried (own)
abbrev pub IsTried : SignData → List ℕ → Answer → Type 0
IsTried sign text answers.Taken = takes sign text ≡ true
IsTried sign text (answers.Refused offence) = takes sign text ≡ false
IsTried sign text answers.TooLong = takes sign text ≡ false

-- the octets of some texts (own)
abbrev pub texts : {A : Type 0} → List (Vec ℕ A) → List (List ℕ)
texts items = map (λ text. text.items) items

-- 1 for a text that is found (own)
abbrev pub found_one : {A : Type 0} → Option (Vec ℕ A) → ℕ
found_one None = 0
found_one (Some text) = 1

-- some texts more were judged and refused, and as many more than these were taken (own)
abbrev pub Tries : SignData → List (List ℕ) → List (List ℕ) → ℕ → ℕ → ℕ → Type 0
Tries sign old new judged judged' taken = (more : List (List ℕ)) × (new ≡ old ++ more) × All (λ text. takes sign text ≡ false) more
    × (judged' ≡ judged + length more + taken)

-- some texts more were judged, at last a message in capitals with each word on a line of its own, and all were refused (own)
abbrev pub FailsAll : SignData → List ℕ → List (List ℕ) → List (List ℕ) → ℕ → ℕ → Type 0
FailsAll sign text old new judged judged' = (between : List (List ℕ)) × (middle : ℕ) × Tries sign old between judged middle 0
    × (new ≡ between ++ in_lines text ∷ []) × (judged' ≡ middle + 1)

-- texts that were refused begin with a message in capitals and in small letters (own)
abbrev pub AreSteps : SignData → List ℕ → List (List ℕ) → Type 0
AreSteps sign text refused = (steps : List (List ℕ)) × (refused ≡ in_capitals text ∷ in_small_letters text ∷ steps)
    × All (λ text. takes sign text ≡ false) steps

-- the texts that were judged in place of a message and refused, in their order: the message in capitals, then in small letters, then as it
-- was changed step by step, and at last with each word on a line of its own, up to the one that is proposed (own)
abbrev pub AreRefused : SignData → List ℕ → Outcome → List (List ℕ) → Type 0
AreRefused sign text Taken refused = refused ≡ []
AreRefused sign text (Mended other Capitals) refused = refused ≡ []
AreRefused sign text (Mended other SmallLetters) refused = refused ≡ in_capitals text ∷ []
AreRefused sign text (Mended other SameLetters) refused = AreSteps sign text refused
AreRefused sign text (Mended other OtherLetters) refused = AreSteps sign text refused
AreRefused sign text Unknown refused = (steps : List (List ℕ)) × AreSteps sign text steps × (refused ≡ steps ++ in_lines text ∷ [])

-- how many texts were judged, by those that were refused: these, the message, and what is proposed (own)
abbrev pub judged_of : Outcome → List (List ℕ) → ℕ
judged_of Taken refused = length refused + 1
judged_of (Mended other kind) refused = length refused + 2
judged_of Unknown refused = length refused + 1

-- FURTHER PROPOSALS

-- a message that a sign takes in place of another one, with what it keeps (own)
abbrev pub IsProposal : SignData → List ℕ → Proposal → Type 0
IsProposal sign text proposal = (takes sign proposal.text.items ≡ true) × IsOfKind proposal.kind text proposal.text.items

-- each of some proposals is another text than those before it and than this one (own)
abbrev pub AreOthers : List ℕ → List Proposal → Type 0
AreOthers first [] = ⊤
AreOthers first (proposal ∷ proposals) =
    (proposal.text.items ≢ first) × AreOthers first proposals × AreOthers proposal.text.items proposals

-- what is proposed beside a first text: at most two messages that the sign takes, each another one (own)
pub record AreFurther (sign : SignData) (text first : List ℕ) (proposals : List Proposal) : Type 0 where
  pub few : length proposals ≤ 2
  pub taken : All (IsProposal sign text) proposals
  pub others : AreOthers first proposals
