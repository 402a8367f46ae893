-- The spellings of items: at most one stands at a place.
use Rattle.std.proofs.Common.{◌≡◌, ℕ, List, [], ◌∷◌, ◌++◌, refl, sym, ap, ◌∙◌, append_assoc, append-nil, inl, inr, ◌⊎◌}
use Rattle.std.specs.List.{All}
use Rattle.std.proofs.lemmas.Bool.{eq-eqb, ne_eqb, cases_eq}
use Rattle.std.proofs.lemmas.List.Elements.{All-head, All-tail}
use Rattle.multi_token.specs.Spelling.{Item, Char, Tag, IsPlain, IsItem, spelling, spell, HasNoItem, OneReading}
use Rattle.multi_token.specs.Tokens.{NoSpellingBeginsAnother}

-- no plain octet stands first
abbrev pub IsStopped : List ℕ → Type 0
IsStopped [] = Unit {0}
IsStopped (octet ∷ octets) = IsPlain octet → ⊥

-- the longest front of plain octets is one
pub one_plain_front : (a b x y : List ℕ) → All IsPlain a → All IsPlain b → IsStopped x → IsStopped y → a ++ x ≡ b ++ y → (a ≡ b) × (x ≡ y)
one_plain_front [] [] x y p q s t e = (refl, e)
one_plain_front [] (d ∷ b) [] y p q s t e = cc
one_plain_front [] (d ∷ b) (c ∷ x) y p q s t e = let h : c ≡ d = cc in absurd (s (rw h (All-head IsPlain d b q)))
one_plain_front (c ∷ a) [] x [] p q s t e = cc
one_plain_front (c ∷ a) [] x (d ∷ y) p q s t e = let h : d ≡ c = cc in absurd (t (rw h (All-head IsPlain c a p)))
one_plain_front (c ∷ a) (d ∷ b) x y p q s t e =
    let head : c ≡ d = cc in
    let tail : a ++ x ≡ b ++ y = cc in
    let r = one_plain_front a b x y (All-tail IsPlain c a p) (All-tail IsPlain d b q) s t tail in
    let r0 = r.0 in
    let r1 = r.1 in
    (cc, r1)

-- how a character is spelled, with what follows
pub data SpelledChar (c : ℕ) (x : List ℕ) : Type 0 where
  doubled : (c ≡ 91) ⊎ (c ≡ 93) → spelling (Char c) ++ x ≡ c ∷ c ∷ x → SpelledChar c x
  single : IsPlain c → spelling (Char c) ++ x ≡ c ∷ x → SpelledChar c x

pub spelled_char : (c : ℕ) (x : List ℕ) → SpelledChar c x
spelled_char c x =
    elim (cases_eq c 91) [
      | inl e ↦ doubled (inl e) (rw (eq-eqb c 91 e) refl)
      | inr n ↦ elim (cases_eq c 93) [
        | inl e ↦ doubled (inr e) (rw (ne_eqb c 91 n, eq-eqb c 93 e) refl)
        | inr m ↦ single (n, m) (rw (ne_eqb c 91 n, ne_eqb c 93 m) refl)
      ]
    ]

same_chars : (c d : ℕ) (x y : List ℕ) → SpelledChar c x → SpelledChar d y → spelling (Char c) ++ x ≡ spelling (Char d) ++ y → (c ≡ d) × (x ≡ y)
same_chars c d x y (doubled b p) (doubled b' q) e = (cc, cc)
same_chars c d x y (doubled b p) (single n q) e =
    let h : c ≡ d = cc in absurd (elim b [ inl k ↦ n.0 cc | inr k ↦ n.1 cc ])
same_chars c d x y (single n p) (doubled b q) e =
    let h : c ≡ d = cc in absurd (elim b [ inl k ↦ n.0 cc | inr k ↦ n.1 cc ])
same_chars c d x y (single n p) (single n' q) e = (cc, cc)

char_is_no_tag : (c : ℕ) (body : List ℕ) (x y : List ℕ) → SpelledChar c x → IsItem (Tag body) → spelling (Char c) ++ x ≡ spelling (Tag body) ++ y → ⊥
char_is_no_tag c [] x y s q e = q.0 refl
char_is_no_tag c (b ∷ body) x y (doubled k p) q e =
    let h : c ≡ 91 = cc in
    let g : c ≡ b = cc in
    (All-head IsPlain b body q.1).0 cc
char_is_no_tag c (b ∷ body) x y (single n p) q e = n.0 cc

-- one item alone stands at the front
pub one_item_begins : (i j : Item) (x y : List ℕ) → IsItem i → IsItem j → spelling i ++ x ≡ spelling j ++ y → (i ≡ j) × (x ≡ y)
one_item_begins (Char c) (Char d) x y p q e =
    let r = same_chars c d x y (spelled_char c x) (spelled_char d y) e in (ap Char r.0, r.1)
one_item_begins (Char c) (Tag b) x y p q e = absurd (char_is_no_tag c b x y (spelled_char c x) q e)
one_item_begins (Tag a) (Char d) x y p q e = absurd (char_is_no_tag d a y x (spelled_char d y) p (sym e))
one_item_begins (Tag a) (Tag b) x y p q e =
    let tails : (a ++ 93 ∷ []) ++ x ≡ (b ++ 93 ∷ []) ++ y = cc in
    let apart : a ++ 93 ∷ x ≡ b ++ 93 ∷ y = sym (append_assoc a (93 ∷ []) x) ∙ (tails ∙ append_assoc b (93 ∷ []) y) in
    let r = one_plain_front a b (93 ∷ x) (93 ∷ y) p.1 q.1 (λ n. n.1 refl) (λ n. n.1 refl) apart in
    let r0 = r.0 in
    let r1 = r.1 in
    (ap Tag r0, cc)

pub no_spelling_begins_another : NoSpellingBeginsAnother
no_spelling_begins_another x y rest p q e = (one_item_begins x y rest [] p q (sym e ∙ sym (append-nil (spelling y)))).0

-- the reading of a string begins with the items that are spelled at its front
pub reading_begins : (xs zs : List Item) (r t : List ℕ) → All IsItem xs → All IsItem zs → HasNoItem t → spell xs ++ r ≡ spell zs ++ t → (ws : List Item) × (zs ≡ xs ++ ws) × (r ≡ spell ws ++ t)
reading_begins [] zs r t p q none h = (zs, refl, h)
reading_begins (x ∷ xs) [] r t p q none h = absurd (none x (spell xs ++ r) (All-head IsItem x xs p, sym h ∙ append_assoc (spelling x) (spell xs) r))
reading_begins (x ∷ xs) (z ∷ zs) r t p q none h =
    let e : spelling x ++ (spell xs ++ r) ≡ spelling z ++ (spell zs ++ t) = sym (append_assoc (spelling x) (spell xs) r) ∙ h ∙ append_assoc (spelling z) (spell zs) t in
    let same = one_item_begins x z (spell xs ++ r) (spell zs ++ t) (All-head IsItem x xs p) (All-head IsItem z zs q) e in
    let is : x ≡ z = same.0 in
    let (ws, more, behind) = reading_begins xs zs r t (All-tail IsItem x xs p) (All-tail IsItem z zs q) none same.1 in
    (ws, (λ i. sym is i ∷ more i), behind)

-- nothing stands after a whole reading
ends_there : (ws : List Item) (t t' : List ℕ) → All IsItem ws → HasNoItem t → t ≡ spell ws ++ t' → ws ≡ []
ends_there [] t t' each none e = refl
ends_there (w ∷ ws) t t' each none e = absurd (none w (spell ws ++ t') (All-head IsItem w ws each, e ∙ append_assoc (spelling w) (spell ws) t'))

items_behind : (xs ws : List Item) → All IsItem (xs ++ ws) → All IsItem ws
items_behind [] ws each = each
items_behind (x ∷ xs) ws each = items_behind xs ws (All-tail IsItem x (xs ++ ws) each)

pub one_reading : OneReading
one_reading octets items items' rest rest' a b =
    let (ws, is, behind) = reading_begins items items' rest rest' a.each b.each b.ends (sym a.spelled ∙ b.spelled) in
    let each : All IsItem (items ++ ws) = rw (← is) b.each in
    let none : ws ≡ [] = ends_there ws rest rest' (items_behind items ws each) a.ends behind in
    (sym (is ∙ ap (λ l. items ++ l) none ∙ append-nil items), behind ∙ ap (λ l. spell l ++ rest') none)
