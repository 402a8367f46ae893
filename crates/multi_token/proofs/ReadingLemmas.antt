-- The reading of a string, as a function, is its reading.
use Rattle.std.proofs.Common.{◌≡◌, ℕ, zero, suc, ◌+◌, ◌≤◌, Bool, true, false, cond, ◌||◌, ◌==◌, ◌⊎◌, length, take, drop, List, [], ◌∷◌, ◌++◌, Option, Some, None, refl, sym, ap, subst, ◌∙◌, inl, inr, arith, lit≤}
use Rattle.std.specs.List.{take_while, prefix_len, All}
use Rattle.std.proofs.lemmas.List.{take_at, drop_at, append_assoc, take-append-drop, length-drop, length-append}
use Rattle.std.proofs.lemmas.List.Sums.{take_while-cons}
use Rattle.std.proofs.lemmas.List.Folds.{length-prefix_len}
use Rattle.std.proofs.lemmas.List.Elements.{All-head, All-tail, All-nil, All-cons}
use Rattle.std.proofs.lemmas.Bool.{eqb-true, eqb-false, cases_Bool, ne_eqb}
use Rattle.multi_token.specs.Spelling.{Item, Char, Tag, is_bracket, spelling, spell, IsPlain, IsItem, IsBody, BeginsWith, HasNoItem, IsReading}
use Rattle.multi_token.specs.Reading.{is_plain, closed_tag, tag_behind, opened_item, closed_item, first_item, Reading, read_item, read_items, reading, EachStringHasAReading}

-- the item at the front is found
plain_body : (b : List ℕ) (r : List ℕ) → All IsPlain b → prefix_len is_plain ((b ++ 93 ∷ []) ++ r) ≡ length b
plain_body [] r h = refl
plain_body (x ∷ b) r h =
    let p = All-head IsPlain x b h in
    ap (λ t. cond (cond (t || (x == 93)) false true) (1 + prefix_len is_plain ((b ++ 93 ∷ []) ++ r)) 0) (ne_eqb x 91 p.0)
    ∙ ap (λ t. cond (cond t false true) (1 + prefix_len is_plain ((b ++ 93 ∷ []) ++ r)) 0) (ne_eqb x 93 p.1)
    ∙ omega (arith, plain_body b r (All-tail IsPlain x b h))

found_tag : (x : ℕ) (b r : List ℕ) → IsBody (x ∷ b) → first_item (spelling (Tag (x ∷ b)) ++ r) ≡ Some (Tag (x ∷ b))
found_tag x b r body =
    let p = All-head IsPlain x b body.1 in
    let t = ((x ∷ b) ++ 93 ∷ []) ++ r in
    let n = plain_body (x ∷ b) r body.1 in
    let front : take_while is_plain t ≡ x ∷ b = ap (λ n. take n t) n ∙ ap (take (length (x ∷ b))) (append_assoc (x ∷ b) (93 ∷ []) r) ∙ take_at (x ∷ b) (93 ∷ r) (length (x ∷ b)) refl in
    let back : drop (length (x ∷ b)) t ≡ 93 ∷ r = ap (drop (length (x ∷ b))) (append_assoc (x ∷ b) (93 ∷ []) r) ∙ drop_at (x ∷ b) (93 ∷ r) (length (x ∷ b)) refl in
    ap (λ b. cond b (Some (Char 91)) (tag_behind t)) (ne_eqb x 91 p.0) ∙ ap (λ f. closed_tag f (drop (length f) t)) front ∙ ap (closed_tag (x ∷ b)) back

found_char : (c : ℕ) (r : List ℕ) → first_item (spelling (Char c) ++ r) ≡ Some (Char c)
found_char c r = cases (cases_Bool (c == 91)) (cases_Bool (c == 93))
  where
    cases : ((c == 91) ≡ true) ⊎ ((c == 91) ≡ false) → ((c == 93) ≡ true) ⊎ ((c == 93) ≡ false) → first_item (spelling (Char c) ++ r) ≡ Some (Char c)
    cases (inl e) q = let is : c ≡ 91 = eqb-true c 91 e in subst (λ n. first_item (spelling (Char n) ++ r) ≡ Some (Char n)) (sym is) refl
    cases (inr p) (inl e) = let is : c ≡ 93 = eqb-true c 93 e in subst (λ n. first_item (spelling (Char n) ++ r) ≡ Some (Char n)) (sym is) refl
    cases (inr p) (inr q) = rw (p, q) (rw (p, q) refl)

pub found : (x : Item) (r : List ℕ) → IsItem x → first_item (spelling x ++ r) ≡ Some x
found (Char c) r h = found_char c r
found (Tag []) r h = absurd (h.0 refl)
found (Tag (x ∷ b)) r h = found_tag x b r h

no_some : {A : Type 0} (x : A) → Some x ≡ None → ⊥
no_some x e = cc

-- where none is found, none is spelled
pub none_found : (s : List ℕ) → first_item s ≡ None → HasNoItem s
none_found s e x r h = no_some x (sym (found x r h.0) ∙ ap first_item (sym h.1) ∙ e)

-- THE READING

-- an octet is a bracket of one kind, or none
bracket_cases : (c : ℕ) → (c ≡ 91) ⊎ ((c ≡ 93) ⊎ (((c == 91) ≡ false) × ((c == 93) ≡ false)))
bracket_cases c = go (cases_Bool (c == 91)) (cases_Bool (c == 93))
  where
    go : ((c == 91) ≡ true) ⊎ ((c == 91) ≡ false) → ((c == 93) ≡ true) ⊎ ((c == 93) ≡ false) → (c ≡ 91) ⊎ ((c ≡ 93) ⊎ (((c == 91) ≡ false) × ((c == 93) ≡ false)))
    go (inl p) q = inl (eqb-true c 91 p)
    go (inr p) (inl q) = inr (inl (eqb-true c 93 q))
    go (inr p) (inr q) = inr (inr (p, q))

taken_if : (x : ℕ) (more : List ℕ) → All IsPlain more → All IsPlain (cond (is_plain x) (x ∷ more) [])
taken_if x more h = go (bracket_cases x)
  where
    go : (x ≡ 91) ⊎ ((x ≡ 93) ⊎ (((x == 91) ≡ false) × ((x == 93) ≡ false))) → All IsPlain (cond (is_plain x) (x ∷ more) [])
    go (inl e) = subst (λ n. All IsPlain (cond (is_plain n) (n ∷ more) [])) (sym e) (All-nil IsPlain)
    go (inr (inl e)) = subst (λ n. All IsPlain (cond (is_plain n) (n ∷ more) [])) (sym e) (All-nil IsPlain)
    go (inr (inr e)) = subst (λ b. All IsPlain (cond b (x ∷ more) [])) (sym (ap (λ a. cond (a || (x == 93)) false true) e.0 ∙ ap (λ a. cond a false true) e.1))
        (All-cons IsPlain x more (eqb-false x 91 e.0, eqb-false x 93 e.1) h)

plain_taken : (t : List ℕ) → All IsPlain (take_while is_plain t)
plain_taken [] = All-nil IsPlain
plain_taken (x ∷ t) = subst (All IsPlain) (sym (take_while-cons is_plain x t)) (taken_if x (take_while is_plain t) (plain_taken t))

-- what is found stands at the front, and a rest follows
abbrev pub Stands : List ℕ → Option Item → Type 0
Stands s None = Unit {0}
Stands s (Some x) = (r : List ℕ) × BeginsWith s x r

nil_cons : (b : ℕ) (body : List ℕ) → b ∷ body ≡ [] → ⊥
nil_cons b body e = cc

stands_tag : (t body rest : List ℕ) → t ≡ body ++ rest → All IsPlain body → Stands (91 ∷ t) (closed_tag body rest)
stands_tag t [] rest e h = tt
stands_tag t (b ∷ body) [] e h = tt
stands_tag t (b ∷ body) (c ∷ rest) e h = go (cases_Bool (c == 93))
  where
    go : ((c == 93) ≡ true) ⊎ ((c == 93) ≡ false) → Stands (91 ∷ t) (cond (c == 93) (Some (Tag (b ∷ body))) None)
    go (inl p) =
        let is : c ≡ 93 = eqb-true c 93 p in
        let front : 91 ∷ t ≡ spelling (Tag (b ∷ body)) ++ rest = ap (λ l. 91 ∷ l) (e ∙ ap (λ n. (b ∷ body) ++ n ∷ rest) is ∙ sym (append_assoc (b ∷ body) (93 ∷ []) rest)) in
        subst (Stands (91 ∷ t)) (sym (ap (λ v. cond v (Some (Tag (b ∷ body))) None) p)) (rest, ((nil_cons b body, h), front))
    go (inr p) = subst (Stands (91 ∷ t)) (sym (ap (λ v. cond v (Some (Tag (b ∷ body))) None) p)) tt

stands_opened : (s : List ℕ) → Stands (91 ∷ s) (opened_item s)
stands_opened [] = tt
stands_opened (e ∷ t) = go (cases_Bool (e == 91))
  where
    whole : e ∷ t ≡ take_while is_plain (e ∷ t) ++ drop (length (take_while is_plain (e ∷ t))) (e ∷ t)
    whole = sym (take-append-drop (prefix_len is_plain (e ∷ t)) (e ∷ t)) ∙ ap (λ n. take_while is_plain (e ∷ t) ++ drop n (e ∷ t)) (sym (length-prefix_len is_plain (e ∷ t)))

    go : ((e == 91) ≡ true) ⊎ ((e == 91) ≡ false) → Stands (91 ∷ e ∷ t) (cond (e == 91) (Some (Char 91)) (tag_behind (e ∷ t)))
    go (inl p) = subst (λ n. Stands (91 ∷ n ∷ t) (cond (n == 91) (Some (Char 91)) (tag_behind (n ∷ t)))) (sym (eqb-true e 91 p)) (t, (tt, refl))
    go (inr p) = subst (Stands (91 ∷ e ∷ t)) (sym (ap (λ v. cond v (Some (Char 91)) (tag_behind (e ∷ t))) p)) (stands_tag (e ∷ t) (take_while is_plain (e ∷ t)) (drop (length (take_while is_plain (e ∷ t))) (e ∷ t)) whole (plain_taken (e ∷ t)))

stands_closed : (s : List ℕ) → Stands (93 ∷ s) (closed_item s)
stands_closed [] = tt
stands_closed (e ∷ t) = go (cases_Bool (e == 93))
  where
    go : ((e == 93) ≡ true) ⊎ ((e == 93) ≡ false) → Stands (93 ∷ e ∷ t) (cond (e == 93) (Some (Char 93)) None)
    go (inl p) = subst (λ n. Stands (93 ∷ n ∷ t) (cond (n == 93) (Some (Char 93)) None)) (sym (eqb-true e 93 p)) (t, (tt, refl))
    go (inr p) = subst (Stands (93 ∷ e ∷ t)) (sym (ap (λ v. cond v (Some (Char 93)) None) p)) tt

pub stands : (s : List ℕ) → Stands s (first_item s)
stands [] = tt
stands (c ∷ s) = go (bracket_cases c)
  where
    go : (c ≡ 91) ⊎ ((c ≡ 93) ⊎ (((c == 91) ≡ false) × ((c == 93) ≡ false))) → Stands (c ∷ s) (first_item (c ∷ s))
    go (inl e) = subst (λ n. Stands (n ∷ s) (first_item (n ∷ s))) (sym e) (stands_opened s)
    go (inr (inl e)) = subst (λ n. Stands (n ∷ s) (first_item (n ∷ s))) (sym e) (stands_closed s)
    go (inr (inr e)) =
        subst (Stands (c ∷ s)) (sym (ap (λ a. cond a (opened_item s) (cond (c == 93) (closed_item s) (Some (Char c)))) e.0 ∙ ap (λ a. cond a (closed_item s) (Some (Char c))) e.1))
        (s, (tt, sym (ap (λ b. cond b (c ∷ c ∷ []) (c ∷ []) ++ s) (ap (λ a. a || (c == 93)) e.0 ∙ e.1))))

-- a reading of what follows an item, put after the item
reading_cons : (s r : List ℕ) (x : Item) (more : Reading) → BeginsWith s x r → IsReading r more.items more.rest → IsReading s (x ∷ more.items) more.rest
reading_cons s r x more h m = record {
  each = All-cons IsItem x more.items h.0 m.each;
  spelled = h.1 ∙ ap (λ l. spelling x ++ l) m.spelled ∙ sym (append_assoc (spelling x) (spell more.items) more.rest);
  ends = m.ends;
}

-- no spelling is empty
pub spelling_some : (x : Item) → 1 ≤ length (spelling x)
spelling_some (Char c) = go (is_bracket c)
  where
    go : (b : Bool) → 1 ≤ length (cond b (c ∷ c ∷ []) (c ∷ []))
    go true = lit≤ tt
    go false = lit≤ tt
spelling_some (Tag b) = omega arith

rest_is : (s r : List ℕ) (x : Item) → BeginsWith s x r → drop (length (spelling x)) s ≡ r
rest_is s r x h = ap (drop (length (spelling x))) h.1 ∙ drop_at (spelling x) r (length (spelling x)) refl

reads_on : (fuel : ℕ) (s : List ℕ) → length s ≤ suc fuel → ((r : List ℕ) → length r ≤ fuel → IsReading r (read_items fuel r).items (read_items fuel r).rest)
    → (o : Option Item) → first_item s ≡ o → Stands s o → let d = read_item s (λ x. read_items fuel (drop (length (spelling x)) s)) o in IsReading s d.items d.rest
unfolding read_item
reads_on fuel s short ih None e h = record { each = All-nil IsItem; spelled = refl; ends = none_found s e }
reads_on fuel s short ih (Some x) e (r, h) =
    let n = length (spelling x) in
    let is : drop n s ≡ r = rest_is s r x h in
    let less : length (drop n s) ≤ fuel = omega (arith, length-drop n s, spelling_some x, ap length h.1, length-append (spelling x) r) in
    reading_cons s (drop n s) x (read_items fuel (drop n s)) (h.0, h.1 ∙ ap (λ l. spelling x ++ l) (sym is)) (ih (drop n s) less)

no_item : HasNoItem []
no_item = none_found [] refl

reads : (fuel : ℕ) (s : List ℕ) → length s ≤ fuel → IsReading s (read_items fuel s).items (read_items fuel s).rest
unfolding read_items
reads zero [] short = record { each = All-nil IsItem; spelled = refl; ends = no_item }
reads zero (c ∷ s) short = absurd (omega arith)
reads (suc fuel) s short = reads_on fuel s short (reads fuel) (first_item s) refl (stands s)

-- a string has a reading, which is this one
pub each_string_has_a_reading : EachStringHasAReading
unfolding reading
each_string_has_a_reading s = reads (length s) s (omega arith)
