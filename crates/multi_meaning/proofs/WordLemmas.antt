-- The words on lists, at one more item and at two lists.
use Rattle.multi_meaning.proofs.Common.{◌≡◌, ◌⊎◌, inl, inr, ℕ, ◌+◌, ◌≤◌, length, List, [], ◌∷◌, ◌++◌, Option, Some, None, suc, refl, sym, ap, subst, ◌∙◌, arith, append_assoc, append-nil, Bool, false, zero, true, cond, take, length-append, nat_lt, sum_by, filter_map, cons_option, list_any, after_last, option_map_or, filter_map-append, All-nil, All-head, All-push, All-tail, All-weaker, filter-append, sum_by_push, sum_by-cons, fold-append, both_ways, cases_Bool, false≢true, list_any-append, nat_tests, drop_all, drop-append-le, page_number, each_after, some_after, largest, CutAt, longest_prefix, cut_at_last, longer, Spot, goes_back, max, filter, All, last_or, fold, onto_first, option_map, fold_push, reverse-append, successive, extent, cut_behind}

-- each item of two lists
pub each_after-append : {X Y : Type 0} (f : List X → X → Y) (xs ys : List X) → each_after f (xs ++ ys) ≡ each_after f xs ++ each_after (λ before. f (xs ++ before)) ys
each_after-append f [] ys = refl
each_after-append f (x ∷ xs) ys = ap (λ l. f [] x ∷ l) (each_after-append (λ before. f (x ∷ before)) xs ys)

-- one more item
pub each_after_push : {X Y : Type 0} (f : List X → X → Y) (xs : List X) (x : X) → each_after f (xs ++ x ∷ []) ≡ each_after f xs ++ f xs x ∷ []
each_after_push f xs x = each_after-append f xs (x ∷ []) ∙ ap (λ l. each_after f xs ++ f l x ∷ []) (append-nil xs)

pub each_after_length : {X Y : Type 0} (f : List X → X → Y) (xs : List X) → length (each_after f xs) ≡ length xs
each_after_length f [] = refl
each_after_length f (x ∷ xs) = ap suc (each_after_length (λ before. f (x ∷ before)) xs)

pub last_or_push : {X : Type 0} (o : Option X) (xs : List X) (x : X) → last_or o (xs ++ x ∷ []) ≡ Some x
last_or_push o [] x = refl
last_or_push o (y ∷ xs) x = last_or_push (Some y) xs x

-- the last of two lists
pub last_or-append : {X : Type 0} (o : Option X) (xs ys : List X) → last_or o (xs ++ ys) ≡ last_or (last_or o xs) ys
last_or-append o [] ys = refl
last_or-append o (x ∷ xs) ys = last_or-append (Some x) xs ys

-- the gap between the last item and one more
abbrev pub gap_before : {X : Type 0} → (X → X → ℕ) → List X → X → ℕ
gap_before gap xs y = option_map_or (λ x. gap x y) (last_or None xs) 0

gaps_from : {X : Type 0} (gap : X → X → ℕ) (a : X) (xs : List X) (y : X) → let gaps = sum_by (λ (p : X × X). gap p.0 p.1) in
    gaps (successive (a ∷ (xs ++ y ∷ []))) ≡ gaps (successive (a ∷ xs)) + option_map_or (λ x. gap x y) (last_or (Some a) xs) 0
gaps_from gap a [] y = omega arith
gaps_from {X} gap a (x ∷ xs) y =
    let more = sum_by-cons (λ (p : X × X). gap p.0 p.1) (a, x) in
    omega (arith, more (successive (x ∷ (xs ++ y ∷ []))), more (successive (x ∷ xs)), gaps_from gap x xs y)

-- one more item adds its size and the gap before it
pub extent_push : {X : Type 0} (size : X → ℕ) (gap : X → X → ℕ) (xs : List X) (y : X) → extent size gap (xs ++ y ∷ []) ≡ extent size gap xs + gap_before gap xs y + size y
extent_push size gap [] y = omega arith
extent_push size gap (x ∷ xs) y = omega (arith, gaps_from gap x xs y, sum_by_push size (x ∷ xs) y)

pub largest_push : {X : Type 0} (f : X → ℕ) (xs : List X) (x : X) → largest f (xs ++ x ∷ []) ≡ max (largest f xs) (f x)
largest_push f xs x = fold_push (λ a x. max a (f x)) 0 xs x

pub some_after-append : {X Y : Type 0} (f : List X → X → Option Y) (xs ys : List X) → some_after f (xs ++ ys) ≡ some_after f xs ++ some_after (λ before. f (xs ++ before)) ys
some_after-append f xs ys = ap (λ l. filter_map (λ o. o) l) (each_after-append f xs ys) ∙ filter_map-append (λ o. o) (each_after f xs) (each_after (λ before. f (xs ++ before)) ys)

-- one more item
pub some_after_push : {X Y : Type 0} (f : List X → X → Option Y) (xs : List X) (x : X) → some_after f (xs ++ x ∷ []) ≡ some_after f xs ++ cons_option (f xs x) []
some_after_push f xs x = ap (λ l. filter_map (λ o. o) l) (each_after_push f xs x) ∙ filter_map-append (λ o. o) (each_after f xs) (f xs x ∷ [])

-- of none is made something, and of one more neither
pub none_more : {X Y : Type 0} (f : List X → X → Option Y) (xs : List X) (x : X) → some_after f xs ≡ [] → f xs x ≡ None → some_after f (xs ++ x ∷ []) ≡ []
none_more f xs x none fine = some_after_push f xs x ∙ ap (λ l. l ++ cons_option (f xs x) []) none ∙ ap (λ o. cons_option o []) fine

-- induction on a list from its end
push_ind_from : {X : Type 0} (P : List X → Type 0) → ((xs : List X) (x : X) → P xs → P (xs ++ x ∷ [])) → (ys xs : List X) → P xs → P (xs ++ ys)
push_ind_from P step [] xs h = subst P (sym (append-nil xs)) h
push_ind_from P step (y ∷ ys) xs h = subst P (append_assoc xs (y ∷ []) ys) (push_ind_from P step ys (xs ++ y ∷ []) (step xs y h))

pub push_ind : {X : Type 0} (P : List X → Type 0) → P [] → ((xs : List X) (x : X) → P xs → P (xs ++ x ∷ [])) → (xs : List X) → P xs
push_ind P none step xs = push_ind_from P step xs [] none

-- what holds of no items, and of each of these after those before it, holds of every front of them
pub front_ind : {X : Type 0} (all : List X) (P : List X → Type 0) → P [] → ((some more : List X) (x : X) → all ≡ some ++ x ∷ more → P some → P (some ++ x ∷ [])) → (some more : List X) → all ≡ some ++ more → P some
front_ind {X} all P none step = push_ind (λ some. (more : List X) → all ≡ some ++ more → P some) (λ more is. none) (λ some x ih more is. step some more x (is ∙ append_assoc some (x ∷ []) more) (ih (x ∷ more) (is ∙ append_assoc some (x ∷ []) more)))

-- where the same is made of each item, the same is made of all
pub each_same : {X Y : Type 0} (f g : List X → X → Y) (xs : List X) → ((some more : List X) (x : X) → xs ≡ some ++ x ∷ more → f some x ≡ g some x) → each_after f xs ≡ each_after g xs
each_same f g xs same = front_ind xs (λ some. each_after f some ≡ each_after g some) refl (λ some more x is ih.
    grind (arith, each_after_push f some x, each_after_push g some x, ih, same some more x is)) xs [] (sym (append-nil xs))

-- no value is more than the largest
pub largest_most : {X : Type 0} (f : X → ℕ) (xs : List X) → All (λ x. f x ≤ largest f xs) xs
largest_most {X} f = push_ind (λ xs. All (λ x. f x ≤ largest f xs) xs) (All-nil (λ x. f x ≤ 0)) (λ xs x ih.
    All-push (λ y. f y ≤ largest f (xs ++ x ∷ [])) xs x (All-weaker (λ y. f y ≤ largest f xs) (λ y. f y ≤ largest f (xs ++ x ∷ []))
    (λ y h. omega (arith, h, largest_push f xs x)) xs ih) (omega (arith, largest_push f xs x)))

-- what holds of each holds around one of them, and of it
pub All-around : {X : Type 0} (P : X → Type 0) (xs : List X) (x : X) (ys : List X) → All P (xs ++ x ∷ ys) → All P xs × P x × All P ys
All-around P [] x ys h = (All-nil P, All-head P x ys h, All-tail P x ys h)
All-around P (z ∷ xs) x ys h = grind (arith, All-head, All-around P xs x ys (All-tail P z (xs ++ x ∷ ys) h))

pub All-split : {X : Type 0} (P : X → Type 0) (xs : List X) (x : X) → All P (xs ++ x ∷ []) → All P xs × P x
All-split P xs x h = let parts = All-around P xs x [] h in (parts.0, parts.1)

-- there is a value or none
pub cases_Option : {X : Type 0} (o : Option X) → (o ≡ None) ⊎ ((x : X) × (o ≡ Some x))
cases_Option None = inl refl
cases_Option (Some x) = inr (x, refl)

-- two lists of nothing
pub left_nil : {X : Type 0} (xs ys : List X) → xs ++ ys ≡ [] → xs ≡ []
left_nil [] ys e = refl
left_nil (x ∷ xs) ys e = cc

pub right_nil : {X : Type 0} (xs ys : List X) → xs ++ ys ≡ [] → ys ≡ []
right_nil [] ys e = e
right_nil (x ∷ xs) ys e = cc

-- nothing is put before a list of nothing
pub none_of : {X : Type 0} (o : Option X) (more : List X) → cons_option o more ≡ [] → o ≡ None
none_of o more e = grind arith

pub none_mapped : {X Y : Type 0} (f : X → Y) (o : Option X) → option_map f o ≡ None → o ≡ None
none_mapped f o e = grind arith

pub filter_none : {X : Type 0} (p : X → Bool) (xs : List X) → All (λ x. p x ≡ false) xs → filter p xs ≡ []
filter_none p [] h = refl
filter_none p (x ∷ xs) h = rw (All-head (λ x. p x ≡ false) x xs h) (filter_none p xs (All-tail (λ x. p x ≡ false) x xs h))

-- one more item: the whole, or the longest so far
pub longest_push : {X : Type 0} (p : List X → Bool) (xs : List X) (x : X) → longest_prefix p (xs ++ x ∷ []) ≡ cond (p (xs ++ x ∷ [])) (xs ++ x ∷ []) (longest_prefix p xs)
longest_push p xs x = grind (arith, each_after_push, filter-append, last_or-append)

-- it is all of a list that passes
pub longest_all : {X : Type 0} (p : List X → Bool) (xs : List X) → p xs ≡ true → longest_prefix p xs ≡ xs
longest_all p = push_ind (λ xs. p xs ≡ true → longest_prefix p xs ≡ xs) (λ h. rw h refl) (λ xs x ih h. longest_push p xs x ∙ rw h refl)

-- it is no longer than the list
longest_most : {X : Type 0} (p : List X → Bool) (xs : List X) → length (longest_prefix p xs) ≤ length xs
longest_most p = push_ind (λ xs. length (longest_prefix p xs) ≤ length xs) (grind arith) (λ xs x ih. grind (arith, longest_push, length-append, ih))

-- it is shorter than a list that doesn't pass
pub longest_short : {X : Type 0} (p : List X → Bool) (xs : List X) → p [] ≡ true → p xs ≡ false → length (longest_prefix p xs) + 1 ≤ length xs
longest_short p xs some = push_ind (λ xs. p xs ≡ false → length (longest_prefix p xs) + 1 ≤ length xs) (λ none. absurd (both_ways (p []) none some)) (λ xs x ih none. grind (arith, longest_push p xs x, none, longest_most p xs, length-append)) xs

abbrev pub last_more : {X : Type 0} → Bool → List X → X → Option (CutAt X) → Option (CutAt X)
last_more b xs x o = cond b (Some (record { before = xs; item = x; behind = [] })) (option_map (longer (x ∷ [])) o)

module _ {X : Type 0} (p : X → Bool) where
  pub last_push : (xs : List X) (x : X) → cut_at_last p (xs ++ x ∷ []) ≡ last_more (p x) xs x (cut_at_last p xs)
  last_push [] x = grind arith
  last_push (y ∷ xs) x = grind (arith, last_push xs x)

  -- a cut gives the list's parts, and none that passes stands after
  pub record IsCut (xs : List X) (c : CutAt X) : Type 0 where
    pub parts : xs ≡ c.before ++ c.item ∷ c.behind
    pub passes : p c.item ≡ true
    pub last : cut_at_last p c.behind ≡ None

  pub is_cut : (xs : List X) (c : CutAt X) → cut_at_last p xs ≡ Some c → IsCut xs c
  is_cut [] c e = absurd cc
  is_cut (x ∷ xs) c e = grind (arith, is_cut xs)

  pub none_take : (xs : List X) (n : ℕ) → cut_at_last p xs ≡ None → cut_at_last p (take n xs) ≡ None
  none_take xs zero h = refl
  none_take [] (suc n) h = refl
  none_take (x ∷ xs) (suc n) h = grind (arith, h, none_take xs n)

pub any_largest : {X : Type 0} (f : X → ℕ) (n : ℕ) (xs : List X) → list_any (λ x. nat_lt n (f x)) xs ≡ nat_lt n (largest f xs)
any_largest f n = push_ind (λ xs. list_any (λ x. nat_lt n (f x)) xs ≡ nat_lt n (largest f xs)) (grind (arith, nat_tests))
    (λ xs x ih. grind (arith, nat_tests, list_any-append (λ x. nat_lt n (f x)) xs (x ∷ []), largest_push f xs x, ih))

-- a group goes back exactly where it is below the largest so far
pub group_goes_back : (s : Spot) (area : List Spot) → list_any (goes_back s) area ≡ nat_lt (page_number s.at.page_just) (largest (λ t. page_number t.at.page_just) area)
group_goes_back s area = any_largest (λ t. page_number t.at.page_just) (page_number s.at.page_just) area

-- a row is at least as long as its beginning
pub extent-append-le : {X : Type 0} (size : X → ℕ) (gap : X → X → ℕ) (ys xs : List X) → extent size gap xs ≤ extent size gap (xs ++ ys)
extent-append-le size gap ys xs = push_ind (λ ys. extent size gap xs ≤ extent size gap (xs ++ ys)) (omega (arith, ap (extent size gap) (append-nil xs)))
    (λ ys y ih. omega (arith, ih, extent_push size gap (xs ++ ys) y, ap (extent size gap) (append_assoc xs ys (y ∷ [])))) ys

-- the parts that are closed, and what stands after them
pub record Cut (X : Type 0) : Type 0 where
  pub closed : List (List X)
  pub open' : List X

module _ {X : Type 0} (p : X → Bool) where
  -- one more item ends the open part, or lengthens it
  abbrev pub ends_part : Cut X → X → Cut X
  ends_part c x = record { closed = c.closed ++ (c.open' ++ x ∷ []) ∷ []; open' = [] }

  abbrev pub longer_part : Cut X → X → Cut X
  longer_part c x = record { closed = c.closed; open' = c.open' ++ x ∷ [] }

  abbrev pub cut_more : Cut X → X → Cut X
  cut_more c x = cond (p x) (ends_part c x) (longer_part c x)

  abbrev pub cut_from : Cut X → List X → Cut X
  cut_from c xs = fold cut_more c xs

  abbrev pub cut : List X → Cut X
  cut xs = cut_from (record { closed = []; open' = [] }) xs

  -- a part that isn't empty
  abbrev pub part : List X → List (List X)
  part [] = []
  part (x ∷ xs) = (x ∷ xs) ∷ []

  -- the first part of a cut list with h put before it
  abbrev onto : List X → List (List X) → List (List X)
  onto [] parts = parts
  onto (x ∷ h) parts = onto_first x (onto h parts)

  onto-nil : (h : List X) → onto h [] ≡ part h
  onto-nil [] = refl
  onto-nil (x ∷ []) = refl
  onto-nil (x ∷ y ∷ h) = ap (onto_first x) (onto-nil (y ∷ h))

  onto-cons : (h : List X) (l : List X) (ls : List (List X)) → onto h (l ∷ ls) ≡ (h ++ l) ∷ ls
  onto-cons [] l ls = refl
  onto-cons (x ∷ h) l ls = ap (onto_first x) (onto-cons h l ls)

  onto_push : (h : List X) (x : X) (parts : List (List X)) → onto h (onto_first x parts) ≡ onto (h ++ x ∷ []) parts
  onto_push [] x parts = refl
  onto_push (y ∷ h) x parts = ap (onto_first y) (onto_push h x parts)

  -- the closed parts and the open one are the parts
  abbrev Parts : List X → Cut X → Type 0
  Parts xs c = (cut_from c xs).closed ++ part (cut_from c xs).open' ≡ c.closed ++ onto c.open' (cut_behind p xs)

  cut_parts : (xs : List X) (c : Cut X) → Parts xs c
  cut_parts [] c = ap (λ l. c.closed ++ l) (sym (onto-nil c.open'))
  cut_parts (x ∷ xs) c = grind (arith, onto-cons, onto_push, append_assoc, cut_parts xs (ends_part c x), cut_parts xs (longer_part c x))

  -- the parts of two lists
  pub cut_append : (xs ys : List X) → cut_behind p (xs ++ ys) ≡ (cut xs).closed ++ onto (cut xs).open' (cut_behind p ys)
  cut_append xs ys = grind (arith, cut_parts (xs ++ ys) (record { closed = []; open' = [] }), fold-append, cut_parts ys (cut xs))

  pub cut_behind_is : (xs : List X) → cut_behind p xs ≡ (cut xs).closed ++ part (cut xs).open'
  cut_behind_is xs = sym (cut_parts xs (record { closed = []; open' = [] }))

  -- the part of an item: it, and some items, none where it ends the part
  first_of : (b : Bool) (x : X) (parts : List (List X)) → (rest : List X) × (others : List (List X))
      × (cond b ((x ∷ []) ∷ parts) (onto_first x parts) ≡ (x ∷ rest) ∷ others) × (b ≡ true → rest ≡ [])
  first_of true x parts = ([], parts, refl, λ e. refl)
  first_of false x [] = ([], [], refl, λ e. refl)
  first_of false x (part ∷ parts) = (part, parts, refl, λ e. absurd (false≢true e))

  -- a list, an item, and more: the open part has the item, and the closed ones stay
  pub cut_with_item : (xs : List X) (x : X) (ys : List X)
      → (rest : List X) × (others : List (List X)) × (cut_behind p (xs ++ x ∷ ys) ≡ (cut xs).closed ++ ((cut xs).open' ++ x ∷ rest) ∷ others)
      × (p x ≡ true → rest ≡ [])
  cut_with_item xs x ys = grind (arith, first_of (p x) x (cut_behind p ys), cut_append xs (x ∷ ys), onto-cons)

  pub cut_push : (xs : List X) (x : X) → cut (xs ++ x ∷ []) ≡ cut_more (cut xs) x
  cut_push xs x = fold_push cut_more (record { closed = []; open' = [] }) xs x

  -- what holds of nothing, and stays where an item ends the open part and where one lengthens it, holds of every cut list
  pub cut_ind : (P : List X → Cut X → Type 0) → P [] (record { closed = []; open' = [] })
      → ((xs : List X) (c : Cut X) (x : X) → p x ≡ true → P xs c → P (xs ++ x ∷ []) (ends_part c x))
      → ((xs : List X) (c : Cut X) (x : X) → p x ≡ false → P xs c → P (xs ++ x ∷ []) (longer_part c x)) → (xs : List X) → P xs (cut xs)
  cut_ind P none ends lengthens = push_ind (λ xs. P xs (cut xs)) none (λ xs x ih.
      grind (arith, cut_push xs x, ends xs (cut xs) x, lengthens xs (cut xs) x, ih, cases_Bool (p x)))

  -- the same for lists of which something holds of each item
  pub cut_ind_all : (Q : X → Type 0) (P : Cut X → Type 0) → P (record { closed = []; open' = [] })
      → ((c : Cut X) (x : X) → Q x → p x ≡ true → P c → P (ends_part c x))
      → ((c : Cut X) (x : X) → Q x → p x ≡ false → P c → P (longer_part c x)) → (xs : List X) → All Q xs → P (cut xs)
  cut_ind_all Q P none ends lengthens = cut_ind (λ xs c. All Q xs → P c) (λ all. none)
      (λ xs c x e ih all. let parts = All-split Q xs x all in ends c x parts.1 e (ih parts.0))
      (λ xs c x e ih all. let parts = All-split Q xs x all in lengthens c x parts.1 e (ih parts.0))

  -- with one more item the parts are the closed ones, and the open one with the item
  pub cut_behind_push : (xs : List X) (x : X) → cut_behind p (xs ++ x ∷ []) ≡ (cut xs).closed ++ ((cut xs).open' ++ x ∷ []) ∷ []
  cut_behind_push xs x = grind (arith, nat_tests, append_assoc, append-nil, cut_append, onto-cons)

module _ {X : Type 0} (p : X → Bool) where
  pub after_last_push : (xs : List X) (x : X) → after_last p (xs ++ x ∷ []) ≡ cond (p x) [] (after_last p xs ++ x ∷ [])
  after_last_push xs x = grind (arith, length-append, reverse-append, drop_all, drop-append-le)

  abbrev pub cut_if : Bool → Cut X → X → Cut X
  cut_if b c x = cond b (record { closed = c.closed ++ (c.open' ++ x ∷ []) ∷ []; open' = [] }) (record { closed = c.closed; open' = c.open' ++ x ∷ [] })

  -- what stands after the last item that passes is the open part
  pub after_last_is : (xs : List X) → after_last p xs ≡ (cut p xs).open'
  after_last_is = cut_ind p (λ xs c. after_last p xs ≡ c.open') refl (λ xs c x e ih. after_last_push xs x ∙ rw e refl) (λ xs c x e ih. after_last_push xs x ∙ rw (e, ih) refl)

  -- the parts that an item ends are the closed ones
  pub ended_is : (xs : List X) → filter (list_any p) (cut_behind p xs) ≡ (cut p xs).closed
  ended_is xs =
      let parts = cut_ind p (λ xs c. (filter (list_any p) c.closed ≡ c.closed) × (list_any p c.open' ≡ false)) (refl, refl) (λ xs c x e h.
      grind (arith, filter-append, list_any-append, h, e)) (λ xs c x e h. grind (arith, list_any-append, h, e)) xs in
      grind (arith, parts, cut_behind_is, filter-append, append-nil)
