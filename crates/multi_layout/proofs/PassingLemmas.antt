-- How many steps passing the items of a page takes.
use Rattle.multi_layout.proofs.Common.{◌≡◌, ℕ, ◌+◌, ◌-◌, ◌<◌, ◌≤◌, nat_lt, Bool, true, false, ◌==◌, cond, List, [], ◌∷◌, ◌++◌, length, map, None, refl, sym, ap, ◌∙◌, inl, inr, arith, append-nil, append_assoc, map-append, eq-eqb, ne_eqb, sum_by_push, length_push, push_ind, each_after, each_after_push, last_or_push, same_Some, Item, spell, reading, Meaning, Does, NewPage, is_new_page, meaning, meanings, pages_of, pages_of-push, BeginsPage, meant_by}
use Rattle.std.specs.List.{last_or, sum_by}
use Rattle.std.specs.Prelude.{min}
use Rattle.multi_token.specs.Spelling.{Char, Tag, is_bracket}
use Rattle.multi_meaning.specs.Steps.{again, item_steps, looks}
use Rattle.multi_judge.specs.declared.item.KnownItem.{KnownItem}
use Rattle.multi_judge.specs.declared.item.KnownItem.TheVariants as known
use Rattle.multi_layout.specs.Finding.{items_on, page_steps, passing_steps, reading_steps}
use Rattle.multi_layout.proofs.PageDrawLemmas.{pages_of-append}

-- AN ITEM

-- an item that begins with a bracket is read to its end in the steps that were counted after it
pub rest_counted : (left steps : ℕ) (item : Item) (read : KnownItem) → meaning item ≡ meant_by read → item_steps left item ≡ 2 + steps + looks (meant_by read) → reading_steps left item - 1 ≡ steps
rest_counted left steps (Char number) read means counted = doubled (is_bracket number) (nat_lt number 256) (counted ∙ ap (λ (m : Meaning). 2 + steps + looks m) (sym means))
  where
    doubled : (bracket small : Bool) → cond bracket 4 2 ≡ 2 + steps + cond small 1 8 → cond bracket 2 1 - 1 ≡ steps
    doubled true true is = omega (arith, is)
    doubled true false is = absurd (omega (arith, is))
    doubled false true is = absurd (omega (arith, is))
    doubled false false is = absurd (omega (arith, is))
rest_counted left steps (Tag body) read means counted = by read means counted
  where
    by : (read : KnownItem) → meaning (Tag body) ≡ meant_by read → item_steps left (Tag body) ≡ 2 + steps + looks (meant_by read) → 2 + min 26 (left - 1) - 1 ≡ steps
    by (known.Char number) means counted = omega (arith, counted, ap (λ (m : Meaning). again m body) means, ap looks means)
    by (known.Tag tag) means counted = omega (arith, counted, ap (λ (m : Meaning). again m body) means, ap looks means)

-- THE ITEMS OF A PAGE

-- one more item
items_on_push : (n page : ℕ) (items : List Item) (item : Item)
    → items_on n page (items ++ item ∷ []) ≡ items_on n page items + cond (pages_of (map meaning items) == page + 1) (passing_steps (n - length (spell items)) item) 0
items_on_push n page items item =
    let f = λ (before : List Item) (x : Item). cond (pages_of (map meaning before) == page + 1) (passing_steps (n - length (spell before)) x) 0 in
    ap (sum_by (λ k. k)) (each_after_push f items item) ∙ sum_by_push (λ k. k) (each_after f items) (f items item)

pages_push : (items : List Item) (item : Item) → pages_of (map meaning (items ++ item ∷ [])) ≡ pages_of (map meaning items) + cond (is_new_page (meaning item)) 1 0
pages_push items item = ap pages_of (map-append meaning items (item ∷ [])) ∙ pages_of-push (map meaning items) (meaning item)

-- one on another page
items_on_other : (n page : ℕ) (items : List Item) (item : Item) → (pages_of (map meaning items) ≡ page + 1 → ⊥) → items_on n page (items ++ item ∷ []) ≡ items_on n page items
items_on_other n page items item other =
    omega (arith, items_on_push n page items item, ap (λ b. cond b (passing_steps (n - length (spell items)) item) 0) (ne_eqb (pages_of (map meaning items)) (page + 1) other))

-- one on this page
pub items_on_this : (n page : ℕ) (items : List Item) (item : Item) → pages_of (map meaning items) ≡ page + 1
    → items_on n page (items ++ item ∷ []) ≡ items_on n page items + passing_steps (n - length (spell items)) item
items_on_this n page items item this =
    items_on_push n page items item ∙ ap (λ b. items_on n page items + cond b (passing_steps (n - length (spell items)) item) 0) (eq-eqb (pages_of (map meaning items)) (page + 1) this)

-- none before the page
none_before : (n page : ℕ) (items : List Item) → pages_of (map meaning items) ≤ page → items_on n page items ≡ 0
none_before n page = push_ind (λ items. pages_of (map meaning items) ≤ page → items_on n page items ≡ 0) (λ few. refl) (λ items item ih few.
    let fewer : pages_of (map meaning items) ≤ page = omega (arith, few, pages_push items item) in
    items_on_other n page items item (λ this. omega (arith, this, fewer)) ∙ ih fewer)

-- nor where it begins
pub none_where_begun : (n page : ℕ) (items : List Item) → BeginsPage (map meaning items) → pages_of (map meaning items) ≡ page + 1 → items_on n page items ≡ 0
none_where_begun n page = push_ind (λ items. BeginsPage (map meaning items) → pages_of (map meaning items) ≡ page + 1 → items_on n page items ≡ 0) (λ begins here. refl) (λ items item ih begins here.
    let new : is_new_page (meaning item) ≡ true = last_new items item begins in
    let earlier : pages_of (map meaning items) ≤ page = omega (arith, here, pages_push items item, ap (λ b. cond {A = ℕ} b 1 0) new) in
    items_on_other n page items item (λ this. omega (arith, this, earlier)) ∙ none_before n page items earlier)
  where
    last_new : (items : List Item) (item : Item) → BeginsPage (map meaning (items ++ item ∷ [])) → is_new_page (meaning item) ≡ true
    last_new items item (inl none) = absurd (omega (arith, ap length (sym (map-append meaning items (item ∷ [])) ∙ none), length_push (map meaning items) (meaning item)))
    last_new items item (inr (earlier, is)) =
        ap is_new_page (same_Some (meaning item) (Does NewPage) (sym (last_or_push None (map meaning items) (meaning item)) ∙ ap (last_or None) (sym (map-append meaning items (item ∷ [])) ∙ is) ∙ last_or_push None earlier (Does NewPage)))

-- none after it
none_after : (n page : ℕ) (items : List Item) → page + 1 < pages_of (map meaning items) → (more : List Item) → items_on n page (items ++ more) ≡ items_on n page items
none_after n page items over = push_ind (λ more. items_on n page (items ++ more) ≡ items_on n page items) (ap (items_on n page) (append-nil items)) (λ more item ih.
    let over' : page + 1 < pages_of (map meaning (items ++ more)) = omega (arith, over, ap pages_of (map-append meaning items more), pages_of-append (map meaning items) (map meaning more)) in
    ap (items_on n page) (sym (append_assoc items more (item ∷ []))) ∙ items_on_other n page (items ++ more) item (λ this. omega (arith, this, over')) ∙ ih)

-- THE STEPS OF A PAGE

-- where an `np` ends it
pub page_ended : (octets : List ℕ) (page : ℕ) (before rest : List Item) (item : Item) → (reading octets).items ≡ before ++ item ∷ rest → pages_of (map meaning before) ≡ page + 1 → is_new_page (meaning item) ≡ true
    → page_steps octets page ≡ items_on (length octets) page (before ++ item ∷ [])
unfolding page_steps
page_ended octets page before rest item all here new =
    let whole : (reading octets).items ≡ (before ++ item ∷ []) ++ rest = all ∙ sym (append_assoc before (item ∷ []) rest) in
    let pages : page + 1 < pages_of (map meaning (before ++ item ∷ [])) = omega (arith, here, pages_push before item, ap (λ b. cond {A = ℕ} b 1 0) new) in
    let more : page + 1 < pages_of (meanings octets) =
    omega (arith, pages, ap (λ l. pages_of (map meaning l)) whole, ap pages_of (map-append meaning (before ++ item ∷ []) rest), pages_of-append (map meaning (before ++ item ∷ [])) (map meaning rest)) in
    let last : cond {A = ℕ} (pages_of (meanings octets) == page + 1) 1 0 ≡ 0 = ap (λ b. cond b 1 0) (ne_eqb (pages_of (meanings octets)) (page + 1) (λ same. omega (arith, same, more))) in
    omega (arith, last, ap (items_on (length octets) page) whole, none_after (length octets) page (before ++ item ∷ []) pages rest)

-- where the string ends it
pub page_last : (octets : List ℕ) (page : ℕ) (before : List Item) → (reading octets).items ≡ before → pages_of (map meaning before) ≡ page + 1
    → page_steps octets page ≡ items_on (length octets) page before + 1
unfolding page_steps
page_last octets page before all here =
    let last : cond {A = ℕ} (pages_of (meanings octets) == page + 1) 1 0 ≡ 1 = ap (λ b. cond b 1 0) (eq-eqb (pages_of (meanings octets)) (page + 1) (ap (λ l. pages_of (map meaning l)) all ∙ here)) in
    omega (arith, last, ap (items_on (length octets) page) all)
