-- On the way through a page: the steps so far, and the soonest change of its flashes.
use Rattle.multi_layout.proofs.Common.{◌≡◌, ℕ, ◌+◌, ◌-◌, ◌≤◌, Bool, true, false, cond, List, [], ◌∷◌, ◌++◌, length, map, slice_get, Option, Some, None, refl, sym, ap, subst, ◌∙◌, arith, append-nil, map-append, Item, item_of, IsTokenOf, Token, reading, SignData, Meaning, Does, NewPage, is_new_page, meaning, meanings, standing, has_place, pages_of, Counted, charged, charged-charged, charged-zero, at_end, Attributes, NextItem, meant_by, Cursor, IsAtPage, IsFirst, IsItemAt, IsPassing, IsRestRead, PassesTag, unplaced}
use Rattle.multi_token.specs.Spelling.{Char, Tag, is_bracket}
use Rattle.multi_meaning.specs.Steps.{looks}
use Rattle.multi_layout.specs.Change.{flash_left, flashes_left, is_shown, page_flashes, sooner}
use Rattle.multi_layout.specs.Finding.{items_on, page_steps, passing_looks, passing_steps, reading_steps}
use Rattle.multi_layout.proofs.PageDrawLemmas.{new_page_is, same_items}
use Rattle.multi_layout.proofs.PageFlashLemmas.{flashes_ended, none_at_start, page_is, soonest_push}
use Rattle.multi_layout.proofs.PagesLemmas.{IsInPage, clock_of, free_fine, in_page_more}
use Rattle.multi_layout.proofs.WalkLemmas.{first_is, item_is, none_at_end, passing_placed, passing_tag, placed_behind, same_octets, within}
use Rattle.multi_layout.proofs.PassingLemmas.{items_on_this, none_where_begun, page_ended, page_last}

-- ON THE WAY THROUGH A PAGE

-- the cursor stands in the page that began at the old one, so many steps were taken since then, and this is the soonest change of the flashes
-- so far, if it was asked for
pub record IsPassedTo (sign : SignData) (start : Counted) (old : Cursor) (phase : ℕ) (flashes : Bool) (cursor : Cursor) (source : Counted) (soonest : Option ℕ) : Type 0 where
  pub way : IsInPage sign start.octets old cursor
  pub counted : source ≡ charged start (items_on (length start.octets) (old.state.pages - 1) way.before)
  pub soonest_is : flashes ≡ true → soonest ≡ flashes_left phase (page_flashes sign (map meaning way.before) (old.state.pages - 1))

-- at its start
pub passed_none : {sign : SignData} {old : Cursor} (start : Counted) (phase : ℕ) (flashes : Bool) → IsAtPage sign start.octets old → IsPassedTo sign start old phase flashes old start None
passed_none {sign} {old} start phase flashes begins =
    let here : pages_of (map meaning begins.before) ≡ old.state.pages - 1 + 1 = omega (arith, (clock_of begins.between).pages) in
    record {
      way = record { before = begins.before; behind = begins.behind; between = begins.between; same = refl; began = refl };
      counted = sym (ap (charged start) (none_where_begun (length start.octets) (old.state.pages - 1) begins.before begins.begins here) ∙ charged-zero start);
      soonest_is = λ _. sym (ap (flashes_left phase) (none_at_start sign (map meaning begins.before) (old.state.pages - 1) begins.begins here));
    }

module _ {sign : SignData} {start : Counted} {old : Cursor} {phase : ℕ} {flashes : Bool} {cursor : Cursor} {source : Counted} {soonest : Option ℕ} (p : IsPassedTo sign start old phase flashes cursor source soonest) where
  abbrev octets : List ℕ
  octets = start.octets

  abbrev page : ℕ
  page = old.state.pages - 1

  abbrev so_far : List Item
  so_far = p.way.before

  -- the items of the string
  all_items : (reading octets).items ≡ so_far ++ p.way.behind
  all_items = sym (same_items sign octets (so_far ++ p.way.behind) p.way.between.placed.accepted)

  on_page : pages_of (map meaning so_far) ≡ page + 1
  on_page = omega (arith, (clock_of p.way.between).pages, p.way.same)

  standing_on : (standing sign (map meaning so_far)).page ≡ page
  standing_on = omega (arith, page_is sign (map meaning so_far), on_page)

  -- at the end of the string it is passed, the last
  pub passed_all : slice_get octets cursor.at ≡ None → {source' : Counted} → source' ≡ charged source 1
      → (source' ≡ charged start (page_steps octets page)) × (flashes ≡ true → soonest ≡ flashes_left phase (page_flashes sign (meanings octets) page))
  passed_all end {source'} took =
      let none : p.way.behind ≡ [] = grind (arith, within sign octets so_far p.way.behind cursor.at p.way.between.placed, none_at_end sign octets so_far p.way.behind cursor.at p.way.between.placed, at_end octets cursor.at) in
      let all : (reading octets).items ≡ so_far = all_items ∙ ap (λ l. so_far ++ l) none ∙ append-nil so_far in (
        took ∙ ap (λ s. charged s 1) p.counted ∙ charged-charged start (items_on (length octets) page so_far) 1 ∙ ap (charged start) (sym (page_last octets page so_far all on_page)),
        λ asked. p.soonest_is asked ∙ ap (λ l. flashes_left phase (page_flashes sign (map meaning l) page)) (sym all),
      )

  -- an item is passed that was read
  module _ (next : NextItem) {octets' : List ℕ} (same : octets' ≡ octets) (is : IsItemAt octets' cursor.at next.len (meant_by next.item)) where
    pub read_first : IsFirst p.way.behind (Some next)
    read_first = item_is sign octets so_far p.way.behind cursor.at p.way.between.placed same next is

    abbrev item : Item
    item = read_first.0

    pub stands_first : IsPassing sign octets so_far (read_first.0 ∷ read_first.1) cursor
    stands_first = subst (λ (l : List Item). IsPassing sign octets so_far l cursor) read_first.2 p.way.between

    -- its steps
    module _ (read : Counted) (read_is : read ≡ charged source 1) {rest : Counted} (read_rest : IsRestRead read cursor.at rest) {source' : Counted} (looked : source' ≡ charged rest (passing_looks (meant_by next.item))) where
      octets_read : read.octets ≡ octets
      octets_read = same_octets read_is ∙ same_octets p.counted

      token_item : (token : Token) → token.at ≡ cursor.at → IsTokenOf octets token → item_of octets token ≡ item
      token_item token at stands =
          let (more, first) = first_is sign octets so_far p.way.behind cursor.at p.way.between.placed token at stands in
          same_first (sym first ∙ read_first.2)
        where
          same_first : {x y : Item} {xs ys : List Item} → x ∷ xs ≡ y ∷ ys → x ≡ y
          same_first e = grind arith

      some_steps : (left : ℕ) (x : Item) → 1 ≤ reading_steps left x
      some_steps left (Char number) = by (is_bracket number)
        where
          by : (b : Bool) → 1 ≤ cond b 2 1
          by true = omega arith
          by false = omega arith
      some_steps left (Tag body) = omega arith

      pub took_item : source' ≡ charged source (passing_steps (length octets - cursor.at) item)
      took_item =
          let (token, at, stands, counted) = read_rest in
          let stands' : IsTokenOf octets token = subst (λ o. IsTokenOf o token) octets_read stands in
          let steps : reading_steps (length read.octets - cursor.at) (item_of read.octets token) ≡ reading_steps (length octets - cursor.at) item =
          ap (λ o. reading_steps (length o - cursor.at) (item_of o token)) octets_read ∙ ap (reading_steps (length octets - cursor.at)) (token_item token at stands') in
          let first = reading_steps (length read.octets - cursor.at) (item_of read.octets token) in
          let some = some_steps (length octets - cursor.at) item in
          let looks' : passing_looks (meant_by next.item) ≡ passing_looks (meaning item) = ap passing_looks (sym read_first.3.meant) in
          let sum : 1 + (first - 1) + passing_looks (meant_by next.item) ≡ passing_steps (length octets - cursor.at) item = omega (arith, steps, some, looks') in
          looked
          ∙ ap (λ s. charged s (passing_looks (meant_by next.item))) (counted ∙ ap (λ s. charged s (first - 1)) read_is ∙ charged-charged source 1 (first - 1))
          ∙ charged-charged source (1 + (first - 1)) (passing_looks (meant_by next.item))
          ∙ ap (charged source) sum

    -- after it
    module _ {new : Cursor} (b : IsPassing sign octets (so_far ++ item ∷ []) read_first.1 new) {source' : Counted} (took : source' ≡ charged source (passing_steps (length octets - cursor.at) item)) {soonest' : Option ℕ}
        (sooner_is : flashes ≡ true → soonest' ≡ cond (is_shown (meant_by next.item)) (sooner soonest (flash_left phase cursor.state.attributes.flash)) soonest) where
      count_more : source' ≡ charged start (items_on (length octets) page (so_far ++ item ∷ []))
      count_more =
          let steps = passing_steps (length octets - cursor.at) item in
          let sum : items_on (length octets) page so_far + steps ≡ items_on (length octets) page (so_far ++ item ∷ []) =
          ap (λ n. items_on (length octets) page so_far + passing_steps (length octets - n) item) p.way.between.placed.place ∙ sym (items_on_this (length octets) page so_far item on_page) in
          took ∙ ap (λ s. charged s steps) p.counted ∙ charged-charged start (items_on (length octets) page so_far) steps ∙ ap (charged start) sum

      with_item : map meaning (so_far ++ item ∷ []) ≡ map meaning so_far ++ meant_by next.item ∷ []
      with_item = map-append meaning so_far (item ∷ []) ∙ ap (λ x. map meaning so_far ++ x ∷ []) read_first.3.meant

      flash_here : cursor.state.attributes.flash ≡ (standing sign (map meaning so_far)).flash
      flash_here = ap (λ (a : Attributes). a.flash) (clock_of p.way.between).attributes

      flashes_more : flashes ≡ true → soonest' ≡ flashes_left phase (page_flashes sign (map meaning (so_far ++ item ∷ [])) page)
      flashes_more asked =
          let at = standing sign (map meaning so_far) in
          sooner_is asked
          ∙ ap (λ f. cond (is_shown (meant_by next.item)) (sooner soonest (flash_left phase f)) soonest) flash_here
          ∙ ap (λ o. cond (is_shown (meant_by next.item)) (sooner o (flash_left phase at.flash)) o) (p.soonest_is asked ∙ ap (λ n. flashes_left phase (page_flashes sign (map meaning so_far) n)) (sym standing_on))
          ∙ sym (soonest_push sign (map meaning so_far) (meant_by next.item) phase)
          ∙ ap (λ n. flashes_left phase (page_flashes sign (map meaning so_far ++ meant_by next.item ∷ []) n)) standing_on
          ∙ ap (λ l. flashes_left phase (page_flashes sign l page)) (sym with_item)

      -- another item than an `np`
      pub passed_more : is_new_page (meant_by next.item) ≡ false → IsPassedTo sign start old phase flashes new source' soonest'
      passed_more none =
          let way = in_page_more p.way read_first b none in
          record {
            way = record { before = so_far ++ item ∷ []; behind = read_first.1; between = b; same = way.same; began = way.began };
            counted = count_more;
            soonest_is = flashes_more;
          }

      -- an `np`
      pub over_page : is_new_page (meant_by next.item) ≡ true
          → (source' ≡ charged start (page_steps octets page)) × (flashes ≡ true → soonest' ≡ flashes_left phase (page_flashes sign (meanings octets) page))
      over_page new_page =
          let all : (reading octets).items ≡ so_far ++ item ∷ read_first.1 = all_items ∙ ap (λ l. so_far ++ l) read_first.2 in
          let means : meaning item ≡ Does NewPage = read_first.3.meant ∙ new_page_is (meant_by next.item) new_page in
          let whole : meanings octets ≡ map meaning so_far ++ Does NewPage ∷ map meaning read_first.1 =
          ap (map meaning) all ∙ map-append meaning so_far (item ∷ read_first.1) ∙ ap (λ x. map meaning so_far ++ x ∷ map meaning read_first.1) means in
          let ended = flashes_ended sign (map meaning so_far) (map meaning read_first.1) in (
            count_more ∙ ap (charged start) (sym (page_ended octets page so_far read_first.1 item all on_page (ap is_new_page read_first.3.meant ∙ new_page))),
            λ asked. sooner_is asked
                ∙ ap (λ x. cond (is_shown x) (sooner soonest (flash_left phase cursor.state.attributes.flash)) soonest) (new_page_is (meant_by next.item) new_page)
                ∙ p.soonest_is asked
                ∙ ap (flashes_left phase) (sym (ap (λ l. page_flashes sign l page) whole ∙ subst (λ n. page_flashes sign (map meaning so_far ++ Does NewPage ∷ map meaning read_first.1) n ≡ page_flashes sign (map meaning so_far) n) standing_on ended)),
          )

-- an item that was read is passed, with the soonest change of a flash so far
module _ {sign : SignData} {start : Counted} {old : Cursor} {phase : ℕ} {flashes : Bool} {cursor : Cursor} {source : Counted} {soonest : Option ℕ} (p : IsPassedTo sign start old phase flashes cursor source soonest)
    (next : NextItem) {octets' : List ℕ} (same : octets' ≡ start.octets) (is : IsItemAt octets' cursor.at next.len (meant_by next.item)) (read : Counted) (read_is : read ≡ charged source 1) {rest : Counted} (read_rest : IsRestRead read cursor.at rest)
  where
    abbrev IsSooner : Option ℕ → Type 0
    IsSooner soonest' = flashes ≡ true → soonest' ≡ cond (is_shown (meant_by next.item)) (sooner soonest (flash_left phase cursor.state.attributes.flash)) soonest

    -- one that has a place
    pub passed_character : has_place (meant_by next.item) ≡ true → {soonest' : Option ℕ} → IsSooner soonest' → IsPassedTo sign start old phase flashes (record { at = cursor.at + next.len; state = cursor.state }) rest soonest'
    passed_character place sooner_is =
        let new : Cursor = record { at = cursor.at + next.len; state = cursor.state } in
        let first = read_first p next same is in
        let none : passing_looks (meant_by next.item) ≡ 0 = no_looks (meant_by next.item) place in
        let looked : rest ≡ charged rest (passing_looks (meant_by next.item)) = sym (ap (charged rest) none ∙ charged-zero rest) in
        passed_more p next same is (passing_placed (stands_first p next same is) first.3 new place refl refl) (took_item p next same is read read_is read_rest looked) sooner_is
        (placed_behind sign (standing sign []) (meant_by next.item) place).1
      where
        no_looks : (x : Meaning) → has_place x ≡ true → passing_looks x ≡ 0
        no_looks x placed = grind arith

    -- a tag that has none
    module _ (free : has_place (meant_by next.item) ≡ false) {new : Cursor} (at : new.at ≡ cursor.at + next.len) (passes : PassesTag sign (meant_by next.item) cursor.state new.state) {source' : Counted} (looked : source' ≡ charged rest (looks (meant_by next.item)))
        {soonest' : Option ℕ} (sooner_is : IsSooner soonest') where
      tag_behind : IsPassing sign start.octets (p.way.before ++ (read_first p next same is).0 ∷ []) (read_first p next same is).1 new
      tag_behind = passing_tag (stands_first p next same is) (read_first p next same is).3 new free at (passes (unplaced (map meaning p.way.before)) p.way.between.state_is (free_fine p.way next same is free))

      tag_took : source' ≡ charged source (passing_steps (length start.octets - cursor.at) (read_first p next same is).0)
      tag_took = took_item p next same is read read_is read_rest (looked ∙ ap (charged rest) (its_looks (meant_by next.item) free))
        where
          its_looks : (x : Meaning) → has_place x ≡ false → looks x ≡ passing_looks x
          its_looks x none = grind arith

      pub passed_tag : is_new_page (meant_by next.item) ≡ false → IsPassedTo sign start old phase flashes new source' soonest'
      passed_tag none = passed_more p next same is tag_behind tag_took sooner_is none

      pub passed_over : is_new_page (meant_by next.item) ≡ true
          → (source' ≡ charged start (page_steps start.octets (old.state.pages - 1))) × (flashes ≡ true → soonest' ≡ flashes_left phase (page_flashes sign (meanings start.octets) (old.state.pages - 1)))
      passed_over new_page = over_page p next same is tag_behind tag_took sooner_is new_page
