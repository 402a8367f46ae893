-- The pieces of an accepted string: what each of its items is laid out as.
use Rattle.multi_layout.proofs.Common.{IsPageStart, ◌≡◌, ℕ, true, false, inl, List, [], ◌∷◌, ◌++◌, map, Some, refl, sym, ap, subst, ◌∙◌, arith, append-nil, rules, map-append, Item, Tag, LineFill, Off, SignData, Standing, laid_item, laid_items, laid_out, BeginsPage, EndsArea, Meaning, begins_area, has_place, meaning, pages_of, IsOrderly, each_after, are_laid, each_after-append, each_after_push, IsStateOf, Cursor, NextItem, KnownItem, Char, meant_by, IsBetween, IsFirst, IsItemRead, IsPlaced, IsRead, items_of, laid_meanings, meant, LaidItem, IsPassing, pages_at, same_times, unfilled_item, unplaced_item, IsPieceFirst, pieces_of}
use Rattle.multi_judge.specs.declared.item.KnownItem.TheVariants as items
use Rattle.multi_layout.proofs.WalkLemmas.{meanings_split, settled_at, laid_here}

-- THE PIECES OF A STRING

-- they are its items, laid out
pub items_of_pieces : (f : List Item → Item → Meaning) (items : List Item) → items_of (each_after (λ before item. let p : LaidItem = record { item = item; as_laid = f before item } in p) items) ≡ items
items_of_pieces f [] = refl
items_of_pieces f (x ∷ items) = ap (λ l. x ∷ l) (items_of_pieces (λ before. f (x ∷ before)) items)

meant_pieces : (f : List Meaning → Meaning → Meaning) (items : List Item)
    → map meant (each_after (λ before item. let p : LaidItem = record { item = item; as_laid = f (map meaning before) (meaning item) } in p) items) ≡ each_after f (map meaning items)
meant_pieces f [] = refl
meant_pieces f (x ∷ items) = ap (λ l. f [] (meaning x) ∷ l) (meant_pieces (λ before. f (meaning x ∷ before)) items)

pub pieces_are : (sign : SignData) (items : List Item) → (items_of (pieces_of sign items) ≡ items) × (map meant (pieces_of sign items) ≡ laid_meanings sign items)
pieces_are sign items = first_of (search (rules, items_of_pieces, meant_pieces), grind (arith, items_of_pieces, meant_pieces))

-- they have the pages of the items
pub laid_pages : (sign : SignData) (items : List Meaning) → pages_of (laid_out sign items) ≡ pages_of items
laid_pages sign items = pages_at sign (laid_out sign items) items (ap (λ (s : Standing). s.page) (are_laid sign.line_fill sign items items [] (sym (append-nil items))).0)

-- BETWEEN TWO PIECES

-- what places nothing means what its item does
pub unplaced_laid : (sign : SignData) (before rest : List LaidItem) (piece : LaidItem) → map meant (before ++ piece ∷ rest) ≡ laid_meanings sign (items_of (before ++ piece ∷ rest))
    → has_place (meaning piece.item) ≡ false → meant piece ≡ meaning piece.item
unplaced_laid sign before rest piece laid none = laid_here sign before rest piece laid ∙ unplaced_item sign.line_fill sign _ _ (meaning piece.item) none

module _ {sign : SignData} {octets : List ℕ} {before rest : List LaidItem} {piece : LaidItem} {cursor : Cursor} (b : IsBetween sign octets before (piece ∷ rest) cursor) where
  pub unfilled_meant : sign.line_fill ≡ Off → meant piece ≡ meaning piece.item
  unfilled_meant off = first_of (search (rules, meanings_split, laid_here, unfilled_item), grind (arith, meanings_split, laid_here, unfilled_item))

  pub unplaced_meant : has_place (meaning piece.item) ≡ false → meant piece ≡ meaning piece.item
  unplaced_meant = unplaced_laid sign before rest piece b.laid

  -- what is read of the item is then read of the piece
  pub read_unfilled : sign.line_fill ≡ Off → {next : NextItem} → IsItemRead piece.item next → IsRead piece next
  read_unfilled off read = record { meant = unfilled_meant off ∙ read.meant; len = read.len }

  pub read_unplaced : {next : NextItem} → has_place (meant_by next.item) ≡ false → IsItemRead piece.item next → IsRead piece next
  read_unplaced none read = record { meant = unplaced_meant (ap has_place read.meant ∙ none) ∙ read.meant; len = read.len }

-- a tag is laid out as itself
pub read_tag : {sign : SignData} {octets : List ℕ} {before rest : List LaidItem} {piece : LaidItem} {cursor : Cursor} → IsBetween sign octets before (piece ∷ rest) cursor
    → {next : NextItem} → ((number : ℕ) → next.item ≡ Char number → ⊥) → IsItemRead piece.item next → IsRead piece next
read_tag {sign} {octets} {before} {rest} {piece} {cursor} b {next} other read = first_of (search (rules, laid_here), grind (arith, laid_here))

-- what begins an area places nothing
begins_unplaced : (m : Meaning) → begins_area m ≡ true → has_place m ≡ false
begins_unplaced m e = grind (arith)

-- where an area ends before the items, it does before the pieces
pub ends_laid : (sign : SignData) (before behind : List LaidItem) → map meant (before ++ behind) ≡ laid_meanings sign (items_of (before ++ behind)) → EndsArea (map meaning (items_of behind)) → EndsArea (map meant behind)
ends_laid sign before [] laid ends = inl refl
ends_laid sign before (p ∷ behind) laid ends = grind (arith, unplaced_laid, begins_unplaced)

-- the first of the items is that of the first piece
abbrev pub FirstPiece : List LaidItem → NextItem → Type 0
FirstPiece behind next = (piece : LaidItem) × (rest : List LaidItem) × (behind ≡ piece ∷ rest) × IsItemRead piece.item next

pub first_piece : (behind : List LaidItem) (next : NextItem) → IsFirst (items_of behind) (Some next) → FirstPiece behind next
first_piece [] next (item, rest, is, read) = cc
first_piece (p ∷ behind) next (item, rest, is, read) =
    let same : item ≡ p.item = cc in
    (p, behind, refl, subst (λ x. IsItemRead x next) same read)

pub no_piece : (behind : List LaidItem) → items_of behind ≡ [] → behind ≡ []
no_piece [] e = refl
no_piece (p ∷ behind) e = cc

-- where an area ends before the pieces, this is read of the first one
laid_placed : (setting : LineFill) (sign : SignData) (all before : List Meaning) (x : Meaning) → has_place x ≡ true → has_place (laid_item setting sign all before x) ≡ true
laid_placed setting sign all before x e = grind (arith)

pub plain_laid : (sign : SignData) (before rest : List LaidItem) (piece : LaidItem) → map meant (before ++ piece ∷ rest) ≡ laid_meanings sign (items_of (before ++ piece ∷ rest))
    → begins_area (meaning piece.item) ≡ false → begins_area (meant piece) ≡ false
plain_laid sign before rest piece laid plain = first_of (search (rules, laid_here, unplaced_laid), grind (arith, laid_here, unplaced_laid))

-- a piece that places nothing is its item
pub itself : {sign : SignData} {octets : List ℕ} {before rest : List LaidItem} {piece : LaidItem} {cursor : Cursor} → IsBetween sign octets before (piece ∷ rest) cursor → has_place (meant piece) ≡ false
    → (has_place (meaning piece.item) ≡ false) × (meaning piece.item ≡ meant piece)
itself {sign} {octets} {before} {rest} {piece} {cursor} b none = first_of (search (rules, unplaced_meant, laid_placed, laid_here), grind (arith, unplaced_meant, laid_placed, laid_here))

-- what begins an area is a tag
pub begins_tag : (item : KnownItem) → begins_area (meant_by item) ≡ true → (tag : Tag) × (item ≡ items.Tag tag)
begins_tag item begins = grind (arith)

-- where an area ends, the first item begins one
pub first_begins : (piece : LaidItem) (rest : List LaidItem) → EndsArea (map meant (piece ∷ rest)) → begins_area (meant piece) ≡ true
first_begins piece rest ends = grind (arith)

pub first_ended : {sign : SignData} {octets : List ℕ} {before behind : List LaidItem} {cursor : Cursor} → IsBetween sign octets before behind cursor → EndsArea (map meant behind)
    → (next : NextItem) → IsFirst (items_of behind) (Some next) → IsPieceFirst behind (Some next)
first_ended {sign} {octets} {before} {behind} {cursor} b ends next first =
    let (piece, rest, is, read) = first_piece behind next first in
    let b' = subst (λ l. IsBetween sign octets before l cursor) is b in
    let none = (itself b' (begins_unplaced (meant piece) (first_begins piece rest (subst (λ l. EndsArea (map meant l)) is ends)))).0 in
    (piece, rest, is, read_unplaced b' (ap has_place (sym read.meant) ∙ none) read)

-- where a page begins the cursor stands between pieces
module _ (sign : SignData) (octets : List ℕ) (before behind : List Item) (cursor : Cursor) (p : IsPassing sign octets before behind cursor) (begins : BeginsPage (map meaning before))
    (orderly : IsOrderly sign (laid_out sign (map meaning (before ++ behind)))) where
  abbrev all : List Meaning
  all = map meaning (before ++ behind)

  abbrev piece_at : List Item → Item → LaidItem
  piece_at earlier item = record { item = item; as_laid = laid_item sign.line_fill sign all (map meaning earlier) (meaning item) }

  abbrev pieces_before : List LaidItem
  pieces_before = each_after piece_at before

  abbrev pieces_behind : List LaidItem
  pieces_behind = each_after (λ more. piece_at (before ++ more)) behind

  whole : pieces_before ++ pieces_behind ≡ pieces_of sign (before ++ behind)
  whole = sym (each_after-append piece_at before behind)

  front : items_of pieces_before ≡ before
  front = items_of_pieces (λ earlier item. (piece_at earlier item).as_laid) before

  back : items_of pieces_behind ≡ behind
  back = items_of_pieces (λ more item. (piece_at (before ++ more) item).as_laid) behind

  means : map meant pieces_before ≡ laid_items sign.line_fill sign all (map meaning before)
  means = meant_pieces (laid_item sign.line_fill sign all) before

  laid_begins_page : (ms : List Meaning) → BeginsPage ms → BeginsPage (laid_items sign.line_fill sign all ms)
  laid_begins_page ms begins = grind (arith, each_after_push)

  begins_page : BeginsPage (map meant pieces_before)
  begins_page = subst BeginsPage (sym means) (laid_begins_page (map meaning before) begins)

  starts_between : IsBetween sign octets pieces_before pieces_behind cursor
  starts_between =
      let ms = map meaning before in
      let laid = laid_items sign.line_fill sign all ms in
      let split : all ≡ ms ++ map meaning behind = map-append meaning before behind in
      let here = (are_laid sign.line_fill sign all ms (map meaning behind) split).0 in
      record {
        placed = subst (λ l. IsPlaced sign octets l (items_of pieces_behind) cursor.at) (sym front) (subst (λ l. IsPlaced sign octets before l cursor.at) (sym back) p.placed);
        laid = ap (map meant) whole ∙ (pieces_are sign (before ++ behind)).1 ∙ ap (laid_meanings sign) (sym (ap items_of whole ∙ (pieces_are sign (before ++ behind)).0));
        orderly = subst (IsOrderly sign) (sym (ap (map meant) whole ∙ (pieces_are sign (before ++ behind)).1)) orderly;
        state_is = subst (λ l. IsStateOf sign l cursor.state) (sym means)
            (settled_at sign ms laid cursor.state here (same_times sign.line_fill sign all ms (map meaning behind) split) (pages_at sign laid ms (ap (λ (s : Standing). s.page) here))
            begins (laid_begins_page ms begins) p.state_is);
      }

  pub page_between : IsPageStart sign octets cursor
  page_between = (pieces_before, pieces_behind, starts_between, begins_page)
