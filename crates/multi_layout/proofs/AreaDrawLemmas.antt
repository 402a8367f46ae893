-- The items of a page, drawn one after the other.
use Rattle.multi_layout.proofs.Common.{IsItemAt, Place, IfSome, IsBeside, IsRunDrawn, ◌≡◌, ℕ, ◌+◌, ◌<◌, ◌≤◌, false, slice_get, List, [], ◌∷◌, ◌++◌, length, map, Option, None, refl, sym, ap, subst, ◌∙◌, arith, append_assoc, rules, true, mul-add, mul-le-mul_left, false≢true, length-append, map-append, All-head, All-tail, spelling, spelling_some, BitPlane, SignData, tallest, Standing, put_at, EndsArea, Meaning, begins_area, is_new_page, has_place, NextItem, LineTable, pages_of-push, at_end, Defaults, is_setting, meant_by, Cursor, Layer, AreaLines, plane_octets, BeginsNoArea, HasCounted, IsAreaDrawn, IsDrawnTo, IsDrawnUpTo, IsFilledBy, IsInArea, whole_area, IsNextDrawn, IsBetween, IsFirst, IsItemRead, IsRead, items_of, meant, LaidItem, spell_of, same_area}
use Rattle.multi_layout.proofs.PieceLemmas.{first_begins, first_piece}
use Rattle.multi_layout.proofs.WalkLemmas.{item_is, map_split, spell_of-append, total, within_between}

-- the lines of an area are those after one of its items too
counted_more : (sign : SignData) (before behind : List LaidItem) (item : LaidItem) (lines : LineTable) → begins_area (meant item) ≡ false
    → HasCounted (whole_area sign before (item ∷ behind)) lines → HasCounted (whole_area sign (before ++ item ∷ []) behind) lines
counted_more sign before behind item lines plain counted = first_of (search (rules, append_assoc, map-append, same_area), grind (arith, append_assoc, map-append, same_area))

-- one more item of a page
pub drawn_more : {sign : SignData} {octets : List ℕ} {layer : Layer} {page : ℕ} {before rest : List LaidItem} {item : LaidItem} {cursor : Cursor} {plane : BitPlane}
    → IsDrawnUpTo sign octets layer page before (item ∷ rest) cursor plane → (m : Meaning) → meant item ≡ m → is_new_page m ≡ false
    → (cursor' : Cursor) (plane' : BitPlane) → IsBetween sign octets (before ++ item ∷ []) rest cursor'
    → (IsDrawnTo sign layer (map meant before ++ m ∷ map meant rest) (map meant before) plane
    → IsDrawnTo sign layer (map meant before ++ m ∷ map meant rest) (map meant before ++ m ∷ []) plane')
    → IsDrawnUpTo sign octets layer page (before ++ item ∷ []) rest cursor' plane'
drawn_more {sign} {octets} {layer} {page} {before} {rest} {item} {cursor} {plane} u m is none cursor' plane' between draws = first_of (search (rules, map_split, pages_of-push, append_assoc), grind (arith, map_split, pages_of-push, append_assoc))

-- one more item of an area
pub left_more : {sign : SignData} {read : AreaLines} {before rest : List LaidItem} {item : LaidItem} {cursor : Cursor} → IsInArea sign read before (item ∷ rest) cursor
    → begins_area (meant item) ≡ false → (cursor' : Cursor) → cursor'.at ≡ cursor.at + length (spelling item.item) → IsInArea sign read (before ++ item ∷ []) rest cursor'
left_more {sign} {read} {before} {rest} {item} {cursor} i plain cursor' to = of i.area i.split i.plain i.end
  where
    of : (area : List LaidItem) → item ∷ rest ≡ area ++ i.rest → BeginsNoArea area → read.end ≡ cursor.at + length (spell_of area) → IsInArea sign read (before ++ item ∷ []) rest cursor'
    of [] split each end = absurd (false≢true (sym plain ∙ first_begins item rest (subst (λ l. EndsArea (map meant l)) (sym split) i.ends)))
    of (one ∷ area) split each end =
        let first : item ≡ one = cc in
        record {
          area = area;
          rest = i.rest;
          split = cc;
          plain = All-tail (λ x. begins_area (meant x) ≡ false) one area each;
          ends = i.ends;
          end = omega (arith, end, to, ap (λ (x : LaidItem). length (spelling x.item)) first, length-append (spelling one.item) (spell_of area));
          next = i.next;
          counted = counted_more sign before rest item read.lines plain i.counted;
        }

abbrev pub area_more : {sign : SignData} {octets : List ℕ} {layer : Layer} {page : ℕ} {read : AreaLines} {next : NextItem} {beside : Option Place} {cursor : Cursor} {plane : BitPlane}
    (n : IsNextDrawn sign octets layer page read next beside cursor plane) (m : Meaning) → meant n.item ≡ m → is_new_page m ≡ false
    → (cursor' : Cursor) (plane' : BitPlane) → IsBetween sign octets (n.before ++ n.item ∷ []) n.rest cursor' → cursor'.at ≡ cursor.at + next.len
    → (IsDrawnTo sign layer (map meant n.before ++ m ∷ map meant n.rest) (map meant n.before) plane
    → IsDrawnTo sign layer (map meant n.before ++ m ∷ map meant n.rest) (map meant n.before ++ m ∷ []) plane')
    → IsAreaDrawn sign octets layer page read cursor' plane'
area_more {cursor = cursor} n m is none cursor' plane' between to draws = record {
  before = n.before ++ n.item ∷ [];
  behind = n.rest;
  up_to = drawn_more n.up_to m is none cursor' plane' between draws;
  left = left_more n.left n.plain cursor' (to ∙ ap (λ k. cursor.at + k) n.read_is.len);
}

module _ {sign : SignData} {octets : List ℕ} {layer : Layer} {page : ℕ} {read : AreaLines} {cursor : Cursor} {plane : BitPlane} (d : IsAreaDrawn sign octets layer page read cursor plane) where
  pub area_within : read.end ≤ length octets
  area_within = grind (arith, total sign octets (items_of d.before) (items_of d.behind) cursor.at d.up_to.between.placed, spell_of-append d.left.area d.left.rest, length-append (spell_of d.left.area) (spell_of d.left.rest))

  -- before the end of the area an octet stands
  pub octet_stands : cursor.at < read.end → slice_get octets cursor.at ≡ None → ⊥
  octet_stands before_end none = first_of (search (rules, area_within, at_end, within_between), grind (arith, area_within, at_end, within_between))

  -- at the end of the area none of it is left
  pub area_over : read.end ≤ cursor.at → EndsArea (map meant d.behind) × IsFirst (items_of d.behind) read.next
  area_over reached = of d.left.area d.left.split d.left.end
    where
      of : (area : List LaidItem) → d.behind ≡ area ++ d.left.rest → read.end ≡ cursor.at + length (spell_of area) → EndsArea (map meant d.behind) × IsFirst (items_of d.behind) read.next
      of [] split end = subst (λ l. EndsArea (map meant l) × IsFirst (items_of l) read.next) (sym split) (d.left.ends, d.left.next)
      of (one ∷ area) split end = absurd (omega (arith, reached, end, spelling_some one.item, length-append (spelling one.item) (spell_of area)))

-- nothing is known of what stands beside it
pub run_ends : {sign : SignData} {octets : List ℕ} {layer : Layer} {page : ℕ} {read : AreaLines} {cursor : Cursor} {plane : BitPlane} → IsAreaDrawn sign octets layer page read cursor plane → IsRunDrawn sign octets layer page read None cursor plane
run_ends d = record { so = d; stands = tt }

-- an item was read at the cursor, which is laid out as this
pub next_read : {sign : SignData} {octets octets' : List ℕ} {layer : Layer} {page : ℕ} {read : AreaLines} {beside : Option Place} {cursor : Cursor} {plane : BitPlane} → octets' ≡ octets
    → IsRunDrawn sign octets layer page read beside cursor plane → cursor.at < read.end → (raw next : NextItem) → IsItemAt octets' cursor.at raw.len (meant_by raw.item)
    → ((octets : List ℕ) (before rest : List LaidItem) (item : LaidItem) → IsBetween sign octets before (item ∷ rest) cursor → HasCounted (whole_area sign before (item ∷ rest)) read.lines → IsItemRead item.item raw → IsRead item next)
    → IsNextDrawn sign octets layer page read next beside cursor plane
next_read {sign} {octets} {octets'} {layer} {page} {read} {beside} {cursor} {plane} same r before_end raw next is lays =
    let d = r.so in
    let (item, rest, split, read_is) = first_piece d.behind raw (item_is sign octets (items_of d.before) (items_of d.behind) cursor.at d.up_to.between.placed same raw is) in
    let up_to = subst (λ l. IsDrawnUpTo sign octets layer page d.before l cursor plane) split d.up_to in
    let left = subst (λ l. IsInArea sign read d.before l cursor) split d.left in
    record {
      before = d.before;
      rest = rest;
      item = item;
      up_to = up_to;
      left = left;
      read_is = lays octets d.before rest item up_to.between left.counted read_is;
      plain = of item rest left.rest left.area left.split left.plain left.end;
      stands = subst (λ l. IfSome beside (IsBeside sign d.before l cursor)) split r.stands;
    }
  where
    of : (item : LaidItem) (rest more area : List LaidItem) → item ∷ rest ≡ area ++ more → BeginsNoArea area → read.end ≡ cursor.at + length (spell_of area) → begins_area (meant item) ≡ false
    of item rest more [] split each end = absurd (omega (arith, before_end, end))
    of item rest more (one ∷ area) split each end =
        let first : item ≡ one = cc in
        ap (λ (x : LaidItem). begins_area (meant x)) first ∙ All-head (λ x. begins_area (meant x) ≡ false) one area each

-- the steps over the plane add up
pub filled_then : (sign : SignData) (a b c : BitPlane) (m n : ℕ) → IsFilledBy sign a b m → IsFilledBy sign b c n → IsFilledBy sign a c (m + n)
filled_then sign a b c m n x y = grind (arith, mul-add (tallest sign) m n, mul-add (plane_octets sign) x.fills y.fills)

pub filled_none : (sign : SignData) (a : BitPlane) → IsFilledBy sign a a 0
filled_none sign a = record { fills = 0; few = omega arith; least = omega arith; most = omega arith; width = refl; height = refl }

-- octets that put nothing
pub filled_longer : (sign : SignData) (a b : BitPlane) (m n : ℕ) → m ≤ n → IsFilledBy sign a b m → IsFilledBy sign a b n
filled_longer sign a b m n more x = first_of (search (rules, mul-le-mul_left), grind (arith, mul-le-mul_left))

-- a setting has no place, begins no page and puts nothing
pub setting_is : (x : Meaning) → is_setting x ≡ true → (has_place x ≡ false) × (is_new_page x ≡ false) × ((defaults : Defaults) (at : Standing) → put_at defaults at x ≡ None)
setting_is x e = grind (arith, false≢true)
