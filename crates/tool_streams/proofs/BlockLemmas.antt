-- The octets of a block, and its first line.
use Rattle.std.proofs.Common.{◌≡◌, ◌≢◌, ℕ, zero, suc, Bool, slice_index, ⊎_elim, ◌+◌, ◌-◌, ◌<◌, ◌≤◌, ◌==◌, List, [], ◌∷◌, ◌++◌, Option, None, Some, Ok, Err, length, take, drop, get_or, slice_range, refl, sym, ap, ◌∙◌, subst, arith, append_assoc, append-nil, take-append-drop}
use Rattle.std.proofs.lemmas.Bool.{cases_Bool, cases_eq, cond-false, cond-true, eqb-true, false≢true}
use Rattle.std.specs.List.{copy_within}
use Rattle.std.proofs.lemmas.List.{drop-append-le, drop-drop, drop-take, drop_more, get_or-drop, get_or-take, length-append, length-drop, length-take, length-take-le, take-append-le, take-take, take_all, take_at}
use Rattle.std.proofs.lemmas.List.Elements.{All-append, All-from_get_or}
use Rattle.std.proofs.Math.Seq.{take-add, take-append-add}
use Rattle.std.specs.Io.KnownBytes.{Consumes, IsAtEnd, Keeps, prepend_known}
use Rattle.memchr.specs.Find.{NoneBefore, Nowhere, Passes, is_byte, places, places_from}
use Rattle.tool_streams.specs.declared.fault.ToolFault.{ToolFault}
use Rattle.tool_streams.specs.declared.fault.ToolFault.TheVariants as faults
use Rattle.tool_streams.specs.declared.lines.NextLine.TheVariants as next
use Rattle.tool_streams.specs.Blocks.{EndsWith, HoldsUnfinished, IsLineEnd}
use Rattle.tool_streams.specs.Lines.{IsOneLine}
use Rattle.tool_streams.specs.Streams.{TakesLine}
use Rattle.tool_streams.proofs.SeenLemmas.{length-text_of}

-- ---- what waits

pub waiting_size : (octets : List ℕ) (start end : ℕ) → start ≤ end → end ≤ length octets → length (slice_range octets start end) ≡ end - start
waiting_size octets start end ordered fits = omega (arith, length-take (end - start) (drop start octets), length-drop start octets)

pub passed : (octets : List ℕ) (start end count : ℕ) → count ≤ length (slice_range octets start end) → slice_range octets (start + count) end ≡ drop count (slice_range octets start end)
passed octets start end count fits =
    let within : count ≤ end - start = omega (arith, length-take (end - start) (drop start octets)) in
    let some : end - start ≡ count + (end - (start + count)) = omega arith in
    ap (take (end - (start + count))) (sym (drop-drop count start octets))
    ∙ sym (drop-take count (end - (start + count)) (drop start octets))
    ∙ ap (λ n. drop count (take n (drop start octets))) (sym some)

-- what was read after what waits is added to it
pub added : (octets read rest : List ℕ) (start end count : ℕ) → start ≤ end → end ≤ length octets → count ≤ length read
    → slice_range (take end octets ++ (read ++ rest)) start (end + count) ≡ slice_range octets start end ++ take count read
added octets read rest start end count ordered fits few =
    let held = slice_range octets start end in
    let front : length (take end octets) ≡ end = omega (arith, length-take end octets) in
    let size : length held ≡ end - start = omega (arith, length-take (end - start) (drop start octets), length-drop start octets) in
    let span : end + count - start ≡ length held + count = omega (arith, size) in
    let whole : end ≡ start + (end - start) = omega arith in
    let tail : drop start (take end octets) ≡ held = ap (λ n. drop start (take n octets)) whole ∙ drop-take start (end - start) octets in
    ap (take (end + count - start)) (drop-append-le start (take end octets) (read ++ rest) (omega (arith, front)) ∙ ap (λ l. l ++ (read ++ rest)) tail)
    ∙ ap (λ n. take n (held ++ (read ++ rest))) span
    ∙ take-append-add held (read ++ rest) count
    ∙ ap (λ l. held ++ l) (take-append-le count read rest few)

-- what waits up to the end of the block stands at its front once that is moved there
pub moved : (octets : List ℕ) (start end : ℕ) → start ≤ end → end ≤ length octets → slice_range (copy_within octets start (length octets) 0) 0 (end - start) ≡ slice_range octets start end
moved octets start end ordered all =
    let count = length octets - start in
    let waiting = drop start octets in
    let size : length (take count waiting) ≡ count = length-take-le count waiting (omega (arith, length-drop start octets)) in
    ap (λ n. take n (copy_within octets start (length octets) 0)) (let none : end - start - 0 ≡ end - start = omega arith in none)
    ∙ take-append-le (end - start) (take count waiting) (drop (0 + count) octets) (omega (arith, size, ordered, all))
    ∙ take-take (end - start) count waiting (omega (arith, all))

-- ---- the first line feed

-- the list of places that pass a test begins with the first of them, and is empty if there is none
module _ (test : ℕ → Bool) (hay : List ℕ) where
  no_place : (i n : ℕ) → places_from test hay i n ≡ [] → Nowhere (Passes test hay) i (i + n)
  unfolding places_from
  no_place i zero is k low high = absurd (omega arith)
  no_place i (suc n) is k low high =
      ⊎_elim
      (λ t. let some : i ∷ places_from test hay (i + 1) n ≡ [] = sym (cond-true _ _ _ t) ∙ is in absurd cc)
      (λ f.
      let later : places_from test hay (i + 1) n ≡ [] = sym (cond-false _ _ _ f) ∙ is in
      ⊎_elim
      (λ here. subst (λ j. ¬ Passes test hay j) here (λ t. absurd (false≢true (sym f ∙ t))))
      (λ other. no_place (i + 1) n later k (omega (arith, other)) (omega arith))
      (cases_eq i k))
      (cases_Bool (test (slice_index hay i)))

  first_place : (i n k : ℕ) (more : List ℕ) → places_from test hay i n ≡ k ∷ more → NoneBefore (Passes test hay) i (i + n) k × Passes test hay k
  unfolding places_from
  first_place i zero k more is = absurd cc
  first_place i (suc n) k more is =
      ⊎_elim
      (λ t.
      let first : i ∷ places_from test hay (i + 1) n ≡ k ∷ more = sym (cond-true _ _ _ t) ∙ is in
      let here : i ≡ k = cc in (
        record { low = omega (arith, here); high = omega (arith, here); before = λ j low high. absurd (omega (arith, here)) },
        subst (Passes test hay) here t,
      ))
      (λ f.
      let (later, passes) = first_place (i + 1) n k more (sym (cond-false _ _ _ f) ∙ is) in (
        record {
          low = omega (arith, later.low);
          high = omega (arith, later.high);
          before = λ j low high.
              ⊎_elim
              (λ here. subst (λ m. ¬ Passes test hay m) here (λ t. absurd (false≢true (sym f ∙ t))))
              (λ other. later.before j (omega (arith, other)) high)
              (cases_eq i j);
        },
        passes,
      ))
      (cases_Bool (test (slice_index hay i)))

-- the first line feed, of which there is a list
pub first_feed : (hay : List ℕ) (k : ℕ) (more : List ℕ) → places (is_byte 10) hay ≡ k ∷ more → NoneBefore (Passes (is_byte 10) hay) 0 (length hay) k × Passes (is_byte 10) hay k
first_feed hay k more is =
    let whole : length hay ≡ length hay - 0 = omega arith in
    let sum : 0 + length hay ≡ length hay = omega arith in
    let (first, passes) = first_place (is_byte 10) hay 0 (length hay) k more (ap (places_from (is_byte 10) hay 0) whole ∙ is) in
    (subst (λ n. NoneBefore (Passes (is_byte 10) hay) 0 n k) sum first, passes)

pub no_feed : (hay : List ℕ) → places (is_byte 10) hay ≡ [] → Nowhere (Passes (is_byte 10) hay) 0 (length hay)
no_feed hay is =
    let whole : length hay ≡ length hay - 0 = omega arith in
    let sum : 0 + length hay ≡ length hay = omega arith in
    subst (Nowhere (Passes (is_byte 10) hay) 0) sum (no_place (is_byte 10) hay 0 (length hay) (ap (places_from (is_byte 10) hay 0) whole ∙ is))

none_in : (hay : List ℕ) (k : ℕ) → Nowhere (Passes (is_byte 10) hay) 0 k → IsOneLine (take k hay)
none_in hay k before = All-from_get_or (λ c. c ≢ 10) (take k hay) 0 (λ i below is.
    before i (omega arith) (omega (arith, length-take k hay)) (ap (λ c. c == 10) (sym (get_or-take k hay i 0 (omega (arith, length-take k hay))) ∙ is)))

module _ (octets hay : List ℕ) (seen : ℕ) (is : hay ≡ drop seen octets) (fits : seen ≤ length octets) (none : IsOneLine (take seen octets)) where
  pub found : (k : ℕ) → NoneBefore (Passes (is_byte 10) hay) 0 (length hay) k → Passes (is_byte 10) hay k → IsLineEnd octets (Some (seen + k))
  found k first feed =
      let size : length hay ≡ length octets - seen = ap length is ∙ length-drop seen octets in
      let below : seen + k < length octets = omega (arith, first.high) in
      let here : get_or octets (seen + k) 0 ≡ 10 = sym (get_or-drop seen octets k 0) ∙ ap (λ l. get_or l k 0) (sym is) ∙ eqb-true _ _ feed in
      let front : take (seen + k) octets ≡ take seen octets ++ take k hay = take-add seen k octets ∙ ap (λ l. take seen octets ++ take k l) (sym is) in (
        below,
        subst IsOneLine (sym front) (All-append (λ c. c ≢ 10) (take seen octets) (take k hay) none (none_in hay k first.before)),
        sym (take-append-drop (seen + k) octets) ∙ ap (λ l. take (seen + k) octets ++ l) (drop_more octets (seen + k) 0 below ∙ ap (λ c. c ∷ drop (seen + k + 1) octets) here),
      )

  pub found_none : Nowhere (Passes (is_byte 10) hay) 0 (length hay) → IsLineEnd octets None
  found_none before =
      let all : octets ≡ take seen octets ++ take (length hay) hay =
      sym (take-append-drop seen octets) ∙ ap (λ l. take seen octets ++ l) (sym is ∙ sym (take_all (length hay) hay (omega arith))) in
      subst IsOneLine (sym all) (All-append (λ c. c ≢ 10) (take seen octets) (take (length hay) hay) none (none_in hay (length hay) before))

-- ---- after what is held

pub Consumes-held : (a b : Option (List ℕ)) (held more : List ℕ) → Consumes a b more → Consumes (prepend_known held a) b (held ++ more)
Consumes-held None b held more c = tt
Consumes-held (Some x) None held more c = absurd c
Consumes-held (Some x) (Some y) held more c = ap (λ l. held ++ l) c ∙ sym (append_assoc held more y)

pub Consumes-all_held : (a b : Option (List ℕ)) (held : List ℕ) → Keeps a b → Consumes (prepend_known held a) b held
Consumes-all_held None b held c = tt
Consumes-all_held (Some x) None held c = absurd c
Consumes-all_held (Some x) (Some y) held c = ap (λ l. held ++ l) (sym c)

-- nothing is held
pub takes_nothing : (a : Option (List ℕ)) → Consumes a (prepend_known [] a) []
takes_nothing None = tt
takes_nothing (Some x) = refl

-- what is held was taken
pub taken_held : (a b : Option (List ℕ)) (taken rest : List ℕ) → Consumes a (prepend_known rest b) taken → Consumes a b (taken ++ rest)
taken_held None b taken rest c = tt
taken_held (Some x) None taken rest c = absurd c
taken_held (Some x) (Some y) taken rest c = c ∙ sym (append_assoc taken rest y)

-- a part of it is passed over
pub passes_front : (a b : Option (List ℕ)) (rest front others taken : List ℕ) → rest ≡ front ++ others → Consumes a (prepend_known rest b) taken → Consumes a (prepend_known others b) (taken ++ front)
passes_front None b rest front others taken is c = tt
passes_front (Some x) None rest front others taken is c = absurd c
passes_front (Some x) (Some y) rest front others taken is c =
    c ∙ ap (λ l. taken ++ (l ++ y)) is ∙ ap (λ l. taken ++ l) (append_assoc front others y) ∙ sym (append_assoc taken front (others ++ y))

-- more is read after it
pub reads_behind : (a b c : Option (List ℕ)) (rest more taken : List ℕ) → Consumes b c more → Consumes a (prepend_known rest b) taken → Consumes a (prepend_known (rest ++ more) c) taken
reads_behind None b c rest more taken took t = tt
reads_behind (Some x) None c rest more taken took t = absurd t
reads_behind (Some x) (Some y) None rest more taken took t = absurd took
reads_behind (Some x) (Some y) (Some z) rest more taken took t =
    t ∙ ap (λ l. taken ++ (rest ++ l)) took ∙ ap (λ l. taken ++ l) (sym (append_assoc rest more z))

-- the first line of what is held, if it ends among these first octets
pub first_line : (held : List ℕ) (left end : ℕ) → IsLineEnd (take left held) (Some end)
    → (held ≡ (take end (take left held) ++ 10 ∷ []) ++ drop (end + 1) held) × (length (take end (take left held)) ≡ end) × (end + 1 ≤ left) × (end + 1 ≤ length held)
first_line held left end (below, one, stands) =
    let octets = take left held in
    let line = take end octets in
    let others = drop (end + 1) octets in
    let size : length line ≡ end = length-take-le end octets (omega (arith, below)) in
    let regrouped : held ≡ (line ++ 10 ∷ []) ++ (others ++ drop left held) =
    sym (take-append-drop left held) ∙ ap (λ l. l ++ drop left held) stands ∙ (let same : (line ++ 10 ∷ others) ++ drop left held ≡ (line ++ 10 ∷ []) ++ (others ++ drop left held) = simp append_assoc refl in same) in
    let first_part : take (end + 1) held ≡ line ++ 10 ∷ [] =
    ap (take (end + 1)) regrouped ∙ take_at (line ++ 10 ∷ []) (others ++ drop left held) (end + 1) (omega (arith, size, length-append line (10 ∷ []))) in (
      sym (take-append-drop (end + 1) held) ∙ ap (λ l. l ++ drop (end + 1) held) first_part,
      size,
      omega (arith, below, length-take left held),
      omega (arith, below, length-take left held),
    )

-- a line of which too much is held already
module _ (old new : Option (List ℕ)) (held line : List ℕ) (number left rest left' : ℕ) (one : IsOneLine held) (long : 8301 < length held) (few : length held + rest ≡ left) where
  joined : (more : List ℕ) → IsOneLine more → IsOneLine (held ++ more)
  joined more h = All-append (λ c. c ≢ 10) held more one h

  too_long : (more : List ℕ) → Consumes old new (more ++ 10 ∷ []) → IsOneLine more → length more + 1 ≤ rest → EndsWith (prepend_known held old) new number left (faults.LineTooLong number)
  too_long more took h fits = (
    refl,
    (
      held ++ more,
      subst (Consumes (prepend_known held old) new) (sym (append_assoc held more (10 ∷ []))) (Consumes-held old new held (more ++ 10 ∷ []) took),
      joined more h,
      omega (arith, few, fits, length-append held more),
      omega (arith, long, length-append held more, length-text_of (held ++ more)),
    ),
  )

  pub ends_at_line : TakesLine old new rest left' line (Ok next.Line) → EndsWith (prepend_known held old) new number left (faults.LineTooLong number)
  ends_at_line t = let (took, h, is, short) = t in too_long line took h (omega (arith, is))

  pub ends_at_long : TakesLine old new rest left' line (Ok next.TooLong) → EndsWith (prepend_known held old) new number left (faults.LineTooLong number)
  ends_at_long t = let (more, took, h, is, over) = t in too_long more took h is

  pub ends_unfinished : TakesLine old new rest left' line (Ok next.Unfinished) → EndsWith (prepend_known held old) new number left (faults.BadLine number)
  ends_unfinished t = let (more, took, end, h, is, some) = t in (
    refl,
    (
      held ++ more,
      Consumes-held old new held more took,
      end,
      joined more h,
      omega (arith, few, is, length-append held more),
      omega (arith, long, length-append held more),
    ),
  )

  pub ends_at_end : TakesLine old new rest left' line (Ok next.End) → EndsWith (prepend_known held old) new number left (faults.BadLine number)
  ends_at_end t = (
    refl,
    (
      held,
      subst (Consumes (prepend_known held old) new) (append-nil held) (Consumes-held old new held [] t.0),
      t.1,
      one,
      omega (arith, few),
      omega (arith, long),
    ),
  )

  pub ends_past : TakesLine old new rest left' line (Ok next.InputTooLong) → EndsWith (prepend_known held old) new number left faults.InputTooLong
  ends_past t = let (more, octet, took, h, is) = t in (
    held ++ more,
    octet,
    subst (Consumes (prepend_known held old) new) (sym (append_assoc held more (octet ∷ []))) (Consumes-held old new held (more ++ octet ∷ []) took),
    joined more h,
    omega (arith, few, is, length-append held more),
  )

  pub ends_failing : (e : ToolFault) → TakesLine old new rest left' line (Err e) → EndsWith (prepend_known held old) new number left e
  ends_failing faults.Read t = let (more, took, fits, h) = t in (held ++ more, Consumes-held old new held more took, omega (arith, few, fits, length-append held more), joined more h)
  ends_failing faults.Memory t = let (more, took, fits, h) = t in (held ++ more, Consumes-held old new held more took, omega (arith, few, fits, length-append held more), tt)
  ends_failing faults.Write t = let (more, took, fits, bad) = t in absurd (let wrong : faults.Write ≡ faults.Memory = bad in cc)
  ends_failing (faults.LineTooLong n) t = let (more, took, fits, bad) = t in absurd (let wrong : faults.LineTooLong n ≡ faults.Memory = bad in cc)
  ends_failing (faults.BadLine n) t = let (more, took, fits, bad) = t in absurd (let wrong : faults.BadLine n ≡ faults.Memory = bad in cc)
  ends_failing faults.InputTooLong t = let (more, took, fits, bad) = t in absurd (let wrong : faults.InputTooLong ≡ faults.Memory = bad in cc)
  ends_failing (faults.SignRefused n) t = let (more, took, fits, bad) = t in absurd (let wrong : faults.SignRefused n ≡ faults.Memory = bad in cc)
  ends_failing faults.BadSign t = let (more, took, fits, bad) = t in absurd (let wrong : faults.BadSign ≡ faults.Memory = bad in cc)

  -- what is held is the first of it
  pub holds_unfinished : TakesLine old new rest left' line (Ok next.Unfinished) → HoldsUnfinished (prepend_known held old) new left held (faults.BadLine number)
  holds_unfinished t = let (more, took, end, h, is, some) = t in (
    held ++ more,
    Consumes-held old new held more took,
    end,
    joined more h,
    omega (arith, few, is, length-append held more),
    omega (arith, long, length-append held more),
    sym (take-append-le 8301 held more (omega (arith, long))),
  )

  pub holds_at_end : TakesLine old new rest left' line (Ok next.End) → HoldsUnfinished (prepend_known held old) new left held (faults.BadLine number)
  holds_at_end t = (
    held,
    subst (Consumes (prepend_known held old) new) (append-nil held) (Consumes-held old new held [] t.0),
    t.1,
    one,
    omega (arith, few),
    omega (arith, long),
    refl,
  )

  pub holds_failing : (e : ToolFault) → TakesLine old new rest left' line (Err e) → HoldsUnfinished (prepend_known held old) new left held e
  holds_failing (faults.BadLine n) t = let (more, took, fits, bad) = t in absurd (let wrong : faults.BadLine n ≡ faults.Memory = bad in cc)
  holds_failing faults.Read t = tt
  holds_failing faults.Memory t = tt
  holds_failing faults.Write t = tt
  holds_failing (faults.LineTooLong n) t = tt
  holds_failing faults.InputTooLong t = tt
  holds_failing (faults.SignRefused n) t = tt
  holds_failing faults.BadSign t = tt

single : (l : List ℕ) → length l ≡ 1 → (x : ℕ) × (l ≡ x ∷ [])
single [] e = absurd (omega (arith, e))
single (x ∷ []) e = (x, refl)
single (x ∷ y ∷ l) e = absurd (omega (arith, e))

-- what is held goes past the limit
pub held_past : (old : Option (List ℕ)) (held : List ℕ) (number left : ℕ) → IsOneLine (take left held) → left < length held → length held ≤ left + 1 → EndsWith (prepend_known held old) old number left faults.InputTooLong
held_past None held number left one past most = (take left held, 0, tt, one, omega (arith, length-take left held))
held_past (Some x) held number left one past most =
    let (octet, is) = single (drop left held) (omega (arith, length-drop left held)) in (
      take left held,
      octet,
      ap (λ l. l ++ x) (sym (take-append-drop left held) ∙ ap (λ l. take left held ++ l) is),
      one,
      omega (arith, length-take left held),
    )

-- a reader fails after what is held
pub held_failing : (old new : Option (List ℕ)) (held : List ℕ) (number left : ℕ) (e : ToolFault) → IsOneLine held → length held ≤ left → (e ≡ faults.Read) × Keeps old new → EndsWith (prepend_known held old) new number left e
held_failing old new held number left e one few read =
    subst (EndsWith (prepend_known held old) new number left) (sym read.0) (held, Consumes-all_held old new held read.1, few, one)

-- the input ends after what is held
pub held_last : (old new : Option (List ℕ)) (held more : List ℕ) (number left count : ℕ) → IsOneLine held → length held ≤ left → 0 < length held → count ≡ 0 → length more ≡ count → Consumes old new more → IsAtEnd new
    → EndsWith (prepend_known held old) new number left (faults.BadLine number)
held_last old new held [] number left count one few some none size took end =
    (refl, (held, subst (Consumes (prepend_known held old) new) (append-nil held) (Consumes-held old new held [] took), end, one, few, some))
held_last old new held (x ∷ more) number left count one few some none size took end = absurd (omega (arith, size, none))

-- and all of it is held
pub holds_last : (old new : Option (List ℕ)) (held held' more : List ℕ) (number left count : ℕ) → IsOneLine held → length held ≤ left → 0 < length held → count ≡ 0 → length more ≡ count → Consumes old new more → IsAtEnd new
    → held' ≡ held ++ more → HoldsUnfinished (prepend_known held old) new left held' (faults.BadLine number)
holds_last old new held held' [] number left count one few some none size took end grown =
    (held, subst (Consumes (prepend_known held old) new) (append-nil held) (Consumes-held old new held [] took), end, one, few, some, ap (take 8301) (grown ∙ append-nil held))
holds_last old new held held' (x ∷ more) number left count one few some none size took end grown = absurd (omega (arith, size, none))

-- where a reader fails there is nothing to say of what is held
pub holds_reading : (old new : Option (List ℕ)) (held : List ℕ) (left : ℕ) (e : ToolFault) → e ≡ faults.Read → HoldsUnfinished old new left held e
holds_reading old new held left e read = subst (HoldsUnfinished old new left held) (sym read) tt
