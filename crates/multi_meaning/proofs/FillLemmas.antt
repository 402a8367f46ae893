-- Filling at one more character: every break is kept, and at most one is added, in the last line.
use Rattle.multi_meaning.proofs.Common.{◌≡◌, inl, inr, ℕ, ◌+◌, ◌<◌, ◌≤◌, true, false, cond, ◌&&◌, List, [], ◌∷◌, ◌++◌, length, take, Option, Some, None, zero, suc, refl, ap, arith, length-append, append_assoc, append-nil, nat_le, option_map, ◌⊎◌, sym, subst, ◌∙◌, false≢true, nat_tests, take_all, drop_all, drop-append-le, length_push, filter-append, All-head, All-tail, All-push, All-weaker, filter, after_last, AllPass, fold-append, Spot, segment, is_glyph, is_break, width_of, fit, line_fits, CutAt, longest_prefix, cut_at_last, longer, is_space, dropped, filled, IsPlacing, ended_lines, All, take-append-le, take-append-drop, flat_map, AllZip, soft_break, broken_off, fill, filled_line}
use Rattle.std.proofs.lemmas.List.Concat.{flat_map-append}
use Rattle.multi_meaning.proofs.WordLemmas.{extent-append-le, cases_Option, longest_push, longest_all, longest_short, is_cut, none_take, filter_none, All-around, Cut, cut, cut_from, cut_more, longer_part, part, cut_push, cut_behind_is, cut_behind_push, after_last_is, last_push, ended_is}
use Rattle.multi_meaning.proofs.GroupLemmas.{filter_all, lines_ind, open_glyphs, glyph_put, break_put, glyphs_around, ended_break}

-- what stands after characters makes no segment narrower
pub segment_front : (just : ℕ) (line behind : List Spot) → width_of (segment just line) ≤ width_of (segment just (line ++ behind))
segment_front just line behind = grind (arith, extent-append-le, filter-append)

pub le_test : (a b w : ℕ) → a ≤ b → nat_le b w ≡ true → nat_le a w ≡ true
le_test a b w h k = grind arith

pub nothing_fits : (width : ℕ) → line_fits width [] ≡ true
nothing_fits width = let none : (fit 0 0 0 width && nat_le 0 width) ≡ true = grind (arith, nat_tests) in none

module _ (width : ℕ) where
  abbrev most : List Spot → ℕ
  most cs = length (longest_prefix (line_fits width) cs) + 1

  pub broken_fits : (cs : List Spot) → line_fits width cs ≡ true → soft_break width cs ≡ None
  broken_fits cs h = rw h refl

  -- a later one leaves the break
  pub broken_later : (cs : List Spot) (s : Spot) → line_fits width cs ≡ false → soft_break width (cs ++ s ∷ []) ≡ option_map (longer (s ∷ [])) (soft_break width cs)
  broken_later cs s wide = grind (arith, false≢true, nat_tests, segment_front, longest_push, longest_short, drop-append-le, take-append-le, append_assoc)

  -- what is broken off are the characters, less nothing
  pub broken_parts : (cs : List Spot) (c : CutAt Spot) → soft_break width cs ≡ Some c → cs ≡ c.before ++ c.item ∷ c.behind
  broken_parts cs c e = grind (arith, is_cut is_space (take (most cs) cs), take-append-drop (most cs) cs, append_assoc)

  shorter : (cs : List Spot) (c : CutAt Spot) → soft_break width cs ≡ Some c → length c.behind + 1 ≤ length cs
  shorter cs c e = omega (arith, ap length (broken_parts cs c e), length-append c.before (c.item ∷ c.behind))

  -- characters without a space stay together
  pub fill_still : (n : ℕ) (cs : List Spot) → cut_at_last is_space cs ≡ None → fill n width cs ≡ cs
  fill_still n cs none = grind (arith, none_take)

  -- the lines that are broken off, and the last line
  pub record Filled : Type 0 where
    pub closed : List Spot
    pub open' : List Spot

  abbrev pub parts_off : (List Spot → Filled) → List Spot → Option (CutAt Spot) → Filled
  parts_off f cs None = record { closed = []; open' = cs }
  parts_off f cs (Some c) = record { closed = c.before ++ dropped c.item ∷ (f c.behind).closed; open' = (f c.behind).open' }

  abbrev pub parts : ℕ → List Spot → Filled
  parts zero cs = record { closed = []; open' = cs }
  parts (suc n) cs = parts_off (parts n) cs (soft_break width cs)

  -- what holds of characters that stay together, and of broken ones if it does of the rest, holds of all
  pub fill_ind : (P : List Spot → Filled → Type 0) → ((cs : List Spot) → P cs (record { closed = []; open' = cs }))
      → ((cs : List Spot) (c : CutAt Spot) (f : Filled) → cs ≡ c.before ++ c.item ∷ c.behind → P c.behind f
      → P cs (record { closed = c.before ++ dropped c.item ∷ f.closed; open' = f.open' })) → (n : ℕ) (cs : List Spot) → P cs (parts n cs)
  fill_ind P still broken zero cs = still cs
  fill_ind P still broken (suc n) cs = grind (arith, cases_Option (soft_break width cs), still cs, broken cs, broken_parts cs, fill_ind P still broken n)

  pub fill_is : (n : ℕ) (cs : List Spot) → fill n width cs ≡ (parts n cs).closed ++ (parts n cs).open'
  fill_is zero cs = refl
  fill_is (suc n) cs = grind (arith, fill_is n, append_assoc)

  -- breaks beyond the characters make no difference
  pub parts_more : (n : ℕ) (cs : List Spot) → length cs ≤ n → parts (suc n) cs ≡ parts n cs
  parts_more zero [] h = rw (broken_fits [] (nothing_fits width)) refl
  parts_more zero (s ∷ cs) h = absurd (omega (arith, h))
  parts_more (suc n) cs h = grind (arith, cases_Option (soft_break width cs), parts_more n, shorter cs)

  -- a line, broken at its last space where it doesn't fit
  abbrev pub broken_here : List Spot → Option (CutAt Spot)
  broken_here line = cond (line_fits width line) None (cut_at_last is_space line)

  abbrev pub relaid : List Spot → List Spot
  relaid line = broken_off (λ l. l) line (broken_here line)

  last_line : (n : ℕ) (cs : List Spot) (s : Spot) → line_fits width cs ≡ true → broken_off (fill n width) (cs ++ s ∷ []) (soft_break width (cs ++ s ∷ [])) ≡ relaid (cs ++ s ∷ [])
  last_line n cs s fits =
      let is_cut' = is_cut is_space (cs ++ s ∷ []) in
      grind (arith, broken_fits (cs ++ s ∷ []), longest_push, longest_all, length-append, drop_all, take_all, append-nil, fill_still n, is_cut')

  -- one more character after characters whose last line fits: every break is kept, and the last line is broken at its last space
  -- where it no longer fits
  pub fill_push : (n : ℕ) (cs : List Spot) (s : Spot) → length cs < n → line_fits width (parts n cs).open' ≡ true
      → fill n width (cs ++ s ∷ []) ≡ (parts n cs).closed ++ relaid ((parts n cs).open' ++ s ∷ [])
  fill_push zero cs s h fits = absurd (omega (arith, h))
  fill_push (suc n) cs s h fits =
      grind (arith, cases_Option (soft_break width cs), last_line n cs s, broken_later cs s, broken_fits cs, fill_push n, shorter cs, fits, append_assoc)

pub glyph_none : (line : List Spot) → AllPass is_glyph line → filter is_break line ≡ []
glyph_none line h = filter_none is_break line (All-weaker (λ x. is_glyph x ≡ true) (λ x. is_break x ≡ false) (λ x glyph. (glyph_put x.at x.put glyph).0) line h)

pub glyphs_before : (line : List Spot) (s : Spot) → AllPass is_glyph line → is_break s ≡ true → filter is_glyph (line ++ s ∷ []) ≡ line
glyphs_before line s h b = filter-append is_glyph line (s ∷ []) ∙ rw (break_put s.at s.put b, filter_all line h) (append-nil line)

pub break_behind : (line : List Spot) (s : Spot) → AllPass is_glyph line → is_break s ≡ true → filter is_break (line ++ s ∷ []) ≡ s ∷ []
break_behind line s h b = filter-append is_break line (s ∷ []) ∙ rw (glyph_none line h, b) refl

pub flat_map_push : {X Y : Type 0} (f : X → List Y) (xs : List X) (x : X) → flat_map f (xs ++ x ∷ []) ≡ flat_map f xs ++ f x
flat_map_push f xs x = flat_map-append f xs (x ∷ []) ∙ ap (λ l. flat_map f xs ++ l) (append-nil (f x))

module _ (width : ℕ) where
  -- the lines that an `nl` ended, filled
  abbrev pub front : List Spot → List Spot
  front g = flat_map (filled_line width) (cut is_break g).closed

  -- the characters after the last `nl`, as they are filled
  abbrev pub last_parts : List Spot → Filled width
  last_parts g = parts width (length (cut is_break g).open') (cut is_break g).open'

  -- what is ended, and the open line
  abbrev pub ended : List Spot → List Spot
  ended g = front g ++ (last_parts g).closed

  abbrev pub open_line : List Spot → List Spot
  open_line g = (last_parts g).open'

  pub line_of_glyphs : (line : List Spot) → AllPass is_glyph line → filled_line width line ≡ fill (length line) width line
  line_of_glyphs line h = rw (filter_all line h, glyph_none line h) (append-nil (fill (length line) width line))

  part_filled : (line : List Spot) → AllPass is_glyph line → flat_map (filled_line width) (part is_break line) ≡ fill (length line) width line
  part_filled [] h = refl
  part_filled (s ∷ line) h = append-nil (filled_line width (s ∷ line)) ∙ line_of_glyphs (s ∷ line) h

  -- a filled group is what is ended and the open line
  pub filled_is : (g : List Spot) → All IsPlacing g → filled (Some width) g ≡ ended g ++ open_line g
  filled_is g placing = grind (arith, cut_behind_is, flat_map-append, part_filled, open_glyphs, fill_is, append_assoc)

  more_filled : (g : List Spot) (s : Spot) → filled (Some width) (g ++ s ∷ []) ≡ front g ++ filled_line width ((cut is_break g).open' ++ s ∷ [])
  more_filled g s = ap (flat_map (filled_line width)) (cut_behind_push is_break g s) ∙ flat_map_push (filled_line width) (cut is_break g).closed ((cut is_break g).open' ++ s ∷ [])

  -- one more `nl` stands after the filled group
  pub filled_break : (g : List Spot) (s : Spot) → All IsPlacing g → is_break s ≡ true → filled (Some width) (g ++ s ∷ []) ≡ filled (Some width) g ++ s ∷ []
  filled_break g s placing b = grind (arith, glyphs_before, open_glyphs, break_behind, fill_is, more_filled, filled_is, append_assoc)

  -- one more character: what is ended stays, and the open line with it is broken at its last space where it doesn't fit
  pub filled_character : (g : List Spot) (s : Spot) → All IsPlacing g → is_glyph s ≡ true → line_fits width (open_line g) ≡ true
      → filled (Some width) (g ++ s ∷ []) ≡ ended g ++ relaid width (open_line g ++ s ∷ [])
  filled_character g s placing is fits =
      let o = (cut is_break g).open' in
      let n = length o in
      let size : length (o ++ s ∷ []) ≡ suc n = omega (arith, length_push o s) in
      let steady = parts_more width n o (omega arith) in
      let fits' : line_fits width (parts width (suc n) o).open' ≡ true = ap (λ (f : Filled width). line_fits width f.open') steady ∙ fits in
      let line = line_of_glyphs (o ++ s ∷ []) (All-push (λ x. is_glyph x ≡ true) o s (open_glyphs g placing) is) ∙ ap (λ k. fill k width (o ++ s ∷ [])) size ∙ fill_push width (suc n) o s (omega arith) fits' in
      more_filled g s ∙ grind (arith, line, steady, append_assoc)

  -- a list that is empty or ends with the end of a line
  abbrev pub Ends : List Spot → Type 0
  Ends xs = (xs ≡ []) ⊎ ((ys : List Spot) × (b : Spot) × (is_break b ≡ true) × (xs ≡ ys ++ b ∷ []))

  ends_behind : (xs ys : List Spot) → Ends xs → Ends ys → Ends (xs ++ ys)
  ends_behind xs ys h (inl none) = subst Ends (sym (ap (λ l. xs ++ l) none ∙ append-nil xs)) h
  ends_behind xs ys h (inr (zs, b, is, e)) = inr (xs ++ zs, b, is, ap (λ l. xs ++ l) e ∙ sym (append_assoc xs zs (b ∷ [])))

  one_ends : (xs : List Spot) (b : Spot) → is_break b ≡ true → Ends (xs ++ b ∷ [])
  one_ends xs b is = inr (xs, b, is, refl)

  pub open_line_glyphs : (g : List Spot) → All IsPlacing g → AllPass is_glyph (open_line g)
  open_line_glyphs g placing = fill_ind width (λ cs f. AllPass is_glyph cs → AllPass is_glyph f.open') (λ cs h. h)
      (λ cs c f is ih h.
      let All_around' = All-around (λ x. is_glyph x ≡ true) c.before c.item c.behind in
      grind (arith, ih, All_around', is, h)) (length (cut is_break g).open') (cut is_break g).open' (open_glyphs g placing)

  pub ended_ends : (g : List Spot) → All IsPlacing g → Ends (ended g)
  ended_ends g placing =
      let lines = lines_ind (λ before lines. Ends (flat_map (filled_line width) lines)) (inl refl) (λ before lines line s glyphs e h.
      let ends_behind' = ends_behind (flat_map (filled_line width) lines) (filled_line width (line ++ s ∷ [])) h in
      grind (arith, flat_map_push (filled_line width) lines (line ++ s ∷ []), break_behind line s glyphs e, ends_behind', one_ends)) g placing in
      ends_behind (front g) (last_parts g).closed lines.holds (fill_ind width (λ cs f. Ends f.closed) (λ cs. inl refl) (λ cs c f is ends.
      let ends_behind'' = ends_behind (c.before ++ dropped c.item ∷ []) f.closed (one_ends c.before (dropped c.item) refl) ends in
      grind (arith, append_assoc c.before (dropped c.item ∷ []) f.closed, ends_behind''))
      (length (cut is_break g).open') (cut is_break g).open')

-- a group, filled to a width or to none: nothing, and one more `nl`
pub filled_none : (o : Option ℕ) → filled o [] ≡ []
filled_none o = grind arith

pub filled_behind : (o : Option ℕ) (g : List Spot) (s : Spot) → All IsPlacing g → is_break s ≡ true → filled o (g ++ s ∷ []) ≡ filled o g ++ s ∷ []
filled_behind o g s placing b = grind (arith, filled_break)

-- a cut list with characters after it
cut_glyphs : (ys : List Spot) (c : Cut Spot) → AllPass is_glyph ys → cut_from is_break c ys ≡ record { closed = c.closed; open' = c.open' ++ ys }
cut_glyphs [] c h = ap (λ l. let d : Cut Spot = record { closed = c.closed; open' = l } in d) (sym (append-nil c.open'))
cut_glyphs (y ∷ ys) c h = grind (arith, All-head, append_assoc, cut_glyphs ys (longer_part is_break c y) (All-tail (λ x. is_glyph x ≡ true) y ys h))

pub cut_with : (ys xs : List Spot) → AllPass is_glyph ys → cut is_break (xs ++ ys) ≡ record { closed = (cut is_break xs).closed; open' = (cut is_break xs).open' ++ ys }
cut_with ys xs h = fold-append (cut_more is_break) (record { closed = []; open' = [] }) xs ys ∙ cut_glyphs ys (cut is_break xs) h

pub ends_open : (width : ℕ) (xs : List Spot) → Ends width xs → (cut is_break xs).open' ≡ []
ends_open width xs ends = grind (arith, cut_push)

-- the open line of a filled group stands after its last end of a line
pub open_line_is : (width : ℕ) (g : List Spot) → All IsPlacing g → after_last is_break (filled (Some width) g) ≡ open_line width g
open_line_is width g placing =
    grind (arith, after_last_is, filled_is width g placing, cut_with (open_line width g) (ended width g) (open_line_glyphs width g placing), ends_open width (ended width g) (ended_ends width g placing))

-- a spot is laid as itself, or, a character, as a dropped one
abbrev pub LaidAs : Spot → Spot → Type 0
LaidAs s t = (t ≡ s) ⊎ ((is_glyph s ≡ true) × (t ≡ dropped s))

-- each of these is laid as the one in its place
abbrev pub LaidAll : List Spot → List Spot → Type 0
LaidAll xs ys = AllZip LaidAs xs ys

same_laid : (xs : List Spot) → LaidAll xs xs
same_laid [] = tt
same_laid (x ∷ xs) = (inl refl, same_laid xs)

laid-append : (as' bs xs ys : List Spot) → LaidAll as' bs → LaidAll xs ys → LaidAll (as' ++ xs) (bs ++ ys)
laid-append [] [] xs ys h k = k
laid-append [] (b ∷ bs) xs ys h k = absurd h
laid-append (a ∷ as') [] xs ys h k = absurd h
laid-append (a ∷ as') (b ∷ bs) xs ys h k = (h.0, laid-append as' bs xs ys h.1 k)

module _ (width : ℕ) where
  fill_laid : (n : ℕ) (cs : List Spot) → AllPass is_glyph cs → LaidAll cs ((parts width n cs).closed ++ (parts width n cs).open')
  fill_laid = fill_ind width (λ cs f. AllPass is_glyph cs → LaidAll cs (f.closed ++ f.open')) (λ cs h. same_laid cs) (λ cs c f is ih h.
      let (before, space, behind) = All-around (λ x. is_glyph x ≡ true) c.before c.item c.behind (subst (AllPass is_glyph) is h) in
      let laid_append' = laid-append c.before c.before (c.item ∷ c.behind) (dropped c.item ∷ (f.closed ++ f.open')) (same_laid c.before) (inr (space, refl), ih behind) in
      grind (arith, is, append_assoc c.before (dropped c.item ∷ f.closed) f.open', laid_append'))

  -- the lines that an `nl` ended, and then all
  some_laid : (g : List Spot) → All IsPlacing g → LaidAll g (filled (Some width) g)
  some_laid g placing =
      let lines = lines_ind (λ before lines. LaidAll before (flat_map (filled_line width) lines)) tt (λ before lines line s glyphs e h.
      let laid_line = laid-append line _ (s ∷ []) (s ∷ []) (fill_laid (length line) line glyphs) (inl refl, tt) in
      let laid_append'' = laid-append before (flat_map (filled_line width) lines) (line ++ s ∷ []) (filled_line width (line ++ s ∷ [])) h in
      let flat_map_push' = flat_map_push (filled_line width) lines (line ++ s ∷ []) in
      let fill_is' = fill_is width (length line) line in
      grind (arith, glyphs_before line s glyphs e, break_behind line s glyphs e, fill_is', laid_line, flat_map_push', laid_append'')) g placing in
      let all = laid-append lines.before (front width g) (cut is_break g).open' _ lines.holds (fill_laid (length (cut is_break g).open') (cut is_break g).open' lines.glyphs) in
      grind (arith, lines.is, filled_is width g placing, append_assoc (front width g) (last_parts width g).closed (last_parts width g).open', all)

-- a filled group has each of its items in its place
pub filled_laid : (o : Option ℕ) (g : List Spot) → All IsPlacing g → LaidAll g (filled o g)
filled_laid o g placing = grind (arith, same_laid, some_laid)

-- the parts around a line's last space, at one more character: a space begins a new word, another character lengthens the last
pub word_begins : (line : List Spot) (s : Spot) → is_space s ≡ true → cut_at_last is_space (line ++ s ∷ []) ≡ Some (record { before = line; item = s; behind = [] })
word_begins line s space = last_push is_space line s ∙ rw space refl

pub word_grows : (line : List Spot) (s : Spot) (o : Option (CutAt Spot)) → is_space s ≡ false → cut_at_last is_space line ≡ o → cut_at_last is_space (line ++ s ∷ []) ≡ option_map (longer (s ∷ [])) o
word_grows line s o word e = last_push is_space line s ∙ rw (word, e) refl

module _ (width : ℕ) (g : List Spot) (s : Spot) (placing : All IsPlacing g) (glyph : is_glyph s ≡ true) (fits : line_fits width (open_line width g) ≡ true) where
  -- the group with an item after it, by what its open line becomes
  behind : (y : Spot) → relaid width (open_line width g ++ s ∷ []) ≡ open_line width g ++ y ∷ [] → filled (Some width) (g ++ s ∷ []) ≡ filled (Some width) g ++ y ∷ []
  behind y is = grind (arith, filled_character, append_assoc, filled_is)

  -- it fits: it stands on the line
  pub stands : line_fits width (open_line width g ++ s ∷ []) ≡ true → filled (Some width) (g ++ s ∷ []) ≡ filled (Some width) g ++ s ∷ []
  stands h = behind s (rw h refl)

  -- a space that doesn't fit: it is dropped, and ends the line
  pub drops : line_fits width (open_line width g ++ s ∷ []) ≡ false → is_space s ≡ true → filled (Some width) (g ++ s ∷ []) ≡ filled (Some width) g ++ dropped s ∷ []
  drops h space = behind (dropped s) (rw (h, word_begins (open_line width g) s space) refl)

  -- another that doesn't fit, where the line has a space: the last one ends the line, and what stands after it begins the next
  pub breaks : (c : CutAt Spot) → line_fits width (open_line width g ++ s ∷ []) ≡ false → is_space s ≡ false → cut_at_last is_space (open_line width g) ≡ Some c
      → filled (Some width) (g ++ s ∷ []) ≡ ((ended width g ++ c.before) ++ dropped c.item ∷ []) ++ (c.behind ++ s ∷ [])
  breaks c h word found = grind (arith, filled_character, word_grows, append_assoc, behind)

  -- without a space the line stays, and doesn't fit
  pub stays : line_fits width (open_line width g ++ s ∷ []) ≡ false → is_space s ≡ false → cut_at_last is_space (open_line width g) ≡ None → filled (Some width) (g ++ s ∷ []) ≡ filled (Some width) g ++ s ∷ []
  stays h word none = behind s (rw (h, word_grows (open_line width g) s None word none) refl)

-- characters after a group end no line
ended_glyphs : (xs ys : List Spot) → AllPass is_glyph ys → ended_lines (xs ++ ys) ≡ ended_lines xs
ended_glyphs xs ys glyphs = ended_is is_break (xs ++ ys) ∙ ap (λ (d : Cut Spot). d.closed) (cut_with ys xs glyphs) ∙ sym (ended_is is_break xs)

-- the line that is broken ends with the space that is dropped
pub broken_line : (width : ℕ) (g : List Spot) (s : Spot) → All IsPlacing g → is_glyph s ≡ true → line_fits width (open_line width g) ≡ true
    → (c : CutAt Spot) → line_fits width (open_line width g ++ s ∷ []) ≡ false → is_space s ≡ false → cut_at_last is_space (open_line width g) ≡ Some c
    → ended_lines (filled (Some width) (g ++ s ∷ [])) ≡ ended_lines (filled (Some width) g) ++ (c.before ++ dropped c.item ∷ []) ∷ []
broken_line width g s placing glyph fits c wide word found =
    let front = ended width g in
    let glyphs = open_line_glyphs width g placing in
    let (before, behind) = glyphs_around c.before c.item c.behind (subst (AllPass is_glyph) (is_cut is_space (open_line width g) c found).parts glyphs) in
    grind (arith, breaks width g s placing glyph fits c wide word found, ended_glyphs front c.before before, filled_is width g placing, ended_glyphs front (open_line width g) glyphs, after_last_is, cut_with c.before front before, ends_open width front (ended_ends width g placing), ended_glyphs ((front ++ c.before) ++ dropped c.item ∷ []) (c.behind ++ s ∷ []) (All-push (λ x. is_glyph x ≡ true) c.behind s behind glyph), ended_break (front ++ c.before) (dropped c.item) refl)
