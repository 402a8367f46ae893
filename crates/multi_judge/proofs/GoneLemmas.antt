-- A run by the table of a font: what it lengthens, and its last space.
use Rattle.std.proofs.Common.{length-drop}
use Rattle.multi_judge.proofs.Common.{◌≡◌, ℕ, ◌+◌, ◌-◌, ◌^◌, ◌<◌, ◌≤◌, List, length, take, drop, Option, Some, None, sym, ap, subst, ◌∙◌, arith, All, and_parts, leb-true, IfSome, nat_le, take-append-drop, sum_by-append, slice_get_within, IsPlain, SignData, FontData, IsWithin, HasWidth, AreWidthsOf, width_in, State, gap_here, IsBehindCharacter, IsLimited, kept_height, lengthened_by, lengthened, held, counted, line_in_force, slice_range, if◌then◌else◌, unwrap_or, rules, min, slice_index, get_or_default, sum_by-take-le, All-take, All-drop, get_or_from_slice_get, IsLastSpace, taken, is_bracket, Space, advance, taken_more, AreAdvances, IsSoundFont, width_numbered, IsRunPassed, IsLastSpaceOf}
use Rattle.std.proofs.Common.{length-take}
use Rattle.multi_token.specs.Run as run
use Rattle.sign_font.proofs.AdvanceLemmas.{IsOctet, has_cell, run_plain, run_width}
use Rattle.sign_font.proofs.SoundLemmas.{width_sound}

-- the last space of a text that goes into a room by a table
module _ (width_of : ℕ → Option ℕ) (sound : (octet : ℕ) → IfSome (width_of octet) (IsWithin 1 64)) (table : List ℕ) (tables : AreAdvances width_of table)
    (gap : ℕ) (text : List ℕ) (each : All IsOctet text) (small : taken table gap text < 32768) where
  last_space : (space : Option Space) → IsLastSpace table gap text space → IsLastSpaceOf width_of gap text (taken table gap text) space
  last_space None none = none
  last_space (Some space) (here, none, before, through) =
      let inside = slice_get_within text space.at 32 here in
      let parts : taken table gap text ≡ taken table gap (take (space.at + 1) text) + taken table gap (drop (space.at + 1) text) =
      ap (taken table gap) (sym (take-append-drop (space.at + 1) text)) ∙ sum_by-append (advance table gap) (take (space.at + 1) text) (drop (space.at + 1) text) in
      let more = taken_more table gap text space.at inside in
      let is : slice_index table (slice_index text space.at) ≡ slice_index table 32 = ap (slice_index table) (get_or_from_slice_get text space.at 32 0 here) in
      let cell = has_cell width_of sound table tables 32 (omega arith) (omega (arith, more, is, parts, small)) in
      let rest : taken table gap (drop (space.at + 1) text) ≡ taken table gap text - space.through = omega (arith, parts, through) in
      record {
        inside = inside;
        here = here;
        none = none;
        width = cell.width;
        cell = sym cell.found;
        narrow = cell.within;
        before = subst (HasWidth width_of gap (take space.at text)) (sym before) (run_width width_of sound table tables gap (take space.at text) (All-take IsOctet space.at text each) (omega (arith, more, parts, small)));
        through = omega (arith, through, before, more, is, cell.takes);
        behind = subst (HasWidth width_of gap (drop (space.at + 1) text)) rest (run_width width_of sound table tables gap (drop (space.at + 1) text) (All-drop IsOctet (space.at + 1) text each) (omega (arith, parts, small)));
        fits = omega (arith, parts, through);
      }

-- a run of octets in the font in force
module _ (sign : SignData) (font : FontData) (state : State) (widths : AreWidthsOf sign state.attributes.font.number font) (is : IsSoundFont font) (table : List ℕ) (tables : AreAdvances (width_numbered font) table)
    (octets : List ℕ) (at len gap room : ℕ) (gone : run.IsRun table gap room (drop at octets) len) (each : (k : ℕ) → slice_index (drop at octets) k < 2 ^ 8) (small : room < 32768) where
  abbrev width_of : ℕ → Option ℕ
  width_of = width_in sign state.attributes.font.number

  abbrev text : List ℕ
  text = take len (drop at octets)

  sound : (octet : ℕ) → IfSome (width_of octet) (IsWithin 1 64)
  sound octet = subst (λ w. IfSome w (IsWithin 1 64)) (sym (widths octet)) (width_sound font octet is)

  advances : AreAdvances width_of table
  advances octet h = tables octet h ∙ ap (λ (o : Option ℕ). if is_bracket octet then 32768 else unwrap_or o 32768) (sym (widths octet))

  are_octets : All IsOctet text
  are_octets = All-take IsOctet len (drop at octets) (λ k d h. grind (arith, get_or_default, each k))

  fits : taken table gap text < 32768
  fits = omega (arith, gone.fits, small)

  pub goes : at ≤ length octets → gap ≡ gap_here state → gap ≤ 255 → IsBehindCharacter state → IsLimited state → room ≡ min (state.limits.width - (line_in_force state).part.width) 32767 → (pixels : ℕ) → pixels ≡ taken table gap text
      → (more : ℕ) → more ≡ pixels → (new : State) → new ≡ lengthened_by more len state → IsRunPassed sign octets at pixels state (at + len) new
  goes there gap_is narrow behind limited left pixels wide more same new is =
      let long : len ≡ at + len - at = omega arith in
      let here : text ≡ slice_range octets at (at + len) = λ i. take (long i) (drop at octets) in
      record {
        gap = gap;
        forward = omega arith;
        within = omega (arith, gone.within, length-drop at octets, there);
        plain = subst (All IsPlain) here (run_plain width_of sound table advances gap text are_octets fits);
        width = subst (λ t. HasWidth width_of gap t pixels) here (subst (HasWidth width_of gap text) (sym wide) (run_width width_of sound table advances gap text are_octets fits));
        gap_is = gap_is;
        narrow = narrow;
        run = λ within.
            let (line, group) = and_parts (nat_le (line_in_force state).part.width state.limits.width) (nat_le (kept_height state.area.group) state.limits.height) within in
            (record { behind = behind; gap_is = gap_is; narrow = narrow; limited = limited; height = group }, omega (arith, leb-true (line_in_force state).part.width state.limits.width line, gone.fits, left, wide));
        is = is ∙ (λ i. lengthened (held ((line_in_force state).part.width + same i)) (counted ((line_in_force state).part.count + long i)) state);
      }

  pub space_gone : (gap_here' pixels : ℕ) → gap ≡ gap_here' → pixels ≡ taken table gap text → (space : Option Space) → IsLastSpace table gap text space → IsLastSpaceOf width_of gap_here' text pixels space
  space_gone gap_here' pixels gap_is wide space last = subst (λ (x : ℕ × ℕ). IsLastSpaceOf width_of x.0 text x.1 space) (λ i. (gap_is i, sym wide i)) (last_space width_of sound table advances gap text are_octets fits space last)

-- the last space of a run is inside it
pub space_inside : (table : List ℕ) (gap : ℕ) (octets : List ℕ) (len pixels : ℕ) → pixels ≡ taken table gap (take len octets) → (space : Option Space) → IsLastSpace table gap (take len octets) space
    → IfSome space (λ s. (s.at < len) × (s.through ≤ pixels))
space_inside table gap octets len pixels wide space last = search (rules, advance, length-take, slice_get_within, sum_by-take-le)
