-- What the reader of a line has seen.
use Rattle.std.proofs.Common.{◌≡◌, ◌≢◌, ℕ, ◌+◌, ◌-◌, ◌<◌, ◌≤◌, Bool, true, false, List, [], ◌∷◌, ◌++◌, Option, Ok, Err, length, take, refl, sym, ap, ◌∙◌, subst, arith, cond, None, Some, append-nil, ◌⊎◌, inl, inr}
use Rattle.std.proofs.lemmas.List.{length-append, length-take, take_all, take-append-le}
use Rattle.std.proofs.lemmas.List.Elements.{All-nil, All-push}
use Rattle.std.specs.Io.KnownBytes.{Consumes, Keeps, IsAtEnd}
use Rattle.std.specs.Io.BufRead.{ends_with_byte}
use Rattle.std.proofs.KnownBytes.{Consumes-nil, Consumes-trans, Consumes-kept}
use Rattle.tool_streams.specs.declared.fault.ToolFault.{ToolFault}
use Rattle.tool_streams.specs.declared.fault.ToolFault.TheVariants as faults
use Rattle.tool_streams.specs.Lines.{IsOneLine, text_of}
use Rattle.tool_streams.specs.declared.lines.NextLine.TheVariants.{Line, TooLong, Unfinished, InputTooLong}
use Rattle.tool_streams.specs.Streams.{FailsAfter, KeepsUnfinished, TakesLine, TakesOctet}

-- The octets of a line that were taken so far, of which the first `most` are kept.
pub record Seen (most : ℕ) (old now : Option (List ℕ)) (kept : List ℕ) (is_cut : Bool) (count : ℕ) (seen : List ℕ) : Type 0 where
  pub taken : Consumes old now seen
  pub one_line : IsOneLine seen
  pub count_is : length seen ≡ count
  pub kept_is : kept ≡ take most seen
  pub cut : is_cut ≡ true → most < length seen
  pub whole : is_cut ≡ false → length seen ≤ most

module _ (most : ℕ) where
  pub Seen-nil : (old : Option (List ℕ)) (kept : List ℕ) → kept ≡ [] → Seen most old old kept false 0 []
  Seen-nil old kept e = record {
    taken = Consumes-nil old;
    one_line = All-nil (λ c. c ≢ 10);
    count_is = refl;
    kept_is = e ∙ sym (take_all most [] (omega arith));
    cut = λ (h : false ≡ true). cc;
    whole = λ h. omega arith;
  }

  module _ (old now new : Option (List ℕ)) (kept : List ℕ) (is_cut : Bool) (count octet : ℕ) (seen : List ℕ) (s : Seen most old now kept is_cut count seen) (more : Consumes now new (octet ∷ [])) (other : octet ≢ 10) where
    pub Seen-kept : length kept < most → Seen most old new (kept ++ octet ∷ []) is_cut (count + 1) (seen ++ octet ∷ [])
    Seen-kept short =
        let kept_length : length kept ≡ length (take most seen) = ap length s.kept_is in
        let below : length seen < most = omega (arith, length-take most seen) in
        let all : take most seen ≡ seen = take_all most seen (omega arith) in
        let grown : length (seen ++ octet ∷ []) ≡ length seen + 1 = length-append seen (octet ∷ []) in
        record {
          taken = Consumes-trans old now new seen (octet ∷ []) s.taken more;
          one_line = All-push (λ c. c ≢ 10) seen octet s.one_line other;
          count_is = omega (arith, s.count_is);
          kept_is = ap (λ l. l ++ octet ∷ []) (s.kept_is ∙ all) ∙ sym (take_all most (seen ++ octet ∷ []) (omega arith));
          cut = λ h. absurd (omega (arith, s.cut h));
          whole = λ h. omega arith;
        }

    pub Seen-cut : most ≤ length kept → Seen most old new kept true (count + 1) (seen ++ octet ∷ [])
    Seen-cut full =
        let kept_length : length kept ≡ length (take most seen) = ap length s.kept_is in
        let within : most ≤ length seen = omega (arith, length-take most seen) in
        let grown : length (seen ++ octet ∷ []) ≡ length seen + 1 = length-append seen (octet ∷ []) in
        record {
          taken = Consumes-trans old now new seen (octet ∷ []) s.taken more;
          one_line = All-push (λ c. c ≢ 10) seen octet s.one_line other;
          count_is = omega (arith, s.count_is);
          kept_is = s.kept_is ∙ sym (take-append-le most seen (octet ∷ []) within);
          cut = λ h. omega arith;
          whole = λ (h : true ≡ false). absurd (cc);
        }

  -- a line that isn't cut is all of what was seen
  pub Seen-all : (old now : Option (List ℕ)) (kept seen : List ℕ) (count : ℕ) → Seen most old now kept false count seen → kept ≡ seen
  Seen-all old now kept seen count s = s.kept_is ∙ take_all most seen (s.whole refl)

-- only one octet can be dropped from a line
pub length-text_of : (line : List ℕ) → length line ≤ length (text_of line) + 1
length-text_of line = choice (ends_with_byte 13 line) where
  choice : (b : Bool) → length line ≤ length (cond b (take (length line - 1) line) line) + 1
  choice true = omega (arith, length-take (length line - 1) line)
  choice false = omega arith

pub at_octet : (old new : Option (List ℕ)) (o : Option ℕ) (octet : ℕ) → o ≡ Some octet → TakesOctet old new (Ok o) → Consumes old new (octet ∷ [])
at_octet old new o octet e t = rw e at t

pub at_end : (old new : Option (List ℕ)) (o : Option ℕ) → o ≡ None → TakesOctet old new (Ok o) → Consumes old new [] × IsAtEnd new
at_end old new o e t = rw e at t

module _ (old now new : Option (List ℕ)) (kept : List ℕ) (is_cut : Bool) (count left : ℕ) (seen : List ℕ) (s : Seen 8301 old now kept is_cut count seen) where
  pub fails_reading : (line : List ℕ) (left' : ℕ) (e : ToolFault) → count ≤ left → (e ≡ faults.Read) × Keeps now new → TakesLine old new left left' line (Err e)
  fails_reading line left' e within read =
      let fails : FailsAfter seen e = subst (FailsAfter seen) (sym read.0) s.one_line in
      (seen, Consumes-kept old now new seen s.taken read.1, omega (arith, s.count_is), fails)

  pub fails_keeping : (line : List ℕ) (left' octet : ℕ) (e : ToolFault) → count < left → e ≡ faults.Memory → Consumes now new (octet ∷ []) → TakesLine old new left left' line (Err e)
  fails_keeping line left' octet e within is more =
      let fails : FailsAfter (seen ++ octet ∷ []) e = subst (FailsAfter (seen ++ octet ∷ [])) (sym is) tt in
      (seen ++ octet ∷ [], Consumes-trans old now new seen (octet ∷ []) s.taken more, omega (arith, s.count_is, length-append seen (octet ∷ [])), fails)

  pub ends_unfinished : (line : List ℕ) (left' : ℕ) → count ≤ left → 0 < count → Consumes now new [] × IsAtEnd new → TakesLine old new left left' line (Ok Unfinished)
  ends_unfinished line left' within some end =
      (seen, subst (Consumes old new) (append-nil seen) (Consumes-trans old now new seen [] s.taken end.0), end.1, s.one_line, omega (arith, s.count_is), omega (arith, s.count_is))

  pub keeps_unfinished : count ≤ left → 0 < count → Consumes now new [] × IsAtEnd new → KeepsUnfinished old new left kept (Ok Unfinished)
  keeps_unfinished within some end =
      (seen, subst (Consumes old new) (append-nil seen) (Consumes-trans old now new seen [] s.taken end.0), end.1, s.one_line, omega (arith, s.count_is), omega (arith, s.count_is), s.kept_is)

  pub ends_line : (left' octet : ℕ) → octet ≡ 10 → is_cut ≡ false → count < left → left' ≡ left - count - 1 → length (text_of kept) ≤ 8300 → Consumes now new (octet ∷ []) → TakesLine old new left left' kept (Ok Line)
  ends_line left' octet feed whole within rest short more =
      let all : kept ≡ seen = s.kept_is ∙ take_all 8301 seen (s.whole whole) in
      let taken : Consumes old new (seen ++ octet ∷ []) = Consumes-trans old now new seen (octet ∷ []) s.taken more in (
        subst (λ o. Consumes old new (kept ++ o ∷ [])) feed (subst (λ l. Consumes old new (l ++ octet ∷ [])) (sym all) taken),
        subst IsOneLine (sym all) s.one_line,
        omega (arith, s.count_is, ap length all),
        short,
      )

  pub ends_too_long : (line : List ℕ) (left' octet : ℕ) → octet ≡ 10 → count < left → (is_cut ≡ true) ⊎ ((is_cut ≡ false) × (8300 < length (text_of kept))) → Consumes now new (octet ∷ []) → TakesLine old new left left' line (Ok TooLong)
  ends_too_long line left' octet feed within long more =
      let taken : Consumes old new (seen ++ octet ∷ []) = Consumes-trans old now new seen (octet ∷ []) s.taken more in
      let over : 8300 < length (text_of seen) = elim long [
        | inl cut ↦ omega (arith, s.cut cut, length-text_of seen)
        | inr whole ↦ subst (λ l. 8300 < length (text_of l)) (s.kept_is ∙ take_all 8301 seen (s.whole whole.0)) whole.1
      ] in
      (seen, subst (λ o. Consumes old new (seen ++ o ∷ [])) feed taken, s.one_line, omega (arith, s.count_is), over)

  pub ends_past_limit : (line : List ℕ) (left' octet : ℕ) → count ≡ left → Consumes now new (octet ∷ []) → TakesLine old new left left' line (Ok InputTooLong)
  ends_past_limit line left' octet full more = (seen, octet, Consumes-trans old now new seen (octet ∷ []) s.taken more, s.one_line, s.count_is ∙ full)
