-- What a round of serving a sign makes of the run so far, and how a run ends in one.
use Rattle.std.proofs.Common.{◌≡◌, ◌≢◌, inl, inr, ℕ, ◌+◌, Bool, false, List, [], ◌∷◌, ◌++◌, Option, Some, Ok, Err, length, drop, take, refl, sym, ap, ◌∙◌, subst, append_assoc, arith, take-append-drop}
use Rattle.std.proofs.lemmas.List.{length-append, take_at}
use Rattle.std.proofs.KnownBytes.{Appends-nil, Consumes-nil}
use Rattle.tool_streams.specs.declared.fault.ToolFault.{ToolFault}
use Rattle.tool_streams.specs.declared.fault.ToolFault.TheVariants as faults
use Rattle.tool_streams.specs.Lines.{IsOneLine, cut}
use Rattle.sign_tool.specs.declared.first.FirstLine.{FirstLine}
use Rattle.sign_tool.specs.declared.first.FirstLine.TheVariants as line_is
use Rattle.sign_tool.specs.internal.Blocks.{EndsRefused, WritesReady}
use Rattle.sign_tool.specs.Serving.{AnswersNext, EndsServed, PassesCut, ServerData, Serves, last_reply, replies_so_far, replies_to_all}
use Rattle.sign_tool.proofs.RunLemmas.{if_some_always}
use Rattle.sign_tool.proofs.ServedLemmas.{replies_none}
use Rattle.sign_tool.proofs.ServingLemmas.{Serving, answered, ends_cut, passed, wrote}

-- the last reply is refused, and what was ready is written
pub refused_at_end : (server : ServerData) (is_cut : Bool) (line ready ready' : List ℕ) (output output' : Option (List ℕ)) (e : ToolFault) → ready' ≡ ready → EndsRefused output output' ready' e
    → EndsServed server is_cut line ready output output' (Err e)
refused_at_end server is_cut line ready ready' output output' e same ends =
    let last = last_reply server is_cut line in
    elim (subst (λ l. EndsRefused output output' l e) same ends) [
      | inl all ↦ inl all
      | inr cut ↦ inr (cut.0, cut.1, cut.2 ++ last, cut.3, sym (append_assoc cut.1 cut.2 last) ∙ ap (λ l. l ++ last) cut.4)
    ]

-- a line that was answered is still one of the octets that were read
line_behind : (taken lost rest line others : List ℕ) (count : ℕ) → rest ≡ line ++ 10 ∷ others → count ≡ length line + 1
    → (taken ++ ((lost ++ line) ++ 10 ∷ [])) ++ ([] ++ drop count rest) ≡ taken ++ (lost ++ rest)
line_behind taken lost rest line others count stands counts =
    let size : length (line ++ 10 ∷ []) ≡ count = omega (arith, counts, length-append line (10 ∷ [])) in
    let regrouped : rest ≡ (line ++ 10 ∷ []) ++ others = stands ∙ sym (append_assoc line (10 ∷ []) others) in
    let first_part : take count rest ≡ line ++ 10 ∷ [] = ap (take count) regrouped ∙ take_at (line ++ 10 ∷ []) others count size in
    let behind = drop count rest in
    let parts : (line ++ 10 ∷ []) ++ behind ≡ rest = ap (λ l. l ++ behind) (sym first_part) ∙ take-append-drop count rest in
    let same : (taken ++ ((lost ++ line) ++ 10 ∷ [])) ++ behind ≡ taken ++ (lost ++ ((line ++ 10 ∷ []) ++ behind)) = simp append_assoc refl in
    same ∙ ap (λ l. taken ++ (lost ++ l)) parts

-- there was no memory to begin with
pub serves_none : (server : ServerData) (input output : Option (List ℕ)) (e : ToolFault) → e ≡ faults.Memory → Serves server input input output output (Some e)
unfolding replies_so_far cut
serves_none server input output e is = subst (λ f. Serves server input input output output (Some f)) (sym is) record {
  taken = [];
  sent = [];
  takes = Consumes-nil input;
  writes = Appends-nil output;
  served = (([], ([], refl), replies_none server), if_some_always input _ (λ octets. (replies_to_all server octets, refl)));
}

module _ (server here : ServerData) (input now output written : Option (List ℕ)) (rest ready : List ℕ) (seen : ℕ) (is_cut : Bool) (taken lost gone : List ℕ) (lines : List (List ℕ)) (rounds : ℕ)
    (go : Serving server here input now output written rest ready seen is_cut taken lost gone lines rounds) where
  -- a writer fails after what was done with the next line
  pub ends_writing : (here' : ServerData) (octets ready' ready'' : List ℕ) (next : FirstLine) (written' : Option (List ℕ)) (e : ToolFault) → octets ≡ rest
      → AnswersNext here here' is_cut octets ready ready' (Ok next) → WritesReady written written' next ready' ready'' (Err e) → Serves server input now output written' (Some e)
  ends_writing here' octets ready' ready'' (line_is.Answered count) written' e same a w =
      let (line, others, begins, counts, says, is) = a in
      ends_cut server here' input now output written (drop count rest) ready' 0 false (taken ++ ((lost ++ line) ++ 10 ∷ [])) [] gone (lines ++ (lost ++ line) ∷ []) (rounds + 1)
      (answered server here input now output written rest ready seen is_cut taken lost gone lines rounds go here' line others ready' count (sym same ∙ begins.stands) begins.one counts says is)
      written' w.1 w.2 e w.0 w.3 w.4
  ends_writing here' octets ready' ready'' line_is.Open written' e same a w =
      ends_cut server here input now output written rest ready seen is_cut taken lost gone lines rounds go written' w.1 w.2 e w.0 w.3 (w.4 ∙ a.2)
  ends_writing here' octets ready' ready'' line_is.TooLong written' e same a w = elim a [ ]
  ends_writing here' octets ready' ready'' line_is.Bad written' e same a w = elim a [ ]

  -- the next line is answered, and what is ready may be written
  pub goes_on : (here' : ServerData) (octets ready' ready'' : List ℕ) (next : FirstLine) (count : ℕ) (written' : Option (List ℕ)) → octets ≡ rest → next ≡ line_is.Answered count
      → AnswersNext here here' is_cut octets ready ready' (Ok next) → WritesReady written written' next ready' ready'' (Ok tt)
      → (taken' : List ℕ) × (lost' : List ℕ) × (gone' : List ℕ) × (lines' : List (List ℕ)) × Serving server here' input now output written' (drop count rest) ready'' 0 false taken' lost' gone' lines' (rounds + 1)
      × (taken' ++ (lost' ++ drop count rest) ≡ taken ++ (lost ++ rest)) × (gone' ++ ready'' ≡ gone ++ ready')
  goes_on here' octets ready' ready'' next count written' same which answers writes =
      let a = subst (λ n. AnswersNext here here' is_cut octets ready ready' (Ok n)) which answers in
      let w = subst (λ n. WritesReady written written' n ready' ready'' (Ok tt)) which writes in
      let (line, others, begins, counts, says, is) = a in (
        taken ++ ((lost ++ line) ++ 10 ∷ []),
        [],
        gone ++ w.0,
        lines ++ (lost ++ line) ∷ [],
        wrote server here' input now output written (drop count rest) ready' 0 false (taken ++ ((lost ++ line) ++ 10 ∷ [])) [] gone (lines ++ (lost ++ line) ∷ []) (rounds + 1)
            (answered server here input now output written rest ready seen is_cut taken lost gone lines rounds go here' line others ready' count (sym same ∙ begins.stands) begins.one counts says is)
            written' w.0 ready'' w.1 w.2,
        line_behind taken lost rest line others count (sym same ∙ begins.stands) counts,
        append_assoc gone w.0 ready'' ∙ ap (λ l. gone ++ l) w.2,
      )

  -- no line ends here: what is ready is written, and too much of one line is passed over
  pub paused : (here' : ServerData) (octets ready' ready'' rest' : List ℕ) (next : FirstLine) (written' : Option (List ℕ)) (is_cut' : Bool) → octets ≡ rest → ((count : ℕ) → next ≢ line_is.Answered count)
      → AnswersNext here here' is_cut octets ready ready' (Ok next) → WritesReady written written' next ready' ready'' (Ok tt) → PassesCut rest rest' is_cut is_cut'
      → (lost' : List ℕ) × (gone' : List ℕ) × Serving server here' input now output written' rest' ready'' (length rest') is_cut' taken lost' gone' lines rounds × IsOneLine rest' × (ready'' ≡ [])
      × (lost' ++ rest' ≡ lost ++ rest) × (gone' ++ ready'' ≡ gone ++ ready')
  paused here' octets ready' ready'' rest' (line_is.Answered count) written' is_cut' same other a w p = absurd (other count refl)
  paused here' octets ready' ready'' rest' line_is.Open written' is_cut' same other a w p =
      let stopped = wrote server here input now output written rest ready seen is_cut taken lost gone lines rounds go written' w.0 ready'' w.1 (w.2 ∙ a.2) in
      let one : IsOneLine rest = subst IsOneLine same a.0 in
      let (lost', on, one', all) = passed server here input now output written' rest ready'' seen is_cut taken lost (gone ++ w.0) lines rounds stopped rest' is_cut' one p in
      (lost', gone ++ w.0, subst (λ s. Serving server s input now output written' rest' ready'' (length rest') is_cut' taken lost' (gone ++ w.0) lines rounds) (sym a.1) on, one', w.3, all, append_assoc gone w.0 ready'' ∙ ap (λ l. gone ++ l) w.2)
  paused here' octets ready' ready'' rest' line_is.TooLong written' is_cut' same other a w p = elim a [ ]
  paused here' octets ready' ready'' rest' line_is.Bad written' is_cut' same other a w p = elim a [ ]
