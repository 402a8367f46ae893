-- A sign that is served, from its first line on.
use Rattle.std.proofs.Common.{◌≡◌, ◌≢◌, inl, inr, ℕ, ◌+◌, ◌*◌, ◌^◌, ◌<◌, ◌≤◌, Bool, true, false, List, [], ◌∷◌, ◌++◌, Option, None, Some, IfSome, Result, Ok, Err, length, take, drop, refl, sym, ap, ◌∙◌, subst, arith, append_assoc, append-nil, take-append-drop}
use Rattle.std.proofs.lemmas.List.{length-append, length-drop, take_all, take_at}
use Rattle.std.proofs.lemmas.List.Elements.{All-append, All-nil}
use Rattle.std.specs.Io.KnownBytes.{Appends, Consumes, IsAtEnd, prepend_known}
use Rattle.std.proofs.KnownBytes.{Appends-nil, Appends-trans, Consumes-kept, Consumes-trans, Consumes-whole}
use Rattle.tool_streams.specs.declared.fault.ToolFault.{ToolFault}
use Rattle.tool_streams.specs.declared.fault.ToolFault.TheVariants as faults
use Rattle.tool_streams.specs.Lines.{IsOneLine, cut}
use Rattle.tool_streams.specs.Blocks.{ReadsMore}
use Rattle.sign_tool.specs.internal.Blocks.{EndsRefused}
use Rattle.sign_tool.specs.Runs.{IsFront, fault_of}
use Rattle.sign_tool.specs.Serving.{EndsServed, PassesCut, ServerData, Serves, last_line, last_reply, replies_so_far, replies_to, replies_to_all, told_cut}
use Rattle.tool_streams.proofs.BlockLemmas.{passes_front, reads_behind, taken_held, takes_nothing}
use Rattle.sign_tool.proofs.CutLemmas.{AreLines-more, octets_of-more}
use Rattle.sign_tool.proofs.RunLemmas.{told}
use Rattle.sign_tool.proofs.ServedLemmas.{Given, IsLost, cut_line_told, last_told, replies_go_on, replies_more, so_far, whole}

-- a run so far: `lost` was passed over of the line that `rest` goes on with, which was read and isn't answered; `ready` isn't written
pub record Serving (server here : ServerData) (input now output written : Option (List ℕ)) (rest ready : List ℕ) (seen : ℕ) (is_cut : Bool) (taken lost gone : List ℕ) (lines : List (List ℕ)) (rounds : ℕ) : Type 0 where
  pub takes : Consumes input (prepend_known rest now) (taken ++ lost)
  pub writes : Appends output written gone
  pub one : IsOneLine lost
  pub is_lost : IsLost is_cut lost
  pub looked : seen ≤ length rest
  pub none : IsOneLine (take seen rest)
  pub given : Given server here taken (gone ++ ready) lines
  pub counted : rounds ≤ 2 * length taken + length lost + length rest

-- a run begins with no octets
pub begins : (server : ServerData) (input output : Option (List ℕ)) (rest ready : List ℕ) → rest ≡ [] → ready ≡ []
    → Serving server server input input output output rest ready 0 false [] [] [] [] 0
begins server input output rest ready is empty =
    subst (λ l. Serving server server input input output output l ready 0 false [] [] [] [] 0) (sym is)
    (subst (λ l. Serving server server input input output output [] l 0 false [] [] [] [] 0) (sym empty) record {
      takes = takes_nothing input;
      writes = Appends-nil output;
      one = All-nil (λ c. c ≢ 10);
      is_lost = refl;
      looked = omega arith;
      none = All-nil (λ c. c ≢ 10);
      given = record { taken_is = refl; each = tt; says = λ more. refl };
      counted = omega arith;
    })

no_octets : (l : List ℕ) → length l ≡ 0 → l ≡ []
no_octets [] h = refl
no_octets (c ∷ cs) h = absurd (omega (arith, h))

module _ (server here : ServerData) (input now output written : Option (List ℕ)) (rest ready : List ℕ) (seen : ℕ) (is_cut : Bool) (taken lost gone : List ℕ) (lines : List (List ℕ)) (rounds : ℕ)
    (go : Serving server here input now output written rest ready seen is_cut taken lost gone lines rounds) where
  -- some of what is ready is written
  pub wrote : (written' : Option (List ℕ)) (sent ready' : List ℕ) → Appends written written' sent → sent ++ ready' ≡ ready
      → Serving server here input now output written' rest ready' seen is_cut taken lost (gone ++ sent) lines rounds
  wrote written' sent ready' appended is = record {
    takes = go.takes;
    writes = Appends-trans output written written' gone sent go.writes appended;
    one = go.one;
    is_lost = go.is_lost;
    looked = go.looked;
    none = go.none;
    given = subst (λ l. Given server here taken l lines) (ap (λ l. gone ++ l) (sym is) ∙ sym (append_assoc gone sent ready')) go.given;
    counted = go.counted;
  }

  -- all octets that were read
  all_taken : Consumes input now (taken ++ (lost ++ rest))
  all_taken = subst (Consumes input now) (append_assoc taken lost rest) (taken_held input now (taken ++ lost) rest go.takes)

  -- what was written is a front of the replies, whatever comes
  front_of : (part unsent : List ℕ) → part ++ unsent ≡ ready → (ys : List ℕ) → IsFront (gone ++ part) (replies_to_all server ((taken ++ (lost ++ rest)) ++ ys))
  front_of part unsent all ys =
      let behind = (lost ++ rest) ++ ys in
      let others = replies_to here ((cut behind).whole ++ last_line (cut behind).rest) in (
        unsent ++ others,
        ap (replies_to_all server) (append_assoc taken (lost ++ rest) ys) ∙ replies_go_on server here taken (gone ++ ready) lines go.given behind
            ∙ (let regrouped : (gone ++ ready) ++ others ≡ (gone ++ part) ++ (unsent ++ others) = rw (← all) (simp append_assoc refl) in regrouped),
      )

  front : (part unsent : List ℕ) → part ++ unsent ≡ ready → IfSome input (λ octets. IsFront (gone ++ part) (replies_to_all server octets))
  front part unsent all = told input now (taken ++ (lost ++ rest)) (λ octets. IsFront (gone ++ part) (replies_to_all server octets)) all_taken (front_of part unsent all)

  -- not all of what is ready is written
  pub ends_cut : (written' : Option (List ℕ)) (part unsent : List ℕ) (e : ToolFault) → e ≡ faults.Write → Appends written written' part → part ++ unsent ≡ ready
      → Serves server input now output written' (Some e)
  ends_cut written' part unsent e is appended all =
      subst (λ f. Serves server input now output written' (Some f)) (sym is) record {
        taken = taken ++ (lost ++ rest);
        sent = gone ++ part;
        takes = all_taken;
        writes = Appends-trans output written written' gone part go.writes appended;
        served = front part unsent all;
      }

  -- there is no memory for a reply
  pub ends_refused : (written' : Option (List ℕ)) (e : ToolFault) → EndsRefused written written' ready e → Serves server input now output written' (Some e)
  ends_refused written' e ends = elim ends [
    | inl all ↦ subst (λ f. Serves server input now output written' (Some f)) (sym all.0) record {
      taken = taken ++ (lost ++ rest);
      sent = gone ++ ready;
      takes = all_taken;
      writes = Appends-trans output written written' gone ready go.writes all.1;
      served = (
        (taken, (lost ++ rest, refl), ap (replies_so_far server) (sym (append-nil taken)) ∙ so_far server here taken (gone ++ ready) lines go.given [] (All-nil (λ c. c ≢ 10))),
        front ready [] (append-nil ready),
      );
    }
    | inr cut ↦ ends_cut written' cut.1 cut.2 e cut.0 cut.3 cut.4
  ]

  -- the rounds are over
  pub ends_long : 2 ^ 64 ≤ rounds + 1 → Serves server input now output written (Some faults.InputTooLong)
  ends_long over = record {
    taken = taken ++ (lost ++ rest);
    sent = gone;
    takes = all_taken;
    writes = go.writes;
    served = (
      omega (arith, over, go.counted, length-append taken (lost ++ rest), length-append lost rest),
      subst (λ l. IfSome input (λ octets. IsFront l (replies_to_all server octets))) (append-nil gone) (front [] ready refl),
    );
  }

  -- no reply to a whole line waits
  pub caught_up : IsOneLine rest → ready ≡ [] → replies_so_far server (taken ++ (lost ++ rest)) ≡ gone
  caught_up one empty =
      so_far server here taken (gone ++ ready) lines go.given (lost ++ rest) (All-append (λ c. c ≢ 10) lost rest go.one one)
      ∙ ap (λ l. gone ++ l) empty ∙ append-nil gone

  -- the reader fails
  ends_failed : IsOneLine rest → ready ≡ [] → Serves server input now output written (Some faults.Read)
  ends_failed one empty = record {
    taken = taken ++ (lost ++ rest);
    sent = gone;
    takes = all_taken;
    writes = go.writes;
    served = caught_up one empty;
  }

  -- the first line is answered
  pub answered : (here' : ServerData) (line others ready' : List ℕ) (count : ℕ) → rest ≡ line ++ 10 ∷ others → IsOneLine line → count ≡ length line + 1
      → ready' ≡ ready ++ (told_cut here is_cut line).text → here' ≡ record { sign = here.sign; state = (told_cut here is_cut line).state }
      → Serving server here' input now output written (drop count rest) ready' 0 false (taken ++ ((lost ++ line) ++ 10 ∷ [])) [] gone (lines ++ (lost ++ line) ∷ []) (rounds + 1)
  answered here' line others ready' count stands one counts says is =
      let size : length (line ++ 10 ∷ []) ≡ count = omega (arith, counts, length-append line (10 ∷ [])) in
      let regrouped : rest ≡ (line ++ 10 ∷ []) ++ others = stands ∙ sym (append_assoc line (10 ∷ []) others) in
      let first_part : take count rest ≡ line ++ 10 ∷ [] = ap (take count) regrouped ∙ take_at (line ++ 10 ∷ []) others count size in
      let parts : rest ≡ (line ++ 10 ∷ []) ++ drop count rest = sym (take-append-drop count rest) ∙ ap (λ l. l ++ drop count rest) first_part in
      let whole_line : (taken ++ lost) ++ (line ++ 10 ∷ []) ≡ taken ++ ((lost ++ line) ++ 10 ∷ []) = simp append_assoc refl in
      let told_is = cut_line_told here is_cut lost line go.is_lost in
      let line_one : IsOneLine (lost ++ line) = All-append (λ c. c ≢ 10) lost line go.one one in
      record {
        takes = subst (Consumes input (prepend_known (drop count rest) now)) (whole_line ∙ sym (append-nil _)) (passes_front input now rest (line ++ 10 ∷ []) (drop count rest) (taken ++ lost) parts go.takes);
        writes = go.writes;
        one = All-nil (λ c. c ≢ 10);
        is_lost = refl;
        looked = omega arith;
        none = All-nil (λ c. c ≢ 10);
        given = record {
          taken_is = ap (λ l. l ++ ((lost ++ line) ++ 10 ∷ [])) go.given.taken_is ∙ sym (octets_of-more lines (lost ++ line));
          each = AreLines-more lines (lost ++ line) go.given.each line_one;
          says = λ more.
              ap (replies_to server) (append_assoc lines ((lost ++ line) ∷ []) more) ∙ go.given.says ((lost ++ line) ∷ more)
              ∙ ap (λ l. (gone ++ ready) ++ l) (replies_more here (lost ++ line) more)
              ∙ (rw (is, says, told_is) (simp append_assoc refl));
        };
        counted = omega (arith, go.counted, counts, length-append taken ((lost ++ line) ++ 10 ∷ []), length-append (lost ++ line) (10 ∷ []), length-append lost line, length-drop count rest, ap length stands, length-append line (10 ∷ others));
      }

  -- no line ends here, and too much of one is passed over
  pub passed : (rest' : List ℕ) (is_cut' : Bool) → IsOneLine rest → PassesCut rest rest' is_cut is_cut'
      → (lost' : List ℕ) × Serving server here input now output written rest' ready (length rest') is_cut' taken lost' gone lines rounds × IsOneLine rest' × (lost' ++ rest' ≡ lost ++ rest)
  passed rest' true one p =
      let long : 8301 < length (lost ++ rest) = elim p.1 [
        | inl cut ↦ omega (arith, length-append lost rest, subst (λ b. IsLost b lost) cut go.is_lost)
        | inr over ↦ omega (arith, length-append lost rest, over)
      ] in (
        lost ++ rest,
        record {
          takes = subst (λ l. Consumes input (prepend_known l now) (taken ++ (lost ++ rest))) (sym p.0)
              (subst (Consumes input (prepend_known [] now)) (append_assoc taken lost rest) (passes_front input now rest rest [] (taken ++ lost) (sym (append-nil rest)) go.takes));
          writes = go.writes;
          one = All-append (λ c. c ≢ 10) lost rest go.one one;
          is_lost = long;
          looked = omega arith;
          none = subst (λ l. IsOneLine (take (length l) l)) (sym p.0) (All-nil (λ c. c ≢ 10));
          given = go.given;
          counted = omega (arith, go.counted, length-append lost rest);
        },
        subst IsOneLine (sym p.0) (All-nil (λ c. c ≢ 10)),
        ap (λ l. (lost ++ rest) ++ l) p.0 ∙ append-nil (lost ++ rest),
      )
  passed rest' false one p =
      let same = p.0 in (
        lost,
        record {
          takes = subst (λ l. Consumes input (prepend_known l now) (taken ++ lost)) (sym same) go.takes;
          writes = go.writes;
          one = go.one;
          is_lost = subst (λ b. IsLost b lost) p.1 go.is_lost;
          looked = omega arith;
          none = subst IsOneLine (sym (take_all (length rest') rest' (omega arith))) (subst IsOneLine (sym same) one);
          given = go.given;
          counted = omega (arith, go.counted, ap length same);
        },
        subst IsOneLine (sym same) one,
        ap (λ l. lost ++ l) same,
      )

  -- more is read
  pub read_more : (new : Option (List ℕ)) (rest' : List ℕ) (most count : ℕ) → seen ≡ length rest → IsOneLine rest → ReadsMore now new rest rest' most (Ok count) → 0 < count
      → Serving server here input new output written rest' ready seen is_cut taken lost gone lines (rounds + 1)
  read_more new rest' most count is one r some =
      let (more, took, grown, size, few, end) = r in
      let front_is : take seen rest' ≡ rest = ap (take seen) grown ∙ take_at rest more seen (sym is) in
      record {
        takes = subst (λ l. Consumes input (prepend_known l new) (taken ++ lost)) (sym grown) (reads_behind input now new rest more (taken ++ lost) took go.takes);
        writes = go.writes;
        one = go.one;
        is_lost = go.is_lost;
        looked = omega (arith, is, ap length grown, length-append rest more);
        none = subst IsOneLine (sym front_is) one;
        given = go.given;
        counted = omega (arith, go.counted, some, size, ap length grown, length-append rest more);
      }

  -- the reader fails, and takes nothing
  pub ends_failed_read : (new : Option (List ℕ)) (rest' : List ℕ) (most : ℕ) (e : ToolFault) → IsOneLine rest → ready ≡ [] → ReadsMore now new rest rest' most (Err e)
      → Serves server input new output written (Some e)
  ends_failed_read new rest' most e one empty r =
      subst (λ f. Serves server input new output written (Some f)) (sym r.0)
      (let s = ends_failed one empty in record {
        taken = s.taken;
        sent = s.sent;
        takes = Consumes-kept input now new s.taken s.takes r.1;
        writes = s.writes;
        served = s.served;
      })

  -- the input is at its end, and so all of it is known
  module _ (new : Option (List ℕ)) (one : IsOneLine rest) (took : Consumes now new []) (end : IsAtEnd new) where
    abbrev last : List ℕ
    last = last_reply here is_cut rest

    all_read : Consumes input new (taken ++ (lost ++ rest))
    all_read = subst (Consumes input new) (append-nil (taken ++ (lost ++ rest))) (Consumes-trans input now new (taken ++ (lost ++ rest)) [] all_taken took)

    pub replies_are : replies_to_all server (taken ++ (lost ++ rest)) ≡ (gone ++ ready) ++ last
    replies_are =
        whole server here taken (gone ++ ready) lines go.given (lost ++ rest) (All-append (λ c. c ≢ 10) lost rest go.one one)
        ∙ ap (λ l. (gone ++ ready) ++ l) (last_told here is_cut lost rest go.is_lost)

    ends_well : (written' : Option (List ℕ)) → Appends written written' (ready ++ last) → Serves server input new output written' None
    ends_well written' appended = record {
      taken = taken ++ (lost ++ rest);
      sent = gone ++ (ready ++ last);
      takes = all_read;
      writes = Appends-trans output written written' gone (ready ++ last) go.writes appended;
      served = Consumes-whole input new (taken ++ (lost ++ rest)) (λ octets. replies_to_all server octets ≡ gone ++ (ready ++ last)) all_read end
          (replies_are ∙ append_assoc gone ready last);
    }

    ends_unwritten : (written' : Option (List ℕ)) (part unsent : List ℕ) → Appends written written' part → part ++ unsent ≡ ready ++ last → Serves server input new output written' (Some faults.Write)
    ends_unwritten written' part unsent appended all = record {
      taken = taken ++ (lost ++ rest);
      sent = gone ++ part;
      takes = all_read;
      writes = Appends-trans output written written' gone part go.writes appended;
      served = Consumes-whole input new (taken ++ (lost ++ rest)) (λ octets. IsFront (gone ++ part) (replies_to_all server octets)) all_read end
          (unsent, replies_are ∙ append_assoc gone ready last ∙ ap (λ l. gone ++ l) (sym all) ∙ sym (append_assoc gone part unsent));
    }

    ends_without : (written' : Option (List ℕ)) → Appends written written' ready → Serves server input new output written' (Some faults.Memory)
    ends_without written' appended = record {
      taken = taken ++ (lost ++ rest);
      sent = gone ++ ready;
      takes = all_read;
      writes = Appends-trans output written written' gone ready go.writes appended;
      served = (
        (taken, (lost ++ rest, refl), ap (replies_so_far server) (sym (append-nil taken)) ∙ so_far server here taken (gone ++ ready) lines go.given [] (All-nil (λ c. c ≢ 10))),
        front ready [] (append-nil ready),
      );
    }

    pub ends_at_end : (written' : Option (List ℕ)) (result : Result (Unit {0}) ToolFault) → EndsServed here is_cut rest ready written written' result
        → Serves server input new output written' (fault_of result)
    ends_at_end written' (Ok done) ends = ends_well written' ends
    ends_at_end written' (Err e) ends = elim ends [
      | inl none ↦ subst (λ f. Serves server input new output written' (Some f)) (sym none.0) (ends_without written' none.1)
      | inr cut ↦ subst (λ f. Serves server input new output written' (Some f)) (sym cut.0) (ends_unwritten written' cut.1 cut.2 cut.3 cut.4)
    ]

  -- a read takes nothing only at the end
  pub read_nothing : (new : Option (List ℕ)) (rest' : List ℕ) (most count : ℕ) → ReadsMore now new rest rest' most (Ok count) → count ≡ 0
      → Consumes now new [] × IsAtEnd new × (rest' ≡ rest)
  read_nothing new rest' most count r zero =
      let (more, took, grown, size, few, end) = r in
      let nothing : more ≡ [] = no_octets more (omega (arith, size, zero)) in
      (subst (Consumes now new) nothing took, end zero, grown ∙ ap (λ l. rest ++ l) nothing ∙ append-nil rest)
