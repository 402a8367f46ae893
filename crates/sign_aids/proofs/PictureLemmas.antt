-- A message as a picture.
use Rattle.std.proofs.Common.{◌≡◌, ℕ, ◌+◌, ◌<◌, ◌≤◌, List, [], ◌∷◌, ◌++◌, length, Option, append_assoc, append-nil, refl, sym, ap, ◌∙◌, subst, arith}
use Rattle.std.specs.Io.KnownBytes.{Consumes}
use Rattle.std.proofs.KnownBytes.{Consumes-trans}
use Rattle.std.proofs.lemmas.List.{length-append}
use Rattle.sign_font.specs.Sign.{SignData}
use Rattle.multi_meaning.specs.Verdict.{Accepted, IsVerdict, Verdict, verdict}
use Rattle.multi_meaning.proofs.VerdictLemmas.{one_verdict}
use Rattle.message_picture.specs.declared.draw.DrawFault.{DrawFault}
use Rattle.message_picture.specs.declared.draw.DrawFault.TheVariants as draws
use Rattle.message_picture.specs.declared.view.View.{View}
use Rattle.message_picture.specs.Drawn as drawing
use Rattle.message_picture.specs.Drawn.{IsDrawn}
use Rattle.tool_streams.specs.declared.fault.ToolFault.{ToolFault}
use Rattle.tool_streams.specs.declared.lines.LineStart.{LineStart}
use Rattle.sign_aids.specs.declared.picture.PictureFault.TheVariants as faults
use Rattle.tool_streams.specs.Lines.{IsOneLine, octets_of}
use Rattle.sign_aids.specs.Pictures.{DrawsMessage, IsFaultOf, IsNoMessage, picture_fault}
use Rattle.tool_streams.specs.Streams.{IsLineFault}

-- the one verdict on octets is that on equal ones
pub verdict_is : (sign : SignData) (line octets : List ℕ) (v : Verdict) → octets ≡ line → IsVerdict sign octets v → verdict sign line ≡ v
verdict_is sign line octets v same is = sym ((one_verdict sign line v).0 (subst (λ l. IsVerdict sign l v) same is))

-- and so is that of an equal sign
pub verdict_by : (sign judge : SignData) (octets line : List ℕ) (v : Verdict) → judge ≡ sign → octets ≡ line → IsVerdict judge octets v → verdict sign line ≡ v
verdict_by sign judge octets line v same_sign same is = verdict_is sign line octets v same (subst (λ (s : SignData). IsVerdict s octets v) same_sign is)

-- the file of a message that is accepted
pub picture_of : (side : ℕ) (sign judge : SignData) (octets line : List ℕ) (pages : ℕ) (view : View) (file : List ℕ) → judge ≡ sign → octets ≡ line → length line ≤ 4096
    → IsVerdict judge octets (Accepted pages) → IsDrawn side sign line view file → DrawsMessage side sign line view file
picture_of side sign judge octets line pages view file same_sign same short is drawn = record {
  short = short;
  pages = pages;
  accepted = verdict_by sign judge octets line (Accepted pages) same_sign same is;
  drawn = drawn;
}

-- why there is none
pub no_picture : (side : ℕ) (sign judge : SignData) (octets line : List ℕ) (pages : ℕ) (view : View) (why : DrawFault) → judge ≡ sign → octets ≡ line
    → IsVerdict judge octets (Accepted pages) → drawing.IsUndrawn side sign line view why → IsFaultOf side sign line view (picture_fault why)
no_picture side sign judge octets line pages view draws.Memory same_sign same is undrawn =
    (pages, verdict_by sign judge octets line (Accepted pages) same_sign same is, (draws.Memory, refl, undrawn))
no_picture side sign judge octets line pages view (draws.NoPage count) same_sign same is undrawn =
    (pages, verdict_by sign judge octets line (Accepted pages) same_sign same is, (draws.NoPage count, refl, undrawn))
no_picture side sign judge octets line pages view (draws.TooLarge tenths) same_sign same is undrawn =
    (pages, verdict_by sign judge octets line (Accepted pages) same_sign same is, (draws.TooLarge tenths, refl, undrawn))
no_picture side sign judge octets line pages view (draws.TooLong tenths) same_sign same is undrawn =
    (pages, verdict_by sign judge octets line (Accepted pages) same_sign same is, (draws.TooLong tenths, refl, undrawn))

-- ---- what stands after the sign

-- the first line has a fault
pub first_fault : (place : LineStart) (input input' : Option (List ℕ)) (more : List ℕ) (e : ToolFault) → Consumes input input' more → IsLineFault place.number place.left more input' e
    → IsNoMessage place input input' (faults.Tool e)
first_fault place input input' more e reads is =
    let number : place.number ≡ place.number + 0 = omega arith in
    ([], more, place.left, reads, omega arith, subst (λ n. IsLineFault n place.left more input' e) number is)

-- the second line has one
pub second_fault : (place : LineStart) (left : ℕ) (input between input' : Option (List ℕ)) (line more : List ℕ) (e : ToolFault) → Consumes input between (line ++ 10 ∷ []) → length line + 1 + left ≡ place.left
    → Consumes between input' more → IsLineFault (place.number + 1) left more input' e → IsNoMessage place input input' (faults.Tool e)
second_fault place left input between input' line more e first room reads is =
    let one : octets_of (line ∷ []) ≡ line ++ 10 ∷ [] = append-nil (line ++ 10 ∷ []) in
    let count = ap length one ∙ length-append line (10 ∷ []) in
    (line ∷ [], more, left, Consumes-trans input between input' (octets_of (line ∷ [])) more (subst (Consumes input between) (sym one) first) reads, omega (arith, count, room), is)

-- a second line begins
pub second_line : (place : LineStart) (input between input' : Option (List ℕ)) (line more : List ℕ) → Consumes input between (line ++ 10 ∷ []) → IsOneLine line → Consumes between input' more → 0 < length more
    → IsNoMessage place input input' (faults.SecondMessage (place.number + 1))
second_line place input between input' line more first one reads some =
    (refl, (line, more, subst (Consumes input input') (append_assoc line (10 ∷ []) more) (Consumes-trans input between input' (line ++ 10 ∷ []) more first reads), one, some))
