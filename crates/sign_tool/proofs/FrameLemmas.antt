-- Frames of what is shown.
use Rattle.std.proofs.Common.{◌≡◌, ℕ, ◌≤◌, List, ◌++◌, length, refl, sym, ap, ◌∙◌, append_assoc}
use Rattle.page_plane.specs.Plane.{BitPlane, is_lit}
use Rattle.sign_font.specs.Sign.{SignData}
use Rattle.multi_meaning.specs.declared.times.Shown.{Shown}
use Rattle.multi_meaning.specs.Picture.{Lights, pixel_at}
use Rattle.multi_meaning.specs.Meaning.{meanings}
use Rattle.multi_meaning.specs.Times.{shown}
use Rattle.multi_meaning.specs.Verdict.{Accepted, IsVerdict}
use Rattle.multi_layout.specs.Pages.{IsSized}
use Rattle.page_picture.proofs.RowLemmas.{marked_same}
use Rattle.sign_tool.specs.Frame.{frame_rows, frame_text, head_text, show_answer}
use Rattle.sign_tool.proofs.ReplyLemmas.{answer_accepted}

-- the head and the rows of a plane that shows what is shown are a frame
pub frame_of : (old now : List ℕ) (sign : SignData) (octets : List ℕ) (clock colour : ℕ) (s : Shown) (plane : BitPlane)
    → s ≡ shown sign octets clock → Lights plane (pixel_at sign (meanings octets) s colour) → IsSized plane sign → now ≡ old ++ head_text s
    → now ++ frame_rows (is_lit plane) plane.width plane.height ≡ old ++ frame_text sign octets colour (shown sign octets clock)
frame_of old now sign octets clock colour s plane is shows sized written =
    let pixels = pixel_at sign (meanings octets) s colour in
    let rows : frame_rows (is_lit plane) plane.width plane.height ≡ frame_rows pixels sign.width sign.height =
    marked_same 35 (is_lit plane) pixels plane.width plane.height shows
    ∙ ap (λ w. frame_rows pixels w plane.height) sized.0
    ∙ ap (frame_rows pixels sign.width) sized.1 in
    ap (λ l. l ++ frame_rows (is_lit plane) plane.width plane.height) written
    ∙ append_assoc old (head_text s) (frame_rows (is_lit plane) plane.width plane.height)
    ∙ ap (λ l. old ++ (head_text s ++ l)) rows
    ∙ ap (λ x. old ++ frame_text sign octets colour x) is

-- what a sign shows of an octet list is what an equal one shows of an equal list
same_frame : (judge sign : SignData) (octets line : List ℕ) (colour clock : ℕ) → judge ≡ sign → octets ≡ line
    → frame_text judge octets colour (shown judge octets clock) ≡ frame_text sign line colour (shown sign line clock)
same_frame judge sign octets line colour clock same_sign same_octets =
    ap (λ (s : SignData). frame_text s octets colour (shown s octets clock)) same_sign
    ∙ ap (λ l. frame_text sign l colour (shown sign l clock)) same_octets

-- the frame of an accepted string answers its line
pub answer_of_frame : (old : List ℕ) (sign judge : SignData) (line octets : List ℕ) (pages colour clock : ℕ) → length line ≤ 4096 → judge ≡ sign → octets ≡ line → IsVerdict sign octets (Accepted pages)
    → old ++ frame_text judge octets colour (shown judge octets clock) ≡ old ++ show_answer sign colour clock line
answer_of_frame old sign judge line octets pages colour clock short same_sign same_octets is =
    let text = frame_text sign line colour (shown sign line clock) in
    let answer : show_answer sign colour clock line ≡ text = answer_accepted (λ pages. text) sign line sign octets pages short refl same_octets is in
    ap (λ l. old ++ l) (same_frame judge sign octets line colour clock same_sign same_octets ∙ sym answer)
