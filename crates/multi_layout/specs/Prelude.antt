-- The words of this crate's contracts that aren't std's, each from where it is defined.
pub use Rattle.std.specs.Borrow.{sem}
pub use Rattle.multi_token.specs.Counted.{RisesBetween, charged}
pub use Rattle.multi_token.specs.Spelling.{is_bracket}
pub use Rattle.multi_tag.specs.Closed.{HasNoTagAt}
pub use Rattle.multi_tag.specs.Just.{page_number}
pub use Rattle.multi_tag.specs.declared.just.LineJust.TheVariants.{Full}
pub use Rattle.sign_font.specs.Sound.{IsSound, IsSoundSize}
pub use Rattle.sign_font.specs.Defaults.{default_fault, under}
pub use Rattle.sign_font.specs.Sign.{FontData, SignData}
pub use Rattle.page_plane.specs.Plane.{BitPlane}
pub use Rattle.multi_meaning.specs.Codes.{code_of}
pub use Rattle.multi_meaning.specs.Picture.{Lights, picture, is_lit_at, shown_colour, pixel_at}
pub use Rattle.multi_meaning.specs.Meaning.{Meaning, begins_area, meanings}
pub use Rattle.multi_meaning.specs.internal.Bounds.{has_place}
pub use Rattle.multi_meaning.specs.internal.Fine.{unsized_offence}
pub use Rattle.multi_meaning.specs.internal.ItemAt.{IsFaultRead, IsItemAt, IsBracketedRead}
pub use Rattle.multi_meaning.specs.Steps.{judging_steps, looks}
pub use Rattle.multi_meaning.specs.Times.{shown}
pub use Rattle.multi_meaning.specs.Verdict.{Accepted, IsVerdict, IsCycle, Refused}
pub use Rattle.multi_judge.specs.internal.KnownItem.{meant_by, IsOctet}
pub use Rattle.multi_judge.specs.internal.Passed.{next_group}
pub use Rattle.multi_judge.specs.internal.PassState.{fill_of, IsPassOf}
pub use Rattle.multi_judge.specs.internal.Run.{IsBehindCharacter}
pub use Rattle.multi_judge.specs.internal.State.{IsReady, IsStateOf, IsLimited}
pub use Rattle.multi_judge.specs.internal.Table.{group_lines}
pub use Rattle.multi_judge.specs.declared.item.KnownItem.TheVariants.{Char}
pub use Rattle.multi_judge.specs.internal.Judging.{IsAt}
pub use Rattle.multi_layout.specs.Pages.{IsDrawnFew, IsReadFew, IsSized, TakesFew, page_count, ShowsAt, IsUnderWay, PagesState, pages_state}
pub use Rattle.multi_layout.specs.declared.paint.Layer.{Layer}
pub use Rattle.multi_layout.specs.internal.AreaDrawing.{IsPageDrawn, HasCounted, IsAreaDrawn, IsFilledBy, whole_area, IsCountedBy, ReadsArea}
pub use Rattle.multi_layout.specs.internal.AreaReading.{EndsGroup, IsNextRead, IsReadOf, KnowsArea, KnowsOn, ReadsOn, next_steps}
pub use Rattle.multi_layout.specs.internal.Cursors.{PassesTag, IsBetween, IsItemRead, IsRead, IsWithin, LaidItem}
pub use Rattle.multi_layout.specs.internal.PageDrawing.{IsFilledFew, IsPagePassed, IsPageStart, IsReadTwice, IsStartOf}
pub use Rattle.multi_layout.specs.internal.Passing.{IsAtPage, IsAtStart, IsPageSkipped, IsRestRead, IsTurnAt}
pub use Rattle.multi_layout.specs.internal.RunDrawing.{DrawsNext, IsNextDrawn, DrawsCharacter}
pub use Rattle.multi_layout.specs.Limits.{check_limit, reading_limit, drawing_limit}
pub use Rattle.multi_layout.specs.NextPage.{IsNextPage, IsReadOn}
pub use Rattle.multi_layout.specs.internal.Told.{IsToldOf, IsRefused, IsTold}
pub use Rattle.multi_layout.specs.CheckedData.{CheckedData}
pub use Rattle.multi_layout.specs.internal.Bracketed.{JudgesAhead, JudgesBracketed, JudgesRead}
pub use Rattle.multi_judge.specs.internal.PassState.{IsPassReady}
pub use Rattle.sign_font.specs.Text.{AreWidthsOf}
