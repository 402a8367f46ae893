-- The words of this crate's contracts that aren't std's, each from where it is defined.
pub use Rattle.std.specs.List.{All, AllPass, list_any}
pub use Rattle.std.specs.Option.{unwrap_or}
pub use Rattle.multi_token.specs.Counted.{charged}
pub use Rattle.multi_token.specs.Run.{look_steps}
pub use Rattle.multi_token.specs.Spelling.{IsPlain, is_bracket}
pub use Rattle.multi_tag.specs.Just.{page_number, line_number}
pub use Rattle.sign_font.specs.Defaults.{default_fault, under}
pub use Rattle.sign_font.specs.Sign.{SignData, font_numbered, info_of}
pub use Rattle.sign_font.specs.Sound.{IsSound, IsWithin}
pub use Rattle.sign_font.specs.Text.{AreWidthsOf, HasWidth, width_in}
pub use Rattle.sign_font.specs.declared.parts.LineFill.TheVariants.{Words}
pub use Rattle.multi_meaning.specs.Address.{Spot, in_group, lines_of, Standing, is_glyph, area_of}
pub use Rattle.multi_meaning.specs.Attributes.{whole_sign, default_line_just, default_page_just, is_inside, rectangle}
pub use Rattle.multi_meaning.specs.internal.Fits.{room_for}
pub use Rattle.multi_meaning.specs.Laid.{laid_items}
pub use Rattle.multi_meaning.specs.Line.{average, height_of}
pub use Rattle.multi_meaning.specs.Meaning.{Does, begins_area, is_new_page, Meaning, Shows}
pub use Rattle.multi_meaning.specs.internal.Bounds.{has_place}
pub use Rattle.multi_meaning.specs.Offence.{clashes, conflicts}
pub use Rattle.multi_meaning.specs.Place.{start, spread}
pub use Rattle.multi_meaning.specs.Steps.{looks}
pub use Rattle.multi_meaning.specs.internal.Present.{IsPlacing, standing_behind, present_area, IsNarrow}
pub use Rattle.multi_judge.specs.internal.Adding.{ReachesGroup, character_of, IsSameBefore, PutsCharacter, AddsBreak, AddsCharacter, TellsClash}
pub use Rattle.multi_judge.specs.internal.FillSums.{FillsGroup}
pub use Rattle.multi_judge.specs.internal.FilledRun.{GoesOnBehind, IsFilledRun, IsOpenAround, longer_line, split_by, with_run}
pub use Rattle.multi_judge.specs.internal.FilledState.{IsFilledReady, IsFilledOf}
pub use Rattle.multi_judge.specs.internal.Judging.{IsAt, IsBehind, entry_in}
pub use Rattle.multi_judge.specs.internal.KnownItem.{IsOctet, is_setting, meant_by}
pub use Rattle.multi_judge.specs.internal.PassState.{IsPassBehind, IsPassReady, IsPassOf}
pub use Rattle.multi_judge.specs.internal.Passed.{JudgesCell, JudgesItem, PutsCell}
pub use Rattle.multi_judge.specs.internal.Placing.{PlacesCharacter, TellsEnd}
pub use Rattle.multi_judge.specs.internal.Run.{kept_height, IsBehindOne, IsOpen, kept_width, IsBehindCharacter, InEachSign, IsRun, IsRunPassed, gap_here, is_within, line_in_force, lengthened_by}
pub use Rattle.multi_judge.specs.internal.State.{IsSimple, attributes_of, start_in, IsLimited, IsMost, IsSmall, JudgesTag, IsReady, Judges, IsStateOf, whole_times}
pub use Rattle.multi_judge.specs.internal.Sums.{group_sum, area_sum, held, IsBreak, IsCharacter, line_sum}
pub use Rattle.multi_judge.specs.internal.Table.{group_lines, HasNoLine, HasNoLineBehind, line_count, line_entry, TableLines, IsOrdered, split_lines}
pub use Rattle.multi_judge.specs.internal.Text.{IsLastSpaceOf}
pub use Rattle.multi_judge.specs.declared.table.CountedLine.{CountedLine}
