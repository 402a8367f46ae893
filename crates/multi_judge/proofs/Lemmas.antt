-- What answers name.
pub use Rattle.multi_judge.proofs.Common.{IsCellPut, PutsCell, nat_le, IsPassOf, Does, Tag, begins_line, spots, standing, room_alone, full_known, arith, rules, page_number, ◌≡◌, ◌<◌, ◌+◌, ◌==◌, [], refl, sym, le-leb, nat_tests, kept_height, group_sum, common_steps, ◌≤◌, Bool, true, false, page_number_known, Area, ◌∙◌, cond, ◌^◌, subst, lt-leb, ℕ, ◌-◌, List, length, ap, Some, Option, not, with_word, IsFilledFor, IsFilledReady, IsAt, None, option_map_or, unwrap_or, eq-eqb, lt-ltb, le-ltb, SignData, Attributes, average, ◌||◌, max, nat_lt, line_number, line_sum, segment_sum, kept_width, ◌&&◌, list_any, Spot, clashes, Order, order_sum, LineFill, cell_in, Shows, offence, Ok, Err, Pass, area_fits_always, IsFilledOf, unsized_if, Off, ◌∷◌, ◌++◌, ◌*◌, State, character_of, is_within, IsLimited, take, slice_index_or, after_last, count_by, is_break, lines_of, ended_count, Group, counted_line, CountedLine, area_of, group_of, line_before, largest, drop, if◌then◌else◌, IsWithin, width_in, slice_range, All, IsPlain, HasWidth, lengthened_by, line_in_force, gap_here, Counted, charged, ReadSoFar, IsUnfilledOf, filled, split_sum, IsCharacter, false≢true, in_group, own_group, placing_group, area_placing, Character, PutsCharacter, TableLines, split_lines, UnwrapsOrElse, IsPassReady, JudgesCell, IfSome, IsBehind, rectangle, group_lines, option_eq, nat_eq, held, segment, width_of, is_default-value, min, Split, IsOpen, counted, err_from_is_err_and, TagConflict, Entry, order_of, NewPage, NewLine, Rect, IsSmall, IsRun, split_by, with_text, AreWidthsOf, info_of, option_map, cases_Bool, is_inside}
pub use Rattle.multi_judge.proofs.Sums.{group_of_later, empty_area, area_filled, nothing_yet, reached_group, reached_line, reached_conflicts, area_with, judged-default_font, judged-no_font, judged-version, judged-picked, judged-page, state-page, judged-rectangle, state-rectangle, judged-simple, simple_of, cell_found, state-start, group_break, height_ended, height_present, in_order, segment_own, line_with, no_character, turned, line_clashes, kept_width_is, group_character, present_glyphs, none_of_later, present_known}
pub use Rattle.multi_judge.proofs.FillGroupLemmas.{Joins, breaks_there, drops_there, present_line, put_line, stands_there, stays_there, split_none, split_space, split_word}
pub use Rattle.multi_judge.proofs.FilledJudgedLemmas.{filled_conflict, filled_free, judged-begins, judged-stays, filled_start}
pub use Rattle.multi_judge.proofs.LimitLemmas.{break_judged, character_judged, behind_added}
pub use Rattle.multi_judge.proofs.PassedLemmas.{cell_judged, cell_put, clash_by, plain_put, tag_begun, tag_ends, tag_judged, tag_kept, tag_refused, IsSplitReached}
pub use Rattle.multi_judge.proofs.PlaceLemmas.{line_is_there, width_in_is, look_up, column_is, group_with, height_found, part_with, place_from, table_length, own_entry}
pub use Rattle.multi_judge.proofs.PlacingLemmas.{ends_not, line_end, page_here, placed_conflict, spot_of, line_here, shown, character-free, plain_passed}
pub use Rattle.multi_judge.proofs.ReadLemmas.{is_false, judged_unfilled, pass_undefined, is_true, filled_put}
pub use Rattle.multi_judge.proofs.RunLemmas.{area_turned, kept_group_height, each_group, pushed_middle, pushed_top}
pub use Rattle.multi_judge.proofs.RunReadLemmas.{cell_of_width, no_cell, front_read}
pub use Rattle.multi_tag.specs.declared.just.LineJust.{LineJust}
pub use Rattle.multi_judge.proofs.GoneLemmas.{goes, space_gone, space_inside}
pub use Rattle.multi_judge.proofs.LookLemmas.{entry_found, looked_at}
pub use Rattle.multi_judge.proofs.TextLemmas.{text_taken}
pub use Rattle.multi_judge.proofs.JudgedLemmas.{info_number}
