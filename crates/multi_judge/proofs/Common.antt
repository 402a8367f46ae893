-- What proofs of this crate name of other crates, and of its definitions.
pub use Rattle.std.proofs.Common.{◌≡◌, ℕ, ◌<◌, ◌≤◌, Bool, true, false, not, ◌&&◌, ◌||◌, ◌==◌, List, [], ◌∷◌, ◌++◌, refl, sym, ap, ◌∙◌, arith, rules, inl, inr, ◌+◌, Option, Some, None, subst, cond, append_assoc, append-nil, ◌*◌, length, Result, Ok, Err, zero, suc, ◌^◌, ◌-◌, max, take, slice_get, drop, map, ⊎_elim}
pub use Rattle.std.proofs.lemmas.Bool.{or_parts, cases_eq, cases_lt, eq-eqb, le-ltb, lt-ltb, ne_eqb, cases_Bool, false≢true, le-leb, lt-leb, and_from, and_parts, eqb-true, and_right, ltb-false, leb-false, leb-true}
pub use Rattle.std.proofs.lemmas.Bool.Decides.{nat_tests}
pub use Rattle.std.proofs.lemmas.Grind.{common_steps}
pub use Rattle.std.proofs.lemmas.List.{length-append, length-drop, length-take-le, take-append-drop, drop_all, map-append, take_more, drop-append-le, length-take, length_push, take-append-le, take_all, get_or_at, take-take, drop-drop, drop-take, get_or_default}
pub use Rattle.std.proofs.lemmas.List.Elements.{All-head, All-weaker, All-nil, All-cons, All-tail, All-push, filter-append, filter_map-append, All-append, All-take, All-drop}
pub use Rattle.std.proofs.lemmas.List.Folds.{list_any-append}
pub use Rattle.std.proofs.lemmas.List.Sums.{sum_by-append, length-filter, count_by-le-length, sum_by_push, sum_by-take-le}
pub use Rattle.std.specs.List.{list_any, after_last, AllPass, All, cons_option, count_by, last_or, sum_by, filter_map, find}
pub use Rattle.std.specs.Option.{option_map, unwrap_or, option_map_or, option_and_then, UnwrapsOrElse, option_eq}
pub use Rattle.std.specs.Prelude.{nat_lt, nat_le, if◌then◌else◌, slice_index_or, slice_range, IfSome, nat_eq, min, slice_index}
pub use Rattle.multi_meaning.proofs.FillLemmas.{le_test, open_line, open_line_is, cut_with, nothing_fits, filled_break, broken_parts, parts, parts_off, word_begins, word_grows, broken_line, breaks, drops, stands, stays, LaidAll, LaidAs, filled_laid, ended, ended_ends, ends_open, open_line_glyphs, filled_is}
pub use Rattle.multi_meaning.proofs.GroupLemmas.{room_alone, full_known, own_group, in_group_other, smaller_fits, ended_break, ended_glyph, placing_group, area_placing, each_just, filter_yes, open_glyphs, ended_count, spaces_is, closed_count, room_end, room_middle, room_start, any_glyph, bearers_glyphs, bearers_ended, bearers_empty, glyph_put, glyphs_around, break_put, in_area_placing}
pub use Rattle.multi_meaning.proofs.LaidItemLemmas.{largest_laid, are_laid, offends_as_laid, laid_tag, filled_on, same_width, too_big_laid, laid_plain, groups_laid, same_fill}
pub use Rattle.multi_meaning.proofs.RoomLemmas.{area_fits_always, lines_fit_always, fits_next}
pub use Rattle.multi_meaning.proofs.StandingLemmas.{offence-break, no_conflict, standing_push, present_area-new, present_area-placing, offence-character, offence-undefined, present_area-nothing, present_area-cover, width_push, spots_more, offence-page, offence-rectangle, offence-font, offence-no_font}
pub use Rattle.multi_meaning.proofs.VerdictLemmas.{unsized_if, item_refused, length-meanings, offences_push, one_verdict}
pub use Rattle.multi_meaning.proofs.WordLemmas.{largest_most, largest_push, filter_none, none_mapped, Cut, after_last_is, each_after_push, push_ind, some_after_push, cut, last_or_push, ended_is, cut_behind_is, each_after_length, none_more, cut_with_item, after_last_push, gap_before, any_largest, extent_push, cut_push, cut_if, part, is_cut, All-around, group_goes_back, cases_Option, extent-append-le}
pub use Rattle.multi_meaning.specs.Address.{Spot, is_glyph, is_break, area_of, in_group, line_before, segment, Break, Standing, in_area, Glyph, group_of, Cover, lines_of, Put}
unfoldable pub use Rattle.multi_meaning.specs.Address.{spots, standing}
pub use Rattle.multi_meaning.specs.Filling.{filled, CutAt, is_space, soft_break, cut_at_last, longer, dropped}
pub use Rattle.multi_meaning.specs.Fit.{line_fits, fit}
pub use Rattle.multi_meaning.specs.internal.Fits.{area_fits, FitsWithout, room_for}
pub use Rattle.multi_meaning.specs.Laid.{too_big, laid_items, laid_item}
pub use Rattle.multi_meaning.specs.internal.Places.{laid}
pub use Rattle.multi_meaning.specs.Line.{char_gap, glyph_width, width_of, height_of, average, bearers, line_height, line_spacing, line_gap, given_gap}
pub use Rattle.multi_meaning.specs.Meaning.{Meaning, Does, Shows, is_new_page, meaning, begins_area}
pub use Rattle.multi_meaning.specs.internal.Bounds.{has_place}
pub use Rattle.multi_meaning.specs.Offence.{clashes, conflicts, offence, first_code, character_cases, goes_back}
pub use Rattle.multi_meaning.specs.internal.Fine.{never_big, unsized_offence}
unfoldable pub use Rattle.multi_meaning.specs.Offence.{offence_by}
pub use Rattle.multi_meaning.specs.Times.{Times, cycle, ended_times, times_at}
pub use Rattle.multi_meaning.specs.Verdict.{pages_of, Accepted, IsCycle, IsVerdict, Refused, broken, of_first, verdict}
pub use Rattle.multi_meaning.specs.Words.{largest, some_after, each_after, successive}
pub use Rattle.multi_meaning.specs.declared.fault.SyntaxError.{SyntaxError}
pub use Rattle.multi_meaning.specs.internal.Present.{IsFilledOn, IsPlacing, ended_lines, present_area, standing_behind}
pub use Rattle.multi_tag.proofs.JustLemmas.{page_number_known, line_number_known}
pub use Rattle.multi_tag.specs.Just.{page_number, line_number}
pub use Rattle.multi_tag.specs.declared.just.LineJust.{LineJust}
pub use Rattle.multi_tag.specs.declared.tag.Tag.{Tag}
pub use Rattle.multi_tag.specs.declared.tag.Tag.TheVariants.{NewPage, NewLine, Rect, Back, Font}
pub use Rattle.multi_token.specs.Counted.{Counted, RisesBetween, charged}
pub use Rattle.multi_token.specs.Spelling.{IsPlain, Item, IsItem, spelling, spell, HasNoItem, IsReading, Char, is_bracket}
pub use Rattle.multi_token.specs.Tokens.{IsTokenOf, item_of}
pub use Rattle.multi_token.specs.declared.token.Token.{Token}
pub use Rattle.sign_font.specs.Cell.{SizedCell}
pub use Rattle.sign_font.specs.Sign.{SignData, CellData, cell_in, cell_numbered, font_numbered, FontData, info_of, sized}
pub use Rattle.sign_font.specs.Sound.{IsWithin, IsSoundFont}
pub use Rattle.sign_font.specs.Text.{width_in, HasWidth, AreWidthsOf, width_numbered}
pub use Rattle.sign_font.specs.declared.font.FontInfo.{FontInfo}
pub use Rattle.sign_font.specs.declared.parts.LineFill.{LineFill}
pub use Rattle.sign_font.specs.declared.parts.LineFill.TheVariants.{Off, Words}
pub use Rattle.multi_judge.specs.internal.Adding.{PutsCharacter, AddsCharacter, character_of, AddsBreak, ReachesGroup}
pub use Rattle.multi_judge.specs.internal.FillSums.{Order, order_of, split_sum, EndsLine, order_sum, FillsGroup, parts_sum}
pub use Rattle.multi_judge.specs.internal.FilledRun.{IsFilledRun, even_line, longer_line, with_run, with_run_behind, with_word, with_text, GoesOnBehind, split_by}
pub use Rattle.multi_judge.specs.internal.FilledState.{IsFilledOf, begins_line, IsFilledFor, IsFilledReady, IsOrderedBy}
pub use Rattle.multi_judge.specs.internal.Judging.{ReadSoFar, IsAt, IsBehind, entry_in}
pub use Rattle.multi_judge.specs.internal.PassState.{IsPassOf, IsPassReady, fill_of}
pub use Rattle.multi_judge.specs.internal.Passed.{IsCellPut, IsItemJudged, IsItemPassed, JudgesCell, PutsCell, next_group}
pub use Rattle.multi_judge.specs.internal.Run.{FitsBefore, gap_here, is_within, lengthened_line, kept_height, kept_width, IsBehindCharacter, kept_fits, IsRun, lengthened, lengthened_area, lengthened_by, line_in_force, IsBehindOne, IsRunPassed, IsOpen}
pub use Rattle.multi_judge.specs.internal.State.{IsMost, group_room, segment_room, AreaFits, IsJudged, IsLimited, IsSmall, IsStateOf, attributes_of, start_in, IsReady, IsUnfilledOf, IsSimple, JudgesTag}
pub use Rattle.multi_judge.specs.internal.Sums.{Character, counted, held, group_sum, area_sum, area_sum_in, line_sum, IsCharacter, IsBreak, segment_sum, width_before, height_before, ended_sum}
pub use Rattle.multi_judge.specs.internal.Table.{counted_line, TableLines, split_lines, line_entry, table_of, column_in, IsOrdered, group_lines}
pub use Rattle.multi_judge.specs.declared.area.Area.{Area}
pub use Rattle.multi_judge.specs.declared.area.Group.{Group}
pub use Rattle.multi_judge.specs.declared.attributes.Attributes.{Attributes}
pub use Rattle.multi_judge.specs.declared.fill.Split.{Split}
pub use Rattle.multi_judge.specs.declared.line.Line.{Line}
pub use Rattle.multi_judge.specs.declared.line.Segment.{Segment}
pub use Rattle.multi_judge.specs.declared.pass.Pass.{Pass}
pub use Rattle.multi_judge.specs.declared.state.Limits.{Limits}
pub use Rattle.multi_judge.specs.declared.state.State.{State}
pub use Rattle.multi_judge.specs.declared.table.CountedLine.{CountedLine}
pub use Rattle.std.proofs.lemmas.Option.{slice_get-get_or, slice_get_within, same_Some, get_or_from_slice_get}
pub use Rattle.multi_meaning.specs.Attributes.{default_font, default_line_just, default_page_just, whole_sign, is_inside, rectangle}
pub use Rattle.multi_meaning.specs.Steps.{item_steps, items_steps, judging_steps, rest_steps}
pub use Rattle.multi_meaning.proofs.StepsLemmas.{items_steps_push, steps_ended, steps_offending, items_bounds}
pub use Rattle.multi_token.specs.Run.{entry_of, look_steps, IsNoSpace, IsLastSpace, taken}
pub use Rattle.sign_font.specs.Advance.{AreAdvances}
pub use Rattle.multi_meaning.specs.Codes.{code_of}
pub use Rattle.multi_judge.specs.internal.Text.{IsLastSpaceOf}
pub use Rattle.multi_token.specs.declared.source.Space.{Space}
pub use Rattle.multi_token.proofs.RunLemmas.{get_behind, get_front, advance, taken_more}
pub use Rattle.multi_judge.specs.internal.KnownItem.{ends_line}
pub use Rattle.multi_judge.specs.contracts.table.CountedLineDefault.TheImpl.{is_default-value}
pub use Rattle.std.proofs.lemmas.Result.{err_from_is_err_and}
pub use Rattle.multi_meaning.specs.declared.fault.SyntaxError.TheVariants.{TagConflict}
pub use Rattle.multi_token.specs.declared.source.Entry.{Entry}
