-- What several proofs of this crate name.
pub use Rattle.std.proofs.Common.{◌≡◌, ℕ, ◌+◌, ◌^◌, ◌<◌, ◌≤◌, false, cond, slice_get, List, [], ◌∷◌, ◌++◌, length, map, Option, None, Some, refl, sym, ap, subst, ◌∙◌, arith, append_assoc, rules, Bool, true, Err, Ok, inl, ◌-◌, ◌*◌, inr, append-nil, suc, drop, ◌&&◌, ◌||◌, ◌==◌, take, ◌⊎◌, not, ◌/◌, max, Result}
pub use Rattle.std.proofs.Math.Nat.{mul-add, mul-le-mul_left, le-mul_of_pos_right}
pub use Rattle.std.proofs.lemmas.Bool.{false≢true, eq-eqb, cases_eq, ne_eqb, not-false, cases_lt, le-ltb, lt-ltb}
pub use Rattle.std.proofs.lemmas.Bool.Decides.{nat_tests}
pub use Rattle.std.proofs.lemmas.List.{length-append, map-append, length-drop, length-take-le, take-append-drop, length-map, length_push}
pub use Rattle.std.proofs.lemmas.List.Elements.{All-head, All-tail, filter-append, All-nil, All-push, All-weaker}
pub use Rattle.std.proofs.lemmas.List.Sums.{sum_by-append, sum_by_push}
pub use Rattle.std.proofs.lemmas.Option.{slice_get_within, IfSome_then, same_Some}
pub use Rattle.std.specs.List.{All, after_last, count_by, filter, list_any, cons_option}
pub use Rattle.std.specs.Option.{unwrap_or, option_map}
pub use Rattle.std.specs.Prelude.{IfSome, if◌then◌else◌, nat_lt, find, nat_le, slice_index_or, ◌%◌}
pub use Rattle.multi_judge.proofs.AreaSumLemmas.{group_of_own, no_back, no_clash, group_known, group_behind, group_there, own_line, empty_area}
pub use Rattle.multi_judge.proofs.FilledStateLemmas.{pages_at, same_times, area_with, offends_by, offends_without, shown}
pub use Rattle.multi_judge.proofs.JudgedLemmas.{pages_of-push, ready, unsized-undefined, state-limits, cell_of_font, shown_free, cycle-grows, cycle-stays, ended_times-push}
pub use Rattle.multi_judge.proofs.PlaceLemmas.{open_entry, ended_most, lines_closed, lines_open, table_length, table_push}
pub use Rattle.multi_judge.proofs.ReadLemmas.{at_end, goes_on, pass_ready, limited_of}
pub use Rattle.multi_judge.proofs.RunLemmas.{behind_stays, state_beside, each_group, kept_height_is, average_same}
pub use Rattle.multi_judge.proofs.RunReadLemmas.{behind_first, cell_of_width, front_taken, lengthened_more, lengthened_none}
pub use Rattle.multi_judge.specs.internal.FilledState.{IsFilledOf}
pub use Rattle.multi_judge.specs.internal.Judging.{IsAt}
pub use Rattle.multi_judge.specs.internal.KnownItem.{ends_line, is_setting, meant_by, IsOctet}
pub use Rattle.multi_judge.specs.internal.PassState.{IsPassOf, fill_of, IsPassReady}
pub use Rattle.multi_judge.specs.internal.Passed.{laid_area, next_group, IsItemPassed, IsItemJudged}
pub use Rattle.multi_judge.specs.internal.Placing.{PlacesCharacter, TellsEnd}
pub use Rattle.multi_judge.specs.internal.Run.{IsBehindCharacter, lengthened_by, line_in_force, IsRunPassed, kept_height}
pub use Rattle.multi_judge.specs.internal.State.{IsStateOf, IsReady, attributes_of}
pub use Rattle.multi_judge.specs.internal.Sums.{area_sum, group_sum, line_sum}
pub use Rattle.multi_judge.specs.internal.Table.{group_lines, table_of, line_count, line_entry}
pub use Rattle.multi_judge.specs.declared.area.Area.{Area}
pub use Rattle.multi_judge.specs.declared.area.Group.{Group}
pub use Rattle.multi_judge.specs.declared.attributes.Attributes.{Attributes}
pub use Rattle.multi_judge.specs.declared.item.KnownItem.{KnownItem}
pub use Rattle.multi_judge.specs.declared.item.KnownItem.TheVariants.{Char}
pub use Rattle.multi_judge.specs.declared.item.NextItem.{NextItem}
pub use Rattle.multi_judge.specs.declared.pass.Pass.{Pass}
pub use Rattle.multi_judge.specs.declared.state.State.{State}
pub use Rattle.multi_judge.specs.declared.table.CountedLine.{CountedLine}
pub use Rattle.multi_judge.specs.declared.table.LineTable.{LineTable}
pub use Rattle.multi_meaning.proofs.DrawnLemmas.{covered_same, covered_cover, covered_glyph, covered_begins, covered_ends, put_rows_of}
pub use Rattle.multi_meaning.proofs.GroupLemmas.{placing_group, break_put, area_placing, glyph_put, own_group, filter_yes}
pub use Rattle.multi_meaning.proofs.LaidItemLemmas.{are_laid, laid_plain, offends_as_laid, laid_tag, unfilled_item, laid_as, HasWidth, groups_laid, one_more, same_at, in_areas, largest_laid}
pub use Rattle.multi_meaning.proofs.StandingLemmas.{area_ends, standing_push, last_fine, offence-faulty, same_page_behind, present_area-placing, present_area-new, area_with_glyph, unplaced_item, present_area-nothing, same_area, width_push, spots_more, offence-undefined, spots_behind, spots_with, in_area-append, same_rectangle, spots_append}
pub use Rattle.multi_meaning.proofs.VerdictLemmas.{unsized_if, length-meanings, accepted_is, accepted_orderly, orderly_items}
pub use Rattle.multi_meaning.proofs.WordLemmas.{left_nil, some_after-append, each_after_length, push_ind, each_after_push, each_after-append, last_or_push, none_mapped, none_of, right_nil, some_after_push, All-split, none_more, cases_Option}
pub use Rattle.multi_meaning.specs.Address.{in_area, area_of, Spot, Standing, put_at, Break, in_group, Glyph, Put, group_of, is_break, is_glyph, lines_of, segment, line_before}
unfoldable pub use Rattle.multi_meaning.specs.Address.{spots, standing}
pub use Rattle.multi_meaning.specs.Codes.{code_of}
pub use Rattle.multi_meaning.specs.Picture.{Lights, shown_colour, is_lit_at, picture, in_plane}
unfoldable pub use Rattle.multi_meaning.specs.internal.Places.{has_colour}
pub use Rattle.multi_meaning.specs.Laid.{too_big, laid_spot, laid_items, laid_item, laid_of, laid_out}
pub use Rattle.multi_meaning.specs.Line.{height_of, glyph_width, width_of}
pub use Rattle.multi_meaning.specs.internal.Bounds.{EndsArea, has_place, BeginsPage, EndsPage}
pub use Rattle.multi_meaning.specs.Meaning.{Meaning, begins_area, is_new_page, Does, meaning, Shows, Faulty, meanings, meaning_of_tag}
pub use Rattle.multi_meaning.specs.Offence.{offence, first_code, conflicts}
pub use Rattle.multi_meaning.specs.internal.Fine.{unsized_offence, IsAccepted, IsOrderly, IsFine, never_big}
unfoldable pub use Rattle.multi_meaning.specs.Offence.{offence_by}
unfoldable pub use Rattle.multi_meaning.specs.Place.{place_of}
pub use Rattle.multi_meaning.specs.Times.{cycle, ended_times, times_at, Times, page_times, shown_within}
pub use Rattle.multi_meaning.specs.Verdict.{pages_of, fault_at, offences, IsVerdict}
pub use Rattle.multi_meaning.specs.Words.{each_after, some_after}
pub use Rattle.multi_meaning.specs.declared.fault.SyntaxError.{SyntaxError}
pub use Rattle.multi_meaning.specs.declared.place.Place.{Place}
pub use Rattle.multi_meaning.specs.declared.times.Shown.{Shown}
pub use Rattle.multi_meaning.specs.internal.ItemAt.{IsFaultAt, IsItemAt}
pub use Rattle.multi_meaning.specs.internal.Present.{present_area, IsPlacing, IsNarrowArea, ended_lines, IsNarrow, standing_behind}
pub use Rattle.multi_tag.proofs.JustLemmas.{page_number_known}
pub use Rattle.multi_tag.specs.Just.{page_number, line_number}
unfoldable pub use Rattle.multi_tag.specs.TagOf.{tag_of}
pub use Rattle.multi_tag.specs.declared.tag.Tag.{Tag}
pub use Rattle.multi_tag.specs.declared.tag.Tag.TheVariants.{NewPage, NewLine, Font, Rect, Back}
pub use Rattle.multi_token.proofs.PlaceLemmas.{drop_read, read_drop, single_token}
pub use Rattle.multi_token.proofs.ReadingLemmas.{spelling_some, each_string_has_a_reading, none_found}
pub use Rattle.multi_token.proofs.StepLemmas.{rises_then, charged-charged, rises_more, charged-zero}
pub use Rattle.multi_token.specs.Counted.{Counted, RisesBetween, charged}
unfoldable pub use Rattle.multi_token.specs.Reading.{reading}
pub use Rattle.multi_token.specs.Spelling.{spelling, Item, IsPlain, spell, IsReading, is_bracket, IsItem, HasNoItem}
pub use Rattle.multi_token.specs.Tokens.{item_of, IsTokenOf}
pub use Rattle.multi_token.specs.declared.token.Token.{Token}
pub use Rattle.page_plane.specs.Plane.{BitPlane}
unfoldable pub use Rattle.page_plane.specs.Plane.{is_lit}
pub use Rattle.sign_font.specs.Sign.{SignData, tallest, cell_in, CellData, cell_numbered, FontData, largest, sized, font_numbered}
pub use Rattle.sign_font.specs.Sound.{IsSound, IsSoundFont}
pub use Rattle.sign_font.specs.Text.{width_in, AreWidthsOf}
pub use Rattle.sign_font.specs.declared.parts.Defaults.{Defaults}
pub use Rattle.sign_font.specs.declared.parts.LineFill.{LineFill}
pub use Rattle.sign_font.specs.declared.parts.LineFill.TheVariants.{Off, Words}
pub use Rattle.multi_layout.specs.Limits.{plane_octets, reading_limit, drawing_limit, plane_limit, frame_limit, check_limit}
pub use Rattle.multi_layout.specs.Pages.{IsSized, page_count, IsDrawnFew, IsReadFew, IsUnderWay, PagesState, TurnsPage}
pub use Rattle.multi_layout.specs.declared.cursor.Cursor.{Cursor}
pub use Rattle.multi_layout.specs.declared.paint.Layer.{Layer}
pub use Rattle.multi_layout.specs.declared.read.AreaLines.{AreaLines}
pub use Rattle.multi_layout.specs.internal.AreaDrawing.{BeginsNoArea, HasCounted, IsAreaDrawn, IsDrawnTo, IsDrawnUpTo, IsFilledBy, IsInArea, whole_area, IsPageDrawn, HasKnown, HasRoom, IsCountedBy, known_lines, ReadsArea}
pub use Rattle.multi_layout.specs.internal.AreaReading.{IsNextRead, IsReadOf, next_steps, EndsGroup, ReadsOn, KnowsArea, KnowsOn}
pub use Rattle.multi_layout.specs.internal.Cursors.{IsBetween, IsFirst, IsItemRead, IsRead, items_of, meant, LaidItem, spell_of, IsPlaced, laid_meanings, IsPieceFirst, pieces_of, PassesTag}
pub use Rattle.multi_layout.specs.internal.PageDrawing.{IsFilledFew, IsPagePassed, IsPageStart, IsStartOf, IsReadTwice}
pub use Rattle.multi_layout.specs.internal.Passing.{IsAtPage, IsPageSkipped, IsRestRead, IsTurnAt, IsPassing, unplaced, IsAtStart}
pub use Rattle.multi_layout.specs.internal.RunDrawing.{DrawsNext, IsBeside, IsNextDrawn, IsRunDrawn, StandsAt, DrawsCharacter, NextStandsAt}
pub use Rattle.multi_layout.specs.internal.Told.{IsTold, IsToldOf}
pub use Rattle.multi_meaning.proofs.ItemAtLemmas.{does_tag, fault_there, item_few}
pub use Rattle.multi_judge.proofs.LimitLemmas.{limited_none, behind_added}
pub use Rattle.multi_judge.proofs.PlacingLemmas.{plain_passed, character-accepted, character-free, order, break-accepted, break-free}
pub use Rattle.multi_meaning.proofs.RoomLemmas.{narrow_area, narrow_front, room, none_front, none_last, area_wide, rectangle_width_within, rectangle_within, narrow_of, fits_first, fits_next, room_of}
pub use Rattle.multi_token.proofs.SpellingLemmas.{one_reading, one_item_begins}
pub use Rattle.multi_meaning.specs.declared.times.Shown.TheVariants.{Page}
pub use Rattle.multi_meaning.proofs.TimesLemmas.{cycle_push, ended_count, shown_off, shown_on, times_are, times_are_all, always_one, always_none, shown_in_turn, below_cycle}
pub use Rattle.multi_layout.specs.declared.checked.Told.{Told}
pub use Rattle.multi_meaning.proofs.StepsLemmas.{looks_most}
pub use Rattle.page_plane.specs.Octets.{octet_count}
pub use Rattle.multi_tag.specs.declared.just.LineJust.TheVariants.{Full}
pub use Rattle.std.proofs.lemmas.Grind.{common_steps}
