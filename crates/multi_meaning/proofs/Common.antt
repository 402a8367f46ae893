-- What the proofs of this crate name.
pub use Rattle.std.proofs.Common.{rules, ◌≡◌, ℕ, Bool, true, false, List, [], ◌∷◌, map, Option, Some, None, inr, refl, ◌+◌, ◌-◌, ◌<◌, ◌≤◌, ◌&&◌, nat_le, nat_lt, min, length, take, arith, ◌^◌, subst, IfSome, cond, ◌==◌, ◌++◌, ap, ◌∙◌, append-nil, ◌⊎◌, inl, option_map, unwrap_or, sym, eq-eqb, append_assoc, length-append, slice_index_or, zero, suc, ◌*◌, if◌then◌else◌, nat_eq, ◌||◌, not, slice_index, get_or-take, length-take-le, ⊎_elim, ◌/◌, Result, slice_get, Err, IsSome, codes, ◌%◌, get_or, take-take, ◌≢◌, drop, max}
pub use Rattle.std.proofs.Math.Seq.{take-append_seam, get_or-append_seam, drop-append_seam}
pub use Rattle.std.proofs.lemmas.Bool.{cases_Bool, cases_eq, false≢true, false_from_ne_true, and_parts, both_ways, or_parts, eqb-true, ne_eqb, or_cases, cond_both, le-leb, not-false, or_left, or_right}
pub use Rattle.std.proofs.lemmas.Bool.Decides.{nat_tests}
pub use Rattle.std.proofs.lemmas.List.{get_or_append_left, get_or_at, length_push, take_all, drop_all, drop-append-le, map-append, get_or_default, set_at, get_or-set_other, take-append-le, take-append-drop, take_more, reverse-append}
pub use Rattle.std.proofs.lemmas.List.Elements.{All-cons, All-head, All-tail, filter_map-append, filter-append, All-push, All-weaker, All-filter, All-nil, All-take, filter_passes, All-append, AllZip-get_or, length_all_zip, All-drop, All-contains_itself}
pub use Rattle.std.proofs.lemmas.List.Folds.{list_any-append}
pub use Rattle.std.proofs.lemmas.List.Sums.{sum_by-append, fold-append, sum_by_push, sum_by-cons, length-filter, sum_by_more, sum_by-take-le, fold_push}
pub use Rattle.std.specs.List.{filter_map, cons_option, All, AllPass, count_by, filter, after_last, find, list_any, sum_by, range_with_len, AllByRecursion, flat_map, AllZip, Contains, last_or, fold, onto_first}
pub use Rattle.std.specs.Option.{option_map_or, option_eq}
pub use Rattle.multi_tag.specs.Just.{page_number, line_number}
unfoldable pub use Rattle.multi_tag.specs.TagOf.{tag_of}
pub use Rattle.multi_tag.specs.declared.just.LineJust.TheVariants.{Centre, Full, Left, Right}
pub use Rattle.multi_tag.specs.declared.just.PageJust.TheVariants.{Middle, Bottom, Top}
pub use Rattle.multi_tag.specs.declared.tag.Tag.{Tag}
pub use Rattle.multi_tag.specs.declared.tag.Tag.TheVariants.{NewLine, NewPage, Rect, Back, CharSpacing, CharSpacingEnd, Flash, FlashEnd, Font}
unfoldable pub use Rattle.multi_token.specs.Reading.{reading, read_items, read_item}
pub use Rattle.multi_token.specs.Spelling.{Item, Char, HasNoItem, IsItem, IsReading, spell}
pub use Rattle.sign_font.specs.Sample.{sample, small_font}
pub use Rattle.sign_font.specs.Sign.{SignData, CellData, cell_numbered, FontData, font_numbered, sized}
pub use Rattle.sign_font.specs.declared.parts.Defaults.{Defaults}
pub use Rattle.sign_font.specs.declared.parts.LineFill.{LineFill}
pub use Rattle.sign_font.specs.declared.parts.LineFill.TheVariants.{Words, Off}
pub use Rattle.multi_meaning.specs.Address.{Put, Glyph, Break, Cover, Spot, put_at, Standing, is_break, is_glyph, group_of, segment, in_area, in_group, area_of, lines_of, spot_at}
unfoldable pub use Rattle.multi_meaning.specs.Address.{standing, spots}
pub use Rattle.multi_meaning.specs.Attributes.{is_inside, whole_sign, given_rectangle, given_line_just, given_page_just, given_spacing, given_flash, rectangle, default_font, given_font, in_force}
unfoldable pub use Rattle.multi_meaning.specs.internal.Places.{has_colour, places}
pub use Rattle.multi_meaning.specs.Filling.{dropped, filled, is_space, CutAt, cut_at_last, longest_prefix, longer, soft_break, broken_off, fill, filled_line}
pub use Rattle.multi_meaning.specs.Fit.{line_fits, fit}
pub use Rattle.multi_meaning.specs.FillLaw.{SmallerFits}
pub use Rattle.multi_meaning.specs.internal.Fits.{area_fits, room_for}
pub use Rattle.multi_meaning.specs.Laid.{laid_spot, fill_at, too_big, laid_fits, laid_items, laid_of, laid_item, laid_out}
pub use Rattle.multi_meaning.specs.internal.Places.{laid}
pub use Rattle.multi_meaning.specs.Line.{width_of, height_of, char_gap, glyph_width, given_gap, bearers, line_height}
pub use Rattle.multi_meaning.specs.Meaning.{Meaning, Shows, Does, Faulty, begins_area, meaning, is_new_page, meanings, meaning_of_tag, said_by}
pub use Rattle.multi_meaning.specs.internal.Bounds.{EndsArea, has_place, BeginsPage, EndsPage}
unfoldable pub use Rattle.multi_meaning.specs.Offence.{offence_by, goes_back, offence, conflicts}
unfoldable pub use Rattle.multi_meaning.specs.internal.Fine.{unsized_offence, never_big}
pub use Rattle.multi_meaning.specs.Picture.{thing_at, Thing, colour_of, shown_colour, is_lit_at, pixel_at, picture}
unfoldable pub use Rattle.multi_meaning.specs.Picture.{things_among, things, in_plane}
unfoldable pub use Rattle.multi_meaning.specs.Place.{place_of}
pub use Rattle.multi_meaning.specs.Times.{Times, is_on, shown, cycle, begin, ended_times, times_at}
unfoldable pub use Rattle.multi_meaning.specs.Times.{shown_at, shown_within, page_times}
pub use Rattle.multi_meaning.specs.Verdict.{offences, fault_at, Accepted, Refused, pages_of, IsCycle, IsVerdict, Verdict, BrokenBracketStands, OneVerdict, RefusalStands, of_first, broken}
unfoldable pub use Rattle.multi_meaning.specs.Verdict.{verdict, verdict_on}
pub use Rattle.multi_meaning.specs.Words.{some_after, each_after, largest, successive, extent, cut_behind}
pub use Rattle.multi_meaning.specs.declared.attributes.FlashTimes.{FlashTimes}
pub use Rattle.multi_meaning.specs.declared.attributes.Rectangle.{Rectangle}
pub use Rattle.multi_meaning.specs.declared.times.Shown.TheVariants.{Page}
pub use Rattle.multi_meaning.specs.internal.Present.{IsPlacing, ended_lines, standing_behind, present_area, IsFilledOn, IsNarrow, IsNarrowArea}
pub use Rattle.sign_font.specs.Sound.{IsWithin, IsSound}
pub use Rattle.std.proofs.lemmas.Option.{none-some, slice_get-get_or}
pub use Rattle.multi_meaning.specs.internal.Fine.{IsFine, IsOrderly, IsAccepted}
pub use Rattle.std.proofs.lemmas.Grind.{common_steps}
