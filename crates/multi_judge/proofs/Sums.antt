-- What files of lemmas name of the lemmas on the sums of lines and areas, and on what is judged by them.
pub use Rattle.multi_judge.proofs.LineSumLemmas.{all_glyphs, none_behind, relined, present_push, present_glyphs, in_order, line_clashes, kept_width_is, segment_other, no_character, part_none, height_ended, height_present, group_character, line_with, segment_own, whole_before, group_break, turned, none_of_later, present_known}
pub use Rattle.multi_judge.proofs.AreaSumLemmas.{no_back, empty_area, both_fit, no_clash, conflicts_kept, fits_break, fits_character, group_of_own, present_line, group_behind, area_with, none_of_later_group, own_line, area_filled, group_of_later, nothing_yet, group_known, reached_group, reached_line, reached_conflicts}
pub use Rattle.multi_judge.proofs.JudgedLemmas.{some_mapped, area_stays, cell_found, cell_missing, cycle-stays, state-limits, state-same_page, shown_free, ready, judged-default_font, judged-no_font, judged-version, judged-picked, judged-page, state-page, judged-rectangle, state-rectangle, judged-simple, simple_of, state-start}
