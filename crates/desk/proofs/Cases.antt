-- Each example holds by computing both sides.
-- Assumes nothing.
use mathlib.Core.Path.{refl}
use Rattle.wire.proofs.Cases.{computing}
use Rattle.desk.specs.Path.{is_field, is_passed, leads, leads_at, is_there, locate_on, locate_item, locate, locate_at, find_answer, find_in, find_of, find_by, finds, find_says, first_of, second_of}
use Rattle.desk.specs.Differ.{same_bytes, same_value, same_item, sole, pairing, compare_nothing, compare_then, differing, compare_two, pass_one, compare_item, take_entry, differences, compare_runs, compare_reads, compare_by, compares, pair_words, has_room, compare_answer, list_after, compare_says, which_of, count_of}
use Rattle.desk.specs.Rows.{same_key, same_row, same_rows, before_or, not_after, insert, sort, or_else, some_if, last_row, number_at, row_bytes, row_at, rows_bytes, rows_at}
use Rattle.desk.specs.Messages.{fields_of, is_of, has_field, is_keyed, first_word, onward, word_at, key_of, skim, next_by, next_of, onto, split_on, unless_ended, split_f, split, joined, rows_of}
use Rattle.desk.specs.Compact.{occurs, keep_last, compacts, batch_compact, batch_compact_out}
use Rattle.desk.specs.Csv.{integers, style_of_plain, style_of_content, style_of, digits_f, decimal, spelled_word, digit_of, hex_of, hexes, doubled, quoted, spelled, later, row, and_column, kind_of_root, columns, columns_of, styles_of, within, csv_answer, out_after, csv_says, field_values, export_run, export_read, export_of, export_by, csv_export}
use Rattle.desk.specs.Batch.{after, shape_by, tabled, keyed, in_room, trailer, batch_of, good_trailer, parts_at, open_at, opened, split_by, offsets_fit, sized, writes, whole_by, messages_of, checks, part_by, found_in, finds_last, written_answer, out_with, checked_answer, found_answer, batch_write, batch_write_out, batch_check, batch_last, part_of, fault_says, written_says, checked_says, found_says, from_of, len_of}
use Rattle.desk.specs.Cases.{found_said, finding, answer_of, table_s, table_e, table_o, find_cases, FindsHold, compared_said, comparing, compared_of, compare_cases, ComparesHold, saying, found_part, batch_answer, says, three, seven, three_hundred, ending, night, batch_cases, BatchesHold, kept, turned, compact_cases, exporting, export_said, exported_of, one_field, export_cases, ExportsHold}

pub finds-hold : FindsHold find_cases
unfolding computing is_field is_passed leads leads_at is_there locate_on locate_item locate locate_at find_answer find_in find_of find_by finds find_says first_of second_of found_said finding answer_of table_s table_e table_o find_cases
finds-hold = refl

pub compares-hold : ComparesHold compare_cases
unfolding computing same_bytes same_value same_item sole pairing compare_nothing compare_then differing compare_two pass_one compare_item take_entry differences compare_runs compare_reads compare_by compares pair_words has_room compare_answer list_after compare_says which_of count_of compared_said comparing compared_of table_s compare_cases
compares-hold = refl

pub batches-hold : BatchesHold batch_cases
unfolding computing same_key same_row same_rows before_or not_after insert sort or_else some_if last_row number_at row_bytes row_at rows_bytes rows_at fields_of is_of has_field is_keyed first_word onward word_at key_of skim next_by next_of onto split_on unless_ended split_f split joined rows_of after shape_by tabled keyed in_room trailer batch_of good_trailer parts_at open_at opened split_by offsets_fit sized writes whole_by messages_of checks part_by found_in finds_last written_answer out_with checked_answer found_answer batch_write batch_write_out batch_check batch_last part_of fault_says written_says checked_says found_says from_of len_of saying found_part batch_answer says three seven three_hundred ending night batch_cases
batches-hold = refl

pub compacts-hold : BatchesHold compact_cases
unfolding computing same_key same_row same_rows before_or not_after insert sort or_else some_if last_row number_at row_bytes row_at rows_bytes rows_at fields_of is_of has_field is_keyed first_word onward word_at key_of skim next_by next_of onto split_on unless_ended split_f split joined rows_of after shape_by tabled keyed in_room trailer batch_of good_trailer parts_at open_at opened split_by offsets_fit sized writes whole_by messages_of checks part_by found_in finds_last written_answer out_with checked_answer found_answer batch_write batch_write_out batch_check batch_last part_of fault_says written_says checked_says found_says from_of len_of saying found_part batch_answer says three seven three_hundred ending night occurs keep_last compacts batch_compact batch_compact_out kept turned compact_cases
compacts-hold = refl

pub exports-hold : ExportsHold export_cases
unfolding computing integers style_of_plain style_of_content style_of digits_f decimal spelled_word digit_of hex_of hexes doubled quoted spelled later row and_column kind_of_root columns columns_of styles_of within csv_answer out_after csv_says field_values export_run export_read export_of export_by csv_export table_s table_e exporting export_said exported_of one_field export_cases
exports-hold = refl
