-- Each example holds by computing both sides.
-- Assumes nothing.
use mathlib.Core.Path.{refl}
use Rattle.wire.proofs.Cases.{computing}
use Rattle.desk.specs.Csv.{integers, style_of_plain, style_of_content, style_of, are_bytes, in_range, may, digits_f, decimal, spelled_word, digit_of, hex_of, hexes, doubled, quoted, spelled, later, row, may_all, and_column, kind_of_root, columns, columns_of, styles_of, within, csv_answer, out_after, csv_says, field_values, export_run, export_read, export_of, export_by, csv_export, or_nothing, value_bytes, message_of}
use Rattle.desk.specs.Cases.{one_field}
use Rattle.spellings.specs.Accept.{when, is_digit, another, first, figure_step, figure_value, hex_value, high, low, hex_step, hexed_value, may_follow, quote_step, char_value, quoted_value, acceptor, moved, scan_on, scan, past, with_value, must, finished, field_then, parse_field, parse_later, parse, import_parsed, import_of, import_by, csv_import}
use Rattle.spellings.specs.Cases.{said, said_of, answer, case, out, cases, Hold}

pub cases-hold : Hold cases
unfolding computing integers style_of_plain style_of_content style_of are_bytes in_range may digits_f decimal spelled_word digit_of hex_of hexes doubled quoted spelled later row may_all and_column kind_of_root columns columns_of styles_of within csv_answer out_after csv_says field_values export_run export_read export_of export_by csv_export or_nothing value_bytes message_of when is_digit another first figure_step figure_value hex_value high low hex_step hexed_value may_follow quote_step char_value quoted_value acceptor moved scan_on scan past with_value must finished field_then parse_field parse_later parse import_parsed import_of import_by csv_import said said_of answer case one_field out cases
cases-hold = refl
