-- Each case holds by computing both sides.
-- Assumes nothing.
use mathlib.Core.Path.{refl}
use Rattle.wire.specs.Tests.{pick, given, both, decided}
use Rattle.wire.specs.Shape.{bits, size, same_kind, count, depth, deepest}
use Rattle.wire.specs.Table.{u16_at, u32_at, size_of, mark_of, most_nodes, most_bytes, table_form, ending_at, layout_at, good_numbers, good_trailer, kinds, is_kind, kind_of, node_at, record_of, first_child, child_count, below, good_places, good_kind, good_node, shapes_at, shape_by, shape_f, shape_of, chain_of, short_chain, good_in, check_from, check_at, check_as, check}
use Rattle.wire.specs.Walk.{following, is_known, all, times, nth, along, walk, walks}
use Rattle.wire.specs.Values.{part, told_after, tell_nothing, tell_on, tell_then, tell_item, tell, is_pooled, value_of, valued, values}
use Rattle.wire.specs.Numbers.{most, last, low, varint_f, varint, shortest_f, shortest, signed_word, is_signed_word, zigzag, unzigzag, word, is_word, zigzagged, unzigzagged, on_first, little, little_bytes, in_order, word_of}
use Rattle.wire.specs.Text.{width_of, low_of, high_of, utf8_f, utf8, lead_part, sixes, first_char, is_char, char_bytes}
use Rattle.wire.specs.Reading.{flag, counted, char_of, is_content, content_of, read_plain, known, head, strictly, judged, head_by, run_after, read_nothing, read_on, read_then, past, enter, read_item, read, read_strict, within, fit}
use Rattle.wire.specs.Writing.{when, single, with_count, plain_bytes, head_bytes, wrote_after, write_nothing, write_on, write_then, spell, write_entry, write_item, write}
use Rattle.wire.specs.Append.{is_open, matches, firsts, is_open_root, appends}
use Rattle.wire.specs.Frames.{room, gap_after, old_room, old_gap_after, groups_by, decode_by, to_zero, no_message, framed, feed_on, feed_end, feed_fit, feed_by, feed_bridge, spills, feed_fresh, feed_waiting, feed_marked, feed}
use Rattle.wire.specs.Answers.{numbered, done, read_says, write_says, ask_says, words_of, words, entries_of, room_of, store_with, read_by, reads, reads_strict, read_answer, rest_of, may_take, taken, takes, place_after, form_of, formed, write_by, writes, write_answer, out_with, ask_by, area_bytes, asks_with, zeroed, area_after}
use Rattle.wire.specs.Cases.{read_said, read_run, took_said, wrote_form, values_by, is_yes, asked_said, fed_said, marked_said, answer, case, table_t, tabled, in_second, marked, leaf_table, four_fields, in_front, at_end, one_variant, two_variants, nested, untouched, store, out, enough, array, old_array, cases, ours, strict, forms, run, ones, long, ten, waits, ExtraZero, trailed, AtLimits, BeyondLimits, Hold, Areas}

-- to open this is to compute all definitions
unfoldable pub computing : Unit {0}
unfolding pick given both decided bits size same_kind count depth deepest u16_at u32_at size_of mark_of most_nodes most_bytes table_form ending_at layout_at good_numbers good_trailer kinds is_kind kind_of node_at record_of first_child child_count below good_places good_kind good_node shapes_at shape_by shape_f shape_of chain_of short_chain good_in check_from check_at check_as check following is_known all times nth along walk walks part told_after tell_nothing tell_on tell_then tell_item tell is_pooled value_of valued values most last low varint_f varint shortest_f shortest signed_word is_signed_word zigzag unzigzag word is_word zigzagged unzigzagged on_first little little_bytes in_order word_of width_of low_of high_of utf8_f utf8 lead_part sixes first_char is_char char_bytes flag counted char_of is_content content_of read_plain known head strictly judged head_by run_after read_nothing read_on read_then past enter read_item read read_strict within fit when single with_count plain_bytes head_bytes wrote_after write_nothing write_on write_then spell write_entry write_item write is_open matches firsts is_open_root appends room gap_after old_room old_gap_after groups_by decode_by to_zero no_message framed feed_on feed_end feed_fit feed_by feed_bridge spills feed_fresh feed_waiting feed_marked feed numbered done read_says write_says ask_says words_of words entries_of room_of store_with read_by reads reads_strict read_answer rest_of may_take taken takes place_after form_of formed write_by writes write_answer out_with ask_by area_bytes asks_with zeroed area_after read_said read_run took_said wrote_form values_by is_yes asked_said fed_said marked_said answer case table_t tabled in_second marked leaf_table four_fields in_front at_end one_variant two_variants nested untouched store out enough array old_array cases ours strict forms run ones long ten waits trailed
computing = tt

pub cases-hold : Hold cases
unfolding computing
cases-hold = refl

pub ours-hold : Hold ours
unfolding computing
ours-hold = refl

pub strict-hold : Hold strict
unfolding computing
strict-hold = refl

pub forms-hold : Hold forms
unfolding computing
forms-hold = refl

pub long-hold : Hold long
unfolding computing
long-hold = refl

pub waits-hold : Hold waits
unfolding computing
waits-hold = refl

pub extra-zero : ExtraZero
unfolding computing
extra-zero = refl

pub limits-hold : AtLimits × BeyondLimits
unfolding computing
limits-hold = (refl, refl)

pub areas-hold : Areas
unfolding computing
areas-hold = refl
