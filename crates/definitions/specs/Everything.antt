-- Every definition by name, for theorems that compute: `unfolding everything`.
use Rattle.definitions.specs.Bytes.{bytes, is_text, is_digit, is_capital, is_small, is_letter, upper, lower, eq_line, before, lines_of, line_bytes, lines_bytes, last_byte, all_text, is_line, all_lines, are_lines}
use Rattle.definitions.specs.Table.{is_table, is_script}
use Rattle.definitions.specs.Journal.{old_of, old_side, new_of, new_side, record_bytes, journal_bytes, record_length, journal_length, change, rewrite, erase, up_to_line, after_line, by_mark, marked, followed, records_in, few_old_lines, records_of}
use Rattle.definitions.specs.Arranging.{arrange_from, arrange}
use Rattle.definitions.specs.Listing.{digits_before, decimal, in_five, mark_if, listed_line, listing_from, listing, number_of, length_of, bytes_of, written_to, read_out, old_side_to, new_side_to, listing_to, end_line}
use Rattle.definitions.specs.Joining.{at_middle, by_middle, join, turn_one, turn, is_arranged_from, is_arranged, only_arranged, arranged_of, eq_lines, joined_to, join_to, turn_to}
use Rattle.definitions.specs.WordSet.{is_named, is_word_byte, letters_and_digits, is_range, quoted_name, range_name, plain_name, first_name, add_name, names_from}
use Rattle.definitions.specs.Matching.{cut, window, leading_spaces, after_spaces, folded, stands_first, byte_before, is_apart, stands_at, places, occurrence, place_from, located, only_at, counted, place_in, with_width, match_of, is_found, turned, is_negated, matches, stands_in, longest, least, from_place, to_place, leftmost, rightmost, taken, taken_by}
use Rattle.definitions.specs.Search.{holds, holds_at_eof}
use Rattle.definitions.specs.Tape.{rest_lines, bind}
use Rattle.definitions.specs.Editor.{before_of, after_of, records, journal, sources, furthest, current, is_live, has_live, first_live, stop_number, land, go_back, locate, moved, struck, struck_back, struck_next, put_before, edit, edits}
use Rattle.definitions.specs.Given.{no_globals, words_of, with_words, without_globals}
use Rattle.definitions.specs.Globals.{put_for_each, passed_through, left_by}
use Rattle.definitions.specs.Reading.{once_read, seen, has_room, read_changed, read_as, read_line, read_lines, read_to, opening}
use Rattle.definitions.specs.StepProgram.{◌>>=◌, ◌>>◌, once_moved, runs, text_of, words_in, within, one_more, finish, perform}
use Rattle.definitions.specs.Edit.{stop_if, or_stop, either, see, read_up_to, go, goes_on, read_past, go_ahead, go_to, line_in, line_or, search_holds, is_at_eof, passes, look_on, look_back, splice, altered, altered_point, point_by, cased, recased, match_or24, byte_here, write, cut_after, next_or30, write_joined, global_by, count_through, reach, span, program, step}
use Rattle.definitions.specs.Control.{want_one, body_start, body_end, leave_to, begin_op, look_op, pull_else, pull_line, pull, pull_at, pull_after}
use Rattle.definitions.specs.Reader.{and_then, place_at, bytes_left, next_byte, after_byte, is_next, expect, spaces_at, skip_spaces, line_end_at, skip_comment, blank_at, skip_blank, digits_at, digits, is_digit_next, in_range, number, letters_at, name, packed_from, packed, is_token, after_token, is_delimiter, string_up_to, string_next, advance, past_delimiter, after_string, quoted}
use Rattle.definitions.specs.Patterns.{fits, is_one, is_none, some_cut, in_parts, is_in, is_sign, is_at_end, cannot_stand, range_end, after_plain, after_quote, read_character, read_single, ends_row, is_blank, close_bracket, close_pattern, read_alternatives, read_pattern}
use Rattle.definitions.specs.Strings.{no_qualifiers, is_anchored, clashes_with_l, is_given, unless, add_anchor, add_count, add_l, add_n, add_w, add_u, add_s, add_r, is_pattern, set_columns, has_columns, wants_bytes, letter_of, qualifier_byte, added, read_count, read_columns, read_qualifier, read_qualifiers, is_empty, pattern_or, read_bytes, read_string, start_qualifiers, qualified_string, second_string, two_strings, plain_pair, two_plain_strings, names_or33, word_names, closing, operator, search_expression, alternatives, more_alternatives, conjunction, more_conjunction, part}
use Rattle.definitions.specs.Commands.{command_table, look_up, shape_of, starts_target, target, through, line_span, optional_target, end_of_line, is_z, add_line, lines_up_to_z, lines_after, bytes_from, script_lines, skip_then, test_of, delete_op, replace_op, alter_op, decode}
use Rattle.definitions.specs.Script.{bodies, is_in_group, closes, decoded, named, count_read, group_items, group_of, open_group, else_group, is_else, after_else, group_end, close_group, separator, line_items, script_end, class_of, by_class, read_at, read_one, read_all, read_script}
use Rattle.definitions.specs.Run.{choose, end_place, spent, stepped, stepping, run, run_items, rest_passed, in_run_order, arranged, answer_of, ran_items, opening_length, work_length, ran_table, ran_script, run_answer, answer_number, answer_steps, answer_furthest, answer_place, answer_records, answer_length, buffer_after, outcome_from, outcome_of}

unfoldable pub everything : Unit {0}
unfolding bytes is_text is_digit is_capital is_small is_letter upper lower eq_line before lines_of line_bytes lines_bytes last_byte all_text is_line all_lines are_lines is_table is_script old_of old_side new_of new_side record_bytes journal_bytes record_length journal_length change rewrite erase up_to_line after_line by_mark marked followed records_in few_old_lines records_of arrange_from arrange digits_before decimal in_five mark_if listed_line listing_from listing number_of length_of bytes_of written_to read_out old_side_to new_side_to listing_to end_line at_middle by_middle join turn_one turn is_arranged_from is_arranged only_arranged arranged_of eq_lines joined_to join_to turn_to is_named is_word_byte letters_and_digits is_range quoted_name range_name plain_name first_name add_name names_from cut window leading_spaces after_spaces folded stands_first byte_before is_apart stands_at places occurrence place_from located only_at counted place_in with_width match_of is_found turned is_negated matches holds holds_at_eof rest_lines bind before_of after_of records journal sources furthest current is_live has_live first_live stop_number land go_back locate moved struck struck_back struck_next put_before edit edits no_globals words_of with_words without_globals put_for_each passed_through left_by once_read seen has_room read_changed read_as read_line read_lines read_to opening ◌>>=◌ ◌>>◌ once_moved runs text_of words_in within one_more finish perform stop_if or_stop either see read_up_to go goes_on read_past go_ahead go_to line_in line_or search_holds is_at_eof passes look_on look_back splice altered altered_point point_by cased recased match_or24 byte_here write cut_after next_or30 write_joined global_by count_through reach span program step want_one body_start body_end leave_to begin_op look_op pull_else pull_line pull pull_at pull_after and_then place_at bytes_left next_byte after_byte is_next expect spaces_at skip_spaces line_end_at skip_comment blank_at skip_blank digits_at digits is_digit_next in_range number letters_at name packed_from packed is_token after_token is_delimiter string_up_to string_next advance past_delimiter after_string quoted fits is_one is_none some_cut in_parts is_in is_sign is_at_end cannot_stand range_end after_plain after_quote read_character read_single ends_row is_blank close_bracket close_pattern read_alternatives read_pattern stands_in longest least from_place to_place leftmost rightmost taken taken_by no_qualifiers is_anchored clashes_with_l is_given unless add_anchor add_count add_l add_n add_w add_u add_s add_r is_pattern set_columns has_columns wants_bytes letter_of qualifier_byte added read_count read_columns read_qualifier read_qualifiers is_empty pattern_or read_bytes read_string start_qualifiers qualified_string second_string two_strings plain_pair two_plain_strings names_or33 word_names closing operator search_expression alternatives more_alternatives conjunction more_conjunction part command_table look_up shape_of starts_target target through line_span optional_target end_of_line is_z add_line lines_up_to_z lines_after bytes_from script_lines skip_then test_of delete_op replace_op alter_op decode bodies is_in_group closes decoded named count_read group_items group_of open_group else_group is_else after_else group_end close_group separator line_items script_end class_of by_class read_at read_one read_all read_script choose end_place spent stepped stepping run run_items rest_passed in_run_order arranged answer_of ran_items opening_length work_length ran_table ran_script run_answer answer_number answer_steps answer_furthest answer_place answer_records answer_length buffer_after outcome_from outcome_of
everything = tt
