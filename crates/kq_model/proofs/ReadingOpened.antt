-- All definitions of reading, opened at once: a proof by computation unfolds this one word.
use Rattle.std.specs.Prelude.{⊤}
use Rattle.std.specs.Str.{is_utf8, chars}
use Rattle.serde_json.proofs.OnLiterals.{serde_json_on_literals}
use Rattle.bitflags.specs.Sets.{find_row}
use Rattle.kq_model.specs.Kinds.{kind_among, kind_named}
use Rattle.kq_model.specs.Names.{filter_among, filter_named, mode_named, note_named, side_named}
use Rattle.kq_model.specs.Lines.{onto_first, pieces_of, without_empty_end, lines_among, lines_of}
use Rattle.kq_model.specs.Members.{member_count, width, has_just, is_whole, u64_in, u32_in, i64_in, from_zero, moment_in, required, optional, or_else, shaped}
use Rattle.kq_model.specs.ChangeText.{filter_in, flag_in, flags_among, flags_in, extra_width, is_change, change_with, change_of, are_changes, is_change_list, prepended, changes_of, change_list}
use Rattle.kq_model.specs.RecordText.{side_in, mode_in, note_in, is_of, is_record, u32_at, i64_at, moment_at, truth_at, mode_at, note_at, side_at, changes_at, event_as, read_as}
use Rattle.kq_model.specs.Reading.{json_of, event_by, event_of, version_in, header_version, header_of, version_on, record_on, with_event, joined, read_records, behind_header, read_lines, reading}

unfoldable pub reading_opened : ⊤
unfolding is_utf8 chars serde_json_on_literals find_row filter_among filter_named
    onto_first pieces_of without_empty_end lines_among lines_of
    member_count width has_just is_whole u64_in u32_in i64_in required optional or_else shaped
    filter_in flag_in flags_among flags_in extra_width is_change change_with change_of are_changes is_change_list prepended changes_of change_list
    kind_among kind_named side_named mode_named note_named side_in mode_in note_in i64_at from_zero moment_in moment_at truth_at mode_at note_at is_of is_record u32_at side_at changes_at event_as read_as json_of event_by event_of
    version_in header_version header_of version_on record_on with_event joined read_records behind_header read_lines reading
reading_opened = tt
