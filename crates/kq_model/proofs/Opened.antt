-- All definitions of the simulated system, opened at once: a proof by computation unfolds this one word.
use Rattle.std.specs.Prelude.{⊤}
use Rattle.std.specs.Fmt.{digits}
use Rattle.serde_json.proofs.OnLiterals.{serde_json_on_literals}
use Rattle.kq_model.specs.Names.{filter_among, filter_named, names_of}
use Rattle.kq_model.specs.Hearing as hearing
use Rattle.kq_model.specs.Knote.{watches_number, is_timer, find_knote}
use Rattle.kq_model.specs.Look.{side_seen, amount_seen, read_seen, write_seen, status_of, process_seen, notes_seen, count_seen, mark_of, look_user, look_by, notice_or, look, is_simulated}
use Rattle.kq_model.specs.Targets.{number_in, named_in, object_of, file_of, target_of, target_eq, is_target}
use Rattle.kq_model.specs.Refusals.{invalid_if, is_readable, is_writable, is_file, is_live_process, process_in, process_refusal, own_refusal}
use Rattle.kq_model.specs.ChangedKnote as knote
use Rattle.kq_model.specs.Registration.{unless_refused, decided, decision, queue_for, carried_out, register}
use Rattle.kq_model.specs.Retrieval.{event_flags, event_of, reset, rested, knotes_after, stays, back_after, with_notice_told, settled, turned_at_look, turned_at, turned, delivered, after_turn, retrieve, retrieval}
use Rattle.kq_model.specs.Call.{number_of, entry_of, is_answered, ended, after, process, returned, by_entries, by_answer, concluded, call}
use Rattle.kq_model.specs.Hints.{takes, kept, is_exit, added, heard_by, unless_silent, alerted, if_there, knotes_alerted, queue_with, queue_alerted, queue_after_all, notified}
use Rattle.kq_model.specs.Following.{forks_of, all_forks, heir, with_heir, followed_each}
use Rattle.kq_model.specs.Close.{closed}
use Rattle.kq_model.specs.Clock.{clock_from, clocked}
use Rattle.kq_model.specs.Descriptors.{named_among, is_before, with_descriptor, with_descriptors}
use Rattle.kq_model.specs.Processes as processes
use Rattle.kq_model.specs.Objects.{done, all_done, view_of, description_view}
use Rattle.kq_model.specs.Sockets.{socket_view}
use Rattle.kq_model.specs.Pipes.{pipe_view}
use Rattle.kq_model.specs.World as world
use Rattle.kq_model.specs.ProcessPlans.{plan_proc}
use Rattle.kq_model.specs.DescriptorPlans.{on_named, on_descriptor, plan_kqueue, plan_call, plan_kevent}
use Rattle.kq_model.specs.Plans.{plan}
use Rattle.kq_model.specs.Moment.{moment_of, happened, called_at, after_call, kqueue_step}
use Rattle.kq_model.specs.System as system
use Rattle.kq_model.specs.Spelling.{natural, integer, flags_data, change_data, members_of, record_data, header_data, line_text, records_text, spelling}
use Rattle.kq_model.specs.Report.{kevent_data, events_data, row_data, reply_line, row_lines, calls_in, events_in, call_count, event_count, last_line, report, report_of}

unfoldable pub system_opened : ⊤
unfolding serde_json_on_literals digits
    filter_among filter_named names_of
    hearing.notes_of watches_number is_timer find_knote
    side_seen amount_seen read_seen write_seen status_of process_seen notes_seen count_seen mark_of look_user look_by notice_or look is_simulated number_in named_in object_of file_of target_of target_eq is_target
    invalid_if is_readable is_writable is_file is_live_process process_in process_refusal own_refusal
    knote.always_clears knote.start_in knote.period_in knote.has_come knote.controlled knote.fresh knote.started knote.begun knote.replaced knote.restarted knote.changed knote.switched knote.activated knote.attended knote.made knote.modified
    unless_refused decided decision queue_for carried_out register
    event_flags event_of reset rested knotes_after stays back_after with_notice_told settled turned_at_look turned_at turned delivered after_turn retrieve retrieval
    number_of entry_of is_answered ended after process returned by_entries by_answer concluded call
    takes kept is_exit added heard_by unless_silent alerted if_there knotes_alerted queue_with queue_alerted queue_after_all notified
    forks_of all_forks heir with_heir followed_each
    closed clock_from clocked
    named_among is_before with_descriptor with_descriptors
    processes.was_used processes.is_live processes.process_of processes.ignored_by processes.with_start processes.with_process processes.without_process processes.with_disposition
    done all_done view_of socket_view pipe_view description_view
    world.named_by world.process_view world.view_in world.views_of world.with_kqueue world.clock_after world.carried_out
    plan_proc on_named on_descriptor plan_kqueue plan_call plan_kevent plan
    moment_of happened called_at after_call kqueue_step
    system.stepped system.lived system.born system.answer system.reply_to system.kqueue_of system.step_by system.step system.row_of system.system_after system.rows_after system.rows_by system.rows
    natural integer flags_data change_data members_of record_data header_data line_text records_text spelling
    kevent_data events_data row_data reply_line row_lines calls_in events_in call_count event_count last_line report report_of
system_opened = tt
