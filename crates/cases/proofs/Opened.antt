-- What a worked example computes with: the definitions of both layers that are shut elsewhere, each file's under one
-- name. A proof by `refl` says `unfolding opened`.
use Rattle.history.specs.Observations.{head_ok, evict, add, evict_ok, blank, add_all, start_store, ring_ok, sample_rows}
use Rattle.history.specs.Observations.{newest_in, entries_in, current_rows, at_rows, current_ok, at_ok, latest_ok}
use Rattle.history.specs.Observations.{repeats_at, crowded_at}
use Rattle.history.specs.Standing.{stands_in, with_entry, standing_from, entries_of, entries_rows, level_stands}
use Rattle.history.specs.Calls.{start_ok, start_both, start, room_for, observe_item, observe, observe_all, admitted}
use Rattle.history.specs.Calls.{observe_line, write_line}
use Rattle.history.specs.Calls.{observe_batch, keep_asset, store_asset, in_range, sample_between, sample_reply}
use Rattle.history.specs.Calls.{current_reply, current_up_to, at_reply, cell_rows, all_cells, cells_reply, find_all}
use Rattle.history.specs.Calls.{named_reply, down_from, answer_request, answer_reading, request, body}
use Rattle.history.specs.Reference.{keep, newest_or, last_or, size_wrong, unavailable, begin, observe_answer}
use Rattle.history.specs.Reference.{offers_answers, offers_next, batch_answer, line_answer, place}
use Rattle.history.specs.Reference.{store_answer, sample_for, current_for, at_for, held_rows, all_held}
use Rattle.history.specs.Reference.{places_of, newest_first, reply_to, reply_reading, reply, body_of}
use Rattle.history.specs.History.{stores_run, stores_after, reference_run, reference_after, call_outputs, stores_outputs}
use Rattle.history.specs.History.{reference_outputs, windows_of_outputs, windows_of, last_next, joined}
use Rattle.cases.specs.Bench.{bench_stores, bench_request}
use Rattle.spec.proofs.Opened as terms
use Rattle.lines.proofs.Examples as line_terms

unfoldable pub opened_observations : Unit {0}
unfolding head_ok evict add evict_ok blank add_all start_store ring_ok sample_rows newest_in entries_in current_rows at_rows
    current_ok at_ok latest_ok repeats_at crowded_at
opened_observations = tt

unfoldable pub opened_calls : Unit {0}
unfolding start_ok start_both start room_for observe_item observe observe_all admitted observe_batch observe_line write_line keep_asset
    store_asset
    in_range sample_between sample_reply current_reply current_up_to at_reply cell_rows all_cells cells_reply find_all named_reply
    down_from answer_request answer_reading request body
opened_calls = tt

unfoldable pub opened_standing : Unit {0}
unfolding stands_in with_entry standing_from entries_of entries_rows level_stands
opened_standing = tt

unfoldable pub opened_reference : Unit {0}
unfolding keep newest_or last_or size_wrong unavailable begin observe_answer offers_answers offers_next batch_answer line_answer
    place store_answer sample_for current_for at_for held_rows all_held places_of newest_first reply_to reply_reading reply
    body_of
opened_reference = tt

unfoldable pub opened_history : Unit {0}
unfolding stores_run stores_after reference_run reference_after call_outputs stores_outputs reference_outputs windows_of_outputs
    windows_of last_next joined
opened_history = tt

unfoldable pub opened_bench : Unit {0}
unfolding bench_stores bench_request
opened_bench = tt

unfoldable pub opened : Unit {0}
unfolding terms.opened line_terms.opened opened_observations opened_calls opened_standing opened_reference opened_history opened_bench
opened = tt
