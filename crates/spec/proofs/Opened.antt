-- What a worked example of the terms computes with: the definitions that are shut elsewhere, each file's under one name.
-- A proof by `refl` says `unfolding opened`.
use Rattle.spec.specs.Words.{every, first_where, any_below, count_below, pick_rows, set_of, row, put}
use Rattle.spec.specs.Bytes.{text_byte, name_byte, id_byte, all, same, before, join_first, split, digit, value_from}
use Rattle.spec.specs.Bytes.{is_number}
use Rattle.spec.specs.Value.{repeats, decode}
use Rattle.spec.specs.Model.{letters, zeros, cell_ok, names_ok, change_item, sizes_ok, component_ok, item_ok}
use Rattle.spec.specs.Model.{components_ok, items_ok, changes_ok, model_ok}
use Rattle.spec.specs.Text.{uri_ok, word_of, slot_of, takes_slot, add_part, add_parts, parameters, sample_request}
use Rattle.spec.specs.Text.{current_request, id_text, id_texts, asset_request, read_word, read_text}
use Rattle.spec.specs.Path.{typed_form, form_behind, form_of, is_named, under, in_subtree, in_typed, select_subtree}
use Rattle.spec.specs.Path.{select_typed, select_form, select}
use Rattle.spec.specs.Blocks.{table_rows, put_rows, padded, flat_rows}
use Rattle.spec.specs.Entries.{active, normal, any_entry, each_row, entered, cleared, step_active, step, repeats_in}
use Rattle.spec.specs.Entries.{crowded, used_rows, codes_differ, form_ok}
use Rattle.spec.specs.Assets.{asset_head_ok, id_ok, body_ok, asset_ok, find, renew, cell_for, store_cells, start_assets}
use Rattle.spec.specs.Assets.{length_ok, body_place}
use Rattle.spec.specs.Reply.{numbers, pairs, lengths, observation_words, asset_words, written, observation_reply}
use Rattle.spec.specs.Reply.{asset_reply, read_rows}

unfoldable pub opened_words : Unit {0}
unfolding every first_where any_below count_below pick_rows set_of row put
opened_words = tt

unfoldable pub opened_bytes : Unit {0}
unfolding text_byte name_byte id_byte all same before join_first split digit value_from is_number
opened_bytes = tt

unfoldable pub opened_value : Unit {0}
unfolding repeats decode
opened_value = tt

unfoldable pub opened_model : Unit {0}
unfolding letters zeros cell_ok names_ok change_item sizes_ok component_ok item_ok components_ok items_ok changes_ok model_ok
opened_model = tt

unfoldable pub opened_text : Unit {0}
unfolding uri_ok word_of slot_of takes_slot add_part add_parts parameters sample_request current_request id_text id_texts
    asset_request read_word read_text
opened_text = tt

unfoldable pub opened_path : Unit {0}
unfolding typed_form form_behind form_of is_named under in_subtree in_typed select_subtree select_typed select_form select
opened_path = tt

unfoldable pub opened_entries : Unit {0}
unfolding table_rows put_rows padded flat_rows active normal any_entry each_row entered cleared step_active step repeats_in
    crowded used_rows codes_differ form_ok
opened_entries = tt

unfoldable pub opened_assets : Unit {0}
unfolding asset_head_ok id_ok body_ok asset_ok find renew cell_for store_cells start_assets length_ok body_place
opened_assets = tt

unfoldable pub opened_reply : Unit {0}
unfolding numbers pairs lengths observation_words asset_words written observation_reply asset_reply read_rows
opened_reply = tt

unfoldable pub opened : Unit {0}
unfolding opened_words opened_bytes opened_value opened_model opened_text opened_path opened_entries opened_assets opened_reply
opened = tt
