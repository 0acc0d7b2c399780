use Rattle.std.proofs.Common.{refl}
use Rattle.std.specs.Fmt.{digits}
use Rattle.hex.specs.Hex.{decode_pairs, encode_with}
use Rattle.sha2.specs.Sha256.{compress, digest_bytes, first_words, hash_after, rounds, schedule, sha256}
use Rattle.ndn_tlv.specs.Spelling.{number}
use Rattle.ndn_name.specs.Names.{encoding}
use Rattle.ndn_name.specs.UriText.{after_word, component_of_text, components_of_texts, cut_at, name_of_text}
use Rattle.ndn_name.specs.UriText.{octets_of_digits, unescaped}
use Rattle.svs_vector.specs.Vectors.{covers, join, join_all}
use Rattle.svs_sync.specs.SyncStates.{state_after_events, state_after_event}
use Rattle.svs_sync.specs.Suppression.{after_sync_event, after_sync_events}
use Rattle.script_lang.specs.Kinds.{content_of, filled_of, hex_of, label_of, publisher_of, uri_of, numeral_of}
use Rattle.script_lang.specs.Lines.{verb_named, values_of}
use Rattle.script_report.specs.Texts.{entries_text, line, labelled_numbers, summary_text}
use Rattle.repo_io.specs.Lines.{lines}
use Rattle.script_story.specs.Evaluation.{acted, acted_by, evaluated, evaluated_line, line_taken}
use Rattle.script_story.specs.ScriptRun.{run_from}
use Rattle.script_story.proofs.laws.small_runs.Goals as goal

pub returns-clause-nothing : goal.returns-clause-nothing
unfolding lines run_from
returns-clause-nothing c = λ env. record { text_is = refl; ending_is = refl }

pub returns-clause-no_group : goal.returns-clause-no_group
unfolding decode_pairs digits number encoding after_word component_of_text components_of_texts cut_at name_of_text
    octets_of_digits unescaped covers join join_all state_after_events state_after_event after_sync_event
    after_sync_events
    content_of filled_of hex_of label_of uri_of numeral_of verb_named values_of entries_text line labelled_numbers
    summary_text lines acted acted_by line_taken evaluated_line evaluated run_from
returns-clause-no_group c = λ env. record { text_is = refl; ending_is = refl }

pub returns-clause-group_alone : goal.returns-clause-group_alone
unfolding decode_pairs digits number encoding after_word component_of_text components_of_texts cut_at name_of_text
    octets_of_digits unescaped covers join join_all state_after_events state_after_event after_sync_event
    after_sync_events
    content_of filled_of hex_of label_of uri_of numeral_of verb_named values_of entries_text line labelled_numbers
    summary_text lines acted acted_by line_taken evaluated_line evaluated run_from
returns-clause-group_alone c = λ env. record { text_is = refl; ending_is = refl }

pub returns-clause-nobody : goal.returns-clause-nobody
unfolding decode_pairs digits number encoding after_word component_of_text components_of_texts cut_at name_of_text
    octets_of_digits unescaped covers join join_all state_after_events state_after_event after_sync_event
    after_sync_events
    content_of filled_of hex_of label_of uri_of numeral_of verb_named values_of entries_text line labelled_numbers
    summary_text lines acted acted_by line_taken evaluated_line evaluated run_from
returns-clause-nobody c = λ env. record { text_is = refl; ending_is = refl }

pub returns-clause-published : goal.returns-clause-published
unfolding decode_pairs digits number encoding after_word component_of_text components_of_texts cut_at name_of_text
    octets_of_digits unescaped covers join join_all state_after_events state_after_event after_sync_event
    after_sync_events
    content_of filled_of hex_of label_of uri_of numeral_of verb_named values_of entries_text line labelled_numbers
    summary_text lines acted acted_by line_taken evaluated_line evaluated run_from
returns-clause-published c = λ env. record { text_is = refl; ending_is = refl }

pub returns-clause-withdrawn : goal.returns-clause-withdrawn
unfolding decode_pairs digits number encoding after_word component_of_text components_of_texts cut_at name_of_text
    octets_of_digits unescaped covers join join_all state_after_events state_after_event after_sync_event
    after_sync_events
    content_of filled_of hex_of label_of uri_of numeral_of verb_named values_of entries_text line labelled_numbers
    summary_text lines acted acted_by line_taken evaluated_line evaluated run_from
returns-clause-withdrawn c = λ env. record { text_is = refl; ending_is = refl }

pub returns-clause-watched : goal.returns-clause-watched
unfolding decode_pairs digits number encoding after_word component_of_text components_of_texts cut_at name_of_text
    octets_of_digits unescaped covers join join_all state_after_events state_after_event after_sync_event
    after_sync_events
    content_of filled_of hex_of label_of publisher_of uri_of numeral_of verb_named values_of entries_text line
    labelled_numbers summary_text lines acted acted_by line_taken evaluated_line evaluated run_from
returns-clause-watched c = λ env. record { text_is = refl; ending_is = refl }

pub returns-clause-mirrored : goal.returns-clause-mirrored
unfolding decode_pairs encode_with digits number encoding after_word component_of_text components_of_texts cut_at
    name_of_text octets_of_digits unescaped covers join join_all state_after_events state_after_event after_sync_event
    after_sync_events content_of filled_of hex_of label_of publisher_of uri_of numeral_of verb_named values_of
    entries_text line labelled_numbers summary_text lines acted acted_by line_taken evaluated_line evaluated run_from
    sha256 digest_bytes hash_after compress rounds schedule first_words
returns-clause-mirrored c = λ env. record { text_is = refl; ending_is = refl }
