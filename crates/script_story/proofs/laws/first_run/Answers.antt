use Rattle.std.proofs.Common.{refl}
use Rattle.std.specs.Fmt.{digits}
use Rattle.hex.specs.Hex.{decode_pairs, encode_with}
use Rattle.sha2.specs.Sha256.{compress, digest_bytes, first_words, hash_after, rounds, schedule, sha256}
use Rattle.ndn_tlv.specs.Spelling.{number}
use Rattle.ndn_name.specs.Names.{encoding}
use Rattle.ndn_name.specs.UriText.{after_word, component_of_text, components_of_texts, cut_at, name_of_text}
use Rattle.ndn_name.specs.UriText.{octets_of_digits, unescaped}
use Rattle.repo_object.specs.Publication.{segment_packets_from}
use Rattle.repo_object.specs.Records.{digests_among}
use Rattle.svs_vector.specs.Vectors.{covers, join, join_all}
use Rattle.svs_sync.specs.SyncStates.{state_after_events, state_after_event}
use Rattle.svs_sync.specs.Suppression.{after_sync_event, after_sync_events}
use Rattle.script_lang.specs.Kinds.{content_of, filled_of, hex_of, label_of, uri_of, numeral_of}
use Rattle.script_lang.specs.Lines.{verb_named, values_of}
use Rattle.script_report.specs.Texts.{entries_text, line, labelled_numbers, summary_text}
use Rattle.repo_io.specs.Lines.{lines}
use Rattle.script_story.specs.Evaluation.{acted, acted_by, evaluated, evaluated_line, line_taken}
use Rattle.script_story.specs.ScriptRun.{run_from}
use Rattle.script_story.proofs.laws.first_run.Goals as goal

pub returns : goal.returns
unfolding decode_pairs encode_with digits number encoding after_word component_of_text components_of_texts cut_at
    name_of_text octets_of_digits unescaped covers join join_all state_after_events state_after_event after_sync_event
    after_sync_events content_of filled_of hex_of label_of uri_of numeral_of verb_named values_of entries_text line
    labelled_numbers summary_text lines acted acted_by line_taken evaluated_line evaluated run_from sha256 digest_bytes
    hash_after compress rounds schedule first_words segment_packets_from digests_among
returns c = λ env. record { text_is = refl; ending_is = refl }
