-- The line of a report for the outcome of an event, under the labels of the members.
use Rattle.std.specs.Prelude.{ℕ, Bool, true, false, if◌then◌else◌, List, [], map, length, codes, Option, Some, None}
use Rattle.std.specs.List.{filter}
use Rattle.repo_catalog.specs.declared.entry.Entry.{Entry}
use Rattle.script_report.specs.Texts.{publish_text, deliver_steady_text, deliver_suppressed_text, sync_text}
use Rattle.script_report.specs.Texts.{advance_text, fire_early_text, fire_quiet_text, fire_sent_text, restart_text}
use Rattle.script_report.specs.Texts.{part_text, claim_none_text, answer_kept_text, answer_none_text, fetch_text}
use Rattle.script_report.specs.Texts.{settle_text, feed_kept_text, feed_refused_text, dump_hex_text, dump_none_text}
use Rattle.script_report.specs.Texts.{hear_steady_text, hear_suppressed_text, hear_refused_text, ask_found_text}
use Rattle.script_report.specs.Texts.{ask_none_text, ask_refused_text, command_text, block_300_text, block_404_text}
use Rattle.script_report.specs.Texts.{block_200_text, block_published_text, vector_text, catalogue_text, summary_text}
use Rattle.script_report.specs.Texts.{traffic_text, withdraw_text}
use Rattle.script_report.specs.Texts as report
use Rattle.repo_watch.specs.Watching.{Watching, is_news}
use Rattle.bench_world.specs.EventValues.{ReportValue}
use Rattle.script_report.specs.Labels.{label_at, publisher_label}
use Rattle.script_story.specs.RefusalTexts.{hear_refusal_text, part_refusal_text, packet_fault_text}

-- The text of an event's report. It is empty where nothing is reported.
abbrev pub report_text : List (List ℕ) → ReportValue → List ℕ
report_text labels ReportValue.Nothing = []
report_text labels (ReportValue.Publish m seq segments sync) = publish_text (label_at labels m) seq segments sync
report_text labels (ReportValue.Withdraw m seq withdrawn sync) = withdraw_text (label_at labels m) seq withdrawn sync
report_text labels (ReportValue.DeliverSteady k m) = deliver_steady_text k (label_at labels m)
report_text labels (ReportValue.DeliverSuppressed k m) = deliver_suppressed_text k (label_at labels m)
report_text labels (ReportValue.Sync k octets) = sync_text k octets
report_text labels (ReportValue.Advance now) = advance_text now
report_text labels (ReportValue.FireEarly m) = fire_early_text (label_at labels m)
report_text labels (ReportValue.FireQuiet m) = fire_quiet_text (label_at labels m)
report_text labels (ReportValue.FireSent m k) = fire_sent_text (label_at labels m) k
report_text labels (ReportValue.Restart m) = restart_text (label_at labels m)
report_text labels (ReportValue.Vector m members numbers) =
    vector_text (label_at labels m) (map (label_at labels) members) numbers
report_text labels (ReportValue.Catalogue m count entries) =
    catalogue_text (label_at labels m) count (map (publisher_label labels) entries) entries
report_text labels (ReportValue.ClaimPart m f publisher seq x) =
    part_text (codes "claim") (label_at labels m) f (label_at labels publisher) seq x
report_text labels (ReportValue.ClaimNone m f) = claim_none_text (label_at labels m) f
report_text labels (ReportValue.Lose m f publisher seq x) =
    part_text (codes "lose") (label_at labels m) f (label_at labels publisher) seq x
report_text labels (ReportValue.AnswerKept m f) = answer_kept_text (label_at labels m) f
report_text labels (ReportValue.AnswerNone m f) = answer_none_text (label_at labels m) f
report_text labels (ReportValue.Fetch m planned kept attempts) = fetch_text (label_at labels m) planned kept attempts
report_text labels (ReportValue.Settle syncs kept) = settle_text syncs kept
report_text labels (ReportValue.DumpHex m octets) = dump_hex_text (label_at labels m) octets
report_text labels (ReportValue.DumpNone m) = dump_none_text (label_at labels m)
report_text labels (ReportValue.HearSteady m) = hear_steady_text (label_at labels m)
report_text labels (ReportValue.HearSuppressed m) = hear_suppressed_text (label_at labels m)
report_text labels (ReportValue.HearRefused m refusal) =
    hear_refused_text (label_at labels m) (hear_refusal_text labels refusal)
report_text labels (ReportValue.AskFound m octets) = ask_found_text (label_at labels m) octets
report_text labels (ReportValue.AskNone m) = ask_none_text (label_at labels m)
report_text labels (ReportValue.AskRefused m refusal) = ask_refused_text (label_at labels m) (packet_fault_text refusal)
report_text labels (ReportValue.FeedKept m f) = feed_kept_text (label_at labels m) f
report_text labels (ReportValue.FeedRefused m f refusal) =
    feed_refused_text (label_at labels m) f (part_refusal_text refusal)
report_text labels (ReportValue.Order m code process inserted deleted) =
    command_text (codes "order") (label_at labels m) code process inserted deleted
report_text labels (ReportValue.Insert m code process inserted deleted) =
    command_text (codes "insert") (label_at labels m) code process inserted deleted
report_text labels (ReportValue.Status m code process inserted deleted) =
    command_text (codes "status") (label_at labels m) code process inserted deleted
report_text labels (ReportValue.Delete m code process inserted deleted) =
    command_text (codes "delete") (label_at labels m) code process inserted deleted
report_text labels (ReportValue.Block300 m) = block_300_text (label_at labels m)
report_text labels (ReportValue.Block404 m) = block_404_text (label_at labels m)
report_text labels (ReportValue.Block200 m) = block_200_text (label_at labels m)
report_text labels (ReportValue.BlockPublished m seq sync) = block_published_text (label_at labels m) seq sync
report_text labels (ReportValue.Summary members entries segments octets) =
    summary_text (map (label_at labels) members) entries segments octets
report_text labels (ReportValue.Traffic syncs delivered attempts parts octets) =
    traffic_text syncs delivered attempts parts octets

-- ---- the kinds of what is reported, as the code goes through them

-- The report is that of an `order` or a `delete` line.
abbrev pub of_commands : ReportValue → Bool
of_commands (ReportValue.Order m code process inserted deleted) = true
of_commands (ReportValue.Delete m code process inserted deleted) = true
of_commands printed = false

-- The report is one of `of_commands`, or that of an `insert`, `status` or `block` line.
abbrev pub of_insertions : ReportValue → Bool
of_insertions (ReportValue.Insert m code process inserted deleted) = true
of_insertions (ReportValue.Status m code process inserted deleted) = true
of_insertions (ReportValue.Block300 m) = true
of_insertions (ReportValue.Block404 m) = true
of_insertions (ReportValue.Block200 m) = true
of_insertions (ReportValue.BlockPublished m seq sync) = true
of_insertions printed = of_commands printed

-- The report is one of `of_insertions`, or that of a `fetch`, `dump`, `hear`, `ask` or `feed` line.
abbrev pub of_packets : ReportValue → Bool
of_packets (ReportValue.Fetch m planned kept attempts) = true
of_packets (ReportValue.DumpHex m octets) = true
of_packets (ReportValue.DumpNone m) = true
of_packets (ReportValue.HearSteady m) = true
of_packets (ReportValue.HearSuppressed m) = true
of_packets (ReportValue.HearRefused m refusal) = true
of_packets (ReportValue.AskFound m octets) = true
of_packets (ReportValue.AskNone m) = true
of_packets (ReportValue.AskRefused m refusal) = true
of_packets (ReportValue.FeedKept m f) = true
of_packets (ReportValue.FeedRefused m f refusal) = true
of_packets printed = of_insertions printed

-- The report is one of `of_packets`, or that of a `claim`, `lose` or `answer` line.
abbrev pub of_parts : ReportValue → Bool
of_parts (ReportValue.ClaimPart m f publisher seq x) = true
of_parts (ReportValue.ClaimNone m f) = true
of_parts (ReportValue.Lose m f publisher seq x) = true
of_parts (ReportValue.AnswerKept m f) = true
of_parts (ReportValue.AnswerNone m f) = true
of_parts printed = of_packets printed

-- The report is one of `of_parts`, or that of a `vector`, `catalogue`, `settle`, `summary` or `traffic` line.
abbrev pub of_group : ReportValue → Bool
of_group (ReportValue.Vector m members numbers) = true
of_group (ReportValue.Catalogue m count entries) = true
of_group (ReportValue.Settle syncs kept) = true
of_group (ReportValue.Summary members entries segments octets) = true
of_group (ReportValue.Traffic syncs delivered attempts parts octets) = true
of_group printed = of_parts printed

-- The text of a report that `is_of` is true of, and an empty text for any other.
abbrev pub report_text_if : (ReportValue → Bool) → List (List ℕ) → ReportValue → List ℕ
report_text_if is_of labels printed = if is_of printed then report_text labels printed else []

-- ---- what is reported to watchers, and what mirrors list

-- The entries that are news to the watcher, if there is one.
abbrev pub news_in : Option Watching → List Entry → List Entry
news_in None entries = []
news_in (Some watching) entries = filter (is_news watching) entries

-- What is reported to the watcher of this number, under a member's label or by the member's number.
abbrev pub labelled_news : List (List ℕ) → List ℕ → ℕ → List Entry → List ℕ
labelled_news labels label number entries =
    report.told_text label number (length entries) (map (publisher_label labels) entries) entries

-- The report of a `told` line.
abbrev pub news_text : List (List ℕ) → ℕ → ℕ → List Entry → List ℕ
news_text labels m number entries = labelled_news labels (label_at labels m) number entries

-- What a mirror lists, under its label.
abbrev pub listing_text : List (List ℕ) → List ℕ → List Entry → List ℕ
listing_text labels label entries =
    report.mcatalogue_text label (length entries) (map (publisher_label labels) entries) entries
