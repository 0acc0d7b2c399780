-- The lines of a report, form by form: what each says of its values, in the order in which they are printed.
use Rattle.std.specs.Prelude.{ℕ, List, [], ◌∷◌, ◌++◌, codes, Option, Some, None}
use Rattle.std.specs.Fmt.{decimal}
use Rattle.std.specs.List.{flat_map}
use Rattle.hex.specs.Hex.{encode_lower}
use Rattle.ndn_name.specs.Uri.{uri}
use Rattle.repo_catalog.specs.declared.entry.Entry.{Entry}

-- ---- a line

-- Words, each after a space.
abbrev pub after_spaces : List (List ℕ) → List ℕ
after_spaces words = flat_map (λ word. 32 ∷ word) words

-- A line is its first word, the others, and a line feed.
unfoldable pub line : List ℕ → List (List ℕ) → List ℕ
line first words = first ++ (after_spaces words ++ 10 ∷ [])

-- ---- events

-- A publication: its member, its number, how many segments it has, and the number of its sync Interest.
abbrev pub publish_text : List ℕ → ℕ → ℕ → ℕ → List ℕ
publish_text m seq segments sync = line (codes "publish")
    (m ∷ decimal seq ∷ codes "segments" ∷ decimal segments ∷ codes "sync" ∷ decimal sync ∷ [])

-- A withdrawal.
abbrev pub withdraw_text : List ℕ → ℕ → ℕ → ℕ → List ℕ
withdraw_text m seq withdrawn sync = line (codes "withdraw")
    (m ∷ decimal seq ∷ codes "of" ∷ decimal withdrawn ∷ codes "sync" ∷ decimal sync ∷ [])

-- A member heard sync Interest `k`, and is Steady then.
abbrev pub deliver_steady_text : ℕ → List ℕ → List ℕ
deliver_steady_text k m = line (codes "deliver") (decimal k ∷ m ∷ codes "steady" ∷ [])

-- A member heard sync Interest `k`, and is Suppressed then.
abbrev pub deliver_suppressed_text : ℕ → List ℕ → List ℕ
deliver_suppressed_text k m = line (codes "deliver") (decimal k ∷ m ∷ codes "suppressed" ∷ [])

-- The octets of sync Interest `k`.
abbrev pub sync_text : ℕ → List ℕ → List ℕ
sync_text k octets = line (codes "sync") (decimal k ∷ encode_lower octets ∷ [])

-- The time after it advanced, in milliseconds.
abbrev pub advance_text : ℕ → List ℕ
advance_text now = line (codes "advance") (codes "now" ∷ decimal now ∷ [])

-- A member's timer wasn't due yet.
abbrev pub fire_early_text : List ℕ → List ℕ
fire_early_text m = line (codes "fire") (m ∷ codes "early" ∷ [])

-- A member's timer was due, and it sent nothing, because what it heard has all that it knows of.
abbrev pub fire_quiet_text : List ℕ → List ℕ
fire_quiet_text m = line (codes "fire") (m ∷ codes "quiet" ∷ [])

-- A member's timer was due, and it sent sync Interest `k`.
abbrev pub fire_sent_text : List ℕ → ℕ → List ℕ
fire_sent_text m k = line (codes "fire") (m ∷ codes "sent" ∷ decimal k ∷ [])

-- A member started again.
abbrev pub restart_text : List ℕ → List ℕ
restart_text m = line (codes "restart") (m ∷ [])

-- ---- parts

-- A fetcher of a member, and the part that it claimed or gave back: its publisher's label, the number, the place.
abbrev pub part_text : List ℕ → List ℕ → ℕ → List ℕ → ℕ → ℕ → List ℕ
part_text verb m f label seq x = line verb
    (m ∷ decimal f ∷ codes "part" ∷ label ∷ decimal seq ∷ decimal x ∷ [])

-- A fetcher of a member found no part to claim.
abbrev pub claim_none_text : List ℕ → ℕ → List ℕ
claim_none_text m f = line (codes "claim") (m ∷ decimal f ∷ codes "none" ∷ [])

-- What was answered for a fetcher's claim was kept.
abbrev pub answer_kept_text : List ℕ → ℕ → List ℕ
answer_kept_text m f = line (codes "answer") (m ∷ decimal f ∷ codes "kept" ∷ [])

-- Nothing that was answered for a fetcher's claim was kept.
abbrev pub answer_none_text : List ℕ → ℕ → List ℕ
answer_none_text m f = line (codes "answer") (m ∷ decimal f ∷ codes "none" ∷ [])

-- A fetch by a member or a mirror: how many parts were planned, how many of them were received, and in how many
-- attempts.
abbrev pub fetched_text : List ℕ → List ℕ → ℕ → ℕ → ℕ → List ℕ
fetched_text verb label planned kept attempts = line verb
    (label ∷ codes "planned" ∷ decimal planned ∷ codes "kept" ∷ decimal kept
    ∷ codes "attempts" ∷ decimal attempts ∷ [])

-- A fetch by a member.
abbrev pub fetch_text : List ℕ → ℕ → ℕ → ℕ → List ℕ
fetch_text m planned kept attempts = fetched_text (codes "fetch") m planned kept attempts

-- A settle: how many sync Interests were sent, and how many parts became held.
abbrev pub settle_text : ℕ → ℕ → List ℕ
settle_text syncs kept = line (codes "settle")
    (codes "syncs" ∷ decimal syncs ∷ codes "kept" ∷ decimal kept ∷ [])

-- Octets from outside were kept for a fetcher's claim.
abbrev pub feed_kept_text : List ℕ → ℕ → List ℕ
feed_kept_text m f = line (codes "feed") (m ∷ decimal f ∷ codes "kept" ∷ [])

-- Octets from outside were refused for a fetcher's claim, and why.
abbrev pub feed_refused_text : List ℕ → ℕ → List ℕ → List ℕ
feed_refused_text m f refusal = line (codes "feed") (m ∷ decimal f ∷ codes "refused" ∷ refusal ∷ [])

-- ---- octets that are printed, and octets from outside

-- The packet that a member holds of a part.
abbrev pub dump_hex_text : List ℕ → List ℕ → List ℕ
dump_hex_text m octets = line (codes "dump") (m ∷ encode_lower octets ∷ [])

-- A member holds no packet of the part.
abbrev pub dump_none_text : List ℕ → List ℕ
dump_none_text m = line (codes "dump") (m ∷ codes "none" ∷ [])

-- A member took octets as a sync Interest, and is Steady then.
abbrev pub hear_steady_text : List ℕ → List ℕ
hear_steady_text m = line (codes "hear") (m ∷ codes "steady" ∷ [])

-- A member took octets as a sync Interest, and is Suppressed then.
abbrev pub hear_suppressed_text : List ℕ → List ℕ
hear_suppressed_text m = line (codes "hear") (m ∷ codes "suppressed" ∷ [])

-- A member refused octets as a sync Interest, and why.
abbrev pub hear_refused_text : List ℕ → List ℕ → List ℕ
hear_refused_text m refusal = line (codes "hear") (m ∷ codes "refused" ∷ refusal ∷ [])

-- The packet with which a member answers an Interest.
abbrev pub ask_found_text : List ℕ → List ℕ → List ℕ
ask_found_text m octets = line (codes "ask") (m ∷ codes "found" ∷ encode_lower octets ∷ [])

-- A member holds no packet that answers the Interest.
abbrev pub ask_none_text : List ℕ → List ℕ
ask_none_text m = line (codes "ask") (m ∷ codes "none" ∷ [])

-- The octets are no Interest, and why.
abbrev pub ask_refused_text : List ℕ → List ℕ → List ℕ
ask_refused_text m refusal = line (codes "ask") (m ∷ codes "refused" ∷ refusal ∷ [])

-- ---- commands

-- A word and a number, where there is one.
abbrev pub field : List ℕ → Option ℕ → List (List ℕ)
field word None = []
field word (Some n) = word ∷ decimal n ∷ []

-- What a command was answered.
abbrev pub command_text : List ℕ → List ℕ → ℕ → Option ℕ → Option ℕ → Option ℕ → List ℕ
command_text verb m code process inserted deleted = line verb
    (m ∷ decimal code ∷ field (codes "process") process ++ field (codes "inserted") inserted
    ++ field (codes "packets") deleted)

-- A block was taken, and others of its process are missing.
abbrev pub block_300_text : List ℕ → List ℕ
block_300_text m = line (codes "block") (m ∷ codes "300" ∷ [])

-- A block was given for a process or an index that doesn't exist.
abbrev pub block_404_text : List ℕ → List ℕ
block_404_text m = line (codes "block") (m ∷ codes "404" ∷ [])

-- A block was given for a process whose object is published.
abbrev pub block_200_text : List ℕ → List ℕ
block_200_text m = line (codes "block") (m ∷ codes "200" ∷ [])

-- A block was the last of its process: the number of the publication, and that of its sync Interest.
abbrev pub block_published_text : List ℕ → ℕ → ℕ → List ℕ
block_published_text m seq sync = line (codes "block")
    (m ∷ codes "200" ∷ codes "published" ∷ decimal seq ∷ codes "sync" ∷ decimal sync ∷ [])

-- ---- readings

-- `LABEL=N` for each member
unfoldable pub labelled_numbers : List (List ℕ) → List ℕ → List (List ℕ)
labelled_numbers [] numbers = []
labelled_numbers (label ∷ labels) [] = []
labelled_numbers (label ∷ labels) (n ∷ numbers) = (label ++ codes "=" ++ decimal n) ∷ labelled_numbers labels numbers

-- The state vector of a member.
abbrev pub vector_text : List ℕ → List (List ℕ) → List ℕ → List ℕ
vector_text m labels numbers = line (codes "vector") (m ∷ labelled_numbers labels numbers)

-- An entry of a catalogue, under its publisher's label.
abbrev pub entry_text : List ℕ → Entry → List ℕ
entry_text label e = line (codes "entry")
    (label ∷ decimal e.seq ∷ uri e.name ∷ codes "segments" ∷ decimal e.segments
    ∷ codes "octets" ∷ decimal e.octets ∷ codes "sha256" ∷ encode_lower e.digest ∷ [])

-- Entries, each under its publisher's label.
unfoldable pub entries_text : List (List ℕ) → List Entry → List ℕ
entries_text [] entries = []
entries_text (label ∷ labels) [] = []
entries_text (label ∷ labels) (e ∷ entries) = entry_text label e ++ entries_text labels entries

-- The catalogue of a member: the number of its entries, and the entries.
abbrev pub catalogue_text : List ℕ → ℕ → List (List ℕ) → List Entry → List ℕ
catalogue_text m count labels entries =
    line (codes "catalogue") (m ∷ decimal count ∷ []) ++ entries_text labels entries

-- ---- watchers and mirrors

-- A watcher of a member, by its number.
abbrev pub watch_text : List ℕ → ℕ → List ℕ
watch_text m w = line (codes "watch") (m ∷ decimal w ∷ [])

-- The news of a watcher: the number of entries, and the entries.
abbrev pub told_text : List ℕ → ℕ → ℕ → List (List ℕ) → List Entry → List ℕ
told_text m w count labels entries =
    line (codes "told") (m ∷ decimal w ∷ decimal count ∷ []) ++ entries_text labels entries

-- A mirror heard sync Interest `k`.
abbrev pub mdeliver_text : ℕ → List ℕ → List ℕ
mdeliver_text k l = line (codes "mdeliver") (decimal k ∷ l ∷ [])

-- A fetch by a mirror.
abbrev pub mfetch_text : List ℕ → ℕ → ℕ → ℕ → List ℕ
mfetch_text l planned kept attempts = fetched_text (codes "mfetch") l planned kept attempts

-- The catalogue of a mirror: the number of its entries, and the entries.
abbrev pub mcatalogue_text : List ℕ → ℕ → List (List ℕ) → List Entry → List ℕ
mcatalogue_text l count labels entries =
    line (codes "mcatalogue") (l ∷ decimal count ∷ []) ++ entries_text labels entries

-- ---- totals

-- The totals of a member's catalogue.
abbrev pub totals_text : List ℕ → ℕ → ℕ → ℕ → List ℕ
totals_text label entries segments octets = line (codes "summary")
    (label ∷ codes "entries" ∷ decimal entries ∷ codes "segments" ∷ decimal segments
    ∷ codes "octets" ∷ decimal octets ∷ [])

-- The totals of each member's catalogue, one line each.
unfoldable pub summary_text : List (List ℕ) → List ℕ → List ℕ → List ℕ → List ℕ
summary_text [] entries segments octets = []
summary_text (label ∷ labels) [] segments octets = []
summary_text (label ∷ labels) (e ∷ entries) [] octets = []
summary_text (label ∷ labels) (e ∷ entries) (s ∷ segments) [] = []
summary_text (label ∷ labels) (e ∷ entries) (s ∷ segments) (o ∷ octets) =
    totals_text label e s o ++ summary_text labels entries segments octets

-- What was counted: sync Interests sent and delivered, attempts, and parts that were received, with their octets.
abbrev pub traffic_text : ℕ → ℕ → ℕ → ℕ → ℕ → List ℕ
traffic_text syncs delivered attempts parts octets = line (codes "traffic")
    (codes "syncs" ∷ decimal syncs ∷ codes "delivered" ∷ decimal delivered
    ∷ codes "attempts" ∷ decimal attempts ∷ codes "parts" ∷ decimal parts ∷ codes "octets" ∷ decimal octets ∷ [])

-- ---- journals of a live group

-- The first line of a member's journal: how many entries follow.
abbrev pub journal_text : List ℕ → ℕ → List ℕ
journal_text m count = line (codes "journal") (m ∷ decimal count ∷ [])

-- The next object of the member's list was published under this number.
abbrev pub journal_publish_text : ℕ → List ℕ
journal_publish_text seq = line (codes "publish") (decimal seq ∷ [])

-- Octets were heard, with this result.
abbrev pub journal_hear_text : List ℕ → List ℕ → List ℕ
journal_hear_text octets how = line (codes "hear") (encode_lower octets ∷ how ∷ [])

-- A fetcher, and the part that it claimed or lost: its publisher's label, the number, the place.
abbrev pub journal_part_text : List ℕ → ℕ → List ℕ → ℕ → ℕ → List ℕ
journal_part_text verb f label seq x =
    line verb (decimal f ∷ codes "part" ∷ label ∷ decimal seq ∷ decimal x ∷ [])

-- A fetcher that claimed or lost no part, and why.
abbrev pub journal_fetcher_text : List ℕ → ℕ → List ℕ → List ℕ
journal_fetcher_text verb f why = line verb (decimal f ∷ why ∷ [])

-- A fetcher, the part whose packet was received for it, and the result.
abbrev pub journal_feed_text : ℕ → List ℕ → ℕ → ℕ → List ℕ → List ℕ
journal_feed_text f label seq x how =
    line (codes "feed") (decimal f ∷ label ∷ decimal seq ∷ decimal x ∷ how ∷ [])

-- ---- the end

-- The line of this number was refused: the number of the refusal, and its word.
abbrev pub refused_text : ℕ → ℕ → List ℕ → List ℕ
refused_text number refusal word = line (codes "refused") (decimal number ∷ decimal refusal ∷ word ∷ [])

-- The line of this number brought octets that pass every check, and that nobody of the group made.
abbrev pub foreign_text : ℕ → List ℕ
foreign_text number = line (codes "foreign") (decimal number ∷ [])
