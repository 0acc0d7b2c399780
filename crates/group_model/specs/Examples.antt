-- Small groups, with what happens to them and what they reply. The definitions compute the replies.
use Rattle.std.specs.Prelude.{ℕ, ◌≡◌, ◌==◌, true, false, List, [], ◌∷◌, map, codes, replicate, Option, Some, None, Ok}
use Rattle.std.specs.Prelude.{Err, if◌then◌else◌}
use Rattle.sha2.specs.Sha256.{sha256}
use Rattle.ndn_name.specs.Names.{Component}
use Rattle.repo_plan.specs.declared.part.Part.{Part}
use Rattle.sorted_lists.specs.SortedList.{contains}
use Rattle.repo_plan.specs.Parts.{part_cmp, part_of}
use Rattle.repo_catalog.specs.declared.entry.Entry.{Entry}
use Rattle.svs_sync.specs.declared.mode.Mode.TheVariants.{Steady, Suppressed}
use Rattle.repo_object.specs.Objects.{NamedContents}
use Rattle.group_model.specs.Publications.{Logs, no_post, join_of}
use Rattle.repo_command.specs.Answers.{code_only}
use Rattle.repo_command.specs.declared.command.Command.TheVariants.{Insert, Check, Delete}
use Rattle.group_model.specs.Events.{Response, Found, Event}
use Rattle.group_model.specs.Events.Response.{Nothing, Its, Another}
use Rattle.group_model.specs.Events.Found.{NoPacket, Packet}
use Rattle.group_model.specs.Events.Event.{Publish, Deliver, Sync, Advance, Fire, Restart, Vector, Catalogue, Claim}
use Rattle.group_model.specs.Events.Event.{Lose, Answer, Fetch, Settle, Dump, Hear, Ask, Feed, Order, Issue, Block}
use Rattle.group_model.specs.Events.Event.{Summary, Traffic}
use Rattle.group_model.specs.Replies.{Reply}
use Rattle.group_model.specs.Replies.Reply.{Published, Delivered, Synced, Advanced, Early, Quiet, Sent, Restarted}
use Rattle.group_model.specs.Replies.Reply.{Numbers, Entries, Claimed, Lost, Answered, Fetched, Settled, Dumped, Heard}
use Rattle.group_model.specs.Replies.Reply.{HearRefused, OwnNumberAhead, Asked, Fed, Commanded, NoBlock, BlockKept}
use Rattle.group_model.specs.Replies.Reply.{BlockLate, BlockPublished, Summed, Counted}
use Rattle.group_model.specs.World.{Environment, World, no_member, initial_world, logs}
use Rattle.group_model.specs.Steps.{replies, after_event, after_events}
use Rattle.group_model.specs.Refusals.{Refusal, refusal}
use Rattle.group_model.specs.Refusals.Refusal.{NoSuchPacket, FetcherBusy, FetcherIdle, Foreign, NumbersSpent}

-- ---- what is given

-- A member gives what it holds.
abbrev pub gives_held : Logs → List Part → Part → Response
gives_held logs held t = if contains part_cmp held t then Its else Nothing

-- Every draw is 100, the network passes all, and a record has 118 octets and a segment 79.
abbrev pub plain_outside : Environment
plain_outside = record {
  draw = λ _ _. 100;
  passes = λ _ _ _ _. true;
  serves = gives_held;
  size = λ _ t. if t.part == 0 then 118 else 79;
}

-- The network passes third attempts alone.
abbrev pub third : Environment
third = record plain_outside { passes = λ _ _ attempt _. attempt == 3 }

-- What refuses each event of a list, if something does.
abbrev pub refusals : Environment → World → List Event → List (Option Refusal)
refusals env w [] = []
refusals env w (e ∷ es) = refusal env w e ∷ refusals env (after_event env w e) es

-- A line of an example in which every event is taken.
abbrev pub no_refusal : Event × Reply → Option Refusal
no_refusal line = None

-- Events that are taken from the opening on, with their replies.
abbrev pub Plays : Environment → ℕ → List (Event × Reply) → Type 0
Plays env members lines =
    let initial = initial_world env members in
    let events = map (λ l. l.0) lines in
    (replies env initial events ≡ map (λ l. l.1) lines) × (refusals env initial events ≡ map no_refusal lines)

-- Events that are refused after others that are taken, with what refuses them.
abbrev pub refused_after : Environment → ℕ → List (Event × Reply) → List (Event × Refusal) → List (Option Refusal)
refused_after env members lines refused =
    map (λ l. refusal env (after_events env (initial_world env members) (map (λ l. l.0) lines)) l.0) refused

-- After the events of `lines`, which are taken with their replies, each event of `refused` is refused with the refusal
-- beside it.
abbrev pub Refuses : Environment → ℕ → List (Event × Reply) → List (Event × Refusal) → Type 0
Refuses env members lines refused =
    Plays env members lines × (refused_after env members lines refused ≡ map (λ l. Some l.1) refused)

-- ---- words for the lines

-- A name of one generic component.
abbrev pub named_by : List ℕ → List Component
named_by text = (8, text) ∷ []

-- The content of most objects here.
abbrev pub abc : List ℕ
abc = codes "abc"

-- The name of most objects here.
abbrev pub doc : List Component
doc = named_by (codes "doc")

-- An object in one segment.
abbrev pub whole : List Component → List ℕ → NamedContents
whole name content = record { name = name; contents = content ∷ [] }

-- The three octets of `abc`, each a segment.
abbrev pub three_pieces : NamedContents
three_pieces = record { name = doc; contents = codes "a" ∷ codes "b" ∷ codes "c" ∷ [] }

-- The entry of an object with this content.
abbrev pub entry : ℕ → ℕ → List Component → ℕ → ℕ → List ℕ → Entry
entry publisher seq name segments octets content = record {
  publisher = publisher;
  seq = seq;
  name = name;
  segments = segments;
  octets = octets;
  digest = sha256 content;
}

-- A part of a publication, as a claim of it.
abbrev pub part : ℕ → ℕ → ℕ → Option Part
part publisher seq x = Some (part_of (publisher, seq) x)

-- An Interest that the record of the first member's first publication satisfies.
abbrev pub finds_record : Logs → List Part → Found
finds_record logs held =
    if contains part_cmp held (part_of (0, 1) 0) then Packet (part_of (0, 1) 0) else NoPacket

-- A fetcher of the second member claims a part of the first one's publication, and gets it from the first.
abbrev pub part_fetched : ℕ → List (Event × Reply) → List (Event × Reply)
part_fetched x later = (Claim 1 1, Claimed (part 0 1 x)) ∷ (Answer 1 1 0, Answered true) ∷ later

-- ---- publications, vectors and settles

-- A group of one member and no event.
abbrev pub NothingHappens : Type 0
NothingHappens = Plays plain_outside 1 []

-- Two members: one publishes, and after a settle both list the object.
abbrev pub Settles : Type 0
Settles = Plays plain_outside 2 (
    (Publish 0 (whole doc abc), Published 1 1 1)
    ∷ (Settle, Settled 2 2)
    ∷ (Catalogue 0, Entries (entry 0 1 doc 1 3 abc ∷ []))
    ∷ (Catalogue 1, Entries (entry 0 1 doc 1 3 abc ∷ []))
    ∷ (Traffic, Counted 3 2 0 2 197)
    ∷ []
    )

-- A sync Interest that is delivered makes a number known, and lists nothing.
abbrev pub Delivers : Type 0
Delivers = Plays plain_outside 2 (
    (Publish 0 (whole doc abc), Published 1 1 1)
    ∷ (Deliver 1 1, Delivered Steady)
    ∷ (Vector 1, Numbers (1 ∷ 0 ∷ []))
    ∷ (Catalogue 1, Entries [])
    ∷ []
    )

-- A vector that is older than what is known, delivered again and again, changes no vector.
abbrev pub OldRepeats : Type 0
OldRepeats = Plays plain_outside 2 (
    (Publish 0 (whole (named_by (codes "a")) abc), Published 1 1 1)
    ∷ (Publish 0 (whole (named_by (codes "b")) abc), Published 2 1 2)
    ∷ (Deliver 2 1, Delivered Steady)
    ∷ (Deliver 1 1, Delivered Suppressed)
    ∷ (Deliver 1 1, Delivered Suppressed)
    ∷ (Deliver 1 1, Delivered Suppressed)
    ∷ (Vector 1, Numbers (2 ∷ 0 ∷ []))
    ∷ []
    )

-- An object is listed once its record and its three segments are received, and not before.
abbrev pub PartByPart : Type 0
PartByPart = Plays plain_outside 2 (
    (Publish 0 three_pieces, Published 1 3 1)
    ∷ (Deliver 1 1, Delivered Steady)
    ∷ part_fetched 0 (part_fetched 1 (part_fetched 2 (
    (Catalogue 1, Entries [])
    ∷ part_fetched 3 ((Catalogue 1, Entries (entry 0 1 doc 3 3 abc ∷ [])) ∷ [])
    )))
    )

-- The same object published twice is two publications, each with its packets and its entry.
abbrev pub SameObjectTwice : Type 0
SameObjectTwice = Plays plain_outside 2 (
    (Publish 0 (whole doc abc), Published 1 1 1)
    ∷ (Publish 0 (whole doc abc), Published 2 1 2)
    ∷ (Settle, Settled 2 4)
    ∷ (Catalogue 1, Entries (entry 0 1 doc 1 3 abc ∷ entry 0 2 doc 1 3 abc ∷ []))
    ∷ (Dump 1 (part_of (0, 1) 1), Dumped (part 0 1 1))
    ∷ (Dump 1 (part_of (0, 2) 1), Dumped (part 0 2 1))
    ∷ (Dump 1 (part_of (0, 3) 0), Dumped None)
    ∷ (Traffic, Counted 4 2 0 4 394)
    ∷ []
    )

-- Two of three members publish under one name, and all three list both.
abbrev pub ThreeMembers : Type 0
ThreeMembers = Plays plain_outside 3 (
    (Publish 0 (whole doc abc), Published 1 1 1)
    ∷ (Publish 1 (whole doc (codes "hello")), Published 1 1 2)
    ∷ (Settle, Settled 3 8)
    ∷ (Catalogue 2, Entries (entry 0 1 doc 1 3 abc ∷ entry 1 1 doc 1 5 (codes "hello") ∷ []))
    ∷ (Summary, Summed (replicate 3 (record { entries = 2; segments = 2; octets = 8 })))
    ∷ []
    )

-- Objects of no segment, of one, of two and of 200.
abbrev pub SegmentCounts : Type 0
SegmentCounts = Plays plain_outside 1 (
    (Publish 0 (record { name = doc; contents = [] }), Published 1 0 1)
    ∷ (Catalogue 0, Entries (entry 0 1 doc 0 0 [] ∷ []))
    ∷ (Publish 0 (whole doc (codes "abcd")), Published 2 1 2)
    ∷ (Publish 0 (record { name = doc; contents = codes "abcd" ∷ codes "e" ∷ [] }), Published 3 2 3)
    ∷ (Publish 0 (record { name = doc; contents = replicate 200 (codes "AAAA") }), Published 4 200 4)
    ∷ (Summary, Summed (record { entries = 4; segments = 203; octets = 809 } ∷ []))
    ∷ []
    )

-- A settle ends the claims of fetchers, and the parts that they claimed are received.
abbrev pub SettleEndsClaims : Type 0
SettleEndsClaims = Plays plain_outside 2 (
    (Publish 0 three_pieces, Published 1 3 1)
    ∷ (Deliver 1 1, Delivered Steady)
    ∷ part_fetched 0 (part_fetched 1 (
    (Claim 1 1, Claimed (part 0 1 2))
    ∷ (Settle, Settled 2 2)
    ∷ (Catalogue 1, Entries (entry 0 1 doc 3 3 abc ∷ []))
    ∷ (Claim 1 1, Claimed None)
    ∷ []
    ))
    )

-- A timer that is early, quiet since others sent all that the member knows, and due with something to send.
abbrev pub Timers : Type 0
Timers = Plays plain_outside 2 (
    (Fire 1, Early)
    ∷ (Publish 0 (whole doc abc), Published 1 1 1)
    ∷ (Publish 0 (whole doc abc), Published 2 1 2)
    ∷ (Deliver 2 1, Delivered Steady)
    ∷ (Deliver 1 1, Delivered Suppressed)
    ∷ (Deliver 2 1, Delivered Suppressed)
    ∷ (Advance 100, Advanced 100)
    ∷ (Fire 1, Quiet)
    ∷ (Deliver 1 1, Delivered Suppressed)
    ∷ (Advance 100, Advanced 200)
    ∷ (Fire 1, Sent 3)
    ∷ (Sync 3, Synced (record { sender = 1; vector = 2 ∷ 0 ∷ [] }))
    ∷ []
    )

-- ---- fetches

-- A fetch brings the record; the next one brings the parts that the record lists.
abbrev pub Fetches : Type 0
Fetches = Plays plain_outside 2 (
    (Publish 0 three_pieces, Published 1 3 1)
    ∷ (Deliver 1 1, Delivered Steady)
    ∷ (Fetch 1 16 0, Fetched 1 1 1)
    ∷ (Fetch 1 16 0, Fetched 3 3 3)
    ∷ (Catalogue 1, Entries (entry 0 1 doc 3 3 abc ∷ []))
    ∷ []
    )

-- Attempts are counted from fetch to fetch.
abbrev pub ThirdAttempts : Type 0
ThirdAttempts = Plays third 2 (
    (Publish 0 three_pieces, Published 1 3 1)
    ∷ (Deliver 1 1, Delivered Steady)
    ∷ (Fetch 1 2 500, Fetched 1 0 2)
    ∷ (Fetch 1 16 500, Fetched 1 1 1)
    ∷ (Fetch 1 16 500, Fetched 3 3 9)
    ∷ (Traffic, Counted 1 1 12 4 355)
    ∷ []
    )

-- ---- octets from outside

-- Octets from outside: as a sync Interest, as a packet of a claimed part, and as an Interest.
abbrev pub FromOutside : Type 0
FromOutside = Plays plain_outside 2 (
    (Publish 0 (whole doc abc), Published 1 1 1)
    ∷ (Hear 1 None, HearRefused)
    ∷ (Hear 1 (Some (record { sender = 0; vector = 1 ∷ 5 ∷ [] })), OwnNumberAhead 0 5)
    ∷ (Hear 1 (Some (record { sender = 0; vector = 1 ∷ 0 ∷ [] })), Heard Steady)
    ∷ (Claim 1 1, Claimed (part 0 1 0))
    ∷ (Feed 1 1 (λ _ _. Nothing), Fed false)
    ∷ (Feed 1 1 (λ _ _. Its), Fed true)
    ∷ (Ask 1 finds_record, Asked (Packet (part_of (0, 1) 0)))
    ∷ (Claim 1 1, Claimed (part 0 1 1))
    ∷ (Answer 1 1 1, Answered false)
    ∷ (Lose 1 1, Lost (part 0 1 1))
    ∷ (Traffic, Counted 1 1 1 1 118)
    ∷ []
    )

-- ---- refusals

-- No sync Interest has the number 0, or a number that none has yet.
abbrev pub UnsentIsRefused : Type 0
UnsentIsRefused = Refuses plain_outside 2
    ((Publish 0 (whole doc abc), Published 1 1 1) ∷ (Deliver 1 1, Delivered Steady) ∷ [])
    (
    (Deliver 0 1, NoSuchPacket)
    ∷ (Deliver 2 1, NoSuchPacket)
    ∷ (Sync 2, NoSuchPacket)
    ∷ []
    )

-- The second member's first fetcher claims the record.
abbrev pub claimed : List (Event × Reply)
claimed =
    (Publish 0 (whole doc abc), Published 1 1 1)
    ∷ (Deliver 1 1, Delivered Steady)
    ∷ (Claim 1 1, Claimed (part 0 1 0))
    ∷ []

-- A fetcher that claims a part claims no other.
abbrev pub BusyIsRefused : Type 0
BusyIsRefused = Refuses plain_outside 2 claimed ((Claim 1 1, FetcherBusy) ∷ [])

-- A fetcher that claims nothing loses nothing, asks nobody and is fed nothing.
abbrev pub IdleIsRefused : Type 0
IdleIsRefused = Refuses plain_outside 2 claimed (
    (Lose 1 2, FetcherIdle)
    ∷ (Answer 1 2 0, FetcherIdle)
    ∷ (Feed 1 2 (λ _ _. Its), FetcherIdle)
    ∷ (Feed 1 2 (λ _ _. Another), FetcherIdle)
    ∷ []
    )

-- Octets that pass and that nobody of the group made: a vector that nobody sent, though another sent it or the sender
-- sent another; a packet that isn't the publisher's; and a command that this client didn't make for this member.
abbrev pub HearIsForeign : Type 0
HearIsForeign = Refuses plain_outside 2 claimed (
    (Hear 1 (Some (record { sender = 1; vector = 1 ∷ 0 ∷ [] })), Foreign)
    ∷ (Hear 1 (Some (record { sender = 0; vector = 2 ∷ 0 ∷ [] })), Foreign)
    ∷ []
    )

-- A packet that passes the checks of the claimed part, and is not its publisher's.
abbrev pub FeedIsForeign : Type 0
FeedIsForeign = Refuses plain_outside 2 claimed ((Feed 1 1 (λ _ _. Another), Foreign) ∷ [])

-- A member that is asked for a part gives another packet that passes the checks.
abbrev pub gives_others : Environment
gives_others = record plain_outside { serves = λ _ _ _. Another }

-- An answer that passes the checks of the claimed part, and is not its publisher's packet.
abbrev pub AnswerIsForeign : Type 0
AnswerIsForeign = Refuses gives_others 2 claimed ((Answer 1 1 0, Foreign) ∷ [])

-- A command that this client never made for this member.
abbrev pub OrderIsForeign : Type 0
OrderIsForeign = Refuses plain_outside 2 ((Issue 0 0 (Check 1), Commanded (code_only 404)) ∷ []) (
    (Order 0 (Ok (0, Check 2)), Foreign)
    ∷ (Order 0 (Ok (1, Check 1)), Foreign)
    ∷ (Order 1 (Ok (0, Check 1)), Foreign)
    ∷ (Order 0 (Ok (0, Delete doc)), Foreign)
    ∷ []
    )

-- A group of one member that has published `n` times.
abbrev pub after_so_many : ℕ → World
after_so_many n = record (initial_world plain_outside 1) {
  members = record no_member { log = replicate n no_post } ∷ [];
}

-- A member publishes under the number 65,535, and under none after it.
abbrev pub SpentIsRefused : Type 0
SpentIsRefused =
    (refusal plain_outside (after_so_many 65534) (Publish 0 (whole doc abc)) ≡ None)
    × (refusal plain_outside (after_so_many 65535) (Publish 0 (whole doc abc)) ≡ Some NumbersSpent)

-- ---- restarts, deletions and insertions

-- The reply to a deletion that dropped `packets` packets.
abbrev pub deletion_reply : ℕ → Reply
deletion_reply packets = Commanded (record (code_only 200) { deleted = Some packets })

-- The reply to a check of an insertion of which `blocks` blocks are there.
abbrev pub inserted : ℕ → ℕ → Reply
inserted code blocks = Commanded (record (code_only code) { inserted = Some blocks })

-- The reply to an insertion that begins under the number `process`.
abbrev pub started : ℕ → Reply
started process = Commanded (record (code_only 100) { process = Some process })

-- A restart ends claims; numbers of publications go on, also after a deletion.
abbrev pub RestartKeepsNumbers : Type 0
RestartKeepsNumbers = Plays plain_outside 2 (
    (Publish 0 three_pieces, Published 1 3 1)
    ∷ (Deliver 1 1, Delivered Steady)
    ∷ part_fetched 0 (
    (Restart 1, Restarted)
    ∷ (Claim 1 1, Claimed (part 0 1 1))
    ∷ (Publish 1 (whole doc abc), Published 1 1 2)
    ∷ (Issue 0 0 (Delete doc), deletion_reply 4)
    ∷ (Restart 0, Restarted)
    ∷ (Publish 0 (whole doc abc), Published 2 1 3)
    ∷ []
    )
    )

-- An insertion in two blocks, its checks, its publication and its deletion.
abbrev pub Insertion : Type 0
Insertion = Plays plain_outside 2 (
    (Issue 0 0 (Insert doc 5 6), started 1)
    ∷ (Issue 0 0 (Check 1), inserted 300 0)
    ∷ (Block 0 1 5 (codes "ab"), BlockKept)
    ∷ (Issue 0 0 (Check 1), inserted 300 1)
    ∷ (Block 0 1 6 (codes "c"), BlockPublished 1 1)
    ∷ (Issue 0 0 (Check 1), inserted 200 2)
    ∷ (Issue 0 0 (Check 9), Commanded (code_only 404))
    ∷ (Settle, Settled 2 3)
    ∷ (Issue 0 0 (Delete doc), deletion_reply 3)
    ∷ (Issue 0 0 (Delete doc), Commanded (code_only 404))
    ∷ (Settle, Settled 2 0)
    ∷ (Catalogue 0, Entries [])
    ∷ (Catalogue 1, Entries (entry 0 1 doc 2 3 abc ∷ []))
    ∷ []
    )

-- Blocks twice, out of range, of no process, late, and after a restart.
abbrev pub Blocks : Type 0
Blocks = Plays plain_outside 1 (
    (Order 0 (Err 401), Commanded (code_only 401))
    ∷ (Issue 0 0 (Insert doc 5 6), started 1)
    ∷ (Order 0 (Ok (0, Insert doc 5 6)), started 2)
    ∷ (Block 0 1 6 (codes "c"), BlockKept)
    ∷ (Block 0 1 6 (codes "x"), BlockKept)
    ∷ (Block 0 1 7 (codes "x"), NoBlock)
    ∷ (Block 0 3 5 (codes "x"), NoBlock)
    ∷ (Block 0 1 5 (codes "ab"), BlockPublished 1 1)
    ∷ (Block 0 1 5 (codes "x"), BlockLate)
    ∷ (Catalogue 0, Entries (entry 0 1 doc 2 3 abc ∷ []))
    ∷ (Restart 0, Restarted)
    ∷ (Block 0 1 5 (codes "x"), NoBlock)
    ∷ (Issue 0 0 (Insert doc 0 0), started 3)
    ∷ []
    )

-- What its publisher deleted before a settle is fetched by nobody, and is still wanted.
abbrev pub DeletedBefore : Type 0
DeletedBefore = Plays plain_outside 2 (
    (Publish 0 (whole doc abc), Published 1 1 1)
    ∷ (Issue 0 0 (Delete doc), deletion_reply 2)
    ∷ (Settle, Settled 2 0)
    ∷ (Catalogue 1, Entries [])
    ∷ (Claim 1 1, Claimed (part 0 1 0))
    ∷ []
    )

-- ---- all are informed of all, and nothing is wanted in the end

-- Every member is informed of the one publication, and the other one fetches it part by part.
abbrev pub informed_of_all : List (Event × Reply) → List (Event × Reply)
informed_of_all later =
    (Publish 0 three_pieces, Published 1 3 1)
    ∷ (Deliver 1 0, Delivered Steady)
    ∷ (Deliver 1 1, Delivered Steady)
    ∷ (Claim 1 1, Claimed (part 0 1 0))
    ∷ (Lose 1 1, Lost (part 0 1 0))
    ∷ (Deliver 1 1, Delivered Steady)
    ∷ part_fetched 0 (part_fetched 1 (part_fetched 2 (part_fetched 3 later)))

-- After the events of `informed_of_all` both members list the publication, and no part can be claimed.
abbrev pub InformedOfAll : Type 0
InformedOfAll = Plays plain_outside 2 (informed_of_all (
    (Catalogue 0, Entries (entry 0 1 doc 3 3 abc ∷ []))
    ∷ (Catalogue 1, Entries (entry 0 1 doc 3 3 abc ∷ []))
    ∷ (Claim 1 1, Claimed None)
    ∷ []
    ))

-- After the events of `informed_of_all` the join of all publications is the entry of the one publication.
abbrev pub JoinOfThem : Type 0
JoinOfThem =
    join_of (logs (after_events plain_outside (initial_world plain_outside 2) (map (λ l. l.0) (informed_of_all []))))
    ≡ entry 0 1 doc 3 3 abc ∷ []
