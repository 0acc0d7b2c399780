-- Which frames a line of a script gives: what of it is known before the line is carried out, and its frames, by what it
-- states and by what the group is after it.
use Rattle.std.specs.Prelude.{ℕ, ◌+◌, ◌-◌, ◌==◌, ◌&&◌, Bool, false, List, [], ◌∷◌, ◌++◌, filter, length, map, Option}
use Rattle.std.specs.Prelude.{Some, None}
use Rattle.std.specs.Prelude.{Result, Ok, Err, nat_le, nat_lt, if◌then◌else◌}
use Rattle.std.specs.List.{flat_map}
use Rattle.sorted_lists.specs.Range.{numbers_from}
use Rattle.ndn_name.specs.declared.fault.PacketFault.{PacketFault}
use Rattle.sorted_lists.specs.SortedList.{contains}
use Rattle.sha2.specs.Sha256.{sha256}
use Rattle.ndn_name.specs.Names.{Component, encoding, name_limit}
use Rattle.ndn_interest.specs.WrittenInterest.{written_plain}
use Rattle.ndn_data.specs.Data.{Data, data_of}
use Rattle.repo_object.specs.Wants.{asked_name}
use Rattle.repo_plan.specs.declared.part.Part.{Part}
use Rattle.repo_plan.specs.Parts.{part_cmp}
use Rattle.repo_store.specs.Served.{served}
use Rattle.group_model.specs.Member.{member_holds}
use Rattle.group_model.specs.World.{World, logs, member}
use Rattle.group_model.specs.Steps.{claim_at, planned_parts}
use Rattle.repo_member.specs.Groups.{GroupKeys}
use Rattle.repo_member.specs.InGroup.{published_packet}
use Rattle.repo_member.specs.ConsistentMembers.{published_packets, published_want}
use Rattle.bench_world.specs.Showing.{sender_at, sync_octets_at}
use Rattle.script_lang.specs.declared.line_fault.LineFault.{LineFault}
use Rattle.script_lang.specs.declared.verb.Verb.{Verb}
use Rattle.script_lang.specs.declared.verb.Verb.TheVariants as verb
use Rattle.script_lang.specs.Kinds.{Value, Number, Octets, Text}
use Rattle.script_lang.specs.Forms.{Stated}
use Rattle.script_lang.specs.Lines.{line_of}
use Rattle.script_lang.specs.Checking.{Declared, mirror_place, party_place}
use Rattle.script_story.specs.Evaluation.{State}
use Rattle.script_story.specs.Mirrors.{Mirroring, mirror_of}
use Rattle.repo_mirror.specs.Asked.{is_for}
use Rattle.group_model.specs.Publications.{all_parts}
use Rattle.repo_plan.specs.Parts.{pair_of}
use Rattle.lab_text.specs.Transcripts.{shown_line}
use Rattle.lab_capture.specs.declared.station.Station.{Station}
use Rattle.lab_capture.specs.declared.station.Station.TheVariants as station
use Rattle.lab_capture.specs.Captures.{Framed, frame_at, frame_head_octets, frame_record, snap_octets}

-- ---- what a line states

-- What was read of a line, if it could be read.
abbrev pub stated_if : Result (Option Stated) LineFault → Option Stated
stated_if (Ok stated) = stated
stated_if (Err fault) = None

-- What a line states, which is given without its line feed.
abbrev pub stated_in : List ℕ → Option Stated
stated_in line = stated_if (line_of (shown_line line))

-- A number, if it is below a bound.
abbrev pub below : ℕ → Option ℕ → Option ℕ
below bound None = None
below bound (Some i) = if nat_lt i bound then Some i else None

-- The member of a label.
abbrev pub member_named : Declared → World → List ℕ → Option ℕ
member_named d w label = below (length w.members) (party_place label d.members)

-- The mirror of a label, where there are `mirrors` mirrors.
abbrev pub mirror_named : Declared → ℕ → List ℕ → Option ℕ
mirror_named d mirrors label = below mirrors (mirror_place label d.mirrors)

-- ---- what is known before a line

-- The want of a fetcher's claim, which a member sends to another: the part, and the Interest that asks for it.
pub record Claimed : Type 0 where
  pub asker : ℕ
  pub asked : ℕ
  pub part : Part
  pub interest : List ℕ

-- The claim that a member sends to another.
abbrev pub claim_with : GroupKeys → World → (m q : ℕ) → Option Part → Option Claimed
claim_with g w m q None = None
claim_with g w m q (Some t) =
    Some (record { asker = m; asked = q; part = t; interest = (published_want g (logs w) t).interest })

-- The claim that fetcher `f` of a member sends to another member, if there are both members and the fetcher.
abbrev pub claim_between : GroupKeys → World → ℕ → Option ℕ → Option ℕ → Option Claimed
claim_between g w f (Some m) (Some q) =
    if nat_le 1 f && nat_le f 16 then claim_with g w m q (claim_at w m f) else None
claim_between g w f _ _ = None

-- The claim that a line sends to a member, if it does.
abbrev pub claim_of : Declared → GroupKeys → World → Verb → List Value → Option Claimed
claim_of d g w verb.Answer (Text m ∷ Number f ∷ Text q ∷ []) =
    claim_between g w f (member_named d w m) (member_named d w q)
claim_of d g w _ values = None

-- The claim that a line sends, if it states something.
abbrev pub claim_sent : Declared → GroupKeys → World → Option Stated → Option Claimed
claim_sent d g w None = None
claim_sent d g w (Some s) = claim_of d g w s.verb s.values

-- A part that is asked for, with the Interest that asks for it.
pub record Asked : Type 0 where
  pub part : Part
  pub interest : List ℕ

-- A published part, asked for by its want.
abbrev pub asked_for : GroupKeys → World → Part → Asked
asked_for g w t = record { part = t; interest = (published_want g (logs w) t).interest }

-- A fetch: the member `asker`, which asks all members, and the parts that it plans, in order.
pub record Fetched : Type 0 where
  pub asker : ℕ
  pub parts : List Asked

-- The fetch of a member, if a member is given.
abbrev pub fetch_by : GroupKeys → World → Option ℕ → Option Fetched
fetch_by g w None = None
fetch_by g w (Some m) = Some (record { asker = m; parts = map (asked_for g w) (planned_parts w m) })

-- The fetch that a line makes, if it does.
abbrev pub fetch_of : Declared → GroupKeys → World → Verb → List Value → Option Fetched
fetch_of d g w verb.Fetch (Text m ∷ Number workers ∷ Number tries ∷ Number loss ∷ []) =
    fetch_by g w (member_named d w m)
fetch_of d g w _ values = None

-- The fetch that a line makes, if it states something.
abbrev pub fetch_made : Declared → GroupKeys → World → Option Stated → Option Fetched
fetch_made d g w None = None
fetch_made d g w (Some s) = fetch_of d g w s.verb s.values

-- A member, and the parts that it holds, in order.
pub record Holder : Type 0 where
  pub member : ℕ
  pub held : List Part

-- A member with what it holds in a world.
abbrev pub holder_in : World → ℕ → Holder
holder_in w m = record { member = m; held = (member w m).held }

-- The members that gain parts in a line, with what they hold: all members where the group settles, else none.
abbrev pub holders_of : World → Verb → List Holder
holders_of w verb.Settle = map (holder_in w) (numbers_from 0 (length w.members))
holders_of w _ = []

-- The members that gain parts in a line, with what they hold before it; none where the line states nothing.
abbrev pub holders_before : World → Option Stated → List Holder
holders_before w None = []
holders_before w (Some s) = holders_of w s.verb

-- The mirror `m` stores the packet of the part `t`: it holds the part, and the part is of a withdrawal or of an object
-- that its pattern accepts.
abbrev pub stores : World → Mirroring → Part → Bool
stores w m t = m.holds t && is_for m.pattern (logs w) (pair_of t)

-- The parts whose packets a mirror stores, in order.
abbrev pub stored_by : World → Mirroring → List Part
stored_by w m = filter (stores w m) (all_parts (logs w))

-- The packet of a part, if a mirror stores it.
abbrev pub mirror_packet : GroupKeys → World → Mirroring → Part → Option (List ℕ)
mirror_packet g w m t = if stores w m t then published_packet g (logs w) t else None

-- A mirror with the parts whose packets it stores.
abbrev pub mirror_in : World → List Mirroring → ℕ → Holder
mirror_in w ms i = record { member = i; held = stored_by w (mirror_of ms i) }

-- A mirror with the parts whose packets it stores, if a mirror is given.
abbrev pub mirror_if : World → List Mirroring → Option ℕ → List Holder
mirror_if w ms None = []
mirror_if w ms (Some i) = mirror_in w ms i ∷ []

-- The mirrors that ask for parts in a line, with the parts whose packets they store: all where the group settles, or
-- the one that fetches.
abbrev pub mirrors_of : Declared → World → List Mirroring → Verb → List Value → List Holder
mirrors_of d w ms verb.Settle values = map (mirror_in w ms) (numbers_from 0 (length ms))
mirrors_of d w ms verb.Mfetch (Text label ∷ Number workers ∷ Number tries ∷ Number loss ∷ []) =
    mirror_if w ms (mirror_named d (length ms) label)
mirrors_of d w ms _ values = []

-- The mirrors that ask for parts in a line, with the parts whose packets they store before it; none where the line
-- states nothing.
abbrev pub mirrors_before : Declared → World → List Mirroring → Option Stated → List Holder
mirrors_before d w ms None = []
mirrors_before d w ms (Some s) = mirrors_of d w ms s.verb s.values

-- What is known before a line: how many sync Interests were sent, the claim that the line sends, the fetch that it
-- makes, and the members and mirrors that gain parts, with what they hold.
pub record Known : Type 0 where
  pub sent : ℕ
  pub claim : Option Claimed
  pub fetch : Option Fetched
  pub holders : List Holder
  pub mirrors : List Holder

-- Before the first event nothing was sent, and nothing is held.
abbrev pub nothing_known : Known
nothing_known = record { sent = 0; claim = None; fetch = None; holders = []; mirrors = [] }

-- What is known before a line, by the world, if there is one.
abbrev pub known_of : State → List ℕ → Option World → Known
known_of s line None = nothing_known
known_of s line (Some w) =
    record {
      sent = length w.sent;
      claim = claim_sent s.declared s.keys w (stated_in line);
      fetch = fetch_made s.declared s.keys w (stated_in line);
      holders = holders_before w (stated_in line);
      mirrors = mirrors_before s.declared w s.mirrors (stated_in line);
    }

-- What is known before a line.
abbrev pub known_before : State → List ℕ → Known
known_before s line = known_of s line s.world

-- ---- frames one by one

-- The frame of a packet that is sent at the time of the world.
abbrev pub sent_now : World → Station → Station → List ℕ → Framed
sent_now w source destination packet = frame_at w.time source destination packet

-- The frame of a packet that is sent at the time of the world, if there is a packet.
abbrev pub sent_if : World → Station → Station → Option (List ℕ) → List Framed
sent_if w source destination None = []
sent_if w source destination (Some packet) = sent_now w source destination packet ∷ []

-- The frame of a sync Interest from its sender, if there are both.
abbrev pub sync_frames : World → Station → Option ℕ → Option (List ℕ) → List Framed
sync_frames w to None octets = []
sync_frames w to (Some sender) octets = sent_if w (station.Member sender) to octets

-- The frame of sync Interest `k` to the station `to`, if it was sent.
abbrev pub sync_to : GroupKeys → World → Station → ℕ → List Framed
sync_to g w to k = sync_frames w to (sender_at w k) (sync_octets_at g w k)

-- ---- frames of a line

-- The frames of the sync Interests that were sent after the first `sent` ones, each to all members.
abbrev pub new_syncs : GroupKeys → World → ℕ → List Framed
new_syncs g w sent = flat_map (sync_to g w station.AllMembers) (numbers_from (sent + 1) (length w.sent - sent))

-- The packet of a part that a member holds, as its publisher made it.
abbrev pub packet_of : GroupKeys → World → ℕ → Part → Option (List ℕ)
packet_of g w m t = if member_holds (member w m) t then published_packet g (logs w) t else None

-- The frames of a claim: the Interest to the member that is asked, and the packet back, if the asker holds the part
-- now.
abbrev pub want_frames : GroupKeys → World → Claimed → List Framed
want_frames g w c =
    sent_now w (station.Member c.asker) (station.Member c.asked) c.interest
    ∷ sent_if w (station.Member c.asked) (station.Member c.asker) (packet_of g w c.asker c.part)

-- The frames of the claim that was sent, if there is one between two members.
abbrev pub claim_frames : GroupKeys → World → Option Claimed → List Framed
claim_frames g w None = []
claim_frames g w (Some c) =
    if nat_lt c.asker (length w.members) && nat_lt c.asked (length w.members) then want_frames g w c else []

-- The frames of a part for which the member `m` asked all members: the Interest, and the packet from its publisher;
-- none without a packet.
abbrev pub came_if : World → ℕ → Asked → Option (List ℕ) → List Framed
came_if w m a None = []
came_if w m a (Some packet) =
    if nat_lt a.part.publisher (length w.members)
    then sent_now w (station.Member m) station.AllMembers a.interest
    ∷ sent_now w (station.Member a.part.publisher) (station.Member m) packet ∷ []
    else []

-- The frames of a part for which the member `m` asked all members; none where it doesn't hold the part now.
abbrev pub came : GroupKeys → World → ℕ → Asked → List Framed
came g w m a = came_if w m a (packet_of g w m a.part)

-- The frames of a fetch, in order of the parts.
abbrev pub fetch_frames : GroupKeys → World → Option Fetched → List Framed
fetch_frames g w None = []
fetch_frames g w (Some f) =
    if nat_lt f.asker (length w.members) then flat_map (came g w f.asker) f.parts else []

-- The digest by which a part is asked for, which is known of every part but a record.
abbrev pub asked_digest : Part → List ℕ → Option (List ℕ)
asked_digest t packet = if t.part == 0 then None else Some (sha256 packet)

-- The name by which a part is asked for.
abbrev pub named_by : Part → List ℕ → Data → List Component
named_by t packet d = asked_name d.name (asked_digest t packet)

-- The Interest that asks for the packet of this name, if it has one that an Interest can have.
abbrev pub interest_named : Part → List ℕ → Result Data PacketFault → Option (List ℕ)
interest_named t packet (Err fault) = None
interest_named t packet (Ok d) =
    if nat_lt 0 (length d.name) && nat_le (length (encoding (named_by t packet d))) name_limit
    then Some (written_plain (named_by t packet d) false) else None

-- The Interest that asks for a part with this packet: by the name of the packet, and unless the part is a record by its
-- digest too.
abbrev pub interest_for : Part → List ℕ → Option (List ℕ)
interest_for t packet = interest_named t packet (data_of packet)

-- The frames of a packet that the station `who` gained: the Interest for it to all members, if it can be asked for, and
-- the packet from the publisher.
abbrev pub gained : World → Station → Part → List ℕ → List Framed
gained w who t packet =
    sent_if w who station.AllMembers (interest_for t packet)
    ++ (sent_now w (station.Member t.publisher) who packet ∷ [])

-- The frames of a packet that the station `who` gained, if there is a packet and its publisher is a member.
abbrev pub gained_if : World → Station → Part → Option (List ℕ) → List Framed
gained_if w who t None = []
gained_if w who t (Some packet) = if nat_lt t.publisher (length w.members) then gained w who t packet else []

-- The frames of a part that a member holds; none where the part is in `held`, the parts that the member held before.
abbrev pub new_part : GroupKeys → World → ℕ → List Part → Part → List Framed
new_part g w m held t = if contains part_cmp held t then [] else gained_if w (station.Member m) t (packet_of g w m t)

-- The frames of the parts that a member holds and didn't hold before, in order.
abbrev pub new_parts : GroupKeys → World → Holder → List Framed
new_parts g w h =
    if nat_lt h.member (length w.members)
    then flat_map (new_part g w h.member h.held) (member w h.member).held else []

-- The frames of a part whose packet a mirror stores; none where the part is in `held`, those whose packets it stored
-- before.
abbrev pub mirror_part : GroupKeys → World → Mirroring → ℕ → List Part → Part → List Framed
mirror_part g w m i held t =
    if contains part_cmp held t then [] else gained_if w (station.Mirror i) t (mirror_packet g w m t)

-- The frames of the parts whose packets a mirror stores and didn't store before, in order.
abbrev pub mirror_parts : GroupKeys → World → List Mirroring → Holder → List Framed
mirror_parts g w ms h =
    if nat_lt h.member (length ms)
    then flat_map (mirror_part g w (mirror_of ms h.member) h.member h.held) (stored_by w (mirror_of ms h.member))
    else []

-- The frame of sync Interest `k` to the station `kind i`, if a number `i` is given.
abbrev pub sync_to_some : GroupKeys → World → ℕ → (ℕ → Station) → Option ℕ → List Framed
sync_to_some g w k kind None = []
sync_to_some g w k kind (Some i) = sync_to g w (kind i) k

-- The packet that a member serves where octets ask for it; none where they couldn't be read.
abbrev pub found : Result (Option (List ℕ)) PacketFault → Option (List ℕ)
found (Ok packet) = packet
found (Err fault) = None

-- The packet that the member `m` serves where octets ask for it, of the packets of the parts that it holds.
abbrev pub served_by : GroupKeys → World → ℕ → List ℕ → Option (List ℕ)
served_by g w m octets = found (served octets (published_packets g (logs w) (member w m).held))

-- The frame of octets from outside to a member, if a member is given.
abbrev pub brought : World → List ℕ → Option ℕ → List Framed
brought w octets None = []
brought w octets (Some m) = sent_now w station.Outside (station.Member m) octets ∷ []

-- The frames of octets from outside that ask a member for something: the octets, and the packet that the member serves.
abbrev pub asked : GroupKeys → World → List ℕ → Option ℕ → List Framed
asked g w octets None = []
asked g w octets (Some m) =
    sent_now w station.Outside (station.Member m) octets
    ∷ sent_if w (station.Member m) station.Outside (served_by g w m octets)

-- The frames of a `deliver`, `mdeliver`, `hear`, `feed` or `ask` line: a sync Interest, or octets from outside and the
-- packet that answers them.
abbrev pub said_of : Declared → GroupKeys → World → ℕ → Verb → List Value → List Framed
said_of d g w mirrors verb.Deliver (Number k ∷ Text m ∷ []) =
    sync_to_some g w k station.Member (member_named d w m)
said_of d g w mirrors verb.Mdeliver (Number k ∷ Text label ∷ []) =
    sync_to_some g w k station.Mirror (mirror_named d mirrors label)
said_of d g w mirrors verb.Hear (Text m ∷ Octets octets ∷ []) = brought w octets (member_named d w m)
said_of d g w mirrors verb.Feed (Text m ∷ Number f ∷ Octets octets ∷ []) = brought w octets (member_named d w m)
said_of d g w mirrors verb.Ask (Text m ∷ Octets octets ∷ []) = asked g w octets (member_named d w m)
said_of d g w mirrors _ values = []

-- The frames of a `deliver`, `mdeliver`, `hear`, `feed` or `ask` line; none where the line states nothing.
abbrev pub said : Declared → GroupKeys → World → ℕ → Option Stated → List Framed
said d g w mirrors None = []
said d g w mirrors (Some s) = said_of d g w mirrors s.verb s.values

-- The frames of a claim, of a fetch and of a settle.
abbrev pub gains : GroupKeys → World → Known → List Framed
gains g w known =
    claim_frames g w known.claim ++ (fetch_frames g w known.fetch ++ flat_map (new_parts g w) known.holders)

-- The frames of the parts that members, and then mirrors, gained in a line after which the world is `w`.
abbrev pub arrivals : State → Known → World → List Framed
arrivals s known w = gains s.keys w known ++ flat_map (mirror_parts s.keys w s.mirrors) known.mirrors

-- The frames of a line after which the world is `w`: those of what it delivers or brings from outside, then the sync
-- Interests that were sent, then the parts that were gained.
abbrev pub frames_of : State → Known → List ℕ → Option World → List Framed
frames_of s known line None = []
frames_of s known line (Some w) =
    said s.declared s.keys w (length s.mirrors) (stated_in line)
    ++ (new_syncs s.keys w known.sent ++ arrivals s known w)

-- The frames of a line that was taken, where `known` was known before it.
abbrev pub line_frames : State → Known → List ℕ → List Framed
line_frames s known line = frames_of s known line s.world

-- ---- the text of frames

-- A frame is no longer than a capture can have.
abbrev pub fits : Framed → Bool
fits f = nat_le (frame_head_octets + length f.packet) snap_octets

-- The records of frames.
abbrev pub frames_text : List Framed → List ℕ
frames_text frames = flat_map frame_record (filter fits frames)
