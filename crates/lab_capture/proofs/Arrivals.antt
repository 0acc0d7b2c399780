-- Each frame of parts that were gained in a line has an Interest in it, or the packet of a part that is held.
use Rattle.std.proofs.Common.{◌≡◌, ℕ, ◌==◌, ◌&&◌, Bool, true, false, List, [], ◌∷◌, ◌++◌, length, map}
use Rattle.std.proofs.Common.{Option, Some, None, Result, Ok, Err, All, inl, inr, refl, sym, subst}
use Rattle.std.specs.Prelude.{IfSome, if◌then◌else◌, nat_le, nat_lt, unwrap_or}
use Rattle.sha2.specs.Sha256.{sha256}
use Rattle.std.specs.List.{flat_map}
use Rattle.std.proofs.lemmas.Bool.{and_parts}
use Rattle.std.proofs.lemmas.List.Elements.{All-append, All-cons, All-nil}
use Rattle.std.proofs.lemmas.List.Folds.{flat_map-map}
use Rattle.ndn_tlv.specs.Types as types
use Rattle.ndn_tlv.specs.Spelling.{element}
use Rattle.ndn_name.specs.declared.fault.PacketFault.{PacketFault}
use Rattle.ndn_name.specs.Names.{Component, encoding, name_limit}
use Rattle.ndn_interest.specs.WrittenInterest.{written_flag, written_plain}
use Rattle.ndn_data.specs.Data.{Data, data_of}
use Rattle.repo_object.specs.Wants.{WantedPart, asked_name, want_index, want_record, want_segment}
use Rattle.repo_plan.specs.declared.part.Part.{Part}
use Rattle.repo_plan.specs.Parts.{pair_of, part_cmp}
use Rattle.sorted_lists.specs.SortedList.{contains}
use Rattle.group_model.specs.Member.{member_holds}
use Rattle.group_model.specs.Publications.{Logs, shape_at}
use Rattle.group_model.specs.World.{World, logs, member}
use Rattle.group_model.specs.Steps.{claim_at, planned_parts}
use Rattle.repo_member.specs.Groups.{GroupKeys, node_at}
use Rattle.repo_member.specs.InGroup.{published_packet}
use Rattle.repo_member.specs.ConsistentMembers.{consistent_listing, published_want}
use Rattle.repo_mirror.specs.Asked.{is_for}
use Rattle.script_lang.specs.declared.verb.Verb.{Verb}
use Rattle.script_lang.specs.declared.verb.Verb.TheVariants as verb
use Rattle.script_lang.specs.Checking.{Declared}
use Rattle.script_lang.specs.Forms.{Stated}
use Rattle.script_lang.specs.Kinds.{Number, Text, Value}
use Rattle.script_story.specs.Evaluation.{State}
use Rattle.script_story.specs.Mirrors.{Mirroring, mirror_of}
use Rattle.lab_capture.specs.declared.station.Station.{Station}
use Rattle.lab_capture.specs.declared.station.Station.TheVariants.{AllMembers, Member, Mirror}
use Rattle.lab_capture.specs.Captures.{Framed}
use Rattle.lab_capture.specs.Frames.{Asked, Claimed, Holder, Known, arrivals, asked_for, came, came_if}
use Rattle.lab_capture.specs.Frames.{claim_between, claim_frames, claim_of, claim_sent, claim_with, fetch_by}
use Rattle.lab_capture.specs.Frames.{fetch_frames, fetch_made, fetch_of, gained, gained_if, gains, interest_for}
use Rattle.lab_capture.specs.Frames.{interest_named, known_before, known_of, member_named, mirror_packet, mirror_part}
use Rattle.lab_capture.specs.Frames.{mirror_parts, named_by, new_part, new_parts, nothing_known, packet_of, sent_if}
use Rattle.lab_capture.specs.Frames.{sent_now, stated_in, stored_by, stores, want_frames}
use Rattle.lab_capture.specs.Laws.{AsksOrBrings, Holds, IsHeld, IsInterest}
use Rattle.lab_capture.proofs.SentSyncs.{all_of_each}

-- ---- Interests

written_asks : (name : List Component) → IsInterest (written_plain name false)
written_asks name = record { value = element types.Name (encoding name) ++ written_flag false; is = refl }

-- the Interest of a want asks for its name, and its digest if there is one
abbrev IsWritten : WantedPart → Type 0
IsWritten want = want.interest ≡ written_plain (asked_name want.name want.digest) false

as_asked : (want : WantedPart) → IsWritten want → IsInterest want.interest
as_asked want is =
    subst IsInterest (sym is) (written_asks (asked_name want.name want.digest))

one_of : (a b : Bool) (x y z : WantedPart) → IsWritten x → IsWritten y → IsWritten z
    → IsWritten (if a then x else if b then y else z)
one_of true b x y z p q r = p
one_of false true x y z p q r = q
one_of false false x y z p q r = r

want_asks : (g : GroupKeys) (ls : Logs) (t : Part) → IsInterest (published_want g ls t).interest
want_asks g ls t =
    let node = node_at g t.publisher in
    let shape = shape_at ls (pair_of t) in
    let listed = consistent_listing g ls (pair_of t) in
    as_asked (published_want g ls t) (one_of (t.part == 0) (nat_le t.part shape.index)
    (want_record t node g.name) (want_index t listed node g.name)
    (want_segment t shape listed.name (sha256 (unwrap_or (published_packet g ls t) []))) refl refl refl)

asks_for : (t : Part) (packet : List ℕ) → IfSome (interest_for t packet) IsInterest
asks_for t packet = go (data_of packet) where
  if_short : (b : Bool) (name : List Component)
      → IfSome (if b then Some (written_plain name false) else None) IsInterest
  if_short true name = written_asks name
  if_short false name = tt

  go : (read : Result Data PacketFault) → IfSome (interest_named t packet read) IsInterest
  go (Err fault) = tt
  go (Ok d) = if_short (nat_lt 0 (length d.name) && nat_le (length (encoding (named_by t packet d))) name_limit)
      (named_by t packet d)

-- ---- what is known before a line asks

-- the want of a claim, if there is one, is an Interest
abbrev ClaimAsks : Option Claimed → Type 0
ClaimAsks o = IfSome o (λ (c : Claimed). IsInterest c.interest)

claim_asks : (d : Declared) (g : GroupKeys) (w : World) (s : Option Stated) → ClaimAsks (claim_sent d g w s)
claim_asks d g w None = tt
claim_asks d g w (Some s) = of s.verb s.values where
  its : (m q : ℕ) (o : Option Part) → ClaimAsks (claim_with g w m q o)
  its m q None = tt
  its m q (Some t) = want_asks g (logs w) t

  if_there : (b : Bool) (o : Option Claimed) → ClaimAsks o → ClaimAsks (if b then o else None)
  if_there true o p = p
  if_there false o p = tt

  between : (f : ℕ) (m q : Option ℕ) → ClaimAsks (claim_between g w f m q)
  between f (Some m) (Some q) =
      if_there (nat_le 1 f && nat_le f 16) (claim_with g w m q (claim_at w m f)) (its m q (claim_at w m f))
  between f _ _ = tt

  of : (v : Verb) (values : List Value) → ClaimAsks (claim_of d g w v values)
  of verb.Answer (Text m ∷ Number f ∷ Text q ∷ []) = between f (member_named d w m) (member_named d w q)
  of _ values = tt

module _ (g : GroupKeys) (w : World) (ms : List Mirroring) where
  abbrev P : Framed → Type 0
  P = AsksOrBrings g w ms

  -- ---- frames one by one

  asks_if : (source to : Station) (o : Option (List ℕ)) → IfSome o IsInterest → All P (sent_if w source to o)
  asks_if source to None is = All-nil P
  asks_if source to (Some packet) is = All-cons P (sent_now w source to packet) [] (inl is) (All-nil P)

  one : (source who : Station) (packet : List ℕ) → IsHeld g w ms who packet → All P (sent_now w source who packet ∷ [])
  one source who packet is = All-cons P (sent_now w source who packet) [] (inr is) (All-nil P)

  brings_if : (source who : Station) (o : Option (List ℕ)) → IfSome o (IsHeld g w ms who)
      → All P (sent_if w source who o)
  brings_if source who None is = All-nil P
  brings_if source who (Some packet) is = one source who packet is

  if_so : (b : Bool) (frames : List Framed) → All P frames → All P (if b then frames else [])
  if_so true frames all = all
  if_so false frames all = All-nil P

  unless : (b : Bool) (frames : List Framed) → All P frames → All P (if b then [] else frames)
  unless true frames all = All-nil P
  unless false frames all = all

  -- ---- packets of held parts

  held_if : (who : Station) (t : Part) (b : Bool) → (b ≡ true → Holds w ms who t)
      → IfSome (if b then published_packet g (logs w) t else None) (IsHeld g w ms who)
  held_if who t false holds = tt
  held_if who t true holds = go (published_packet g (logs w) t) refl where
    go : (o : Option (List ℕ)) → published_packet g (logs w) t ≡ o → IfSome o (IsHeld g w ms who)
    go None e = tt
    go (Some packet) e = record { part = t; held = holds refl; published = e }

  member_has : (m : ℕ) (t : Part) → IfSome (packet_of g w m t) (IsHeld g w ms (Member m))
  member_has m t = held_if (Member m) t (member_holds (member w m) t) (λ h. h)

  mirror_has : (i : ℕ) (t : Part) → IfSome (mirror_packet g w (mirror_of ms i) t) (IsHeld g w ms (Mirror i))
  mirror_has i t =
      held_if (Mirror i) t (stores w (mirror_of ms i) t) (λ h.
      let parts = and_parts ((mirror_of ms i).holds t) (is_for (mirror_of ms i).pattern (logs w) (pair_of t)) h in
      record { holds = parts.0; keeps = parts.1 })

  -- ---- parts that were gained

  of_claim : (o : Option Claimed) → ClaimAsks o → All P (claim_frames g w o)
  of_claim None is = All-nil P
  of_claim (Some c) is =
      if_so (nat_lt c.asker (length w.members) && nat_lt c.asked (length w.members)) (want_frames g w c)
      (All-cons P (sent_now w (Member c.asker) (Member c.asked) c.interest)
      (sent_if w (Member c.asked) (Member c.asker) (packet_of g w c.asker c.part)) (inl is)
      (brings_if (Member c.asked) (Member c.asker) (packet_of g w c.asker c.part) (member_has c.asker c.part)))

  of_asked : (m : ℕ) (a : Asked) → IsInterest a.interest → All P (came g w m a)
  of_asked m a is = go (packet_of g w m a.part) (member_has m a.part) where
    go : (o : Option (List ℕ)) → IfSome o (IsHeld g w ms (Member m)) → All P (came_if w m a o)
    go None h = All-nil P
    go (Some packet) h =
        if_so (nat_lt a.part.publisher (length w.members))
        (sent_now w (Member m) AllMembers a.interest ∷ sent_now w (Member a.part.publisher) (Member m) packet ∷ [])
        (All-cons P (sent_now w (Member m) AllMembers a.interest)
        (sent_now w (Member a.part.publisher) (Member m) packet ∷ []) (inl is)
        (one (Member a.part.publisher) (Member m) packet h))

  of_fetch : (d : Declared) (g0 : GroupKeys) (w0 : World) (s : Option Stated)
      → All P (fetch_frames g w (fetch_made d g0 w0 s))
  of_fetch d g0 w0 None = All-nil P
  of_fetch d g0 w0 (Some s) = of s.verb s.values where
    each : (m : ℕ) (t : Part) → All P (came g w m (asked_for g0 w0 t))
    each m t = of_asked m (asked_for g0 w0 t) (want_asks g0 (logs w0) t)

    by : (o : Option ℕ) → All P (fetch_frames g w (fetch_by g0 w0 o))
    by None = All-nil P
    by (Some m) =
        if_so (nat_lt m (length w.members)) (flat_map (came g w m) (map (asked_for g0 w0) (planned_parts w0 m)))
        (subst (All P) (sym (flat_map-map (came g w m) (asked_for g0 w0) (planned_parts w0 m)))
        (all_of_each P (λ (t : Part). came g w m (asked_for g0 w0 t)) (each m) (planned_parts w0 m)))

    of : (v : Verb) (values : List Value) → All P (fetch_frames g w (fetch_of d g0 w0 v values))
    of verb.Fetch (Text m ∷ Number workers ∷ Number tries ∷ Number loss ∷ []) = by (member_named d w0 m)
    of _ values = All-nil P

  of_gained : (who : Station) (t : Part) (o : Option (List ℕ)) → IfSome o (IsHeld g w ms who)
      → All P (gained_if w who t o)
  of_gained who t None h = All-nil P
  of_gained who t (Some packet) h =
      if_so (nat_lt t.publisher (length w.members)) (gained w who t packet)
      (All-append P (sent_if w who AllMembers (interest_for t packet))
      (sent_now w (Member t.publisher) who packet ∷ [])
      (asks_if who AllMembers (interest_for t packet) (asks_for t packet)) (one (Member t.publisher) who packet h))

  of_holder : (h : Holder) → All P (new_parts g w h)
  of_holder h =
      if_so (nat_lt h.member (length w.members))
      (flat_map (new_part g w h.member h.held) (member w h.member).held)
      (all_of_each P (new_part g w h.member h.held) each (member w h.member).held) where
        each : (t : Part) → All P (new_part g w h.member h.held t)
        each t =
            unless (contains part_cmp h.held t) (gained_if w (Member h.member) t (packet_of g w h.member t))
            (of_gained (Member h.member) t (packet_of g w h.member t) (member_has h.member t))

  of_mirror : (h : Holder) → All P (mirror_parts g w ms h)
  of_mirror h =
      if_so (nat_lt h.member (length ms))
      (flat_map (mirror_part g w (mirror_of ms h.member) h.member h.held) (stored_by w (mirror_of ms h.member)))
      (all_of_each P (mirror_part g w (mirror_of ms h.member) h.member h.held) each
      (stored_by w (mirror_of ms h.member))) where
        each : (t : Part) → All P (mirror_part g w (mirror_of ms h.member) h.member h.held t)
        each t =
            unless (contains part_cmp h.held t)
            (gained_if w (Mirror h.member) t (mirror_packet g w (mirror_of ms h.member) t))
            (of_gained (Mirror h.member) t (mirror_packet g w (mirror_of ms h.member) t) (mirror_has h.member t))

  -- all frames of gained parts, where those of the claim and of the fetch are Interests
  of_known : (k : Known) → ClaimAsks k.claim → All P (fetch_frames g w k.fetch)
      → All P (gains g w k ++ flat_map (mirror_parts g w ms) k.mirrors)
  of_known k claim fetch =
      All-append P (gains g w k) (flat_map (mirror_parts g w ms) k.mirrors)
      (All-append P (claim_frames g w k.claim) (fetch_frames g w k.fetch ++ flat_map (new_parts g w) k.holders)
      (of_claim k.claim claim)
      (All-append P (fetch_frames g w k.fetch) (flat_map (new_parts g w) k.holders) fetch
      (all_of_each P (new_parts g w) of_holder k.holders)))
      (all_of_each P (mirror_parts g w ms) of_mirror k.mirrors)

pub all_held : (before after : State) (line : List ℕ) (w : World)
    → All (AsksOrBrings after.keys w after.mirrors) (arrivals after (known_before before line) w)
all_held before after line w = go before.world where
  go : (o : Option World) → All (AsksOrBrings after.keys w after.mirrors) (arrivals after (known_of before line o) w)
  go None = of_known after.keys w after.mirrors nothing_known tt (All-nil (AsksOrBrings after.keys w after.mirrors))
  go (Some w0) =
      of_known after.keys w after.mirrors (known_of before line (Some w0))
      (claim_asks before.declared before.keys w0 (stated_in line))
      (of_fetch after.keys w after.mirrors before.declared before.keys w0 (stated_in line))
