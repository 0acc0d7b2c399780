-- What is reported of an event names members, and all of them where it names any in order.
use Rattle.std.proofs.Common.{◌≡◌, ℕ, ◌-◌, ◌<◌, Bool, true, false, cond, Option, Some, None, List, map, length, refl}
use Rattle.std.proofs.Common.{sym, ap, ◌∙◌, subst, arith}
use Rattle.std.specs.Prelude.{Result, Ok, Err, IfErr}
use Rattle.std.specs.List.{All}
use Rattle.std.proofs.lemmas.List.{length-map}
use Rattle.std.proofs.lemmas.List.Elements.{All-map}
use Rattle.ndn_data.specs.Data.{Data}
use Rattle.ndn_name.specs.declared.fault.PacketFault.{PacketFault}
use Rattle.svs_sync.specs.declared.mode.Mode.{Mode}
use Rattle.svs_sync.specs.declared.mode.Mode.TheVariants.{Steady, Suppressed}
use Rattle.svs_sync.specs.declared.fired.Fired.{Fired}
use Rattle.svs_sync.specs.declared.fired.Fired.TheVariants as fired
use Rattle.svs_sync.specs.declared.sync_refusal.SyncRefusal.{SyncRefusal}
use Rattle.repo_plan.specs.declared.part.Part.{Part}
use Rattle.repo_plan.specs.Parts.{Pair, pair_of}
use Rattle.sorted_lists.specs.Range.{numbers_from}
use Rattle.sorted_lists.proofs.Ranges.{length-numbers}
use Rattle.sorted_lists.proofs.Members.{in_filtered}
use Rattle.repo_object.specs.declared.part_refusal.PartRefusal.{PartRefusal}
use Rattle.repo_object.specs.Verdict.{ring_verdict}
use Rattle.repo_process.specs.Processes.{BlockState}
use Rattle.repo_process.specs.Processes.BlockState.{Unknown, Already, Waiting, Whole}
use Rattle.repo_catalog.specs.declared.entry.Entry.{Entry}
use Rattle.repo_store.specs.Served.{served}
use Rattle.group_model.specs.Publications.{Publication, pair_in, published, published_entry}
use Rattle.group_model.specs.Member.{Member, member_holds, is_listed, catalogued}
use Rattle.group_model.specs.Replies.{CatalogueTotals, HearOutcome}
use Rattle.group_model.specs.Sound.{IsPublished, IsSoundGroup}
use Rattle.group_model.specs.Wanted.{IsWantedPart, HoldsRecords}
use Rattle.group_model.specs.World.{Environment, World, member, logs, sent_at, catalogue_at}
use Rattle.group_model.specs.Steps.{catalogue_totals, all_totals, claim_at, to_claim, timer_at, mode_at, after_deliver}
use Rattle.group_model.specs.Steps.{response_from, passes_checks, next_seq_at, next_sync, block_at, hear_outcome}
use Rattle.group_model.proofs.Members.{known_published}
use Rattle.group_model.proofs.Parts.{publisher_within, in_published}
use Rattle.group_model.proofs.PublicLaws.{tests_those, claims_first}
use Rattle.repo_member.specs.Groups.{GroupKeys}
use Rattle.repo_member.specs.Verdicts.{group_verdict}
use Rattle.repo_member.specs.InGroup.{published_packet}
use Rattle.repo_member.specs.ConsistentMembers.{published_want, published_packets}
use Rattle.bench_world.specs.EventValues.{EventValue, part_at, event_report, delivered_report, fired_report}
use Rattle.bench_world.specs.EventValues.{claim_report}
use Rattle.bench_world.specs.EventValues.{lost_report, answer_report, dump_report, mode_report, heard_as}
use Rattle.bench_world.specs.EventValues.{hear_report, ask_report}
use Rattle.bench_world.specs.EventValues.{fed_report, feed_report, block_report}
use Rattle.bench_world.specs.Readings.{read_as}
use Rattle.bench_world.specs.Steps.{EventInRange, SyncNamesMember, NamesInRange}
use Rattle.bench_world.proofs.NextParts.{all_from_in}
use Rattle.bench_world.proofs.RefusedMembers.{refused_in_roster}

module _ (n : ℕ) where
  -- ---- of a member that is there

  module _ (m : ℕ) (there : m < n) where
    of_mode : (mode : Mode) → NamesInRange n (mode_report m mode)
    of_mode Steady = there
    of_mode Suppressed = there

    of_delivery : (k : ℕ) (mode : Mode) → NamesInRange n (delivered_report k m mode)
    of_delivery k Steady = there
    of_delivery k Suppressed = there

    of_fire : (k : ℕ) (x : Fired) → NamesInRange n (fired_report m k x)
    of_fire k fired.Early = there
    of_fire k fired.Quiet = there
    of_fire k fired.Send = there

    of_claim : (f : ℕ) (o : Option Part) → ((t : Part) → o ≡ Some t → t.publisher < n)
        → NamesInRange n (claim_report m f o)
    of_claim f None publisher = there
    of_claim f (Some t) publisher = (there, publisher t refl)

    of_loss : (f : ℕ) (o : Option Part) → ((t : Part) → o ≡ Some t → t.publisher < n)
        → NamesInRange n (lost_report m f o)
    of_loss f None publisher = tt
    of_loss f (Some t) publisher = (there, publisher t refl)

    of_answer : (f : ℕ) (b : Bool) → NamesInRange n (answer_report m f b)
    of_answer f true = there
    of_answer f false = there

    of_dump : (o : Option (List ℕ)) → NamesInRange n (dump_report m o)
    of_dump None = there
    of_dump (Some octets) = there

    of_ask : (r : Result (Option (List ℕ)) PacketFault) → NamesInRange n (ask_report m r)
    of_ask (Err fault) = there
    of_ask (Ok None) = there
    of_ask (Ok (Some octets)) = there

    of_fed : (f : ℕ) (r : Result Data PartRefusal) → NamesInRange n (fed_report m f r)
    of_fed f (Ok d) = there
    of_fed f (Err refusal) = there

    of_feed : (g : GroupKeys) (w : World) (f : ℕ) (octets : List ℕ) (o : Option Part)
        → NamesInRange n (feed_report g w m f octets o)
    of_feed g w f octets None = tt
    of_feed g w f octets (Some t) = of_fed f (ring_verdict (published_want g (logs w) t) g.members.ring octets)

    of_block : (seq sync : ℕ) (b : BlockState) → NamesInRange n (block_report m seq sync b)
    of_block seq sync Unknown = there
    of_block seq sync Already = there
    of_block seq sync (Waiting p) = there
    of_block seq sync (Whole p) = there

    of_heard : (heard : Result Mode (ℕ × ℕ)) → NamesInRange n (heard_as m heard)
    of_heard (Ok mode) = of_mode mode
    of_heard (Err ahead) = (there, tt)

    of_hear : (r : Result (ℕ × List ℕ) SyncRefusal) → IfErr r (SyncNamesMember n) → (heard : HearOutcome (read_as r))
        → NamesInRange n (hear_report m r heard)
    of_hear (Err refusal) named heard = (there, named)
    of_hear (Ok received) named heard = of_heard heard

  -- ---- of a sound group

  module _ (g : GroupKeys) (env : Environment) (w : World) (roster : length g.members.names ≡ n)
      (many : length w.members ≡ n) (sound : IsSoundGroup w) where
    of_sums : (f : CatalogueTotals → ℕ) → length (map f (all_totals w)) ≡ n
    of_sums f =
        length-map (all_totals w) f
        ∙ length-map (numbers_from 0 (length w.members)) (λ j. catalogue_totals (catalogue_at w j))
        ∙ length-numbers 0 (length w.members)
        ∙ many

    is_member : (pair : Pair) → IsPublished (logs w) pair → pair.0 < n
    is_member pair published = subst (λ (k : ℕ). pair.0 < k) many (publisher_within w pair published)

    records : (m : ℕ) → m < n → HoldsRecords (member w m)
    records m there t held = ((sound.members m (subst (λ (k : ℕ). m < k) (sym many) there)).held t held).with_record

    -- The publisher of a wanted part is a member.
    of_wanted : (m : ℕ) → m < n → (t : Part) → IsWantedPart (logs w) (member w m) t → t.publisher < n
    of_wanted m there t wanted =
        let is = sound.members m (subst (λ (k : ℕ). m < k) (sym many) there) in
        is_member (pair_of t) (known_published (logs w) (member w m).known (pair_of t) is.known wanted.known)

    of_first : (m : ℕ) → m < n → (t : Part) → to_claim w m ≡ Some t → t.publisher < n
    of_first m there t first = of_wanted m there t (claims_first w m t (records m there) first).wanted

    of_claimed : (m f : ℕ) → m < n → (t : Part) → claim_at w m f ≡ Some t → t.publisher < n
    of_claimed m f there t claimed =
        let is = sound.members m (subst (λ (k : ℕ). m < k) (sym many) there) in
        of_wanted m there t
        ((tests_those (logs w) (member w m) t (records m there)).0 (is.claimed (f - 1) t claimed))

    -- The publisher of each entry of a catalogue is a member.
    of_entries : (m : ℕ) → All (λ (e : Entry). e.publisher < n) (catalogue_at w m)
    of_entries m =
        All-map (λ (e : Entry). e.publisher < n) published_entry (catalogued (logs w) (member w m))
        (all_from_in (λ (p : Publication). p.publisher < n) (catalogued (logs w) (member w m)) (λ p i.
        is_member (pair_in p)
        (in_published (logs w) p
        (in_filtered (is_listed (published (logs w)) (member w m)) (published (logs w)) p i).0).there))

    of_refusal : (octets : List ℕ) → IfErr (group_verdict g octets) (SyncNamesMember n)
    of_refusal octets =
        subst (λ (k : ℕ). IfErr (group_verdict g octets) (SyncNamesMember k)) roster
        (refused_in_roster g.members.names g.name g.members.ring octets)

    pub names_all : (e : EventValue) → EventInRange n e → NamesInRange n (event_report g env w e)
    names_all (EventValue.Publish m name size content) r = r.0
    names_all (EventValue.Withdraw m s) r = r.0
    names_all (EventValue.Deliver k m) r = of_delivery m r k (mode_at (after_deliver env w m (sent_at w k).vector) m)
    names_all (EventValue.Sync k) r = tt
    names_all (EventValue.Advance ms) r = tt
    names_all (EventValue.Fire m) r = of_fire m r (next_sync w) (timer_at w m)
    names_all (EventValue.Restart m) r = r
    names_all (EventValue.Vector m) r =
        let width : length (member w m).known ≡ length (logs w) = (sound.members m (omega (arith, r, many))).width in
        (ap (numbers_from 0) many, width ∙ length-map w.members (λ (x : Member). x.log) ∙ many, r)
    names_all (EventValue.Catalogue m) r = (r, of_entries m)
    names_all (EventValue.Claim m f) r = of_claim m r.0 f (to_claim w m) (of_first m r.0)
    names_all (EventValue.Lose m f) r = of_loss m r.0 f (claim_at w m f) (of_claimed m f r.0)
    names_all (EventValue.Answer m f q) r = of_answer m r.0 f (passes_checks (response_from env w q (claim_at w m f)))
    names_all (EventValue.Fetch m workers tries loss) r = r.0
    names_all (EventValue.Settle workers) r = tt
    names_all (EventValue.Dump m p s x) r =
        of_dump m r.0 (cond (member_holds (member w m) (part_at p s x)) (published_packet g (logs w) (part_at p s x))
        None)
    names_all (EventValue.Hear m octets) r =
        of_hear m r (group_verdict g octets) (of_refusal octets)
        (hear_outcome env w m (read_as (group_verdict g octets)))
    names_all (EventValue.Ask m octets) r = of_ask m r (served octets (published_packets g (logs w) (member w m).held))
    names_all (EventValue.Feed m f octets) r = of_feed m r.0 g w f octets (claim_at w m f)
    names_all (EventValue.Order m octets) r = r
    names_all (EventValue.Insert m client name first last) r = r.0
    names_all (EventValue.Block m process index content) r =
        of_block m r.0 (next_seq_at w m) (next_sync w) (block_at w m process index content)
    names_all (EventValue.Status m client process) r = r
    names_all (EventValue.Delete m client name) r = r.0
    names_all EventValue.Summary r =
        (ap (numbers_from 0) many, of_sums (λ t. t.entries), of_sums (λ t. t.segments), of_sums (λ t. t.octets))
    names_all EventValue.Traffic r = tt
