-- The results of a phase, for the parts that a holder asks members for.
use Rattle.std.proofs.Common.{◌≡◌, inl, inr, ℕ, suc, zero, ◌+◌, ◌≤◌, ◌<◌, Bool, true, false, cond, ◌==◌, List, [], ◌∷◌}
use Rattle.std.proofs.Common.{map, length, replicate, Option, Some, None, refl, sym, ap, ◌∙◌, subst, arith}
use Rattle.std.specs.Prelude.{nat_le, is_some, unwrap_or, find, filter, option_map, slice_get, sum_by, IfSome, IsOk}
use Rattle.std.specs.Prelude.{Result, Ok, Err}
use Rattle.std.specs.List.{All}
use Rattle.std.proofs.lemmas.List.Sums.{sum_by-cons}
use Rattle.std.proofs.lemmas.Bool.{true≢false}
use Rattle.std.proofs.lemmas.Option.{none-some}
use Rattle.ndn_data.specs.Data.{Data}
use Rattle.repo_plan.specs.declared.part.Part.{Part}
use Rattle.sorted_lists.specs.SortedList.{value_of}
use Rattle.sorted_lists.specs.Range.{numbers_from}
use Rattle.repo_plan.specs.Parts.{part_cmp, pair_of}
use Rattle.repo_plan.specs.Plan.{is_wanted, attempts_of}
use Rattle.sorted_lists.proofs.Sets.{In}
use Rattle.repo_object.specs.declared.job.Job.{Job}
use Rattle.repo_object.specs.declared.part_refusal.PartRefusal.{PartRefusal}
use Rattle.repo_object.specs.Publication.{Listed}
use Rattle.repo_object.specs.Wants.{WantedPart, want_record, want_index, want_segment}
use Rattle.repo_object.specs.Verdict.{CheckedPart, ring_verdict, checked_part}
use Rattle.fetch_work.specs.Attempts.{packet_at, checked_reply, if_passed, CanBeTried}
use Rattle.fetch_work.specs.Phases.{AreFirst}
use Rattle.fetch_work.specs.Teams.{IsFirst}
use Rattle.group_model.specs.Publications.{Logs}
use Rattle.repo_member.specs.Groups.{GroupKeys, node_at}
use Rattle.repo_member.specs.Listed.{listing_at, listed_shape}
use Rattle.repo_member.specs.StoredParents.{digest_at}
use Rattle.repo_holdings.specs.HoldingsState.{HoldingsState, held_plan}
use Rattle.repo_holdings.specs.Taking.{Fetched}
use Rattle.repo_holdings.specs.Wanting.{nothing_listed, want_at, job_at}
use Rattle.repo_member.specs.MemberState.{MemberState}
use Rattle.repo_member.specs.InGroup.{AreLogs, published_packet, asked_for, parts_fetched}
use Rattle.repo_member.specs.Outcomes.{outcome_of, octets_in, IsCheckedFor, WereChecked}
use Rattle.repo_member.specs.ConsistentHolders.{IsConsistentHolder}
use Rattle.repo_member.proofs.PublicLaws.{packets_pass_for_holders}
use Rattle.bench_world.specs.Worlds.{AreConsistentMembers}
use Rattle.bench_world.specs.Others.{place_among_others}
use Rattle.bench_world.specs.Lending.{or_else, lent, lends, lent_at, lent_first, attempt_passes, if_comes, lent_answer}
use Rattle.bench_world.specs.Gathering.{lent_one, lent_all}
use Rattle.bench_world.specs.Fetching.{fetched_one, fetched_all}
use Rattle.bench_world.proofs.Attempts.{none_comes, some_comes}

-- ---- what is lent

module _ (g : GroupKeys) (logs : Logs) where
  -- What is lent is the packet of its part.
  pub lends_consistent : (others : List MemberState) → AreConsistentMembers g logs others → (t : Part) (octets : List ℕ)
      → lent others t ≡ Some octets → published_packet g logs t ≡ Some octets
  lends_consistent [] consistent t octets e = absurd (none-some octets e)
  lends_consistent (m ∷ ms) consistent t octets e =
      go (value_of part_cmp m.store t) refl (lends_consistent ms (λ j l. consistent (suc j) (omega (arith, l))) t
      octets) where
        go : (o : Option (List ℕ)) → value_of part_cmp m.store t ≡ o
            → (lent ms t ≡ Some octets → published_packet g logs t ≡ Some octets) → published_packet g logs t
            ≡ Some octets
        go None h rest = rest (sym (ap (λ (x : Option (List ℕ)). or_else x (lent ms t)) h) ∙ e)
        go (Some x) h rest =
            (consistent 0 (omega arith)).packets t octets
            (h ∙ sym (ap (λ (y : Option (List ℕ)). or_else y (lent ms t)) h) ∙ e)

  -- One of the members lends what one of them stores.
  stored_lent : (others : List MemberState) (k : ℕ) (t : Part) (octets : List ℕ)
      → lent_at (slice_get others k) t ≡ Some octets → is_some (lent others t) ≡ true
  stored_lent [] k t octets e = absurd (none-some octets e)
  stored_lent (m ∷ ms) zero t octets e = ap (λ (o : Option (List ℕ)). is_some (or_else o (lent ms t))) e
  stored_lent (m ∷ ms) (suc k) t octets e = go (value_of part_cmp m.store t) (stored_lent ms k t octets e) where
    go : (o : Option (List ℕ)) → is_some (lent ms t) ≡ true → is_some (or_else o (lent ms t)) ≡ true
    go None h = h
    go (Some x) h = refl

  stored_consistent : (others : List MemberState) (k : ℕ) (t : Part) (octets : List ℕ)
      → AreConsistentMembers g logs others
      → lent_at (slice_get others k) t ≡ Some octets → published_packet g logs t ≡ Some octets
  stored_consistent [] k t octets consistent e = absurd (none-some octets e)
  stored_consistent (m ∷ ms) zero t octets consistent e = (consistent 0 (omega arith)).packets t octets e
  stored_consistent (m ∷ ms) (suc k) t octets consistent e = stored_consistent ms k t octets
      (λ j l. consistent (suc j) (omega (arith, l))) e

  -- The packet that is lent is the same whether or not the publisher is asked first.
  pub first_is_lent : (others : List MemberState) (asker : ℕ) (t : Part) → AreConsistentMembers g logs others
      → lent_first others asker t ≡ lent others t
  first_is_lent others asker t consistent =
      go (lent_at (slice_get others (place_among_others asker t.publisher)) t) (lent others t) refl refl where
        go : (x y : Option (List ℕ)) → lent_at (slice_get others (place_among_others asker t.publisher)) t ≡ x
            → lent others t ≡ y → or_else x y ≡ y
        go None y e f = refl
        go (Some octets) None e f =
            absurd
            (true≢false (sym (stored_lent others (place_among_others asker t.publisher) t octets e) ∙ ap is_some f))
        go (Some octets) (Some other) e f =
            sym (stored_consistent others (place_among_others asker t.publisher) t octets consistent e)
            ∙ lends_consistent others consistent t other f

-- ---- what is checked

module _ (g : GroupKeys) (want : WantedPart) where
  checked_if : (v : Result Data PartRefusal) (octets : List ℕ) (x : CheckedPart)
      → if_passed v (checked_part want g.members.ring octets) ≡ Some x → IsCheckedFor g want x
  checked_if (Ok d) octets x e =
      subst (λ o. IfSome o (IsCheckedFor g want)) e (record { same = refl; key_name = refl; key = refl })
  checked_if (Err refusal) octets x e = absurd (none-some x e)

  checked_for : (reply : Option (List ℕ)) (x : CheckedPart) → checked_reply want g.members.ring reply ≡ Some x
      → IsCheckedFor g want x
  checked_for None x e = absurd (none-some x e)
  checked_for (Some octets) x e = checked_if (ring_verdict want g.members.ring octets) octets x e

  passed_whole : (octets : List ℕ) (v : Result Data PartRefusal) → IsOk v
      → if_passed v (checked_part want g.members.ring octets) ≡ Some (checked_part want g.members.ring octets)
  passed_whole octets (Ok d) h = refl
  passed_whole octets (Err refusal) h = absurd (true≢false (sym h))

-- ---- what comes can be taken

module _ (answer : WantedPart → ℕ → Option (List ℕ)) (g : GroupKeys) (tries : ℕ) where
  one_tried : (job : Job) (part : Option CheckedPart) (n : ℕ)
      → IsFirst (packet_at answer g.members.ring job) tries part n
      → (IfSome part (IsCheckedFor g job.want)) × (n ≤ tries)
  one_tried job (Some x) n f =
      (checked_for g job.want (answer job.want (job.base + f.0 + 1)) x f.3, omega (arith, f.1, f.2))
  one_tried job None n f = (tt, omega (arith, f.0))

  pub were_tried : (jobs : List Job) (parts : List (Option CheckedPart)) (ns : List ℕ)
      → All (CanBeTried (length g.members.ring) tries) jobs → AreFirst answer g.members.ring tries jobs parts ns
      → WereChecked g jobs parts ns
  were_tried [] [] [] can f = tt
  were_tried (job ∷ jobs) (part ∷ parts) (n ∷ ns) can f =
      let one = one_tried job part n f.0 in
      let few : job.base + tries < 2097152 = (can 0 job (omega arith)).few in
      (one.0, omega (arith, one.1, few), were_tried jobs parts ns (λ k d l. can (suc k) d (omega (arith, l))) f.1)
  were_tried [] [] (n ∷ ns) can f = absurd f
  were_tried [] (p ∷ ps) ns can f = absurd f
  were_tried (j ∷ js) [] ns can f = absurd f
  were_tried (j ∷ js) (p ∷ ps) [] can f = absurd f

  -- The results of jobs can be taken where no attempt is counted.
  pub none_counted : (jobs : List Job) (parts : List (Option CheckedPart)) (ns : List ℕ)
      → All (CanBeTried (length g.members.ring) tries) jobs → AreFirst answer g.members.ring tries jobs parts ns
      → WereChecked g jobs parts (replicate (length jobs) 0)
  none_counted [] [] [] can f = tt
  none_counted (job ∷ jobs) (part ∷ parts) (n ∷ ns) can f =
      let one = one_tried job part n f.0 in
      let few : job.base + tries < 2097152 = (can 0 job (omega arith)).few in
      (one.0, omega (arith, few), none_counted jobs parts ns (λ k d l. can (suc k) d (omega (arith, l))) f.1)
  none_counted [] [] (n ∷ ns) can f = absurd f
  none_counted [] (p ∷ ps) ns can f = absurd f
  none_counted (j ∷ js) [] ns can f = absurd f
  none_counted (j ∷ js) (p ∷ ps) [] can f = absurd f

  pub first_lengths : (jobs : List Job) (parts : List (Option CheckedPart)) (ns : List ℕ)
      → AreFirst answer g.members.ring tries jobs parts ns → (length parts ≡ length jobs) × (length ns ≡ length jobs)
  first_lengths [] [] [] f = (refl, refl)
  first_lengths (job ∷ jobs) (part ∷ parts) (n ∷ ns) f =
      let r = first_lengths jobs parts ns f.1 in (omega (arith, r.0), omega (arith, r.1))
  first_lengths [] [] (n ∷ ns) f = absurd f
  first_lengths [] (p ∷ ps) ns f = absurd f
  first_lengths (j ∷ js) [] ns f = absurd f
  first_lengths (j ∷ js) (p ∷ ps) [] f = absurd f

-- ---- how much was received

pub counted : (jobs : List Job) (parts : List (Option CheckedPart)) (ns : List ℕ) → length parts ≡ length jobs
    → length ns ≡ length jobs → length (filter is_some parts) ≡ length (parts_fetched (outcome_of jobs parts ns))
counted [] [] ns e f = refl
counted [] (p ∷ ps) ns e f = absurd (omega (arith, e))
counted (job ∷ jobs) [] ns e f = absurd (omega (arith, e))
counted (job ∷ jobs) (p ∷ ps) [] e f = absurd (omega (arith, f))
counted (job ∷ jobs) (None ∷ ps) (n ∷ ns) e f = counted jobs ps ns (omega (arith, e)) (omega (arith, f))
counted (job ∷ jobs) (Some c ∷ ps) (n ∷ ns) e f =
    ap (λ (k : ℕ). suc k) (counted jobs ps ns (omega (arith, e)) (omega (arith, f)))

pub octets_sum : (f : Part → ℕ) (jobs : List Job) (parts : List (Option CheckedPart)) (ns : List ℕ)
    → length parts ≡ length jobs → length ns ≡ length jobs
    → ((x : Fetched) (octets : List ℕ) → In x (outcome_of jobs parts ns) → x.packet ≡ Some octets
    → f x.part ≡ length octets)
    → sum_by octets_in parts ≡ sum_by f (parts_fetched (outcome_of jobs parts ns))
octets_sum f [] [] ns e h each = refl
octets_sum f [] (p ∷ ps) ns e h each = absurd (omega (arith, e))
octets_sum f (job ∷ jobs) [] ns e h each = absurd (omega (arith, e))
octets_sum f (job ∷ jobs) (p ∷ ps) [] e h each = absurd (omega (arith, h))
octets_sum f (job ∷ jobs) (None ∷ ps) (n ∷ ns) e h each =
    let head : sum_by octets_in (None ∷ ps) ≡ octets_in None + sum_by octets_in ps = sum_by-cons octets_in None ps in
    let rest : sum_by octets_in ps ≡ sum_by f (parts_fetched (outcome_of jobs ps ns)) =
    octets_sum f jobs ps ns (omega (arith, e)) (omega (arith, h)) (λ x octets i q. each x octets (inr i) q) in
    omega (arith, head, rest)
octets_sum f (job ∷ jobs) (Some c ∷ ps) (n ∷ ns) e h each =
    let rest =
    octets_sum f jobs ps ns (omega (arith, e)) (omega (arith, h)) (λ x octets i q. each x octets (inr i) q) in
    let one : f job.want.part ≡ length c.octets =
    each (record { part = job.want.part; packet = Some c.octets; attempts = n }) c.octets (inl refl) refl in
    sum_by-cons octets_in (Some c) ps
    ∙ (λ i. sym one i + rest i)
    ∙ sym (sum_by-cons f job.want.part (parts_fetched (outcome_of jobs ps ns)))

-- ---- jobs that were planned

pub want_part : (g : GroupKeys) (h : HoldingsState) (t : Part)
    → (want_at g.members.names g.name h.store t).part ≡ t
want_part g h t =
    go (t.part == 0) (nat_le t.part (listed_shape listed).index) where
      listed : Listed
      listed = unwrap_or (listing_at h.store (pair_of t)) nothing_listed

      go : (b c : Bool)
          → (cond b (want_record t (node_at g t.publisher) g.name)
          (cond c (want_index t listed (node_at g t.publisher) g.name)
          (want_segment t (listed_shape listed) listed.name (digest_at h.store t listed)))).part
          ≡ t
      go true c = refl
      go false true = refl
      go false false = refl

module _ (passes : ℕ → ℕ → ℕ → ℕ → ℕ → ℕ → Bool) (g : GroupKeys) (logs : Logs) (h : HoldingsState)
    (others : List MemberState)
    (asker : ℕ) (loss : Option ℕ) (are : AreLogs g logs) (consistent : IsConsistentHolder g logs h)
    (all : AreConsistentMembers g logs others) where
  abbrev answer : WantedPart → ℕ → Option (List ℕ)
  answer = lent_answer passes others asker loss

  abbrev want : Part → WantedPart
  want t = want_at g.members.names g.name h.store t

  abbrev job : Part → Job
  job = job_at g.members.names g.name h

  brought : (t : Part) (before : ℕ) → packet_at answer g.members.ring (job t) before
      ≡ checked_reply (want t) g.members.ring
      (if_comes (attempt_passes passes asker loss t (attempts_of (held_plan h) t + before + 1)) (lent others t))
  brought t before =
      ap (λ (q : Part). checked_reply (want t) g.members.ring
      (if_comes (attempt_passes passes asker loss q (attempts_of (held_plan h) t + before + 1))
      (lent_first others asker q))) (want_part g h t)
      ∙ ap (λ (o : Option (List ℕ)). checked_reply (want t) g.members.ring
      (if_comes (attempt_passes passes asker loss t (attempts_of (held_plan h) t + before + 1)) o))
      (first_is_lent g logs others asker t all)

  nothing_comes : (want : WantedPart) (b : Bool) → checked_reply want g.members.ring (if_comes b None) ≡ None
  nothing_comes want true = refl
  nothing_comes want false = refl

  octets_if : (b : Bool) (c : CheckedPart) (octets : List ℕ) → c.octets ≡ octets
      → option_map (λ (c : CheckedPart). c.octets) (cond b (let o : Option CheckedPart = Some c in o) None)
      ≡ cond b (Some octets) None
  octets_if true c octets e = ap (λ (o : List ℕ). Some o) e
  octets_if false c octets e = refl

  module _ (tries : ℕ) where
    -- The result of one part is that of `fetched_one`.
    one_comes : (t : Part) → is_wanted (held_plan h) t ≡ true → (part : Option CheckedPart) (n : ℕ)
        → IsFirst (packet_at answer g.members.ring (job t)) tries part n
        → (option_map (λ c. c.octets) part ≡ (fetched_one (attempt_passes passes asker loss) others tries h t).packet)
        × (n ≡ (fetched_one (attempt_passes passes asker loss) others tries h t).attempts)
    one_comes t w part n f = go (lent others t) refl where
      p : ℕ → Bool
      p k = attempt_passes passes asker loss t (attempts_of (held_plan h) t + k)

      whole : (octets : List ℕ) → lent others t ≡ Some octets → (b : Bool)
          → checked_reply (want t) g.members.ring (if_comes b (Some octets))
          ≡ cond b (Some (checked_part (want t) g.members.ring octets)) None
      whole octets e true =
          passed_whole g (want t) octets (ring_verdict (want t) g.members.ring octets)
          (packets_pass_for_holders g logs h t octets are consistent w (lends_consistent g logs others all t octets e))
      whole octets e false = refl

      go : (o : Option (List ℕ)) → lent others t ≡ o
          → (option_map (λ c. c.octets) part
          ≡ cond
          (is_some (cond (is_some o)
          (find (λ k. attempt_passes passes asker loss t (attempts_of (held_plan h) t + k)) (numbers_from 1 tries))
          None)) o None)
          × (n
          ≡ unwrap_or (cond (is_some o)
          (find (λ k. attempt_passes passes asker loss t (attempts_of (held_plan h) t + k)) (numbers_from 1 tries))
          None) tries)
      go None e =
          let r = none_comes (packet_at answer g.members.ring (job t)) tries part n (λ b.
          brought t b
          ∙ ap (λ (o : Option (List ℕ)). checked_reply (want t) g.members.ring
          (if_comes (attempt_passes passes asker loss t (attempts_of (held_plan h) t + b + 1)) o)) e
          ∙ nothing_comes (want t)
          (attempt_passes passes asker loss t (attempts_of (held_plan h) t + b + 1))) f in
          (ap (option_map (λ (c : CheckedPart). c.octets)) r.0, r.1)
      go (Some octets) e =
          let c : CheckedPart = checked_part (want t) g.members.ring octets in
          let r =
          some_comes (packet_at answer g.members.ring (job t)) tries
          (λ k. attempt_passes passes asker loss t (attempts_of (held_plan h) t + k))
          (checked_part (want t) g.members.ring octets) (λ b.
          let k : attempts_of (held_plan h) t + b + 1 ≡ attempts_of (held_plan h) t + (b + 1) = omega arith in
          brought t b
          ∙ ap (λ (o : Option (List ℕ)). checked_reply (want t) g.members.ring
          (if_comes (attempt_passes passes asker loss t (attempts_of (held_plan h) t + b + 1)) o)) e
          ∙ whole octets e (attempt_passes passes asker loss t (attempts_of (held_plan h) t + b + 1))
          ∙ ap (λ (m : ℕ). cond (attempt_passes passes asker loss t m)
          (let o : Option CheckedPart = Some (checked_part (want t) g.members.ring octets) in o) None) k)
          part n f in (
            ap (option_map (λ (c : CheckedPart). c.octets)) r.0
                ∙ octets_if
                (is_some (find (λ k. attempt_passes passes asker loss t (attempts_of (held_plan h) t + k))
                (numbers_from 1 tries))) (checked_part (want t) g.members.ring octets) octets refl,
            r.1,
          )

    -- The results of all parts are those of `fetched_all`.
    pub fetched_is : (ts : List Part) → ((t : Part) → In t ts → is_wanted (held_plan h) t ≡ true)
        → (parts : List (Option CheckedPart)) (ns : List ℕ)
        → AreFirst answer g.members.ring tries (map job ts) parts ns
        → outcome_of (map job ts) parts ns ≡ fetched_all (attempt_passes passes asker loss) others tries h ts
    fetched_is [] w [] [] f = refl
    fetched_is [] w [] (n ∷ ns) f = absurd f
    fetched_is [] w (p ∷ ps) ns f = absurd f
    fetched_is (t ∷ ts) w [] ns f = absurd f
    fetched_is (t ∷ ts) w (p ∷ ps) [] f = absurd f
    fetched_is (t ∷ ts) w (p ∷ ps) (n ∷ ns) f =
        let part = want_part g h t in
        let r = one_comes t (w t (inl refl)) p n f.0 in
        let packet = r.0 in
        let attempts = r.1 in
        let rest = fetched_is ts (λ u i. w u (inr i)) ps ns f.1 in
        λ i. record { part = part i; packet = packet i; attempts = attempts i } ∷ rest i

  -- Where every attempt passes, one is enough.
  through : loss ≡ None → (t : Part)
      → (fetched_one (attempt_passes passes asker loss) others 1 h t).packet ≡ lent others t
  through e t =
      ap (λ (l : Option ℕ). (fetched_one (attempt_passes passes asker l) others 1 h t).packet) e
      ∙ same (lent others t) where
        same : (o : Option (List ℕ))
            → cond (is_some (cond (is_some o) (let x : Option ℕ = Some 1 in x) None)) o None ≡ o
        same None = refl
        same (Some octets) = refl

  pub lent_is : loss ≡ None → (ts : List Part) → ((t : Part) → In t ts → is_wanted (held_plan h) t ≡ true)
      → (parts : List (Option CheckedPart)) (ns : List ℕ)
      → AreFirst answer g.members.ring 1 (map job ts) parts ns
      → outcome_of (map job ts) parts (replicate (length (map job ts)) 0) ≡ lent_all others ts
  lent_is e [] w [] [] f = refl
  lent_is e [] w [] (n ∷ ns) f = absurd f
  lent_is e [] w (p ∷ ps) ns f = absurd f
  lent_is e (t ∷ ts) w [] ns f = absurd f
  lent_is e (t ∷ ts) w (p ∷ ps) [] f = absurd f
  lent_is e (t ∷ ts) w (p ∷ ps) (n ∷ ns) f =
      let part = want_part g h t in
      let packet = (one_comes 1 t (w t (inl refl)) p n f.0).0 ∙ through e t in
      let rest = lent_is e ts (λ u i. w u (inr i)) ps ns f.1 in
      λ i. record { part = part i; packet = packet i; attempts = 0 } ∷ rest i

-- ---- the parts that were received

pub came_lent : (others : List MemberState) (ts : List Part)
    → parts_fetched (lent_all others ts) ≡ filter (lends others) ts
came_lent others [] = refl
came_lent others (t ∷ ts) = go (lends others t) (came_lent others ts) where
  go : (b : Bool) → parts_fetched (lent_all others ts) ≡ filter (lends others) ts
      → asked_for (cond b (lent_one others t ∷ filter (λ (x : Fetched). is_some x.packet) (lent_all others ts))
      (filter (λ (x : Fetched). is_some x.packet) (lent_all others ts)))
      ≡ cond b (t ∷ filter (lends others) ts) (filter (lends others) ts)
  go true h = ap (λ (us : List Part). t ∷ us) h
  go false h = h
