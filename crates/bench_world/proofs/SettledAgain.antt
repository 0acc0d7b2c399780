-- A settle that is made again leaves what the settle that ran out of memory would have left.
use Rattle.std.proofs.Common.{◌≡◌, ◌⊎◌, inl, inr, ℕ, suc, ◌≤◌, ◌<◌, true, false, List, [], ◌∷◌, map, get_or, length}
use Rattle.std.proofs.Common.{sym, ap, ◌∙◌, subst, arith}
use Rattle.std.proofs.lemmas.Bool.{true≢false, cases_Bool, or_cases}
use Rattle.std.proofs.lemmas.List.{ext_get_or, get_or-map, length-map}
use Rattle.svs_vector.specs.Vectors.{join_all}
use Rattle.repo_plan.specs.declared.part.Part.{Part}
use Rattle.repo_plan.specs.Parts.{pair_of, record_of}
use Rattle.repo_plan.specs.Plan.{no_claims, is_wanted}
use Rattle.sorted_lists.proofs.Sets.{In, in_map, from_map}
use Rattle.sorted_lists.proofs.Members.{in_at, in_filtered}
use Rattle.group_model.specs.Publications.{Logs}
use Rattle.group_model.specs.Member.{Member, member_holds, plan_of, catalogue}
use Rattle.group_model.specs.World.{World, no_member, member, logs, logs_of, someone_holds}
use Rattle.group_model.specs.Settles.{IsGathering, HasFetchedAll}
use Rattle.group_model.specs.Sound.{IsSoundGroup, IsSoundMember}
use Rattle.group_model.specs.Steps.{settled_vector, settled_member, is_gained, new_parts, reset_each, after_gathering}
use Rattle.group_model.specs.Steps.{after_settle}
use Rattle.group_model.specs.Publications.{all_parts}
use Rattle.group_model.proofs.Among.{in_all_parts}
use Rattle.group_model.proofs.Gains.{held_fresh}
use Rattle.group_model.proofs.Lists.{at_in}
use Rattle.group_model.proofs.Members.{known_published}
use Rattle.group_model.proofs.Plans.{IsWanted, wanted_parts}
use Rattle.group_model.proofs.PublicLaws.{gathering_settles}
use Rattle.group_model.proofs.Settles.{comes, someone, join_all_each, join_all_most, sound_gathered, keeps_held, gets}
use Rattle.bench_world.specs.Settling.{ArePartlySettled}
use Rattle.bench_world.specs.Runs.{HaveSettledPartly, HaveSameMembers, GathersAgain, SettlesAgain}
use Rattle.bench_world.specs.Worlds.{GroupState, in_groups, world_of, drawing}
use Rattle.bench_world.proofs.States.{sound_state}

someone_is : (ms : List Member) (t : Part) → someone_holds ms t ≡ true
    → (k : ℕ) × (k < length ms) × (member_holds (get_or ms k no_member) t ≡ true)
someone_is [] t h = absurd (true≢false (sym h))
someone_is (m ∷ ms) t h = elim (or_cases (member_holds m t) (someone_holds ms t) h) [
  | inl here ↦ (0, omega arith, here)
  | inr there ↦ let r = someone_is ms t there in (suc r.0, omega (arith, r.1), r.2)
]

-- A part that a member holds after a settle it held before, or someone did.
holder_packet_response : (w : World) (m : Member) (t : Part) → member_holds (settled_member w m) t ≡ true
    → (member_holds m t ≡ true) ⊎ (someone_holds w.members t ≡ true)
holder_packet_response w m t h = elim (cases_Bool (member_holds m t)) [
  | inl was ↦ inl was
  | inr fresh ↦
      inr (comes w m t
      (in_filtered (is_gained w m) (all_parts (logs w)) t (held_fresh (new_parts w m) m t h fresh)).1).someones
]

module _ (w : World) (new : List Member) (group : IsSoundGroup w) (partly : ArePartlySettled w new)
    (again : IsSoundGroup (record w { members = new })) where
  abbrev stopped : World
  stopped = record w { members = new }

  logs_same : logs stopped ≡ logs w
  logs_same =
      ext_get_or [] (logs stopped) (logs w)
      (length-map new (λ (m : Member). m.log) ∙ partly.len ∙ sym (length-map w.members (λ (m : Member). m.log))) (λ i l.
      let inside_new : i < length new = subst (λ (n : ℕ). i < n) (length-map new (λ (m : Member). m.log)) l in
      let inside : i < length w.members = let e = partly.len in omega (arith, inside_new, e) in
      get_or-map (λ (m : Member). m.log) new i no_member [] inside_new ∙ (partly.each i inside).log
      ∙ sym (get_or-map (λ (m : Member). m.log) w.members i no_member [] inside))

  -- A part that someone held before the settle that ran out of memory, someone holds after it.
  someone_still : (t : Part) → someone_holds w.members t ≡ true → someone_holds new t ≡ true
  someone_still t h =
      let r = someone_is w.members t h in
      let inside : r.0 < length new = let e = partly.len in let l = r.1 in omega (arith, l, e) in
      someone new (get_or new r.0 no_member) t (in_at new r.0 no_member inside) ((partly.each r.0 r.1).kept t r.2)

  someone_then : (t : Part) → someone_holds new t ≡ true → someone_holds w.members t ≡ true
  someone_then t h =
      let r = someone_is new t h in
      let inside : r.0 < length w.members = let e = partly.len in let l = r.1 in omega (arith, l, e) in
      elim (holder_packet_response w (member w r.0) t ((partly.each r.0 inside).came t r.2)) [
        | inl was ↦ someone w.members (member w r.0) t (in_at w.members r.0 no_member inside) was
        | inr someone_ ↦ someone_
      ]

  module _ (j : ℕ) (there : j < length w.members) where
    there_new : j < length new
    there_new = let e = partly.len in omega (arith, there, e)

    abbrev then : Member
    then = settled_member stopped (member stopped j)

    sound_new : IsSoundMember (logs stopped) j then
    sound_new = sound_gathered stopped again j there_new

    sound : IsSoundMember (logs w) j then
    sound = subst (λ (ls : Logs). IsSoundMember ls j then) logs_same sound_new

    -- The join of all members' vectors is the same in both worlds.
    vector_same : settled_vector stopped ≡ settled_vector w
    vector_same =
        ext_get_or 0 (settled_vector stopped) (settled_vector w)
        (sound_new.width ∙ ap (λ (ls : Logs). length ls) logs_same ∙ sym (sound_gathered w group j there).width) (λ p l.
        let no_more : get_or (settled_vector stopped) p 0 ≤ get_or (settled_vector w) p 0 =
        join_all_most (map (λ (m : Member). m.known) new) p (get_or (settled_vector w) p 0) (λ u i.
        let r = from_map (λ (m : Member). m.known) new u i in
        let k = at_in new r.0 no_member r.1 in
        let inside : k.0 < length w.members = let e = partly.len in let a = k.1 in omega (arith, a, e) in
        subst (λ (v : List ℕ). get_or v p 0 ≤ get_or (settled_vector w) p 0)
        (sym (r.2 ∙ ap (λ (m : Member). m.known) k.2)) ((partly.each k.0 inside).known_less p)) in
        let no_less : get_or (settled_vector w) p 0 ≤ get_or (settled_vector stopped) p 0 =
        join_all_most (map (λ (m : Member). m.known) w.members) p (get_or (settled_vector stopped) p 0) (λ u i.
        let r = from_map (λ (m : Member). m.known) w.members u i in
        let k = at_in w.members r.0 no_member r.1 in
        let inside : k.0 < length new = let e = partly.len in let a = k.1 in omega (arith, a, e) in
        let more = (partly.each k.0 k.1).known_more p in
        let each : get_or (get_or new k.0 no_member).known p 0
        ≤ get_or (join_all (map (λ (m : Member). m.known) new)) p 0 =
        join_all_each (map (λ (m : Member). m.known) new) p (get_or new k.0 no_member).known
        (in_map (λ (m : Member). m.known) new (get_or new k.0 no_member) (in_at new k.0 no_member inside)) in
        subst (λ (v : List ℕ). get_or v p 0 ≤ get_or (settled_vector stopped) p 0)
        (sym (r.2 ∙ ap (λ (m : Member). m.known) k.2)) (omega (arith, more, each))) in
        omega (arith, no_more, no_less))

    gathering : IsGathering w (member w j) then
    gathering =
        let e = partly.each j there in
        record {
          same = λ i. record {
            log = e.log i;
            known = vector_same i;
            held = then.held;
            hidden = e.hidden i;
            claims = no_claims;
            attempts = e.attempts i;
            machine = e.machine i;
            processes = e.processes i;
            next_process = e.next_process i;
          };
          kept = λ t h. keeps_held stopped again j there_new t (e.kept t h);
          came = λ t h. elim (holder_packet_response stopped (member stopped j) t h) [
            | inl was ↦ holder_packet_response w (member w j) t (e.came t was)
            | inr someone_ ↦ inr (someone_then t someone_)
          ];
        }

    -- What it wants then nobody held.
    gets_it : (t : Part) → IsWanted (logs stopped) then t → someone_holds new t ≡ true → ⊥
    gets_it t wanted someone_ =
        let record_too : someone_holds new (record_of t) ≡ true = elim wanted.with_record [
          | inl zero_ ↦
              subst (λ (x : ℕ). someone_holds new (record { publisher = t.publisher; seq = t.seq; part = x }) ≡ true)
              zero_ someone_
          | inr held ↦ elim (holder_packet_response stopped (member stopped j) (record_of t) held.with_record) [
            | inl was ↦ someone new (member stopped j) (record_of t) (in_at new j no_member there_new) was
            | inr holds ↦ holds
          ]
        ] in
        let fresh : member_holds (member stopped j) t ≡ false = elim (cases_Bool (member_holds (member stopped j) t)) [
          | inl was ↦ absurd (true≢false (sym (keeps_held stopped again j there_new t was) ∙ wanted.not_held))
          | inr off ↦ off
        ] in
        let inside : In t (all_parts (logs stopped)) = in_all_parts (logs stopped) t (record {
          there = known_published (logs stopped) (settled_vector stopped) (pair_of t) sound_new.known wanted.known;
          counted = wanted.counted;
        }) in
        true≢false
        (sym (gets stopped again j there_new t inside (record {
          received = wanted.known.to_known;
          not_hidden = wanted.not_hidden;
          someones = someone_;
          record_too = record_too;
          fresh = fresh;
        }))
        ∙ wanted.not_held)

    gathered : HasFetchedAll w then
    gathered t wanted = elim (cases_Bool (someone_holds w.members t)) [
      | inl someone_ ↦
          absurd (gets_it t (wanted_parts (logs stopped) then t
          (subst (λ (ls : Logs). is_wanted (plan_of ls then) t ≡ true) (sym logs_same) wanted))
          (someone_still t someone_))
      | inr off ↦ off
    ]

    settled_same : settled_member stopped (member stopped j) ≡ settled_member w (member w j)
    settled_same = gathering_settles (drawing (λ _ _. 0)) w group j then there sound gathering gathered

  pub members_same : map (settled_member stopped) new ≡ map (settled_member w) w.members
  members_same =
      ext_get_or no_member (map (settled_member stopped) new) (map (settled_member w) w.members)
      (length-map new (settled_member stopped) ∙ partly.len ∙ sym (length-map w.members (settled_member w))) (λ i l.
      let inside_new : i < length new = subst (λ (n : ℕ). i < n) (length-map new (settled_member stopped)) l in
      let inside : i < length w.members = let e = partly.len in omega (arith, inside_new, e) in
      get_or-map (settled_member stopped) new i no_member no_member inside_new ∙ settled_same i inside
      ∙ sym (get_or-map (settled_member w) w.members i no_member no_member inside))

-- ---- groups with their packets

abbrev members_settled : World → List Member
members_settled w = map (settled_member w) w.members

have_same : (w v : World) → w.members ≡ v.members → HaveSameMembers w v
have_same w v same = record {
  members = same;
  catalogues = λ j. ap (λ (ms : List Member). catalogue (logs_of ms) (get_or ms j no_member)) same;
}

module _ (old new : GroupState) (part : HaveSettledPartly old new) where
  world_is : world_of new ≡ record (world_of old) { members = in_groups new.members }
  world_is = ap world_of part.same

  all_settled : members_settled (record (world_of old) { members = in_groups new.members })
      ≡ members_settled (world_of old)
  all_settled =
      members_same (world_of old) (in_groups new.members) (sound_state old part.begun) part.members
      (subst IsSoundGroup world_is (sound_state new part.consistent))

pub gathers_again : GathersAgain
gathers_again env old new part =
    have_same (after_gathering env (world_of new)) (after_gathering env (world_of old))
    (ap members_settled (world_is old new part) ∙ all_settled old new part)

pub settles_again : SettlesAgain
settles_again env old new part =
    have_same (after_settle env (world_of new)) (after_settle env (world_of old))
    (ap (λ (w : World). reset_each env w.time 0 (members_settled w)) (world_is old new part)
    ∙ ap (reset_each env old.time 0) (all_settled old new part))
