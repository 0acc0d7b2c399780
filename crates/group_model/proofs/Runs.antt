-- Whole runs, from the opening on.
use Rattle.std.proofs.Common.{◌≡◌, inl, inr, ℕ, suc, zero, ◌≤◌, ◌<◌, max, Bool, cond, List, [], ◌∷◌, map, length}
use Rattle.std.proofs.Common.{get_or, set, replicate, refl, sym, ap, ◌∙◌, subst, arith, Some, None}
use Rattle.std.proofs.lemmas.Bool.{true≢false, cases_eq}
use Rattle.std.proofs.lemmas.List.{get_or-set_same, get_or-map, length-map, length-replicate}
use Rattle.sorted_lists.specs.Range.{numbers_from}
pub use Rattle.sorted_lists.proofs.Ranges.{length-numbers as length_numbers}
use Rattle.sorted_lists.proofs.Ranges.{length-numbers}
use Rattle.repo_plan.specs.Plan.{no_claims}
use Rattle.svs_vector.specs.Vectors.{join}
use Rattle.svs_sync.specs.Suppression.{periodic}
use Rattle.group_model.specs.Publications.{Logs, last_of}
use Rattle.group_model.specs.Member.{Member}
use Rattle.group_model.specs.Changes.{learns}
use Rattle.group_model.specs.Events.{Event}
use Rattle.group_model.specs.World.{World, Environment, no_member, member, logs, logs_of, sent_at, initial_world}
use Rattle.group_model.specs.Steps.{drawn, after_event, after_events, after_deliver}
use Rattle.group_model.specs.Sound.{IsSoundGroup, IsSoundMember}
use Rattle.group_model.specs.Reached.{InSoundGroups, InReachedGroups, BeginsSound}
use Rattle.group_model.specs.Laws.{IsQuiet, AreQuiet, HearsAllInEvent, HearsAllInRun, JoinsWhereAllAreInformed}
use Rattle.group_model.proofs.Settles.{no_claim}
use Rattle.group_model.proofs.OneMember.{joins_by_itself}
use Rattle.group_model.specs.Refusals.{EventIsTaken, EventsAreTaken}
use Rattle.group_model.proofs.Lasting.{goes_on}
use Rattle.group_model.proofs.GoingOn.{GoesOn}
use Rattle.group_model.proofs.Worlds.{sound_after, sound_after_all}
use Rattle.svs_vector.proofs.JoinLemmas.{join-at}

-- ---- the opening

pub nothing_published : (f : ℕ → Member) (xs : List ℕ) (p : ℕ) → ((x : ℕ) → (f x).log ≡ [])
    → last_of (logs_of (map f xs)) p ≡ 0
nothing_published f [] p e = refl
nothing_published f (x ∷ xs) zero e = ap length (e x)
nothing_published f (x ∷ xs) (suc p) e = nothing_published f xs p e

abbrev pub zeros : ℕ → List ℕ
zeros n = replicate n 0

pub all_zeros : (n p : ℕ) → get_or (zeros n) p 0 ≡ 0
all_zeros zero p = refl
all_zeros (suc n) zero = refl
all_zeros (suc n) (suc p) = all_zeros n p

pub sound_initial : BeginsSound
sound_initial env n =
    let f : ℕ → Member = λ j. record no_member {
      known = replicate n 0;
      machine = record { members = n; heard = None; deadline = periodic (env.draw j 0); draws = 1 };
    } in
    let none : (p : ℕ) → last_of (logs (initial_world env n)) p ≡ 0 =
    λ p. nothing_published f (numbers_from 0 n) p (λ x. refl) in
    let wide : length (logs (initial_world env n)) ≡ n =
    length-map (map f (numbers_from 0 n)) (λ (m : Member). m.log)
    ∙ length-map (numbers_from 0 n) f
    ∙ length-numbers 0 n in
    record {
      members = λ j l.
          let short : j < length (numbers_from 0 n) = subst (λ (k : ℕ). j < k) (length-map (numbers_from 0 n) f) l in
          subst (λ (m : Member). IsSoundMember (logs (initial_world env n)) j m)
          (sym (get_or-map f (numbers_from 0 n) j 0 no_member short)) (record {
            width = length-replicate n 0 ∙ sym wide;
            fetchers = refl;
            in_order = record { held = tt; hidden = tt; attempts = tt; tried = λ t k e. absurd cc };
            known = λ p. let z : get_or (zeros n) p 0 ≡ 0 = all_zeros n p in omega (arith, z);
            own = all_zeros n j ∙ sym (none j);
            heard = tt;
            held = λ t h. absurd (true≢false (sym h));
            hidden = λ q h. absurd (true≢false (sym h));
            own_held =
                λ s p. absurd
                (let z : last_of (logs (initial_world env n)) j ≡ 0 = none j in
                let a : 1 ≤ s = p.from_one in
                let b : s ≤ last_of (logs (initial_world env n)) j = p.to_last in omega (arith, z, a, b));
            claimed = λ g t e. absurd (let c : get_or no_claims g None ≡ None = no_claim 16 g in cc);
            apart = λ g k t a b. absurd (let c : get_or no_claims g None ≡ None = no_claim 16 g in cc);
          });
      sent = λ k l. absurd (omega arith);
    }

pub reached : InReachedGroups (λ env w. IsSoundGroup w)
reached env n es h = sound_after_all env es (initial_world env n) h (sound_initial env n)

-- what holds of every sound group holds of those that events can reach
pub when_reached : (P : Environment → World → Type 0) → InSoundGroups P → InReachedGroups P
when_reached P law env n es h = law env (after_events env (initial_world env n) es) (reached env n es h)

-- ---- what an event that publishes nothing leaves

abbrev known_of : List Member → ℕ → ℕ → ℕ
known_of ms j p = get_or (get_or ms j no_member).known p 0

-- the same number of members, the same publications, and no number goes down
record Goes (old new : World) : Type 0 where
  width : length new.members ≡ length old.members
  logs : logs new ≡ logs old
  known : (j p : ℕ) → j < length old.members → known_of old.members j p ≤ known_of new.members j p

goes : (env : Environment) (w : World) (e : Event) → EventIsTaken env w e → IsSoundGroup w → IsQuiet w e
    → Goes w (after_event env w e)
goes env w e h s q =
    let g : GoesOn w (after_event env w e) (IsQuiet w e) = goes_on env w e h s in
    record {
      width = g.last.width;
      logs = elim g.posted [ inl same ↦ same | inr p ↦ absurd (p.loud q) ];
      known = λ j p l. (g.last.members j l).known p;
    }

goes_all : (env : Environment) (es : List Event) (w : World) → EventsAreTaken env w es → IsSoundGroup w
    → AreQuiet env w es
    → Goes w (after_events env w es)
goes_all env [] w h s q = record { width = refl; logs = refl; known = λ j p l. omega arith }
goes_all env (e ∷ es) w h s q =
    let a : Goes w (after_event env w e) = goes env w e h.0 s q.0 in
    let b : Goes (after_event env w e) (after_events env (after_event env w e) es) =
    goes_all env es (after_event env w e) h.1 (sound_after env w e h.0 s) q.1 in
    record {
      width = b.width ∙ a.width;
      logs = b.logs ∙ a.logs;
      known = λ j p l.
          let x : known_of w.members j p ≤ known_of (after_event env w e).members j p = a.known j p l in
          let y : known_of (after_event env w e).members j p
          ≤ known_of (after_events env (after_event env w e) es).members j p =
          b.known j p (subst (λ (n : ℕ). j < n) (sym a.width) l) in
          omega (arith, x, y);
    }

-- ---- which member is informed of what

received_deliver : (env : Environment) (w : World) (i : ℕ) (received : List ℕ) (j p : ℕ) → j < length w.members → i ≡ j
    → get_or received p 0 ≡ last_of (logs w) p → last_of (logs w) p
    ≤ known_of (after_deliver env w i received).members j p
received_deliver env w i received j p l same e =
    let m : Member = learns (drawn env w i) w.time received (member w i) in
    let at : get_or (set w.members i m) j no_member ≡ m =
    ap (λ (n : ℕ). get_or (set w.members i m) n no_member) (sym same)
    ∙ get_or-set_same w.members i m no_member (subst (λ (n : ℕ). n < length w.members) (sym same) l) in
    let joined : get_or (join (member w i).known received) p 0
    ≡ max (get_or (member w i).known p 0) (get_or received p 0) =
    join-at (member w i).known received p in
    subst (λ (x : Member). last_of (logs w) p ≤ get_or x.known p 0) (sym at) (omega (arith, joined, e))

received_now : (env : Environment) (w : World) (e : Event) (j p : ℕ) → j < length w.members → HearsAllInEvent w e j p
    → last_of (logs w) p ≤ known_of (after_event env w e).members j p
received_now env w (Event.Deliver k i) j p l t = received_deliver env w i (sent_at w k).vector j p l t.0 t.1
received_now env w (Event.Hear i (Some sync)) j p l t =
    subst (λ (b : Bool). last_of (logs w) p ≤ known_of (cond b w (after_deliver env w i sync.vector)).members j p)
    (sym t.1) (received_deliver env w i sync.vector j p l t.0 t.2)
received_now env w _ j p l t = absurd t

received_in_the_end : (env : Environment) (es : List Event) (w : World) (j p : ℕ) → j < length w.members
    → EventsAreTaken env w es → IsSoundGroup w → AreQuiet env w es → HearsAllInRun env w es j p
    → last_of (logs w) p ≤ known_of (after_events env w es).members j p
received_in_the_end env [] w j p l h s q t = absurd t
received_in_the_end env (e ∷ es) w j p l h s q (inl t) =
    let a : last_of (logs w) p ≤ known_of (after_event env w e).members j p = received_now env w e j p l t in
    let b : known_of (after_event env w e).members j p
    ≤ known_of (after_events env (after_event env w e) es).members j p =
    (goes_all env es (after_event env w e) h.1 (sound_after env w e h.0 s) q.1).known j p
    (subst (λ (n : ℕ). j < n) (sym (goes env w e h.0 s q.0).width) l) in
    omega (arith, a, b)
received_in_the_end env (e ∷ es) w j p l h s q (inr t) =
    let g : Goes w (after_event env w e) = goes env w e h.0 s q.0 in
    subst (λ (ls : Logs). last_of ls p ≤ known_of (after_events env (after_event env w e) es).members j p) g.logs
    (received_in_the_end env es (after_event env w e) j p (subst (λ (n : ℕ). j < n) (sym g.width) l) h.1
    (sound_after env w e h.0 s) q.1 t)

-- ---- where all are informed of all

pub informed_of_all : InSoundGroups JoinsWhereAllAreInformed
informed_of_all env w sound es k tells clear nothing =
    let last : World = after_events env w es in
    let s : IsSoundGroup last = sound_after_all env es w k sound in
    let g : Goes w last = goes_all env es w k sound tells.quiet in
    let all_hear : (j p : ℕ) → j < length last.members → p < length last.members
    → last_of (logs last) p ≤ known_of last.members j p =
    λ j p lj lp.
    elim (cases_eq p j) [
      | inl e ↦ let own : known_of last.members j j ≡ last_of (logs last) j = (s.members j lj).own in
          subst (λ (q : ℕ). last_of (logs last) q ≤ known_of last.members j q) (sym e) (omega (arith, own))
      | inr d ↦ subst (λ (ls : Logs). last_of ls p ≤ known_of last.members j p) (sym g.logs)
          (received_in_the_end env es w j p (subst (λ (i : ℕ). j < i) g.width lj) k sound tells.quiet
          (tells.received j p (subst (λ (i : ℕ). j < i) g.width lj) (subst (λ (i : ℕ). p < i) g.width lp) d))
    ] in
    λ j l.
    joins_by_itself (logs last) (member last j)
    (λ p lp. all_hear j p l (subst (λ (n : ℕ). p < n) (length-map last.members (λ (m : Member). m.log)) lp))
    (clear j l)
    (nothing j l)
