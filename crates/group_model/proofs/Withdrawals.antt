-- Withdrawals are of earlier objects, each of another one.
use Rattle.std.proofs.Common.{◌≡◌, ◌⊎◌, inl, inr, ℕ, ◌+◌, ◌-◌, ◌≤◌, ◌<◌, true, false, not, ◌&&◌, List, [], ◌∷◌, ◌++◌}
use Rattle.std.proofs.Common.{length, get_or, set, replicate, refl, sym, ap, ◌∙◌, subst, arith, None}
use Rattle.std.specs.Prelude.{nat_le, is_some}
use Rattle.std.specs.List.{list_any}
use Rattle.std.proofs.lemmas.Bool.{true≢false, and_parts, not-true, leb-true, eqb-true, cases_eq, cases_lt}
use Rattle.std.proofs.lemmas.Bool.{false_from_ne_true}
use Rattle.std.proofs.lemmas.List.{get_or-map, length_push}
use Rattle.sorted_lists.specs.Range.{numbers_from}
use Rattle.sorted_lists.proofs.Members.{in_at}
use Rattle.repo_object.specs.Objects.{Post, offered, withdraws_number}
use Rattle.repo_object.specs.Objects.Post.{Offers, Withdraws}
use Rattle.svs_sync.specs.Suppression.{periodic}
use Rattle.group_model.specs.Publications.{Logs, no_post, post_at, last_of, has_unwithdrawn}
use Rattle.group_model.specs.Member.{Member}
use Rattle.group_model.specs.Events.{Event}
use Rattle.group_model.specs.World.{Environment, World, no_member, logs, logs_of, initial_world}
use Rattle.group_model.specs.Steps.{after_event, after_events}
use Rattle.group_model.specs.Refusals.{EventsAreTaken}
use Rattle.group_model.specs.Sound.{IsSoundGroup, IsPublished}
use Rattle.group_model.specs.Reached.{InSoundGroups, InReachedGroups}
use Rattle.group_model.specs.Withdrawals.{WithdrawsRightly, AllWithdrawRightly, BeginsRightly, StaysRightly}
use Rattle.group_model.proofs.Lists.{any_in}
use Rattle.group_model.proofs.Worlds.{last_other, last_own, post_kept, post_new, sound_after}
use Rattle.group_model.proofs.Lasting.{goes_on}
use Rattle.group_model.proofs.GoingOn.{CanPost}
use Rattle.group_model.proofs.Runs.{nothing_published, sound_initial}

-- ---- what may be withdrawn

record IsUnwithdrawn (log : List Post) (seq : ℕ) : Type 0 where
  from_one : 1 ≤ seq
  to_last : seq ≤ length log
  object : is_some (offered (get_or log (seq - 1) no_post)) ≡ true
  by_none : (k : ℕ) → k < length log → withdraws_number (get_or log k no_post) seq ≡ false

unwithdrawn : (log : List Post) (seq : ℕ) → has_unwithdrawn log seq ≡ true → IsUnwithdrawn log seq
unwithdrawn log seq h =
    let a : ((nat_le 1 seq && nat_le seq (length log)) ≡ true)
    × ((is_some (offered (get_or log (seq - 1) no_post)) && not (list_any (λ o. withdraws_number o seq) log)) ≡ true) =
    and_parts (nat_le 1 seq && nat_le seq (length log)) _ h in
    let b : (nat_le 1 seq ≡ true) × (nat_le seq (length log) ≡ true) = and_parts (nat_le 1 seq) _ a.0 in
    let c : (is_some (offered (get_or log (seq - 1) no_post)) ≡ true)
    × (not (list_any (λ o. withdraws_number o seq) log) ≡ true) =
    and_parts (is_some (offered (get_or log (seq - 1) no_post))) _ a.1 in
    record {
      from_one = leb-true 1 seq b.0;
      to_last = leb-true seq (length log) b.1;
      object = c.0;
      by_none = λ k l. false_from_ne_true (withdraws_number (get_or log k no_post) seq) (λ yes.
          true≢false
          (sym (any_in (λ o. withdraws_number o seq) log (get_or log k no_post) (in_at log k no_post l) yes)
          ∙ not-true (list_any (λ o. withdraws_number o seq) log) c.1));
    }

-- what may be posted and withdraws a number
of_unwithdrawn : (log : List Post) (o : Post) (seq : ℕ) → CanPost log o → withdraws_number o seq ≡ true
    → IsUnwithdrawn log seq
of_unwithdrawn log (Offers o) seq can is = absurd (true≢false (sym is))
of_unwithdrawn log (Withdraws withdrawn) seq can is =
    unwithdrawn log seq (subst (λ (n : ℕ). has_unwithdrawn log n ≡ true) (eqb-true withdrawn seq is) can)

-- ---- one publication more

module _ (ms : List Member) (j : ℕ) (m : Member) (o : Post) (more : m.log ≡ (get_or ms j no_member).log ++ o ∷ [])
    (inside : j < length ms) (can : CanPost (get_or ms j no_member).log o)
    (right : AllWithdrawRightly (logs_of ms)) where
  abbrev old : Logs
  old = logs_of ms

  abbrev new : Logs
  new = logs_of (set ms j m)

  own_log : get_or old j [] ≡ (get_or ms j no_member).log
  own_log = get_or-map (λ (x : Member). x.log) ms j no_member [] inside

  own_length : length (get_or ms j no_member).log ≡ last_of old j
  own_length = ap length (sym own_log)

  -- it was published before, or it is what is published now
  before_or_now : (p n : ℕ) → IsPublished new (p, n) → IsPublished old (p, n) ⊎ ((p ≡ j) × (n ≡ last_of old j + 1))
  before_or_now p n h = elim (cases_eq p j) [
    | inl e ↦
        let grown : last_of new j ≡ length m.log = last_own ms j m inside in
        let longer : length m.log ≡ length (get_or ms j no_member).log + 1 =
        ap length more ∙ length_push (get_or ms j no_member).log o in
        let up : n ≤ last_of new j = subst (λ (q : ℕ). n ≤ last_of new q) e h.to_last in
        elim (cases_lt n (last_of old j + 1)) [
          | inl l ↦ inl (record {
            from_one = h.from_one;
            to_last = subst (λ (q : ℕ). n ≤ last_of old q) (sym e) (omega (arith, l));
          })
          | inr l ↦ inr (e, omega (arith, l, up, grown, longer, own_length))
        ]
    | inr d ↦ inl (record {
      from_one = h.from_one;
      to_last = subst (λ (k : ℕ). n ≤ k) (last_other ms j m p d) h.to_last;
    })
  ]

  kept : (p n : ℕ) → IsPublished old (p, n) → post_at new (p, n) ≡ post_at old (p, n)
  kept p n h = post_kept ms j m o more p n h.from_one h.to_last

  now : (p n : ℕ) → (p ≡ j) × (n ≡ last_of old j + 1) → post_at new (p, n) ≡ o
  now p n e =
      ap (λ (q : ℕ). post_at new (q, n)) e.0
      ∙ ap (λ (k : ℕ). post_at new (j, k)) e.1
      ∙ post_new ms j m o more inside

  -- what is withdrawn now was withdrawn by none before
  not_before : (n seq : ℕ) → IsUnwithdrawn (get_or ms j no_member).log seq → IsPublished old (j, n)
      → withdraws_number (post_at old (j, n)) seq ≡ true → ⊥
  not_before n seq u h is =
      true≢false
      (sym is
      ∙ ap (λ (l : List Post). withdraws_number (get_or l (n - 1) no_post) seq) own_log
      ∙ u.by_none (n - 1) (omega (arith, h.from_one, h.to_last, own_length)))

  right_after : AllWithdrawRightly new
  right_after pair seq h is = elim (before_or_now pair.0 pair.1 h) [
    | inl was ↦
        let r : WithdrawsRightly old pair seq =
        right pair seq was (sym (ap (λ (x : Post). withdraws_number x seq) (kept pair.0 pair.1 was)) ∙ is) in
        record {
          from_one = r.from_one;
          earlier = r.earlier;
          object =
              ap (λ (x : Post). is_some (offered x)) (kept pair.0 seq (record {
                from_one = r.from_one;
                to_last = omega (arith, r.earlier, was.to_last);
              }))
              ∙ r.object;
          once = λ u hu also. elim (before_or_now pair.0 u hu) [
            | inl old_too ↦
                r.once u old_too (sym (ap (λ (x : Post). withdraws_number x seq) (kept pair.0 u old_too)) ∙ also)
            | inr e ↦ absurd (not_before pair.1 seq
                (of_unwithdrawn (get_or ms j no_member).log o seq can
                (sym (ap (λ (x : Post). withdraws_number x seq) (now pair.0 u e)) ∙ also))
                (subst (λ (p : ℕ). IsPublished old (p, pair.1)) e.0 was)
                (ap (λ (p : ℕ). withdraws_number (post_at old (p, pair.1)) seq) (sym e.0)
                ∙ sym (ap (λ (x : Post). withdraws_number x seq) (kept pair.0 pair.1 was))
                ∙ is))
          ];
        }
    | inr e ↦
        let u : IsUnwithdrawn (get_or ms j no_member).log seq =
        of_unwithdrawn (get_or ms j no_member).log o seq can
        (sym (ap (λ (x : Post). withdraws_number x seq) (now pair.0 pair.1 e)) ∙ is) in
        let there : IsPublished old (pair.0, seq) =
        subst (λ (p : ℕ). IsPublished old (p, seq)) (sym e.0)
        (record { from_one = u.from_one; to_last = omega (arith, u.to_last, own_length) }) in
        record {
          from_one = u.from_one;
          earlier = omega (arith, e.1, u.to_last, own_length);
          object =
              ap (λ (x : Post). is_some (offered x)) (kept pair.0 seq there)
              ∙ ap (λ (p : ℕ). is_some (offered (post_at old (p, seq)))) e.0
              ∙ ap (λ (l : List Post). is_some (offered (get_or l (seq - 1) no_post))) own_log
              ∙ u.object;
          once = λ v hv also. elim (before_or_now pair.0 v hv) [
            | inl old_too ↦ absurd (not_before v seq u
                (subst (λ (p : ℕ). IsPublished old (p, v)) e.0 old_too)
                (ap (λ (p : ℕ). withdraws_number (post_at old (p, v)) seq) (sym e.0)
                ∙ sym (ap (λ (x : Post). withdraws_number x seq) (kept pair.0 v old_too))
                ∙ also))
            | inr f ↦ f.1 ∙ sym e.1
          ];
        }
  ]

-- ---- events

pub stays_rightly : InSoundGroups StaysRightly
stays_rightly env w s e taken right = elim (goes_on env w e taken s).posted [
  | inl same ↦ subst AllWithdrawRightly (sym same) right
  | inr p ↦ subst AllWithdrawRightly (sym p.is)
      (right_after p.before p.publisher p.changed p.post p.more p.inside p.allowed
      (subst AllWithdrawRightly (sym p.was) right))
]

pub begins_rightly : BeginsRightly
begins_rightly env n pair seq h is =
    let f : ℕ → Member = λ j. record no_member {
      known = replicate n 0;
      machine = record { members = n; heard = None; deadline = periodic (env.draw j 0); draws = 1 };
    } in
    let none : last_of (logs (initial_world env n)) pair.0 ≡ 0 =
    nothing_published f (numbers_from 0 n) pair.0 (λ x. refl) in
    absurd (omega (arith, none, h.from_one, h.to_last))

all_rightly : (env : Environment) (es : List Event) (w : World) → EventsAreTaken env w es → IsSoundGroup w
    → AllWithdrawRightly (logs w) → AllWithdrawRightly (logs (after_events env w es))
all_rightly env [] w h s right = right
all_rightly env (e ∷ es) w h s right =
    all_rightly env es (after_event env w e) h.1 (sound_after env w e h.0 s) (stays_rightly env w s e h.0 right)

pub reached_rightly : InReachedGroups (λ env w. AllWithdrawRightly (logs w))
reached_rightly env n es h =
    all_rightly env es (initial_world env n) h (sound_initial env n) (begins_rightly env n)
