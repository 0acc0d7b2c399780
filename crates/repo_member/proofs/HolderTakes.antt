-- A consistent holder that takes published packets of wanted parts holds what it held, and those.
use Rattle.std.proofs.Common.{◌≡◌, ◌⊎◌, inl, inr, ℕ, Bool, true, false, cond, not, ◌&&◌, ◌||◌, List, [], ◌∷◌, map}
use Rattle.std.proofs.Common.{Option, Some, None, is_some, refl, sym, ap, ◌∙◌, subst}
use Rattle.std.specs.Prelude.{filter, IfSome}
use Rattle.std.specs.List.{All}
use Rattle.std.specs.Ordering.{eq_by_cmp}
use Rattle.std.proofs.lemmas.Bool.{true≢false, and_parts, or_right, or_left, or_cases, false_from_ne_true}
use Rattle.std.proofs.lemmas.List.Elements.{All-weaker}
use Rattle.repo_plan.specs.declared.part.Part.{Part}
use Rattle.repo_plan.specs.Parts.{Pair, part_cmp, pair_cmp, pair_of, part_of, record_of, parent}
use Rattle.repo_plan.specs.Plan.{is_wanted, is_claimed}
use Rattle.repo_plan.proofs.Orders.{exact_parts}
use Rattle.sorted_lists.specs.SortedList.{contains, keys, with_value}
use Rattle.sorted_lists.proofs.Sets.{In, eq_same, eq_itself, contains-insert_key, keys-with_value}
use Rattle.repo_holdings.specs.Records.{Packet}
use Rattle.repo_holdings.specs.HoldingsState.{HoldingsState, held_plan}
use Rattle.repo_holdings.specs.Taking.{Fetched, with_fetched, with_all_fetched, after_outcome}
use Rattle.group_model.specs.Publications.{Logs, shape_at}
use Rattle.group_model.specs.Sound.{IsHeldSoundly}
use Rattle.group_model.proofs.Lists.{at_in}
use Rattle.group_model.proofs.Parents.{record_lists_itself}
use Rattle.repo_member.specs.Groups.{GroupKeys}
use Rattle.repo_member.specs.MemberState.{MemberState, member_takes}
use Rattle.repo_member.specs.InGroup.{AreLogs, StoresConsistently, IsConsistentFetch, parts_fetched}
use Rattle.repo_member.specs.ConsistentHolders.{IsConsistentHolder, IsHiddenFrom, member_with, ArrivesConsistently}
use Rattle.repo_member.specs.ConsistentHolders.{FetchedAreStored}
use Rattle.repo_member.specs.ConsistentHolders.{HoldersTakeConsistently}
use Rattle.repo_member.proofs.LastingPackets.{takes_consistently, stays_consistent}
use Rattle.repo_member.proofs.OutcomeLemmas.{members_take_all}
use Rattle.repo_member.proofs.ConsistentHolders.{holder_stores_consistently, wanted_in_group, wanted_published}

abbrev pub is_stored : List Packet → Part → Bool
is_stored stored t = contains part_cmp (keys stored) t

module _ (t : Part) (octets : List ℕ) (stored : List Packet) where
  put_is : (u : Part)
      → is_stored (with_fetched t (Some octets) stored) u ≡ (eq_by_cmp part_cmp u t || is_stored stored u)
  put_is u = go (is_stored stored t) refl where
    go : (b : Bool) → is_stored stored t ≡ b
        → is_stored (cond b stored (with_value part_cmp t octets stored)) u
        ≡ (eq_by_cmp part_cmp u t || is_stored stored u)
    go false h =
        ap (λ (ts : List Part). contains part_cmp ts u) (keys-with_value exact_parts t octets stored)
        ∙ contains-insert_key exact_parts t (keys stored) u
    go true h = there (eq_by_cmp part_cmp u t) refl where
      there : (e : Bool) → eq_by_cmp part_cmp u t ≡ e → is_stored stored u ≡ (e || is_stored stored u)
      there true e = ap (is_stored stored) (eq_same exact_parts u t e) ∙ h
      there false e = refl

-- the packet that was received for one part
one_is : (t : Part) (o : Option (List ℕ)) (stored : List Packet) (u : Part)
    → is_stored (with_fetched t o stored) u ≡ ((is_some o && eq_by_cmp part_cmp u t) || is_stored stored u)
one_is t None stored u = refl
one_is t (Some octets) stored u = put_is t octets stored u

pub fetched_are_stored : FetchedAreStored
fetched_are_stored [] stored u = refl
fetched_are_stored (x ∷ xs) stored u =
    fetched_are_stored xs (with_fetched x.part x.packet stored) u
    ∙ ap (λ (b : Bool). contains part_cmp (parts_fetched xs) u || b) (one_is x.part x.packet stored u)
    ∙ go (is_some x.packet) where
      shuffled : (a b c : Bool) → (a || (b || c)) ≡ ((b || a) || c)
      shuffled true true c = refl
      shuffled true false c = refl
      shuffled false true c = refl
      shuffled false false c = refl

      go : (b : Bool)
          → (contains part_cmp (parts_fetched xs) u || ((b && eq_by_cmp part_cmp u x.part) || is_stored stored u))
          ≡ (contains part_cmp
          (map (λ (y : Fetched). y.part)
          (cond b (x ∷ filter (λ y. is_some y.packet) xs) (filter (λ y. is_some y.packet) xs))) u
          || is_stored stored u)
      go true = shuffled (contains part_cmp (parts_fetched xs) u) (eq_by_cmp part_cmp u x.part) (is_stored stored u)
      go false = refl

pub still_there : (xs : List Fetched) (stored : List Packet) (u : Part) → is_stored stored u ≡ true
    → is_stored (with_all_fetched xs stored) u ≡ true
still_there xs stored u h =
    fetched_are_stored xs stored u ∙ or_right (contains part_cmp (parts_fetched xs) u) (is_stored stored u) h

pub then_there : (xs : List Fetched) (stored : List Packet) (x : Fetched) → In x xs → is_some x.packet ≡ true
    → is_stored (with_all_fetched xs stored) x.part ≡ true
then_there [] stored x i h = absurd i
then_there (y ∷ ys) stored x (inl e) h =
    still_there ys (with_fetched y.part y.packet stored) x.part
    (one_is y.part y.packet stored x.part
    ∙ or_left (is_some y.packet && eq_by_cmp part_cmp x.part y.part) (is_stored stored x.part)
    (ap (λ (z : Fetched). is_some z.packet && eq_by_cmp part_cmp x.part z.part) (sym e)
    ∙ ap (λ (b : Bool). b && eq_by_cmp part_cmp x.part x.part) h
    ∙ eq_itself exact_parts x.part))
then_there (y ∷ ys) stored x (inr i) h = then_there ys (with_fetched y.part y.packet stored) x i h

pub from_there : (xs : List Fetched) (stored : List Packet) (u : Part)
    → is_stored (with_all_fetched xs stored) u ≡ true
    → (is_stored stored u ≡ true) ⊎ ((x : Fetched) × In x xs × (x.part ≡ u) × (is_some x.packet ≡ true))
from_there [] stored u h = inl h
from_there (y ∷ ys) stored u h = elim (from_there ys (with_fetched y.part y.packet stored) u h) [
  | inl a ↦
      elim (or_cases (is_some y.packet && eq_by_cmp part_cmp u y.part) (is_stored stored u)
      (sym (one_is y.part y.packet stored u) ∙ a)) [
        | inl b ↦
            let both = and_parts (is_some y.packet) (eq_by_cmp part_cmp u y.part) b in
            inr (y, inl refl, sym (eq_same exact_parts u y.part both.1), both.0)
        | inr o ↦ inl o
      ]
  | inr r ↦ inr (r.0, inr r.1, r.2, r.3)
]

-- the packets of a member that took all that was received
pub store_taken : (xs : List Fetched) (a : MemberState) → (member_takes xs a).store ≡ with_all_fetched xs a.store
store_taken xs a = ap (λ (x : MemberState). x.store) (members_take_all xs a)

-- ---- packets of wanted parts

module _ (g : GroupKeys) (logs : Logs) (xs : List Fetched) (h : HoldingsState) (are : AreLogs g logs)
    (came : All (λ x. IfSome x.packet (ArrivesConsistently g logs h x.part)) xs)
    (consistent : IsConsistentHolder g logs h) where
  abbrev next : HoldingsState
  next = after_outcome xs h

  -- a part whose packet was received is wanted
  wanted_if : (o : Option (List ℕ)) (t : Part) → IfSome o (ArrivesConsistently g logs h t) → is_some o ≡ true
      → is_wanted (held_plan h) t ≡ true
  wanted_if None t is some = absurd (true≢false (sym some))
  wanted_if (Some octets) t is some =
      (and_parts (is_wanted (held_plan h) t) (not (is_claimed (held_plan h) t)) is.unclaimed).0

  wanted : (x : Fetched) → In x xs → is_some x.packet ≡ true → is_wanted (held_plan h) x.part ≡ true
  wanted x i some =
      let at = at_in xs x x i in
      wanted_if x.packet x.part
      (subst (λ (y : Fetched). IfSome y.packet (ArrivesConsistently g logs h y.part)) (sym at.2) (came at.0 x at.1))
      some

  came_consistently : (o : Option (List ℕ)) (t : Part) → IfSome o (ArrivesConsistently g logs h t)
      → IsConsistentFetch g logs t o
  came_consistently None t is = tt
  came_consistently (Some octets) t is = record {
    published = (wanted_published g logs h are consistent t (wanted_if (Some octets) t is refl)).there;
    packet = is.packet;
  }

  stored : StoresConsistently g logs (member_with next)
  stored =
      stays_consistent g logs (member_takes xs (member_with h)) (member_with next)
      (sym (store_taken xs (member_with h)))
      (takes_consistently g logs xs (member_with h)
      (All-weaker (λ (x : Fetched). IfSome x.packet (ArrivesConsistently g logs h x.part))
      (λ (x : Fetched). IsConsistentFetch g logs x.part x.packet)
      (λ x is. came_consistently x.packet x.part is) xs came)
      (holder_stores_consistently g logs h consistent))

  more : (u : Part) → is_stored h.store u ≡ true → is_stored next.store u ≡ true
  more u is = still_there xs h.store u is

  held_new : (x : Fetched) → In x xs → is_some x.packet ≡ true → IsHeldSoundly logs h.known (keys next.store) x.part
  held_new x i some =
      let w = wanted_in_group g logs h are consistent x.part (wanted x i some) in
      let here = then_there xs h.store x i some in
      record {
        known = w.known;
        counted = w.counted;
        with_record = elim w.with_record [
          | inl zero ↦
              subst (λ (u : Part). is_stored next.store u ≡ true)
              (ap (λ (n : ℕ). part_of (pair_of x.part) n) zero) here
          | inr s ↦ more (record_of x.part) s.with_record
        ];
        with_parent = elim w.with_record [
          | inl zero ↦
              subst (λ (u : Part). is_stored next.store u ≡ true)
              (sym (record_lists_itself (shape_at logs (pair_of x.part)) x.part zero)) here
          | inr s ↦ more (parent (shape_at logs (pair_of x.part)) x.part) s.with_parent
        ];
      }

  held_now : (t : Part) → is_stored next.store t ≡ true → IsHeldSoundly logs h.known (keys next.store) t
  held_now t is = elim (from_there xs h.store t is) [
    | inl old ↦
        let s = consistent.held t old in
        record {
          known = s.known;
          counted = s.counted;
          with_record = more (record_of t) s.with_record;
          with_parent = more (parent (shape_at logs (pair_of t)) t) s.with_parent;
        }
    | inr r ↦ subst (IsHeldSoundly logs h.known (keys next.store)) r.2 (held_new r.0 r.1 r.3)
  ]

  hidden_now : (pair : Pair) → contains pair_cmp h.hidden pair ≡ true → IsHiddenFrom next pair
  hidden_now pair is = record {
    known = (consistent.hidden pair is).known;
    none_held = λ x. false_from_ne_true (is_stored next.store (part_of pair x)) (λ there.
        elim (from_there xs h.store (part_of pair x) there) [
          | inl old ↦ true≢false (sym old ∙ (consistent.hidden pair is).none_held x)
          | inr r ↦
              true≢false
              (sym is
              ∙ ap (λ (t : Part). contains pair_cmp h.hidden (pair_of t)) (sym r.2)
              ∙ (wanted_in_group g logs h are consistent r.0.part (wanted r.0 r.1 r.3)).not_hidden)
        ]);
  }

  pub taken_consistently : IsConsistentHolder g logs next
  taken_consistently = record {
    vector = consistent.vector;
    in_order = stored.in_order;
    held = held_now;
    hidden = hidden_now;
    packets = stored.packets;
  }

pub holders_take_consistently : HoldersTakeConsistently
holders_take_consistently g logs xs h are came consistent = taken_consistently g logs xs h are came consistent
