-- Stored packets stay the published ones of their parts.
use Rattle.std.proofs.Common.{◌≡◌, inl, inr, ℕ, suc, ◌+◌, ◌-◌, ◌≤◌, ◌<◌, Bool, true, false, cond, List, [], ◌∷◌, ◌++◌}
use Rattle.std.proofs.Common.{length, length-take, get_or, take, Option, Some, None, slice_get, refl, sym, ap, ◌∙◌}
use Rattle.std.proofs.Common.{subst, arith}
use Rattle.std.specs.Prelude.{is_some, slice_set, replicate}
use Rattle.std.specs.List.{All}
use Rattle.std.specs.Ordering.{eq_by_cmp}
use Rattle.std.proofs.lemmas.Bool.{or_cases, cases_eq}
use Rattle.std.proofs.lemmas.List.{get_or-take, get_or-set_same, get_or-set_other, get_or_push, length_push, take_at}
use Rattle.std.proofs.lemmas.List.{take_all, length-set, length-replicate, get_or-replicate}
use Rattle.std.proofs.lemmas.List.Elements.{All-head, All-tail}
use Rattle.repo_plan.specs.declared.part.Part.{Part}
use Rattle.sorted_lists.specs.SortedList.{keys, contains, value_of, with_value, insert_key}
use Rattle.repo_plan.specs.Parts.{Pair, part_cmp, pair_of, part_of}
use Rattle.repo_plan.proofs.Orders.{exact_parts}
use Rattle.sorted_lists.proofs.Sets.{eq_same, contains-insert_key}
use Rattle.repo_object.specs.Objects.{Post}
use Rattle.repo_object.specs.Publication.{packets, packet_at}
use Rattle.repo_store.specs.StoreList.{with_packet}
use Rattle.group_model.specs.Publications.{Logs, no_post, post_at, last_of}
use Rattle.group_model.specs.Sound.{IsPublished}
use Rattle.repo_holdings.specs.Records.{Packet}
use Rattle.repo_member.specs.Groups.{GroupKeys, publisher_at}
use Rattle.group_model.specs.Member.{with_tries}
use Rattle.repo_member.specs.MemberState.{MemberState, ArePosts, member_publishes, member_accepts, next_seq}
use Rattle.repo_holdings.specs.Taking.{Fetched}
use Rattle.repo_holdings.specs.NewPublications.{as_parts, with_packets}
use Rattle.repo_holdings.specs.Taking.{with_fetched}
use Rattle.repo_member.proofs.PostLemmas.{are_posts_more}
use Rattle.repo_member.specs.InGroup.{StoresConsistently, IsItsPacket, IsConsistentFetch, published_packet, GrowInto}
use Rattle.repo_member.specs.InGroup.{BeginsConsistently}
use Rattle.repo_member.specs.InGroup.{GrowsConsistently, PublishesConsistently, AcceptsConsistently, TakesConsistently}
use Rattle.repo_member.specs.InGroup.{StaysConsistent, LogsBegin}
use Rattle.repo_member.specs.InGroup.{LogsGrow}
use Rattle.repo_holdings.proofs.GainingLemmas.{contains-value, value_of-put}
use Rattle.repo_member.proofs.ChangeLemmas.{keys_put, rises_put}

pub begins_consistently : BeginsConsistently
begins_consistently g logs members number time draw =
    record { in_order = tt; published = λ t h. absurd cc; packets = λ t octets h. absurd cc }

pub stays_consistent : StaysConsistent
stays_consistent g logs a b same s =
    let with_store : List Packet → MemberState = λ stored. record a { store = stored } in
    let as_before : StoresConsistently g logs (with_store a.store) =
    record { in_order = s.in_order; published = s.published; packets = s.packets } in
    let moved : StoresConsistently g logs (with_store b.store) =
    subst (λ (stored : List Packet). StoresConsistently g logs (with_store stored)) (sym same) as_before in
    record { in_order = moved.in_order; published = moved.published; packets = moved.packets }

-- ---- packets that are put

abbrev with_store : MemberState → List Packet → MemberState
with_store a stored = record a { store = stored }

pub one_more : (g : GroupKeys) (logs : Logs) (t : Part) (octets : List ℕ) (a : MemberState)
    → IsItsPacket g logs t octets
    → StoresConsistently g logs a → StoresConsistently g logs (with_store a (with_packet t octets a.store))
one_more g logs t octets a its s = record {
  in_order = rises_put a.store t octets s.in_order;
  published = λ q h.
      let put : contains part_cmp (keys (with_packet t octets a.store)) q
      ≡ contains part_cmp (insert_key part_cmp t (keys a.store)) q =
      ap (λ (ts : List Part). contains part_cmp ts q) (keys_put a.store t octets s.in_order) in
      elim (or_cases (eq_by_cmp part_cmp q t) (contains part_cmp (keys a.store) q)
      (sym (put ∙ contains-insert_key exact_parts t (keys a.store) q) ∙ h)) [
        | inl same ↦
            subst (λ (u : Part). IsPublished logs (pair_of u)) (sym (eq_same exact_parts q t same)) its.published
        | inr before ↦ s.published q before
      ];
  packets = λ q found h. at q found (contains part_cmp (keys a.store) t) refl h;
} where
  new : (q : Part) (found : List ℕ) (b : Bool) → eq_by_cmp part_cmp q t ≡ b
      → cond b (Some octets) (value_of part_cmp a.store q) ≡ Some found → published_packet g logs q ≡ Some found
  new q found true p h =
      ap (published_packet g logs) (eq_same exact_parts q t p) ∙ its.packet ∙ h
  new q found false p h = s.packets q found h

  at : (q : Part) (found : List ℕ) (b : Bool) → contains part_cmp (keys a.store) t ≡ b
      → value_of part_cmp (with_packet t octets a.store) q ≡ Some found → published_packet g logs q ≡ Some found
  at q found true p h =
      s.packets q found
      (sym (ap (λ (c : Bool). value_of part_cmp (cond c a.store (with_value part_cmp t octets a.store)) q) p) ∙ h)
  at q found false p h = new q found (eq_by_cmp part_cmp q t) refl (sym (value_of-put a.store t octets p q) ∙ h)

pub accepts_consistently : AcceptsConsistently
accepts_consistently g logs f t octets a its s =
    stays_consistent g logs (with_store a (with_packet t octets a.store)) (member_accepts f t octets a) refl
    (one_more g logs t octets a its s)

fetched_consistently : (g : GroupKeys) (logs : Logs) (t : Part) (o : Option (List ℕ)) (a : MemberState)
    → IsConsistentFetch g logs t o
    → StoresConsistently g logs a → StoresConsistently g logs (with_store a (with_fetched t o a.store))
fetched_consistently g logs t None a came s = stays_consistent g logs a (with_store a a.store) refl s
fetched_consistently g logs t (Some octets) a came s = one_more g logs t octets a came s

pub takes_consistently : TakesConsistently
takes_consistently g logs [] a came s = s
takes_consistently g logs (x ∷ xs) a came s =
    let next : MemberState =
    record a { store = with_fetched x.part x.packet a.store; attempts = with_tries x.part x.attempts a.attempts } in
    let P : Fetched → Type 0 = λ y. IsConsistentFetch g logs y.part y.packet in
    takes_consistently g logs xs next (All-tail P x xs came)
    (stays_consistent g logs (with_store a (with_fetched x.part x.packet a.store)) next refl
    (fetched_consistently g logs x.part x.packet a (All-head P x xs came) s))

-- ---- what is published

pub grown_last : (logs later : Logs) (p : ℕ) → GrowInto logs later → last_of logs p ≤ last_of later p
grown_last logs later p grows =
    let same : length (take (last_of logs p) (get_or later p [])) ≡ last_of logs p =
    ap (λ (log : List Post). length log) (grows p) in
    omega (arith, same, length-take (last_of logs p) (get_or later p []))

pub grown_post : (logs later : Logs) (pair : Pair) → GrowInto logs later → IsPublished logs pair
    → post_at later pair ≡ post_at logs pair
grown_post logs later pair grows there =
    sym (get_or-take (last_of logs pair.0) (get_or later pair.0 []) (pair.1 - 1) no_post
    (omega (arith, there.from_one, there.to_last)))
    ∙ ap (λ (log : List Post). get_or log (pair.1 - 1) no_post) (grows pair.0)

pub grows_consistently : GrowsConsistently
grows_consistently g logs later a grows s = record {
  in_order = s.in_order;
  published = λ t h.
      let there = s.published t h in
      record {
        from_one = there.from_one;
        to_last = omega (arith, there.to_last, grown_last logs later t.publisher grows);
      };
  packets = λ t octets h.
      let held : contains part_cmp (keys a.store) t ≡ true = contains-value a.store t ∙ ap is_some h in
      ap (λ (post : Post). packet_at (publisher_at g t.publisher) t.seq post t.part)
      (grown_post logs later (pair_of t) grows (s.published t held))
      ∙ s.packets t octets h;
}

-- the packets of a publication, from part `x` on
puts_consistently : (g : GroupKeys) (logs : Logs) (pair : Pair) (x : ℕ) (made : List (List ℕ)) (a : MemberState)
    → ((k : ℕ) (octets : List ℕ) → slice_get made k ≡ Some octets → IsItsPacket g logs (part_of pair (x + k)) octets)
    → StoresConsistently g logs a → StoresConsistently g logs
    (with_store a (with_packets (as_parts pair x made) a.store))
puts_consistently g logs pair x [] a its s = stays_consistent g logs a (with_store a a.store) refl s
puts_consistently g logs pair x (octets ∷ made) a its s =
    let here : x + 0 ≡ x = omega arith in
    let first : IsItsPacket g logs (part_of pair x) octets =
    subst (λ (n : ℕ). IsItsPacket g logs (part_of pair n) octets) here (its 0 octets refl) in
    let next : MemberState = with_store a (with_packet (part_of pair x) octets a.store) in
    stays_consistent g logs (with_store next (with_packets (as_parts pair (x + 1) made) next.store))
    (with_store a (with_packets (as_parts pair x (octets ∷ made)) a.store)) refl
    (puts_consistently g logs pair (x + 1) made next (λ k found h.
    let there : x + suc k ≡ (x + 1) + k = omega arith in
    subst (λ (n : ℕ). IsItsPacket g logs (part_of pair n) found) there (its (suc k) found h))
    (one_more g logs (part_of pair x) octets a first s))

-- the logs of a group in which a member published once more
module _ (logs : Logs) (number : ℕ) (log : List Post) (post : Post) (inside : number < length logs)
    (own : get_or logs number [] ≡ log) where
  abbrev later : Logs
  later = slice_set logs number (log ++ post ∷ [])

  at_own : get_or later number [] ≡ log ++ post ∷ []
  at_own = get_or-set_same logs number (log ++ post ∷ []) [] inside

  pub published_grows : GrowInto logs later
  published_grows p = elim (cases_eq p number) [
    | inl same ↦ subst (λ (q : ℕ). take (last_of logs q) (get_or later q []) ≡ get_or logs q []) (sym same)
        (ap (take (last_of logs number)) at_own
        ∙ take_at log (post ∷ []) (last_of logs number) (sym (ap (λ (l : List Post). length l) own))
        ∙ sym own)
    | inr other ↦
        ap (take (last_of logs p)) (get_or-set_other logs number p (log ++ post ∷ []) [] other)
        ∙ take_all (last_of logs p) (get_or logs p []) (omega arith)
  ]

  pub published_next : IsPublished later (number, length log + 1)
  published_next =
      let long : last_of later number ≡ length (log ++ post ∷ []) =
      ap (λ (l : List Post). length l) at_own in
      record { from_one = omega arith; to_last = omega (arith, long, length_push log post) }

  pub post_next : post_at later (number, length log + 1) ≡ post
  post_next =
      ap (λ (l : List Post). get_or l (length log + 1 - 1) no_post) at_own
      ∙ get_or_push log post no_post (length log + 1 - 1) (omega arith)

pub publishes_consistently : PublishesConsistently
publishes_consistently g post time draw logs a inside own s =
    let later_logs : Logs = slice_set logs a.number (a.log ++ post ∷ []) in
    let pair : Pair = (a.number, next_seq a) in
    let made : List (List ℕ) = packets (publisher_at g a.number) (next_seq a) post in
    let its : (k : ℕ) (octets : List ℕ) → slice_get made k ≡ Some octets
    → IsItsPacket g later_logs (part_of pair (0 + k)) octets =
    λ k octets h.
    let same : 0 + k ≡ k = omega arith in
    record {
      published = published_next logs a.number a.log post inside own;
      packet =
          ap (λ (n : ℕ). published_packet g later_logs (part_of pair n)) same
          ∙ ap (λ (o : Post). packet_at (publisher_at g a.number) (next_seq a) o k)
          (post_next logs a.number a.log post inside own)
          ∙ h;
    } in
    stays_consistent g later_logs (with_store a (with_packets (as_parts pair 0 made) a.store))
    (member_publishes g post time draw a) refl
    (puts_consistently g later_logs pair 0 made a its
    (grows_consistently g logs later_logs a (published_grows logs a.number a.log post inside own) s))

-- ---- what can have been published

pub logs_begin : LogsBegin
logs_begin g is =
    let nothing : Logs = replicate (length g.members.names) [] in
    let each : (P : List Post → Type 0) → P [] → All P nothing = λ P none k d inside.
    subst P (sym (get_or-replicate (length g.members.names) k [] d
    (subst (λ (n : ℕ). k < n) (length-replicate (length g.members.names) []) inside))) none in
    record {
      group = is;
      width = length-replicate (length g.members.names) [];
      posts = each ArePosts (λ i post there. absurd cc);
      few = each (λ (log : List Post). length log ≤ 65535) (omega arith);
    }

pub logs_grow : LogsGrow
logs_grow g logs j post are inside is room =
    let log : List Post = get_or logs j [] in
    let grown : List Post = log ++ post ∷ [] in
    let each : (P : List Post → Type 0) → All P logs → P grown → All P (slice_set logs j grown) =
    λ P all new k d within.
    elim (cases_eq k j) [
      | inl same ↦
          subst P
          (sym (ap (λ (i : ℕ). get_or (slice_set logs j grown) i d) same ∙ get_or-set_same logs j grown d inside)) new
      | inr other ↦
          subst P (sym (get_or-set_other logs j k grown d other))
          (all k d (subst (λ (n : ℕ). k < n) (length-set logs j grown) within))
    ] in
    record {
      group = are.group;
      width = length-set logs j grown ∙ are.width;
      posts = each ArePosts are.posts (are_posts_more log post (are.posts j [] inside) is);
      few = each (λ (l : List Post). length l ≤ 65535) are.few (omega (arith, room, length_push log post));
    }
