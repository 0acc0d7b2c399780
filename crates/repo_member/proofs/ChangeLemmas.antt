-- Each change of a member by itself is the group's change of that member.
use Rattle.std.proofs.Common.{◌≡◌, ℕ, zero, suc, ◌+◌, ◌<◌, Bool, true, false, cond, List, [], ◌∷◌, map, length, get_or}
use Rattle.std.proofs.Common.{Option, Some, None, refl, sym, ap, ◌∙◌, subst, arith}
use Rattle.std.specs.Prelude.{is_some, filter}
use Rattle.std.specs.declared.cmp.Ordering.{Ordering}
use Rattle.std.specs.declared.cmp.Ordering.TheVariants.{Less, Equal, Greater}
use Rattle.std.proofs.lemmas.List.Elements.{All-head, All-tail}
use Rattle.svs_sync.specs.Suppression.{periodic}
use Rattle.repo_plan.specs.declared.part.Part.{Part}
use Rattle.sorted_lists.specs.SortedList.{by_order, keys, Rises, contains, insert_key, with_value}
use Rattle.sorted_lists.specs.Range.{numbers_from}
use Rattle.repo_plan.specs.Parts.{Pair, part_cmp, part_of, parts_of, last_part}
use Rattle.sorted_lists.proofs.Orders.{Exact, less_back}
use Rattle.repo_plan.proofs.Orders.{exact_parts}
use Rattle.sorted_lists.proofs.Sets.{each_before, in_contains, keys-with_value, rises_insert}
use Rattle.repo_object.specs.Objects.{shape_in}
use Rattle.repo_object.specs.Publication.{packets}
use Rattle.repo_object.proofs.Publications.{packets-length}
use Rattle.repo_store.specs.StoreList.{with_packet}
use Rattle.group_model.specs.Member.{Member, gains, insert_keys, with_each_tried, with_tries}
use Rattle.group_model.specs.Changes as group
use Rattle.group_model.specs.World.{no_member}
use Rattle.repo_holdings.specs.Records.{Packet}
use Rattle.repo_member.specs.Groups.{publisher_at}
use Rattle.repo_member.specs.MemberState.{MemberState, initial_member, new_packets, next_seq}
use Rattle.repo_holdings.specs.Taking.{Fetched}
use Rattle.repo_holdings.specs.NewPublications.{as_parts, with_packets}
use Rattle.repo_holdings.specs.Taking.{with_fetched}
use Rattle.repo_member.specs.MemberState.{member_takes}
use Rattle.repo_holdings.specs.Taking.{with_all_tries}
use Rattle.repo_member.specs.InGroup.{in_group, BeginsAlike, PublishesAlike, AcceptsAlike, TakesAlike, asked_for}
use Rattle.repo_member.specs.InGroup.{parts_fetched}

-- ---- a key that a set has already

clash : Less ≡ Greater → ⊥
clash h = cc

pub insert_there : {K : Type 0} {R : K → K → Ordering} (e : Exact R) (k : K) (ks : List K) → Rises R ks
    → contains R ks k ≡ true → insert_key R k ks ≡ ks
insert_there e k [] r h = absurd cc
insert_there {K} {R} e k (x ∷ xs) r h = go (insert_there e k xs r.1) (R k x) refl h where
  go : (contains R xs k ≡ true → insert_key R k xs ≡ xs) → (o : Ordering) → R k x ≡ o → contains R (x ∷ xs) k ≡ true
      → by_order o (k ∷ x ∷ xs) (x ∷ xs) (x ∷ insert_key R k xs) ≡ x ∷ xs
  go later Less p q =
      let among : contains R xs k ≡ true = rw p at q in
      absurd (clash (sym (each_before e.total x xs r.0 k (in_contains e xs k among)) ∙ less_back e.total k x p))
  go later Equal p q = refl
  go later Greater p q = let among : contains R xs k ≡ true = rw p at q in ap (λ (ys : List K). x ∷ ys) (later among)

-- ---- packets that are put

pub keys_put : (stored : List Packet) (t : Part) (octets : List ℕ) → Rises part_cmp (keys stored)
    → keys (with_packet t octets stored) ≡ insert_key part_cmp t (keys stored)
keys_put stored t octets r = go (contains part_cmp (keys stored) t) refl where
  go : (b : Bool) → contains part_cmp (keys stored) t ≡ b
      → keys (cond b stored (with_value part_cmp t octets stored)) ≡ insert_key part_cmp t (keys stored)
  go true p = sym (insert_there exact_parts t (keys stored) r p)
  go false p = keys-with_value exact_parts t octets stored

pub rises_put : (stored : List Packet) (t : Part) (octets : List ℕ) → Rises part_cmp (keys stored)
    → Rises part_cmp (keys (with_packet t octets stored))
rises_put stored t octets r =
    subst (Rises part_cmp) (sym (keys_put stored t octets r)) (rises_insert exact_parts.total t (keys stored) r)

pub keys_puts : (es stored : List Packet) → Rises part_cmp (keys stored)
    → keys (with_packets es stored) ≡ insert_keys (keys es) (keys stored)
keys_puts [] stored r = refl
keys_puts (e ∷ es) stored r =
    keys_puts es (with_packet e.0 e.1 stored) (rises_put stored e.0 e.1 r)
    ∙ ap (insert_keys (keys es)) (keys_put stored e.0 e.1 r)

pub rises_puts : (es stored : List Packet) → Rises part_cmp (keys stored)
    → Rises part_cmp (keys (with_packets es stored))
rises_puts [] stored r = r
rises_puts (e ∷ es) stored r = rises_puts es (with_packet e.0 e.1 stored) (rises_put stored e.0 e.1 r)

keys_as_parts : (pair : Pair) (x : ℕ) (made : List (List ℕ))
    → keys (as_parts pair x made) ≡ map (part_of pair) (numbers_from x (length made))
keys_as_parts pair x [] = refl
keys_as_parts pair x (octets ∷ made) = ap (λ (ts : List Part). part_of pair x ∷ ts) (keys_as_parts pair (x + 1) made)

-- ---- the changes

-- what the group has of a member, with the parts `held` held
abbrev holding : Member → List Part → Member
holding m held = record m { held = held }

pub publishes_alike : PublishesAlike
publishes_alike g post time draw a r =
    let pair : Pair = (a.number, next_seq a) in
    let made : List (List ℕ) = packets (publisher_at g a.number) (next_seq a) post in
    let parts : keys (new_packets g post a) ≡ parts_of pair (last_part (shape_in post)) =
    keys_as_parts pair 0 made
    ∙ ap (λ (n : ℕ). map (part_of pair) (numbers_from 0 n))
    (packets-length (publisher_at g a.number) (next_seq a) post) in
    ap (holding (group.publishes draw time a.number post (in_group a)))
    (keys_puts (new_packets g post a) a.store r ∙ ap (λ (ts : List Part). insert_keys ts (keys a.store)) parts)

pub accepts_alike : AcceptsAlike
accepts_alike f t octets a r = ap (holding (group.takes f t (in_group a))) (keys_put a.store t octets r)

pub rises_fetched : (t : Part) (o : Option (List ℕ)) (stored : List Packet) → Rises part_cmp (keys stored)
    → Rises part_cmp (keys (with_fetched t o stored))
rises_fetched t None stored r = r
rises_fetched t (Some octets) stored r = rises_put stored t octets r

-- the parts that were received are held too, whether the first is among them or not
pub came_first : (x : Fetched) (ys : List Fetched) (o : Option (List ℕ)) (stored : List Packet)
    → Rises part_cmp (keys stored)
    → insert_keys (asked_for ys) (keys (with_fetched x.part o stored))
    ≡ insert_keys (asked_for (cond (is_some o) (x ∷ ys) ys)) (keys stored)
came_first x ys None stored r = refl
came_first x ys (Some octets) stored r = ap (insert_keys (asked_for ys)) (keys_put stored x.part octets r)

pub takes_alike : TakesAlike
takes_alike tries [] a r h = refl
takes_alike tries (x ∷ xs) a r h =
    let next : MemberState =
    record a { store = with_fetched x.part x.packet a.store; attempts = with_tries x.part x.attempts a.attempts } in
    let outcome : List Part → List (Part × ℕ) → Member =
    λ held attempts. record (in_group a) { held = held; attempts = attempts } in
    let tried : with_tries x.part x.attempts a.attempts ≡ with_tries x.part (tries x.part) a.attempts =
    ap (λ (n : ℕ). with_tries x.part n a.attempts) (All-head (λ (y : Fetched). y.attempts ≡ tries y.part) x xs h) in
    takes_alike tries xs next (rises_fetched x.part x.packet a.store r)
    (All-tail (λ (y : Fetched). y.attempts ≡ tries y.part) x xs h)
    ∙ ap (λ (held : List Part).
    outcome held (with_each_tried tries (asked_for xs) (with_tries x.part x.attempts a.attempts)))
    (came_first x (filter (λ (y : Fetched). is_some y.packet) xs) x.packet a.store r)
    ∙ ap (λ (attempts : List (Part × ℕ)).
    outcome (insert_keys (parts_fetched (x ∷ xs)) (keys a.store)) (with_each_tried tries (asked_for xs) attempts)) tried

-- however often each part was tried
pub takes_in_group : (xs : List Fetched) (a : MemberState) → Rises part_cmp (keys a.store)
    → in_group (member_takes xs a)
    ≡ record (gains (parts_fetched xs) (in_group a)) { attempts = with_all_tries xs a.attempts }
takes_in_group [] a r = refl
takes_in_group (x ∷ xs) a r =
    let next : MemberState =
    record a { store = with_fetched x.part x.packet a.store; attempts = with_tries x.part x.attempts a.attempts } in
    let outcome : List Part → Member = λ held. record (in_group a) {
      held = held;
      attempts = with_all_tries xs (with_tries x.part x.attempts a.attempts);
    } in
    takes_in_group xs next (rises_fetched x.part x.packet a.store r)
    ∙ ap outcome (came_first x (filter (λ (y : Fetched). is_some y.packet) xs) x.packet a.store r)

-- ---- the opening

at_number : (f : ℕ → Member) (first n j : ℕ) → j < n → get_or (map f (numbers_from first n)) j no_member ≡ f (first + j)
at_number f first zero j h = absurd (omega (arith, h))
at_number f first (suc n) zero h = let e : first ≡ first + 0 = omega arith in ap f e
at_number f first (suc n) (suc j) h =
    let e : (first + 1) + j ≡ first + suc j = omega arith in at_number f (first + 1) n j (omega (arith, h)) ∙ ap f e

pub begins_alike : BeginsAlike
begins_alike env n j h =
    let begun : ℕ → ℕ → Member = λ i deadline. record (in_group (initial_member n i 0 (env.draw i 0))) {
      machine = record { members = n; heard = None; deadline = deadline; draws = 1 };
    } in
    let now : 0 + periodic (env.draw j 0) ≡ periodic (env.draw j 0) = omega arith in
    let e : 0 + j ≡ j = omega arith in
    let at : ℕ → Member = λ i. begun i (periodic (env.draw i 0)) in
    ap (begun j) now ∙ sym (at_number at 0 n j h ∙ ap at e)
