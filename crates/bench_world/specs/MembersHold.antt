-- Members are holders of parts: the laws of holders hold of them.
use Rattle.std.proofs.Common.{◌≡◌, ℕ, suc, List, [], ◌∷◌, Option, Some, None, refl, ap, ◌∙◌, arith}
use Rattle.std.specs.Prelude.{IfSome, slice_index_or}
use Rattle.std.specs.List.{All}
use Rattle.repo_plan.specs.Parts.{pair_cmp, part_cmp, pair_of}
use Rattle.repo_plan.proofs.Kept.{wanted_parts}
use Rattle.sorted_lists.specs.SortedList.{keys, contains}
use Rattle.repo_holdings.specs.Taking.{Fetched, with_fetched, with_tries}
use Rattle.group_model.specs.Publications.{Logs}
use Rattle.group_model.proofs.Members.{known_published}
use Rattle.repo_member.specs.Groups.{GroupKeys}
use Rattle.repo_member.specs.MemberState.{MemberState, member_holdings, member_plan, member_takes}
use Rattle.repo_member.specs.InGroup.{published_packet}
use Rattle.repo_member.specs.ConsistentChanges.{IsConsistentArrival}
use Rattle.repo_member.proofs.PublicLaws.{member_is_holder, members_take_all, fetched_are_stored}
use Rattle.repo_member.proofs.PublicLaws.{consistent_is_member_state}
use Rattle.repo_member.proofs.PublicLaws.{takes_consistent}
use Rattle.bench_world.specs.Holders.{AreHolders, FetchForHolder, FetchedNothing}
use Rattle.bench_world.specs.MemberWords.{member_words}

-- A packet that was fetched for the member `a`, seen as a holder, is one that the member can take.
arrives : (g : GroupKeys) (logs : Logs) (a : MemberState) (x : Fetched) → FetchForHolder g logs (member_holdings a) x
    → IfSome x.packet (IsConsistentArrival g logs a x.part)
arrives g logs a x came = go x.packet came.packet where
  go : (o : Option (List ℕ)) → IfSome o (λ octets. published_packet g logs x.part ≡ Some octets)
      → IfSome o (IsConsistentArrival g logs a x.part)
  go None h = tt
  go (Some octets) h = record { unclaimed = came.unclaimed; packet = h }

-- Results without packets and attempts change nothing of a member.
takes_nothing : (xs : List Fetched) (a : MemberState) → All FetchedNothing xs → member_takes xs a ≡ a
takes_nothing [] a none = refl
takes_nothing (x ∷ xs) a none =
    let one : FetchedNothing x = none 0 x (omega arith) in
    ap (member_takes xs)
    (λ i. record a {
      store = with_fetched x.part (one.packet i) a.store;
      attempts = with_tries x.part (one.attempts i) a.attempts;
    })
    ∙ takes_nothing xs a (λ k d l. none (suc k) d (omega (arith, l)))

-- If no attempt is counted, only the store of a member changes.
rest_stays : (xs : List Fetched) (a : MemberState) → All (λ (x : Fetched). x.attempts ≡ 0) xs
    → record (member_takes xs a) { store = [] } ≡ record a { store = [] }
rest_stays [] a none = refl
rest_stays (x ∷ xs) a none =
    let one : x.attempts ≡ 0 = none 0 x (omega arith) in
    rest_stays xs
    (record a { store = with_fetched x.part x.packet a.store; attempts = with_tries x.part x.attempts a.attempts })
    (λ k d l. none (suc k) d (omega (arith, l)))
    ∙ (λ i. record a { store = []; attempts = with_tries x.part (one i) a.attempts })

-- Members are holders.
pub members_hold : AreHolders member_words
members_hold = record {
  holder = member_is_holder;
  in_order = λ g logs a consistent. (consistent_is_member_state g logs a consistent).in_order;
  published = λ g logs a t consistent h.
      let held = consistent.sound.held t h in
      record {
        there = known_published logs a.known (pair_of t) consistent.sound.known held.known;
        counted =
            held.counted;
      };
  not_held = λ a t wanted. (wanted_parts (member_plan a) t wanted).not_held;
  takes_consistently = λ g logs xs a are come consistent. takes_consistent g logs xs a are
      (λ k d l. arrives g logs a (slice_index_or xs k d) (come k d l)) consistent;
  takes_those = λ g logs xs a t are come consistent.
      ap (λ (b : MemberState). contains part_cmp (keys b.store) t) (members_take_all xs a)
      ∙ fetched_are_stored xs a.store t;
  takes_nothing = takes_nothing;
  rest_stays = rest_stays;
  attempts = λ a. refl;
  known = λ a. refl;
  hidden_stays = λ xs a pair h.
      ap (λ (b : MemberState). contains pair_cmp b.hidden pair) (members_take_all xs a) ∙ h;
}
