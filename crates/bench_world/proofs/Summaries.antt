-- The totals of all catalogues of a world.
use Rattle.std.proofs.Common.{◌≡◌, ℕ, ◌+◌, ◌*◌, ◌≤◌, ◌<◌, List, [], ◌∷◌, ◌++◌, map, length, get_or, refl}
use Rattle.std.proofs.Common.{sym, ap, ◌∙◌, subst, arith}
use Rattle.std.specs.Prelude.{sum_by, unwrap_or}
use Rattle.std.specs.List.{All, concat}
use Rattle.std.proofs.lemmas.List.{ext_get_or, length-append, length-map, get_or-map, get_or_default}
use Rattle.std.proofs.lemmas.List.Elements.{All-head, All-tail}
use Rattle.std.proofs.lemmas.List.Sums.{sum_by-le}
use Rattle.sorted_lists.specs.Range.{numbers_from}
use Rattle.sorted_lists.proofs.Ranges.{length-numbers, number_at}
use Rattle.sorted_lists.proofs.Sets.{In, from_map}
use Rattle.sorted_lists.proofs.Members.{in_at, in_filtered}
use Rattle.repo_object.specs.Objects.{IsContent, Post, IsPost, offered}
use Rattle.repo_object.specs.Objects.Post.{Offers, Withdraws}
use Rattle.repo_catalog.specs.declared.entry.Entry.{Entry}
use Rattle.group_model.specs.Publications.{Publication, no_object, pair_in, published, published_entry}
use Rattle.group_model.specs.Member.{Member, is_listed, catalogued, catalogue}
use Rattle.group_model.specs.Replies.{CatalogueTotals}
use Rattle.group_model.specs.World.{catalogue_at, member}
use Rattle.group_model.specs.Steps.{all_totals, catalogue_totals}
use Rattle.group_model.proofs.Parts.{IsIn, in_published}
use Rattle.group_model.proofs.Tries.{filter_short}
use Rattle.repo_member.specs.MemberState.{MemberState}
use Rattle.repo_member.specs.InGroup.{in_group}
use Rattle.repo_member.specs.Listed.{member_catalogue}
use Rattle.repo_member.proofs.PublicLaws.{catalogues_alike}
use Rattle.bench_world.specs.MemberTotals.{totals_in, HasFewTotals}
use Rattle.bench_world.specs.Worlds.{GroupState, IsConsistentState, nobody, state_at, in_groups, logs_around, world_of}
use Rattle.bench_world.proofs.ClaimedPackets.{post_within}
use Rattle.bench_world.proofs.States.{in_world, consistent_in}

-- ---- how much entries come to

sum_few : (g : Entry → ℕ) (b : ℕ) (xs : List Publication) → ((x : Publication) → In x xs → g (published_entry x) ≤ b)
    → sum_by g (map published_entry xs) ≤ length (map published_entry xs) * b
sum_few g b xs h = sum_by-le g b (map published_entry xs) (λ k d l.
    let r : (x : Publication) × (In x xs) × (get_or (map published_entry xs) k d ≡ published_entry x) =
    from_map published_entry xs (get_or (map published_entry xs) k d) (in_at (map published_entry xs) k d l) in
    subst (λ (e : Entry). g e ≤ b) (sym r.2) (h r.0 r.1))

concat_few : (cs : List (List ℕ)) → All IsContent cs → length (concat cs) ≤ length cs * 8000
concat_few [] h = omega arith
concat_few (c ∷ cs) h =
    let joined : concat (c ∷ cs) ≡ c ++ concat cs = refl in
    let long : length (concat (c ∷ cs)) ≡ length c + length (concat cs) =
    ap length joined ∙ length-append c (concat cs) in
    let first : length c ≤ 8000 = (All-head IsContent c cs h).1 in
    let rest : length (concat cs) ≤ length cs * 8000 = concat_few cs (All-tail IsContent c cs h) in
    omega (arith, long, first, rest)

-- The contents of what is published have few segments and octets.
few_segments : (n : ℕ) (post : Post) → IsPost n post → length (unwrap_or (offered post) no_object).contents ≤ 20000
few_segments n (Offers object) is = is.few
few_segments n (Withdraws seq) is = omega arith

few_octets : (n : ℕ) (post : Post) → IsPost n post
    → length (concat (unwrap_or (offered post) no_object).contents) ≤ 160000000
few_octets n (Offers object) is =
    let few : length object.contents ≤ 20000 = is.few in
    let sum : length (concat object.contents) ≤ length object.contents * 8000 =
    concat_few object.contents is.contents in
    omega (arith, few, sum)
few_octets n (Withdraws seq) is = omega arith

module _ (s : GroupState) (is : IsConsistentState s) where
  post_of : (q : Publication) → In q (published (logs_around s.members)) → IsPost q.seq q.post
  post_of q i =
      let at : IsIn (logs_around s.members) q = in_published (logs_around s.members) q i in
      subst (IsPost q.seq) (sym at.post) (post_within s.keys (logs_around s.members) is.are (pair_in q) at.there)

  few_totals : (m : Member) → HasFewTotals (catalogue_totals (catalogue (logs_around s.members) m))
  few_totals m =
      let all : List Publication = published (logs_around s.members) in
      let steps : length (published (logs_around s.members)) ≤ s.steps = is.within.published in
      let most : s.steps ≤ 100000 = is.steps in
      let kept : length (catalogued (logs_around s.members) m) ≤ length (published (logs_around s.members)) =
      filter_short (is_listed all m) (published (logs_around s.members)) in
      let same : length (catalogue (logs_around s.members) m) ≡ length (catalogued (logs_around s.members) m) =
      length-map (catalogued (logs_around s.members) m) published_entry in
      let segments : sum_by (λ e. e.segments) (catalogue (logs_around s.members) m)
      ≤ length (catalogue (logs_around s.members) m) * 20000 =
      sum_few (λ e. e.segments) 20000 (catalogued (logs_around s.members) m)
      (λ q i. few_segments q.seq q.post (post_of q (in_filtered (is_listed all m) all q i).0)) in
      let octets : sum_by (λ e. e.octets) (catalogue (logs_around s.members) m)
      ≤ length (catalogue (logs_around s.members) m) * 160000000 =
      sum_few (λ e. e.octets) 160000000 (catalogued (logs_around s.members) m)
      (λ q i. few_octets q.seq q.post (post_of q (in_filtered (is_listed all m) all q i).0)) in
      record {
        entries = omega (arith, steps, most, kept, same);
        segments = omega (arith, steps, most, kept, same, segments);
        octets = omega (arith, steps, most, kept, same, octets);
      }

  listed : (j : ℕ) → j < length s.members → catalogue_at (world_of s) j ≡ member_catalogue (state_at s.members j).store
  listed j l =
      let same : state_at s.members j ≡ get_or s.members j (state_at s.members j) =
      get_or_default s.members j nobody (state_at s.members j) l in
      catalogues_alike (world_of s) j s.keys (state_at s.members j) (in_world s is j l (state_at s.members j) same)
      (consistent_in s is j l (state_at s.members j) same)

  pub few_totals_at : (j : ℕ) → j < length s.members → HasFewTotals (totals_in (state_at s.members j))
  few_totals_at j l =
      subst (λ (es : List Entry). HasFewTotals (catalogue_totals es)) (listed j l) (few_totals (member (world_of s) j))

  -- Member by member they are those of the members by themselves.
  pub totals_are : map totals_in s.members ≡ all_totals (world_of s)
  totals_are =
      let many : length (in_groups s.members) ≡ length s.members = length-map s.members in_group in
      let long : length (numbers_from 0 (length (in_groups s.members))) ≡ length (in_groups s.members) =
      length-numbers 0 (length (in_groups s.members)) in
      let f : ℕ → CatalogueTotals = λ j. catalogue_totals (catalogue_at (world_of s) j) in
      let left : length (map totals_in s.members) ≡ length s.members = length-map s.members totals_in in
      let right : length (all_totals (world_of s)) ≡ length (numbers_from 0 (length (in_groups s.members))) =
      length-map (numbers_from 0 (length (in_groups s.members))) f in
      ext_get_or none (map totals_in s.members) (all_totals (world_of s)) (omega (arith, left, right, long, many))
      (λ i l.
      let inside : i < length s.members = omega (arith, l, left) in
      let z : 0 + i ≡ i = omega arith in
      get_or-map totals_in s.members i nobody none inside
      ∙ ap catalogue_totals (sym (listed i inside))
      ∙ ap f (sym (number_at 0 (length (in_groups s.members)) i (omega (arith, inside, many)) ∙ z))
      ∙ sym
      (get_or-map f (numbers_from 0 (length (in_groups s.members))) i 0 none (omega (arith, inside, many, long)))) where
        none : CatalogueTotals
        none = record { entries = 0; segments = 0; octets = 0 }

  pub sums_are : (g : CatalogueTotals → ℕ) → map (λ a. g (totals_in a)) s.members ≡ map g (all_totals (world_of s))
  sums_are g = over s.members ∙ ap (map g) totals_are where
    over : (as_ : List MemberState) → map (λ a. g (totals_in a)) as_ ≡ map g (map totals_in as_)
    over [] = refl
    over (a ∷ as_) = ap (λ (ns : List ℕ). g (totals_in a) ∷ ns) (over as_)
