-- The group around a member, as its journal sees it, and what of it is as in the whole lists.
use Rattle.std.proofs.Common.{◌≡◌, ◌≢◌, inl, inr, ℕ, ◌-◌, ◌<◌, ◌≤◌, List, [], ◌∷◌, ◌++◌, map, length, get_or, set}
use Rattle.std.proofs.Common.{refl, ap, sym, ◌∙◌, subst, arith}
use Rattle.std.proofs.Math.ListN.{get_or-append}
use Rattle.std.proofs.lemmas.Bool.{cases_eq}
use Rattle.std.proofs.lemmas.List.{map-set, get_or-map, get_or-set_same, get_or-set_other, length-map, length-set}
use Rattle.std.proofs.lemmas.List.{length-append}
use Rattle.repo_object.specs.Objects.{NamedContents, Post, shape_in}
use Rattle.repo_plan.specs.declared.part.Part.{Part}
use Rattle.repo_plan.specs.Parts.{Pair, pair_of, last_part}
use Rattle.repo_object.specs.Publication.{packet_at}
use Rattle.repo_member.specs.Groups.{publisher_at}
use Rattle.repo_member.specs.MemberState.{MemberState}
use Rattle.repo_member.specs.InGroup.{AreLogs, in_group, published_packet}
use Rattle.repo_member.specs.InEvents.{IsMemberOf, IsConsistentIn}
use Rattle.repo_member.specs.ConsistentMembers.{IsConsistentMember}
use Rattle.repo_member.proofs.PublicLaws.{consistent_stores}
use Rattle.group_model.specs.Publications.{Logs, no_post, post_at, last_of}
use Rattle.group_model.specs.Member.{Member}
use Rattle.group_model.specs.Sound.{IsPublished, IsPublishedPart, IsConsistentVector}
use Rattle.group_model.specs.World.{member, logs, no_member}
use Rattle.live_member.specs.Meanings.{Meaning, objects_of, as_posts, whole_logs, logs_at, with_log, world_at}

-- ---- the world around a member

logs_of_lists : (ls : Logs) → map (λ (m : Member). m.log) (map with_log ls) ≡ ls
logs_of_lists [] = refl
logs_of_lists (l ∷ ls) = ap (λ (xs : Logs). l ∷ xs) (logs_of_lists ls)

pub width_whole : (t : Meaning) → length (whole_logs t) ≡ length t.lists
width_whole t = length-map t.lists as_posts

pub logs_around : (t : Meaning) (j : ℕ) (m : Member) → logs (world_at t j m) ≡ logs_at t j m.log
logs_around t j m =
    map-set (λ (x : Member). x.log) (map with_log (whole_logs t)) j m
    ∙ ap (λ (ls : Logs). set ls j m.log) (logs_of_lists (whole_logs t))

width_around : (t : Meaning) (j : ℕ) (m : Member) → length (world_at t j m).members ≡ length t.lists
width_around t j m =
    length-set (map with_log (whole_logs t)) j m ∙ length-map (whole_logs t) with_log ∙ width_whole t

pub member_around : (t : Meaning) (j : ℕ) (m : Member) → j < length t.lists → member (world_at t j m) j ≡ m
member_around t j m less =
    let wide : length (map with_log (whole_logs t)) ≡ length t.lists =
    length-map (whole_logs t) with_log ∙ width_whole t in
    get_or-set_same (map with_log (whole_logs t)) j m no_member (omega (arith, less, wide))

module _ (t : Meaning) (a : MemberState) (own : AreLogs t.group (logs_at t a.number a.log))
    (consistent : IsConsistentMember t.group (logs_at t a.number a.log) a) where
  pub number_there : a.number < length t.lists
  number_there = omega (arith, consistent.there, length-set (whole_logs t) a.number a.log, width_whole t)

  pub is_member : IsMemberOf (world_at t a.number (in_group a)) a.number a
  is_member = record {
    there = omega (arith, number_there, width_around t a.number (in_group a));
    number = refl;
    same = member_around t a.number (in_group a) number_there;
  }

  pub is_consistent_in : IsConsistentIn t.group (world_at t a.number (in_group a)) a
  is_consistent_in =
      let same : logs_at t a.number a.log ≡ logs (world_at t a.number (in_group a)) =
      sym (logs_around t a.number (in_group a)) in
      record {
        published = subst (AreLogs t.group) same own;
        stores = consistent_stores t.group (logs (world_at t a.number (in_group a))) a
            (subst (λ (ls : Logs). IsConsistentMember t.group ls a) same consistent);
      }

-- ---- what a member has published, and its whole list

module _ (t : Meaning) (j : ℕ) (log : List Post) (unpublished : List NamedContents)
    (list : log ++ as_posts unpublished ≡ as_posts (objects_of t j)) (there : j < length t.lists) where
  pub log_at : get_or (logs_at t j log) j [] ≡ log
  log_at = get_or-set_same (whole_logs t) j log [] (omega (arith, there, width_whole t))

  pub whole_at : get_or (whole_logs t) j [] ≡ log ++ as_posts unpublished
  whole_at = get_or-map as_posts t.lists j [] [] there ∙ sym list

  own_last : last_of (logs_at t j log) j ≡ length log
  own_last = ap length log_at

  own_less : length log ≤ last_of (whole_logs t) j
  own_less =
      let whole : last_of (whole_logs t) j ≡ length (log ++ as_posts unpublished) = ap length whole_at in
      omega (arith, whole, length-append log (as_posts unpublished))

  other_last : (p : ℕ) → p ≢ j → last_of (logs_at t j log) p ≡ last_of (whole_logs t) p
  other_last p other = ap length (get_or-set_other (whole_logs t) j p log [] other)

  pub at_most_whole : (p : ℕ) → last_of (logs_at t j log) p ≤ last_of (whole_logs t) p
  at_most_whole p = elim (cases_eq p j) [
    | inl same ↦
        let here : last_of (logs_at t j log) p ≡ length log =
        ap (λ (q : ℕ). last_of (logs_at t j log) q) same ∙ own_last in
        let whole : last_of (whole_logs t) p ≡ last_of (whole_logs t) j = ap (last_of (whole_logs t)) same in
        omega (arith, here, whole, own_less)
    | inr other ↦ omega (arith, other_last p other)
  ]

  -- what was published under a number is what the whole list has there
  pub post_alike : (pair : Pair) → IsPublished (logs_at t j log) pair
      → post_at (logs_at t j log) pair ≡ post_at (whole_logs t) pair
  post_alike pair is = elim (cases_eq pair.0 j) [
    | inl same ↦
        let here : last_of (logs_at t j log) pair.0 ≡ length log =
        ap (λ (q : ℕ). last_of (logs_at t j log) q) same ∙ own_last in
        ap (λ (q : ℕ). get_or (get_or (logs_at t j log) q []) (pair.1 - 1) no_post) same
        ∙ ap (λ (l : List Post). get_or l (pair.1 - 1) no_post) log_at
        ∙ sym (get_or-append log (as_posts unpublished) no_post (pair.1 - 1)
        (omega (arith, here, is.from_one, is.to_last)))
        ∙ ap (λ (l : List Post). get_or l (pair.1 - 1) no_post) (sym whole_at)
        ∙ ap (λ (q : ℕ). get_or (get_or (whole_logs t) q []) (pair.1 - 1) no_post) (sym same)
    | inr other ↦
        ap (λ (l : List Post). get_or l (pair.1 - 1) no_post) (get_or-set_other (whole_logs t) j pair.0 log [] other)
  ]

  pub packet_alike : (part : Part) → IsPublished (logs_at t j log) (pair_of part)
      → published_packet t.group (logs_at t j log) part ≡ published_packet t.group (whole_logs t) part
  packet_alike part is =
      ap (λ (post : Post). packet_at (publisher_at t.group part.publisher) part.seq post part.part)
      (post_alike (pair_of part) is)

  -- a part of what was published is one of the whole list
  pub part_whole : (part : Part) → IsPublishedPart (logs_at t j log) part → IsPublishedPart (whole_logs t) part
  part_whole part is =
      let last : part.seq ≤ last_of (logs_at t j log) part.publisher = is.there.to_last in
      record {
        there = record {
          from_one = is.there.from_one;
          to_last = omega (arith, last, at_most_whole part.publisher);
        };
        counted = subst (λ (post : Post). part.part ≤ last_part (shape_in post)) (post_alike (pair_of part) is.there)
            is.counted;
      }

  wide : length (logs_at t j log) ≡ length (whole_logs t)
  wide = length-set (whole_logs t) j log

  -- a vector that reports nothing that isn't published reports nothing that isn't in the lists
  pub vector_whole : (v : List ℕ) → IsConsistentVector (logs_at t j log) v → IsConsistentVector (whole_logs t) v
  vector_whole v is = record {
    width = is.width ∙ wide;
    no_more = λ p. let most = at_most_whole p in omega (arith, most, is.no_more p);
  }

  -- a vector that reports nothing that isn't in the lists, and no more of the member `j` than it has published,
  -- reports nothing that isn't published
  pub vector_here : (v : List ℕ) → IsConsistentVector (whole_logs t) v → get_or v j 0 ≤ length log
      → IsConsistentVector (logs_at t j log) v
  vector_here v is few = record {
    width = is.width ∙ sym wide;
    no_more = λ p. elim (cases_eq p j) [
      | inl same ↦
          let here : last_of (logs_at t j log) p ≡ length log =
          ap (λ (q : ℕ). last_of (logs_at t j log) q) same ∙ own_last in
          let told : get_or v p 0 ≡ get_or v j 0 = ap (λ (q : ℕ). get_or v q 0) same in
          omega (arith, here, told, few)
      | inr other ↦ omega (arith, other_last p other, is.no_more p)
    ];
  }
