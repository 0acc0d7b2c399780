-- What a mirror lists.
use Rattle.std.proofs.Common.{◌≡◌, ℕ, Bool, true, false, not, ◌&&◌, refl, sym, ap, ◌∙◌, arith, is_some, unwrap_or, map}
use Rattle.std.specs.List.{list_all}
use Rattle.std.proofs.lemmas.Bool.{true≢false, and_parts, and_from}
use Rattle.std.specs.Cmp.{both_ways}
use Rattle.repo_plan.specs.declared.part.Part.{Part}
use Rattle.sorted_lists.specs.SortedList.{contains}
use Rattle.repo_plan.specs.Parts.{Pair, part_cmp, pair_of, part_of}
use Rattle.sorted_lists.proofs.Sets.{In}
use Rattle.repo_plan.proofs.Whole.{all_in, each_all}
use Rattle.repo_object.specs.Objects.{Post, offered, withdraws_number}
use Rattle.repo_object.specs.Objects.Post.{Offers, Withdraws}
use Rattle.repo_watch.specs.declared.pattern.Pattern.{Pattern}
use Rattle.repo_watch.specs.Patterns.{accepts}
use Rattle.group_model.specs.Publications.{Logs, Publication, pair_in, no_object, parts_in, published, is_object}
use Rattle.group_model.specs.Publications.{object_in, withdraws, published_entry}
use Rattle.group_model.specs.Member.{member_holds, holds_all, knows_withdrawn, is_listed}
use Rattle.group_model.proofs.Lists.{same_filter, same_any}
use Rattle.group_model.proofs.Parts.{IsIn, in_published, from_parts_in, in_parts_in}
use Rattle.repo_mirror.specs.Asked.{is_for, is_post_for}
use Rattle.repo_mirror.specs.Mirrors.{Mirror, mirror_holds, as_member, IsSoundMirror, mirror_knows_withdrawn}
use Rattle.repo_mirror.specs.Mirrors.{is_listed_by_mirror}
use Rattle.repo_mirror.specs.MirrorLaws.{MirrorsList}
use Rattle.repo_mirror.proofs.Wants.{held_kept, kept_held}

-- ---- what is kept of what was published

pub kept_object : (pattern : Pattern) (p : ℕ) (o : Post) → is_some (offered o) ≡ true
    → is_post_for pattern p o ≡ accepts pattern p (unwrap_or (offered o) no_object).name
kept_object pattern p (Offers object) h = refl
kept_object pattern p (Withdraws seq) h = absurd (true≢false (sym h))

kept_withdrawal : (pattern : Pattern) (p n : ℕ) (o : Post) → withdraws_number o n ≡ true
    → is_post_for pattern p o ≡ true
kept_withdrawal pattern p n (Offers object) h = absurd (true≢false (sym h))
kept_withdrawal pattern p n (Withdraws seq) h = refl

module _ (pattern : Pattern) (ls : Logs) (m : Mirror) (sound : IsSoundMirror pattern ls m) where
  -- what is kept of a part of a publication
  pub kept_of : (q : Publication) → IsIn ls q → (t : Part) → pair_of t ≡ pair_in q
      → is_for pattern ls (pair_of t) ≡ is_post_for pattern q.publisher q.post
  kept_of q is t same = ap (is_for pattern ls) same ∙ ap (is_post_for pattern q.publisher) (sym is.post)

  holds_record : (pair : Pair) (q : Publication) → In q (published ls)
      → (withdraws pair q && member_holds (as_member pattern m) (part_of (pair_in q) 0))
      ≡ (withdraws pair q && mirror_holds m (part_of (pair_in q) 0))
  holds_record pair q i = go (withdraws pair q) refl where
    go : (b : Bool) → withdraws pair q ≡ b
        → (b && member_holds (as_member pattern m) (part_of (pair_in q) 0))
        ≡ (b && mirror_holds m (part_of (pair_in q) 0))
    go false w = refl
    go true w =
        let number : withdraws_number q.post pair.1 ≡ true = (and_parts _ (withdraws_number q.post pair.1) w).1 in
        let kept : is_for pattern ls (pair_in q) ≡ true =
        kept_of q (in_published ls q i) (part_of (pair_in q) 0) refl
        ∙ kept_withdrawal pattern q.publisher pair.1 q.post number in
        both_ways (member_holds (as_member pattern m) (part_of (pair_in q) 0)) (mirror_holds m (part_of (pair_in q) 0))
        (kept_held pattern ls m sound (part_of (pair_in q) 0))
        (held_kept pattern ls m sound (part_of (pair_in q) 0) kept)

  withdrawn : (pair : Pair)
      → knows_withdrawn (published ls) (as_member pattern m) pair ≡ mirror_knows_withdrawn pattern (published ls) m pair
  withdrawn pair =
      same_any (λ q. withdraws pair q && member_holds (as_member pattern m) (part_of (pair_in q) 0))
      (λ q. withdraws pair q && mirror_holds m (part_of (pair_in q) 0)) (published ls) (holds_record pair)

  module _ (q : Publication) (i : In q (published ls)) (object : is_object q ≡ true) where
    abbrev accepted : Bool
    accepted = accepts pattern q.publisher (object_in q).name

    asked_of : (t : Part) → In t (parts_in q) → is_for pattern ls (pair_of t) ≡ accepted
    asked_of t it =
        kept_of q (in_published ls q i) t (from_parts_in q t it).pair ∙ kept_object pattern q.publisher q.post object

    first : In (part_of (pair_in q) 0) (parts_in q)
    first = in_parts_in q (part_of (pair_in q) 0) (record { pair = refl; counted = omega arith })

    whole : holds_all (as_member pattern m) q ≡ (accepted && list_all (mirror_holds m) (parts_in q))
    whole =
        both_ways (holds_all (as_member pattern m) q) (accepted && list_all (mirror_holds m) (parts_in q))
        (λ h.
        let kept : (t : Part) → In t (parts_in q) → contains part_cmp m.kept t ≡ true =
        λ t it. each_all (member_holds (as_member pattern m)) (parts_in q) h t it in
        and_from accepted (list_all (mirror_holds m) (parts_in q))
        (sym (asked_of (part_of (pair_in q) 0) first)
        ∙ (sound.kept (part_of (pair_in q) 0) (kept (part_of (pair_in q) 0) first)).accepted)
        (all_in (mirror_holds m) (parts_in q) (λ t it. kept_held pattern ls m sound t (kept t it))))
        (λ h.
        let parts = and_parts accepted (list_all (mirror_holds m) (parts_in q)) h in
        all_in (member_holds (as_member pattern m)) (parts_in q) (λ t it.
        held_kept pattern ls m sound t (asked_of t it ∙ parts.0)
        (each_all (mirror_holds m) (parts_in q) parts.1 t it)))

  listed_so : (q : Publication) → In q (published ls)
      → is_listed (published ls) (as_member pattern m) q ≡ is_listed_by_mirror pattern (published ls) m q
  listed_so q i = go (is_object q) refl where
    grouped : (a b c : Bool) → ((a && b) && c) ≡ (a && (b && c))
    grouped true b c = refl
    grouped false b c = refl

    go : (b : Bool) → is_object q ≡ b
        → (b && (holds_all (as_member pattern m) q
        && not (knows_withdrawn (published ls) (as_member pattern m) (pair_in q))))
        ≡ ((b && accepts pattern q.publisher (object_in q).name)
        && (list_all (mirror_holds m) (parts_in q)
        && not (mirror_knows_withdrawn pattern (published ls) m (pair_in q))))
    go false o = refl
    go true o =
        ap (λ (b : Bool). holds_all (as_member pattern m) q && not b) (withdrawn (pair_in q))
        ∙ ap (λ (b : Bool). b && not (mirror_knows_withdrawn pattern (published ls) m (pair_in q))) (whole q i o)
        ∙ grouped (accepts pattern q.publisher (object_in q).name) (list_all (mirror_holds m) (parts_in q))
        (not (mirror_knows_withdrawn pattern (published ls) m (pair_in q)))

pub lists : MirrorsList
lists pattern ls m s =
    ap (map published_entry)
    (same_filter (is_listed (published ls) (as_member pattern m)) (is_listed_by_mirror pattern (published ls) m)
    (published ls) (listed_so pattern ls m s))
