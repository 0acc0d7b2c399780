-- A member that knows of all publications, hides nothing and wants nothing lists their join.
use Rattle.std.proofs.Common.{◌≡◌, inl, inr, ℕ, ◌≤◌, ◌<◌, Bool, true, false, not, ◌&&◌, List, [], map, length, get_or}
use Rattle.std.proofs.Common.{refl, sym, ap, ◌∙◌, subst, arith}
use Rattle.std.specs.Prelude.{filter}
use Rattle.std.proofs.lemmas.Bool.{true≢false, cases_eq, true_from_ne_false}
use Rattle.std.proofs.Math.Bool.{and-true}
use Rattle.repo_object.specs.Objects.{Post, shape_in, contents_of}
use Rattle.repo_plan.specs.declared.part.Part.{Part}
use Rattle.sorted_lists.specs.SortedList.{contains}
use Rattle.sorted_lists.proofs.Sets.{In}
use Rattle.repo_plan.specs.Parts.{Pair, part_cmp, pair_cmp, pair_of, part_of, record_of, parent, parent_number}
use Rattle.repo_plan.specs.Parts.{last_part}
use Rattle.repo_plan.specs.Plan.{wanted}
use Rattle.repo_plan.proofs.Known.{contains-wanted}
use Rattle.repo_plan.proofs.Whole.{each_all, all_in}
use Rattle.group_model.specs.Publications.{Logs, Publication, pair_in, parts_in, published, published_entry, last_of}
use Rattle.group_model.specs.Publications.{count, post_at, shape_at, is_object, withdraws, is_unwithdrawn}
use Rattle.group_model.specs.Member.{Member, plan_of, member_holds, has_deleted, holds_all, is_listed, knows_withdrawn}
use Rattle.group_model.specs.Sound.{IsKnown}
use Rattle.group_model.specs.OneMember.{KnowsAll, JoinsByItself}
use Rattle.group_model.proofs.Lists.{same_filter, same_any}
use Rattle.group_model.proofs.Parents.{parent_within, parent_of_parent}
use Rattle.group_model.proofs.Parts.{IsIn, in_range, in_published, IsPartOf, from_parts_in, in_parts_in}
use Rattle.group_model.proofs.Plans.{IsWanted, wanted_from}

-- ---- where all is held

-- what is listed is what is not withdrawn
pub listed_whole : (m : Member) (ps : List Publication) → ((q : Publication) → In q ps → holds_all m q ≡ true)
    → filter (is_listed ps m) ps ≡ filter (is_unwithdrawn ps) ps
listed_whole m ps each = same_filter (is_listed ps m) (is_unwithdrawn ps) ps (λ p i.
    ap (λ (b : Bool). is_object p && (b && not (knows_withdrawn ps m (pair_in p)))) (each p i)
    ∙ ap (λ (b : Bool). is_object p && not b)
    (same_any (λ q. withdraws (pair_in p) q && member_holds m (part_of (pair_in q) 0)) (withdraws (pair_in p)) ps
    (λ q k.
    ap (λ (b : Bool). withdraws (pair_in p) q && b)
    (each_all (member_holds m) (parts_in q) (each q k) (part_of (pair_in q) 0)
    (in_parts_in q (part_of (pair_in q) 0) (record { pair = refl; counted = omega arith })))
    ∙ and-true (withdraws (pair_in p) q))))

-- ---- where nothing is wanted

nothing_in : (xs : List Part) (x : Part) → xs ≡ [] → contains part_cmp xs x ≡ true → ⊥
nothing_in xs x e c = true≢false (sym c ∙ ap (λ (ys : List Part). contains part_cmp ys x) e)

module _ (logs : Logs) (m : Member) (received : KnowsAll logs m.known) (clear : m.hidden ≡ [])
    (nothing : wanted (plan_of logs m) ≡ []) where
  unwanted : (t : Part) → IsWanted logs m t → ⊥
  unwanted t want =
      nothing_in (wanted (plan_of logs m)) t nothing (contains-wanted (plan_of logs m) t ∙ wanted_from logs m t want)

  not_hidden : (pair : Pair) → has_deleted m pair ≡ false
  not_hidden pair = ap (λ (xs : List Pair). contains pair_cmp xs pair) clear

  module _ (q : Publication) (there : IsIn logs q) where
    known : (t : Part) → pair_of t ≡ pair_in q → IsKnown m.known (pair_of t)
    known t e =
        let within : q.publisher < length logs =
        in_range logs q.publisher q.seq there.there.from_one there.there.to_last in
        subst (IsKnown m.known) (sym e) (record {
          from_one = there.there.from_one;
          to_known =
              let a : last_of logs q.publisher ≤ get_or m.known q.publisher 0 = received q.publisher within in
              let b : q.seq ≤ last_of logs q.publisher = there.there.to_last in omega (arith, a, b);
        })

    counted : (t : Part) → IsPartOf t q → t.part ≤ count logs (pair_of t)
    counted t p =
        subst (λ (pair : Pair). t.part ≤ count logs pair) (sym p.pair)
        (subst (λ (o : Post). t.part ≤ last_part (shape_in o)) there.post p.counted)

    its_record : (t : Part) → IsPartOf t q → member_holds m (record_of t) ≡ true
    its_record t p =
        true_from_ne_false (member_holds m (record_of t))
        (λ no. unwanted (record_of t) (record {
          known = known (record_of t) p.pair;
          counted = omega arith;
          with_record = inl refl;
          not_held = no;
          not_hidden = not_hidden (pair_of t);
        }))

    -- a part is held where what lists it is
    when_listed : (t : Part) → IsPartOf t q → member_holds m (parent (shape_at logs (pair_of t)) t) ≡ true
        → member_holds m t ≡ true
    when_listed t p listed =
        true_from_ne_false (member_holds m t)
        (λ no. unwanted t (record {
          known = known t p.pair;
          counted = counted t p;
          with_record = inr (record { with_record = its_record t p; with_parent = listed });
          not_held = no;
          not_hidden = not_hidden (pair_of t);
        }))

    -- what lists a part is the record or an index packet, which the record lists
    its_parent : (t : Part) → IsPartOf t q → member_holds m (parent (shape_at logs (pair_of t)) t) ≡ true
    its_parent t p = elim (cases_eq (parent (shape_at logs (pair_of t)) t).part 0) [
      | inl e ↦ ap (λ (n : ℕ). member_holds m (part_of (pair_of t) n)) e ∙ its_record t p
      | inr e ↦ when_listed (parent (shape_at logs (pair_of t)) t) (record {
        pair = p.pair;
        counted =
            subst (λ (o : Post). parent_number (shape_in o) t.part ≤ last_part (shape_in q.post))
            (sym (ap (post_at logs) p.pair ∙ sym there.post))
            (parent_within (length (contents_of q.post)) t.part p.counted);
      })
          (ap (λ (n : ℕ). member_holds m (part_of (pair_of t) n))
          (parent_of_parent (length (contents_of (post_at logs (pair_of t)))) t.part (counted t p)) ∙ its_record t p)
    ]

    whole : holds_all m q ≡ true
    whole = all_in (member_holds m) (parts_in q) (λ t it.
        let p : IsPartOf t q = from_parts_in q t it in when_listed t p (its_parent t p))

pub joins_by_itself : JoinsByItself
joins_by_itself logs m received clear nothing =
    ap (map published_entry)
    (listed_whole m (published logs) (λ q i. whole logs m received clear nothing q (in_published logs q i)))
