-- What a member keeps as it hides publications.
use Rattle.std.proofs.Common.{◌≡◌, inl, inr, ℕ, ◌≤◌, true, false, not, List, [], ◌∷◌, get_or, refl, sym, ap, ◌∙◌, subst}
use Rattle.std.proofs.Common.{arith, Some, None}
use Rattle.std.proofs.lemmas.Bool.{true≢false, and_parts, and_from, or_cases, or_right, or_left, or_from, cases_Bool}
use Rattle.std.proofs.lemmas.Bool.{false_from_ne_true, not-true, not_from_false}
use Rattle.std.specs.Ordering.{eq_by_cmp}
use Rattle.repo_plan.specs.declared.part.Part.{Part}
use Rattle.repo_plan.specs.Parts.{Pair, pair_cmp, pair_of, part_of, record_of, parent, last_part}
use Rattle.repo_plan.specs.Plan.{is_in}
use Rattle.repo_plan.proofs.Orders.{exact_parts, exact_pairs}
use Rattle.sorted_lists.proofs.Sets.{In, eq_same, eq_itself, contains-insert_key, contains-filter, rises_insert}
use Rattle.sorted_lists.proofs.Sets.{rises_filter}
use Rattle.sorted_lists.proofs.Members.{in_filtered}
use Rattle.repo_plan.proofs.Whole.{each_all}
use Rattle.repo_object.specs.Objects.{Post, shape_in}
use Rattle.group_model.specs.Publications.{Logs, Publication, pair_in, parts_in, published, count, shape_at, is_object}
use Rattle.group_model.specs.Publications.{object_in}
use Rattle.group_model.specs.Commands.{is_equal_name}
use Rattle.group_model.specs.Member.{Member, member_holds, has_deleted, holds_all, catalogued, is_listed}
use Rattle.group_model.specs.Member.{catalogued_under, deletes_publication, deletes_all}
use Rattle.group_model.specs.Sound.{IsSoundMember, IsKnown, IsHeldSoundly, IsDeletedSoundly}
use Rattle.group_model.proofs.Parts.{IsIn, in_published, IsPartOf, in_parts_in}
use Rattle.group_model.proofs.Plans.{IsWanted, wanted_parts, wanted_from}

not_in : (pair : Pair) (t : Part) → (pair_of t ≡ pair → ⊥) → is_in pair t ≡ false
not_in pair t h = false_from_ne_true (is_in pair t) (λ e. h (sym (eq_same exact_pairs pair (pair_of t) e)))

itself_in : (pair : Pair) (t : Part) → pair_of t ≡ pair → is_in pair t ≡ true
itself_in pair t e = ap (eq_by_cmp pair_cmp pair) e ∙ eq_itself exact_pairs pair

-- a known publication that no fetcher claims a part of is hidden
module _ (ls : Logs) (j : ℕ) (pair : Pair) (m : Member) (known : IsKnown m.known pair)
    (free : (f : ℕ) (t : Part) → get_or m.claims f None ≡ Some t → pair_of t ≡ pair → ⊥)
    (s : IsSoundMember ls j m) where
  still : (t : Part) → member_holds (deletes_publication pair m) t ≡ true
      → (member_holds m t ≡ true) × (is_in pair t ≡ false)
  still t h =
      let r : (not (is_in pair t) ≡ true) × (member_holds m t ≡ true) =
      and_parts (not (is_in pair t)) (member_holds m t)
      (sym (contains-filter exact_parts (λ u. not (is_in pair u)) m.held t) ∙ h) in
      (r.1, not-true (is_in pair t) r.0)

  stays : (t : Part) → member_holds m t ≡ true → is_in pair t ≡ false
      → member_holds (deletes_publication pair m) t ≡ true
  stays t h o =
      contains-filter exact_parts (λ u. not (is_in pair u)) m.held t
      ∙ and_from (not (is_in pair t)) (member_holds m t) (not_from_false (is_in pair t) o) h

  hidden_too : (q : Pair) → has_deleted m q ≡ true → has_deleted (deletes_publication pair m) q ≡ true
  hidden_too q h =
      contains-insert_key exact_pairs pair m.hidden q ∙ or_right (eq_by_cmp pair_cmp q pair) (has_deleted m q) h

  pub sound_hides : IsSoundMember ls j (deletes_publication pair m)
  sound_hides = record {
    width = s.width;
    fetchers = s.fetchers;
    in_order = record {
      held = rises_filter exact_parts.total (λ t. not (is_in pair t)) m.held s.in_order.held;
      hidden = rises_insert exact_pairs.total pair m.hidden s.in_order.hidden;
      attempts = s.in_order.attempts;
      tried = s.in_order.tried;
    };
    known = s.known;
    own = s.own;
    heard = s.heard;
    apart = s.apart;
    held = λ t h.
        let o : (member_holds m t ≡ true) × (is_in pair t ≡ false) = still t h in
        let r : IsHeldSoundly ls m.known m.held t = s.held t o.0 in
        record {
          known = r.known;
          counted = r.counted;
          with_record = stays (record_of t) r.with_record o.1;
          with_parent = stays (parent (shape_at ls (pair_of t)) t) r.with_parent o.1;
        };
    hidden = λ q h. elim
        (or_cases (eq_by_cmp pair_cmp q pair) (has_deleted m q)
        (sym (contains-insert_key exact_pairs pair m.hidden q) ∙ h)) [
          | inl e ↦
              let same : q ≡ pair = eq_same exact_pairs q pair e in
              record {
                known = subst (IsKnown m.known) (sym same) known;
                none_held =
                    λ x. false_from_ne_true (member_holds (deletes_publication pair m) (part_of q x))
                    (λ yes. true≢false (sym (itself_in pair (part_of q x) same) ∙ (still (part_of q x) yes).1));
              }
          | inr b ↦ let r : IsDeletedSoundly m q = s.hidden q b in
              record {
                known = r.known;
                none_held =
                    λ x. false_from_ne_true (member_holds (deletes_publication pair m) (part_of q x))
                    (λ yes. true≢false (sym (still (part_of q x) yes).0 ∙ r.none_held x));
              }
        ];
    own_held = λ n p. elim (cases_Bool (eq_by_cmp pair_cmp (j, n) pair)) [
      | inl e ↦
          inl (contains-insert_key exact_pairs pair m.hidden (j, n)
          ∙ or_left (eq_by_cmp pair_cmp (j, n) pair) (has_deleted m (j, n)) e)
      | inr d ↦ elim (s.own_held n p) [
        | inl h ↦ inl (hidden_too (j, n) h)
        | inr f ↦
            inr (λ x le. stays (part_of (j, n) x) (f x le)
            (not_in pair (part_of (j, n) x)
            (λ e.
            true≢false (sym (eq_itself exact_pairs (j, n)) ∙ ap (λ (q : Pair). eq_by_cmp pair_cmp (j, n) q) e ∙ d))))
      ]
    ];
    claimed = λ f t e.
        let w : IsWanted ls m t = wanted_parts ls m t (s.claimed f t e) in
        let other : is_in pair t ≡ false = not_in pair t (free f t e) in
        wanted_from ls (deletes_publication pair m) t (record {
          known = w.known;
          counted = w.counted;
          with_record = elim w.with_record [
            | inl z ↦ inl z
            | inr r ↦ inr (record {
              with_record = stays (record_of t) r.with_record other;
              with_parent = stays (parent (shape_at ls (pair_of t)) t) r.with_parent other;
            })
          ];
          not_held =
              false_from_ne_true (member_holds (deletes_publication pair m) t)
              (λ yes. true≢false (sym (still t yes).0 ∙ w.not_held));
          not_hidden = contains-insert_key exact_pairs pair m.hidden (pair_of t)
              ∙ or_from (eq_by_cmp pair_cmp (pair_of t) pair) (has_deleted m (pair_of t))
              (false_from_ne_true (eq_by_cmp pair_cmp (pair_of t) pair)
              (λ e2. free f t e (eq_same exact_pairs (pair_of t) pair e2))) w.not_hidden;
        });
  }

-- publications that may be hidden
abbrev CanHide : Member → Pair → Type 0
CanHide m pair = IsKnown m.known pair × ((f : ℕ) (t : Part) → get_or m.claims f None ≡ Some t → pair_of t ≡ pair → ⊥)

sound_deletes_all : (ls : Logs) (j : ℕ) (ps : List Publication) (m : Member)
    → ((p : Publication) → In p ps → CanHide m (pair_in p)) → IsSoundMember ls j m
    → IsSoundMember ls j (deletes_all ps m)
sound_deletes_all ls j [] m each s = s
sound_deletes_all ls j (p ∷ ps) m each s =
    let h : CanHide m (pair_in p) = each p (inl refl) in
    sound_deletes_all ls j ps (deletes_publication (pair_in p) m) (λ q i. each q (inr i))
    (sound_hides ls j (pair_in p) m h.0 h.1 s)

pub same_log_deletes : (ps : List Publication) (m : Member) → (deletes_all ps m).log ≡ m.log
same_log_deletes [] m = refl
same_log_deletes (p ∷ ps) m = same_log_deletes ps (deletes_publication (pair_in p) m)

-- the catalogued publications of a name are hidden
pub sound_deletes : (ls : Logs) (j : ℕ) (name : List (ℕ × List ℕ)) (m : Member) → IsSoundMember ls j m
    → IsSoundMember ls j (deletes_all (catalogued_under ls m name) m)
sound_deletes ls j name m s = sound_deletes_all ls j (catalogued_under ls m name) m (λ p i.
    let f : In p (catalogued ls m) × (is_equal_name (object_in p).name name ≡ true) =
    in_filtered (λ q. is_equal_name (object_in q).name name) (catalogued ls m) p i in
    let g : In p (published ls) × (is_listed (published ls) m p ≡ true) =
    in_filtered (is_listed (published ls) m) (published ls) p f.0 in
    let there : IsIn ls p = in_published ls p g.0 in
    let all_held : holds_all m p ≡ true = (and_parts (holds_all m p) _ (and_parts (is_object p) _ g.1).1).0 in
    let held : (t : Part) → IsPartOf t p → member_holds m t ≡ true =
    λ t h. each_all (member_holds m) (parts_in p) all_held t (in_parts_in p t h) in
    let first : IsHeldSoundly ls m.known m.held (part_of (pair_in p) 0) =
    s.held (part_of (pair_in p) 0) (held (part_of (pair_in p) 0) (record { pair = refl; counted = omega arith })) in (
      first.known,
      λ f t e same.
          let w : IsWanted ls m t = wanted_parts ls m t (s.claimed f t e) in
          true≢false
          (sym (held t (record {
            pair = same;
            counted =
                subst (λ (o : Post). t.part ≤ last_part (shape_in o)) (sym there.post)
                (subst (λ (q : Pair). t.part ≤ count ls q) same w.counted);
          }))
          ∙ w.not_held),
    )
    ) s
