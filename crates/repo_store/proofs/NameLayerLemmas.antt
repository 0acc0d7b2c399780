-- What the layers of names have, and how they change.
use Rattle.std.proofs.Common.{◌≡◌, ℕ, ◌<◌, ◌≤◌, ◌==◌, inl, inr, Bool, true, false, cond, not, List, [], ◌∷◌, ◌++◌}
use Rattle.std.proofs.Common.{Option, Some, None, Result, Ok, Err, append_assoc, refl, sym, ap, subst, ◌∙◌, arith}
use Rattle.std.specs.Prelude.{◌&&◌, ◌||◌, max, OnOk, OnErr}
use Rattle.std.specs.List.{filter}
use Rattle.std.proofs.lemmas.Bool.{true≢false}
use Rattle.std.proofs.lemmas.Bool.Decides.{nat_tests}
use Rattle.std.proofs.lemmas.List.{append-nil}
use Rattle.sorted_lists.specs.SortedList.{Rises, keys, contains, value_of}
use Rattle.sorted_lists.specs.Members.{In, HaveSame}
use Rattle.sorted_lists.proofs.Sets.{in_filter, append_left, append_right, in_map, contains_in, contains-filter}
use Rattle.sorted_lists.proofs.Sets.{keys-filter, rises_filter, in_append}
use Rattle.sorted_lists.proofs.Lookups.{there_value, value_there}
use Rattle.sorted_lists.proofs.Members.{in_filtered, same_itself, same_is, same_then, same_append}
use Rattle.sorted_lists.proofs.Members.{same_last}
use Rattle.sorted_lists.proofs.Climbs.{climbs_same, climbs_filter}
use Rattle.repo_plan.specs.declared.part.Part.{Part}
use Rattle.repo_plan.specs.Parts.{Pair, part_cmp}
use Rattle.repo_plan.specs.Plan.{is_in}
use Rattle.repo_plan.proofs.Orders.{exact_parts}
use Rattle.repo_store.specs.declared.names.Names.{Names}
use Rattle.repo_store.specs.StoreList.{is_in_any}
use Rattle.repo_store.specs.PacketTable.{Slots, at, Stored, PacketTableState}
use Rattle.repo_store.specs.Slots.{held_outside_all}
use Rattle.repo_store.specs.Indexes.{name_of, Key, key_cmp, key_in, AreInOrder, GainsOne}
use Rattle.repo_store.specs.NameLayers.{all_of, LayersAreInOrder, HasRoom, HasSame, IsMerged, IsIndexOf, is_left}
use Rattle.repo_store.specs.NameLayers.{is_slot, is_stored, WaitsStill, taken_out, left_unless}
use Rattle.repo_store.proofs.IndexLemmas.{exact_keys}

-- ---- what the layers have

pub settled_same : (slots : Slots) (settled recent waiting merged after left : List Stored)
    → IsMerged slots settled recent merged → after ≡ merged → left ≡ []
    → HaveSame (after ++ (left ++ waiting)) (settled ++ (recent ++ waiting))
settled_same slots settled recent waiting merged after left m is none =
    rw is (rw none (same_then (same_append m.same (same_itself waiting))
    (same_is ((settled ++ recent) ++ waiting) (settled ++ (recent ++ waiting))
    (append_assoc settled recent waiting))))

-- the waiting entries become recent
pub placed_same : (settled recent waiting sorted more left : List Stored) → HaveSame sorted waiting
    → HaveSame more (recent ++ sorted) → left ≡ []
    → HaveSame (settled ++ (more ++ left)) (settled ++ (recent ++ waiting))
placed_same settled recent waiting sorted more left moved same none =
    same_append (same_itself settled) (rw none (same_then (same_is (more ++ []) more (append-nil more))
    (same_then same (same_append (same_itself recent) moved))))

-- one more entry waits, and so the layers have one more
pub waits_too : (settled recent waiting : List Stored) (h : Stored)
    → GainsOne h (settled ++ (recent ++ waiting)) (settled ++ (recent ++ (waiting ++ h ∷ [])))
waits_too settled recent waiting h =
    same_then (same_is (settled ++ (recent ++ (waiting ++ h ∷ []))) ((settled ++ (recent ++ waiting)) ++ h ∷ [])
    (ap (λ (xs : List Stored). settled ++ xs) (sym (append_assoc recent waiting (h ∷ [])))
    ∙ sym (append_assoc settled (recent ++ waiting) (h ∷ []))))
    (same_last (settled ++ (recent ++ waiting)) h)

-- room for `m` entries is room for `n`, if `n` is not more
pub fewer_room : (l : Names) (n m : ℕ) → n ≤ m → HasRoom l m → HasRoom l n
fewer_room l n m le room = record {
  waiting = omega (arith, le, room.waiting);
  recent = omega (arith, le, room.recent);
  settled = omega (arith, le, room.settled);
}

-- what is in order stays so where its packets stay
order_same : (old new : Slots) (held : List Stored) → ((h : Stored) → In h held → at new h.1 ≡ at old h.1)
    → AreInOrder old held → AreInOrder new held
order_same old new held same climbs =
    climbs_same key_cmp (key_in old) (key_in new) held
    (λ h i. ap (λ (o : Option (List ℕ)). let k : Key = (name_of o, h.0) in k) (sym (same h i))) climbs

-- ---- the names of what is held

pub index_none : (slots : Slots) (l : Names) → l.settled.items ≡ [] → l.recent.items ≡ [] → IsIndexOf slots [] l
index_none slots l settled recent = record {
  rises = tt;
  in_order = record {
    settled = subst (AreInOrder slots) (sym settled) tt;
    recent = subst (AreInOrder slots) (sym recent) tt;
  };
  settled = λ h i. subst (In h) settled i;
  recent = λ h i. subst (In h) recent i;
  all = λ h i. absurd i;
}

-- layers that have what is held, and nothing else
pub index_same : (slots : Slots) (held : List Stored) (l : Names) → Rises part_cmp (keys held)
    → LayersAreInOrder slots l → HaveSame (all_of l) held → IsIndexOf slots held l
index_same slots held l rises in_order same =
    let settled = l.settled.items in
    let recent = l.recent.items in
    let waiting = l.waiting.items in
    record {
      rises = rises;
      in_order = in_order;
      settled = λ h i. same.there h (append_left settled (recent ++ waiting) h i);
      recent = λ h i. same.there h (append_right settled (recent ++ waiting) h (append_left recent waiting h i));
      all = same.back;
    }

pub index_kept : (slots : Slots) (held : List Stored) (index moved : Names) → HasSame index moved
    → IsIndexOf slots held index → IsIndexOf slots held moved
index_kept slots held index moved same indexed = record {
  rises = indexed.rises;
  in_order = record {
    settled = subst (AreInOrder slots) (sym same.settled) indexed.in_order.settled;
    recent = subst (AreInOrder slots) (sym same.recent) indexed.in_order.recent;
  };
  settled = λ h i. indexed.settled h (subst (In h) same.settled i);
  recent = λ h i. indexed.recent h (subst (In h) same.recent i);
  all = λ h i.
      subst (In h) (sym (λ j. same.settled j ++ (same.recent j ++ same.waiting j))) (indexed.all h i);
}

-- ---- what is kept

is_this_slot : (slot other : ℕ) → (other == slot) ≡ true → other ≡ slot
is_this_slot slot other e = grind (arith, nat_tests, e)

its_own_slot : (slot : ℕ) → (slot == slot) ≡ true
its_own_slot slot = grind (arith, nat_tests)

pub kept_held : (held : List Stored) (h : Stored) → is_stored held h ≡ true → In h held
kept_held held h e = go (value_of part_cmp held h.0) refl e where
  go : (o : Option ℕ) → value_of part_cmp held h.0 ≡ o → is_slot h.1 o ≡ true → In h held
  go None s t = absurd (true≢false (sym t))
  go (Some other) s t =
      subst (λ (n : ℕ). In (h.0, n) held) (is_this_slot h.1 other t) (there_value exact_parts held h.0 other s)

pub held_kept : (held : List Stored) (h : Stored) → Rises part_cmp (keys held) → In h held → is_stored held h ≡ true
held_kept held h rises i = ap (is_slot h.1) (value_there exact_parts held h rises i) ∙ its_own_slot h.1

-- the layers have just the held entries, once waiting entries that are held no more were removed
pub index_looked_through : (slots : Slots) (held : List Stored) (index after : Names) → IsIndexOf slots held index
    → after.settled.items ≡ index.settled.items → after.recent.items ≡ index.recent.items
    → after.waiting.items ≡ filter (is_stored held) index.waiting.items → HaveSame (all_of after) held
index_looked_through slots held index after indexed settled_is recent_is waiting_is = same_then
    (same_is (all_of after) (settled ++ (recent ++ waits)) (λ j. settled_is j ++ (recent_is j ++ waiting_is j)))
    (record {
      there = λ h i. elim (in_append settled (recent ++ waits) h i) [
        | inl s ↦ indexed.settled h s
        | inr b ↦ elim (in_append recent waits h b) [
          | inl r ↦ indexed.recent h r
          | inr w ↦ kept_held held h (in_filtered (is_stored held) waiting h w).1
        ]
      ];
      back = λ h i. elim (in_append settled (recent ++ waiting) h (indexed.all h i)) [
        | inl s ↦ append_left settled (recent ++ waits) h s
        | inr b ↦
            append_right settled (recent ++ waits) h (elim (in_append recent waiting h b) [
              | inl r ↦ append_left recent waits h r
              | inr w ↦
                  append_right recent waits h
                  (in_filter (is_stored held) waiting h w (held_kept held h indexed.rises i))
            ])
      ];
    })
  where
    settled : List Stored
    settled = index.settled.items

    recent : List Stored
    recent = index.recent.items

    waiting : List Stored
    waiting = index.waiting.items

    waits : List Stored
    waits = filter (is_stored held) waiting

-- whether a part that was held still is, however that is found out
looked_up : (pairs : List Pair) (held : List Stored) (h : Stored) → In h held
    → contains part_cmp (keys (held_outside_all pairs held)) h.0 ≡ not (is_in_any pairs h.0)
looked_up pairs held h i =
    ap (λ (ts : List Part). contains part_cmp ts h.0) (keys-filter exact_parts out held)
    ∙ contains-filter exact_parts out (keys held) h.0
    ∙ ap (λ (b : Bool). out h.0 && b)
    (contains_in exact_parts (keys held) h.0 (in_map (λ (x : Stored). x.0) held h i))
    ∙ and_true (out h.0)
  where
    out : Part → Bool
    out t = not (is_in_any pairs t)

    and_true : (b : Bool) → (b && true) ≡ b
    and_true true = refl
    and_true false = refl

left_outside : (pairs : List Pair) (held : List Stored) (h : Stored) → In h held
    → is_left pairs (held_outside_all pairs held) h.0 ≡ not (is_in_any pairs h.0)
left_outside [] held h i = looked_up [] held h i
left_outside (pair ∷ []) held h i = go (is_in pair h.0) where
  go : (b : Bool) → not b ≡ not (b || false)
  go true = refl
  go false = refl
left_outside (pair ∷ other ∷ pairs) held h i = looked_up (pair ∷ other ∷ pairs) held h i

filter_within : (p q : Stored → Bool) (xs : List Stored) → ((h : Stored) → In h xs → p h ≡ q h)
    → filter p xs ≡ filter q xs
filter_within p q [] agree = refl
filter_within p q (x ∷ xs) agree =
    let rest : filter p xs ≡ filter q xs = filter_within p q xs (λ h i. agree h (inr i)) in
    λ j. cond (agree x (inl refl) j) (x ∷ rest j) (rest j)

-- what is taken out before is what goes otherwise
pub left_either : (pairs : List Pair) (held : List Stored) (taken : Bool) (xs : List Stored)
    → ((h : Stored) → In h xs → In h held)
    → left_unless taken pairs (held_outside_all pairs held) (taken_out taken pairs xs) ≡ held_outside_all pairs xs
left_either pairs held true xs among = refl
left_either pairs held false xs among =
    filter_within (λ (h : Stored). is_left pairs (held_outside_all pairs held) h.0)
    (λ (h : Stored). not (is_in_any pairs h.0)) xs (λ h i. left_outside pairs held h (among h i))

module _ (old new : Slots) (held : List Stored) (index : Names) (indexed : IsIndexOf old held index) where
  abbrev settled : List Stored
  settled = index.settled.items

  abbrev recent : List Stored
  recent = index.recent.items

  abbrev waiting : List Stored
  waiting = index.waiting.items

  -- one more entry is held, and waits
  pub index_more : (more : List Stored) (after : Names) (h : Stored)
      → ((o : Stored) → In o held → at new o.1 ≡ at old o.1)
      → Rises part_cmp (keys more) → after.settled.items ≡ settled → after.recent.items ≡ recent
      → GainsOne h held more → GainsOne h (all_of index) (all_of after) → IsIndexOf new more after
  index_more more after h same rises settled_is recent_is gains gained = record {
    rises = rises;
    in_order = record {
      settled =
          subst (AreInOrder new) (sym settled_is)
          (order_same old new settled (λ o i. same o (indexed.settled o i)) indexed.in_order.settled);
      recent =
          subst (AreInOrder new) (sym recent_is)
          (order_same old new recent (λ o i. same o (indexed.recent o i)) indexed.in_order.recent);
    };
    settled = λ o i. gains.back o (inr (indexed.settled o (subst (In o) settled_is i)));
    recent = λ o i. gains.back o (inr (indexed.recent o (subst (In o) recent_is i)));
    all = λ o i. gained.back o (elim (gains.there o i) [
      | inl e ↦ inl e
      | inr j ↦ inr (indexed.all o j)
    ]);
  }

  -- ---- what is left

  module _ (pairs : List Pair) (same : (h : Stored) → In h (held_outside_all pairs held)
      → at new h.1 ≡ at old h.1) where
    abbrev left : List Stored
    left = held_outside_all pairs held

    abbrev out : Stored → Bool
    out h = not (is_in_any pairs h.0)

    stays_held : (xs : List Stored) → ((h : Stored) → In h xs → In h held) → (h : Stored)
        → In h (held_outside_all pairs xs)
        → In h left
    stays_held xs among h i =
        let both = in_filtered out xs h i in
        in_filter out held h (among h both.0) both.1

    layer_left : (xs after : List Stored) → ((h : Stored) → In h xs → In h held) → after ≡ held_outside_all pairs xs
        → AreInOrder old xs → AreInOrder new after
    layer_left xs after among is climbs =
        subst (AreInOrder new) (sym is)
        (order_same old new (held_outside_all pairs xs) (λ h i. same h (stays_held xs among h i))
        (climbs_filter exact_keys (key_in old) out xs climbs))

    left_stays : (xs : List Stored) (h : Stored) → In h left → In h xs → In h (held_outside_all pairs xs)
    left_stays xs h i j = in_filter out xs h j (in_filtered out held h i).1

    left_rises : Rises part_cmp (keys left)
    left_rises =
        subst (Rises part_cmp) (sym (keys-filter exact_parts (λ t. not (is_in_any pairs t)) held))
        (rises_filter exact_parts.total (λ t. not (is_in_any pairs t)) (keys held) indexed.rises)

    pub index_left : (after : Names) → after.settled.items ≡ held_outside_all pairs settled
        → after.recent.items ≡ held_outside_all pairs recent → WaitsStill left waiting after.waiting.items
        → IsIndexOf new left after
    index_left after settled_is recent_is waits = record {
      rises = left_rises;
      in_order = record {
        settled = layer_left settled after.settled.items indexed.settled settled_is indexed.in_order.settled;
        recent = layer_left recent after.recent.items indexed.recent recent_is indexed.in_order.recent;
      };
      settled = λ h i. stays_held settled indexed.settled h (subst (In h) settled_is i);
      recent = λ h i. stays_held recent indexed.recent h (subst (In h) recent_is i);
      all = λ h i.
          elim (in_append settled (recent ++ waiting) h (indexed.all h (in_filtered out held h i).0)) [
            | inl s ↦
                append_left after.settled.items (after.recent.items ++ after.waiting.items) h
                (subst (In h) (sym settled_is) (left_stays settled h i s))
            | inr b ↦
                append_right after.settled.items (after.recent.items ++ after.waiting.items) h
                (elim (in_append recent waiting h b) [
                  | inl r ↦
                      append_left after.recent.items after.waiting.items h
                      (subst (In h) (sym recent_is) (left_stays recent h i r))
                  | inr w ↦
                      append_right after.recent.items after.waiting.items h
                      (waits h w (held_kept left h left_rises i))
                ])
          ];
    }

-- room is made in both, or in the names alone
pub reserved : {E : Type 0} (old new : PacketTableState) (names after : Names) (n : ℕ) (r : Result (Unit {0}) E)
    → OnOk r (new ≡ record old { spare = max old.spare n }) → OnErr r (new ≡ old) → old.spare < n
    → HasSame names after → HasRoom after old.spare → HasRoom after n → IsIndexOf old.slots old.held names
    → IsIndexOf new.slots new.held after × HasRoom after new.spare
reserved old new names after n (Ok x) ok err low same before room index =
    let more : PacketTableState = record old { spare = max old.spare n } in (
      subst (λ (k : PacketTableState). IsIndexOf k.slots k.held after) (sym ok)
          (index_kept old.slots old.held names after same index),
      subst (λ (k : PacketTableState). HasRoom after k.spare) (sym ok)
          (fewer_room after (max old.spare n) n (omega arith) room),
    )
reserved old new names after n (Err e) ok err low same before room index = (
  subst (λ (k : PacketTableState). IsIndexOf k.slots k.held after) (sym err)
      (index_kept old.slots old.held names after same index),
  subst (λ (k : PacketTableState). HasRoom after k.spare) (sym err) before,
)
