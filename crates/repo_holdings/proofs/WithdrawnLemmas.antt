-- Which publications stored records withdraw, where a record was stored, was dropped, or stayed.
use Rattle.std.proofs.Common.{◌≡◌, ℕ, Bool, true, false, cond, not, ◌||◌, List, [], ◌∷◌, refl, sym, ap, ◌∙◌, Option}
use Rattle.std.proofs.Common.{Some}
use Rattle.std.proofs.Common.{None, is_some, option_map}
use Rattle.std.specs.Prelude.{filter}
use Rattle.std.specs.List.{list_any}
use Rattle.std.specs.Option.{option_and_then}
use Rattle.std.specs.Ordering.{eq_by_cmp, is_eq}
use Rattle.std.specs.declared.cmp.Ordering.{Ordering}
use Rattle.std.specs.declared.cmp.Ordering.TheVariants.{Less, Equal, Greater}
use Rattle.sorted_lists.specs.SortedList.{by_order, keys, Rises, value_of, with_value}
use Rattle.sorted_lists.proofs.Sets.{eq_same, eq_itself, rises_with_value, value_of-with_value, rises_keys_filter}
use Rattle.sorted_lists.proofs.Sets.{value_of-filter, eq_turned, or_swap}
use Rattle.repo_plan.specs.Parts.{Pair, pair_cmp, part_cmp}
use Rattle.repo_plan.proofs.Orders.{exact_pairs}
use Rattle.repo_object.specs.Publication.{RecordSays}
use Rattle.repo_object.specs.Publication.RecordSays.{Lists, WithdrawsNumber}
use Rattle.repo_object.specs.Verdict.{stated_in}
use Rattle.repo_holdings.specs.declared.record_summary.RecordSummary.{RecordSummary}
use Rattle.repo_holdings.specs.Records.{Packet, records_in}
use Rattle.repo_holdings.specs.Listed.{stored_at, withdrawn_by, is_that, withdraws, is_withdrawn, is_withdrawal}
use Rattle.repo_holdings.specs.Gaining.{summary_of}
use Rattle.repo_holdings.specs.Changing.{withdraws_too}
use Rattle.repo_holdings.proofs.SortedMaps.{absent, same_map}
use Rattle.repo_holdings.proofs.RecordLemmas.{rises_records, value_of-records}

abbrev Record : Type 0
Record = Pair × List ℕ

any_with : (p : Record → Bool) (k : Pair) (v : List ℕ) (es : List Record) → value_of pair_cmp es k ≡ None
    → list_any p (with_value pair_cmp k v es) ≡ (p (k, v) || list_any p es)
any_with p k v [] none = refl
any_with p k v (x ∷ es) none = go (λ h. any_with p k v es h) (pair_cmp k x.0) refl where
  no_value : let n : Option (List ℕ) = None in Some x.1 ≡ n → ⊥
  no_value h = cc

  go : (value_of pair_cmp es k ≡ None → list_any p (with_value pair_cmp k v es) ≡ (p (k, v) || list_any p es))
      → (o : Ordering) → pair_cmp k x.0 ≡ o
      → list_any p (by_order o ((k, v) ∷ x ∷ es) ((k, v) ∷ es) (x ∷ with_value pair_cmp k v es))
      ≡ (p (k, v) || list_any p (x ∷ es))
  go h Less e = refl
  go h Equal e =
      absurd (no_value (sym (ap (λ (o : Ordering). cond (is_eq o) (Some x.1) (value_of pair_cmp es k)) e) ∙ none))
  go h Greater e =
      let later : value_of pair_cmp es k ≡ None =
      sym (ap (λ (o : Ordering). cond (is_eq o) (Some x.1) (value_of pair_cmp es k)) e) ∙ none in
      ap (λ (b : Bool). p x || b) (h later) ∙ or_swap (p x) (p (k, v)) (list_any p es)

any_without : (p : Record → Bool) (k : Pair) (es : List Record) → Rises pair_cmp (keys es)
    → ((v : List ℕ) → value_of pair_cmp es k ≡ Some v → p (k, v) ≡ false)
    → list_any p (filter (λ e. not (eq_by_cmp pair_cmp k e.0)) es) ≡ list_any p es
any_without p k [] r h = refl
any_without p k (x ∷ es) r h = go (λ q. any_without p k es r.1 q) (eq_by_cmp pair_cmp k x.0) refl where
  none_some : (v : List ℕ) → let n : Option (List ℕ) = None in n ≡ Some v → ⊥
  none_some v e = cc

  go : (((v : List ℕ) → value_of pair_cmp es k ≡ Some v → p (k, v) ≡ false)
      → list_any p (filter (λ e. not (eq_by_cmp pair_cmp k e.0)) es) ≡ list_any p es)
      → (b : Bool) → eq_by_cmp pair_cmp k x.0 ≡ b
      → list_any p (filter (λ e. not (eq_by_cmp pair_cmp k e.0)) (x ∷ es)) ≡ list_any p (x ∷ es)
  go rest true e =
      let same : k ≡ x.0 = eq_same exact_pairs k x.0 e in
      let gone : value_of pair_cmp es k ≡ None = ap (value_of pair_cmp es) same ∙ absent exact_pairs x.0 es r.0 in
      let no : p x ≡ false =
      ap (λ (q : Pair). p (q, x.1)) (sym same)
      ∙ h x.1 (ap (λ (b : Bool). cond b (Some x.1) (value_of pair_cmp es k)) e) in
      rw (e, no) (rest (λ v q. absurd (none_some v (sym gone ∙ q))))
  go rest false e =
      rw e (ap (λ (b : Bool). p x || b)
      (rest (λ v q. h v (ap (λ (b : Bool). cond b (Some x.1) (value_of pair_cmp es k)) e ∙ q))))

-- ---- the record of one publication changed

module _ (old new : List Packet) (pair : Pair) (old_order : Rises part_cmp (keys old))
    (new_order : Rises part_cmp (keys new))
    (others : (q : Pair) → eq_by_cmp pair_cmp q pair ≡ false → stored_at new q 0 ≡ stored_at old q 0) where
  records_are : (es : List Record) → Rises pair_cmp (keys es)
      → ((q : Pair) → eq_by_cmp pair_cmp q pair ≡ false
      → value_of pair_cmp es q ≡ value_of pair_cmp (records_in old) q)
      → value_of pair_cmp es pair ≡ stored_at new pair 0 → records_in new ≡ es
  records_are es r there here =
      same_map exact_pairs (records_in new) es (rises_records new new_order) r
      (λ q. go q (eq_by_cmp pair_cmp q pair) refl) where
        go : (q : Pair) (b : Bool) → eq_by_cmp pair_cmp q pair ≡ b
            → value_of pair_cmp (records_in new) q ≡ value_of pair_cmp es q
        go q true p =
            let is = eq_same exact_pairs q pair p in
            value_of-records new q ∙ ap (λ (k : Pair). stored_at new k 0) is ∙ sym here
            ∙ ap (value_of pair_cmp es) (sym is)
        go q false p = value_of-records new q ∙ others q p ∙ sym (value_of-records old q) ∙ sym (there q p)

  -- it stayed
  pub withdrawn_same : stored_at new pair 0 ≡ stored_at old pair 0 → (q : Pair)
      → is_withdrawn new q ≡ is_withdrawn old q
  withdrawn_same same q =
      ap (list_any (withdraws q))
      (records_are (records_in old) (rises_records old old_order) (λ k other. refl)
      (value_of-records old pair ∙ sym same))

  -- it came
  pub withdrawn_more : (octets : List ℕ) → stored_at old pair 0 ≡ None → stored_at new pair 0 ≡ Some octets
      → (q : Pair) → is_withdrawn new q ≡ (withdraws q (pair, octets) || is_withdrawn old q)
  withdrawn_more octets none some q =
      ap (list_any (withdraws q))
      (records_are (with_value pair_cmp pair octets (records_in old))
      (rises_with_value exact_pairs pair octets (records_in old) (rises_records old old_order))
      (λ k other. value_of-with_value exact_pairs pair octets (records_in old) k
      ∙ ap (λ (b : Bool). cond b (Some octets) (value_of pair_cmp (records_in old) k)) other)
      (value_of-with_value exact_pairs pair octets (records_in old) pair
      ∙ ap (λ (b : Bool). cond b (Some octets) (value_of pair_cmp (records_in old) pair)) (eq_itself exact_pairs pair)
      ∙ sym some))
      ∙ any_with (withdraws q) pair octets (records_in old) (value_of-records old pair ∙ none)

  -- it went, and was not that of a withdrawal
  pub withdrawn_less : stored_at new pair 0 ≡ None → is_withdrawal old pair ≡ false → (q : Pair)
      → is_withdrawn new q ≡ is_withdrawn old q
  withdrawn_less none object q =
      ap (list_any (withdraws q))
      (records_are (filter (λ e. not (eq_by_cmp pair_cmp pair e.0)) (records_in old))
      (rises_keys_filter exact_pairs (λ k. not (eq_by_cmp pair_cmp pair k)) (records_in old)
      (rises_records old old_order))
      (λ k other. value k ∙ ap (λ (b : Bool). cond (not b) (value_of pair_cmp (records_in old) k) None)
      (eq_turned exact_pairs pair k ∙ other))
      (value pair
      ∙ ap (λ (b : Bool). cond (not b) (value_of pair_cmp (records_in old) pair) None) (eq_itself exact_pairs pair)
      ∙ sym none))
      ∙ any_without (withdraws q) pair (records_in old) (rises_records old old_order)
      (λ v there. withdraws_none v (sym (value_of-records old pair) ∙ there)) where
        value : (k : Pair)
            → value_of pair_cmp (filter (λ e. not (eq_by_cmp pair_cmp pair e.0)) (records_in old)) k
            ≡ cond (not (eq_by_cmp pair_cmp pair k)) (value_of pair_cmp (records_in old) k) None
        value k = value_of-filter exact_pairs (λ (k : Pair). not (eq_by_cmp pair_cmp pair k)) (records_in old) k

        no_more : (o : Option Pair) → is_some o ≡ false → is_that q o ≡ false
        no_more None h = refl
        no_more (Some k) h = absurd cc

        withdraws_none : (v : List ℕ) → stored_at old pair 0 ≡ Some v → withdraws q (pair, v) ≡ false
        withdraws_none v there =
            no_more (option_and_then (withdrawn_by pair) (stated_in v))
            (ap (λ (o : Option (List ℕ)). is_some (option_and_then (withdrawn_by pair) (option_and_then stated_in o)))
            (sym there)
            ∙ object)

-- ---- as it is reported

-- the summary of a record withdraws what the record withdraws
pub withdraws_stated : (pair : Pair) (octets : List ℕ) (summary : RecordSummary)
    → option_map summary_of (stated_in octets) ≡ Some summary
    → (q : Pair) → withdraws q (pair, octets) ≡ withdraws_too pair (Some summary) q
withdraws_stated pair octets summary h q = go (stated_in octets) refl h where
  go : (o : Option RecordSays) → stated_in octets ≡ o → option_map summary_of o ≡ Some summary
      → is_that q (option_and_then (withdrawn_by pair) o) ≡ withdraws_too pair (Some summary) q
  go None p t = absurd cc
  go (Some (Lists l)) p t =
      let is : summary_of (Lists l) ≡ summary = cc in ap (λ (x : RecordSummary). withdraws_too pair (Some x) q) is
  go (Some (WithdrawsNumber seq)) p t =
      let is : summary_of (WithdrawsNumber seq) ≡ summary = cc in
      ap (λ (x : RecordSummary). withdraws_too pair (Some x) q) is
