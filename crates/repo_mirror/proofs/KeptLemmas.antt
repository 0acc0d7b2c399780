-- What holds of each packet that a mirror stores, once it took the results of a fetch.
use Rattle.std.proofs.Common.{◌≡◌, ◌⊎◌, inl, inr, ℕ, Bool, true, false, cond, List, [], ◌∷◌, Option, Some}
use Rattle.std.proofs.Common.{None, option_map, unwrap_or, refl, sym, ap, subst}
use Rattle.std.specs.Prelude.{IfSome}
use Rattle.std.specs.List.{All}
use Rattle.std.specs.declared.cmp.Ordering.{Ordering}
use Rattle.std.specs.declared.cmp.Ordering.TheVariants.{Less, Equal, Greater}
use Rattle.std.proofs.lemmas.List.Elements.{All-head, All-tail}
use Rattle.repo_plan.specs.declared.part.Part.{Part}
use Rattle.repo_plan.specs.Parts.{part_cmp}
use Rattle.repo_plan.specs.Plan.{is_wanted}
use Rattle.sorted_lists.specs.SortedList.{by_order, contains, keys, with_value}
use Rattle.sorted_lists.proofs.Sets.{In}
use Rattle.sorted_lists.proofs.Members.{all_in, in_all, in_filtered}
use Rattle.repo_object.specs.declared.job.Job.{Job}
use Rattle.repo_object.specs.Wants.{WantedPart}
use Rattle.repo_object.specs.Verdict.{CheckedPart, IsChecked}
use Rattle.repo_holdings.specs.Records.{Packet}
use Rattle.repo_holdings.specs.Taking.{Fetched, with_fetched, with_all_fetched}
use Rattle.repo_member.specs.Outcomes.{outcome_of}
use Rattle.repo_watch.specs.declared.pattern.Pattern.{Pattern}
use Rattle.repo_mirror.specs.MirrorState.{MirrorState, fetch_plan}
use Rattle.repo_mirror.specs.Passing.{is_packet_for, is_fetch_for, fetches_for}
use Rattle.repo_mirror.specs.PacketsFor.{PassedFor, IsCheckedFetch, IsPacketFor, ArePacketsFor}
use Rattle.repo_mirror.specs.MirrorOutcomes.{AreFetchedFor}

-- ---- what holds of each packet that was stored or received holds of each that is stored then

put_or_there : (t : Part) (octets : List ℕ) (es : List Packet) (e : Packet) → In e (with_value part_cmp t octets es)
    → (e ≡ (t, octets)) ⊎ In e es
put_or_there t octets [] e (inl s) = inl s
put_or_there t octets [] e (inr i) = absurd i
put_or_there t octets (x ∷ xs) e i = go (put_or_there t octets xs e) (part_cmp t x.0) i where
  go : (In e (with_value part_cmp t octets xs) → (e ≡ (t, octets)) ⊎ In e xs) → (o : Ordering)
      → In e (by_order o ((t, octets) ∷ x ∷ xs) ((t, octets) ∷ xs) (x ∷ with_value part_cmp t octets xs))
      → (e ≡ (t, octets)) ⊎ In e (x ∷ xs)
  go later Less (inl s) = inl s
  go later Less (inr j) = inr j
  go later Equal (inl s) = inl s
  go later Equal (inr j) = inr (inr j)
  go later Greater (inl s) = inr (inl s)
  go later Greater (inr j) = elim (later j) [ inl s ↦ inl s | inr k ↦ inr (inr k) ]

module _ (P : Packet → Type 0) where
  each_put : (t : Part) (octets : List ℕ) (es : List Packet) → P (t, octets) → ((e : Packet) → In e es → P e)
      → (e : Packet) → In e (with_fetched t (Some octets) es) → P e
  each_put t octets es p each e i = go (contains part_cmp (keys es) t) i where
    go : (b : Bool) → In e (cond b es (with_value part_cmp t octets es)) → P e
    go true j = each e j
    go false j = elim (put_or_there t octets es e j) [ inl s ↦ subst P (sym s) p | inr k ↦ each e k ]

  each_fetched : (xs : List Fetched) (es : List Packet)
      → ((x : Fetched) → In x xs → IfSome x.packet (λ octets. P (x.part, octets))) → ((e : Packet) → In e es → P e)
      → (e : Packet) → In e (with_all_fetched xs es) → P e
  each_fetched [] es came each = each
  each_fetched (x ∷ xs) es came each =
      each_fetched xs (with_fetched x.part x.packet es) (λ y i. came y (inr i)) (one x.packet (came x (inl refl))) where
        one : (o : Option (List ℕ)) → IfSome o (λ octets. P (x.part, octets))
            → (e : Packet) → In e (with_fetched x.part o es) → P e
        one None h = each
        one (Some octets) h = each_put x.part octets es h each

kept_came : (pattern : Pattern) (x : Fetched) → IsCheckedFetch x → is_fetch_for pattern x ≡ true
    → IfSome x.packet (λ octets. IsPacketFor pattern (x.part, octets))
kept_came pattern x checked kept = go x.packet checked kept where
  go : (o : Option (List ℕ)) → IfSome o (PassedFor x.part)
      → unwrap_or (option_map (is_packet_for pattern x.part) o) true ≡ true
      → IfSome o (λ octets. IsPacketFor pattern (x.part, octets))
  go None h k = tt
  go (Some octets) h k = record { checks = h; kept = k }

-- each stored packet is one of `IsPacketFor` after the kept results are stored
pub kept_packets : (pattern : Pattern) (xs : List Fetched) (store : List Packet)
    → All IsCheckedFetch (fetches_for pattern xs) → ArePacketsFor pattern store
    → ArePacketsFor pattern (with_all_fetched (fetches_for pattern xs) store)
kept_packets pattern xs store checked are =
    let kept : List Fetched = fetches_for pattern xs in
    all_in (IsPacketFor pattern) (with_all_fetched kept store)
    (each_fetched (IsPacketFor pattern) kept store
    (λ x i.
    kept_came pattern x (in_all IsCheckedFetch kept x checked i) (in_filtered (is_fetch_for pattern) xs x i).1)
    (λ e i. in_all (IsPacketFor pattern) store e are i))

-- ---- the results of jobs

-- the part was wanted, and the packet passed its checks
pub record CameSo (m : MirrorState) (x : Fetched) : Type 0 where
  pub part_wanted : is_wanted (fetch_plan m) x.part ≡ true
  pub checked : IsCheckedFetch x

pub passed_for : (want : WantedPart) (o : Option CheckedPart) → IfSome o (λ c. c.want ≡ want) → IfSome o IsChecked
    → IfSome (option_map (λ (c : CheckedPart). c.octets) o) (PassedFor want.part)
passed_for want None same is = tt
passed_for want (Some c) same is = record {
  checked = c;
  part = ap (λ (w : WantedPart). w.part) same;
  same = refl;
  passed = is;
}

abbrev IfChecked : Option CheckedPart → Type 0
IfChecked part = IfSome part IsChecked

pub each_came : (m : MirrorState) (jobs : List Job) (parts : List (Option CheckedPart)) (ns : List ℕ)
    → AreFetchedFor m jobs parts ns → All (λ part. IfSome part IsChecked) parts
    → (x : Fetched) → In x (outcome_of jobs parts ns) → CameSo m x
each_came m [] parts ns are is x i = absurd i
each_came m (job ∷ jobs) [] ns are is x i = absurd i
each_came m (job ∷ jobs) (part ∷ parts) [] are is x i = absurd i
each_came m (job ∷ jobs) (part ∷ parts) (n ∷ ns) are is x (inl e) =
    subst (CameSo m) (sym e) (record {
      part_wanted = are.0.part_wanted;
      checked = passed_for job.want part are.0.checked (All-head IfChecked part parts is);
    })
each_came m (job ∷ jobs) (part ∷ parts) (n ∷ ns) are is x (inr i) =
    each_came m jobs parts ns are.1 (All-tail IfChecked part parts is) x i
