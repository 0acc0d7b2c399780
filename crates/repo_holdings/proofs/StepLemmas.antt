-- What is stored newly of one publication: what is withdrawn by it, and how the catalogue changes.
use Rattle.std.proofs.Common.{◌≡◌, ℕ, Bool, true, false, cond, ◌||◌, ◌==◌, List, refl, sym, ap, ◌∙◌, subst, Option}
use Rattle.std.proofs.Common.{Some}
use Rattle.std.proofs.Common.{None, option_map, is_some}
use Rattle.std.specs.Prelude.{IfSome, IsSomeAnd}
use Rattle.std.specs.Option.{option_and_then}
use Rattle.std.specs.Ordering.{eq_by_cmp}
use Rattle.std.proofs.lemmas.Bool.{true≢false, eqb-true}
use Rattle.sorted_lists.specs.SortedList.{keys, Rises, contains, value_of}
use Rattle.sorted_lists.proofs.Sets.{eq_same, eq_itself}
use Rattle.repo_plan.specs.declared.part.Part.{Part}
use Rattle.repo_plan.specs.Parts.{Pair, pair_cmp, part_cmp, pair_of, part_of}
use Rattle.repo_plan.proofs.Orders.{exact_pairs}
use Rattle.repo_object.specs.Publication.{Listed}
use Rattle.repo_object.specs.Verdict.{stated_in}
use Rattle.repo_store.specs.StoreList.{with_packet}
use Rattle.repo_catalog.specs.declared.entry.Entry.{Entry}
use Rattle.repo_holdings.specs.declared.changes.Change.TheVariants.{Nothing, Removes}
use Rattle.repo_holdings.specs.declared.record_summary.RecordSummary.{RecordSummary}
use Rattle.repo_holdings.specs.declared.record_summary.RecordSummary.TheVariants.{Object, Withdrawal}
use Rattle.repo_holdings.specs.Records.{Packet}
use Rattle.repo_holdings.specs.Listed.{stored_at, listing_in, stated_at, listing_at, whole_at, entry_at, entry_listed}
use Rattle.repo_holdings.specs.Listed.{withdraws, is_withdrawn, member_catalogue}
use Rattle.repo_holdings.specs.declared.holdings.stock.Stock.{Stock}
use Rattle.repo_holdings.specs.Gaining.{IsArrival, IsMissing, summary_of, with_listed}
use Rattle.repo_holdings.specs.Stock.{IsSound}
use Rattle.repo_holdings.specs.Changing.{changed, change_by, lists_entry, withdraws_too, IsNewSummary}
use Rattle.repo_holdings.proofs.CatalogueLemmas.{relisted, unlisted, same_entry, entry_of_none}
use Rattle.repo_holdings.proofs.WithdrawnLemmas.{withdrawn_same, withdrawn_more, withdraws_stated}
use Rattle.repo_holdings.proofs.NotedLemmas.{withdrawal_lists_none}
use Rattle.repo_holdings.proofs.GainingLemmas.{absent, contains-value, put_rises, other_pairs, record_put}
use Rattle.repo_holdings.proofs.AskedLemmas.{asked_segment}
use Rattle.repo_holdings.proofs.WholeLemmas.{missing_unlisted}

-- ---- the catalogue

module _ (old new : List Packet) (pair : Pair) (withdrawn : List Pair) (old_order : Rises part_cmp (keys old))
    (new_order : Rises part_cmp (keys new))
    (others : (q : Pair) → eq_by_cmp pair_cmp q pair ≡ false → (x : ℕ) → stored_at new q x ≡ stored_at old q x)
    (before : whole_at old pair ≡ None)
    (were : (q : Pair) → contains pair_cmp withdrawn q ≡ is_withdrawn old q) where
  -- nothing is withdrawn newly
  nothing_more : ((q : Pair) → contains pair_cmp withdrawn q ≡ is_withdrawn new q)
      → member_catalogue new ≡ changed (lists_entry (entry_at new pair)) (member_catalogue old)
  nothing_more are =
      relisted old new pair old_order new_order
      (λ q other. same_entry old new q (others q other) (sym (are q) ∙ were q)) (entry_of_none old pair before)
      ∙ go (entry_at new pair) where
        go : (o : Option Entry)
            → with_listed o (member_catalogue old) ≡ changed (lists_entry o) (member_catalogue old)
        go None = refl
        go (Some e) = refl

  -- a publication is withdrawn, by one that has no entry
  one_more : (seq : ℕ) → whole_at new pair ≡ None
      → ((q : Pair) → (eq_by_cmp pair_cmp q (pair.0, seq) || contains pair_cmp withdrawn q) ≡ is_withdrawn new q)
      → member_catalogue new
      ≡ changed (cond (contains pair_cmp withdrawn (pair.0, seq)) Nothing (Removes pair.0 seq)) (member_catalogue old)
  one_more seq none are = go (contains pair_cmp withdrawn (pair.0, seq)) refl where
    w : Pair
    w = (pair.0, seq)

    same_there : (q : Pair) → eq_by_cmp pair_cmp q w ≡ false → is_withdrawn new q ≡ is_withdrawn old q
    same_there q other =
        sym (are q) ∙ ap (λ (b : Bool). b || contains pair_cmp withdrawn q) other ∙ were q

    entry_there : (q : Pair) → is_withdrawn new q ≡ is_withdrawn old q → entry_at new q ≡ entry_at old q
    entry_there q same = at (eq_by_cmp pair_cmp q pair) refl where
      at : (b : Bool) → eq_by_cmp pair_cmp q pair ≡ b → entry_at new q ≡ entry_at old q
      at true p =
          let is : q ≡ pair = eq_same exact_pairs q pair p in
          ap (entry_at new) is ∙ entry_of_none new pair none ∙ sym (entry_of_none old pair before)
          ∙ ap (entry_at old) (sym is)
      at false p = same_entry old new q (others q p) same

    go : (b : Bool) → contains pair_cmp withdrawn w ≡ b
        → member_catalogue new ≡ changed (cond b Nothing (Removes pair.0 seq)) (member_catalogue old)
    go true p =
        relisted old new pair old_order new_order (λ q other. entry_there q (all q))
        (entry_of_none old pair before)
        ∙ ap (λ (o : Option Entry). with_listed o (member_catalogue old)) (entry_of_none new pair none) where
          all : (q : Pair) → is_withdrawn new q ≡ is_withdrawn old q
          all q = at (eq_by_cmp pair_cmp q w) refl where
            at : (b : Bool) → eq_by_cmp pair_cmp q w ≡ b → is_withdrawn new q ≡ is_withdrawn old q
            at true h =
                let is : q ≡ w = eq_same exact_pairs q w h in
                sym (are q) ∙ ap (λ (b : Bool). b || contains pair_cmp withdrawn q) h
                ∙ sym (ap (is_withdrawn old) is ∙ sym (were w) ∙ p)
            at false h = same_there q h
    go false p =
        unlisted old new w old_order new_order (λ q other. entry_there q (same_there q other))
        (ap (λ (b : Bool). cond b None (whole_at new w))
        (sym (are w) ∙ ap (λ (b : Bool). b || contains pair_cmp withdrawn w) (eq_itself exact_pairs w)))

  -- the catalogue changes by what is reported
  pub catalogue_changed : (summary : Option RecordSummary)
      → IfSome summary (λ x. option_map summary_of (stated_at new pair) ≡ Some x)
      → ((q : Pair) → (withdraws_too pair summary q || contains pair_cmp withdrawn q) ≡ is_withdrawn new q)
      → member_catalogue new ≡ changed (change_by withdrawn pair summary (entry_at new pair)) (member_catalogue old)
  catalogue_changed None says are = nothing_more are
  catalogue_changed (Some (Object shape name)) says are = nothing_more are
  catalogue_changed (Some (Withdrawal seq)) says are =
      one_more seq
      (ap (option_and_then (entry_listed new pair)) (withdrawal_lists_none new pair (Withdrawal seq) seq says refl)) are

-- ---- one packet that was received

module _ (s : Stock) (after : List Packet) (t : Part) (octets : List ℕ) (summary : Option RecordSummary)
    (sound : IsSound s) (arrival : IsArrival s.store.packets t octets summary) (missing : IsMissing s.plan t)
    (puts : after ≡ with_packet t octets s.store.packets) where
  gone : contains part_cmp (keys s.store.packets) t ≡ false
  gone = absent s.plan s.store.packets t octets None sound.tied missing.not_held

  pub others_now : (q : Pair) → eq_by_cmp pair_cmp q (pair_of t) ≡ false → (x : ℕ)
      → stored_at after q x ≡ stored_at s.store.packets q x
  others_now q other x =
      ap (λ (es : List Packet). stored_at es q x) puts ∙ other_pairs s.store.packets t octets gone q other x

  record_now : stored_at after (pair_of t) 0
      ≡ cond (t.part == 0) (Some octets) (stored_at s.store.packets (pair_of t) 0)
  record_now = ap (λ (es : List Packet). stored_at es (pair_of t) 0) puts ∙ record_put s.store.packets t octets gone

  pub rises_now : Rises part_cmp (keys after)
  rises_now =
      subst (λ (es : List Packet). Rises part_cmp (keys es)) (sym puts)
      (put_rises s.store.packets t octets gone sound.tied.in_order)

  pub before_now : whole_at s.store.packets (pair_of t) ≡ None
  before_now = missing_unlisted s.plan s.store.packets t sound.tied missing.free.asked missing.not_held

  -- what is reported is said
  stated_now : IfSome summary (λ x. option_map summary_of (stated_at after (pair_of t)) ≡ Some x)
  stated_now = go summary (t.part == 0) refl arrival.tells where
    go : (o : Option RecordSummary) (b : Bool) → (t.part == 0) ≡ b
        → o ≡ cond b (option_map summary_of (stated_in octets)) None
        → IfSome o (λ x. option_map summary_of (stated_at after (pair_of t)) ≡ Some x)
    go None b p h = tt
    go (Some x) false p h = absurd cc
    go (Some x) true p h =
        ap (λ (r : Option (List ℕ)). option_map summary_of (option_and_then stated_in r))
        (record_now ∙ ap (λ (b : Bool). cond b (Some octets) (stored_at s.store.packets (pair_of t) 0)) p)
        ∙ sym h

  following : summary ≡ None → (t.part == 0) ≡ false
  following none = sym arrival.record_part ∙ ap is_some none

  -- the name of the object is noted, if it is not reported now
  named_now : summary ≡ None
      → IsSomeAnd (listing_at after (pair_of t)) (λ l. value_of pair_cmp s.notes.names (pair_of t) ≡ Some l.name)
  named_now none =
      let segment = asked_segment s.plan s.store.packets t sound.tied missing.free.asked (following none) in
      let listed : listing_at after (pair_of t) ≡ Some segment.listing =
      ap (option_and_then listing_in)
      (record_now ∙ ap (λ (b : Bool). cond b (Some octets) (stored_at s.store.packets (pair_of t) 0)) (following none))
      ∙ segment.listed in
      subst (λ (o : Option Listed). IsSomeAnd o (λ l. value_of pair_cmp s.notes.names (pair_of t) ≡ Some l.name))
      (sym listed) (sound.noted.names (pair_of t) segment.listing segment.listed before_now)

  -- what is withdrawn
  pub withdrawn_now : (q : Pair)
      → (withdraws_too (pair_of t) summary q || contains pair_cmp s.notes.withdrawn q) ≡ is_withdrawn after q
  withdrawn_now q = go summary (t.part == 0) refl arrival.tells arrival.record_part stated_now where
    others_then : (k : Pair) → eq_by_cmp pair_cmp k (pair_of t) ≡ false
        → stored_at after k 0 ≡ stored_at s.store.packets k 0
    others_then k other = others_now k other 0

    go : (o : Option RecordSummary) (b : Bool) → (t.part == 0) ≡ b
        → o ≡ cond b (option_map summary_of (stated_in octets)) None → is_some o ≡ b
        → IfSome o (λ x. option_map summary_of (stated_at after (pair_of t)) ≡ Some x)
        → (withdraws_too (pair_of t) o q || contains pair_cmp s.notes.withdrawn q) ≡ is_withdrawn after q
    go None true p h is says = absurd (true≢false (sym is))
    go (Some x) false p h is says = absurd (true≢false is)
    go None false p h is says =
        sound.noted.withdrawn q
        ∙ sym (withdrawn_same s.store.packets after (pair_of t) sound.tied.in_order rises_now others_then
        (record_now ∙ ap (λ (b : Bool). cond b (Some octets) (stored_at s.store.packets (pair_of t) 0)) p) q)
    go (Some x) true p h is says =
        ap (λ (b : Bool). b || contains pair_cmp s.notes.withdrawn q)
        (sym (withdraws_stated (pair_of t) octets x (sym h) q))
        ∙ ap (λ (b : Bool). withdraws q (pair_of t, octets) || b) (sound.noted.withdrawn q)
        ∙ sym (withdrawn_more s.store.packets after (pair_of t) sound.tied.in_order rises_now others_then octets
        (none_before (stored_at s.store.packets (pair_of t) 0)
        (sym (contains-value s.store.packets (part_of (pair_of t) 0))
        ∙ ap (contains part_cmp (keys s.store.packets)) (ap (part_of (pair_of t)) (sym (eqb-true t.part 0 p)))
        ∙ gone))
        (record_now ∙ ap (λ (b : Bool). cond b (Some octets) (stored_at s.store.packets (pair_of t) 0)) p) q) where
          none_before : (o : Option (List ℕ)) → is_some o ≡ false → o ≡ None
          none_before None h = refl
          none_before (Some x) h = absurd (true≢false h)

  pub changed_now : member_catalogue after
      ≡ changed (change_by s.notes.withdrawn (pair_of t) summary (entry_at after (pair_of t)))
      (member_catalogue s.store.packets)
  changed_now =
      catalogue_changed s.store.packets after (pair_of t) s.notes.withdrawn sound.tied.in_order rises_now others_now
      before_now sound.noted.withdrawn summary stated_now withdrawn_now

  -- this is said newly
  pub said_now : IsNewSummary (pair_of t) summary s.notes after
  said_now = record { summary = stated_now; named = named_now; withdrawn = withdrawn_now }
