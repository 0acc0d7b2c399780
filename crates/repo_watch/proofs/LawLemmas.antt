-- What was reported stays reported, and is no news.
use Rattle.std.proofs.Common.{◌≡◌, ℕ, zero, suc, Bool, true, false, cond, not, ◌||◌, List, [], ◌∷◌}
use Rattle.std.proofs.Common.{◌++◌}
use Rattle.std.proofs.Common.{map, refl, sym, ap, subst, ◌∙◌, Option, Some, None, length, take}
use Rattle.std.specs.Prelude.{IsTrue, MatchOption}
use Rattle.std.specs.List.{filter}
use Rattle.std.specs.Ordering.{eq_by_cmp, is_eq}
use Rattle.std.proofs.lemmas.Bool.{true≢false, and_parts, and_from, or_left, or_right, eqb-true, eq-eqb}
use Rattle.std.proofs.lemmas.Bool.{false_from_ne_true}
use Rattle.std.proofs.lemmas.Cmp.{tied_itself}
use Rattle.ndn_name.specs.Names.{Component}
use Rattle.ndn_name.specs.CanonicalOrder.{canonical_cmp, canonical_cmp_total}
use Rattle.ndn_name.proofs.Prefixes.{canonical_cmp-equal}
use Rattle.repo_plan.specs.Parts.{Pair, pair_cmp}
use Rattle.sorted_lists.specs.SortedList.{contains, insert_keys}
use Rattle.repo_plan.proofs.Orders.{exact_pairs}
use Rattle.sorted_lists.proofs.Orders.{equal_from_is_eq}
use Rattle.sorted_lists.proofs.Sets.{eq_same}
use Rattle.repo_catalog.specs.declared.entry.Entry.{Entry}
use Rattle.repo_catalog.specs.Entries.{publication_of}
use Rattle.repo_watch.specs.Patterns.{is_publisher, begins_with, accepts, Accepts}
use Rattle.repo_watch.specs.Watching.{Watching, watching, is_for, is_news, news, news_of, watch_of}
use Rattle.repo_watch.specs.Watching.{after_take}
use Rattle.repo_watch.specs.Laws.{WatchCall, after_watch_calls, tells, was_announced}
use Rattle.repo_watch.specs.Laws.WatchCall.{Add, Take}
use Rattle.repo_watch.specs.Laws.{IsAnnouncedOnce, AllIsAnnounced, AcceptsByPrefix}
use Rattle.repo_watch.proofs.AnnouncedLemmas.{reported_kept, announced_gained}

-- ---- one watcher

no_news : (w : Watching) (entries : List Entry) (pair : Pair) → contains pair_cmp w.announced pair ≡ true
    → contains pair_cmp (news w entries) pair ≡ false
no_news w [] pair h = refl
no_news w (e ∷ es) pair h = go (is_news w e) refl (no_news w es pair h) where
  other : is_news w e ≡ true → eq_by_cmp pair_cmp pair (publication_of e) ≡ false
  other n =
      false_from_ne_true (eq_by_cmp pair_cmp pair (publication_of e))
      (λ s. let same : pair ≡ publication_of e = eq_same exact_pairs pair (publication_of e) s in
      let announced : contains pair_cmp w.announced (publication_of e) ≡ true =
      subst (λ (q : Pair). contains pair_cmp w.announced q ≡ true) same h in
      true≢false
      (sym (and_parts (is_for w.pattern e) (not (contains pair_cmp w.announced (publication_of e))) n).1
      ∙ ap not announced))

  go : (b : Bool) → is_news w e ≡ b → contains pair_cmp (news w es) pair ≡ false
      → contains pair_cmp (map publication_of (cond b (e ∷ filter (is_news w) es) (filter (is_news w) es))) pair ≡ false
  go true n rest = ap (λ (b : Bool). b || contains pair_cmp (news w es) pair) (other n) ∙ rest
  go false n rest = rest

is_new : (w : Watching) (entries : List Entry) (pair : Pair) → contains pair_cmp w.announced pair ≡ false
    → contains pair_cmp (map publication_of (filter (is_for w.pattern) entries)) pair ≡ true
    → contains pair_cmp (news w entries) pair ≡ true
is_new w [] pair fresh h = h
is_new w (e ∷ es) pair fresh h =
    go (λ rest. is_new w es pair fresh rest) (is_for w.pattern e) refl (is_news w e) refl
    (eq_by_cmp pair_cmp pair (publication_of e)) refl h where
      asked : List Pair
      asked = map publication_of (filter (is_for w.pattern) es)

      unheard : eq_by_cmp pair_cmp pair (publication_of e) ≡ true → contains pair_cmp w.announced (publication_of e)
          ≡ false
      unheard q =
          subst (λ (z : Pair). contains pair_cmp w.announced z ≡ false) (eq_same exact_pairs pair (publication_of e) q)
          fresh

      go : (contains pair_cmp asked pair ≡ true → contains pair_cmp (news w es) pair ≡ true)
          → (f : Bool) → is_for w.pattern e ≡ f → (n : Bool) → is_news w e ≡ n
          → (s : Bool) → eq_by_cmp pair_cmp pair (publication_of e) ≡ s
          → contains pair_cmp
          (map publication_of (cond f (e ∷ filter (is_for w.pattern) es) (filter (is_for w.pattern) es))) pair
          ≡ true
          → contains pair_cmp (map publication_of (cond n (e ∷ filter (is_news w) es) (filter (is_news w) es))) pair
          ≡ true
      go more true f true n true s g =
          or_left (eq_by_cmp pair_cmp pair (publication_of e)) (contains pair_cmp (news w es) pair) s
      go more true f true n false s g =
          or_right (eq_by_cmp pair_cmp pair (publication_of e)) (contains pair_cmp (news w es) pair)
          (more (ap (λ (b : Bool). b || contains pair_cmp asked pair) (sym s) ∙ g))
      go more true f false n true s g =
          absurd (true≢false
          (sym (and_from (is_for w.pattern e) (not (contains pair_cmp w.announced (publication_of e))) f
          (ap not (unheard s)))
          ∙ n))
      go more true f false n false s g = more (ap (λ (b : Bool). b || contains pair_cmp asked pair) (sym s) ∙ g)
      go more false f true n s q g =
          absurd (true≢false
          (sym (and_parts (is_for w.pattern e) (not (contains pair_cmp w.announced (publication_of e))) n).0 ∙ f))
      go more false f false n s q g = more g

announced_all : (w : Watching) (entries : List Entry) (pair : Pair)
    → contains pair_cmp (map publication_of (filter (is_for w.pattern) entries)) pair ≡ true
    → contains pair_cmp (insert_keys pair_cmp (news w entries) w.announced) pair ≡ true
announced_all w entries pair h = go (contains pair_cmp w.announced pair) refl where
  go : (b : Bool) → contains pair_cmp w.announced pair ≡ b
      → contains pair_cmp (insert_keys pair_cmp (news w entries) w.announced) pair ≡ true
  go true e = reported_kept (news w entries) w.announced pair e
  go false e = announced_gained (news w entries) w.announced pair (is_new w entries pair e h)

-- ---- the watcher of a number

take_announces : (ws : List Watching) (n : ℕ) (entries : List Entry) (pair : Pair)
    → contains pair_cmp (tells n entries ws) pair ≡ true → was_announced (watch_of n (after_take n entries ws)) pair
    ≡ true
take_announces [] n entries pair h = h
take_announces (w ∷ ws) zero entries pair h = h
take_announces (w ∷ ws) (suc zero) entries pair h = announced_gained (news w entries) w.announced pair h
take_announces (w ∷ ws) (suc (suc n)) entries pair h = take_announces ws (suc n) entries pair h

take_announces_all : (ws : List Watching) (n : ℕ) (entries : List Entry) (w : Watching) (pair : Pair)
    → watch_of n ws ≡ Some w
    → contains pair_cmp (map publication_of (filter (is_for w.pattern) entries)) pair ≡ true
    → was_announced (watch_of n (after_take n entries ws)) pair ≡ true
take_announces_all [] n entries w pair e h = absurd (none e) where
  none : None ≡ Some w → ⊥
  none p = cc
take_announces_all (v ∷ ws) zero entries w pair e h = absurd (none e) where
  none : None ≡ Some w → ⊥
  none p = cc
take_announces_all (v ∷ ws) (suc zero) entries w pair e h =
    announced_all v entries pair (subst (λ (o : Option Watching). was_for o ≡ true) (sym e) h) where
      was_for : Option Watching → Bool
      was_for None = false
      was_for (Some x) = contains pair_cmp (map publication_of (filter (is_for x.pattern) entries)) pair
take_announces_all (v ∷ ws) (suc (suc n)) entries w pair e h = take_announces_all ws (suc n) entries w pair e h

take_keeps : (ws : List Watching) (n m : ℕ) (entries : List Entry) (pair : Pair) → was_announced (watch_of n ws) pair
    ≡ true
    → was_announced (watch_of n (after_take m entries ws)) pair ≡ true
take_keeps [] n m entries pair h = h
take_keeps (w ∷ ws) n zero entries pair h = h
take_keeps (w ∷ ws) zero (suc zero) entries pair h = h
take_keeps (w ∷ ws) (suc zero) (suc zero) entries pair h = reported_kept (news w entries) w.announced pair h
take_keeps (w ∷ ws) (suc (suc n)) (suc zero) entries pair h = h
take_keeps (w ∷ ws) zero (suc (suc m)) entries pair h = h
take_keeps (w ∷ ws) (suc zero) (suc (suc m)) entries pair h = h
take_keeps (w ∷ ws) (suc (suc n)) (suc (suc m)) entries pair h = take_keeps ws (suc n) (suc m) entries pair h

add_keeps : (ws more : List Watching) (n : ℕ) (pair : Pair) → was_announced (watch_of n ws) pair ≡ true
    → was_announced (watch_of n (ws ++ more)) pair ≡ true
add_keeps [] more n pair h = absurd (true≢false (sym h))
add_keeps (w ∷ ws) more zero pair h = h
add_keeps (w ∷ ws) more (suc zero) pair h = h
add_keeps (w ∷ ws) more (suc (suc n)) pair h = add_keeps ws more (suc n) pair h

calls_keep : (calls : List WatchCall) (ws : List Watching) (n : ℕ) (pair : Pair) → was_announced (watch_of n ws) pair
    ≡ true
    → was_announced (watch_of n (after_watch_calls calls ws)) pair ≡ true
calls_keep [] ws n pair h = h
calls_keep (Add pattern entries ∷ calls) ws n pair h =
    calls_keep calls (ws ++ watching pattern entries ∷ []) n pair
    (add_keeps ws (watching pattern entries ∷ []) n pair h)
calls_keep (Take m entries ∷ calls) ws n pair h =
    calls_keep calls (after_take m entries ws) n pair (take_keeps ws n m entries pair h)

announced_is_no_news : (ws : List Watching) (n : ℕ) (entries : List Entry) (pair : Pair)
    → was_announced (watch_of n ws) pair ≡ true
    → contains pair_cmp (tells n entries ws) pair ≡ false
announced_is_no_news ws n entries pair h = go (watch_of n ws) h where
  go : (o : Option Watching) → was_announced o pair ≡ true → contains pair_cmp (news_of o entries) pair ≡ false
  go None p = refl
  go (Some w) p = no_news w entries pair p

-- ---- the laws

pub announced_once : IsAnnouncedOnce
announced_once ws n first between later pair h =
    announced_is_no_news (after_watch_calls between (after_take n first ws)) n later pair
    (calls_keep between (after_take n first ws) n pair (take_announces ws n first pair h))

pub all_announced : AllIsAnnounced
all_announced ws n entries calls w pair e h =
    calls_keep calls (after_take n entries ws) n pair (take_announces_all ws n entries w pair e h)

publisher_is : (asked : Option ℕ) (publisher : ℕ) → is_publisher asked publisher ≡ true
    → MatchOption asked (Unit {0}) (λ q. q ≡ publisher)
publisher_is None publisher h = tt
publisher_is (Some q) publisher h = eqb-true q publisher h

is_of_publisher : (asked : Option ℕ) (publisher : ℕ) → MatchOption asked (Unit {0}) (λ q. q ≡ publisher)
    → is_publisher asked publisher ≡ true
is_of_publisher None publisher h = refl
is_of_publisher (Some q) publisher h = eq-eqb q publisher h

begins : (prefix name : List Component) → take (length prefix) name ≡ prefix → begins_with prefix name ≡ true
begins prefix name h =
    ap (λ (leading : List Component). eq_by_cmp canonical_cmp leading prefix) h
    ∙ ap is_eq (tied_itself canonical_cmp_total prefix)

pub by_prefix : AcceptsByPrefix
by_prefix pattern publisher name = (there, back) where
  there : IsTrue (accepts pattern publisher name) → Accepts pattern publisher name
  there h =
      let parts : (is_publisher pattern.publisher publisher ≡ true) × (begins_with pattern.prefix name ≡ true) =
      and_parts (is_publisher pattern.publisher publisher) (begins_with pattern.prefix name) h in
      record {
        publisher = publisher_is pattern.publisher publisher parts.0;
        prefix =
            canonical_cmp-equal (take (length pattern.prefix) name) pattern.prefix
            (equal_from_is_eq (canonical_cmp (take (length pattern.prefix) name) pattern.prefix) parts.1);
      }

  back : Accepts pattern publisher name → IsTrue (accepts pattern publisher name)
  back a =
      and_from (is_publisher pattern.publisher publisher) (begins_with pattern.prefix name)
      (is_of_publisher pattern.publisher publisher a.publisher) (begins pattern.prefix name a.prefix)
