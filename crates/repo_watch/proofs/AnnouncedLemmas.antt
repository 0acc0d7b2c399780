-- What is reported, in order, and what was reported with others that are reported too.
use Rattle.std.proofs.Common.{◌≡◌, ℕ, ◌+◌, ◌<◌, Bool, true, false, cond, not, ◌&&◌, List, [], ◌∷◌, ◌++◌, map, length}
use Rattle.std.proofs.Common.{get_or, drop, refl, sym, ap, subst, ◌∙◌, append_assoc}
use Rattle.std.specs.List.{filter}
use Rattle.std.specs.Ordering.{is_lt}
use Rattle.std.proofs.lemmas.Bool.{or_left, or_right}
use Rattle.std.proofs.lemmas.List.{at_drop_more, drop-map}
use Rattle.sorted_lists.specs.SortedList.{insert_keys, contains, IsBefore, Rises}
use Rattle.sorted_lists.proofs.Sets.{contains-filter, contains-insert_keys}
use Rattle.sorted_lists.proofs.Inserted.{rises_parts}
use Rattle.repo_plan.specs.Parts.{Pair, pair_cmp}
use Rattle.repo_plan.proofs.Orders.{exact_pairs}
use Rattle.repo_catalog.specs.declared.entry.Entry.{Entry}
use Rattle.repo_catalog.specs.Entries.{publication_of, IsCatalogue}
use Rattle.repo_watch.specs.Watching.{Watching, is_for, is_news, news, announced_after}

module _ (p : Entry → Bool) where
  before_passing : (k : Pair) (es : List Entry) → IsBefore pair_cmp k (map publication_of es)
      → IsBefore pair_cmp k (map publication_of (filter p es))
  before_passing k [] b = tt
  before_passing k (e ∷ es) b = go (before_passing k es b.1) (p e) where
    go : IsBefore pair_cmp k (map publication_of (filter p es)) → (c : Bool)
        → IsBefore pair_cmp k (map publication_of (cond c (e ∷ filter p es) (filter p es)))
    go h true = (b.0, h)
    go h false = h

  -- the publications of some entries in order
  pub passing_rise : (es : List Entry) → Rises pair_cmp (map publication_of es)
      → Rises pair_cmp (map publication_of (filter p es))
  passing_rise [] r = tt
  passing_rise (e ∷ es) r = go (passing_rise es r.1) (p e) where
    go : Rises pair_cmp (map publication_of (filter p es)) → (c : Bool)
        → Rises pair_cmp (map publication_of (cond c (e ∷ filter p es) (filter p es)))
    go h true = (before_passing (publication_of e) es r.0, h)
    go h false = h

pub reported_kept : (pairs announced : List Pair) (q : Pair) → contains pair_cmp announced q ≡ true
    → contains pair_cmp (insert_keys pair_cmp pairs announced) q ≡ true
reported_kept pairs announced q h =
    contains-insert_keys exact_pairs pairs announced q
    ∙ or_right (contains pair_cmp pairs q) (contains pair_cmp announced q) h

pub announced_gained : (pairs announced : List Pair) (q : Pair) → contains pair_cmp pairs q ≡ true
    → contains pair_cmp (insert_keys pair_cmp pairs announced) q ≡ true
announced_gained pairs announced q h =
    contains-insert_keys exact_pairs pairs announced q
    ∙ or_left (contains pair_cmp pairs q) (contains pair_cmp announced q) h

-- ---- news, entry by entry

-- what was reported up to a publication makes no difference to the entries after it
news_after : (w : Watching) (k : Pair) (es : List Entry) → IsBefore pair_cmp k (map publication_of es)
    → news (record w { announced = announced_after k w.announced }) es ≡ news w es
news_after w k [] b = refl
news_after w k (e ∷ es) b =
    ap (λ (c : Bool). map publication_of (cond c (e ∷ filter (is_news v) es) (filter (is_news v) es))) same
    ∙ go (is_news w e) (news_after w k es b.1) where
      v : Watching
      v = record w { announced = announced_after k w.announced }

      same : is_news v e ≡ is_news w e
      same =
          ap (λ (c : Bool). is_for w.pattern e && not c)
          (contains-filter exact_pairs (λ x. is_lt (pair_cmp k x)) w.announced (publication_of e)
          ∙ ap (λ (c : Bool). c && contains pair_cmp w.announced (publication_of e)) (ap is_lt b.0))

      go : (c : Bool) → news v es ≡ news w es
          → map publication_of (cond c (e ∷ filter (is_news v) es) (filter (is_news v) es))
          ≡ map publication_of (cond c (e ∷ filter (is_news w) es) (filter (is_news w) es))
      go true h = ap (λ (ps : List Pair). publication_of e ∷ ps) h
      go false h = h

-- a step of a walk over the entries and what was reported: what is left of both gives the same as before, where the
-- entry is reported if it is news
pub walked : (w : Watching) (entries : List Entry) (i : ℕ) (e : Entry) (pairs next all left : List Pair)
    → i < length entries → e ≡ get_or entries i e → IsCatalogue entries → left
    ≡ announced_after (publication_of e) w.announced
    → next ≡ cond (is_news w e) (pairs ++ publication_of e ∷ []) pairs → pairs ++ news w (drop i entries) ≡ all
    → next ++ news (record w { announced = left }) (drop (i + 1) entries) ≡ all
walked w entries i e pairs next all left l is r after announced so_far =
    ap (λ (ps : List Pair). ps ++ news (record w { announced = left }) later) announced
    ∙ ap (λ (ps : List Pair). cond (is_news w e) (pairs ++ publication_of e ∷ []) pairs ++ ps)
    (ap (λ (ps : List Pair). news (record w { announced = ps }) later) after
    ∙ news_after w (publication_of e) later before)
    ∙ go (is_news w e)
    ∙ ap (λ (es : List Entry). pairs ++ news w es) (sym here)
    ∙ so_far where
      later : List Entry
      later = drop (i + 1) entries

      here : drop i entries ≡ e ∷ later
      here = at_drop_more (λ (es : List Entry). es) entries i e l ∙ ap (λ (x : Entry). x ∷ later) (sym is)

      before : IsBefore pair_cmp (publication_of e) (map publication_of later)
      before =
          (subst (λ (es : List Entry). Rises pair_cmp (map publication_of es)) here
          (subst (Rises pair_cmp) (drop-map publication_of i entries)
          (rises_parts exact_pairs i (map publication_of entries) r).1)).0

      go : (c : Bool)
          → cond c (pairs ++ publication_of e ∷ []) pairs ++ news w later
          ≡ pairs ++ map publication_of (cond c (e ∷ filter (is_news w) later) (filter (is_news w) later))
      go true = append_assoc pairs (publication_of e ∷ []) (news w later)
      go false = refl
