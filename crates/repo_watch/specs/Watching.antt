-- Watchers: what each asks for and what was reported to it, and what a call makes of them.
use Rattle.std.specs.Prelude.{ℕ, zero, suc, Bool, not, ◌&&◌, List, [], ◌∷◌, ◌++◌, map, filter, Option, Some, None}
use Rattle.std.specs.Ordering.{is_lt}
use Rattle.repo_plan.specs.Parts.{Pair, pair_cmp}
use Rattle.sorted_lists.specs.SortedList.{contains, insert_keys}
use Rattle.repo_catalog.specs.declared.entry.Entry.{Entry}
use Rattle.repo_catalog.specs.Entries.{publication_of}
use Rattle.repo_watch.specs.declared.pattern.Pattern.{Pattern}
use Rattle.repo_watch.specs.Patterns.{accepts}

-- The greatest number of watchers of a member.
abbrev pub most_watchers : ℕ
most_watchers = 16

-- What a watcher asks for, and the publications that were reported to it, in order.
pub record Watching : Type 0 where
  pub pattern : Pattern
  pub announced : List Pair

-- A new watcher counts as reported what is catalogued already.
abbrev pub watching : Pattern → List Entry → Watching
watching pattern entries = record { pattern = pattern; announced = map publication_of entries }

-- The pattern accepts the entry.
abbrev pub is_for : Pattern → Entry → Bool
is_for pattern e = accepts pattern e.publisher e.name

-- The watcher asks for the entry, which was not reported to it.
abbrev pub is_news : Watching → Entry → Bool
is_news w e = is_for w.pattern e && not (contains pair_cmp w.announced (publication_of e))

-- What is new to a watcher in a catalogue, in order.
abbrev pub news : Watching → List Entry → List Pair
news w entries = map publication_of (filter (is_news w) entries)

-- The watcher once it was given that.
abbrev pub with_news : Watching → List Entry → Watching
with_news w entries = record w { announced = insert_keys pair_cmp (news w entries) w.announced }

-- Those of the publications in order that stand after this one.
abbrev pub announced_after : Pair → List Pair → List Pair
announced_after pair announced = filter (λ other. is_lt (pair_cmp pair other)) announced

-- ---- by number, from 1 on

-- The watcher of a number.
abbrev pub watch_of : ℕ → List Watching → Option Watching
watch_of n [] = None
watch_of zero (w ∷ ws) = None
watch_of (suc zero) (w ∷ ws) = Some w
watch_of (suc (suc n)) (w ∷ ws) = watch_of (suc n) ws

-- What is new to the watcher of a number.
abbrev pub news_of : Option Watching → List Entry → List Pair
news_of None entries = []
news_of (Some w) entries = news w entries

-- The watchers once the news was reported to the one of a number.
abbrev pub after_take : ℕ → List Entry → List Watching → List Watching
after_take n entries [] = []
after_take zero entries (w ∷ ws) = w ∷ ws
after_take (suc zero) entries (w ∷ ws) = with_news w entries ∷ ws
after_take (suc (suc n)) entries (w ∷ ws) = w ∷ after_take (suc n) entries ws

-- The watchers with one more.
abbrev pub after_add : Pattern → List Entry → List Watching → List Watching
after_add pattern entries ws = ws ++ watching pattern entries ∷ []
