-- What holds over every list of calls, with any catalogues between.
use Rattle.std.specs.Prelude.{◌≡◌, ◌↔◌, ℕ, Bool, true, false, IsTrue, List, [], ◌∷◌, map, filter, Option, None, Some}
use Rattle.ndn_name.specs.Names.{Component}
use Rattle.repo_plan.specs.Parts.{Pair, pair_cmp}
use Rattle.sorted_lists.specs.SortedList.{contains}
use Rattle.repo_catalog.specs.declared.entry.Entry.{Entry}
use Rattle.repo_catalog.specs.Entries.{publication_of}
use Rattle.repo_watch.specs.declared.pattern.Pattern.{Pattern}
use Rattle.repo_watch.specs.Patterns.{accepts, Accepts}
use Rattle.repo_watch.specs.Watching.{Watching, is_for, watch_of, news_of, after_take, after_add}

-- A call of the watchers, with the catalogue that it is given.
pub data WatchCall : Type 0 where
  Add : Pattern → List Entry → WatchCall
  Take : ℕ → List Entry → WatchCall

-- The watchers after a call.
abbrev pub after_watch_call : WatchCall → List Watching → List Watching
after_watch_call (Add pattern entries) ws = after_add pattern entries ws
after_watch_call (Take n entries) ws = after_take n entries ws

-- The watchers after a list of calls.
abbrev pub after_watch_calls : List WatchCall → List Watching → List Watching
after_watch_calls [] ws = ws
after_watch_calls (call ∷ calls) ws = after_watch_calls calls (after_watch_call call ws)

-- What a take reports.
abbrev pub tells : ℕ → List Entry → List Watching → List Pair
tells n entries ws = news_of (watch_of n ws) entries

-- The watcher was given the publication, or counts it as reported.
abbrev pub was_announced : Option Watching → Pair → Bool
was_announced None pair = false
was_announced (Some w) pair = contains pair_cmp w.announced pair

-- A publication that a take reported is reported by no later take of that watcher.
abbrev pub IsAnnouncedOnce : Type 0
IsAnnouncedOnce = (ws : List Watching) (n : ℕ) (first : List Entry) (between : List WatchCall) (later : List Entry)
    (pair : Pair)
    → contains pair_cmp (tells n first ws) pair ≡ true
    → contains pair_cmp (tells n later (after_watch_calls between (after_take n first ws))) pair ≡ false

-- After a take, and any calls after it, each entry of its catalogue that the pattern accepts is reported.
abbrev pub AllIsAnnounced : Type 0
AllIsAnnounced = (ws : List Watching) (n : ℕ) (entries : List Entry) (calls : List WatchCall) (w : Watching)
    (pair : Pair)
    → watch_of n ws ≡ Some w
    → contains pair_cmp (map publication_of (filter (is_for w.pattern) entries)) pair ≡ true
    → was_announced (watch_of n (after_watch_calls calls (after_take n entries ws))) pair ≡ true

-- The test is the fact.
abbrev pub AcceptsByPrefix : Type 0
AcceptsByPrefix = (pattern : Pattern) (publisher : ℕ) (name : List Component)
    → IsTrue (accepts pattern publisher name) ↔ Accepts pattern publisher name
