-- What lines of watchers and mirrors that are taken do.
use Rattle.std.proofs.Common.{◌≡◌, ℕ, ◌+◌, Bool, true, false, nat_le, List, [], ◌∷◌, length, map, refl}
use Rattle.std.proofs.Common.{if◌then◌else◌, set, Option, Some, None}
use Rattle.std.proofs.lemmas.List.{length-map, length-set}
use Rattle.std.specs.Prelude.{is_some}
use Rattle.repo_catalog.specs.declared.entry.Entry.{Entry}
use Rattle.repo_watch.specs.declared.pattern.Pattern.{Pattern}
use Rattle.repo_watch.specs.Watching.{after_add, after_take, watch_of}
use Rattle.repo_watch.specs.Laws.{WatchCall, Add, Take, after_watch_call}
use Rattle.group_model.specs.World.{World, catalogue_at, sent_at}
use Rattle.group_model.specs.Refusals as group
use Rattle.bench_world.specs.EventValues.{EventValue}
use Rattle.script_lang.specs.Kinds.{Value, Text, Number, Named}
use Rattle.script_lang.specs.Checking.{Declared, party_label}
use Rattle.script_report.specs.Texts.{mdeliver_text, watch_text}
use Rattle.script_report.specs.declared.refusal.Refusal.TheVariants as refusal
use Rattle.script_report.specs.Labels.{label_at}
use Rattle.script_story.specs.Mirrors.{Mirroring, mirror_fetches, mirror_hears, mirror_of, mirror_settles}
use Rattle.script_story.specs.StatedEvents.{mirror_number, party_number, pattern_for, publisher_number}
use Rattle.script_story.specs.ReportTexts.{news_in, news_text}
use Rattle.script_story.specs.Evaluation.{RunEnvironment, State, found_world, refused, accepted, told_at, told_by}
use Rattle.script_story.specs.Evaluation.{watched_by}
use Rattle.script_story.specs.Evaluation.{watchers_at}
use Rattle.script_story.specs.Evaluation.{event_refused, fetched_by, heard_by, heard_if, listed_by, mirrors_after}
use Rattle.script_story.specs.Evaluation.{with_mirror, with_mirrors, with_watchers}

pub accepted_report : (report printed : List ℕ) (new s : State) → accepted printed s ≡ accepted report new
    → report ≡ printed
accepted_report report printed new s h = cc

pub accepted_state : (report printed : List ℕ) (new s : State) → accepted printed s ≡ accepted report new → new ≡ s
accepted_state report printed new s h = cc

-- A line of watchers was taken: the group is as it was found, and one call was made to the watchers of one member.
pub record IsWatched (env : RunEnvironment) (s : State) (d : Declared) (new : State) : Type 0 where
  pub m : ℕ
  pub call : WatchCall
  pub next : new ≡ with_watchers (found_world env s) s d m (after_watch_call call (watchers_at s m))

-- A member got one watcher more.
pub record IsAdded (env : RunEnvironment) (s : State) (d : Declared) (new : State) : Type 0 where
  pub m : ℕ
  pub pattern : Pattern
  pub next : new ≡ with_watchers (found_world env s) s d m
      (after_add pattern (catalogue_at (found_world env s) m) (watchers_at s m))

pub added_so : (env : RunEnvironment) (s : State) (d : Declared) (values : List Value) (report : List ℕ) (new : State)
    → watched_by (found_world env s) s d values ≡ accepted report new → IsAdded env s d new
added_so env s d (Text label ∷ publisher ∷ Named prefix ∷ []) report new is =
    go (nat_le 16 (length (watchers_at s m))) is where
      m : ℕ
      m = party_number label d.members

      pattern : Pattern
      pattern = pattern_for (publisher_number d publisher) prefix

      go : (full : Bool) → (if full then refused refusal.Limit
          else accepted (watch_text (label_at (map party_label d.members) m) (length (watchers_at s m) + 1))
          (with_watchers (found_world env s) s d m
          (after_add pattern (catalogue_at (found_world env s) m) (watchers_at s m)))) ≡ accepted report new
          → IsAdded env s d new
      go true k = cc
      go false k = record { m = m; pattern = pattern; next = accepted_state report _ new _ k }
added_so env s d values report new is = cc

pub watched_so : (env : RunEnvironment) (s : State) (d : Declared) (values : List Value) (report : List ℕ) (new : State)
    → watched_by (found_world env s) s d values ≡ accepted report new → IsWatched env s d new
watched_so env s d values report new is =
    let added = added_so env s d values report new is in
    record { m = added.m; call = Add added.pattern (catalogue_at (found_world env s) added.m); next = added.next }

-- The watcher of a number was reported its news.
pub record IsAnnounced (env : RunEnvironment) (s : State) (d : Declared) (m number : ℕ) (report : List ℕ)
    (new : State) : Type 0 where
  pub found : is_some (watch_of number (watchers_at s m)) ≡ true
  pub text : report ≡ news_text (map party_label d.members) m number
      (news_in (watch_of number (watchers_at s m)) (catalogue_at (found_world env s) m))
  pub next : new ≡ with_watchers (found_world env s) s d m
      (after_take number (catalogue_at (found_world env s) m) (watchers_at s m))

pub printed_at_so : (env : RunEnvironment) (s : State) (d : Declared) (m number : ℕ) (report : List ℕ) (new : State)
    → told_at (found_world env s) s d m number ≡ accepted report new → IsAnnounced env s d m number report new
printed_at_so env s d m number report new is = go (is_some (watch_of number (watchers_at s m))) refl is where
  news : List Entry
  news = news_in (watch_of number (watchers_at s m)) (catalogue_at (found_world env s) m)

  go : (found : Bool) → is_some (watch_of number (watchers_at s m)) ≡ found
      → (if found then accepted (news_text (map party_label d.members) m number news)
      (with_watchers (found_world env s) s
      d m (after_take number (catalogue_at (found_world env s) m) (watchers_at s m)))
      else refused refusal.NoSuchWatch) ≡ accepted report new → IsAnnounced env s d m number report new
  go false there k = cc
  go true there k =
      record { found = there; text = accepted_report report _ new _ k; next = accepted_state report _ new _ k }

pub reported_so : (env : RunEnvironment) (s : State) (d : Declared) (values : List Value) (report : List ℕ)
    (new : State)
    → told_by (found_world env s) s d values ≡ accepted report new → IsWatched env s d new
reported_so env s d (Text label ∷ Number number ∷ []) report new is =
    let m : ℕ = party_number label d.members in
    let printed = printed_at_so env s d m number report new is in
    record { m = m; call = Take number (catalogue_at (found_world env s) m); next = printed.next }
reported_so env s d values report new is = cc

-- ---- mirrors

-- A line of mirrors was taken: the group and the watchers are as they were found, and the number of mirrors is
-- unchanged.
pub record IsMirrored (env : RunEnvironment) (s : State) (d : Declared) (new : State) : Type 0 where
  pub mirrors : List Mirroring
  pub many : length mirrors ≡ length s.mirrors
  pub next : new ≡ with_mirrors (found_world env s) s d mirrors

one_mirrored : (env : RunEnvironment) (s : State) (d : Declared) (i : ℕ) (m : Mirroring) (new : State)
    → new ≡ with_mirror (found_world env s) s d i m → IsMirrored env s d new
one_mirrored env s d i m new next =
    record { mirrors = set s.mirrors i m; many = length-set s.mirrors i m; next = next }

not_heard : (why : group.Refusal) (report : List ℕ) (new : State) → event_refused why ≡ accepted report new → ⊥
not_heard group.Refusal.NoSuchPacket report new h = cc
not_heard group.Refusal.FetcherBusy report new h = cc
not_heard group.Refusal.FetcherIdle report new h = cc
not_heard group.Refusal.NumbersSpent report new h = cc
not_heard group.Refusal.Foreign report new h = cc
not_heard group.Refusal.NoSuchNumber report new h = cc

-- A mirror has heard, and that is reported.
pub record HasHeard (env : RunEnvironment) (s : State) (d : Declared) (k : ℕ) (label report : List ℕ)
    (new : State) : Type 0 where
  pub text : report ≡ mdeliver_text k label
  pub mirrored : IsMirrored env s d new

pub heard_if_so : (env : RunEnvironment) (s : State) (d : Declared) (o : Option group.Refusal) (k i : ℕ)
    (label report : List ℕ) (new : State) → heard_if o (found_world env s) s d k i label ≡ accepted report new
    → HasHeard env s d k label report new
heard_if_so env s d (Some why) k i label report new h = absurd (not_heard why report new h)
heard_if_so env s d None k i label report new h = record {
  text = accepted_report report _ new _ h;
  mirrored = one_mirrored env s d i
      (mirror_hears (sent_at (found_world env s) k).vector (mirror_of s.mirrors i)) new
      (accepted_state report _ new _ h);
}

pub heard_so : (env : RunEnvironment) (s : State) (d : Declared) (values : List Value) (report : List ℕ) (new : State)
    → heard_by (found_world env s) s d values ≡ accepted report new → IsMirrored env s d new
heard_so env s d (Number k ∷ Text l ∷ []) report new h =
    (heard_if_so env s d (group.unless_sent (found_world env s) k) k (mirror_number l d.mirrors) l report new
    h).mirrored
heard_so env s d values report new h = cc

pub fetched_so : (env : RunEnvironment) (s : State) (d : Declared) (values : List Value) (report : List ℕ) (new : State)
    → fetched_by env (found_world env s) s d values ≡ accepted report new → IsMirrored env s d new
fetched_so env s d (Text l ∷ Number workers ∷ Number tries ∷ Number loss ∷ []) report new h =
    let i : ℕ = mirror_number l d.mirrors in
    one_mirrored env s d i
    (mirror_fetches env.passes (found_world env s) i tries loss (mirror_of s.mirrors i)) new
    (accepted_state report _ new _ h)
fetched_so env s d values report new h = cc

pub listed_so : (env : RunEnvironment) (s : State) (d : Declared) (values : List Value) (report : List ℕ) (new : State)
    → listed_by (found_world env s) s d values ≡ accepted report new → IsMirrored env s d new
listed_so env s d (Text l ∷ []) report new h =
    record { mirrors = s.mirrors; many = refl; next = accepted_state report _ new _ h }
listed_so env s d values report new h = cc

-- An event doesn't change the number of mirrors.
pub many_after : (w : World) (e : EventValue) (mirrors : List Mirroring)
    → length (mirrors_after w e mirrors) ≡ length mirrors
many_after w (EventValue.Settle workers) mirrors = length-map mirrors (mirror_settles w)
many_after w e mirrors = refl
