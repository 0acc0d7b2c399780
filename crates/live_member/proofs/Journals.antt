-- A journal that is one entry longer.
use Rattle.std.proofs.Common.{◌≡◌, ℕ, ◌+◌, ◌<◌, ◌≤◌, List, [], ◌∷◌, ◌++◌, length, refl, ap, sym, ◌∙◌, subst, arith}
use Rattle.std.proofs.Common.{length-append}
use Rattle.std.proofs.lemmas.List.Elements.{All-push}
use Rattle.repo_object.specs.Objects.{NamedContents, Post}
use Rattle.repo_member.specs.MemberState.{MemberState}
use Rattle.repo_member.specs.InGroup.{AreLogs, in_group}
use Rattle.repo_member.specs.ConsistentMembers.{IsConsistentMember}
use Rattle.group_model.specs.Publications.{Logs}
use Rattle.group_model.specs.Member.{Member}
use Rattle.live_member.specs.declared.event.LiveEvent.{LiveEvent}
use Rattle.live_member.specs.declared.event.LiveReply.{LiveReply}
use Rattle.live_member.specs.declared.event.LiveEntry.{LiveEntry}
use Rattle.live_member.specs.Meanings.{Meaning, objects_of, as_posts, logs_at}
use Rattle.live_member.specs.Replay.{Replays, after, reply_of}
use Rattle.live_member.specs.Lives.{IsOfPublishedPart, IsLive, IsKept, ReplaysTo, living, initial_live_member}
use Rattle.live_member.specs.LockedCalls.{entry, StepsBy}

replays_more : (t : Meaning) (j : ℕ) (es : List LiveEntry) (from mid : Member) (e : LiveEvent) (r : LiveReply)
    → Replays t j es from mid → reply_of t j mid e ≡ r → Replays t j (es ++ entry e r ∷ []) from (after t j mid e)
replays_more t j [] from mid e r same is =
    (ap (λ (m : Member). reply_of t j m e) same ∙ is, ap (λ (m : Member). after t j m e) same)
replays_more t j (x ∷ es) from mid e r h is = (h.0, replays_more t j es (after t j from x.event) mid e r h.1 is)

-- an event happens to a member, with its reply
pub record IsAfter (t : Meaning) (e : LiveEvent) (r : LiveReply) (a b : MemberState) : Type 0 where
  pub replied : r ≡ reply_of t a.number (in_group a) e
  pub changed : in_group b ≡ after t a.number (in_group a) e
  pub number : b.number ≡ a.number

pub replays_on : (t : Meaning) (a b : MemberState) (journal : List LiveEntry) (e : LiveEvent) (r : LiveReply)
    → ReplaysTo t journal a → IsAfter t e r a b → ReplaysTo t (journal ++ entry e r ∷ []) b
replays_on t a b journal e r replays is =
    subst (λ (n : ℕ). Replays t n (journal ++ entry e r ∷ []) (in_group (initial_live_member t n)) (in_group b))
    (sym is.number)
    (subst (Replays t a.number (journal ++ entry e r ∷ []) (in_group (initial_live_member t a.number))) (sym is.changed)
    (replays_more t a.number journal (in_group (initial_live_member t a.number)) (in_group a) e r replays
    (sym is.replied)))

-- what stays where nothing is published
pub record IsQuiet (t : Meaning) (a b : MemberState) : Type 0 where
  pub log : b.log ≡ a.log
  pub hidden : b.hidden ≡ a.hidden
  pub draws : b.machine.draws ≤ a.machine.draws + 1
  pub consistent : IsConsistentMember t.group (logs_at t a.number a.log) b

pub lives_on : (t : Meaning) (most : ℕ) (a b : MemberState) (journal : List LiveEntry)
    (unpublished : List NamedContents)
    (e : LiveEvent) (r : LiveReply) → IsLive t most (living a journal unpublished) → length journal < most
    → IsAfter t e r a b → IsOfPublishedPart t e → IsQuiet t a b
    → IsLive t most (living b (journal ++ entry e r ∷ []) unpublished)
lives_on t most a b journal unpublished e r live less is brings quiet =
    let same : logs_at t a.number a.log ≡ logs_at t b.number b.log =
    λ i. logs_at t (sym is.number i) (sym quiet.log i) in
    let long = length-append journal (entry e r ∷ []) in
    record {
      within = live.within;
      replays = replays_on t a b journal e r live.replays is;
      brought = All-push (λ (x : LiveEntry). IsOfPublishedPart t x.event) journal (entry e r) live.brought brings;
      list = ap (λ (l : List Post). l ++ as_posts unpublished) quiet.log ∙ live.list
          ∙ ap (λ (n : ℕ). as_posts (objects_of t n)) (sym is.number);
      logs = subst (AreLogs t.group) same live.logs;
      consistent = subst (λ (ls : Logs). IsConsistentMember t.group ls b) same quiet.consistent;
      hidden = quiet.hidden ∙ live.hidden;
      draws = omega (arith, live.draws, quiet.draws, long);
      room = omega (arith, less, long);
    }

-- a call that publishes nothing, with its entry
module _ (t : Meaning) (most : ℕ) (a b : MemberState) (journal : List LiveEntry) (unpublished : List NamedContents)
    (e : LiveEvent) (r : LiveReply) (less : length journal < most) (is : IsAfter t e r a b)
    (brings : IsOfPublishedPart t e) where
  pub kept_on : (number draw : ℕ) → IsKept t most number draw (living a journal unpublished) → IsQuiet t a b
      → IsKept t most number draw (living b (journal ++ entry e r ∷ []) unpublished)
  kept_on number draw kept quiet = record {
    its_number = kept.its_number ∙ sym is.number;
    its_draw = kept.its_draw;
    live = lives_on t most a b journal unpublished e r kept.live less is brings quiet;
  }

  pub steps_on : (number draw : ℕ) → IsKept t most number draw (living a journal unpublished) → IsQuiet t a b
      → StepsBy t most e (living a journal unpublished) (living b (journal ++ entry e r ∷ []) unpublished) r
  steps_on number draw kept quiet = (
    (λ full. absurd (omega (arith, full, less))),
    (λ room. (
      record { replied = is.replied; changed = is.changed; number = is.number; entered = refl },
      refl,
    )),
    (kept_on number draw kept quiet).live,
  )
