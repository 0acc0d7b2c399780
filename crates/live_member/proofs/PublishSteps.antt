-- A publication keeps what holds under the lock.
use Rattle.std.proofs.Common.{◌≡◌, ℕ, ◌+◌, ◌<◌, ◌≤◌, List, [], ◌∷◌, ◌++◌, length, drop, get_or, set, Some, refl, ap}
use Rattle.std.proofs.Common.{sym}
use Rattle.std.proofs.Common.{◌∙◌, subst, arith, append_assoc, length-append}
use Rattle.std.specs.Prelude.{unwrap_or, slice_get, slice_index}
use Rattle.std.proofs.Math.ListN
use Rattle.std.proofs.Math.Seq.{get_or-append_seam}
use Rattle.std.proofs.lemmas.List.{set-set}
use Rattle.std.proofs.lemmas.List.Elements.{All-push}
use Rattle.std.proofs.lemmas.Option.{slice_get-get_or}
use Rattle.repo_object.specs.Objects.{NamedContents, Post, IsPost, offered}
use Rattle.repo_object.specs.Objects.Post.{Offers}
use Rattle.repo_member.specs.MemberState.{MemberState, member_publishes, next_seq, publication_limit}
use Rattle.repo_member.specs.InGroup.{AreLogs, in_group}
use Rattle.repo_member.specs.Verdicts.{sync_of}
use Rattle.repo_member.specs.InEvents.{IsMemberOf}
use Rattle.repo_member.specs.ConsistentMembers.{IsConsistentMember}
use Rattle.repo_member.proofs.PublicLaws.{publish_is_event, publishes_consistent, logs_grow, consistent_stores}
use Rattle.group_model.specs.Publications.{Logs, no_object, no_post, last_of}
use Rattle.group_model.specs.Member.{Member}
use Rattle.group_model.specs.World.{World}
use Rattle.live_member.specs.declared.event.LiveEvent.TheVariants as event
use Rattle.live_member.specs.declared.event.LiveReply.TheVariants as reply
use Rattle.live_member.specs.declared.event.LiveEntry.{LiveEntry}
use Rattle.live_member.specs.Meanings.{Meaning, objects_of, as_posts, whole_logs, logs_at, world_at, environment}
use Rattle.live_member.specs.Lives.{IsOfPublishedPart, IsLive, IsKept, living}
use Rattle.live_member.specs.Replay.{next_object}
use Rattle.live_member.specs.LockedCalls.{entry, IsNext}
use Rattle.live_member.proofs.Around.{width_whole, number_there, is_member, whole_at, log_at}
use Rattle.live_member.proofs.Journals.{IsAfter, replays_on}

module _ (t : Meaning) (most : ℕ) (a : MemberState) (journal : List LiveEntry) (object : NamedContents)
    (rest : List NamedContents) (draw : ℕ) (live : IsLive t most (living a journal (object ∷ rest)))
    (value : draw ≡ slice_index t.draws a.number) where
  abbrev w : World
  w = world_at t a.number (in_group a)

  abbrev pub b : MemberState
  b = member_publishes t.group (Offers object) 0 draw a

  there : a.number < length t.lists
  there = number_there t a live.logs live.consistent

  inside : a.number < length (whole_logs t)
  inside = omega (arith, there, width_whole t)

  member_is : IsMemberOf w a.number a
  member_is = is_member t a live.logs live.consistent

  whole : get_or (whole_logs t) a.number [] ≡ a.log ++ Offers object ∷ as_posts rest
  whole = whole_at t a.number a.log (object ∷ rest) live.list there

  -- the next object of the list is the first unpublished one
  next_is : next_object t a.number (in_group a) ≡ object
  next_is =
      ap (λ (p : Post). unwrap_or (offered p) no_object)
      (sym (ListN.get_or-map (λ (o : NamedContents). Offers o) (objects_of t a.number) (length a.log) no_object)
      ∙ ap (λ (l : List Post). get_or l (length a.log) no_post) (sym live.list)
      ∙ get_or-append_seam a.log (Offers object) (as_posts rest) no_post)

  pub room_left : length a.log < publication_limit
  room_left =
      let few : length (get_or (whole_logs t) a.number []) ≤ 65535 = live.within.logs.few a.number [] inside in
      let long : length (get_or (whole_logs t) a.number []) ≡ length a.log + length (Offers object ∷ as_posts rest) =
      ap length whole ∙ length-append a.log (Offers object ∷ as_posts rest) in
      omega (arith, few, long)

  is_post : IsPost (length a.log + 1) (Offers object)
  is_post =
      live.within.logs.posts a.number [] inside (length a.log) (Offers object)
      (ap (λ (l : List Post). slice_get l (length a.log)) whole
      ∙ slice_get-get_or (a.log ++ Offers object ∷ as_posts rest) (length a.log) no_post
      (omega (arith, length-append a.log (Offers object ∷ as_posts rest)))
      ∙ ap (λ (p : Post). Some p) (get_or-append_seam a.log (Offers object) (as_posts rest) no_post))

  pub publish_after : IsAfter t event.Publish (reply.Published (next_seq a)) a b
  publish_after = record {
    replied = ap (λ (m : Member). reply.Published (length m.log + 1)) (sym member_is.same);
    changed = sym (
        publish_is_event (environment t) w a.number t.group (next_object t a.number (in_group a)) a member_is
        (consistent_stores t.group (logs_at t a.number a.log) a live.consistent).in_order
        ∙ (λ i. in_group (member_publishes t.group (Offers (next_is i)) 0 (sym value i) a)));
    number = refl;
  }

  grown : set (logs_at t a.number a.log) a.number (a.log ++ Offers object ∷ []) ≡ logs_at t a.number b.log
  grown = set-set (whole_logs t) a.number a.log (a.log ++ Offers object ∷ [])

  logs_later : AreLogs t.group (logs_at t a.number b.log)
  logs_later =
      let here : get_or (logs_at t a.number a.log) a.number [] ≡ a.log =
      log_at t a.number a.log (object ∷ rest) live.list there in
      let last : last_of (logs_at t a.number a.log) a.number ≡ length a.log = ap length here in
      subst (AreLogs t.group) (ap (λ (l : List Post). set (logs_at t a.number a.log) a.number
      (l ++ Offers object ∷ [])) here ∙ grown)
      (logs_grow t.group (logs_at t a.number a.log) a.number (Offers object) live.logs live.consistent.there
      (subst (λ (n : ℕ). IsPost (n + 1) (Offers object)) (sym last) is_post) (omega (arith, last, room_left)))

  pub published_lives : length journal < most
      → IsLive t most (living b (journal ++ entry event.Publish (reply.Published (next_seq a)) ∷ []) rest)
  published_lives less =
      let long = length-append journal (entry event.Publish (reply.Published (next_seq a)) ∷ []) in
      record {
        within = live.within;
        replays = replays_on t a b journal event.Publish (reply.Published (next_seq a)) live.replays publish_after;
        brought = All-push (λ (e : LiveEntry). IsOfPublishedPart t e.event) journal
            (entry event.Publish (reply.Published (next_seq a))) live.brought tt;
        list = append_assoc a.log (Offers object ∷ []) (as_posts rest) ∙ live.list;
        logs = logs_later;
        consistent = subst (λ (ls : Logs). IsConsistentMember t.group ls b) grown
            (publishes_consistent t.group (Offers object) 0 draw (logs_at t a.number a.log) a live.consistent);
        hidden = live.hidden;
        draws = omega (arith, live.draws, long);
        room = omega (arith, less, long);
      }

-- `object` is the first unpublished object, `rest` are the others, and `draw` is the one value of the member's draws
pub record IsFirst (t : Meaning) (most : ℕ) (a : MemberState) (journal : List LiveEntry)
    (unpublished : List NamedContents)
    (object : NamedContents) (rest : List NamedContents) (draw : ℕ) : Type 0 where
  pub first : unpublished ≡ object ∷ rest
  pub live : IsLive t most (living a journal (object ∷ rest))
  pub value : draw ≡ slice_index t.draws a.number

first_and_rest : (xs : List NamedContents) (x : NamedContents) → 0 < length xs → x ≡ get_or xs 0 x
    → xs ≡ x ∷ drop 1 xs
first_and_rest [] x some is = absurd (omega arith)
first_and_rest (y ∷ ys) x some is = ap (λ (z : NamedContents). z ∷ ys) (sym is)

pub is_first : (t : Meaning) (most number draw : ℕ) (a : MemberState) (journal : List LiveEntry)
    (unpublished : List NamedContents) (object : NamedContents)
    → IsKept t most number draw (living a journal unpublished)
    → 0 < length unpublished → object ≡ get_or unpublished 0 object
    → IsFirst t most a journal unpublished object (drop 1 unpublished) draw
is_first t most number draw a journal unpublished object kept some is =
    let first : unpublished ≡ object ∷ drop 1 unpublished = first_and_rest unpublished object some is in
    record {
      first = first;
      live = subst (λ (cs : List NamedContents). IsLive t most (living a journal cs)) first kept.live;
      value = kept.its_draw ∙ ap (slice_index t.draws) kept.its_number;
    }

-- the call and its entry, for whatever the member is afterwards
module _ (t : Meaning) (most : ℕ) (a after : MemberState) (journal : List LiveEntry) (unpublished : List NamedContents)
    (object : NamedContents) (rest : List NamedContents) (draw : ℕ)
    (f : IsFirst t most a journal unpublished object rest draw) (less : length journal < most)
    (new : after ≡ member_publishes t.group (Offers object) 0 draw a) where
  abbrev entries : List LiveEntry
  entries = journal ++ entry event.Publish (reply.Published (next_seq a)) ∷ []

  pub lives_after : IsLive t most (living after entries rest)
  lives_after =
      subst (λ (b : MemberState). IsLive t most (living b entries rest)) (sym new)
      (published_lives t most a journal object rest draw f.live f.value less)

  pub kept_after : (number : ℕ) → IsKept t most number draw (living a journal unpublished)
      → IsKept t most number draw (living after entries rest)
  kept_after number kept = record {
    its_number = kept.its_number ∙ sym (ap (λ (b : MemberState). b.number) new);
    its_draw = kept.its_draw;
    live = lives_after;
  }

  pub is_next : (octets : List ℕ) → octets ≡ sync_of t.group a.number after.known
      → IsNext t most (living a journal unpublished) (living after entries rest) octets
  is_next octets told =
      let is = publish_after t most a journal object rest draw f.live f.value in
      record {
        room = less;
        object = object;
        first = f.first;
        log = ap (λ (b : MemberState). b.log) new;
        reply = reply.Published (next_seq a);
        entered = record {
          replied = is.replied;
          changed = ap in_group new ∙ is.changed;
          number = ap (λ (b : MemberState). b.number) new;
          entered = refl;
        };
        told = told ∙ (λ i. sync_of t.group (sym (ap (λ (b : MemberState). b.number) new) i) after.known);
        live = lives_after;
      }
