-- The actors of one member after the other.
use Rattle.std.proofs.Common.{◌≡◌, ℕ, zero, suc, ◌+◌, ◌<◌, ◌≤◌, List, [], ◌∷◌, ◌++◌}
use Rattle.std.proofs.Common.{map, length, drop, get_or, sym}
use Rattle.std.proofs.Common.{ap, ◌∙◌, subst, arith, append_assoc, drop-cons, add-one}
use Rattle.std.specs.List.{All}
use Rattle.std.proofs.lemmas.List.{map-append, get_or-map, length-map}
use Rattle.std.proofs.lemmas.List.Elements.{All-push, All-append, All-cons, All-nil, All-weaker}
use Rattle.live_inbox.specs.Ends.{InboxView}
use Rattle.live_group.specs.declared.actor_job.PublisherEnds.{PublisherEnds}
use Rattle.live_group.specs.declared.actor_job.Job.{Job}
use Rattle.live_group.specs.declared.actor_job.Job.TheVariants.{Publish, First, Second}
use Rattle.live_group.specs.Senders.{SenderView, ReceiverView, OpenedView, HavePorts, HaveCapacity, inbox_capacity}
use Rattle.live_actors.specs.declared.actor.Actor.{Actor}
use Rattle.live_actors.specs.declared.actor.Actor.TheVariants as actor
use Rattle.live_group.specs.Jobs.{member_of, actor_of, actors_below, IsWired, IsActorBelow, HasSenders, CanBeDone}
use Rattle.live_group.specs.Jobs.{AreJobs}
use Rattle.live_group.proofs.Dealing.{inboxes_of, inboxes_of_lines, inboxes_of_ears}

below : (n : ℕ) → All (λ (a : Actor). member_of a < n) (actors_below n)
below zero = All-nil (λ (a : Actor). member_of a < 0)
below (suc n) =
    let P : Actor → Type 0 = λ a. member_of a < suc n in
    All-append P (actors_below n) (actor.Publish n ∷ actor.First n ∷ actor.Second n ∷ [])
    (All-weaker (λ (a : Actor). member_of a < n) P (λ a less. omega arith) (actors_below n) (below n))
    (All-cons P (actor.Publish n) (actor.First n ∷ actor.Second n ∷ []) (omega arith)
    (All-cons P (actor.First n) (actor.Second n ∷ []) (omega arith)
    (All-cons P (actor.Second n) [] (omega arith) (All-nil P))))

module _ {L : Type 0} where
  -- the actors of the first `n` members, and the inboxes' mouths for the other members
  pub record AreWired (members n : ℕ) (inboxes : List InboxView) (opened : List OpenedView) (jobs : List (Job L))
      (rest : List ReceiverView) : Type 0 where
    pub width : length inboxes ≡ members
    pub capacity : HaveCapacity inbox_capacity inboxes
    pub left : n + length rest ≡ members
    pub actors : map actor_of jobs ≡ actors_below n
    pub wired : All (IsWired inboxes) jobs
    pub ears : inboxes_of_ears rest ≡ drop n inboxes
    pub opened_those : inboxes_of opened ≡ inboxes
    pub ports : (k : ℕ) → n + k ≡ members → HavePorts k opened

  module _ (members n : ℕ) (inboxes : List InboxView) (opened now : List OpenedView) (jobs : List (Job L))
      (rest later : List ReceiverView) (publisher : PublisherEnds L) (is : AreWired members n inboxes opened jobs rest)
      (next : rest ≡ publisher.receiver ∷ later) (number : publisher.member ≡ n)
      (senders : inboxes_of_lines publisher.senders.items ≡ inboxes_of opened)
      (same : inboxes_of now ≡ inboxes_of opened)
      (fewer : (k : ℕ) → HavePorts (k + 1) opened → HavePorts k now) where
    one_left : n + (1 + length later) ≡ members
    one_left = let long = ap (λ (es : List ReceiverView). length es) next in let left = is.left in omega arith

    pub there : n < length inboxes
    there = let wide = is.width in omega (arith, one_left)

    both : (d : InboxView)
        → get_or inboxes n d ∷ drop (suc n) inboxes ≡ publisher.receiver.inbox ∷ inboxes_of_ears later
    both d = sym (drop-cons inboxes n d there) ∙ sym is.ears ∙ ap inboxes_of_ears next

    is_wired : IsWired inboxes (Publish publisher)
    is_wired = (
      senders ∙ is.opened_those,
      λ d. let e = both d in ap (λ (k : ℕ). get_or inboxes k d) number ∙ cc,
    )

    abbrev pub after : List (Job L)
    after = ((jobs ++ Publish publisher ∷ []) ++ First n ∷ []) ++ Second n ∷ []

    three : after ≡ jobs ++ Publish publisher ∷ First n ∷ Second n ∷ []
    three =
        append_assoc (jobs ++ Publish publisher ∷ []) (First n ∷ []) (Second n ∷ [])
        ∙ append_assoc jobs (Publish publisher ∷ []) (First n ∷ Second n ∷ [])

    suc_actors : map actor_of after ≡ actors_below (suc n)
    suc_actors =
        ap (λ (js : List (Job L)). map actor_of js) three
        ∙ map-append actor_of jobs (Publish publisher ∷ First n ∷ Second n ∷ [])
        ∙ ap (λ (k : ℕ). map actor_of jobs ++ actor.Publish k ∷ actor.First n ∷ actor.Second n ∷ []) number
        ∙ ap (λ (those : List Actor). those ++ actor.Publish n ∷ actor.First n ∷ actor.Second n ∷ []) is.actors

    more_actors : map actor_of after ≡ actors_below (n + 1)
    more_actors = rw add-one suc_actors

    ears_left : inboxes_of_ears later ≡ drop (n + 1) inboxes
    ears_left = rw add-one (let e = both publisher.receiver.inbox in cc)

    pub one_wired : AreWired members (n + 1) inboxes now after later
    one_wired = record {
      width = is.width;
      capacity = is.capacity;
      left = let left = one_left in omega arith;
      actors = more_actors;
      wired =
          All-push (IsWired inboxes) ((jobs ++ Publish publisher ∷ []) ++ First n ∷ []) (Second n)
          (All-push (IsWired inboxes) (jobs ++ Publish publisher ∷ []) (First n)
          (All-push (IsWired inboxes) jobs (Publish publisher) is.wired is_wired) tt)
          tt;
      ears = ears_left;
      opened_those = same ∙ is.opened_those;
      ports = λ k left. fewer k (is.ports (k + 1) (omega arith));
    }

  -- each inbox has a port for the next member
  pub some_ports : (members n : ℕ) (inboxes : List InboxView) (opened : List OpenedView) (jobs : List (Job L))
      (rest later : List ReceiverView) (receiver : ReceiverView) → AreWired members n inboxes opened jobs rest → rest
      ≡ receiver ∷ later
      → All (λ (o : OpenedView). 0 < length o.ports) opened
  some_ports members n inboxes opened jobs rest later receiver is next k d less =
      let long = ap (λ (es : List ReceiverView). length es) next in
      let left = is.left in
      let have = is.ports (1 + length later) (omega arith) k d less in
      omega (arith, have)

  -- each actor is one of these members'
  actors_there : (members : ℕ) (jobs : List (Job L)) → map actor_of jobs ≡ actors_below members
      → All (IsActorBelow members) jobs
  actors_there members jobs same k job less =
      let P : Actor → Type 0 = λ a. member_of a < members in
      let wide = length-map jobs actor_of in
      subst P
      (ap (λ (those : List Actor). get_or those k (actor_of job)) (sym same)
      ∙ get_or-map actor_of jobs k job (actor_of job) less)
      (below members k (actor_of job) (let long = ap (λ (those : List Actor). length those) same in omega arith))

  -- the first actor of each has a line to each inbox
  lines_there : (members : ℕ) (inboxes : List InboxView) (jobs : List (Job L)) → length inboxes ≡ members
      → All (IsWired inboxes) jobs → All (HasSenders members) jobs
  lines_there members inboxes jobs wide wired = All-weaker (IsWired inboxes) (HasSenders members) has jobs wired where
    has : (job : Job L) → IsWired inboxes job → HasSenders members job
    has (Publish publisher) is =
        let long = ap (λ (is : List InboxView). length is) is.0 in
        omega (arith, wide, long, length-map publisher.senders.items (λ (l : SenderView). l.inbox))
    has (First member) is = tt
    has (Second member) is = tt

  -- so each job can be done, where each member has a seat
  pub jobs_there : (members seats count : ℕ) → members ≡ seats → seats ≡ count → seats ≤ 16 → (jobs : List (Job L))
      → AreJobs members jobs → All (CanBeDone seats count) jobs
  jobs_there members seats count same all few jobs are k job less = record {
    members = all;
    few = few;
    actor =
        subst (λ (n : ℕ). IsActorBelow n (get_or jobs k job)) same
        (actors_there members jobs are.actors k job less);
    senders =
        subst (λ (n : ℕ). HasSenders n (get_or jobs k job)) same
        (lines_there members are.inboxes jobs are.width are.wired k job less);
  }
