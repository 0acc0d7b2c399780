-- Lists of events that are carried out one after another.
use Rattle.std.proofs.Common.{◌≡◌, ℕ, ◌+◌, ◌<◌, Option, List, [], ◌∷◌, ◌++◌, None, length, get_or, take, refl, sym, ap}
use Rattle.std.proofs.Common.{◌∙◌, subst, arith}
use Rattle.std.specs.List.{take-map}
use Rattle.std.proofs.lemmas.List.{length-map, map-append, take_more, take_all, get_or-map}
use Rattle.group_model.specs.Events as group
use Rattle.group_model.specs.World.{Environment, World}
use Rattle.group_model.specs.Steps.{after_event, after_events}
use Rattle.group_model.specs.Refusals.{Refusal, refusal, NamesThose, EventIsTaken, EventsAreTaken}
use Rattle.group_model.specs.Sound.{IsSoundGroup}
use Rattle.group_model.specs.Laws.{NothingDeleted, NothingWanted, AllJoined}
use Rattle.group_model.proofs.PublicLaws.{informed_of_all}
use Rattle.group_model.proofs.Worlds.{sound_after_all}
use Rattle.group_model.proofs.Lasting.{lasts}
use Rattle.repo_member.specs.Groups.{GroupKeys}
use Rattle.bench_world.specs.declared.event.Event.{Event}
use Rattle.bench_world.specs.declared.event.StepFault.{StepFault}
use Rattle.bench_world.specs.EventValues.{EventValue, event_value, group_event}
use Rattle.bench_world.specs.Steps.{EventInRange, IsStepFaultOf}
use Rattle.bench_world.specs.Runs.{event_values, group_events, StandsAsBefore, IsStopped, ListLawFrom}
use Rattle.bench_world.specs.Worlds.{GroupState, world_of}

-- ---- lists

after_append : (env : Environment) (w : World) (xs ys : List group.Event)
    → after_events env w (xs ++ ys) ≡ after_events env (after_events env w xs) ys
after_append env w [] ys = refl
after_append env w (x ∷ xs) ys = after_append env (after_event env w x) xs ys

taken_append : (env : Environment) (w : World) (xs ys : List group.Event) → EventsAreTaken env w xs
    → EventsAreTaken env (after_events env w xs) ys → EventsAreTaken env w (xs ++ ys)
taken_append env w [] ys a b = b
taken_append env w (x ∷ xs) ys a b = (a.0, taken_append env (after_event env w x) xs ys a.1 b)

taken_split : (env : Environment) (w : World) (xs ys : List group.Event) → EventsAreTaken env w (xs ++ ys)
    → EventsAreTaken env w xs × EventsAreTaken env (after_events env w xs) ys
taken_split env w [] ys a = (tt, a)
taken_split env w (x ∷ xs) ys a = let r = taken_split env (after_event env w x) xs ys a.1 in ((a.0, r.0), r.1)

-- ---- one event

pub named_ready : (n : ℕ) (w : World) (g : GroupKeys) (e : EventValue) → length w.members ≡ n → EventInRange n e
    → NamesThose w (group_event g e)
named_ready n w g (EventValue.Publish m name size content) many r = omega (arith, many, r.0)
named_ready n w g (EventValue.Withdraw m s) many r = omega (arith, many, r.0)
named_ready n w g (EventValue.Deliver k m) many r = omega (arith, many, r)
named_ready n w g (EventValue.Sync k) many r = tt
named_ready n w g (EventValue.Advance ms) many r = tt
named_ready n w g (EventValue.Fire m) many r = omega (arith, many, r)
named_ready n w g (EventValue.Restart m) many r = omega (arith, many, r)
named_ready n w g (EventValue.Vector m) many r = omega (arith, many, r)
named_ready n w g (EventValue.Catalogue m) many r = omega (arith, many, r)
named_ready n w g (EventValue.Claim m f) many r = (omega (arith, many, r.0), r.1.from_one, r.1.to_last)
named_ready n w g (EventValue.Lose m f) many r = (omega (arith, many, r.0), r.1.from_one, r.1.to_last)
named_ready n w g (EventValue.Answer m f q) many r =
    ((omega (arith, many, r.0), r.1.from_one, r.1.to_last), omega (arith, many, r.2))
named_ready n w g (EventValue.Fetch m workers tries loss) many r = omega (arith, many, r.0)
named_ready n w g (EventValue.Settle workers) many r = tt
named_ready n w g (EventValue.Dump m p s x) many r = omega (arith, many, r.0)
named_ready n w g (EventValue.Hear m octets) many r = omega (arith, many, r)
named_ready n w g (EventValue.Ask m octets) many r = omega (arith, many, r)
named_ready n w g (EventValue.Feed m f octets) many r = (omega (arith, many, r.0), r.1.from_one, r.1.to_last)
named_ready n w g (EventValue.Order m octets) many r = omega (arith, many, r)
named_ready n w g (EventValue.Insert m client name first last) many r = omega (arith, many, r.0)
named_ready n w g (EventValue.Block m process index content) many r = omega (arith, many, r.0)
named_ready n w g (EventValue.Status m client process) many r = omega (arith, many, r)
named_ready n w g (EventValue.Delete m client name) many r = omega (arith, many, r.0)
named_ready n w g EventValue.Summary many r = tt
named_ready n w g EventValue.Traffic many r = tt

module _ (env : Environment) (g : GroupKeys) (begun : World) (events : List Event) where
  module _ (i : ℕ) (inside : i < length events) (item : Event) (item_is : item ≡ get_or events i item) (mid new : World)
      (n : ℕ) (many : length mid.members ≡ n) (ready : EventInRange n (event_value item))
      (taken : EventsAreTaken env begun (group_events g (event_values (take i events))))
      (world : mid ≡ after_events env begun (group_events g (event_values (take i events)))) where
    one_more : group_events g (event_values (take (i + 1) events))
        ≡ group_events g (event_values (take i events)) ++ group_event g (event_value item) ∷ []
    one_more =
        ap (λ (es : List Event). group_events g (event_values es)) (take_more events i item inside)
        ∙ ap (group_events g) (map-append event_value (take i events) (get_or events i item ∷ []))
        ∙ map-append (group_event g) (event_values (take i events)) (event_value (get_or events i item) ∷ [])
        ∙ ap (λ (e : Event). group_events g (event_values (take i events)) ++ group_event g (event_value e) ∷ [])
        (sym item_is)

    pub at_place : (none : EventValue) → get_or (event_values events) i none ≡ event_value item
    at_place none = get_or-map event_value events i item none inside ∙ ap event_value (sym item_is)

    pub take_values : group_events g (take i (event_values events)) ≡ group_events g (event_values (take i events))
    take_values = ap (group_events g) (take-map event_value i events)

    -- The fault of this event is that of the list.
    pub stopped_here : (out_ : Environment) (begun_ mid_ new_ : GroupState) (fault : StepFault) → env ≡ out_
        → world_of begun_ ≡ begun → begun_.keys ≡ g → world_of mid_ ≡ mid
        → mid_.steps ≡ begun_.steps + i → mid_.keys ≡ begun_.keys
        → IsStepFaultOf (refusal env mid (group_event g (event_value item))) fault
        → StandsAsBefore (event_value item) mid_ new_
        → IsStopped out_ begun_ (event_values events) i fault new_
    stopped_here out_ begun_ mid_ new_ fault out_is begun_is keys_are mid_is steps_are keys_stay cause stands = record {
      inside = let k = length-map events event_value in omega (arith, inside, k);
      taken =
          let e : group_events begun_.keys (take i (event_values events))
          ≡ group_events g (event_values (take i events)) =
          ap (λ (h : GroupKeys). group_events h (take i (event_values events))) keys_are ∙ take_values in
          subst (λ (o : Environment).
          EventsAreTaken o (world_of begun_) (group_events begun_.keys (take i (event_values events)))) out_is
          (subst (λ (w : World). EventsAreTaken env w (group_events begun_.keys (take i (event_values events))))
          (sym begun_is) (subst (EventsAreTaken env begun) (sym e) taken));
      before = mid_;
      steps = steps_are;
      keys = keys_stay;
      world =
          let e : group_events begun_.keys (take i (event_values events))
          ≡ group_events g (event_values (take i events)) =
          ap (λ (h : GroupKeys). group_events h (take i (event_values events))) keys_are ∙ take_values in
          mid_is ∙ world ∙ ap (after_events env begun) (sym e)
          ∙ (λ j. after_events (out_is j) (sym begun_is j) (group_events begun_.keys (take i (event_values events))));
      stands = subst (λ (v : EventValue). StandsAsBefore v mid_ new_) (sym (at_place EventValue.Traffic)) stands;
      because = subst (λ (r : Option Refusal). IsStepFaultOf r fault)
          (λ j. refusal (out_is j) (sym mid_is j) (group_event (sym keys_are j) (sym (at_place EventValue.Traffic) j)))
          cause;
    }

    module _ (not_refused : refusal env mid (group_event g (event_value item)) ≡ None)
        (step_world : new ≡ after_event env mid (group_event g (event_value item))) where
      is_taken : EventIsTaken env mid (group_event g (event_value item))
      is_taken = record { named = named_ready n mid g (event_value item) many ready; taken = not_refused }

      pub taken_more : EventsAreTaken env begun (group_events g (event_values (take (i + 1) events)))
      taken_more =
          subst (EventsAreTaken env begun) (sym one_more)
          (taken_append env begun (group_events g (event_values (take i events)))
          (group_event g (event_value item) ∷ []) taken
          (subst (λ (w : World). EventIsTaken env w (group_event g (event_value item))) world is_taken, tt))

      pub many_more : IsSoundGroup begun → length new.members ≡ n
      many_more sound =
          ap (λ (w : World). length w.members) step_world
          ∙ (lasts env mid (group_event g (event_value item)) is_taken
          (subst IsSoundGroup (sym world)
          (sound_after_all env (group_events g (event_values (take i events))) begun taken sound))).width
          ∙ many

      pub world_more : new ≡ after_events env begun (group_events g (event_values (take (i + 1) events)))
      world_more =
          step_world ∙ ap (λ (w : World). after_event env w (group_event g (event_value item))) world
          ∙ sym (after_append env begun (group_events g (event_values (take i events)))
          (group_event g (event_value item) ∷ []))
          ∙ ap (after_events env begun) (sym one_more)

  -- ---- all of them

  module _ (sound : IsSoundGroup begun) (n : ℕ) (all : n ≡ length events) (last : World)
      (taken : EventsAreTaken env begun (group_events g (event_values (take n events))))
      (world : last ≡ after_events env begun (group_events g (event_values (take n events)))) where
    whole : group_events g (event_values (take n events)) ≡ group_events g (event_values events)
    whole = ap (λ (es : List Event). group_events g (event_values es)) (take_all n events (omega (arith, all)))

    pub all_taken : EventsAreTaken env begun (group_events g (event_values events))
    all_taken = subst (EventsAreTaken env begun) whole taken

    pub all_world : last ≡ after_events env begun (group_events g (event_values events))
    all_world = world ∙ ap (after_events env begun) whole

    pub all_joined : ListLawFrom env begun (group_events g (event_values events)) last
    all_joined first later e tells hidden wanted =
        let split = taken_split env begun first later (subst (EventsAreTaken env begun) e all_taken) in
        let last_is : last ≡ after_events env (after_events env begun first) later =
        all_world ∙ ap (after_events env begun) e ∙ after_append env begun first later in
        subst AllJoined (sym last_is)
        (informed_of_all env (after_events env begun first) (sound_after_all env first begun split.0 sound) later
        split.1
        tells
        (subst NothingDeleted last_is hidden) (subst NothingWanted last_is wanted))
