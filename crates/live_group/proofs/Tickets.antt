-- The tickets of all actors.
use Rattle.std.proofs.Common.{◌≡◌, ℕ, zero, suc, ◌+◌, ◌*◌, ◌≤◌, List, [], ◌∷◌, ◌++◌, map, length, get_or}
use Rattle.std.proofs.Common.{refl, sym, ap, ◌∙◌, subst, arith}
use Rattle.std.specs.List.{All}
use Rattle.std.proofs.Math.Nat.{suc-mul}
use Rattle.std.proofs.lemmas.List.{map-append, append_assoc, get_or-map, length-map, length-append}
use Rattle.std.proofs.lemmas.List.Sums.{sum_by-append, sum_by-cons}
use Rattle.live_actors.specs.declared.actor.Actor.{Actor}
use Rattle.live_actors.specs.declared.actor.Actor.TheVariants as actor
use Rattle.live_actors.specs.ActorCalls.{Progress, IsActorIn, tickets_of}
use Rattle.live_group.specs.declared.actor_job.Job.{Job}
use Rattle.live_group.specs.declared.actor_job.Job.TheVariants.{Publish, First, Second}
use Rattle.live_group.specs.Jobs.{actor_of, actors_below, all_tickets, IsActorBelow, HasSenders}
use Rattle.live_group.specs.Desks.{tickets_each}
use Rattle.live_group.specs.Outs.{OutView, all_left}

-- those of each member
pub tickets_below : (turns n : ℕ) → all_tickets turns (actors_below n) ≡ n * tickets_each turns
tickets_below turns zero = let none : all_tickets turns (actors_below 0) ≡ 0 = refl in omega (arith, none)
tickets_below turns (suc n) =
    let count : Actor → ℕ = λ a. tickets_of a turns in
    let first = sum_by-cons count (actor.Publish n) (actor.First n ∷ actor.Second n ∷ []) in
    let second = sum_by-cons count (actor.First n) (actor.Second n ∷ []) in
    let third = sum_by-cons count (actor.Second n) [] in
    let both = sum_by-append count (actors_below n) (actor.Publish n ∷ actor.First n ∷ actor.Second n ∷ []) in
    let more = suc-mul n (tickets_each turns) in
    omega (arith, tickets_below turns n, first, second, third, both, more)

module _ {L : Type 0} where
  -- those of the actors before one, of it and of those after it
  pub tickets_through : (turns : ℕ) (before later : List (Job L)) (job : Job L)
      → all_tickets turns (map actor_of (before ++ job ∷ later))
      ≡ all_tickets turns (map actor_of before) + tickets_of (actor_of job) turns
      + all_tickets turns (map actor_of later)
  tickets_through turns before later job =
      let count : Actor → ℕ = λ a. tickets_of a turns in
      let split = ap (all_tickets turns) (map-append actor_of before (job ∷ later)) in
      let both = sum_by-append count (map actor_of before) (actor_of job ∷ map actor_of later) in
      let one = sum_by-cons count (actor_of job) (map actor_of later) in
      omega (arith, split, both, one)

  -- what holds of each that a list was made of holds of what it was made to
  pub of_each : {X : Type 0} (f : X → Job L) (P : Job L → Type 0) (xs : List X) (jobs : List (Job L))
      → map f xs ≡ jobs → All P jobs → All (λ x. P (f x)) xs
  of_each f P xs jobs same all k d less =
      subst P (get_or-map f xs k d (f d) less)
      (subst (λ (js : List (Job L)). P (get_or js k (f d))) (sym same)
      (all k (f d)
      (let wide = length-map xs f in
      let long = ap (λ (js : List (Job L)). length js) same in omega (arith, less, wide, long))))

  -- an actor of a run is one of those that it can have
  pub is_actor_in : (members senders : ℕ) (job : Job L) (p : Progress) → IsActorBelow members job
      → HasSenders members job
      → HasSenders senders job → p.members ≡ members → p.senders ≡ senders → IsActorIn p (actor_of job)
  is_actor_in members senders (Publish publisher) p there all its same those =
      (omega (arith, there, same), those ∙ its ∙ sym all ∙ sym same)
  is_actor_in members senders (First member) p there all its same those = omega (arith, there, same)
  is_actor_in members senders (Second member) p there all its same those = omega (arith, there, same)

-- where none is left in all, none is left of any
pub none_left : (outs : List OutView) → all_left outs ≡ 0 → All (λ (o : OutView). o.left ≡ 0) outs
none_left [] none k d less = absurd (omega (arith, less))
none_left (o ∷ os) none zero d less =
    let one = sum_by-cons (λ (x : OutView). x.left) o os in omega (arith, none, one)
none_left (o ∷ os) none (suc k) d less =
    none_left os (let one = sum_by-cons (λ (x : OutView). x.left) o os in omega (arith, none, one)) k d
    (omega (arith, less))

pub one_more_left : (outs : List OutView) (o : OutView) → all_left (outs ++ o ∷ []) ≡ all_left outs + o.left
one_more_left outs o =
    let both = sum_by-append (λ (x : OutView). x.left) outs (o ∷ []) in
    let one = sum_by-cons (λ (x : OutView). x.left) o [] in omega (arith, both, one)

-- one more has come out
pub out_more : (outs now : List OutView) (o : OutView) (k a b start : ℕ) → now ≡ outs ++ o ∷ []
    → a + all_left outs ≡ start + length outs * k → b + o.left ≡ a + k
    → b + all_left now ≡ start + length now * k
out_more outs now o k a b start is before one =
    let long : length now ≡ suc (length outs) =
    let more = length-append outs (o ∷ []) in omega (arith, ap (λ (os : List OutView). length os) is, more) in
    let many : length now * k ≡ length outs * k + k = ap (λ (n : ℕ). n * k) long ∙ suc-mul (length outs) k in
    let left : all_left now ≡ all_left outs + o.left = ap all_left is ∙ one_more_left outs o in
    omega (arith, many, left, before, one)

pub moved_over : {X Y : Type 0} (f : X → Y) (before now : List X) (x : X) (y : Y) (rest later all : List Y)
    → now ≡ before ++ x ∷ [] → f x ≡ y → map f before ++ rest ≡ all → rest ≡ y ∷ later → map f now ++ later ≡ all
moved_over f before now x y rest later all is its those next =
    ap (λ xs. map f xs ++ later) is
    ∙ ap (λ ys. ys ++ later) (map-append f before (x ∷ []))
    ∙ append_assoc (map f before) (f x ∷ []) later
    ∙ ap (λ z. map f before ++ z ∷ later) its
    ∙ ap (λ ys. map f before ++ ys) (sym next)
    ∙ those

-- the tickets of one more actor
module _ {L : Type 0} (turns : ℕ) (before rest later jobs : List (Job L)) (job : Job L) (those : before ++ rest ≡ jobs)
    (next : rest ≡ job ∷ later) where
  parted : all_tickets turns (map actor_of jobs)
      ≡ all_tickets turns (map actor_of before) + tickets_of (actor_of job) turns
      + all_tickets turns (map actor_of later)
  parted =
      ap (λ (js : List (Job L)). all_tickets turns (map actor_of js))
      (sym (ap (λ (js : List (Job L)). before ++ js) (sym next) ∙ those))
      ∙ tickets_through turns before later job

  pub has_tickets : (a start n : ℕ) → a + all_tickets turns (map actor_of before) ≡ start
      → all_tickets turns (map actor_of jobs) ≤ start → n ≡ tickets_of (actor_of job) turns → n ≤ a
  has_tickets a start n left enough is = omega (arith, parted, left, enough, is)

  pub one_more_job : length before + 1 ≤ length jobs
  one_more_job =
      let long = ap (λ (js : List (Job L)). length js) those in
      let one = ap (λ (js : List (Job L)). length js) next in
      let both = length-append before rest in omega (arith, long, one, both)

-- how many actors there are
pub three_each : (n : ℕ) → length (actors_below n) ≡ n * 3
three_each zero = refl
three_each (suc n) =
    let more = length-append (actors_below n) (actor.Publish n ∷ actor.First n ∷ actor.Second n ∷ []) in
    omega (arith, three_each n, more)

module _ {A : Type 0} (P : A → Type 0) (xs later : List A) (x : A) (is : xs ≡ x ∷ later) (all : All P xs) where
  those : All P (x ∷ later)
  those = subst (All P) is all

  pub first_of : P x
  first_of = those 0 x (omega arith)

  pub others_of : All P later
  others_of k d less = those (suc k) d (omega (arith, less))
