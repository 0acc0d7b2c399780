-- Calls after calls.
use Rattle.std.proofs.Common.{◌≡◌, ℕ, zero, suc, ◌<◌, ◌≤◌, ◌+◌, List, [], ◌∷◌, ◌++◌, length, Bool, true, false}
use Rattle.std.proofs.Common.{Option, Some, None}
use Rattle.std.proofs.Common.{◌≢◌, refl, sym, ap, ◌∙◌, subst, arith, add-one}
use Rattle.std.specs.Prelude.{if◌then◌else◌, ◌==◌, nat_lt, sum_by}
use Rattle.std.specs.List.{AllByRecursion}
use Rattle.std.proofs.lemmas.List.{append_assoc, append-nil, length-append}
use Rattle.std.proofs.lemmas.List.Sums.{sum_by-append, sum_by-cons}
use Rattle.std.proofs.lemmas.Bool.{lt-ltb, le-ltb, eq-eqb, ne_eqb}
use Rattle.repo_plan.specs.declared.part.Part.{Part}
use Rattle.live_member.specs.declared.event.LiveReply.{LiveReply}
use Rattle.live_member.specs.declared.event.LiveReply.TheVariants as reply
use Rattle.live_member.specs.Reports.{Loan}
use Rattle.live_actors.specs.ActorCalls.{Call, Progress, Makes, spends, Turn, EndsClaim, end_calls, fetches, turn_calls}
use Rattle.live_actors.specs.ActorCalls.{fetcher_calls, TakesTurn, Fetches, tells, Heard, hears, hears_some, HearsSome}
use Rattle.live_actors.specs.ActorCalls.{Round, round_calls, rounds_calls, last_calls, PublishesNext, Publishes}
use Rattle.live_actors.specs.ActorCalls.{heard_at_once}
use Rattle.live_actors.specs.ActorCalls.Call.{Pass, Publish, Tell, Take, Hear, Claim, Lend, Accept, Lose}

pub none_made : (r : Progress) → Makes [] r r
none_made r = (refl, refl, sym (append-nil r.calls), omega arith)

pub both_made : (a b c : Progress) (xs ys : List Call) → Makes xs a b → Makes ys b c → Makes (xs ++ ys) a c
both_made a b c xs ys first later = (
  later.0 ∙ first.0,
  later.1 ∙ first.1,
  later.2 ∙ ap (λ cs. cs ++ ys) first.2 ∙ append_assoc a.calls xs ys,
  (let one = first.3 in let two = later.3 in omega (arith, one, two, sum_by-append spends xs ys)),
)

-- ---- a fetcher

fetcher_snoc : (m f : ℕ) (turns : List Turn) (turn : Turn)
    → fetcher_calls m f (turns ++ turn ∷ []) ≡ fetcher_calls m f turns ++ turn_calls m f turn
fetcher_snoc m f [] turn = append-nil (turn_calls m f turn)
fetcher_snoc m f (t ∷ ts) turn =
    ap (λ cs. turn_calls m f t ++ cs) (fetcher_snoc m f ts turn)
    ∙ sym (append_assoc (turn_calls m f t) (fetcher_calls m f ts) (turn_calls m f turn))

length_snoc : {A : Type 0} (xs : List A) (x : A) → length (xs ++ x ∷ []) ≡ length xs + 1
length_snoc xs x = omega (arith, length-append xs (x ∷ []))

ending_is_free : (m f : ℕ) (l : Option Loan) (e : LiveReply) → sum_by spends (end_calls m f l e) ≡ 0
ending_is_free m f None e = refl
ending_is_free m f (Some l) e = refl

-- The calls after a claim take no ticket.
rest_is_free : (m f : ℕ) (r : LiveReply) (l : Option Loan) (e : LiveReply) → sum_by spends (fetches m f r l e) ≡ 0
rest_is_free m f (reply.Claimed p) l e = ending_is_free m f l e
rest_is_free m f (reply.Published n) l e = refl
rest_is_free m f reply.Steady l e = refl
rest_is_free m f reply.Suppressed l e = refl
rest_is_free m f reply.NoPart l e = refl
rest_is_free m f reply.Kept l e = refl
rest_is_free m f (reply.Lost p) l e = refl
rest_is_free m f reply.Refused l e = refl
rest_is_free m f reply.Full l e = refl

turn_spends_one : (m f : ℕ) (turn : Turn) → sum_by spends (turn_calls m f turn) ≡ 1
turn_spends_one m f turn =
    let rest = fetches m f turn.claimed turn.lent turn.ended in
    omega (
      arith,
      rest_is_free m f turn.claimed turn.lent turn.ended,
      sum_by-cons spends (Pass m f) (Claim m f turn.claimed ∷ rest),
      sum_by-cons spends (Claim m f turn.claimed) rest,
    )

turns_spend : (m f : ℕ) (turns : List Turn) → sum_by spends (fetcher_calls m f turns) ≡ length turns
turns_spend m f [] = refl
turns_spend m f (t ∷ ts) =
    omega (
      arith,
      sum_by-append spends (turn_calls m f t) (fetcher_calls m f ts),
      turn_spends_one m f t,
      turns_spend m f ts,
    )

-- Each turn takes a ticket.
pub tickets_left : (m f n : ℕ) (a b : Progress) → Fetches m f n a b → b.left + n ≡ a.left
tickets_left m f n a b is =
    let spent = is.2.3 in let count = is.1 in omega (arith, spent, count, turns_spend m f is.0)

pub no_turn : (m f : ℕ) (r : Progress) → Fetches m f 0 r r
no_turn m f r = ([], refl, none_made r)

pub one_turn : (m f n : ℕ) (a b c : Progress) → Fetches m f n a b → TakesTurn m f b c → Fetches m f (n + 1) a c
one_turn m f n a b c before turn =
    let all = both_made a b c (fetcher_calls m f before.0) (turn_calls m f turn.0) before.2 turn.1 in (
      before.0 ++ turn.0 ∷ [],
      length_snoc before.0 turn.0 ∙ ap (λ (k : ℕ). k + 1) before.1,
      subst (λ cs. Makes cs a c) (sym (fetcher_snoc m f before.0 turn.0)) all,
    )

-- Nothing follows where no part was claimed.
none_follows : (m f : ℕ) (r : LiveReply) (l : Option Loan) (e : LiveReply) → ((p : Part) → r ≡ reply.Claimed p → ⊥)
    → fetches m f r l e ≡ []
none_follows m f (reply.Claimed p) l e not = absurd (not p refl)
none_follows m f (reply.Published n) l e not = refl
none_follows m f reply.Steady l e not = refl
none_follows m f reply.Suppressed l e not = refl
none_follows m f reply.NoPart l e not = refl
none_follows m f reply.Kept l e not = refl
none_follows m f (reply.Lost p) l e not = refl
none_follows m f reply.Refused l e not = refl
none_follows m f reply.Full l e not = refl

module _ (m f : ℕ) (a b c : Progress) (r : LiveReply) (passed : Makes (Pass m f ∷ []) a b)
    (claimed : Makes (Claim m f r ∷ []) b c) where
  begun : Makes (Pass m f ∷ Claim m f r ∷ []) a c
  begun = both_made a b c (Pass m f ∷ []) (Claim m f r ∷ []) passed claimed

  pub turn_unclaimed : ((p : Part) → r ≡ reply.Claimed p → ⊥) → TakesTurn m f a c
  turn_unclaimed not = (
    record { claimed = r; lent = None; ended = reply.Full },
    subst (λ cs. Makes (Pass m f ∷ Claim m f r ∷ cs) a c) (sym (none_follows m f r None reply.Full not)) begun,
  )

  module _ (p : Part) (is : r ≡ reply.Claimed p) (d e h : Progress) (l : Option Loan)
      (again : Makes (Pass m f ∷ []) c d) (lent : Makes (Lend p.publisher p l ∷ []) d e)
      (ended : EndsClaim m f l e h) where
    pub turn_taken : TakesTurn m f a h
    turn_taken =
        let first = subst (λ s. Makes (Pass m f ∷ Claim m f s ∷ []) a c) is begun in
        let claim = Pass m f ∷ Claim m f (reply.Claimed p) ∷ [] in
        let two = both_made a c d claim (Pass m f ∷ []) first again in
        let three = both_made a d e (claim ++ Pass m f ∷ []) (Lend p.publisher p l ∷ []) two lent in
        let four =
        both_made a e h (claim ++ Pass m f ∷ Lend p.publisher p l ∷ []) (end_calls m f l ended.0) three ended.1 in
        (record { claimed = reply.Claimed p; lent = l; ended = ended.0 }, four)

-- How a claim ends.
module _ (m f : ℕ) (a b c : Progress) (e : LiveReply) (passed : Makes (Pass m f ∷ []) a b) where
  pub ends_by_loan : (l : Loan) → Makes (Accept m f l e ∷ []) b c → EndsClaim m f (Some l) a c
  ends_by_loan l made = (e, both_made a b c (Pass m f ∷ []) (Accept m f l e ∷ []) passed made)

  pub ends_by_loss : Makes (Lose m f e ∷ []) b c → EndsClaim m f None a c
  ends_by_loss made = (e, both_made a b c (Pass m f ∷ []) (Lose m f e ∷ []) passed made)

-- ---- the actor that publishes

abbrev heard_calls : ℕ → Heard → List Call
heard_calls m h = Take (Some h.told) ∷ Pass m 0 ∷ Hear m h.told h.replied ∷ []

hears_snoc : (m : ℕ) (hs : List Heard) (h : Heard) → hears m (hs ++ h ∷ []) ≡ hears m hs ++ heard_calls m h
hears_snoc m [] h = refl
hears_snoc m (g ∷ gs) h =
    ap (λ cs. heard_calls m g ++ cs) (hears_snoc m gs h)
    ∙ sym (append_assoc (heard_calls m g) (hears m gs) (heard_calls m h))

-- The member `m` took `n` sync Interests out of its inbox and heard them, and no other call was made.
abbrev pub Hears : ℕ → ℕ → Progress → Progress → Type 0
Hears m n old new = (hs : List Heard) × (length hs ≡ n) × Makes (hears m hs) old new

pub none_heard : (m : ℕ) (r : Progress) → Hears m 0 r r
none_heard m r = ([], refl, none_made r)

abbrev looks : Bool → List Call
looks more = if more then Take None ∷ [] else []

module _ (m n : ℕ) (a b : Progress) (before : Hears m n a b) where
  pub one_heard : (c d e : Progress) (o : Option (List ℕ)) (t : List ℕ) (r : LiveReply) → o ≡ Some t
      → Makes (Take o ∷ []) b c → Makes (Pass m 0 ∷ []) c d → Makes (Hear m t r ∷ []) d e → Hears m (n + 1) a e
  one_heard c d e o t r some took passed heard =
      let h : Heard = record { told = t; replied = r } in
      let took_it = subst (λ p. Makes (Take p ∷ []) b c) some took in
      let two = both_made b c d (Take (Some t) ∷ []) (Pass m 0 ∷ []) took_it passed in
      let three = both_made b d e (Take (Some t) ∷ Pass m 0 ∷ []) (Hear m t r ∷ []) two heard in
      let all = both_made a b e (hears m before.0) (heard_calls m h) before.2 three in (
        before.0 ++ h ∷ [],
        length_snoc before.0 h ∙ ap (λ (k : ℕ). k + 1) before.1,
        subst (λ cs. Makes cs a e) (sym (hears_snoc m before.0 h)) all,
      )

  pub all_heard : n ≡ 64 → HearsSome m a b
  all_heard full = (
    before.0,
    (let is = before.1 in omega arith),
    subst (λ (more : Bool). Makes (hears m before.0 ++ looks more) a b)
        (sym (le-ltb (length before.0) heard_at_once (let is = before.1 in omega arith)))
        (subst (λ cs. Makes cs a b) (sym (append-nil (hears m before.0))) before.2),
  )

  pub some_heard : n < 64 → (c : Progress) (o : Option (List ℕ)) → o ≡ None → Makes (Take o ∷ []) b c → HearsSome m a c
  some_heard fewer c o none took = (
    before.0,
    (let is = before.1 in omega arith),
    subst (λ (more : Bool). Makes (hears m before.0 ++ looks more) a c)
        (sym (lt-ltb (length before.0) heard_at_once (let is = before.1 in omega arith)))
        (both_made a b c (hears m before.0) (Take None ∷ []) before.2
        (subst (λ p. Makes (Take p ∷ []) b c) none took)),
  )

module _ (m : ℕ) (a b c : Progress) (o : Option (List ℕ)) (passed : Makes (Pass m 0 ∷ []) a b)
    (published : Makes (Publish m o ∷ []) b c) where
  first_calls : Makes (Pass m 0 ∷ Publish m o ∷ []) a c
  first_calls = both_made a b c (Pass m 0 ∷ []) (Publish m o ∷ []) passed published

  pub none_published : o ≡ None → PublishesNext m false a c
  none_published none = subst (λ p. Makes (Pass m 0 ∷ Publish m p ∷ []) a c) none first_calls

  pub one_published : (t : List ℕ) → o ≡ Some t → (d e : Progress) (members : ℕ) → members ≡ a.members
      → Makes (tells members m t) c d → HearsSome m d e → PublishesNext m true a e
  one_published t some d e members same those heard =
      let told = subst (λ (k : ℕ). Makes (tells k m t) c d) same those in
      let begun = subst (λ p. Makes (Pass m 0 ∷ Publish m p ∷ []) a c) some first_calls in
      let two = both_made a c d (Pass m 0 ∷ Publish m (Some t) ∷ []) (tells a.members m t) begun told in
      let all =
      both_made a d e (Pass m 0 ∷ Publish m (Some t) ∷ tells a.members m t) (hears_some m heard.0) two heard.2 in
      (record { told = t; heard = heard.0 }, heard.1, all)

rounds_snoc : (members m : ℕ) (rs : List Round) (r : Round)
    → rounds_calls members m (rs ++ r ∷ []) ≡ rounds_calls members m rs ++ round_calls members m r
rounds_snoc members m [] r = append-nil (round_calls members m r)
rounds_snoc members m (q ∷ qs) r =
    ap (λ cs. round_calls members m q ++ cs) (rounds_snoc members m qs r)
    ∙ sym (append_assoc (round_calls members m q) (rounds_calls members m qs) (round_calls members m r))

-- The member `m` made rounds, and no other call was made.
abbrev pub Rounds : ℕ → Progress → Progress → Type 0
Rounds m old new =
    (rs : List Round) × AllByRecursion (λ (r : Round). length r.heard ≤ heard_at_once) rs
    × Makes (rounds_calls old.members m rs) old new

pub no_round : (m : ℕ) (r : Progress) → Rounds m r r
no_round m r = ([], tt, none_made r)

all_snoc : {A : Type 0} (P : A → Type 0) (xs : List A) (x : A) → AllByRecursion P xs → P x
    → AllByRecursion P (xs ++ x ∷ [])
all_snoc P [] x all is = (is, tt)
all_snoc P (y ∷ ys) x all is = (all.0, all_snoc P ys x all.1 is)

module _ (m : ℕ) (a b c : Progress) (before : Rounds m a b) where
  pub one_round : PublishesNext m true b c → Rounds m a c
  one_round next =
      let made = subst (λ (k : ℕ). Makes (round_calls k m next.0) b c) before.2.0 next.2 in
      let all = both_made a b c (rounds_calls a.members m before.0) (round_calls a.members m next.0) before.2 made in (
        before.0 ++ next.0 ∷ [],
        all_snoc (λ (r : Round). length r.heard ≤ heard_at_once) before.0 next.0 before.1 next.1,
        subst (λ cs. Makes cs a c) (sym (rounds_snoc a.members m before.0 next.0)) all,
      )

  pub all_rounds : PublishesNext m false b c → Publishes m a c
  all_rounds last = (
    before.0,
    before.1,
    both_made a b c (rounds_calls a.members m before.0) (last_calls m) before.2 last,
  )

-- ---- a sync Interest to all others

module _ (m n : ℕ) (t : List ℕ) (a b c : Progress) (before : Makes (tells n m t) a b) where
  -- one more member `n` gets the sync Interest, where it isn't the member `m` itself
  pub one_received : n ≢ m → Makes (Tell n t ∷ []) b c → Makes (tells (n + 1) m t) a c
  one_received other told =
      rw add-one (subst (λ (own : Bool). Makes (tells n m t ++ (if own then [] else Tell n t ∷ [])) a c)
      (sym (ne_eqb n m other))
      (both_made a b c (tells n m t) (Tell n t ∷ []) before told))

  -- the member `m` itself gets none
  pub itself_passed : n ≡ m → Makes (tells (n + 1) m t) a b
  itself_passed own =
      rw add-one (subst (λ (its : Bool). Makes (tells n m t ++ (if its then [] else Tell n t ∷ [])) a b)
      (sym (eq-eqb n m own)) (subst (λ cs. Makes cs a b) (sym (append-nil (tells n m t))) before))

-- ---- tickets of an actor that publishes

reports_free : (n m : ℕ) (t : List ℕ) → sum_by spends (tells n m t) ≡ 0
reports_free zero m t = refl
reports_free (suc n) m t =
    omega (
      arith,
      reports_free n m t,
      one_free (n == m),
      sum_by-append spends (tells n m t) (if n == m then [] else Tell n t ∷ []),
    )
  where
    one_free : (b : Bool) → sum_by spends (if b then [] else Tell n t ∷ []) ≡ 0
    one_free true = refl
    one_free false = refl

hears_free : (m : ℕ) (hs : List Heard) → sum_by spends (hears m hs) ≡ 0
hears_free m [] = refl
hears_free m (h ∷ hs) = omega (arith, hears_free m hs)

some_free : (m : ℕ) (hs : List Heard) → sum_by spends (hears_some m hs) ≡ 0
some_free m hs =
    omega (
      arith,
      hears_free m hs,
      look_free (nat_lt (length hs) heard_at_once),
      sum_by-append spends (hears m hs) (looks (nat_lt (length hs) heard_at_once)),
    )
  where
    look_free : (b : Bool) → sum_by spends (looks b) ≡ 0
    look_free true = refl
    look_free false = refl

round_free : (members m : ℕ) (r : Round) → sum_by spends (round_calls members m r) ≡ 0
round_free members m r =
    omega (
      arith,
      reports_free members m r.told,
      some_free m r.heard,
      sum_by-append spends (tells members m r.told) (hears_some m r.heard),
    )

rounds_free : (members m : ℕ) (rs : List Round) → sum_by spends (rounds_calls members m rs) ≡ 0
rounds_free members m [] = refl
rounds_free members m (r ∷ rs) =
    omega (
      arith,
      round_free members m r,
      rounds_free members m rs,
      sum_by-append spends (round_calls members m r) (rounds_calls members m rs),
    )

-- Rounds take no ticket.
pub rounds_left : (m : ℕ) (a b : Progress) → Rounds m a b → b.left ≡ a.left
rounds_left m a b is = let spent = is.2.3 in omega (arith, spent, rounds_free a.members m is.0)

-- An actor that publishes takes one ticket, at the end.
pub last_left : (m : ℕ) (a b : Progress) → Publishes m a b → b.left + 1 ≡ a.left
last_left m a b is =
    let spent = is.2.3 in
    omega (
      arith,
      spent,
      rounds_free a.members m is.0,
      sum_by-append spends (rounds_calls a.members m is.0) (last_calls m),
    )

-- ---- answers

-- What isn't some is none.
pub not_some : {A : Type 0} (o : Option A) → ((x : A) → o ≡ Some x → ⊥) → o ≡ None
not_some None not = refl
not_some (Some x) not = absurd (not x refl)
