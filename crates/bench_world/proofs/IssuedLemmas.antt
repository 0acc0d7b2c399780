-- Which commands were made, also when one more is.
use Rattle.std.proofs.Common.{◌≡◌, ℕ, ◌<◌, ◌≤◌, Bool, true, false, ◌||◌, ◌&&◌, List, [], ◌∷◌, ◌++◌, ◌⊎◌, inl, inr}
use Rattle.std.proofs.Common.{length, length-append, get_or, Option, None, Some, refl, sym, ap, ◌∙◌, subst, arith}
use Rattle.std.proofs.Common.{if◌then◌else◌}
use Rattle.std.specs.Prelude.{Result, Ok, Err, slice_get, ◌==◌}
use Rattle.std.specs.List.{list_any, All}
use Rattle.std.proofs.Math.Bool.{or-false}
use Rattle.std.proofs.lemmas.Bool.{true≢false}
use Rattle.std.proofs.lemmas.List.{map-append, get_or_append_left}
use Rattle.std.proofs.lemmas.List.Elements.{All-head, All-tail, All-push}
use Rattle.std.proofs.lemmas.List.Folds.{list_any-append}
use Rattle.std.proofs.lemmas.Option.{get_or_from_slice_get}
use Rattle.indexmap.specs.IndexSet.{insert_key}
use Rattle.repo_command.specs.declared.command.Command.{Command}
use Rattle.group_model.specs.World.{World}
use Rattle.group_model.specs.Refusals.{Refusal, unless, if_unissued}
use Rattle.bench_world.specs.declared.event.EventError.{EventError}
use Rattle.bench_world.specs.declared.event.EventError.TheVariants as fault
use Rattle.bench_world.specs.declared.issued.IssuedCommand.{IssuedCommand}
use Rattle.bench_world.specs.Commanding.{is_that, may_order}
use Rattle.bench_world.specs.contracts.issued.IssuedCommandEq.TheImpl.Laws.{laws-law}
use Rattle.bench_world.specs.IssuedCommands.{issued_of, is_same, derived_is_equal, same_is}
use Rattle.bench_world.specs.IssuedFields.{no_command, commands_made}
use Rattle.bench_world.specs.Steps.{IsFaultOf}

-- ---- the group's test of one that was made

-- Both are the same where the group has the second as that command.
pub that_is_same : (a b : IssuedCommand) → is_that (a.member, a.client, a.command) (issued_of b) ≡ is_same a b
that_is_same a b =
    ap (λ (t : Bool). (b.member == a.member) && ((b.client == a.client) && t))
    (sym (derived_is_equal b.command a.command))
    ∙ (laws-law).symm b a

-- ---- one command more is put in

module _ (ks : List IssuedCommand) (new : IssuedCommand) where
  abbrev more : List IssuedCommand
  more = insert_key is_same ks new

  longer : length ks ≤ length more
  longer = by (list_any (is_same new) ks)
    where
      by : (b : Bool) → length ks ≤ length (if b then ks else ks ++ new ∷ [])
      by true = omega arith
      by false = omega (arith, length-append ks (new ∷ []))

  kept : (k : ℕ) → k < length ks → get_or more k no_command ≡ get_or ks k no_command
  kept k lt = by (list_any (is_same new) ks)
    where
      by : (b : Bool) → get_or (if b then ks else ks ++ new ∷ []) k no_command ≡ get_or ks k no_command
      by true = refl
      by false = get_or_append_left ks (new ∷ []) no_command k lt

  -- it is there then, and no other that wasn't
  put : (c : IssuedCommand) → list_any (is_same c) more ≡ (list_any (is_same c) ks || is_same c new)
  put c = by (list_any (is_same new) ks) refl
    where
      found : (b : Bool) → is_same c new ≡ b → list_any (is_same new) ks ≡ true
          → list_any (is_same c) ks ≡ (list_any (is_same c) ks || b)
      found true e there =
          let yes : list_any (is_same c) ks ≡ true =
          ap (λ (x : IssuedCommand). list_any (is_same x) ks) (same_is c new e) ∙ there in
          rw yes refl
      found false e there = sym (or-false (list_any (is_same c) ks))

      by : (b : Bool) → list_any (is_same new) ks ≡ b
          → list_any (is_same c) (if b then ks else ks ++ new ∷ []) ≡ (list_any (is_same c) ks || is_same c new)
      by true e = found (is_same c new) refl e
      by false e =
          list_any-append (is_same c) ks (new ∷ [])
          ∙ ap (λ (b : Bool). list_any (is_same c) ks || b) (or-false (is_same c new))

  same_before : (made : List ℕ) → All (λ k. k < length ks) made → commands_made more made ≡ commands_made ks made
  same_before [] within = refl
  same_before (k ∷ rest) within =
      let here = kept k (All-head (λ k. k < length ks) k rest within) in
      let after = same_before rest (All-tail (λ k. k < length ks) k rest within) in
      λ i. issued_of (here i) ∷ after i

  module _ (made old : List ℕ) (k : ℕ) (pushed : made ≡ old ++ k ∷ []) (inside : k < length more)
      (stands : get_or more k no_command ≡ new) (within : All (λ j. j < length ks) old) where
    made_more : commands_made more made ≡ commands_made ks old ++ issued_of new ∷ []
    made_more =
        ap (commands_made more) pushed ∙ map-append (λ j. issued_of (get_or more j no_command)) old (k ∷ [])
        ∙ (λ i. same_before old within i ++ issued_of (stands i) ∷ [])

    within_more : All (λ j. j < length more) made
    within_more =
        rw pushed
        (All-push (λ j. j < length more) old k (λ j d h. let lt = within j d h in omega (arith, lt, longer)) inside)

    answers_more : ((c : IssuedCommand)
        → list_any (is_that (c.member, c.client, c.command)) (commands_made ks old) ≡ list_any (is_same c) ks)
        → (c : IssuedCommand)
        → list_any (is_that (c.member, c.client, c.command)) (commands_made more made) ≡ list_any (is_same c) more
    answers_more answers c =
        ap (list_any (is_that (c.member, c.client, c.command))) made_more
        ∙ list_any-append (is_that (c.member, c.client, c.command)) (commands_made ks old) (issued_of new ∷ [])
        ∙ (λ i. answers c i || (ap (λ (t : Bool). t || false) (that_is_same c new) ∙ or-false (is_same c new)) i)
        ∙ sym (put c)

-- What the fields are then.
pub record PutIn (ks more : List IssuedCommand) (new : IssuedCommand) (made old : List ℕ) : Type 0 where
  pub listed : commands_made more made ≡ commands_made ks old ++ issued_of new ∷ []
  pub within : All (λ j. j < length more) made
  pub answers : ((c : IssuedCommand)
      → list_any (is_that (c.member, c.client, c.command)) (commands_made ks old) ≡ list_any (is_same c) ks)
      → (c : IssuedCommand)
      → list_any (is_that (c.member, c.client, c.command)) (commands_made more made) ≡ list_any (is_same c) more

pub put_in : (ks keys : List IssuedCommand) (new : IssuedCommand) (made old : List ℕ) (k : ℕ)
    → keys ≡ insert_key is_same ks new
    → made ≡ old ++ k ∷ [] → k < length keys
    → (c : IssuedCommand) × (slice_get keys k ≡ Some c) × (is_same new c ≡ true)
    → All (λ j. j < length ks) old → PutIn ks keys new made old
put_in ks keys new made old k keys_are pushed inside (c, at, same) within =
    let stands : get_or keys k no_command ≡ new =
    get_or_from_slice_get keys k c no_command at ∙ sym (same_is new c same) in
    let inside_more : k < length (insert_key is_same ks new) =
    subst (λ (xs : List IssuedCommand). k < length xs) keys_are inside in
    let stands_more : get_or (insert_key is_same ks new) k no_command ≡ new =
    subst (λ (xs : List IssuedCommand). get_or xs k no_command ≡ new) keys_are stands in
    let so : PutIn ks (insert_key is_same ks new) new made old = record {
      listed = made_more ks new made old k pushed inside_more stands_more within;
      within = within_more ks new made old k pushed inside_more stands_more within;
      answers = answers_more ks new made old k pushed inside_more stands_more within;
    } in
    subst (λ (xs : List IssuedCommand). PutIn ks xs new made old) (sym keys_are) so

-- ---- what may be carried out

-- An order that may be carried out isn't refused, and another is foreign.
pub may_taken : (w : World) (m : ℕ) (r : Result (ℕ × Command) ℕ) → may_order w.issued m r ≡ true
    → if_unissued w m r ≡ None
may_taken w m (Ok order) e = ap (λ (b : Bool). unless b Refusal.Foreign) e
may_taken w m (Err code) e = refl

may_foreign : (w : World) (m : ℕ) (r : Result (ℕ × Command) ℕ) → may_order w.issued m r ≡ false
    → if_unissued w m r ≡ Some Refusal.Foreign
may_foreign w m (Ok order) e = ap (λ (b : Bool). unless b Refusal.Foreign) e
may_foreign w m (Err code) e = absurd (true≢false e)

-- An order that isn't carried out ran out of memory, or is foreign.
pub order_fault : (w : World) (m : ℕ) (r : Result (ℕ × Command) ℕ) (received : EventError)
    → (received ≡ fault.NoMemory) ⊎ ((received ≡ fault.Foreign) × (may_order w.issued m r ≡ false))
    → IsFaultOf (if_unissued w m r) received
order_fault w m r received (inl memory) = subst (IsFaultOf (if_unissued w m r)) (sym memory) tt
order_fault w m r received (inr (foreign, e)) =
    subst (IsFaultOf (if_unissued w m r)) (sym foreign)
    (subst (λ (why : Option Refusal). IsFaultOf why fault.Foreign) (sym (may_foreign w m r e)) refl)
