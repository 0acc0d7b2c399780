-- What commands and blocks make of insertion processes.
use Rattle.std.proofs.Common.{◌≡◌, inl, inr, ℕ, ◌+◌, ◌-◌, Bool, true, false, cond, not, ◌&&◌, List, [], ◌∷◌, map}
use Rattle.std.proofs.Common.{length, Option, Some, None, Result, Ok, Err, is_some, refl, sym, ap, ◌∙◌, subst, arith}
use Rattle.std.specs.Prelude.{nat_le, nat_lt, unwrap_or, IfOk}
use Rattle.std.specs.List.{All}
use Rattle.std.specs.Ordering.{nat_cmp, eq_by_cmp}
use Rattle.std.proofs.lemmas.Bool.{true≢false, and_parts, leb-true, ltb-true}
use Rattle.std.proofs.lemmas.List.{length-map}
use Rattle.std.proofs.lemmas.List.Elements.{All-cons, All-nil}
use Rattle.ndn_name.specs.Names.{Component, IsName}
use Rattle.sorted_lists.specs.SortedList.{value_of, with_value}
use Rattle.sorted_lists.proofs.Orders.{exact_numbers}
use Rattle.sorted_lists.proofs.Ranges.{length-numbers}
use Rattle.sorted_lists.proofs.Sets.{In, value_of-with_value}
use Rattle.repo_plan.proofs.Whole.{each_all}
use Rattle.repo_object.specs.Objects.{is_object_name, IsContent, IsObject}
use Rattle.repo_command.specs.declared.command.Command.{Command}
use Rattle.repo_command.specs.declared.command.Command.TheVariants.{Insert, Check, Delete}
use Rattle.repo_command.specs.Commands.{is_command, CommandIsSpelled}
use Rattle.repo_object.specs.Objects.Post.{Offers}
use Rattle.repo_process.specs.Processes.{Process, BlockState, starting, indexes, has_index, has_block, is_whole}
use Rattle.repo_process.specs.Processes.{with_block, object_of, closed, with_it, block_in, block_state}
use Rattle.repo_process.specs.Processes.BlockState.{Unknown, Already, Waiting, Whole}
use Rattle.repo_process.specs.Insertions.{Insertions, next_number, starts, with_process}
use Rattle.repo_member.specs.Groups.{GroupKeys}
use Rattle.repo_member.specs.MemberState.{MemberState, member_publishes, member_ends_insertions}
use Rattle.repo_member.specs.Commanded.{order_of, member_state_starts, member_obeys, member_after_order}
use Rattle.repo_member.specs.Blocks.{IsWithinLimits, AreWithinLimits, member_block, member_keeps, after_block}
use Rattle.repo_member.specs.Blocks.{member_blocks}
use Rattle.repo_member.proofs.OrderLemmas.{orders_within}
use Rattle.repo_member.proofs.HeldParts.{IsReached, reached_insertions}
use Rattle.repo_member.proofs.PublishedParts.{reached_publishes}
use Rattle.repo_member.proofs.HiddenParts.{reached_deletes}

-- ---- processes within their limits

-- one process more, or another under a number
pub within_with : (insertions : Insertions) (number : ℕ) (p : Process) → IsWithinLimits p
    → AreWithinLimits insertions.processes → AreWithinLimits (with_process number p insertions).processes
within_with insertions number p is are n q found =
    go (eq_by_cmp nat_cmp n number)
    (sym (value_of-with_value exact_numbers number p insertions.processes n) ∙ found) where
      go : (b : Bool) → cond b (Some p) (value_of nat_cmp insertions.processes n) ≡ Some q → IsWithinLimits q
      go true h = let same : p ≡ q = cc in subst IsWithinLimits same is
      go false h = are n q h

begun_within : (name : List Component) (first last : ℕ) → IsName name → is_command (Insert name first last) ≡ true
    → IsWithinLimits (starting name first last)
begun_within name first last valid is =
    let parts = and_parts (is_object_name name) (nat_le first last && nat_lt (last - first) 200) is in
    let range = and_parts (nat_le first last) (nat_lt (last - first) 200) parts.1 in
    record {
      name = valid;
      named = parts.0;
      few =
          omega (
            arith,
            length-numbers first (last + 1 - first),
            leb-true first last range.0,
            ltb-true (last - first) 200 range.1,
          );
      contents = λ index content found. absurd cc;
    }

pub closed_within : (p : Process) → IsWithinLimits p → IsWithinLimits (closed p)
closed_within p is =
    record { name = is.name; named = is.named; few = is.few; contents = λ index content found. absurd cc }

pub block_within : (index : ℕ) (content : List ℕ) (p : Process) → IsContent content → IsWithinLimits p
    → IsWithinLimits (with_block index content p)
block_within index content p is within = go (has_block p index) where
  go : (b : Bool) → IsWithinLimits (cond b p (record p { blocks = with_value nat_cmp index content p.blocks }))
  go true = within
  go false = record {
    name = within.name;
    named = within.named;
    few = within.few;
    contents =
        λ i found there. at i found (eq_by_cmp nat_cmp i index)
        (sym (value_of-with_value exact_numbers index content p.blocks i) ∙ there);
  } where
    at : (i : ℕ) (found : List ℕ) (b : Bool) → cond b (Some content) (value_of nat_cmp p.blocks i) ≡ Some found
        → IsContent found
    at i found true h = let same : content ≡ found = cc in subst IsContent same is
    at i found false h = within.contents i found h

-- ---- a block that is received

-- a block of an unpublished process, which then has all of its blocks or not
pub record Comes (processes : List (ℕ × Process)) (number index : ℕ) (content : List ℕ) (p : Process) (whole : Bool)
    : Type 0 where
  pub before : Process
  pub there : value_of nat_cmp processes number ≡ Some before
  pub unpublished : before.published ≡ false
  pub within : has_index before index ≡ true
  pub is : p ≡ with_block index content before
  pub has_all : is_whole p ≡ whole

waiting_is : (p q : Process) → Waiting p ≡ Waiting q → p ≡ q
waiting_is p q h = cc

whole_is : (p q : Process) → Whole p ≡ Whole q → p ≡ q
whole_is p q h = cc

module _ (processes : List (ℕ × Process)) (number index : ℕ) (content : List ℕ) (p : Process) where
  comes_as : (state : BlockState) (whole : Bool) → ((q : Process) → with_it q ≡ state → (q ≡ p) × (is_whole q ≡ whole))
      → (Unknown ≡ state → ⊥) → (Already ≡ state → ⊥)
      → block_state processes number index content ≡ state → Comes processes number index content p whole
  comes_as state whole from no_unknown no_already h = go (value_of nat_cmp processes number) refl h where
    published : (before : Process) → value_of nat_cmp processes number ≡ Some before → has_index before index ≡ true
        → (b : Bool) → before.published ≡ b
        → cond b Already (with_it (with_block index content before)) ≡ state
        → Comes processes number index content p whole
    published before e i true q k = absurd (no_already k)
    published before e i false q k =
        let is = from (with_block index content before) k in
        record {
          before = before;
          there = e;
          unpublished = q;
          within = i;
          is = sym is.0;
          has_all = ap is_whole (sym is.0) ∙ is.1;
        }

    inside : (before : Process) → value_of nat_cmp processes number ≡ Some before → (b : Bool)
        → has_index before index ≡ b
        → cond (not b) Unknown (cond before.published Already (with_it (with_block index content before))) ≡ state
        → Comes processes number index content p whole
    inside before e false i k = absurd (no_unknown k)
    inside before e true i k = published before e i before.published refl k

    go : (o : Option Process) → value_of nat_cmp processes number ≡ o → block_in index content o ≡ state
        → Comes processes number index content p whole
    go None e k = absurd (no_unknown k)
    go (Some before) e k = inside before e (has_index before index) refl k

  from_waiting : (q : Process) → with_it q ≡ Waiting p → (q ≡ p) × (is_whole q ≡ false)
  from_waiting q h = go (is_whole q) refl h where
    go : (b : Bool) → is_whole q ≡ b → cond b (Whole q) (Waiting q) ≡ Waiting p → (q ≡ p) × (is_whole q ≡ false)
    go true e k = absurd cc
    go false e k = (waiting_is q p k, e)

  from_whole : (q : Process) → with_it q ≡ Whole p → (q ≡ p) × (is_whole q ≡ true)
  from_whole q h = go (is_whole q) refl h where
    go : (b : Bool) → is_whole q ≡ b → cond b (Whole q) (Waiting q) ≡ Whole p → (q ≡ p) × (is_whole q ≡ true)
    go true e k = (whole_is q p k, e)
    go false e k = absurd cc

  pub comes_waiting : block_state processes number index content ≡ Waiting p
      → Comes processes number index content p false
  comes_waiting h = comes_as (Waiting p) false from_waiting (λ e. cc) (λ e. cc) h

  pub comes_whole : block_state processes number index content ≡ Whole p → Comes processes number index content p true
  comes_whole h = comes_as (Whole p) true from_whole (λ e. cc) (λ e. cc) h

  pub comes_within : (whole : Bool) → IsContent content → AreWithinLimits processes
      → Comes processes number index content p whole → IsWithinLimits p
  comes_within whole is are comes =
      subst IsWithinLimits (sym comes.is)
      (block_within index content comes.before is (are number comes.before comes.there))

-- a process that has all of its blocks is an object
pub object_within : (p : Process) → IsWithinLimits p → is_whole p ≡ true → IsObject (object_of p)
object_within p is whole = record {
  name = is.name;
  named = is.named;
  few = omega (arith, length-map (indexes p) content_at, is.few);
  contents = contents (indexes p) (λ index i. each_all (has_block p) (indexes p) whole index i);
} where
  content_at : ℕ → List ℕ
  content_at index = unwrap_or (value_of nat_cmp p.blocks index) []

  one : (index : ℕ) (o : Option (List ℕ)) → value_of nat_cmp p.blocks index ≡ o → is_some o ≡ true
      → IsContent (unwrap_or o [])
  one index None e h = absurd (true≢false (sym h))
  one index (Some content) e h = is.contents index content e

  contents : (xs : List ℕ) → ((index : ℕ) → In index xs → has_block p index ≡ true) → All IsContent (map content_at xs)
  contents [] each = All-nil IsContent
  contents (x ∷ xs) each =
      All-cons IsContent (content_at x) (map content_at xs)
      (one x (value_of nat_cmp p.blocks x) refl (each x (inl refl))) (contents xs (λ index i. each index (inr i)))

-- ---- a member that calls reach

reached_starts : (g : GroupKeys) (name : List Component) (first last : ℕ) (a : MemberState) → IsName name
    → is_command (Insert name first last) ≡ true → IsReached g a
    → IsReached g (member_state_starts name first last a (next_number a.insertions))
reached_starts g name first last a valid is r = go (next_number a.insertions) where
  go : (o : Option ℕ) → IsReached g (member_state_starts name first last a o)
  go None = r
  go (Some number) =
      reached_insertions g a (starts name first last a.insertions)
      (within_with a.insertions a.insertions.next_process (starting name first last)
      (begun_within name first last valid is) r.insertions) r

reached_obeys : (g : GroupKeys) (command : Command) (a : MemberState) → CommandIsSpelled command → is_command command
    ≡ true
    → IsReached g a → IsReached g (member_obeys command a)
reached_obeys g (Insert name first last) a spelled is r = reached_starts g name first last a spelled.0 is r
reached_obeys g (Check process) a spelled is r = r
reached_obeys g (Delete name) a spelled is r = reached_deletes g name a r

pub reached_order : (g : GroupKeys) (octets : List ℕ) (a : MemberState)
    → IfOk (order_of g a.number octets) (λ order. CommandIsSpelled order.1) → IsReached g a
    → IsReached g (member_after_order (order_of g a.number octets) a)
reached_order g octets a spelled r = go (order_of g a.number octets) refl spelled where
  go : (order : Result (ℕ × Command) ℕ) → order_of g a.number octets ≡ order → IfOk order (λ o. CommandIsSpelled o.1)
      → IsReached g (member_after_order order a)
  go (Ok order) e k = reached_obeys g order.1 a k (orders_within g a.number octets order.0 order.1 e) r
  go (Err code) e k = r

pub reached_blocks : (g : GroupKeys) (process index : ℕ) (content : List ℕ) (time draw : ℕ) (a : MemberState)
    → IsContent content → IsReached g a → IsReached g (member_blocks g process index content time draw a)
reached_blocks g process index content time draw a is r = go (member_block a process index content) refl where
  processes : List (ℕ × Process)
  processes = a.insertions.processes

  kept : (p : Process) → IsWithinLimits p → IsReached g (member_keeps process p a)
  kept p within =
      reached_insertions g a (with_process process p a.insertions)
      (within_with a.insertions process p within r.insertions) r

  publishes : (p : Process) → IsWithinLimits p → is_whole p ≡ true → (b : Bool) → nat_lt (length a.log) 65535 ≡ b
      → IsReached g (cond b (member_publishes g (Offers (object_of p)) time draw (member_keeps process (closed p) a)) a)
  publishes p within whole true q =
      reached_publishes g (Offers (object_of p)) time draw (member_keeps process (closed p) a)
      (object_within p within whole)
      (ltb-true (length a.log) 65535 q) (kept (closed p) (closed_within p within))
  publishes p within whole false q = r

  go : (state : BlockState) → member_block a process index content ≡ state
      → IsReached g (after_block g process time draw a state)
  go Unknown h = r
  go Already h = r
  go (Waiting p) h =
      kept p (comes_within processes process index content p false is r.insertions
      (comes_waiting processes process index content p h))
  go (Whole p) h =
      let comes = comes_whole processes process index content p h in
      publishes p (comes_within processes process index content p true is r.insertions comes) comes.has_all
      (nat_lt (length a.log) 65535) refl

pub reached_clears : (g : GroupKeys) (a : MemberState) → IsReached g a → IsReached g (member_ends_insertions a)
reached_clears g a r = reached_insertions g a (record a.insertions { processes = [] }) (λ number p found. absurd cc) r
