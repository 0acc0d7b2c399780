-- What holds of a group after an event, and how it holds where one member changes.
use Rattle.std.proofs.Common.{◌≡◌, inl, inr, ℕ, suc, zero, ◌+◌, ◌≤◌, ◌<◌, true, not, List, [], ◌∷◌, length, get_or}
use Rattle.std.proofs.Common.{take, set, refl, sym, ap, ◌∙◌, subst, arith, ◌⊎◌, ◌++◌}
use Rattle.std.proofs.Math.Seq.{take-append_seam, take-length}
use Rattle.std.proofs.lemmas.Bool.{or_right, or_left, cases_Bool, and_from, not_from_false, or_cases, and_parts}
use Rattle.std.proofs.lemmas.List.{length-set, get_or-map}
use Rattle.std.specs.Ordering.{eq_by_cmp}
use Rattle.repo_plan.specs.declared.part.Part.{Part}
use Rattle.repo_plan.specs.Parts.{last_part, Pair, pair_cmp, part_cmp, pair_of, parts_of}
use Rattle.sorted_lists.specs.SortedList.{contains}
use Rattle.repo_plan.specs.Plan.{is_in}
use Rattle.repo_plan.proofs.Orders.{exact_parts, exact_pairs}
use Rattle.sorted_lists.proofs.Sets.{eq_same, eq_itself, contains-insert_key, contains-filter, In}
use Rattle.sorted_lists.proofs.Members.{in_filtered}
use Rattle.repo_object.specs.Objects.{Post, shape_in, offered}
use Rattle.repo_object.specs.Objects.Post.{Offers, Withdraws}
use Rattle.group_model.specs.Publications.{Publication, pair_in, last_of, Logs, has_unwithdrawn, published, is_object}
use Rattle.group_model.specs.Publications.{object_in}
use Rattle.group_model.specs.Member.{Member, member_holds, has_deleted, catalogued_under, deletes_publication}
use Rattle.group_model.specs.Member.{deletes_all, catalogued, is_listed}
use Rattle.group_model.specs.Changes.{publishes}
use Rattle.group_model.specs.World.{Environment, World, no_member, member, logs, logs_of}
use Rattle.group_model.specs.Steps.{drawn, after_publish}
use Rattle.group_model.specs.Sound.{IsSoundGroup}
use Rattle.group_model.specs.Lasting.{Lasts, AllLast}
use Rattle.group_model.proofs.Parts.{IsIn, in_published}
use Rattle.group_model.proofs.Gains.{held_too, at_set_number}
use Rattle.group_model.proofs.Worlds.{same_logs}
use Rattle.group_model.specs.Deletions.{IsOffered}
use Rattle.group_model.specs.Commands.{is_equal_name}
use Rattle.ndn_name.specs.Names.{Component}
use Rattle.std.specs.Prelude.{is_some}

-- ---- a member

prefix_trans : {A : Type 0} → (a b c : List A) → take (length a) b ≡ a → take (length b) c ≡ b → take (length a) c ≡ a
prefix_trans [] b c p q = refl
prefix_trans (x ∷ a) [] c p q = absurd cc
prefix_trans (x ∷ a) (y ∷ b) [] p q = absurd cc
prefix_trans {A} (x ∷ a) (y ∷ b) (z ∷ c) p q =
    let h : y ≡ x = cc in
    let k : z ≡ y = cc in
    let t : take (length a) b ≡ a = cc in
    let u : take (length b) c ≡ b = cc in
    let v : take (length a) c ≡ a = prefix_trans a b c t u in
    λ i. (k ∙ h) i ∷ v i

-- a change that takes nothing back
pub lasts_with : (old new : Member) → new.log ≡ old.log → ((p : ℕ) → get_or old.known p 0 ≤ get_or new.known p 0)
    → new.hidden ≡ old.hidden → ((t : Part) → member_holds old t ≡ true → member_holds new t ≡ true) → Lasts old new
lasts_with old new l k h held = record {
  log = ap (take (length old.log)) l ∙ take-length old.log;
  known = k;
  hidden = λ pair y. ap (λ (x : List Pair). contains pair_cmp x pair) h ∙ y;
  held = λ t y. inl (held t y);
}

lasts_refl : (m : Member) → Lasts m m
lasts_refl m = lasts_with m m refl (λ p. omega arith) refl (λ t h. h)

lasts_trans : (a b c : Member) → Lasts a b → Lasts b c → Lasts a c
lasts_trans a b c x y = record {
  log = prefix_trans a.log b.log c.log x.log y.log;
  known = λ p.
      let u : get_or a.known p 0 ≤ get_or b.known p 0 = x.known p in
      let v : get_or b.known p 0 ≤ get_or c.known p 0 = y.known p in omega (arith, u, v);
  hidden = λ pair h. y.hidden pair (x.hidden pair h);
  held = λ t h. elim (x.held t h) [ inl p ↦ y.held t p | inr q ↦ inr (y.hidden (pair_of t) q) ];
}

lasts_deletes : (pair : Pair) (m : Member) → Lasts m (deletes_publication pair m)
lasts_deletes pair m = record {
  log = take-length m.log;
  known = λ p. omega arith;
  hidden =
      λ q h.
      contains-insert_key exact_pairs pair m.hidden q ∙ or_right (eq_by_cmp pair_cmp q pair) (has_deleted m q) h;
  held = λ t h. elim (cases_Bool (is_in pair t)) [
    | inl y ↦
        inr (contains-insert_key exact_pairs pair m.hidden (pair_of t)
        ∙ or_left (eq_by_cmp pair_cmp (pair_of t) pair) (has_deleted m (pair_of t))
        (ap (eq_by_cmp pair_cmp (pair_of t)) (eq_same exact_pairs pair (pair_of t) y)
        ∙ eq_itself exact_pairs (pair_of t)))
    | inr n ↦
        inl (contains-filter exact_parts (λ u. not (is_in pair u)) m.held t
        ∙ and_from (not (is_in pair t)) (member_holds m t) (not_from_false (is_in pair t) n) h)
  ];
}

lasts_deletes_all : (ps : List Publication) (m : Member) → Lasts m (deletes_all ps m)
lasts_deletes_all [] m = lasts_refl m
lasts_deletes_all (p ∷ ps) m =
    lasts_trans m (deletes_publication (pair_in p) m) (deletes_all ps (deletes_publication (pair_in p) m))
    (lasts_deletes (pair_in p) m) (lasts_deletes_all ps (deletes_publication (pair_in p) m))

-- ---- a world

lasts_at : (ms : List Member) (i : ℕ) (m : Member) → Lasts (get_or ms i no_member) m → (j : ℕ)
    → Lasts (get_or ms j no_member) (get_or (set ms i m) j no_member)
lasts_at [] i m h j = lasts_refl no_member
lasts_at (x ∷ xs) zero m h zero = h
lasts_at (x ∷ xs) zero m h (suc j) = lasts_refl (get_or xs j no_member)
lasts_at (x ∷ xs) (suc i) m h zero = lasts_refl x
lasts_at (x ∷ xs) (suc i) m h (suc j) = lasts_at xs i m h j

-- a member changes, whatever else does beside the members
lasts_set : (w new : World) (i : ℕ) (m : Member) → new.members ≡ set w.members i m → Lasts (member w i) m
    → AllLast w new
lasts_set w new i m e h = record {
  width = ap length e ∙ length-set w.members i m;
  members =
      λ j l.
      subst (λ (ms : List Member). Lasts (member w j) (get_or ms j no_member)) (sym e) (lasts_at w.members i m h j);
}

pub lasts_same : (w new : World) → new.members ≡ w.members → AllLast w new
lasts_same w new e = record {
  width = ap length e;
  members =
      λ j l. subst (λ (ms : List Member). Lasts (member w j) (get_or ms j no_member)) (sym e) (lasts_refl (member w j));
}

pub then_lasts : (a b c : World) → AllLast a b → AllLast b c → AllLast a c
then_lasts a b c x y = record {
  width = y.width ∙ x.width;
  members =
      λ j l. lasts_trans (member a j) (member b j) (member c j) (x.members j l)
      (y.members j (subst (λ (n : ℕ). j < n) (sym x.width) l));
}

-- a change of claims, sync state, processes or attempts alone
lasts_beside : (m new : Member) → new.log ≡ m.log → new.known ≡ m.known → new.hidden ≡ m.hidden → new.held ≡ m.held
    → Lasts m new
lasts_beside m new l k x h =
    lasts_with m new l (λ p. subst (λ (v : List ℕ). get_or m.known p 0 ≤ get_or v p 0) (sym k) (omega arith)) x
    (λ t y. ap (λ (held : List Part). contains part_cmp held t) h ∙ y)

pub lasts_publish : (env : Environment) (w : World) (j : ℕ) (o : Post) → j < length w.members → IsSoundGroup w
    → AllLast w (after_publish env w j o)
lasts_publish env w j o l s =
    let m : Member = member w j in
    let new : Member = publishes (drawn env w j) w.time j o m in
    let own : get_or m.known j 0 ≡ last_of (logs w) j = (s.members j l).own in
    let log : length m.log ≡ last_of (logs w) j =
    sym (ap length (get_or-map (λ (x : Member). x.log) w.members j no_member [] l)) in
    lasts_set w (after_publish env w j o) j new refl (record {
      log = take-append_seam m.log (o ∷ []);
      known = λ p. at_set_number m.known j (length m.log + 1) p (omega (arith, own, log));
      hidden = λ pair h. h;
      held = λ t h. inl (held_too (parts_of (j, length m.log + 1) (last_part (shape_in o))) m t h);
    })

-- ---- what an event publishes

-- a member may publish it after `log`: a withdrawal is of an object of `log` that nothing in `log` withdraws
abbrev pub CanPost : List Post → Post → Type 0
CanPost log (Offers o) = Unit {0}
CanPost log (Withdraws seq) = has_unwithdrawn log seq ≡ true

-- one member publishes once, and so the event is none of those that publish nothing
pub record PostsOne (old new : Logs) (quiet : Type 0) : Type 0 where
  pub before : List Member
  pub publisher : ℕ
  pub post : Post
  pub changed : Member
  pub loud : quiet → ⊥
  pub inside : publisher < length before
  pub allowed : CanPost (get_or before publisher no_member).log post
  pub more : changed.log ≡ (get_or before publisher no_member).log ++ post ∷ []
  pub was : logs_of before ≡ old
  pub is : new ≡ logs_of (set before publisher changed)

-- what is hidden was hidden before, or is an object
abbrev pub DeletesObjects : Logs → Member → Member → Type 0
DeletesObjects ls old new = (pair : Pair) → has_deleted new pair ≡ true
    → (has_deleted old pair ≡ true) ⊎ IsOffered ls pair

abbrev pub AllDeleteObjects : World → World → Type 0
AllDeleteObjects w new = (j : ℕ) → j < length w.members → DeletesObjects (logs w) (member w j) (member new j)

-- what holds of the group after an event, where some events publish nothing
pub record GoesOn (w new : World) (quiet : Type 0) : Type 0 where
  pub last : AllLast w new
  pub hides : AllDeleteObjects w new
  pub posted : (logs new ≡ logs w) ⊎ PostsOne (logs w) (logs new) quiet

-- ---- where nothing is published

-- a member's change that takes nothing back, and hides objects alone
pub record Moves (ls : Logs) (old new : Member) : Type 0 where
  pub lasts : Lasts old new
  pub hides : DeletesObjects ls old new

same_hidden : (ls : Logs) (old new : Member) → new.hidden ≡ old.hidden → DeletesObjects ls old new
same_hidden ls old new e pair h = inl (ap (λ (x : List Pair). contains pair_cmp x pair) (sym e) ∙ h)

pub moves_with : (ls : Logs) (old new : Member) → new.log ≡ old.log
    → ((p : ℕ) → get_or old.known p 0 ≤ get_or new.known p 0) → new.hidden ≡ old.hidden
    → ((t : Part) → member_holds old t ≡ true → member_holds new t ≡ true) → Moves ls old new
moves_with ls old new l k h held = record {
  lasts = lasts_with old new l k h held;
  hides = same_hidden ls old new h;
}

pub moves_beside : (ls : Logs) (old new : Member) → new.log ≡ old.log → new.known ≡ old.known → new.hidden ≡ old.hidden
    → new.held ≡ old.held → Moves ls old new
moves_beside ls old new l k h held = record {
  lasts = lasts_beside old new l k h held;
  hides = same_hidden ls old new h;
}

hides_all : (ls : Logs) (ps : List Publication) (m : Member) → ((p : Publication) → In p ps → IsOffered ls (pair_in p))
    → DeletesObjects ls m (deletes_all ps m)
hides_all ls [] m each pair h = inl h
hides_all ls (p ∷ ps) m each pair h =
    elim (hides_all ls ps (deletes_publication (pair_in p) m) (λ q i. each q (inr i)) pair h) [
      | inl now ↦ elim (or_cases (eq_by_cmp pair_cmp pair (pair_in p)) (has_deleted m pair)
          (sym (contains-insert_key exact_pairs (pair_in p) m.hidden pair) ∙ now)) [
            | inl same ↦
                inr (subst (IsOffered ls) (sym (eq_same exact_pairs pair (pair_in p) same)) (each p (inl refl)))
            | inr was ↦ inl was
          ]
      | inr object ↦ inr object
    ]

pub moves_deletes : (ls : Logs) (m : Member) (name : List Component)
    → Moves ls m (deletes_all (catalogued_under ls m name) m)
moves_deletes ls m name =
    let ps : List Publication = catalogued_under ls m name in
    record {
      lasts = lasts_deletes_all ps m;
      hides = hides_all ls ps m (λ p i.
          let f : In p (catalogued ls m) × (is_equal_name (object_in p).name name ≡ true) =
          in_filtered (λ q. is_equal_name (object_in q).name name) (catalogued ls m) p i in
          let g : In p (published ls) × (is_listed (published ls) m p ≡ true) =
          in_filtered (is_listed (published ls) m) (published ls) p f.0 in
          let there : IsIn ls p = in_published ls p g.0 in
          record {
            published = there.there;
            object = ap (λ (o : Post). is_some (offered o)) (sym there.post) ∙ (and_parts (is_object p) _ g.1).0;
          });
    }

pub deletes_at : (ls : Logs) (ms : List Member) (i : ℕ) (m : Member) → DeletesObjects ls (get_or ms i no_member) m
    → (j : ℕ)
    → DeletesObjects ls (get_or ms j no_member) (get_or (set ms i m) j no_member)
deletes_at ls [] i m h j pair x = inl x
deletes_at ls (y ∷ ys) zero m h zero pair x = h pair x
deletes_at ls (y ∷ ys) zero m h (suc j) pair x = inl x
deletes_at ls (y ∷ ys) (suc i) m h zero pair x = inl x
deletes_at ls (y ∷ ys) (suc i) m h (suc j) pair x = deletes_at ls ys i m h j pair x

-- nothing is published, and nothing taken back
pub record Quietly (w new : World) : Type 0 where
  pub last : AllLast w new
  pub hides : AllDeleteObjects w new
  pub logs : logs new ≡ logs w

pub quietly : {w new : World} {quiet : Type 0} → Quietly w new → GoesOn w new quiet
quietly q = record { last = q.last; hides = q.hides; posted = inl q.logs }

pub quiet_set : (w new : World) (i : ℕ) (m : Member) → new.members ≡ set w.members i m → m.log ≡ (member w i).log
    → Moves (logs w) (member w i) m → Quietly w new
quiet_set w new i m e log h = record {
  last = lasts_set w new i m e h.lasts;
  hides =
      λ j l pair x. deletes_at (logs w) w.members i m h.hides j pair
      (ap (λ (ms : List Member). has_deleted (get_or ms j no_member) pair) (sym e) ∙ x);
  logs = ap logs_of e ∙ same_logs w.members i m log;
}

pub quiet_same : (w new : World) → new.members ≡ w.members → Quietly w new
quiet_same w new e = record {
  last = lasts_same w new e;
  hides = λ j l pair x. inl (ap (λ (ms : List Member). has_deleted (get_or ms j no_member) pair) (sym e) ∙ x);
  logs = ap logs_of e;
}

pub then_delete : (a b c : World) → AllLast a b → AllDeleteObjects a b → logs b ≡ logs a → AllDeleteObjects b c
    → AllDeleteObjects a c
then_delete a b c last x same y j l pair h = elim (y j (subst (λ (n : ℕ). j < n) (sym last.width) l) pair h) [
  | inl was ↦ x j l pair was
  | inr object ↦ inr (subst (λ (ls : Logs). IsOffered ls pair) same object)
]

pub then_quiet : (a b c : World) → Quietly a b → Quietly b c → Quietly a c
then_quiet a b c x y = record {
  last = then_lasts a b c x.last y.last;
  hides = then_delete a b c x.last x.hides x.logs y.hides;
  logs = y.logs ∙ x.logs;
}
