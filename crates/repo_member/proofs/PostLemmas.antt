-- A log as a member keeps it: what is withdrawn is marked, and one publication more.
use Rattle.std.proofs.Common.{◌≡◌, ◌≢◌, inl, inr, ℕ, zero, suc, ◌+◌, ◌-◌, ◌<◌, ◌≤◌, Bool, true, false, ◌||◌}
use Rattle.std.proofs.Common.{◌&&◌, not}
use Rattle.std.proofs.Common.{List, [], ◌∷◌, ◌++◌, length, map, slice_get, set, get_or, Option, Some, None, is_some}
use Rattle.std.proofs.Common.{refl, sym}
use Rattle.std.proofs.Common.{ap, ◌∙◌, subst, arith}
use Rattle.std.specs.Prelude.{nat_le}
use Rattle.std.specs.List.{list_any}
use Rattle.std.proofs.lemmas.Bool.{true≢false, or_cases, cases_eq, cases_lt, eqb-true, eq-eqb, ne_eqb, le-leb, leb-true}
use Rattle.std.proofs.lemmas.Bool.{false_from_ne_true}
use Rattle.std.proofs.lemmas.List.{length-map, length-set, length_push}
use Rattle.std.proofs.lemmas.List.Folds.{list_any-append}
use Rattle.std.proofs.lemmas.Option.{same_Some, slice_get_within, get_or_from_slice_get}
use Rattle.repo_object.specs.Objects.{Post as Published, IsPost, offered, withdraws_number}
use Rattle.repo_object.specs.Objects.Post.{Offers, Withdraws}
use Rattle.repo_object.proofs.Places.{slice_get-prefix}
use Rattle.ndn_packet.proofs.Ends.{slice_get-push}
use Rattle.group_model.specs.Publications.{has_unwithdrawn, no_post}
use Rattle.repo_member.specs.declared.post.Post.{Post}
use Rattle.repo_member.specs.declared.post.Post.TheVariants.{Object, Withdrawal}
use Rattle.repo_member.specs.MemberState.{ArePosts}
use Rattle.repo_member.specs.Posts.{post_of, posts_of, IsMarked, IsKeptLog, IsNew, marked, with_mark}

-- ---- places of lists

set_here : {A : Type 0} (xs : List A) (i : ℕ) (x : A) → i < length xs → slice_get (set xs i x) i ≡ Some x
set_here [] i x h = absurd (omega (arith, h))
set_here (y ∷ xs) zero x h = refl
set_here (y ∷ xs) (suc i) x h = set_here xs i x (omega (arith, h))

set_elsewhere : {A : Type 0} (xs : List A) (i k : ℕ) (x : A) → k ≢ i → slice_get (set xs i x) k ≡ slice_get xs k
set_elsewhere [] i k x h = refl
set_elsewhere (y ∷ xs) zero zero x h = absurd (h refl)
set_elsewhere (y ∷ xs) zero (suc k) x h = refl
set_elsewhere (y ∷ xs) (suc i) zero x h = refl
set_elsewhere (y ∷ xs) (suc i) (suc k) x h = set_elsewhere xs i k x (λ e. h (ap suc e))

mapped : {A B : Type 0} (f : A → B) (xs : List A) (i : ℕ) (x : A) → slice_get xs i ≡ Some x
    → slice_get (map f xs) i ≡ Some (f x)
mapped f [] i x h = absurd cc
mapped f (y ∷ xs) zero x h = let same : y ≡ x = cc in ap (λ z. Some (f z)) same
mapped f (y ∷ xs) (suc i) x h = mapped f xs i x h

-- the last element
at_last : {A : Type 0} (xs : List A) (x y : A) (i : ℕ) → i ≡ length xs → slice_get (xs ++ x ∷ []) i ≡ Some y → x ≡ y
at_last xs x y i e h =
    same_Some x y (sym (slice_get-push xs x) ∙ ap (slice_get (xs ++ x ∷ [])) (sym e) ∙ h)

any_at : {A : Type 0} (p : A → Bool) (xs : List A) → list_any p xs ≡ true
    → (i : ℕ) × (x : A) × (slice_get xs i ≡ Some x) × (p x ≡ true)
any_at p [] h = absurd (true≢false (sym h))
any_at p (x ∷ xs) h = elim (or_cases (p x) (list_any p xs) h) [
  | inl here ↦ (zero, x, refl, here)
  | inr later ↦ let found = any_at p xs later in (suc found.0, found.1, found.2, found.3)
]

-- ---- a publication is marked

same_post : (post : Post) → post_of (marked post) ≡ post_of post
same_post (Object object withdrawn) = refl
same_post (Withdrawal seq) = refl

posts_marked : (log : List Post) (i : ℕ)
    → posts_of (set log i (marked (get_or log i (Withdrawal 0)))) ≡ posts_of log
posts_marked [] i = refl
posts_marked (p ∷ ps) zero = ap (λ (q : Published). q ∷ posts_of ps) (same_post p)
posts_marked (p ∷ ps) (suc i) = ap (λ (qs : List Published). post_of p ∷ qs) (posts_marked ps i)

-- ---- one publication more

-- what a publication withdraws is marked
abbrev pub marks : Post → List Post → List Post
marks (Object object withdrawn) log = log
marks (Withdrawal seq) log = with_mark seq log

marks_posts : (post : Post) (log : List Post) → posts_of (marks post log) ≡ posts_of log
marks_posts (Object object withdrawn) log = refl
marks_posts (Withdrawal seq) log = posts_marked log (seq - 1)

marks_long : (post : Post) (log : List Post) → length (marks post log) ≡ length log
marks_long (Object object withdrawn) log = refl
marks_long (Withdrawal seq) log = length-set log (seq - 1) (marked (get_or log (seq - 1) (Withdrawal 0)))

posts_push : (log : List Post) (post : Post) → posts_of (log ++ post ∷ []) ≡ posts_of log ++ post_of post ∷ []
posts_push [] post = refl
posts_push (p ∷ ps) post = ap (λ (qs : List Published). post_of p ∷ qs) (posts_push ps post)

pub posts_more : (log : List Post) (post : Post)
    → posts_of (marks post log ++ post ∷ []) ≡ posts_of log ++ post_of post ∷ []
posts_more log post =
    posts_push (marks post log) post ∙ ap (λ (qs : List Published). qs ++ post_of post ∷ []) (marks_posts post log)

pub are_posts_more : (posts : List Published) (post : Published) → ArePosts posts → IsPost (length posts + 1) post
    → ArePosts (posts ++ post ∷ [])
are_posts_more posts post are is i x h = elim (cases_lt i (length posts)) [
  | inl inside ↦ are i x (sym (slice_get-prefix posts (post ∷ []) i inside) ∙ h)
  | inr past ↦
      let within = slice_get_within (posts ++ post ∷ []) i x h in
      let e : i ≡ length posts = omega (arith, past, within, length_push posts post) in
      let same : post ≡ x = at_last posts post x i e h in
      subst (λ (n : ℕ). IsPost (n + 1) x) (sym e) (subst (IsPost (length posts + 1)) same is)
]

-- nothing withdraws a number after the log's
none_withdraws : (posts : List Published) (n : ℕ) → ArePosts posts → length posts < n
    → list_any (λ o. withdraws_number o n) posts ≡ false
none_withdraws posts n are past = false_from_ne_true (list_any (λ o. withdraws_number o n) posts) (λ h.
    let found = any_at (λ o. withdraws_number o n) posts h in
    let within = slice_get_within posts found.0 found.1 found.2 in
    earlier found.1 (found.0 + 1) (omega (arith, within, past)) found.3 (are found.0 found.1 found.2)) where
      earlier : (post : Published) (seq : ℕ) → seq < n + 1 → withdraws_number post n ≡ true → IsPost seq post → ⊥
      earlier (Offers object) seq low h is = absurd (true≢false (sym h))
      earlier (Withdraws withdrawn) seq low h is = omega (arith, low, eqb-true withdrawn n h, is.1)

still_marked : (posts : List Published) (more : Published) (n : ℕ) (post : Post) → withdraws_number more n ≡ false
    → IsMarked posts n post → IsMarked (posts ++ more ∷ []) n post
still_marked posts more n (Withdrawal seq) other is = tt
still_marked posts more n (Object object withdrawn) other is =
    is
    ∙ go (list_any (λ o. withdraws_number o n) posts)
    ∙ ap (λ (b : Bool). list_any (λ o. withdraws_number o n) posts || (b || false)) (sym other)
    ∙ sym (list_any-append (λ o. withdraws_number o n) posts (more ∷ [])) where
      go : (b : Bool) → b ≡ (b || (false || false))
      go true = refl
      go false = refl

now_marked : (posts : List Published) (more : Published) (n : ℕ) (post : Post) → withdraws_number more n ≡ true
    → IsMarked (posts ++ more ∷ []) n (marked post)
now_marked posts more n (Withdrawal seq) here = tt
now_marked posts more n (Object object withdrawn) here =
    go (list_any (λ o. withdraws_number o n) posts)
    ∙ ap (λ (b : Bool). list_any (λ o. withdraws_number o n) posts || (b || false)) (sym here)
    ∙ sym (list_any-append (λ o. withdraws_number o n) posts (more ∷ [])) where
      go : (b : Bool) → true ≡ (b || (true || false))
      go true = refl
      go false = refl

-- a publication that was there
before_marked : (log : List Post) (post : Post) (i : ℕ) (x : Post) → IsKeptLog log → i < length log
    → IsPost (length log + 1) (post_of post)
    → slice_get (marks post log) i ≡ Some x → IsMarked (posts_of log ++ post_of post ∷ []) (i + 1) x
before_marked log (Object object withdrawn) i x kept inside is h =
    still_marked (posts_of log) (Offers object) (i + 1) x refl (kept.marked i x h)
before_marked log (Withdrawal seq) i x kept inside is h = elim (cases_eq i (seq - 1)) [
  | inl here ↦
      let old : Post = get_or log (seq - 1) (Withdrawal 0) in
      let low : seq - 1 < length log = omega (arith, here, inside) in
      let same : marked old ≡ x =
      same_Some (marked old) x
      (sym (set_here log (seq - 1) (marked old) low)
      ∙ ap (slice_get (set log (seq - 1) (marked old))) (sym here) ∙ h) in
      subst (IsMarked (posts_of log ++ Withdraws seq ∷ []) (i + 1)) same
      (now_marked (posts_of log) (Withdraws seq) (i + 1) old
      (eq-eqb seq (i + 1) (omega (arith, here, is.0))))
  | inr other ↦
      let was : slice_get log i ≡ Some x =
      sym (set_elsewhere log (seq - 1) i (marked (get_or log (seq - 1) (Withdrawal 0))) other) ∙ h in
      still_marked (posts_of log) (Withdraws seq) (i + 1) x
      (ne_eqb seq (i + 1) (λ e. other (omega (arith, e)))) (kept.marked i x was)
]

new_marked : (log : List Post) (post : Post) → IsKeptLog log → IsNew (length log + 1) post
    → IsMarked (posts_of log ++ post_of post ∷ []) (length log + 1) post
new_marked log (Withdrawal seq) kept new = tt
new_marked log (Object object withdrawn) kept new =
    still_marked (posts_of log) (Offers object) (length log + 1) (Object object withdrawn) refl
    (new ∙ sym (none_withdraws (posts_of log) (length log + 1) kept.posts
    (omega (arith, length-map log post_of))))

pub kept_more : (log : List Post) (post : Post) → IsKeptLog log → IsNew (length log + 1) post
    → IsPost (length log + 1) (post_of post) → IsKeptLog (marks post log ++ post ∷ [])
kept_more log post kept new is = record {
  posts =
      subst ArePosts (sym (posts_more log post))
      (are_posts_more (posts_of log) (post_of post) kept.posts
      (subst (λ (n : ℕ). IsPost (n + 1) (post_of post)) (sym (length-map log post_of)) is));
  marked = λ i x h.
      subst (λ (posts : List Published). IsMarked posts (i + 1) x) (sym (posts_more log post)) (at i x h);
} where
  at : (i : ℕ) (x : Post) → slice_get (marks post log ++ post ∷ []) i ≡ Some x
      → IsMarked (posts_of log ++ post_of post ∷ []) (i + 1) x
  at i x h = elim (cases_lt i (length log)) [
    | inl inside ↦
        before_marked log post i x kept inside is
        (sym (slice_get-prefix (marks post log) (post ∷ []) i (omega (arith, inside, marks_long post log))) ∙ h)
    | inr past ↦
        let within = slice_get_within (marks post log ++ post ∷ []) i x h in
        let e : i ≡ length log = omega (arith, past, within, length_push (marks post log) post, marks_long post log) in
        let last : i ≡ length (marks post log) = e ∙ sym (marks_long post log) in
        let same : post ≡ x = at_last (marks post log) post x i last h in
        subst (λ (n : ℕ). IsMarked (posts_of log ++ post_of post ∷ []) (n + 1) x) (sym e)
        (subst (IsMarked (posts_of log ++ post_of post ∷ []) (length log + 1)) same (new_marked log post kept new))
  ]

-- ---- what is there

-- the publication of a number, if there is one
abbrev pub is_open : Option Post → Bool
is_open None = false
is_open (Some (Object object withdrawn)) = not withdrawn
is_open (Some (Withdrawal seq)) = false

pub unwithdrawn_is : (log : List Post) (seq : ℕ) → IsKeptLog log → 1 ≤ seq
    → is_open (slice_get log (seq - 1)) ≡ has_unwithdrawn (posts_of log) seq
unwithdrawn_is log seq kept low = go (slice_get log (seq - 1)) refl where
  next : seq - 1 + 1 ≡ seq
  next = omega (arith, low)

  above : nat_le 1 seq ≡ true
  above = le-leb 1 seq low

  any : ℕ → Bool
  any n = list_any (λ o. withdraws_number o n) (posts_of log)

  there : Post → (x : Post) → slice_get log (seq - 1) ≡ Some x
      → (is_some (offered (post_of x)) && not (any seq)) ≡ has_unwithdrawn (posts_of log) seq
  there y x h =
      let within = slice_get_within log (seq - 1) x h in
      let high : nat_le seq (length (posts_of log)) ≡ true =
      le-leb seq (length (posts_of log)) (omega (arith, within, length-map log post_of)) in
      let at : get_or (posts_of log) (seq - 1) no_post ≡ post_of x =
      get_or_from_slice_get (posts_of log) (seq - 1) (post_of x) no_post (mapped post_of log (seq - 1) x h) in
      rw (above, high, at) refl

  go : (o : Option Post) → slice_get log (seq - 1) ≡ o → is_open o ≡ has_unwithdrawn (posts_of log) seq
  go None h = elim (cases_lt (seq - 1) (length log)) [
    | inl inside ↦ absurd (missing log (seq - 1) inside h)
    | inr past ↦
        let beyond : nat_le seq (length (posts_of log)) ≡ false =
        false_from_ne_true (nat_le seq (length (posts_of log)))
        (λ e. omega (arith, leb-low seq (length (posts_of log)) e, past, low, length-map log post_of)) in
        rw (above, beyond) refl
  ] where
    leb-low : (a b : ℕ) → nat_le a b ≡ true → a ≤ b
    leb-low a b e = leb-true a b e

    missing : (xs : List Post) (i : ℕ) → i < length xs → slice_get xs i ≡ None → ⊥
    missing [] i inside e = omega (arith, inside)
    missing (y ∷ xs) zero inside e = cc
    missing (y ∷ xs) (suc i) inside e = missing xs i (omega (arith, inside)) e
  go (Some (Object object withdrawn)) h =
      ap not (kept.marked (seq - 1) (Object object withdrawn) h ∙ ap any next)
      ∙ there (Withdrawal 0) (Object object withdrawn) h
  go (Some (Withdrawal earlier)) h = there (Withdrawal 0) (Withdrawal earlier) h
