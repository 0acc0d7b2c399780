-- A member's publications as it keeps them, so that what is withdrawn is found at once.
use Rattle.std.specs.Prelude.{◌≡◌, ◌<◌, ℕ, ◌+◌, ◌-◌, true, false, List, [], map, Some}
use Rattle.std.specs.Prelude.{slice_get, slice_set, slice_index_or}
use Rattle.std.specs.List.{list_any}
use Rattle.repo_object.specs.Objects.{Post as Published, withdraws_number}
use Rattle.repo_object.specs.Objects.Post.{Offers, Withdraws}
use Rattle.repo_member.specs.declared.post.Post.{Post}
use Rattle.repo_member.specs.declared.post.Post.TheVariants.{Object, Withdrawal}
use Rattle.repo_member.specs.MemberState.{ArePosts}

-- what was published
abbrev pub post_of : Post → Published
post_of (Object object withdrawn) = Offers object
post_of (Withdrawal seq) = Withdraws seq

-- the publications of a log
abbrev pub posts_of : List Post → List Published
posts_of log = map post_of log

-- an object of that number is marked as withdrawn exactly where a publication withdraws it
abbrev pub IsMarked : List Published → ℕ → Post → Type 0
IsMarked posts seq (Object object withdrawn) = withdrawn ≡ list_any (λ o. withdraws_number o seq) posts
IsMarked posts seq (Withdrawal earlier) = Unit {0}

-- a log whose publications can have their numbers, and whose objects are marked as withdrawn exactly where they are
pub record IsKeptLog (log : List Post) : Type 0 where
  pub posts : ArePosts (posts_of log)
  pub marked : (i : ℕ) (post : Post) → slice_get log i ≡ Some post → IsMarked (posts_of log) (i + 1) post

-- a publication that can be added under the number `seq`: an object that isn't marked as withdrawn, or the withdrawal
-- of an earlier number
abbrev pub IsNew : ℕ → Post → Type 0
IsNew seq (Object object withdrawn) = withdrawn ≡ false
IsNew seq (Withdrawal earlier) = (0 < earlier) × (earlier < seq)

-- the contents of the segments of an object; a withdrawal has none
abbrev pub contents_of : Post → List (List ℕ)
contents_of (Object object withdrawn) = object.contents
contents_of (Withdrawal seq) = []

-- an object, marked as withdrawn; a withdrawal stays as it is
abbrev pub marked : Post → Post
marked (Object object withdrawn) = Object object true
marked (Withdrawal seq) = Withdrawal seq

-- the log in which the object of number `seq` is marked as withdrawn
abbrev pub with_mark : ℕ → List Post → List Post
with_mark seq log = slice_set log (seq - 1) (marked (slice_index_or log (seq - 1) (Withdrawal 0)))
