use Rattle.std.proofs.Common.{◌≡◌, ◌<◌, ℕ, List, length, get_or, Option, Some, None, subst, ◌∙◌, rules}
use Rattle.std.specs.Prelude.{IfSome, IsSomeAnd}
use Rattle.std.specs.List.{All}
use Rattle.std.specs.declared.cmp.Ordering.TheVariants.{Equal}
use Rattle.std.proofs.lemmas.List.Sorted.{answers_always}
use Rattle.sha2.specs.Sha256.{sha256}
use Rattle.repo_plan.specs.Parts.{Pair, pair_cmp}
use Rattle.repo_plan.proofs.Orders.{exact_pairs}
use Rattle.repo_catalog.specs.declared.entry.Entry.{Entry}
use Rattle.repo_holdings.specs.Records.{Packet}
use Rattle.repo_holdings.specs.Listed.{whole_at, contents_joined}
use Rattle.repo_holdings.specs.declared.contents.ContentsDigest.{ContentsDigest}
use Rattle.repo_holdings.specs.Contents.{IsOver, IsDigestOfEntry, IsDigestIn}
use Rattle.repo_holdings.proofs.contents.given_or_made.Goals as goal

abbrev summary_of : ContentsDigest → Pair
summary_of d = (d.publisher, d.seq)

-- what is reported has the number of octets and the digest of these contents
record AreOver (contents : List ℕ) (d : ContentsDigest) : Type 0 where
  octets : d.octets ≡ length contents
  digest : d.digest ≡ sha256 contents

-- what is reported of a publication that is stored whole
stated_over : (o : Option Entry) (d : ContentsDigest) (contents : List ℕ) → IfSome o (IsDigestOfEntry d)
    → IsSomeAnd o (IsOver contents) → AreOver contents d
stated_over None d contents made over = absurd over
stated_over (Some e) d contents made over =
    record { octets = made.octets ∙ over.octets; digest = made.digest ∙ over.digest }

reported_there : (packets : List Packet) (pair : Pair) (ds : List ContentsDigest) (i : ℕ) (d : ContentsDigest)
    (contents : List ℕ) → All (IsDigestIn packets) ds → i < length ds
    → pair_cmp (summary_of (get_or ds i d)) pair ≡ Equal → IsSomeAnd (whole_at packets pair) (IsOver contents)
    → AreOver contents (get_or ds i d)
reported_there packets pair ds i d contents all low same over =
    stated_over (whole_at packets pair) (get_or ds i d) contents
    (subst (λ (q : Pair). IfSome (whole_at packets q) (IsDigestOfEntry (get_or ds i d)))
    (exact_pairs.same (summary_of (get_or ds i d)) pair same) (all i d low))
    over

pub returns-in-Ok-clause-octets : goal.returns-in-Ok-clause-octets
returns-in-Ok-clause-octets c =
    let pair : Pair = (c.args.publisher, c.args.seq) in
    (reported_there c.args.store.now.packets pair c.args.digests.now c.in-Ok.place _
    (contents_joined c.args.store.now.packets pair c.args.shape) c.requires.digests c.in-Ok.ensures.bound
    (c.in-Ok.ensures.position summary_of (answers_always _ _ _ (λ f a r g called. search rules)) _)
    c.requires.whole).octets

pub returns-in-Ok-clause-digest : goal.returns-in-Ok-clause-digest
returns-in-Ok-clause-digest c =
    let pair : Pair = (c.args.publisher, c.args.seq) in
    (reported_there c.args.store.now.packets pair c.args.digests.now c.in-Ok.place _
    (contents_joined c.args.store.now.packets pair c.args.shape) c.requires.digests c.in-Ok.ensures.bound
    (c.in-Ok.ensures.position summary_of (answers_always _ _ _ (λ f a r g called. search rules)) _)
    c.requires.whole).digest
