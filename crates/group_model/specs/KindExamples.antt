-- Small groups whose members withdraw objects, or publish one that has index packets. The definitions compute the
-- replies.
use Rattle.std.specs.Prelude.{ℕ, ◌≡◌, ◌==◌, true, [], ◌∷◌, codes, replicate, Some, None, if◌then◌else◌}
use Rattle.std.specs.List.{concat}
use Rattle.repo_object.specs.Objects.{NamedContents}
use Rattle.repo_object.specs.Objects.Post.{Offers, Withdraws}
use Rattle.repo_plan.specs.Parts.{part_of}
use Rattle.svs_sync.specs.declared.mode.Mode.TheVariants.{Steady}
use Rattle.repo_command.specs.Answers.{code_only}
use Rattle.repo_command.specs.declared.command.Command.TheVariants.{Delete}
use Rattle.group_model.specs.Publications.{join_of, count}
use Rattle.group_model.specs.Events.Event.{Publish, Withdraw, Deliver, Restart, Catalogue, Claim, Answer, Settle, Dump}
use Rattle.group_model.specs.Events.Event.{Issue, Traffic, Fetch}
use Rattle.group_model.specs.Replies.Reply.{Fetched, Published, Withdrawn, Delivered, Restarted, Entries, Claimed}
use Rattle.group_model.specs.Replies.Reply.{Answered, Settled, Dumped, Commanded, Counted}
use Rattle.group_model.specs.World.{Environment}
use Rattle.group_model.specs.Refusals.{refusal}
use Rattle.group_model.specs.Refusals.Refusal.{NumbersSpent, NoSuchNumber}
use Rattle.group_model.specs.Examples.{plain_outside, Plays, Refuses, abc, doc, whole, entry, part, part_fetched}
use Rattle.group_model.specs.Examples.{after_so_many, deletion_reply}

-- ---- withdrawals

-- The second publication is a withdrawal, whose record has 77 octets.
abbrev pub second_withdraws : Environment
second_withdraws =
    record plain_outside { size = λ _ t. if t.part == 0 then (if t.seq == 2 then 77 else 118) else 79 }

-- A withdrawn object is in no catalogue right after a settle, though its parts are received; and it isn't withdrawn
-- again.
abbrev pub WithdrawnOnce : Type 0
WithdrawnOnce = Refuses second_withdraws 2 (
    (Publish 0 (whole doc abc), Published 1 1 1)
    ∷ (Withdraw 0 1, Withdrawn 2 1 2)
    ∷ (Settle, Settled 2 3)
    ∷ (Catalogue 0, Entries [])
    ∷ (Catalogue 1, Entries [])
    ∷ (Traffic, Counted 4 2 0 3 274)
    ∷ []
    ) (
    (Withdraw 0 1, NoSuchNumber)
    ∷ (Withdraw 0 2, NoSuchNumber)
    ∷ (Withdraw 0 3, NoSuchNumber)
    ∷ (Withdraw 0 0, NoSuchNumber)
    ∷ (Withdraw 1 1, NoSuchNumber)
    ∷ []
    )

-- A member that holds the withdrawal's record before the object is whole never lists the object.
abbrev pub WithdrawnBefore : Type 0
WithdrawnBefore = Plays plain_outside 2 (
    (Publish 0 (whole doc abc), Published 1 1 1)
    ∷ (Withdraw 0 1, Withdrawn 2 1 2)
    ∷ (Deliver 2 1, Delivered Steady)
    ∷ (Claim 1 1, Claimed (part 0 1 0))
    ∷ (Claim 1 2, Claimed (part 0 2 0))
    ∷ (Answer 1 2 0, Answered true)
    ∷ (Answer 1 1 0, Answered true)
    ∷ (Claim 1 1, Claimed (part 0 1 1))
    ∷ (Answer 1 1 0, Answered true)
    ∷ (Catalogue 1, Entries [])
    ∷ []
    )

-- A member that lists the object lists it until it holds the withdrawal's record, and holds its parts after that too.
abbrev pub WithdrawnAfter : Type 0
WithdrawnAfter = Plays plain_outside 2 (
    (Publish 0 (whole doc abc), Published 1 1 1)
    ∷ (Deliver 1 1, Delivered Steady)
    ∷ part_fetched 0 (part_fetched 1 (
    (Withdraw 0 1, Withdrawn 2 1 2)
    ∷ (Catalogue 0, Entries [])
    ∷ (Deliver 2 1, Delivered Steady)
    ∷ (Catalogue 1, Entries (entry 0 1 doc 1 3 abc ∷ []))
    ∷ (Claim 1 1, Claimed (part 0 2 0))
    ∷ (Answer 1 1 0, Answered true)
    ∷ (Catalogue 1, Entries [])
    ∷ (Dump 1 (part_of (0, 1) 1), Dumped (part 0 1 1))
    ∷ []
    ))
    )

-- A deleted object can be withdrawn. A deletion leaves a withdrawn one alone, since the catalogue doesn't list it.
abbrev pub DeletedAndWithdrawn : Type 0
DeletedAndWithdrawn = Plays plain_outside 1 (
    (Publish 0 (whole doc abc), Published 1 1 1)
    ∷ (Issue 0 0 (Delete doc), deletion_reply 2)
    ∷ (Withdraw 0 1, Withdrawn 2 1 2)
    ∷ (Publish 0 (whole doc abc), Published 3 1 3)
    ∷ (Restart 0, Restarted)
    ∷ (Withdraw 0 3, Withdrawn 4 3 4)
    ∷ (Issue 0 0 (Delete doc), Commanded (code_only 404))
    ∷ (Dump 0 (part_of (0, 3) 1), Dumped (part 0 3 1))
    ∷ []
    )

-- A withdrawal takes a number, of which there are 65,535. That the object isn't there is reported first.
abbrev pub WithdrawingIsSpent : Type 0
WithdrawingIsSpent =
    (refusal plain_outside (after_so_many 65534) (Withdraw 0 1) ≡ None)
    × (refusal plain_outside (after_so_many 65535) (Withdraw 0 1) ≡ Some NumbersSpent)
    × (refusal plain_outside (after_so_many 65535) (Withdraw 0 65536) ≡ Some NoSuchNumber)

-- The join of publications has the objects that are not withdrawn, each under its publisher's number.
abbrev pub JoinLessWithdrawn : Type 0
JoinLessWithdrawn =
    join_of ((Offers (whole doc abc) ∷ Offers (whole doc abc) ∷ Withdraws 1 ∷ []) ∷ (Offers (whole doc []) ∷ []) ∷ [])
    ≡ entry 0 2 doc 1 3 abc ∷ entry 1 1 doc 1 0 [] ∷ []

-- ---- index packets

-- An object of `segments` segments, each of one octet.
abbrev pub long_object : ℕ → NamedContents
long_object segments = record { name = doc; contents = replicate segments (codes "A") }

-- A record lists 200 segments, and index packets list 200 each.
abbrev pub PartsOfLongObjects : Type 0
PartsOfLongObjects =
    (count ((Offers (long_object 200) ∷ []) ∷ []) (0, 1) ≡ 200)
    × (count ((Offers (long_object 201) ∷ []) ∷ []) (0, 1) ≡ 203)
    × (count ((Offers (long_object 20000) ∷ []) ∷ []) (0, 1) ≡ 20100)

-- Segments after index packets are wanted once the index packet that lists them is held.
abbrev pub AfterIndexPackets : Type 0
AfterIndexPackets = Plays plain_outside 2 (
    (Publish 0 (long_object 201), Published 1 201 1)
    ∷ (Deliver 1 1, Delivered Steady)
    ∷ (Claim 1 1, Claimed (part 0 1 0))
    ∷ (Answer 1 1 0, Answered true)
    ∷ (Claim 1 1, Claimed (part 0 1 1))
    ∷ (Claim 1 2, Claimed (part 0 1 2))
    ∷ (Claim 1 3, Claimed None)
    ∷ (Answer 1 2 0, Answered true)
    ∷ (Claim 1 3, Claimed (part 0 1 203))
    ∷ (Settle, Settled 2 202)
    ∷ (Catalogue 1, Entries (entry 0 1 doc 201 201 (concat (replicate 201 (codes "A"))) ∷ []))
    ∷ []
    )

-- One fetch brings the record, the next the index packets, and the next the segments.
abbrev pub FetchesInTurn : Type 0
FetchesInTurn = Plays plain_outside 2 (
    (Publish 0 (long_object 201), Published 1 201 1)
    ∷ (Deliver 1 1, Delivered Steady)
    ∷ (Fetch 1 1 0, Fetched 1 1 1)
    ∷ (Fetch 1 1 0, Fetched 2 2 2)
    ∷ (Fetch 1 1 0, Fetched 201 201 201)
    ∷ (Fetch 1 1 0, Fetched 0 0 0)
    ∷ (Catalogue 1, Entries (entry 0 1 doc 201 201 (concat (replicate 201 (codes "A"))) ∷ []))
    ∷ []
    )
