-- Commands that clients made for members, and which of them are the same.
use Rattle.std.specs.Prelude.{◌≡◌, Bool, true, List, ◌++◌, ◌==◌, ◌&&◌}
use Rattle.std.proofs.Common.{refl, sym, ap, ◌∙◌}
use Rattle.std.specs.Cmp.{Equal-is, first_so, second_so, unsigned_Decides}
use Rattle.std.specs.Hash as fed
use Rattle.std.specs.Hash.{HashWrites}
use Rattle.std.proofs.lemmas.Bool.{true≢false}
use Rattle.ndn_name.specs.Names.{Component, encoding}
use Rattle.ndn_name.specs.CanonicalOrder.{canonical_cmp}
use Rattle.ndn_name.proofs.Prefixes.{canonical_cmp-equal}
use Rattle.repo_command.specs.contracts.command.CommandPartialEq.TheImpl as derived
use Rattle.repo_command.specs.declared.command.Command.{Command}
use Rattle.repo_command.specs.declared.command.Command.TheVariants.{Insert, Check, Delete}
use Rattle.group_model.specs.Commands.{is_equal_name, is_equal_command}
use Rattle.group_model.specs.World.{Issued}
use Rattle.bench_world.specs.declared.issued.IssuedCommand.{IssuedCommand}

-- A command that was made, as the group has it.
abbrev pub issued_of : IssuedCommand → Issued
issued_of c = record { member = c.member; client = c.client; command = c.command }

-- The derived equality of commands.
abbrev pub derived_equal : Command → Command → Bool
derived_equal a b = (derived.ghosts).eq a b

-- The commands have the same member, the same client and, by the derived equality, the same command.
abbrev pub is_same : IssuedCommand → IssuedCommand → Bool
is_same a b = (a.member == b.member) && ((a.client == b.client) && derived_equal a.command b.command)

-- What a command feeds to a hasher.
abbrev pub command_input : Command → HashWrites
command_input (Insert name first last) = fed.slice fed.u8 (encoding name) ++ (fed.u64 first ++ fed.u64 last)
command_input (Check process) = fed.u64 process
command_input (Delete name) = fed.slice fed.u8 (encoding name)

-- What a command with its member and its client feeds to a hasher.
abbrev pub issued_input : IssuedCommand → HashWrites
issued_input c = fed.u32 c.member ++ (fed.u32 c.client ++ command_input c.command)

-- ---- the test decides, as `Hash` asks

-- The derived equality of commands is the group's.
pub derived_is_equal : (a b : Command) → derived_equal a b ≡ is_equal_command a b
derived_is_equal (Insert a b c) (Insert d e f) = refl
derived_is_equal (Check a) (Check b) = refl
derived_is_equal (Delete a) (Delete b) = refl
derived_is_equal _ _ = refl

same_names : (a b : List Component) → is_equal_name a b ≡ true → a ≡ b
same_names a b h = canonical_cmp-equal a b ((Equal-is (canonical_cmp a b)).0 h)

same_commands : (a b : Command) → is_equal_command a b ≡ true → a ≡ b
same_commands (Insert a b c) (Insert d e f) h =
    let name = same_names a d (first_so (is_equal_name a d) ((b == e) && (c == f)) h) in
    let rest = second_so (is_equal_name a d) ((b == e) && (c == f)) h in
    let first = (unsigned_Decides b e).0 (first_so (b == e) (c == f) rest) in
    let last = (unsigned_Decides c f).0 (second_so (b == e) (c == f) rest) in
    λ i. Insert (name i) (first i) (last i)
same_commands (Check a) (Check b) h = ap Check ((unsigned_Decides a b).0 h)
same_commands (Delete a) (Delete b) h = ap Delete (same_names a b h)
same_commands _ _ h = absurd (true≢false (sym h))

-- Commands that the test finds the same are equal.
pub same_is : (a b : IssuedCommand) → is_same a b ≡ true → a ≡ b
same_is a b h =
    let equal = derived_equal a.command b.command in
    let rest = second_so (a.member == b.member) ((a.client == b.client) && equal) h in
    let first = first_so (a.member == b.member) ((a.client == b.client) && equal) h in
    let member = (unsigned_Decides a.member b.member).0 first in
    let client = (unsigned_Decides a.client b.client).0 (first_so (a.client == b.client) equal rest) in
    let is_equal = sym (derived_is_equal a.command b.command) ∙ second_so (a.client == b.client) equal rest in
    let command = same_commands a.command b.command is_equal in
    λ i. record { member = member i; client = client i; command = command i }

-- Commands that the test finds the same are fed to a hasher alike.
pub issued_alike : (a b : IssuedCommand) → is_same a b ≡ true → issued_input a ≡ issued_input b
issued_alike a b h = ap issued_input (same_is a b h)
