-- The script that `gen` writes.
use Rattle.std.specs.Prelude.{ℕ, zero, suc, ◌+◌, ◌*◌, ◌/◌, ◌%◌, false, List, [], ◌++◌, codes, decimal, nat_lt, ◌==◌}
use Rattle.std.specs.Prelude.{if◌then◌else◌}
use Rattle.std.specs.Fmt.{digits}
use Rattle.repo_top.specs.declared.generator.GeneratorInputs.{GeneratorInputs}
use Rattle.script_story.specs.declared.ending.Ending.TheVariants.{Done}
use Rattle.script_story.specs.ScriptRun.{ScriptRun, plain_run}

-- A state follows another by a linear congruential generator modulo 2 ^ 64.
abbrev pub next_state : ℕ → ℕ
next_state state = (state * 6364136223846793005 + 1442695040888963407) % 18446744073709551616

-- The state after `n` others. The seed is the first state.
unfoldable pub generator_state : ℕ → ℕ → ℕ
generator_state seed zero = seed
generator_state seed (suc n) = next_state (generator_state seed n)

-- The upper 31 bits of a state decide on an object.
abbrev pub drawn : ℕ → ℕ
drawn state = state / 8589934592

-- The texts of the numbers from 1 to `n`.
unfoldable pub texts : (ℕ → List ℕ) → ℕ → List ℕ
texts text zero = []
texts text (suc n) = texts text n ++ text (suc n)

-- An octet as two hexadecimal digits.
abbrev pub octet_text : ℕ → List ℕ
octet_text octet = (if nat_lt octet 16 then codes "0" else []) ++ digits 16 false octet

-- The `member`th member is `m` and its number. The second octet of its key is the number.
unfoldable pub member_text : ℕ → List ℕ
member_text member =
    codes "member m" ++ decimal member ++ codes " /n/" ++ decimal member ++ codes " 6b"
    ++ octet_text member ++ codes "\n"

-- One of `members` members publishes the `object`th object, of 100 to 500 equal octets.
unfoldable pub publish_line : ℕ → ℕ → ℕ → List ℕ
publish_line members object draw =
    codes "publish m" ++ decimal (1 + draw % members) ++ codes " /o/" ++ decimal object
    ++ codes " 100 fill:" ++ decimal (100 * (1 + draw / 16 % 5)) ++ codes ":"
    ++ decimal (draw / 128 % 256) ++ codes "\n"

-- The line in which a member hears the `object`th sync Interest.
unfoldable pub deliver_text : ℕ → ℕ → List ℕ
deliver_text object member =
    codes "deliver " ++ decimal object ++ codes " m" ++ decimal member ++ codes "\n"

-- The line in which a member fetches.
unfoldable pub fetch_line : ℕ → List ℕ
fetch_line member = codes "fetch m" ++ decimal member ++ codes " 4 3 200\n"

-- A member's turn after an object: it hears the sync Interest of that number, and fetches.
abbrev pub turn_text : ℕ → ℕ → List ℕ
turn_text object member = deliver_text object member ++ fetch_line member

-- The turns of all members after every tenth object, and nothing after another object.
abbrev pub turns_text : ℕ → ℕ → List ℕ
turns_text members object = if object % 10 == 0 then texts (turn_text object) members else []

-- The lines of one object: its publication, and the members' turns after every tenth.
abbrev pub object_text : ℕ → ℕ → ℕ → List ℕ
object_text members seed object =
    publish_line members object (drawn (generator_state seed object)) ++ turns_text members object

-- The script with these numbers of members and objects, and this seed: the group and its members, the objects, and a
-- settle and a summary at the end.
unfoldable pub gen_text : GeneratorInputs → List ℕ
gen_text m =
    codes "group /g\n" ++ texts member_text m.members
    ++ texts (object_text m.members m.seed) m.objects ++ codes "settle 4\n" ++ codes "summary\n"

-- The run of `gen`: it writes the script, and is done.
abbrev pub gen_run : GeneratorInputs → ScriptRun
gen_run m = plain_run (gen_text m) Done
