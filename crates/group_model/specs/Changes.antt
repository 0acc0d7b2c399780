-- What each kind of event makes of the member at which it happens. Draws come in as values, and the time is in
-- milliseconds.
use Rattle.std.specs.Prelude.{ℕ, ◌+◌, ◌-◌, List, [], ◌∷◌, ◌++◌, length, Option, None, slice_set}
use Rattle.std.specs.Ordering.{nat_cmp}
use Rattle.ndn_name.specs.Names.{Component}
use Rattle.repo_plan.specs.declared.part.Part.{Part}
use Rattle.sorted_lists.specs.SortedList.{with_value}
use Rattle.repo_plan.specs.Parts.{parts_of, last_part}
use Rattle.svs_vector.specs.Vectors.{join}
use Rattle.svs_sync.specs.SyncStates.{becomes_steady, after_hearing}
use Rattle.repo_object.specs.Objects.{Post, shape_in}
use Rattle.repo_process.specs.Processes.{Process, starting}
use Rattle.group_model.specs.Member.{Member, gains, insert_keys, member_without_claims}

-- The sync state is Steady again.
abbrev pub resets : (draw time : ℕ) → Member → Member
resets draw time m = record m { machine = becomes_steady time draw m.machine }

-- The member, whose number is given, publishes an object or a withdrawal under its next number and holds all its parts.
abbrev pub publishes : (draw time number : ℕ) → Post → Member → Member
publishes draw time number post m =
    let seq = length m.log + 1 in
    record m {
      log = m.log ++ post ∷ [];
      known = slice_set m.known number seq;
      held = insert_keys (parts_of (number, seq) (last_part (shape_in post))) m.held;
      machine = becomes_steady time draw m.machine;
    }

-- The member is informed of a vector.
abbrev pub learns : (draw time : ℕ) → List ℕ → Member → Member
learns draw time received m = record m {
  known = join m.known received;
  machine = after_hearing time received m.known draw m.machine m.machine.heard;
}

-- Claims and insertion processes end. Numbers of processes go on.
abbrev pub restarts : (draw time : ℕ) → Member → Member
restarts draw time m = resets draw time (record (member_without_claims m) { processes = [] })

-- A fetcher claims a part, or nothing.
abbrev pub member_with_claim : ℕ → Option Part → Member → Member
member_with_claim f claim m = record m { claims = slice_set m.claims (f - 1) claim }

-- The part that a fetcher claims is held, and the claim is over.
abbrev pub takes : ℕ → Part → Member → Member
takes f t m = member_with_claim f None (gains (t ∷ []) m)

-- The member has the insertion process `p` under `number` from now on.
abbrev pub member_with_process : ℕ → Process → Member → Member
member_with_process number p m = record m { processes = with_value nat_cmp number p m.processes }

-- An insertion process begins under the next number.
abbrev pub member_starts : List Component → (first last : ℕ) → Member → Member
member_starts name first last m =
    record (member_with_process m.next_process (starting name first last) m) { next_process = m.next_process + 1 }
