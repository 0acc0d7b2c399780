-- What is said of a run over an input that is known.
use Rattle.std.proofs.Common.{◌≡◌, ℕ, ◌≤◌, List, Option, Some, None, length, take, drop}
use Rattle.std.specs.Io.KnownBytes.{IsAtEnd, Keeps, prepend_known}
use Rattle.repo_io.specs.declared.status.Status.{Status}
use Rattle.repo_io.specs.declared.status.Status.TheVariants.{ReadFault}
use Rattle.repo_io.specs.Lines.{lines}
use Rattle.bench_world.specs.Worlds.{GroupState}
use Rattle.script_story.specs.Evaluation.{RunEnvironment}
use Rattle.script_lines.specs.Reading.{HasLine, LineIsBegun}
use Rattle.script_story.specs.ScriptRun.{Reached}
use Rattle.repo_top.specs.Carrying.{Carried, Finishes, Known, Ran, Stops, Took}
use Rattle.repo_top.proofs.Runs.{carried_line, carried_read, ran_finished, ran_stopped, ran_unread}

known_map : (P Q : List ℕ → List ℕ → Type 0) → ((input rest : List ℕ) → P input rest → Q input rest)
    → (before now : Option (List ℕ)) → Known before now P → Known before now Q
known_map P Q f None now h = tt
known_map P Q f (Some input) None h = absurd h
known_map P Q f (Some input) (Some rest) h = f input rest h

module _ (env : RunEnvironment) (a : Option (List ℕ)) where
  pub known_read : (held held' : List ℕ) (r : Reached) (b before now now' : Option (List ℕ))
      → Keeps (prepend_known held now) (prepend_known held' now') → Known before now (Carried env held r a b)
      → Known before now' (Carried env held' r a b)
  known_read held held' r b None now now' k h = tt
  known_read held held' r b (Some input) None now' k h = absurd h
  known_read held held' r b (Some input) (Some rest) None k h = absurd k
  known_read held held' r b (Some input) (Some rest) (Some rest') k h =
      carried_read env held r a b input rest h held' rest' k

  module _ (held : List ℕ) (r : Reached) (b d before now : Option (List ℕ)) (count : ℕ) where
    pub known_line : (next : Reached) → HasLine count held → Took env r (take count held) next b d
        → Known before now (Carried env held r a b) → Known before now (Carried env (drop count held) next a d)
    known_line next h took = known_map (Carried env held r a b) (Carried env (drop count held) next a d)
        (λ input rest so_far. carried_line env held r next a b d input rest count so_far took h) before now

    pub known_stopped : (end : Option GroupState) (status : Status) → HasLine count held → length held ≤ 65536
        → Stops env r (take count held) b d status → Known before now (Carried env held r a b)
        → Known before now (Ran env a d status end)
    known_stopped end status h few stops = known_map (Carried env held r a b) (Ran env a d status end)
        (λ input rest so_far. ran_stopped env held r a b d input rest count status so_far h few stops end)
        before now

  pub known_unread : (end : Option GroupState) (held : List ℕ) (r : Reached) (b before now : Option (List ℕ))
      → LineIsBegun held → Known before now (Carried env held r a b) → Known before now (Ran env a b ReadFault end)
  known_unread end held r b before now begun = known_map (Carried env held r a b) (Ran env a b ReadFault end)
      (λ input rest so_far. ran_unread end env held r a b input rest so_far begun) before now

  pub known_finished : (held : List ℕ) (r : Reached) (b d before now : Option (List ℕ)) (end : Option GroupState)
      (status : Status) → IsAtEnd now → length held ≤ 65536 → Finishes env r (lines held) end b d status
      → Known before now (Carried env held r a b) → Known before now (Ran env a d status end)
  known_finished held r b d None now end status ended few f h = tt
  known_finished held r b d (Some input) None end status ended few f h = absurd h
  known_finished held r b d (Some input) (Some rest) end status ended few f h =
      ran_finished env held r a b d input rest end status h ended few f
