-- The octets that were sent are those of the sync Interests.
use Rattle.std.proofs.Common.{◌≡◌, ◌==◌, ◌-◌, ℕ, List, Option, Some, None, refl, sym, ap, ◌∙◌}
use Rattle.std.specs.Prelude.{if◌then◌else◌}
use Rattle.std.specs.List.{slice_get}
use Rattle.std.specs.Option.{option_map}
use Rattle.std.proofs.lemmas.Option.{slice_get-map}
use Rattle.bench_net.specs.SentList.{SentPacket, sent_octets}
use Rattle.repo_object.proofs.Places.{all_at}
use Rattle.bench_world.specs.Showing.{octets_of, sync_octets_at}
use Rattle.bench_world.specs.Worlds.{GroupState, IsConsistentState, IsConsistentSync, logs_around, sync_in, world_of}

module _ (s : GroupState) (is : IsConsistentState s) where
  at_place : (i : ℕ) (found : Option SentPacket) → slice_get s.sent i ≡ found
      → option_map (λ (p : SentPacket). p.octets) found ≡ option_map (octets_of s.keys) (option_map sync_in found)
  at_place i None e = refl
  at_place i (Some p) e =
      ap (λ (xs : List ℕ). let octets : Option (List ℕ) = Some xs in octets)
      (all_at (IsConsistentSync s.keys (logs_around s.members)) s.sent i p is.sent e).octets

  pub octets_as_shown : (k : ℕ) → sent_octets s.sent k ≡ sync_octets_at s.keys (world_of s) k
  octets_as_shown k =
      let none : Option (List ℕ) = None in
      ap (λ (found : Option (List ℕ)). if k == 0 then none else found)
      (at_place (k - 1) (slice_get s.sent (k - 1)) refl
      ∙ ap (option_map (octets_of s.keys)) (sym (slice_get-map sync_in s.sent (k - 1))))
