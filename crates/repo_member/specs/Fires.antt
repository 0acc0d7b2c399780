-- What a member does when its timer fires.
use Rattle.std.specs.Prelude.{◌≡◌, ℕ, List}
use Rattle.svs_sync.specs.declared.fired.Fired.{Fired}
use Rattle.svs_sync.specs.declared.fired.Fired.TheVariants as fired
use Rattle.repo_member.specs.declared.member.syncing.Fire.{Fire}
use Rattle.repo_member.specs.declared.member.syncing.Fire.TheVariants.{Early, Quiet, Sent}

-- the member does what its sync state says, and the sync Interest that it sends is `octets`
abbrev pub IsFireAnswer : Fired → List ℕ → Fire → Type 0
IsFireAnswer fired.Early octets Early = Unit {0}
IsFireAnswer fired.Quiet octets Quiet = Unit {0}
IsFireAnswer fired.Send octets (Sent sync) = sync.items ≡ octets
IsFireAnswer _ octets _ = ⊥
