-- How many entries a mirror lists.
use Rattle.std.proofs.Common.{◌≡◌, ◌<◌, ℕ, Bool, true, List, length, map, refl, sym, ap, ◌∙◌, subst, arith}
use Rattle.std.proofs.lemmas.List.{length-map}
use Rattle.std.proofs.lemmas.Bool.Decides.{nat_tests}
use Rattle.std.specs.Prelude.{nat_lt, if◌then◌else◌}
use Rattle.group_model.specs.World.{World}
use Rattle.repo_catalog.specs.declared.entry.Entry.{Entry}
use Rattle.repo_mirror.specs.MirrorState.{MirrorState}
use Rattle.bench_world.specs.MirrorSteps.{mirror_at}
use Rattle.script_story.specs.Mirrors.{mirror_as, mirror_of, mirrored_entries}
use Rattle.script_lines.proofs.MirrorWorlds.{at_as}
use Rattle.lab_picture.specs.Sights.{mirror_count}

test_holds : (i n : ℕ) → i < n → nat_lt i n ≡ true
test_holds i n h = grind (arith, nat_tests)

first_of : (b : Bool) (one other : ℕ) → b ≡ true → one ≡ (if b then one else other)
first_of b one other h = rw h refl

pub mirror_counted : (w : World) (mirrors : List MirrorState) (i : ℕ) (entries : List Entry) → i < length mirrors
    → entries ≡ mirrored_entries w (mirror_as (mirror_at mirrors i))
    → length entries ≡ mirror_count w (map mirror_as mirrors) i
mirror_counted w mirrors i entries there e =
    ap length e ∙ ap (λ m. length (mirrored_entries w m)) (sym (at_as mirrors i there))
    ∙ first_of (nat_lt i (length (map mirror_as mirrors)))
    (length (mirrored_entries w (mirror_of (map mirror_as mirrors) i))) 0
    (test_holds i (length (map mirror_as mirrors))
    (subst (λ (n : ℕ). i < n) (sym (length-map mirrors mirror_as)) there))
