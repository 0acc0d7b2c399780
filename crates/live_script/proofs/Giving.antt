-- What lines give that name a group: lists that a live group can run.
use Rattle.std.proofs.Common.{◌≡◌, ◌∙◌, ◌≤◌, ℕ, List, map, length, Option, Some, Vec, Global, String, sym, ap}
use Rattle.std.proofs.Common.{subst}
use Rattle.std.proofs.Common.{nat_le, ◌&&◌}
use Rattle.std.specs.Prelude.{string_bytes}
use Rattle.std.proofs.lemmas.Bool.{and_parts}
use Rattle.std.proofs.lemmas.List.{length-map}
use Rattle.script_lang.proofs.Conditions.{le_tested}
use Rattle.script_lang.specs.Checking.{party_node}
use Rattle.repo_object.specs.declared.object.Object.{Object}
use Rattle.repo_member.specs.Groups.{GroupKeys, IsGroup}
use Rattle.live_member.specs.Meanings.{IsWithinLimits, meaning_of}
use Rattle.live_member.proofs.PublicLaws.{parts_are_counted, within}
use Rattle.live_script.specs.Evaluation.{Reached}
use Rattle.live_script.specs.Scripts.{Gives, IsKept, TotalsView, group_keys}

within_kept : (labels : List (List ℕ)) (group : Option GroupKeys) (totals : TotalsView) (view : Reached)
    → IsKept labels group totals view → IsGroup view.keys → (draws : List ℕ)
    → IsWithinLimits (meaning_of view.keys view.lists draws)
within_kept labels group totals view k is draws =
    let wide : length view.lists ≡ length view.keys.members.names =
    k.width ∙ sym (length-map view.declared.members party_node) ∙ ap length k.nodes in
    let outer = and_parts (nat_le totals.objects 200 && nat_le totals.contents 1048576) (nat_le totals.parts 4000)
    k.few in
    let inner = and_parts (nat_le totals.objects 200) (nat_le totals.contents 1048576) outer.0 in
    within view.keys view.lists draws is wide k.objects
    (subst (λ n. n ≤ 200) k.count (le_tested totals.objects 200 inner.0))
    (subst (λ n. n ≤ 4000) (k.counted ∙ sym (parts_are_counted view.lists)) (le_tested totals.parts 4000 outer.1))

pub gives : (labels : List (List ℕ)) (group : Option GroupKeys) (totals : TotalsView) (view r : Reached)
    (g : GroupKeys) (names : Vec (String Global) Global) (lists : Vec (Vec Object Global) Global) → view ≡ r
    → labels ≡ map string_bytes names.items → view.keys ≡ group_keys group
    → view.lists ≡ map (λ (l : Vec Object Global). l.items) lists.items → group ≡ Some g
    → IsKept labels group totals view → IsGroup g
    → Gives r (record { group = g; labels = names; lists = lists })
gives labels group totals view r g names lists seen label_octets keys_of lists_of there k is =
    let keys : view.keys ≡ g = keys_of ∙ ap group_keys there in
    subst (λ (q : Reached). Gives q (record { group = g; labels = names; lists = lists })) seen (record {
      group = sym keys;
      labels = sym label_octets ∙ k.names;
      lists = sym lists_of;
      within = within_kept labels group totals view k (subst IsGroup (sym keys) is);
    })
