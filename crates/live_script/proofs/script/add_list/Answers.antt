use Rattle.std.proofs.Common.{◌++◌, ◌∷◌, [], ◌∙◌, ℕ, List, map, ap}
use Rattle.std.specs.Prelude.{string_bytes}
use Rattle.std.proofs.lemmas.List.{map-append}
use Rattle.live_script.proofs.Publishing.{one_list_more}
use Rattle.live_script.proofs.script.add_list.Goals as goal

pub returns-clause-labels : goal.returns-clause-labels
returns-clause-labels c =
    ap (map string_bytes) c.in_ok-push.ensures.items
    ∙ map-append string_bytes c.args.labels.now.items (c.in_ok-to_string.field-0 ∷ [])
    ∙ ap (λ (b : List ℕ). map string_bytes c.args.labels.now.items ++ b ∷ []) c.in_ok-to_string.ensures.ok

pub returns-clause-lists : goal.returns-clause-lists
returns-clause-lists c =
    one_list_more c.args.lists.now.items c.push-2.new.self.items c.new.result c.in_ok-push-2.ensures.items
    c.new.ensures.items
