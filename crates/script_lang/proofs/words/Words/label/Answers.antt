use Rattle.std.proofs.Common.{◌≡◌, ◌<◌, ◌∙◌, sym, ap, map, length, Some, arith}
use Rattle.std.specs.List.{slice_get}
use Rattle.std.specs.Option.{option_map}
use Rattle.std.proofs.lemmas.List.{length-map}
use Rattle.std.proofs.lemmas.Option.{slice_get-map, slice_get-get_or}
use Rattle.script_lang.specs.Checking.{Declared, party_label, party_of, parties_of}
use Rattle.script_lang.proofs.words.Words.label.Goals as goal

pub returns : goal.returns
returns c =
    let seen : c.args.self.now.members ≡ parties_of c.self.inside.members.items = ap
    (λ (d : Declared). d.members) (sym c.self.view_is) in
    let count : length c.args.self.now.members ≡ length c.self.inside.members.items = ap length seen
    ∙ length-map c.self.inside.members.items party_of in
    let within : c.args.member < length c.self.inside.members.items = omega arith in
    ap (λ m. slice_get (map party_label m) c.args.member) seen
    ∙ slice_get-map party_label (parties_of c.self.inside.members.items) c.args.member
    ∙ ap (option_map party_label) (slice_get-map party_of c.self.inside.members.items c.args.member)
    ∙ ap (λ o. option_map party_label (option_map party_of o))
    (slice_get-get_or c.self.inside.members.items c.args.member c.index.result.now within ∙ ap Some
    (sym c.index.ensures))
    ∙ ap Some (sym c.as_str.ensures.value)
