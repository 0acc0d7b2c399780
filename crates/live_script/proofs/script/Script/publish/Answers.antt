use Rattle.std.proofs.Common.{◌≡◌, ◌∙◌, ◌<◌, true, List, length, map, Ok}
use Rattle.std.proofs.Common.{sym, ap, subst}
use Rattle.std.proofs.Common.{arith}
use Rattle.std.proofs.lemmas.List.{length-map}
use Rattle.script_lang.specs.Checking.{after_line}
use Rattle.script_lang.specs.Forms.{Stated, stated}
use Rattle.repo_object.specs.Objects.{NamedContents, IsObject}
use Rattle.repo_object.specs.Cuts.{pieces}
use Rattle.live_script.specs.Evaluation.{Reached, cut_object, is_few, may_stand, member_number, with_object}
use Rattle.live_script.specs.Scripts.{TotalsView, are_few, totals_view, with_one_more}
use Rattle.live_script.proofs.Declaring.{publication}
use Rattle.live_script.proofs.Publishing.{inside, is_few_as, known_in, none_is_some, place_of_known, publish_declares}
use Rattle.live_script.proofs.Publishing.{publish_kept}
use Rattle.live_script.proofs.Publishing.{publish_refused, publish_taken, same_number}
use Rattle.live_script.proofs.Taking.{nothing_taken, out_of_memory, stopped_by}
use Rattle.live_script.proofs.script.Script.publish.Goals as goal

pub returns-in_err-check-clause-taken : goal.returns-in_err-check-clause-taken
returns-in_err-check-clause-taken c = nothing_taken c.from_residual.result _ c.from_residual.ensures.0

pub returns-in_err-check-clause-stopped : goal.returns-in_err-check-clause-stopped
returns-in_err-check-clause-stopped c =
    stopped_by _ c.args.self (stated c.args.line.now) c.in_err-check.field-0.0 c.from_residual.result c.self.view_is
    (ap (λ (s : Stated). may_stand s.verb) c.requires.is) c.in_err-check.ensures.refused c.from_residual.ensures.1

pub object_of-requires : goal.object_of-requires
object_of-requires c =
    publication (stated c.args.line.now) c.args.m.now c.args.name.now c.args.size c.args.content.now c.requires.line
    c.requires.is

pub returns-in_err-object-clause-taken : goal.returns-in_err-object-clause-taken
returns-in_err-object-clause-taken c =
    nothing_taken c.from_residual-in_err-object.result _ c.from_residual-in_err-object.ensures.0

pub returns-in_err-object-clause-stopped : goal.returns-in_err-object-clause-stopped
returns-in_err-object-clause-stopped c =
    out_of_memory c.args.self (stated c.args.line.now) c.from_residual-in_err-object.result
    c.from_residual-in_err-object.ensures.1

pub with-requires-clause-within : goal.with-requires-clause-within
with-requires-clause-within c = c.self.invariant.few

pub with-requires-clause-octets : goal.with-requires-clause-octets
with-requires-clause-octets c =
    (publication (stated c.args.line.now) c.args.m.now c.args.name.now c.args.size c.args.content.now c.requires.line
    c.requires.is).octets

pub with-requires-clause-segments : goal.with-requires-clause-segments
with-requires-clause-segments c = c.contents.ensures.few

pub returns-in_default-clause-stopped : goal.returns-in_default-clause-stopped
returns-in_default-clause-stopped c =
    let words = c.self.inside.draft.words in
    let d = c.check.new.self in
    let is = publication (stated c.args.line.now) c.args.m.now c.args.name.now c.args.size c.args.content.now
    c.requires.line c.requires.is in
    let declares = publish_declares c.args.m.now c.args.name.now c.args.size c.args.content.now words d
    (subst (λ (s : Stated). after_line words s ≡ Ok d) c.requires.is c.in_ok-check.ensures.ok) in
    let count = sym (length-map c.contents.result.now (λ l. l.items))
    ∙ ap length (c.contents.ensures.same ∙ ap (λ (o : NamedContents). o.contents) c.in_ok-object.ensures.is) in
    let few = is_few_as c.args.m.now c.args.name.now c.args.size c.args.content.now _ c.self.inside.draft.group
    (totals_view c.self.inside.totals) _ d c.self.invariant declares is.some in
    publish_refused c.args.m.now c.args.name.now c.args.size c.args.content.now _ c.args.self (stated c.args.line.now) d
    c.self.view_is c.requires.is c.in_ok-check.ensures.ok
    (few
    ∙ ap (λ n. are_few (with_one_more (length c.args.content.now) n (totals_view c.self.inside.totals))) (sym count)
    ∙ c.in_default.ensures.none)

pub unreachable-requires : goal.unreachable-requires
unreachable-requires c =
    let words = c.self.inside.draft.words in
    let d = c.check.new.self in
    let declares = publish_declares c.args.m.now c.args.name.now c.args.size c.args.content.now words d
    (subst (λ (s : Stated). after_line words s ≡ Ok d) c.requires.is c.in_ok-check.ensures.ok) in
    let known = known_in c.args.m.now words d _ declares in
    none_is_some (sym c.in_default-member.is ∙ c.member.ensures.value ∙ place_of_known c.args.m.now d.members known)

pub unreachable-unreachable : goal.unreachable-unreachable
unreachable-unreachable c = absurd c.unreachable.type_inv

pub add_object-requires : goal.add_object-requires
add_object-requires c =
    let words = c.self.inside.draft.words in
    let d = c.check.new.self in
    let view = map (λ l. l.items) c.self.inside.draft.lists.items in
    let totals = totals_view c.self.inside.totals in
    let is = publication (stated c.args.line.now) c.args.m.now c.args.name.now c.args.size c.args.content.now
    c.requires.line c.requires.is in
    let declares = publish_declares c.args.m.now c.args.name.now c.args.size c.args.content.now words d
    (subst (λ (s : Stated). after_line words s ≡ Ok d) c.requires.is c.in_ok-check.ensures.ok) in
    let known = known_in c.args.m.now words d _ declares in
    let place : c.in-Some-member.member ≡ member_number c.args.m.now d.members =
    same_number c.member.result _ _ c.in-Some-member.is
    (c.member.ensures.value ∙ place_of_known c.args.m.now d.members known) in
    let wide : member_number c.args.m.now d.members < length view =
    inside c.args.m.now c.args.name.now c.args.size c.args.content.now _ c.self.inside.draft.group totals _ d
    c.self.invariant declares is.some in
    omega (arith, place, wide, length-map c.self.inside.draft.lists.items (λ l. l.items))

pub returns-in_err-add_object-clause-taken : goal.returns-in_err-add_object-clause-taken
returns-in_err-add_object-clause-taken c =
    nothing_taken c.from_residual-in_err-add_object.result _ c.from_residual-in_err-add_object.ensures.0

pub returns-in_err-add_object-clause-stopped : goal.returns-in_err-add_object-clause-stopped
returns-in_err-add_object-clause-stopped c =
    out_of_memory c.args.self (stated c.args.line.now) c.from_residual-in_err-add_object.result
    c.from_residual-in_err-add_object.ensures.1

pub invariant_of-self : goal.invariant_of-self
invariant_of-self c =
    let words = c.self.inside.draft.words in
    let d = c.check.new.self in
    let view = map (λ l. l.items) c.self.inside.draft.lists.items in
    let totals = totals_view c.self.inside.totals in
    let is = publication (stated c.args.line.now) c.args.m.now c.args.name.now c.args.size c.args.content.now
    c.requires.line c.requires.is in
    let declares = publish_declares c.args.m.now c.args.name.now c.args.size c.args.content.now words d
    (subst (λ (s : Stated). after_line words s ≡ Ok d) c.requires.is c.in_ok-check.ensures.ok) in
    let known = known_in c.args.m.now words d _ declares in
    let place : c.in-Some-member.member ≡ member_number c.args.m.now d.members =
    same_number c.member.result _ _ c.in-Some-member.is
    (c.member.ensures.value ∙ place_of_known c.args.m.now d.members known) in
    let object : c.in_ok-object.object ≡ cut_object c.args.name.now c.args.size c.args.content.now =
    c.in_ok-object.ensures.is in
    let count : length (pieces c.args.size c.args.content.now) ≡ length c.contents.result.now =
    sym (sym (length-map c.contents.result.now (λ l. l.items))
    ∙ ap length (c.contents.ensures.same ∙ ap (λ (o : NamedContents). o.contents) object)) in
    let made : totals_view c.in-Some.totals
    ≡ with_one_more (length c.args.content.now) (length (pieces c.args.size c.args.content.now)) totals =
    c.in-Some.ensures.some
    ∙ ap (λ n. with_one_more (length c.args.content.now) n totals) (sym count) in
    let few : are_few (totals_view c.in-Some.totals) ≡ true = c.in-Some.ensures.few in
    let gained : map (λ l. l.items) c.add_object.new.lists.items
    ≡ with_object c.in-Some-member.member c.in_ok-object.object view = c.in_ok-add_object.ensures in
    let lists = gained
    ∙ ap (λ n. with_object n c.in_ok-object.object view) place
    ∙ ap (λ o. with_object (member_number c.args.m.now d.members) o view) object in
    rw (lists, made) (publish_kept c.args.m.now c.args.name.now c.args.size c.args.content.now _
    c.self.inside.draft.group totals _ d c.self.invariant declares is.some
    (subst IsObject object c.in_ok-object.ensures.object)
    (subst (λ (t : TotalsView). are_few t ≡ true) made few))

pub returns-clause-taken : goal.returns-clause-taken
returns-clause-taken c =
    let words = c.self.inside.draft.words in
    let d = c.check.new.self in
    let view = map (λ l. l.items) c.self.inside.draft.lists.items in
    let totals = totals_view c.self.inside.totals in
    let is = publication (stated c.args.line.now) c.args.m.now c.args.name.now c.args.size c.args.content.now
    c.requires.line c.requires.is in
    let declares = publish_declares c.args.m.now c.args.name.now c.args.size c.args.content.now words d
    (subst (λ (s : Stated). after_line words s ≡ Ok d) c.requires.is c.in_ok-check.ensures.ok) in
    let known = known_in c.args.m.now words d _ declares in
    let place : c.in-Some-member.member ≡ member_number c.args.m.now d.members =
    same_number c.member.result _ _ c.in-Some-member.is
    (c.member.ensures.value ∙ place_of_known c.args.m.now d.members known) in
    let object : c.in_ok-object.object ≡ cut_object c.args.name.now c.args.size c.args.content.now =
    c.in_ok-object.ensures.is in
    let count : length (pieces c.args.size c.args.content.now) ≡ length c.contents.result.now =
    sym (sym (length-map c.contents.result.now (λ l. l.items))
    ∙ ap length (c.contents.ensures.same ∙ ap (λ (o : NamedContents). o.contents) object)) in
    let made : totals_view c.in-Some.totals
    ≡ with_one_more (length c.args.content.now) (length (pieces c.args.size c.args.content.now)) totals =
    c.in-Some.ensures.some
    ∙ ap (λ n. with_one_more (length c.args.content.now) n totals) (sym count) in
    let few : are_few (totals_view c.in-Some.totals) ≡ true = c.in-Some.ensures.few in
    let gained : map (λ l. l.items) c.add_object.new.lists.items
    ≡ with_object c.in-Some-member.member c.in_ok-object.object view = c.in_ok-add_object.ensures in
    let lists = gained
    ∙ ap (λ n. with_object n c.in_ok-object.object view) place
    ∙ ap (λ o. with_object (member_number c.args.m.now d.members) o view) object in
    let fits = is_few_as c.args.m.now c.args.name.now c.args.size c.args.content.now _ c.self.inside.draft.group totals
    _ d c.self.invariant declares is.some
    ∙ subst (λ (t : TotalsView). are_few t ≡ true) made few in
    publish_taken c.args.m.now c.args.name.now c.args.size c.args.content.now _ c.args.self (stated c.args.line.now) d
    (map (λ l. l.items) c.add_object.new.lists.items) c.self.view_is c.requires.is c.in_ok-check.ensures.ok lists
    (subst (λ (ls : List (List NamedContents)). is_few d ls ≡ true) (sym lists) fits)

pub returns-clause-same : goal.returns-clause-same
returns-clause-same c = (ap (λ (r : Reached). r.lines) c.self.view_is, ap (λ (r : Reached). r.octets) c.self.view_is)
