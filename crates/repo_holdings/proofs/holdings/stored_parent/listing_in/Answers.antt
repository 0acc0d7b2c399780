use Rattle.std.proofs.Common.{◌≡◌, Option, Some, None, option_map, refl, sym, ap, ◌∙◌, subst}
use Rattle.std.specs.Prelude.{IsSome}
use Rattle.std.specs.Option.{option_and_then}
use Rattle.sorted_lists.specs.SortedList.{value_of}
use Rattle.repo_plan.specs.declared.part.Part.{Part}
use Rattle.repo_plan.specs.Parts.{part_cmp, part_of, pair_of}
use Rattle.repo_object.specs.declared.record_view.RecordView.{RecordView}
use Rattle.repo_object.specs.Publication.{Listed, RecordSays}
use Rattle.repo_object.specs.Stated.{seen_record}
use Rattle.repo_object.specs.Verdict.{stated_in}
use Rattle.repo_holdings.specs.Listed.{object_stated, listing_in}
use Rattle.repo_holdings.proofs.holdings.stored_parent.listing_in.Goals as goal

record_part : (t : Part) → t.part ≡ 0 → part_of (pair_of t) 0 ≡ t
record_part t zero = λ i. record { publisher = t.publisher; seq = t.seq; part = sym zero i }

there : (c : goal.After-unwrap)
    → value_of part_cmp c.args.store.now.packets (part_of (pair_of c.args.part) 0) ≡ Some c.unwrap.result.now
there c =
    ap (value_of part_cmp c.args.store.now.packets) (record_part c.args.part c.requires.part)
    ∙ sym c.get.ensures.found
    ∙ ap (option_map (λ octets. octets.now)) c.unwrap.ensures

is_stated : (o : Option RecordSays) → IsSome (option_and_then object_stated o) → IsSome o
is_stated None h = h
is_stated (Some says) h = refl

pub in_packet-requires : goal.in_packet-requires
in_packet-requires c =
    is_stated (stated_in c.unwrap.result.now)
    (subst (λ (o : Option Listed). IsSome o) (ap (option_and_then listing_in) (there c)) c.requires.stored)

pub returns : goal.returns
returns c =
    ap (option_and_then listing_in)
    (ap (value_of part_cmp c.args.store.now.packets) (record_part c.args.part c.requires.part)
    ∙ sym c.get.ensures.found
    ∙ ap (option_map (λ octets. octets.now)) c.unwrap.ensures)
    ∙ ap (option_and_then object_stated)
    (c.in_packet.ensures ∙ ap (λ (r : RecordView). Some (seen_record r)) c.in-Lists.is)
