use Rattle.std.proofs.Common.{◌≢◌, ◌<◌, length, sym, ap, ◌∙◌, arith}
use Rattle.std.specs.Prelude.{slice_index, is_some}
use Rattle.svs_vector.specs.WrittenVector.{lent_entries}
use Rattle.svs_vector.proofs.OrderLemmas.{at_most_one, known_of_next, nothing_of_next}
use Rattle.svs_vector.proofs.vector.Vector.known_entries.Goals as goal
use Rattle.svs_vector.proofs.vector.Vector.known_entries.Goals.{then-number-ne0+in_ok-insert, else-number-ne0}

pub loop-member-preserved : goal.loop-member-preserved
loop-member-preserved c =
    let i = c.loop-member.member in
    let es = c.loop-member.entries.entries in
    let known = c.loop-member.invariant.known in
    let within : i < length c.args.self.now = omega arith in
    let listed : i < length c.args.roster.now = omega arith in
    elim c.if-number-ne0.branch [
      | then-number-ne0+in_ok-insert w ↦
          let some : slice_index c.args.self.now i ≢ 0 = λ none. w.if-number-ne0.true (c.get-number.ensures ∙ none) in
          let placed =
          known_of_next c.args.roster.now c.args.self.now i es known within w.name.result w.name.ensures some in
          record {
            known = rw (w.entries-is, w.in_ok-insert.ensures.entries, c.get-number.ensures) placed;
            few =
                rw w.entries-is
                (omega (arith, w.in_ok-insert.ensures.len, at_most_one (is_some w.in_ok-insert.field-0)));
          }
      | else-number-ne0 w ↦ record {
        known =
            ap lent_entries w.entries-is
            ∙ nothing_of_next c.args.roster.now c.args.self.now i es known within listed
            (sym c.get-number.ensures ∙ w.if-number-ne0.false);
        few = rw w.entries-is (omega arith);
      }
    ]
