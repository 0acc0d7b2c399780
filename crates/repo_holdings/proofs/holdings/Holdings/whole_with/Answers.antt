use Rattle.std.proofs.Common.{◌≡◌, ◌++◌, ◌∷◌, [], List}
use Rattle.std.specs.List.{All}
use Rattle.std.proofs.lemmas.List.Elements.{All-push}
use Rattle.repo_holdings.specs.Records.{Packet}
use Rattle.repo_holdings.specs.Taking.{with_fetched_for}
use Rattle.repo_holdings.specs.WholeContents.{IsWholeIn}
use Rattle.repo_holdings.specs.declared.holdings.whole.Whole.{Whole}
use Rattle.repo_holdings.proofs.holdings.Holdings.whole_with.Goals.{else-may_be_whole}
use Rattle.repo_holdings.proofs.holdings.Holdings.whole_with.Goals.{then-may_be_whole+in_ok-contents+in-Some+in_ok-push}
use Rattle.repo_holdings.proofs.holdings.Holdings.whole_with.Goals.{then-may_be_whole+in_ok-contents+in_default}
use Rattle.repo_holdings.proofs.holdings.Holdings.whole_with.Goals as goal

pub loop-place-preserved : goal.loop-place-preserved
loop-place-preserved c =
    let after : List Packet = with_fetched_for c.args.jobs.now c.args.parts.now c.args.self.now.store in
    let before : All (IsWholeIn after) c.loop-place.whole.items = c.loop-place.invariant in
    elim c.if-may_be_whole.branch [
      | then-may_be_whole+in_ok-contents+in-Some+in_ok-push w ↦
          let one : Whole = record {
            publisher = c.part-publisher.result.publisher;
            seq = c.part-publisher.result.seq;
            contents = w.in-Some.contents;
          } in
          let pushed : w.push.new.self.items ≡ c.loop-place.whole.items ++ one ∷ [] = w.in_ok-push.ensures.items in
          let is : IsWholeIn after one = record {
            contents = rw w.in-Some.is at w.in_ok-contents.ensures.contents;
            few = rw w.in-Some.is at w.in_ok-contents.ensures.few;
          } in
          rw w.whole-is (rw pushed (All-push (IsWholeIn after) c.loop-place.whole.items one before is))
      | then-may_be_whole+in_ok-contents+in_default w ↦ rw w.whole-is before
      | else-may_be_whole w ↦ rw w.whole-is before
    ]
