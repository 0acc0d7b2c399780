-- The members that an input's lines gave, and how a run without members ends.
use Rattle.std.proofs.Common.{◌≡◌, ◌∙◌, ℕ, List, [], map, length, Option, sym, ap, subst}
use Rattle.std.proofs.lemmas.List.{length-map}
use Rattle.std.proofs.lemmas.List.Elements.{All-nil}
use Rattle.std.proofs.KnownBytes.{Appends-nil}
use Rattle.script_lang.specs.Checking.{Party, party_label}
use Rattle.live_member.specs.Meanings.{IsWithinLimits, meaning_of}
use Rattle.live_group.specs.Outs as threads
use Rattle.live_settle.specs.Rans.{IsRan, numbers_below}
use Rattle.repo_io.specs.Outside.{GainsText}
use Rattle.live_script.specs.Evaluation.{Reached}
use Rattle.live_script.specs.declared.members.Members.{Members}
use Rattle.live_script.specs.Scripts.{Gives, GivesNobody}
use Rattle.live_top.specs.Outcomes.{first_draws, labels_at, meaning_at}
use Rattle.live_top.specs.Journals.{catalogues, journals, live_text}
use Rattle.live_top.specs.Answers.{RunsTo}

module _ (draw : ℕ → ℕ → ℕ) (r : Reached) (m : Members) (gives : Gives r m) where
  count : length m.lists.items ≡ length r.lists
  count = sym (length-map m.lists.items (λ l. l.items)) ∙ ap length gives.lists

  -- the group and the lists of the run are those that the lines gave
  pub same_meaning : meaning_of m.group (map (λ l. l.items) m.lists.items) (first_draws draw (length m.lists.items))
      ≡ meaning_at draw r
  same_meaning = λ i. meaning_of (gives.group i) (gives.lists i) (first_draws draw (count i))

  pub within_limits : IsWithinLimits
      (meaning_of m.group (map (λ l. l.items) m.lists.items) (first_draws draw (length m.lists.items)))
  within_limits =
      subst IsWithinLimits (sym same_meaning) (gives.within (first_draws draw (length r.lists)))

no_text : (r : Reached) → GivesNobody r → live_text (labels_at r) [] ≡ []
unfolding journals catalogues
no_text r none = ap (λ (ps : List Party). live_text (map party_label ps) []) none.members

pub nobody_ran : (draw : ℕ → ℕ → ℕ) (r : Reached) (a : Option (List ℕ)) → GivesNobody r → RunsTo draw r a a []
nobody_ran draw r a none = record {
  ran = record {
    numbers = sym (ap (λ ls. numbers_below (length ls)) none.lists);
    each = All-nil (IsRan (meaning_at draw r));
  };
  acted = All-nil (threads.HasRun (meaning_at draw r) (threads.turns_of (meaning_at draw r)));
  text = subst (GainsText a a) (sym (no_text r none)) (Appends-nil a);
}
