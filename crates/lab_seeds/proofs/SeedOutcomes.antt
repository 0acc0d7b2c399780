-- The text and the status by the ends of seeds that follow one another.
use Rattle.std.proofs.Common.{◌≡◌, ◌≢◌, ℕ, suc, ◌+◌, ◌<◌, true, false, List, [], ◌∷◌, ◌++◌}
use Rattle.std.proofs.Common.{length, take, get_or, map, Option, Some, IfSome, refl, sym, ap, subst, ◌∙◌}
use Rattle.std.proofs.Common.{arith, inl, inr, ◌⊎◌}
use Rattle.std.specs.List.{flat_map, list_all}
use Rattle.std.proofs.lemmas.Bool.{cases_Bool}
use Rattle.std.proofs.lemmas.List.{get_or-map, length-map}
use Rattle.sorted_lists.specs.Range.{numbers_from}
use Rattle.script_report.specs.declared.refusal.Refusal.{Refusal}
use Rattle.script_report.specs.declared.refusal.Refusal.TheVariants.{Syntax, UnknownLabel, Duplicate, Limit}
use Rattle.script_report.specs.declared.refusal.Refusal.TheVariants.{NoSuchPacket, FetcherBusy, FetcherIdle}
use Rattle.script_report.specs.declared.refusal.Refusal.TheVariants.{NumbersSpent, NoGroup, TooLarge, Late}
use Rattle.script_report.specs.declared.refusal.Refusal.TheVariants.{BadPacket, NoSuchNumber, NoSuchWatch, NotLive}
use Rattle.script_report.specs.Refusals.{refusal_number, refusal_word}
use Rattle.script_story.specs.declared.ending.Ending.{Ending}
use Rattle.script_story.specs.ScriptRun.{ScriptRun}
use Rattle.repo_io.specs.Outside.{GainsText, GainsPrefix}
use Rattle.repo_io.proofs.Outputs.{prefix_taken, prefix_whole}
use Rattle.lab_text.specs.declared.status.LabStatus.{LabStatus}
use Rattle.lab_text.specs.declared.status.LabStatus.TheVariants as lab
use Rattle.lab_text.specs.Outcomes.{Outcome}
use Rattle.lab_seeds.specs.declared.end.SeedEnd.{SeedEnd}
use Rattle.lab_seeds.specs.declared.end.SeedEnd.TheVariants.{Done, Refused, Foreign}
use Rattle.lab_seeds.specs.Endings.{AreEnds, HasEnd, IsEndOf}
use Rattle.lab_seeds.specs.Ends.{end_figures, end_is_done, end_text, ends_text}
use Rattle.lab_seeds.specs.Seeding.{WritesSeeds, ending_text, ends_status, figures_if_done, is_done, outcome_over}
use Rattle.lab_seeds.specs.Seeding.{seed_text, word_of}
use Rattle.lab_seeds.specs.Texts.{done_text, ranks_text, refused_text}

-- ---- one seed

-- each refusal's number has its word
word_known : (why : Refusal) → word_of (refusal_number why) ≡ refusal_word why
word_known Syntax = refl
word_known UnknownLabel = refl
word_known Duplicate = refl
word_known Limit = refl
word_known NoSuchPacket = refl
word_known FetcherBusy = refl
word_known FetcherIdle = refl
word_known NumbersSpent = refl
word_known NoGroup = refl
word_known TooLarge = refl
word_known Late = refl
word_known BadPacket = refl
word_known NoSuchNumber = refl
word_known NoSuchWatch = refl
word_known NotLive = refl

module _ (s : ScriptRun) where
  text_of_end : (seed : ℕ) (e : SeedEnd) → IsEndOf s e → end_text seed e ≡ seed_text seed s
  text_of_end seed (Done f) is =
      ap (done_text seed) is.figures ∙ ap (λ (e : Ending). ending_text seed e s.world) (sym is.ending)
  text_of_end seed (Refused line why) is =
      ap (refused_text seed line (refusal_number why)) (sym (word_known why))
      ∙ ap (λ (e : Ending). ending_text seed e s.world) (sym is)
  text_of_end seed (Foreign line) is = ap (λ (e : Ending). ending_text seed e s.world) (sym is)

  done_of_end : (e : SeedEnd) → IsEndOf s e → end_is_done e ≡ is_done s.ending
  done_of_end (Done f) is = ap is_done (sym is.ending)
  done_of_end (Refused line why) is = ap is_done (sym is)
  done_of_end (Foreign line) is = ap is_done (sym is)

  figures_of_end : (e : SeedEnd) → IsEndOf s e → end_figures e ≡ figures_if_done s
  figures_of_end (Done f) is = let done : is_done s.ending ≡ true = ap is_done is.ending in rw done
      (ap (λ (g : _). g ∷ []) is.figures)
  figures_of_end (Refused line why) is = let done : is_done s.ending ≡ false = ap is_done is in rw done refl
  figures_of_end (Foreign line) is = let done : is_done s.ending ≡ false = ap is_done is in rw done refl

-- ---- seeds that follow one another

module _ (script_run : ℕ → ScriptRun) where
  pub each_ended : (first : ℕ) (ends : List SeedEnd)
      → ((k : ℕ) (d : SeedEnd) → k < length ends → HasEnd script_run (first + k) (get_or ends k d))
      → AreEnds script_run first ends
  each_ended first [] each = tt
  each_ended first (e ∷ ends) each =
      let here : first + 0 ≡ first = omega arith in (
        subst (λ (n : ℕ). HasEnd script_run n e) here (each 0 e (omega arith)),
        each_ended (first + 1) ends (λ k d lt.
            let next : first + suc k ≡ first + 1 + k = omega arith in
            subst (λ (n : ℕ). HasEnd script_run n (get_or ends k d)) next (each (suc k) d (omega arith))),
      )

  texts : (first : ℕ) (ends : List SeedEnd) → AreEnds script_run first ends
      → ends_text first ends ≡ flat_map (λ seed. seed_text seed (script_run seed)) (numbers_from first (length ends))
  texts first [] are = refl
  texts first (e ∷ ends) are = rw (text_of_end (script_run first) first e are.0, texts (first + 1) ends are.1) refl

  figures : (first : ℕ) (ends : List SeedEnd) → AreEnds script_run first ends → flat_map end_figures ends
      ≡ flat_map (λ seed. figures_if_done (script_run seed)) (numbers_from first (length ends))
  figures first [] are = refl
  figures first (e ∷ ends) are = rw (figures_of_end (script_run first) e are.0, figures (first + 1) ends are.1) refl

  done : (first : ℕ) (ends : List SeedEnd) → AreEnds script_run first ends → list_all end_is_done ends
      ≡ list_all (λ seed. is_done (script_run seed).ending) (numbers_from first (length ends))
  done first [] are = refl
  done first (e ∷ ends) are = rw (done_of_end (script_run first) e are.0, done (first + 1) ends are.1) refl

  module _ (first count : ℕ) (ends : List SeedEnd) (are : AreEnds script_run first ends)
      (len : length ends ≡ count) where
    pub text_is : ends_text first ends ++ ranks_text (flat_map end_figures ends)
        ≡ (outcome_over script_run (numbers_from first count)).text
    text_is = rw (← len) (rw (texts first ends are, figures first ends are) refl)

    pub status_is : ends_status ends ≡ (outcome_over script_run (numbers_from first count)).status
    status_is = rw (← len) (rw (done first ends are) refl)

-- what holds of each end that was found holds of the ends, where all were found
pub ends_there : (ends : List SeedEnd) (found : List (Option SeedEnd)) (P : ℕ → SeedEnd → Type 0)
    → map Some ends ≡ found
    → ((k : ℕ) (d : Option SeedEnd) → k < length found → IfSome (get_or found k d) (P k))
    → (k : ℕ) (d : SeedEnd) → k < length ends → P k (get_or ends k d)
ends_there ends found P all each k d lt =
    let there : k < length found = omega (arith, lt, ap length all, length-map ends Some) in
    let is : get_or found k (Some d) ≡ Some (get_or ends k d) =
    ap (λ (os : List (Option SeedEnd)). get_or os k (Some d)) (sym all) ∙ get_or-map Some ends k d (Some d) lt in
    subst (λ (o : Option SeedEnd). IfSome o (P k)) is (each k (Some d) there)

-- ---- what is written

status_cases : (ends : List SeedEnd) → (ends_status ends ≡ lab.Done) ⊎ (ends_status ends ≡ lab.Refused)
status_cases ends = elim (cases_Bool (list_all end_is_done ends)) [
  | inl all ↦ inl (rw all refl)
  | inr other ↦ inr (rw other refl)
]

not_failing : (ends : List SeedEnd) (P : LabStatus → Type 0) → P lab.Done → P lab.Refused → P (ends_status ends)
not_failing ends P d r = elim (status_cases ends) [
  | inl e ↦ subst P (sym e) d
  | inr e ↦ subst P (sym e) r
]

module _ (it : Outcome) (old : Option (List ℕ)) (Failed : Type 0) where
  module _ (new : Option (List ℕ)) (text : List ℕ) (is : text ≡ it.text) where
    pub fell_short : (n : ℕ) → n < length text → GainsText old new (take n text) → Failed
        → WritesSeeds it old new Failed lab.WriteFault
    fell_short n lt gained failed = record {
      end = λ e. absurd e;
      text = λ e. absurd e;
      prefix = subst (λ (t : List ℕ). GainsPrefix old new t (lab.WriteFault ≡ lab.WriteFault)) is
          (prefix_taken old new n text lt gained);
      write_fault = λ e. failed;
      others = inr (inl refl);
      never_usage = λ e. absurd cc;
      never_read_fault = λ e. absurd cc;
    }

    pub written : (ends : List SeedEnd) → ends_status ends ≡ it.status → GainsText old new text
        → WritesSeeds it old new Failed (ends_status ends)
    written ends same gained =
        let whole : ends_status ends ≢ lab.WriteFault =
        not_failing ends (λ (s : LabStatus). s ≡ lab.WriteFault → ⊥) (λ e. absurd cc) (λ e. absurd cc) in
        let gains : GainsText old new it.text = subst (GainsText old new) is gained in
        record {
          end = λ e. same;
          text = λ e. gains;
          prefix = prefix_whole old new it.text whole gains;
          write_fault = λ e. absurd (whole e);
          others = inl same;
          never_usage = not_failing ends (λ (s : LabStatus). s ≡ lab.Usage → ⊥) (λ e. absurd cc) (λ e. absurd cc);
          never_read_fault =
              not_failing ends (λ (s : LabStatus). s ≡ lab.ReadFault → ⊥) (λ e. absurd cc) (λ e. absurd cc);
        }
