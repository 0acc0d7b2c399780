-- The lines that a run is defined by.
use Rattle.std.proofs.Common.{◌≡◌, ◌∙◌, ℕ, ◌+◌, Bool, nat_le, true, false, List, [], ◌∷◌, ◌++◌, length, append_assoc}
use Rattle.std.proofs.Common.{refl, sym, ap, subst, arith, if◌then◌else◌}
use Rattle.std.specs.List.{concat}
use Rattle.script_report.specs.Limits.{report_octets}
use Rattle.script_report.specs.Texts.{foreign_text}
use Rattle.script_story.specs.declared.ending.Ending.TheVariants.{Refused, Foreign}
use Rattle.script_report.specs.declared.refusal.Refusal.TheVariants.{Limit, TooLarge}
use Rattle.script_report.specs.Refusals.{refusal_number, refusal_text}
use Rattle.script_story.specs.Evaluation.{RunEnvironment, State, Verdict, accepted, foreign, evaluated, not_evaluated}
use Rattle.script_story.specs.Evaluation as verdict
use Rattle.script_story.specs.ScriptRun.{Reached, ScriptRun, reached_after, after_text, is_within_script}
use Rattle.script_story.specs.ScriptRun.{evaluated_next}
use Rattle.script_story.specs.ScriptRun.{nothing_reached, run_from, run_of_line, within_report}
use Rattle.script_story.proofs.Sayings.{is_evaluated}
use Rattle.script_story.specs.Headline.{LinesAreTaken, BeginsWithReports, EachIsTaken, EndsBy, LineIsTaken, IsReportOf}

-- ---- one line

-- A report that is within bounds is that of the line.
within : (r : Reached) (v : Verdict) (report : List ℕ) (new : State) → within_report r v ≡ accepted report new
    → v ≡ accepted report new
within r (accepted text next) report new h = go (nat_le (r.printed + length text) report_octets) h where
  go : (b : Bool) → (if b then accepted text next else verdict.refused TooLarge) ≡ accepted report new
      → accepted text next ≡ accepted report new
  go true k = k
  go false k = cc
within r (verdict.refused why) report new h = h
within r foreign report new h = h
within r not_evaluated report new h = h

pub judged_by : (env : RunEnvironment) (r : Reached) (line report : List ℕ) (new : State)
    → evaluated_next env r line ≡ accepted report new → evaluated env r.state line ≡ accepted report new
judged_by env r line report new h = go (is_within_script r line) h where
  go : (b : Bool)
      → (if b then within_report r (evaluated env r.state line) else verdict.refused Limit) ≡ accepted report new
      → evaluated env r.state line ≡ accepted report new
  go true k = within r (evaluated env r.state line) report new k
  go false k = cc

next_is_judged : (env : RunEnvironment) (r : Reached) (line : List ℕ) → evaluated_next env r line ≡ not_evaluated → ⊥
next_is_judged env r line h = go (is_within_script r line) h where
  by_room : (v : Verdict) → evaluated env r.state line ≡ v → within_report r v ≡ not_evaluated → ⊥
  by_room (accepted text next) is k = by_length (nat_le (r.printed + length text) report_octets) k where
    by_length : (b : Bool) → (if b then accepted text next else verdict.refused TooLarge) ≡ not_evaluated → ⊥
    by_length true e = cc
    by_length false e = cc
  by_room (verdict.refused why) is k = cc
  by_room foreign is k = cc
  by_room not_evaluated is k = is_evaluated env r.state line is

  go : (b : Bool)
      → (if b then within_report r (evaluated env r.state line) else verdict.refused Limit) ≡ not_evaluated → ⊥
  go true k = by_room (evaluated env r.state line) refl k
  go false k = cc

-- ---- runs

more : (env : RunEnvironment) (r : Reached) (line report : List ℕ) (next : State) (others : List (List ℕ))
    (s : ScriptRun)
    → evaluated_next env r line ≡ accepted report next → IsReportOf env (reached_after r line report next) others s
    → IsReportOf env r (line ∷ others) (after_text report s)
more env r line report next others s is t = record {
  first = line ∷ t.first;
  others = t.others;
  reports = report ∷ t.reports;
  last = t.last;
  end = t.end;
  lines = ap (λ lines. line ∷ lines) t.lines;
  taken = (reached_after r line report next, record { verdict = is; reached = refl }, t.taken);
  number = let n : t.last.lines ≡ r.lines + 1 + length t.first = t.number in omega (arith, n);
  ends = t.ends;
  text = ap (λ text. report ++ text) t.text ∙ sym (append_assoc report (concat t.reports) t.end);
  keys = t.keys;
  world = t.world;
  mirrors = t.mirrors;
}

pub held_shapes : (env : RunEnvironment) (r : Reached) (script : List (List ℕ))
    → IsReportOf env r script (run_from env r script)
unfolding run_from
held_shapes env r [] = record {
  first = [];
  others = [];
  reports = [];
  last = r;
  end = [];
  lines = refl;
  taken = refl;
  number = omega arith;
  ends = (refl, refl);
  text = refl;
  keys = refl;
  world = refl;
  mirrors = refl;
}
held_shapes env r (line ∷ others) = go (evaluated_next env r line) refl (λ next. held_shapes env next others) where
  go : (v : Verdict) → evaluated_next env r line ≡ v
      → ((next : Reached) → IsReportOf env next others (run_from env next others))
      → IsReportOf env r (line ∷ others) (run_of_line (λ next. run_from env next others) r line v)
  go (accepted report next) is rest =
      more env r line report next others (run_from env (reached_after r line report next) others) is
      (rest (reached_after r line report next))
  go (verdict.refused why) is rest = record {
    first = [];
    others = line ∷ others;
    reports = [];
    last = r;
    end = refusal_text (r.lines + 1) why;
    lines = refl;
    taken = refl;
    number = omega arith;
    ends = subst (λ (v : Verdict). EndsBy (r.lines + 1) v (refusal_text (r.lines + 1) why)
        (Refused (r.lines + 1) (refusal_number why))) (sym is) (refl, refl);
    text = refl;
    keys = refl;
    world = refl;
    mirrors = refl;
  }
  go foreign is rest = record {
    first = [];
    others = line ∷ others;
    reports = [];
    last = r;
    end = foreign_text (r.lines + 1);
    lines = refl;
    taken = refl;
    number = omega arith;
    ends = subst (λ (v : Verdict). EndsBy (r.lines + 1) v (foreign_text (r.lines + 1)) (Foreign (r.lines + 1)))
        (sym is) (refl, refl);
    text = refl;
    keys = refl;
    world = refl;
    mirrors = refl;
  }
  go not_evaluated is rest = absurd (next_is_judged env r line is)

begins_from : (env : RunEnvironment) (r : Reached) (first others reports : List (List ℕ)) (last : Reached)
    → LinesAreTaken env r first reports last
    → run_from env r (first ++ others) ≡ after_text (concat reports) (run_from env last others)
unfolding run_from
begins_from env r [] others [] last taken = ap (λ (s : Reached). run_from env s others) (sym taken)
begins_from env r [] others (report ∷ reports) last taken = absurd taken
begins_from env r (line ∷ first) others [] last taken = absurd taken
begins_from env r (line ∷ first) others (report ∷ reports) last taken =
    let next : Reached = taken.0 in
    let is : LineIsTaken env r line report next = taken.1 in
    let rest : List ℕ = concat reports in
    let s : ScriptRun = run_from env last others in
    let with_text : List ℕ → ScriptRun = λ text. record s { text = text } in
    ap (run_of_line (λ (n : Reached). run_from env n (first ++ others)) r line) is.verdict
    ∙ ap (λ (n : Reached). after_text report (run_from env n (first ++ others))) (sym is.reached)
    ∙ ap (after_text report) (begins_from env next first others reports last taken.2)
    ∙ ap with_text (sym (append_assoc report rest s.text))

pub begins : BeginsWithReports
begins env first others reports r taken = begins_from env nothing_reached first others reports r taken

pub each_is_taken : EachIsTaken
each_is_taken env r [] line others [] last taken = absurd taken
each_is_taken env r [] line others (report ∷ reports) last taken = record {
  here = r;
  new = taken.0;
  printed = [];
  report = report;
  later = reports;
  reports_are = refl;
  before_it = refl;
  it = taken.1;
  after_it = taken.2;
}
each_is_taken env r (first ∷ before) line others [] last taken = absurd taken
each_is_taken env r (first ∷ before) line others (report ∷ reports) last taken =
    let t = each_is_taken env taken.0 before line others reports last taken.2 in
    record {
      here = t.here;
      new = t.new;
      printed = report ∷ t.printed;
      report = t.report;
      later = t.later;
      reports_are = ap (λ (rs : List (List ℕ)). report ∷ rs) t.reports_are;
      before_it = (taken.0, taken.1, t.before_it);
      it = t.it;
      after_it = t.after_it;
    }
