use Rattle.std.proofs.Common.{◌≡◌, ℕ, ◌+◌, ◌<◌, List, [], ◌∷◌, length, drop, get_or, Vec, Global, ap, sym, subst, arith}
use Rattle.std.proofs.lemmas.List.{drop_all}
use Rattle.bench_net.specs.Keystream.{seeded_draw, seeded_passes}
use Rattle.script_story.specs.Evaluation.{env_by}
use Rattle.script_lines.specs.Scripts.{reached}
use Rattle.lab_seeds.specs.Endings.{IsEndAt, IsEndOf}
use Rattle.lab_seeds.specs.Reading.{lines_read, octets_of}
use Rattle.lab_seeds.specs.ScriptRuns.{script_story}
use Rattle.lab_seeds.proofs.RunEnds.{Carries, carries_more, carries_none, carries_stopped, if_ok, next_line}
use Rattle.lab_seeds.proofs.script_run.end_of.Goals as goal

pub returns-in-Err : goal.returns-in-Err
returns-in-Err g c =
    let env = env_by (seeded_draw c.args.seeded.now) (seeded_passes c.args.seeded.now) in
    let s = lines_read c.args.script.now in
    let items = c.args.script.now.lines.items in
    let value : c.deref-line-items.result.now ≡ items = c.deref-line-items.ensures.value in
    let item = c.line-item.result in
    let i = c.loop-line.line-index in
    let r = reached c.loop-line.state in
    let lt : i < length items = omega (arith, ap length value, c.loop-line-test.true) in
    let is : item ≡ get_or items i item =
    subst (λ (vs : List (Vec ℕ Global)). item ≡ get_or vs i item) value c.line-item.is in
    let line = c.deref.result.now in
    let so_far : Carries env s (line ∷ octets_of (drop (i + 1) items)) r =
    subst (λ (l : List ℕ). Carries env s (l ∷ octets_of (drop (i + 1) items)) r) (sym c.deref.ensures.value)
    (next_line env s items i item r lt is c.loop-line.invariant.so_far) in
    if_ok (IsEndAt c.next_line-number.result c.in-Err.error) (IsEndOf (script_story env s))
    (carries_stopped env s r line (octets_of (drop (i + 1) items)) c.next_line-number.result c.in-Err.error
    c.next_line-number.ensures c.in-Err.ensures.stopped so_far) c.stopped.result c.stopped.ensures

pub loop-line-preserved : goal.loop-line-preserved
loop-line-preserved g c =
    let env = env_by (seeded_draw c.args.seeded.now) (seeded_passes c.args.seeded.now) in
    let s = lines_read c.args.script.now in
    let items = c.args.script.now.lines.items in
    let value : c.deref-line-items.result.now ≡ items = c.deref-line-items.ensures.value in
    let item = c.line-item.result in
    let i = c.loop-line.line-index in
    let r = reached c.loop-line.state in
    let lt : i < length items = omega (arith, ap length value, c.loop-line-test.true) in
    let is : item ≡ get_or items i item =
    subst (λ (vs : List (Vec ℕ Global)). item ≡ get_or vs i item) value c.line-item.is in
    let line = c.deref.result.now in
    let so_far : Carries env s (line ∷ octets_of (drop (i + 1) items)) r =
    subst (λ (l : List ℕ). Carries env s (l ∷ octets_of (drop (i + 1) items)) r) (sym c.deref.ensures.value)
    (next_line env s items i item r lt is c.loop-line.invariant.so_far) in
    record {
      so_far = carries_more env s r line (octets_of (drop (i + 1) items)) c.take.new.report.items
          (reached c.in-Ok.next) c.in-Ok.ensures.taken c.in-Ok.ensures.reached so_far;
      is = c.in-Ok.ensures.is;
    }

pub returns : goal.returns
returns g c =
    let env = env_by (seeded_draw c.args.seeded.now) (seeded_passes c.args.seeded.now) in
    let s = lines_read c.args.script.now in
    let items = c.args.script.now.lines.items in
    let value : c.deref-line-items.result.now ≡ items = c.deref-line-items.ensures.value in
    let i = c.loop-line.line-index in
    let r = reached c.loop-line.state in
    let none : octets_of (drop i items) ≡ [] =
    ap octets_of (drop_all i items (omega (arith, ap length value, c.loop-line-test.false))) in
    carries_none env s r
    (subst (λ (ls : List (List ℕ)). Carries env s ls r) none c.loop-line.invariant.so_far) c.end_after.result
    c.end_after.ensures
