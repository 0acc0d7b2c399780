use Rattle.std.proofs.Common.{◌≡◌, List, None, length, map, set, sym, ap, subst, ◌∙◌}
use Rattle.std.specs.Prelude.{sum}
use Rattle.std.proofs.lemmas.List.{get_or_default}
use Rattle.std.proofs.lemmas.Result.{on_ok_weaker, on_err_weaker, IfOk-weaker}
use Rattle.repo_holdings.specs.Taking.{Fetched}
use Rattle.repo_member.specs.InGroup.{parts_fetched}
use Rattle.repo_mirror.specs.MirrorState.{MirrorState, mirror_holdings}
use Rattle.repo_mirror.specs.Passing.{mirror_takes}
use Rattle.repo_mirror.specs.ConsistentMirrors.{IsConsistentMirror}
use Rattle.bench_world.specs.Gathering.{next_parts}
use Rattle.bench_world.specs.MirrorSteps.{no_mirror, mirror_at, mirror_fetched}
use Rattle.bench_world.specs.Truth.{TriedFew}
use Rattle.bench_world.specs.Worlds.{logs_around}
use Rattle.bench_world.proofs.TakenOut.{put_in, put_back}
use Rattle.bench_world.proofs.MirrorFetches.{same_mirror}
use Rattle.bench_world.proofs.mirror_fetching.fetch_for.Goals as goal

pub fetch_of_all-fetched-requires : goal.fetch_of_all-fetched-requires
fetch_of_all-fetched-requires g c κs =
    let can = c.requires in
    let here =
    c.remove-mirror.ensures.value
    ∙ get_or_default c.args.mirrors.now.items c.args.i c.remove-mirror.result no_mirror can.there in (
      c.type_bounds.sync-N,
      (
        c.type_bounds.sync-R,
        record {
          workers = can.workers;
          tries = can.tries;
          logs = can.logs;
          others = can.others;
          consistent = subst (IsConsistentMirror c.args.g.now (logs_around c.args.members.now)) (sym here)
              can.consistent;
          tried = subst (λ (m : MirrorState). TriedFew (mirror_holdings m)) (sym here) can.tried;
        },
      ),
    )

pub returns : goal.returns
returns g c =
    let ms = c.args.mirrors.now.items in
    let r = c.fetch_of_all-fetched.result in
    let old : c.remove-mirror.result ≡ mirror_at ms c.args.i =
    c.remove-mirror.ensures.value
    ∙ get_or_default ms c.args.i c.remove-mirror.result no_mirror c.requires.there in
    let came : mirror_fetched (g.N.Net.passes c.args.net.now) c.args.members.now c.args.i c.args.tries c.args.loss
    c.remove-mirror.result
    ≡ mirror_fetched (g.N.Net.passes c.args.net.now) c.args.members.now c.args.i c.args.tries c.args.loss
    (mirror_at ms c.args.i) =
    ap (mirror_fetched (g.N.Net.passes c.args.net.now) c.args.members.now c.args.i c.args.tries c.args.loss) old in
    record {
      ok =
          on_ok_weaker r (λ new.
          put_in ms c.remove-mirror.new.self.items c.put_back.new.row.items c.args.i
          c.fetch_of_all-fetched.new.holder.mirror c.requires.there c.remove-mirror.ensures.items c.put_back.ensures
          ∙ ap (set ms c.args.i) (same_mirror _ _ new ∙ (λ i. mirror_takes (came i) (old i))))
          c.fetch_of_all-fetched.ensures.new;
      planned =
          IfOk-weaker r _ _ (λ _ planned.
          planned ∙ ap (λ (m : MirrorState). length (next_parts None (mirror_holdings m))) old)
          c.fetch_of_all-fetched.ensures.planned;
      parts =
          IfOk-weaker r _ _ (λ _ parts. parts ∙ ap (λ (xs : List Fetched). length (parts_fetched xs)) came)
          c.fetch_of_all-fetched.ensures.parts;
      attempts =
          IfOk-weaker r _ _ (λ _ attempts.
          attempts ∙ ap (λ (xs : List Fetched). sum (map (λ (x : Fetched). x.attempts) xs)) came)
          c.fetch_of_all-fetched.ensures.attempts;
      err =
          on_err_weaker r (λ same.
          put_back no_mirror ms c.remove-mirror.new.self.items c.put_back.new.row.items c.args.i
          c.fetch_of_all-fetched.new.holder.mirror c.requires.there c.remove-mirror.ensures.items c.put_back.ensures
          (same_mirror _ _ same ∙ old))
          c.fetch_of_all-fetched.ensures.err;
    }
