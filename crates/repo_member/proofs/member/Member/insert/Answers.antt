use Rattle.std.proofs.Common.{rules, ◌≡◌, sym, subst}
use Rattle.repo_process.specs.Insertions.{Insertions, starts}
use Rattle.repo_member.specs.Members.{AreWaiting}
use Rattle.repo_member.proofs.WaitingLemmas.{waiting_starts, with_processes}
use Rattle.repo_member.proofs.member.Member.insert.Goals as goal

started : (c : goal.In_ok-map_err)
    → c.start.new.self ≡ starts c.args.name.now c.args.first c.args.last c.self.inside.processes
started c = search rules

pub invariant_of-self-2 : goal.invariant_of-self-2
invariant_of-self-2 c =
    with_processes c.self.inside c.start.new.self c.self.invariant
    (subst (λ (i : Insertions). AreWaiting i.processes) (sym (started c))
    (waiting_starts c.self.inside.processes c.args.name.now c.args.first c.args.last c.requires.order
    c.self.invariant.waiting))
