use Rattle.std.proofs.Common.{◌≡◌, ◌-◌, ◌≤◌, length, take, drop, ap, ◌∙◌, sym, arith}
use Rattle.repo_io.proofs.Outputs.{prefix_left}
use Rattle.repo_io.specs.InMemory.{Supply}
use Rattle.repo_io.proofs.vec_source.VecSourceSource.read.Goals as goal

pub returns-clause-taken : goal.returns-clause-taken
returns-clause-taken c =
    let octets = c.self.inside.octets.items in
    let at = c.self.inside.at in
    let n = c.min-n.result in
    let items : c.deref-2.result.now ≡ octets = c.deref-2.ensures.value in
    let copied = rw items at c.copy_from_slice.ensures.after in
    let rest = rw items at c.min.ensures in
    let within : n ≤ length (take (length octets - at) (drop at octets)) = omega (arith, c.min-n.ensures, rest) in
    let left : c.args.self.now.left ≡ drop at octets = ap (λ (s : Supply). s.left) (sym c.self.view_is) in
    left ∙ prefix_left octets c.copy_from_slice.new.self (drop n c.args.buf.now) at n within copied
