use Rattle.std.proofs.Common.{refl, arith}
use Rattle.ndn_tlv.specs.Elements.{item}
use Rattle.repo_object.proofs.DigestLemmas.{counted-fault, counted-end, counted-early, counted-bad, counted-full}
use Rattle.repo_object.proofs.DigestLemmas.{counted-digest}
use Rattle.repo_object.proofs.record_fields.DigestReader.next.Goals as goal

pub returns-in_default-clause-bad : goal.returns-in_default-clause-bad
returns-in_default-clause-bad c = (
  refl,
  counted-fault c.args.self.now.indexes c.args.self.now.left c.args.self.now.fields c.in_default.field-0
      c.in_default.ensures.fault,
)

pub returns-then-self-eq0-clause-ok : goal.returns-then-self-eq0-clause-ok
returns-then-self-eq0-clause-ok c =
    let seen = rw c.in_default-next.is at c.in-Ok.ensures.ok in
    counted-end c.args.self.now.indexes c.args.self.now.left c.args.self.now.fields seen.0 c.if-self-eq0.true

pub returns-else-self-eq0-clause-bad : goal.returns-else-self-eq0-clause-bad
returns-else-self-eq0-clause-bad c =
    let seen = rw c.in_default-next.is at c.in-Ok.ensures.ok in
    (refl, counted-early c.args.self.now.indexes c.args.self.now.left c.args.self.now.fields seen.0 c.if-self-eq0.false)

pub returns-in_default-digest_in-clause-bad : goal.returns-in_default-digest_in-clause-bad
returns-in_default-digest_in-clause-bad c =
    let seen = rw c.in-Some.is at c.in-Ok.ensures.ok in (
      refl,
      counted-bad c.args.self.now.indexes c.args.self.now.left c.args.self.now.fields (
        c.in-Some.field.0,
        item
            c.in-Some.field.1,
      )
          c.next.new.self seen c.in_default-digest_in.ensures,
    )

pub returns-in_default-checked_sub-clause-bad : goal.returns-in_default-checked_sub-clause-bad
returns-in_default-checked_sub-clause-bad c =
    let seen = rw c.in-Some.is at c.in-Ok.ensures.ok in (
      refl,
      counted-full c.args.self.now.indexes c.args.self.now.left c.args.self.now.fields (
        c.in-Some.field.0,
        item
            c.in-Some.field.1,
      )
          c.next.new.self seen _ c.in-Some-digest_in.ensures (omega arith),
    )

pub returns-clause-ok : goal.returns-clause-ok
returns-clause-ok c =
    let seen = rw c.in-Some.is at c.in-Ok.ensures.ok in
    counted-digest c.args.self.now.indexes c.args.self.now.left c.args.self.now.fields (
      c.in-Some.field.0,
      item
          c.in-Some.field.1,
    )
    c.next.new.self seen _ c.in-Some-digest_in.ensures c.in-Some-checked_sub.left (omega arith)
