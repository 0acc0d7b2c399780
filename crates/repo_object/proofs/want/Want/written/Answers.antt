use Rattle.std.proofs.Common.{ℕ, ◌+◌, List, length, option_map, Bor, ap, ◌∙◌, arith}
use Rattle.repo_object.specs.NameParts.{spelled}
use Rattle.repo_object.proofs.WantLemmas.{lent_long, lent_some, want_written, want_is}
use Rattle.repo_object.proofs.want.Want.written.Goals as goal

pub invariant_of-result : goal.invariant_of-result
invariant_of-result c =
    want_written (spelled c.args.name.now)
    (option_map (λ (d : Bor (List ℕ)). d.now) c.args.digest) c.requires.name c.requires.short
    (lent_long c.args.digest c.requires.digest) (c.len.result + c.digest_len.result) c.in_ok-writer.writer
    c.put.new.writer c.finish.result.items (length c.octets-name_start.result.now) (length c.octets-name_end.result.now)
    c.is_some.result (omega (arith, c.len.ensures, c.digest_len.ensures.exact)) c.in_ok-writer.ensures
    c.in_ok-put.ensures (c.finish.ensures ∙ c.in_ok-put_digest.ensures)
    (ap (λ (o : List ℕ). length o) c.octets-name_start.ensures) (ap (λ (o : List ℕ). length o)
    c.octets-name_end.ensures)
    (c.is_some.ensures ∙ lent_some c.args.digest)

pub returns : goal.returns
returns c =
    want_is (spelled c.args.name.now)
    (option_map (λ (d : Bor (List ℕ)). d.now) c.args.digest) c.requires.name c.requires.short
    (lent_long c.args.digest c.requires.digest) (c.len.result + c.digest_len.result) c.in_ok-writer.writer
    c.put.new.writer c.finish.result.items (length c.octets-name_start.result.now) (length c.octets-name_end.result.now)
    c.is_some.result (omega (arith, c.len.ensures, c.digest_len.ensures.exact)) c.in_ok-writer.ensures
    c.in_ok-put.ensures (c.finish.ensures ∙ c.in_ok-put_digest.ensures)
    (ap (λ (o : List ℕ). length o) c.octets-name_start.ensures) (ap (λ (o : List ℕ). length o)
    c.octets-name_end.ensures)
    (c.is_some.ensures ∙ lent_some c.args.digest) c.args.part c.args.lists
