use Rattle.std.proofs.Common.{append_assoc}
use Rattle.ndn_inspect.specs.Inspection.{element_line}
use Rattle.ndn_inspect.proofs.line.put_line.Goals as goal

pub returns : goal.returns
unfolding element_line
returns c =
    rw (
      c.in_ok-push_str.ensures.bytes,
      c.in_ok-put_value.ensures,
      c.in_ok-write.ensures.bytes,
      c.name_of.ensures,
      c.in_ok-put_type.ensures,
      c.in_ok-put_indent.ensures,
    ) (simp append_assoc)
