use Rattle.std.proofs.Common.{refl}
use Rattle.std.specs.Fmt.{digits}
use Rattle.repo_io.specs.Lines.{lines}
use Rattle.lab_text.specs.Differences.{after_common_prefix}
use Rattle.lab_text.proofs.laws.small_texts.Goals as goal

pub returns-clause-transcript : goal.returns-clause-transcript
unfolding lines
returns-clause-transcript c = refl

pub returns-clause-difference : goal.returns-clause-difference
unfolding after_common_prefix digits
returns-clause-difference c = refl

pub returns-clause-no_line : goal.returns-clause-no_line
unfolding after_common_prefix digits
returns-clause-no_line c = refl

pub returns-clause-same : goal.returns-clause-same
unfolding digits
returns-clause-same c = refl

pub returns-clause-differs : goal.returns-clause-differs
unfolding digits
returns-clause-differs c = refl
