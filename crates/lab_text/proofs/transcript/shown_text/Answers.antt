use Rattle.std.proofs.lemmas.List.{take_min}
use Rattle.lab_text.proofs.transcript.shown_text.Goals as goal

pub returns : goal.returns
returns c = rw (c.split_at.ensures.front, c.min.ensures, c.without_feed-text.ensures) (take_min 32769 _)
