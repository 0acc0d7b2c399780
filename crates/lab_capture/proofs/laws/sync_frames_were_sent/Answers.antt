use Rattle.lab_capture.proofs.SentSyncs.{heard_was_sent, new_were_sent}
use Rattle.lab_capture.proofs.laws.sync_frames_were_sent.Goals as goal

pub returns-clause-new : goal.returns-clause-new
returns-clause-new c = new_were_sent

pub returns-clause-heard : goal.returns-clause-heard
returns-clause-heard c = heard_was_sent
