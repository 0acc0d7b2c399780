use Rattle.repo_store.proofs.LawLemmas.{put_got}
use Rattle.repo_store.proofs.laws.put_packet_is_got.Goals as goal

pub returns : goal.returns
returns c = put_got
