-- What words leave a range together, of all forms but one.
use Rattle.std.proofs.Common.{◌≡◌, ◌≢◌, ◌++◌, codes, decimal, refl}
use Rattle.script_lang.specs.Limits.{segments_limit}
use Rattle.script_lang.specs.declared.verb.Verb.{Verb}
use Rattle.script_lang.specs.declared.verb.Verb.TheVariants as verb
use Rattle.lab_lint.specs.Expected.{together_text}

pub other_together : (v : Verb) → v ≢ verb.Insert → together_text v
    ≡ codes "CONTENT has at most " ++ (decimal segments_limit ++ codes " segments of SIZE octets")
other_together verb.Group other = refl
other_together verb.Member other = refl
other_together verb.Client other = refl
other_together verb.Mirror other = refl
other_together verb.Publish other = refl
other_together verb.Withdraw other = refl
other_together verb.Deliver other = refl
other_together verb.Sync other = refl
other_together verb.Advance other = refl
other_together verb.Fire other = refl
other_together verb.Restart other = refl
other_together verb.Vector other = refl
other_together verb.Catalogue other = refl
other_together verb.Claim other = refl
other_together verb.Lose other = refl
other_together verb.Answer other = refl
other_together verb.Fetch other = refl
other_together verb.Settle other = refl
other_together verb.Dump other = refl
other_together verb.Hear other = refl
other_together verb.Order other = refl
other_together verb.Ask other = refl
other_together verb.Feed other = refl
other_together verb.Insert other = absurd (other refl)
other_together verb.Block other = refl
other_together verb.Status other = refl
other_together verb.Delete other = refl
other_together verb.Watch other = refl
other_together verb.Told other = refl
other_together verb.Mdeliver other = refl
other_together verb.Mfetch other = refl
other_together verb.Mcatalogue other = refl
other_together verb.Summary other = refl
other_together verb.Traffic other = refl
