-- Journals that begin with earlier ones.
use Rattle.std.proofs.Common.{◌≡◌, ℕ, List, [], ◌∷◌, ◌++◌, refl, sym, ap, ◌∙◌, append_assoc, arith}
use Rattle.std.proofs.lemmas.List.{append-nil}
use Rattle.std.proofs.lemmas.List.Sums.{sum_by-append}
use Rattle.live_member.specs.declared.event.LiveEvent.TheVariants as event
use Rattle.live_member.specs.declared.event.LiveReply.{LiveReply}
use Rattle.live_member.specs.declared.event.LiveEntry.{LiveEntry}
use Rattle.live_member.specs.Lives.{Living}
use Rattle.live_member.specs.LockedCalls.{entry}
use Rattle.live_member.specs.Entries.{claims_by, is_claim_by}
use Rattle.live_settle.specs.Ready.{at, Continues, KeepPrefixes}

pub continues_itself : (journal : List LiveEntry) → Continues journal journal
continues_itself journal = record { more = []; journal = sym (append-nil journal); second = refl }

pub continues_with : (old more new : List LiveEntry) → new ≡ old ++ more → claims_by 2 more ≡ 0 → Continues old new
continues_with old more new is none = record { more = more; journal = is; second = none }

-- by a loss
pub continues_lost : (journal : List LiveEntry) (f : ℕ) (r : LiveReply)
    → Continues journal (journal ++ entry (event.Lose f) r ∷ [])
continues_lost journal f r = record { more = entry (event.Lose f) r ∷ []; journal = refl; second = refl }

pub continues_on : (old mid new : List LiveEntry) → Continues old mid → Continues mid new → Continues old new
continues_on old mid new first next = record {
  more = first.more ++ next.more;
  journal = next.journal
      ∙ ap (λ (js : List LiveEntry). js ++ next.more) first.journal
      ∙ append_assoc old first.more next.more;
  second =
      let both = sum_by-append (λ (e : LiveEntry). is_claim_by 2 e.event) first.more next.more in
      let earlier = first.second in let later = next.second in omega (arith, both, earlier, later);
}

pub prefixes_on : (old mid new : List Living) → KeepPrefixes old mid → KeepPrefixes mid new → KeepPrefixes old new
prefixes_on old mid new first next p =
    continues_on (at old p).journal (at mid p).journal (at new p).journal (first p) (next p)
