-- A port that is dealt out, and one that is taken back, keep the rule.
use Rattle.std.proofs.Common.{◌≡◌, ◌≢◌, ℕ, ◌+◌, ◌<◌, ◌==◌, true, false, true≢false, List, [], ◌∷◌, ◌++◌, length, set}
use Rattle.std.proofs.Common.{refl, ap, sym, ◌∙◌, subst, ⊎_elim, arith}
use Rattle.std.specs.Prelude.{if◌then◌else◌}
use Rattle.std.proofs.lemmas.List.Elements.{All-push}
use Rattle.std.proofs.lemmas.Bool.{ne_eqb}
use mathlib.Core.Option.{some}
use lib.ListN.{get_elem?}
use Rattle.crossbeam_queue.specs.Fifo.{Forks, Merges}
use Rattle.crossbeam_queue.proofs.Lists.{at_set}
use Rattle.live_inbox.specs.declared.knowledge.Sent.{Sent}
use Rattle.live_inbox.specs.declared.knowledge.Returned.{Returned}
use Rattle.live_inbox.specs.declared.knowledge.Knowledge.{Knowledge}
use Rattle.live_inbox.specs.Knowledge.{port_knows, mouth_knows, took_back, knows_nothing, IsClosing, IsDealing}
use Rattle.live_inbox.specs.Delivery.{History, IsWhole, IsPort, IsMouth, IsReturned, Delivers}
use Rattle.live_inbox.proofs.Values.{same_number, All_to, at_longer, each_set}

module _ {T : Type 0} where
  -- ---- a port is dealt out

  -- the history with one port more, which has a place at this number
  abbrev after_deal : ℕ → ℕ → History T → History T
  after_deal count place h =
      record h { count = count; dealt = h.dealt + 1; place = λ q. if h.dealt == q then place else h.place q }

  other_place : (h : History T) (count place q : ℕ) → h.dealt ≢ q → (after_deal count place h).place q ≡ h.place q
  other_place h count place q apart = ap (λ b. if b then place else h.place q) (ne_eqb h.dealt q apart)

  port_after_deal : (h : History T) (count place j : ℕ) (u : Knowledge T) → (0 < h.dealt → h.count ≡ count)
      → IsPort h j u → IsPort (after_deal count place h) j u
  port_after_deal h count place j u ports_known one = record {
    there = omega (arith, one.there);
    ports = one.ports ∙ ports_known (omega (arith, one.there));
    only = other_place h count place u.port (λ is. omega (arith, one.there, is)) ∙ one.only;
    out = one.out;
    put = one.put;
  }

  new_port : (h : History T) (items : List (Sent T)) (count place : ℕ) → IsWhole h items
      → IsPort (after_deal count place h) place (port_knows h.dealt count [])
  new_port h items count place whole = record {
    there = omega arith;
    ports = refl;
    only = ap (λ b. if b then place else h.place h.dealt) (same_number h.dealt h.dealt refl);
    out = (whole.undealt h.dealt (omega arith)).1;
    put = sym (whole.undealt h.dealt (omega arith)).0;
  }

  pub deals : (count place ports dealt : ℕ) (taken waiting : List (Sent T)) (returned : List (Returned T))
      → dealt < count → (0 < dealt → ports ≡ count)
      → Forks Delivers place (mouth_knows ports dealt taken waiting returned)
      (mouth_knows count (dealt + 1) taken waiting returned) (port_knows dealt count [])
  deals count place ports dealt taken waiting returned few ports_known items views d at =
      let h = d.history in
      let l : Knowledge T = mouth_knows count (dealt + 1) taken waiting returned in
      let r : Knowledge T = port_knows dealt count [] in
      let vs : List (Knowledge T) = set views place l in
      let mine : IsMouth h items place (mouth_knows ports dealt taken waiting returned) =
      d.mouth place (mouth_knows ports dealt taken waiting returned) at refl in
      let h' : History T = after_deal count (length vs) h in
      let ports_known' : 0 < h.dealt → h.count ≡ count = λ some. sym mine.ports
      ∙ ports_known (omega (arith, some, mine.dealt)) in
      let ports' : (j : ℕ) (u : Knowledge T) → get_elem? vs j ≡ some u → u.puts ≡ true → IsPort h' j u =
      each_set (λ j u. u.puts ≡ true → IsPort h' j u) views place l (λ s. absurd (true≢false (sym s)))
      (λ j u apart e s. port_after_deal h count (length vs) j u ports_known' (d.ports j u e s)) in
      let mouth' : (j : ℕ) (u : Knowledge T) → get_elem? vs j ≡ some u → u.takes ≡ true → IsMouth h' items j u =
      each_set (λ j u. u.takes ≡ true → IsMouth h' items j u) views place l
      (λ s. record {
        only = mine.only;
        ports = refl;
        dealt = ap (λ n. n + 1) mine.dealt;
        taken = mine.taken;
        waiting = mine.waiting;
        returned = All_to (IsReturned h) (IsReturned h') (λ r y. y) returned mine.returned;
      })
      (λ j u apart e s. absurd (apart ((d.mouth j u e s).only ∙ sym mine.only))) in
      record {
        history = h';
        whole = record {
          each = d.whole.each;
          few = omega (arith, few, mine.dealt);
          undealt = λ q most. d.whole.undealt q (omega (arith, most));
        };
        ports = λ j u e s. ⊎_elim (λ x. ports' j u x s)
            (λ (x : (j ≡ length vs) × (r ≡ u)). subst (λ (y : ℕ × Knowledge T). IsPort h' y.0 y.1)
            (λ i. (sym x.0 i, x.1 i))
            (subst (λ n. IsPort h' (length vs) (port_knows n count [])) (sym mine.dealt)
            (new_port h items count (length vs) d.whole)))
            (at_longer vs r u j e);
        mouth = λ j u e s. ⊎_elim (λ x. mouth' j u x s)
            (λ (x : (j ≡ length vs) × (r ≡ u)). absurd
            (true≢false (sym s ∙ sym (ap (λ (y : Knowledge T). y.takes) x.1)))) (at_longer vs r u j e);
      }

  -- ---- a port is taken back

  abbrev after_return : ℕ → History T → History T
  after_return number h = record h { returned = λ q. if number == q then true else h.returned q }

  other_out : (h : History T) (number q : ℕ) → number ≢ q → (after_return number h).returned q ≡ h.returned q
  other_out h number q apart = ap (λ b. if b then true else h.returned q) (ne_eqb number q apart)

  own_back : (h : History T) (number : ℕ) → (after_return number h).returned number ≡ true
  own_back h number = ap (λ b. if b then true else h.returned number) (same_number number number refl)

  still_back : (h : History T) (number q : ℕ) → h.returned number ≡ false → h.returned q ≡ true
      → (after_return number h).returned q ≡ true
  still_back h number q out back = other_out h number q
      (λ same. true≢false (sym back ∙ ap h.returned (sym same) ∙ out)) ∙ back

  port_after_return : (h : History T) (number j : ℕ) (u : Knowledge T) → number ≢ u.port → IsPort h j u
      → IsPort (after_return number h) j u
  port_after_return h number j u apart one = record {
    there = one.there;
    ports = one.ports;
    only = one.only;
    out = other_out h number u.port apart ∙ one.out;
    put = one.put;
  }

  pub returns : (place ports dealt : ℕ) (taken waiting : List (Sent T)) (returned : List (Returned T))
      (other number count : ℕ) (put : List T)
      → Merges Delivers place (mouth_knows ports dealt taken waiting returned) other (port_knows number count put)
      (mouth_knows ports dealt taken waiting (returned ++ record { port = number; put = put } ∷ [])) knows_nothing
  returns place ports dealt taken waiting returned other number count put items views d at two at' =
      let h = d.history in
      let back : Returned T = record { port = number; put = put } in
      let both : Knowledge T = mouth_knows ports dealt taken waiting (returned ++ back ∷ []) in
      let mine : IsMouth h items place (mouth_knows ports dealt taken waiting returned) =
      d.mouth place (mouth_knows ports dealt taken waiting returned) at refl in
      let vs : List (Knowledge T) = set views place both in
      let was : get_elem? views other ≡ some (port_knows number count put) =
      ⊎_elim (λ (x : (other ≡ place) × (both ≡ port_knows number count put)). absurd (two x.0)) (λ x. x.1)
      (at_set views place other both (port_knows number count put) at') in
      let theirs : IsPort h other (port_knows number count put) =
      d.ports other (port_knows number count put) was refl in
      let h' : History T = after_return number h in
      let ports' : (j : ℕ) (u : Knowledge T) → get_elem? vs j ≡ some u → j ≢ other → u.puts ≡ true → IsPort h' j u =
      each_set (λ j u. j ≢ other → u.puts ≡ true → IsPort h' j u) views place both
      (λ apart s. absurd (true≢false (sym s)))
      (λ j u _ e apart s. let one = d.ports j u e s in
      port_after_return h number j u (λ same. apart (sym one.only ∙ ap h.place (sym same) ∙ theirs.only)) one) in
      let mouth' : (j : ℕ) (u : Knowledge T) → get_elem? vs j ≡ some u → u.takes ≡ true → IsMouth h' items j u =
      each_set (λ j u. u.takes ≡ true → IsMouth h' items j u) views place both
      (λ s. record {
        only = mine.only;
        ports = mine.ports;
        dealt = mine.dealt;
        taken = mine.taken;
        waiting = mine.waiting;
        returned = All-push (IsReturned h') returned back
            (All_to (IsReturned h) (IsReturned h') (λ r y.
            (y.0, still_back h number r.port theirs.out y.1)) returned mine.returned)
            (sym theirs.put, own_back h number);
      })
      (λ j u apart e s. absurd (apart ((d.mouth j u e s).only ∙ sym mine.only))) in
      record {
        history = h';
        whole = record {
          each = d.whole.each;
          few = d.whole.few;
          undealt = λ q most. (
            (d.whole.undealt q most).0,
            other_out h number q (λ is. omega (arith, theirs.there, most, is)) ∙ (d.whole.undealt q most).1,
          );
        };
        ports = each_set (λ j u. u.puts ≡ true → IsPort h' j u) vs other knows_nothing
            (λ s. absurd (true≢false (sym s))) (λ j u apart e s. ports' j u e apart s);
        mouth = each_set (λ j u. u.takes ≡ true → IsMouth h' items j u) vs other knows_nothing
            (λ s. absurd (true≢false (sym s))) (λ j u apart e s. mouth' j u e s);
      }

  -- ---- the same of knowledge that is known to be such

  pub deals_at : (count place dealt : ℕ) (v : Knowledge T) → dealt < count → IsDealing count dealt v
      → Forks Delivers place v (mouth_knows count (v.dealt + 1) v.taken v.waiting v.returned)
      (port_knows v.dealt count [])
  deals_at count place dealt v few is =
      subst (λ (u : Knowledge T). Forks Delivers place u
      (mouth_knows count (u.dealt + 1) u.taken u.waiting u.returned) (port_knows u.dealt count [])) (sym is.mouth)
      (deals count place v.ports dealt [] [] [] few is.ports_known)

  pub returns_at : (place other number : ℕ) (v w : Knowledge T) (returned : List (Returned T)) → IsClosing returned v
      → w ≡ port_knows number w.ports w.put
      → Merges Delivers place v other w (took_back w v) knows_nothing
  returns_at place other number v w returned is was =
      subst (λ (u : Knowledge T). Merges Delivers place u other w (took_back w u) knows_nothing) (sym is)
      (subst (λ (u : Knowledge T). Merges Delivers place
      (mouth_knows v.ports v.dealt v.taken v.waiting returned) other u
      (took_back u (mouth_knows v.ports v.dealt v.taken v.waiting returned)) knows_nothing) (sym was)
      (returns place v.ports v.dealt v.taken v.waiting returned other number w.ports w.put))
