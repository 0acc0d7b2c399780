-- A new inbox, a put and a take keep the rule.
use Rattle.std.proofs.Common.{◌≡◌, ◌≢◌, ℕ, zero, suc, ◌<◌, true, false, true≢false, List, [], ◌∷◌, ◌++◌, refl, ap}
use Rattle.std.proofs.Common.{sym, ◌∙◌, subst, append_assoc, arith}
use Rattle.std.specs.List.{All}
use Rattle.std.proofs.lemmas.List.{append-nil}
use Rattle.std.proofs.lemmas.List.Elements.{All-nil}
use mathlib.Core.Option.{some, some-injective, some-ne-none}
use lib.ListN.{get_elem?}
use Rattle.crossbeam_queue.specs.Fifo.{Pushes, Pops, Learns}
use Rattle.live_inbox.specs.declared.knowledge.Sent.{Sent}
use Rattle.live_inbox.specs.declared.knowledge.Returned.{Returned}
use Rattle.live_inbox.specs.declared.knowledge.Knowledge.{Knowledge}
use Rattle.live_inbox.specs.Knowledge.{values_of, port_knows, mouth_knows, has_put, StandsBefore, StandsAfter}
use Rattle.live_inbox.specs.Knowledge.{TakesFirst, IsClosing}
use Rattle.live_inbox.specs.Delivery.{History, IsWhole, IsPort, IsMouth, IsReturned, Delivers, AllThere}
use Rattle.live_inbox.proofs.Values.{All_to, each_set, second_part, values_append, values_own, values_other, all_below}

module _ {T : Type 0} where
  -- ---- a new inbox

  abbrev first_history : History T
  first_history = record {
    reader = 0;
    count = 0;
    dealt = 0;
    place = λ p. 0;
    returned = λ p. false;
    put =
        λ p. [];
    taken = [];
  }

  pub begins : Delivers [] (mouth_knows {T = T} 0 0 [] [] [] ∷ [])
  begins = record {
    history = first_history;
    whole = record { each = λ p. refl; few = omega arith; undealt = λ p le. (refl, refl) };
    ports = λ j u e s. absurd (true≢false (sym s ∙ sym (ap (λ (h : Knowledge T). h.puts) (only j u e).1)));
    mouth = λ j u e s. subst (λ (y : ℕ × Knowledge T). IsMouth first_history [] y.0 y.1)
        (λ i. (sym (only j u e).0 i, (only j u e).1 i))
        (record {
          only = refl;
          ports = refl;
          dealt = refl;
          taken = refl;
          waiting = ([], refl);
          returned =
              All-nil (IsReturned first_history);
        });
  }
    where
      only : (j : ℕ) (u : Knowledge T) → get_elem? (mouth_knows {T = T} 0 0 [] [] [] ∷ []) j ≡ some u
          → (j ≡ 0) × (mouth_knows {T = T} 0 0 [] [] [] ≡ u)
      only zero u e = (refl, some-injective (mouth_knows {T = T} 0 0 [] [] []) u e)
      only (suc j) u e = absurd (some-ne-none u (sym e))

  -- ---- what the queue holds

  -- no value is of a port that was not dealt out
  items_below : (h : History T) (items : List (Sent T)) → IsWhole h items
      → All (λ x. x.port < h.count) (h.taken ++ items)
  items_below h items whole =
      all_below h.count (h.taken ++ items) (λ p most. whole.each p
      ∙ (whole.undealt p (omega (arith, most, whole.few))).0)

  -- ---- a put

  abbrev after_put : Sent T → History T → History T
  after_put x h = record h { put = λ q. h.put q ++ values_of q (x ∷ []) }

  other_same : (h : History T) (x : Sent T) (q : ℕ) → x.port ≢ q → (after_put x h).put q ≡ h.put q
  other_same h x q apart = ap (λ l. h.put q ++ l) (values_other q x apart) ∙ append-nil (h.put q)

  whole_after_put : (h : History T) (items : List (Sent T)) (x : Sent T) → x.port < h.dealt → IsWhole h items
      → IsWhole (after_put x h) (items ++ x ∷ [])
  whole_after_put h items x there whole = record {
    each = λ q. ap (values_of q) (sym (append_assoc h.taken items (x ∷ [])))
        ∙ values_append q (h.taken ++ items) (x ∷ [])
        ∙ ap (λ l. l ++ values_of q (x ∷ [])) (whole.each q);
    few = whole.few;
    undealt = λ q most. (
      other_same h x q (λ is. omega (arith, there, most, is))
          ∙ (whole.undealt q most).0,
      (whole.undealt q most).1,
    );
  }

  port_after_put : (h : History T) (x : Sent T) (j : ℕ) (u : Knowledge T) → x.port ≢ u.port → IsPort h j u
      → IsPort (after_put x h) j u
  port_after_put h x j u apart one = record {
    there = one.there;
    ports = one.ports;
    only = one.only;
    out = one.out;
    put = one.put ∙ sym (other_same h x u.port apart);
  }

  mouth_after_put : (h : History T) (items : List (Sent T)) (x : Sent T) (j : ℕ) (u : Knowledge T)
      → h.returned x.port ≡ false
      → IsMouth h items j u → IsMouth (after_put x h) (items ++ x ∷ []) j u
  mouth_after_put h items x j u out one = record {
    only = one.only;
    ports = one.ports;
    dealt = one.dealt;
    taken = one.taken;
    waiting = (
      one.waiting.0 ++ x ∷ [],
      sym (append_assoc u.waiting one.waiting.0 (x ∷ []))
          ∙ ap (λ l. l ++ x ∷ []) one.waiting.1,
    );
    returned = All_to (IsReturned h) (IsReturned (after_put x h))
        (λ r y. (
          other_same h x r.port (λ is. true≢false (sym y.1 ∙ ap h.returned (sym is) ∙ out))
              ∙ y.0,
          y.1,
        )) u.returned one.returned;
  }

  pub puts : (n place number ports : ℕ) (put : List T) (x : Sent T) → x.port ≡ number
      → Pushes Delivers n place (port_knows number ports put) x (λ w. w ≡ port_knows number ports (put ++ x.value ∷ []))
  puts n place number ports put x is items views room d at =
      let h = d.history in
      let w : Knowledge T = port_knows number ports (put ++ x.value ∷ []) in
      let mine : IsPort h place (port_knows number ports put) = d.ports place (port_knows number ports put) at refl in
      let only : h.place x.port ≡ place = ap h.place is ∙ mine.only in (
        w,
        record {
          history = after_put x h;
          whole = whole_after_put h items x (omega (arith, is, mine.there)) d.whole;
          ports = each_set (λ j u. u.puts ≡ true → IsPort (after_put x h) j u) views place w
              (λ s. record {
                there = mine.there;
                ports = mine.ports;
                only = mine.only;
                out = mine.out;
                put = ap (λ l. l ++ x.value ∷ []) mine.put ∙ ap (λ l. h.put number ++ l) (sym (values_own number x is));
              })
              (λ j u apart e s. let one = d.ports j u e s in port_after_put h x j u
              (λ same. apart (sym one.only ∙ ap h.place (sym same) ∙ only)) one);
          mouth = each_set (λ j u. u.takes ≡ true → IsMouth (after_put x h) (items ++ x ∷ []) j u) views place w
              (λ s. absurd (true≢false (sym s)))
              (λ j u apart e s. mouth_after_put h items x j u (ap h.returned is ∙ mine.out) (d.mouth j u e s));
        },
        refl,
      )

  -- where a port has no room
  pub stands_after : (place number ports : ℕ) (put : List T)
      → Learns Delivers place (port_knows number ports put) (StandsAfter number ports put)
  stands_after place number ports put items views d at =
      let h = d.history in
      let mine = d.ports place (port_knows number ports put) at refl in (
        subst (λ n. All (λ x. x.port < n) items) (sym mine.ports)
            (second_part (λ x. x.port < h.count) h.taken items (items_below h items d.whole)),
        (values_of number h.taken, mine.put ∙ sym (d.whole.each number) ∙ values_append number h.taken items),
      )

  -- ---- a take

  abbrev after_take : Sent T → History T → History T
  after_take x h = record h { taken = h.taken ++ x ∷ [] }

  pub takes : (place ports dealt : ℕ) (taken waiting : List (Sent T)) (returned : List (Returned T))
      → Pops Delivers place (mouth_knows ports dealt taken waiting returned)
      (TakesFirst (mouth_knows ports dealt taken waiting returned))
  takes place ports dealt taken waiting returned x items views d at =
      let h = d.history in
      let v : Knowledge T = mouth_knows ports dealt taken waiting returned in
      let w : Knowledge T = mouth_knows ports dealt (taken ++ x ∷ []) items returned in
      let mine : IsMouth h (x ∷ items) place v = d.mouth place v at refl in
      let below = second_part (λ x. x.port < h.count) h.taken (x ∷ items) (items_below h (x ∷ items) d.whole) in (
        w,
        record {
          history = after_take x h;
          whole = record {
            each = λ q. ap (values_of q) (append_assoc h.taken (x ∷ []) items) ∙ d.whole.each q;
            few = d.whole.few;
            undealt = d.whole.undealt;
          };
          ports = each_set (λ j u. u.puts ≡ true → IsPort (after_take x h) j u) views place w
              (λ s. absurd (true≢false (sym s)))
              (λ j u apart e s. let one = d.ports j u e s in
              record { there = one.there; ports = one.ports; only = one.only; out = one.out; put = one.put });
          mouth = each_set (λ j u. u.takes ≡ true → IsMouth (after_take x h) items j u) views place w
              (λ s. record {
                only = mine.only;
                ports = mine.ports;
                dealt = mine.dealt;
                taken = ap (λ l. l ++ x ∷ []) mine.taken;
                waiting = ([], append-nil items);
                returned = All_to (IsReturned h) (IsReturned (after_take x h)) (λ r y. y) returned mine.returned;
              })
              (λ j u apart e s. absurd (apart ((d.mouth j u e s).only ∙ sym mine.only)));
        },
        record {
          knows = refl;
          port = subst (λ n. x.port < n) (sym mine.ports) (below 0 x (omega arith));
          first =
              mine.waiting;
        },
      )

  -- where nothing is there to take
  pub all_there : (place ports dealt : ℕ) (taken waiting : List (Sent T)) (returned : List (Returned T))
      → Learns Delivers place (mouth_knows ports dealt taken waiting returned)
      (λ items. StandsBefore waiting items × AllThere ports taken returned items)
  all_there place ports dealt taken waiting returned items views d at =
      let h = d.history in
      let mine = d.mouth place (mouth_knows ports dealt taken waiting returned) at refl in (
        mine.waiting,
        (
          subst (λ (y : ℕ × List (Sent T)). All (λ x. x.port < y.0) (y.1 ++ items))
              (λ i. (sym mine.ports i, sym mine.taken i))
              (items_below h items d.whole),
          All_to (IsReturned h) (λ r. values_of r.port (taken ++ items) ≡ r.put)
              (λ r y. ap (λ l. values_of r.port (l ++ items)) mine.taken ∙ d.whole.each r.port
              ∙ y.0) returned mine.returned,
        ),
      )

  -- ---- the same of knowledge that is known to be such

  pub puts_at : (n place number : ℕ) (v : Knowledge T) (value : T) → v ≡ port_knows number v.ports v.put
      → Pushes Delivers n place v (record { port = number; value = value }) (λ w. w ≡ has_put value v)
  puts_at n place number v value is =
      subst (λ (u : Knowledge T). Pushes Delivers n place u (record { port = number; value = value })
      (λ w. w ≡ has_put value u)) (sym is)
      (puts n place number v.ports v.put (record { port = number; value = value }) refl)

  pub stands_after_at : (place number : ℕ) (v : Knowledge T) → v ≡ port_knows number v.ports v.put
      → Learns Delivers place v (StandsAfter v.port v.ports v.put)
  stands_after_at place number v is =
      subst (λ (u : Knowledge T). Learns Delivers place u (StandsAfter u.port u.ports u.put)) (sym is)
      (stands_after place number v.ports v.put)

  pub takes_at : (place : ℕ) (v : Knowledge T) (returned : List (Returned T)) → IsClosing returned v
      → Pops Delivers place v (TakesFirst v)
  takes_at place v returned is =
      subst (λ (u : Knowledge T). Pops Delivers place u (TakesFirst u)) (sym is)
      (takes place v.ports v.dealt v.taken v.waiting returned)

  pub all_there_at : (place : ℕ) (v : Knowledge T) (returned : List (Returned T)) → IsClosing returned v
      → Learns Delivers place v (λ items. StandsBefore v.waiting items × AllThere v.ports v.taken v.returned items)
  all_there_at place v returned is =
      subst (λ (u : Knowledge T). Learns Delivers place u
      (λ items. StandsBefore u.waiting items × AllThere u.ports u.taken u.returned items)) (sym is)
      (all_there place v.ports v.dealt v.taken v.waiting returned)
