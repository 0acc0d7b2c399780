-- What is left of an inbox.
use Rattle.std.proofs.Common.{◌≡◌, ℕ, ◌<◌, List, [], ◌∷◌, ◌++◌, map, length, refl, ap, sym, ◌∙◌, subst, append_assoc}
use Rattle.std.proofs.Common.{Result, Ok, Err, arith}
use Rattle.std.specs.Prelude.{IfOk, slice_index_or}
use Rattle.std.specs.List.{All}
use Rattle.std.proofs.lemmas.List.{append-nil, length-map, map-append}
use Rattle.std.proofs.Math.ListN.{get_or-map}
use Rattle.atomic_table.specs.Seated.{TableId}
use Rattle.crossbeam_queue.specs.Fifo.{Held}
use Rattle.live_inbox.specs.declared.knowledge.Sent.{Sent}
use Rattle.live_inbox.specs.declared.knowledge.Returned.{Returned}
use Rattle.live_inbox.specs.declared.knowledge.Knowledge.{Knowledge}
use Rattle.live_inbox.specs.Knowledge.{values_of, mouth_knows, StandsBefore, TakesFirst, IsClosing}
use Rattle.live_inbox.specs.Delivery.{AllThere, Remain}
use Rattle.live_inbox.specs.Ends.{PortView, MouthView, returned, HasTaken, AreLeft}

module _ {T : Type 0} where
  -- the values that were taken since the mouth knew v, where it now knows w
  pub record HasEmptied (v : Knowledge T) (values : List T) (w : Knowledge T) : Type 0 where
    pub rest : List (Sent T)
    pub same : map (λ x. x.value) rest ≡ values
    pub knows : w ≡ mouth_knows v.ports v.dealt (v.taken ++ rest) w.waiting v.returned
    pub first : StandsBefore v.waiting (rest ++ w.waiting)

  pub is_closing : (ports dealt : ℕ) (taken waiting : List (Sent T)) (back : List (Returned T)) (v : Knowledge T)
      → v ≡ mouth_knows ports dealt taken waiting back → IsClosing back v
  is_closing ports dealt taken waiting back v is = subst (λ (u : Knowledge T). IsClosing back u) (sym is) refl

  pub emptied_none : (v : Knowledge T) → IsClosing v.returned v → HasEmptied v [] v
  emptied_none v is = record {
    rest = [];
    same = refl;
    knows = is ∙ ap (λ l. mouth_knows v.ports v.dealt l v.waiting v.returned) (sym (append-nil v.taken));
    first = ([], append-nil v.waiting);
  }

  pub emptied_closing : (v : Knowledge T) (values : List T) (w : Knowledge T) → HasEmptied v values w
      → IsClosing v.returned w
  emptied_closing v values w h = is_closing v.ports v.dealt (v.taken ++ h.rest) w.waiting v.returned w h.knows

  first_next : (waiting rest between now : List (Sent T)) (x : Sent T) → StandsBefore waiting (rest ++ between)
      → StandsBefore between (x ∷ now)
      → StandsBefore waiting ((rest ++ x ∷ []) ++ now)
  first_next waiting rest between now x a b = (
    a.0 ++ b.0,
    sym (append_assoc waiting a.0 b.0) ∙ ap (λ l. l ++ b.0) a.1 ∙ append_assoc rest between b.0
        ∙ ap (λ l. rest ++ l) b.1
        ∙ sym (append_assoc rest (x ∷ []) now),
  )

  pub emptied_next : (v : Knowledge T) (values : List T) (w : Knowledge T) (x : Sent T) (u : Knowledge T)
      → HasEmptied v values w → TakesFirst w x u
      → HasEmptied v (values ++ x.value ∷ []) u
  emptied_next v values w x u h t =
      let knows : u ≡ mouth_knows v.ports v.dealt ((v.taken ++ h.rest) ++ x ∷ []) u.waiting v.returned =
      t.knows ∙ ap (λ (k : Knowledge T). mouth_knows k.ports k.dealt
      (k.taken ++ x ∷ []) u.waiting k.returned) h.knows in
      record {
        rest = h.rest ++ x ∷ [];
        same = map-append (λ (y : Sent T). y.value) h.rest (x ∷ []) ∙ ap (λ l. l ++ x.value ∷ []) h.same;
        knows = knows ∙ ap (λ l. mouth_knows v.ports v.dealt l u.waiting v.returned)
            (append_assoc v.taken h.rest (x ∷ []));
        first = first_next v.waiting h.rest w.waiting u.waiting x h.first t.first;
      }

  -- nothing is left
  none_left : (ports : ℕ) (taken waiting : List (Sent T)) (back : List (Returned T)) (items : List (Sent T))
      → length items ≡ 0 → StandsBefore waiting items → AllThere ports taken back items
      → (waiting ≡ []) × AllThere ports taken back []
  none_left ports taken [] back [] none first all = (refl, all)
  none_left ports taken (y ∷ ys) back [] none first all = absurd (omega (arith, ap length first.1))
  none_left ports taken waiting back (x ∷ xs) none first all = absurd (omega arith)

  pub emptied_all : (v : Knowledge T) (values : List T) (w : Knowledge T) → HasEmptied v values w
      → Held 0 (λ items. StandsBefore w.waiting items × AllThere w.ports w.taken w.returned items) → Remain v values
  emptied_all v values w h held =
      let none = none_left w.ports w.taken w.waiting w.returned held.0 held.1 held.2.0 held.2.1 in
      let all : AllThere v.ports (v.taken ++ h.rest) v.returned [] =
      subst (λ (u : Knowledge T). AllThere u.ports u.taken u.returned []) h.knows none.1 in
      record {
        left = h.rest;
        same = h.same;
        there = subst (λ (l : List (Sent T)). All (λ x. x.port < v.ports) l
            × All (λ r. values_of r.port l ≡ r.put) v.returned)
            (append-nil (v.taken ++ h.rest)) all;
        first = (h.first.0, h.first.1 ∙ ap (λ l. h.rest ++ l) none.0 ∙ append-nil h.rest);
      }

  -- ---- as callers see it

  abbrev seen : TableId → Knowledge T → MouthView T
  seen inbox v = record { inbox = inbox; ports = v.ports; taken = v.taken; waiting = v.waiting }

  pub has_taken : (inbox now : TableId) (v : Knowledge T) (x : Sent T) (w : Knowledge T) → now ≡ inbox
      → TakesFirst v x w
      → HasTaken (seen inbox v) x.value (seen now w)
  has_taken inbox now v x w same t = record {
    port = x.port;
    one = t.port;
    mouth = λ i. record {
      inbox = same i;
      ports = ap (λ (k : Knowledge T). k.ports) t.knows i;
      taken = ap (λ (k : Knowledge T). k.taken) t.knows i;
      waiting = w.waiting;
    };
    first = t.first;
  }

  each_port : (ports : List (PortView T)) (taken left : List (Sent T))
      → All (λ r. values_of r.port (taken ++ left) ≡ r.put) (map returned ports)
      → All (λ port. values_of port.number (taken ++ left) ≡ port.put) ports
  each_port ports taken left h = λ k d less.
      let is : slice_index_or (map returned ports) k (returned d) ≡ returned (slice_index_or ports k d) =
      get_or-map returned ports k d in
      subst (λ (x : Returned T). values_of x.port (taken ++ left) ≡ x.put) is
      (h k (returned d) (omega (arith, less, length-map ports returned)))

  pub closes : {V A : Type 0} (items : V → List T) (r : Result V A) (ports : List (PortView T)) (mouth : MouthView T)
      (dealt : ℕ) (v : Knowledge T)
      → v ≡ mouth_knows mouth.ports dealt mouth.taken mouth.waiting (map returned ports)
      → IfOk r (λ values. Remain v (items values)) → IfOk r (λ values. AreLeft ports mouth (items values))
  closes items (Ok values) ports mouth dealt v is h =
      let remain : Remain (mouth_knows mouth.ports dealt mouth.taken mouth.waiting (map returned ports))
      (items values) =
      subst (λ (u : Knowledge T). Remain u (items values)) is h in
      record {
        left = remain.left;
        same = remain.same;
        each = each_port ports mouth.taken remain.left remain.there.1;
        own = remain.there.0;
        first = remain.first;
      }
  closes items (Err e) ports mouth dealt v is h = tt
