-- Inboxes are opened, and lines are dealt out, one of each inbox.
use Rattle.std.proofs.Common.{◌≡◌, ◌≢◌, inl, inr, ℕ, zero, suc, ◌+◌, ◌<◌, ◌≤◌, List}
use Rattle.std.proofs.Common.{[], ◌∷◌, ◌++◌, map, length, take, get_or}
use Rattle.std.proofs.Common.{set, refl, sym, ap, ◌∙◌, subst, arith}
use Rattle.std.proofs.lemmas.Bool.{cases_lt}
use Rattle.std.proofs.lemmas.List.{map-append, map-set, set-get_or, get_or-map, get_or_default, get_or-set_same}
use Rattle.std.proofs.lemmas.List.{get_or-set_other, length-set, length-map, length-append, take_more}
use Rattle.std.proofs.lemmas.List.Elements.{All-push}
use Rattle.atomic_table.specs.Seated.{TableId}
use Rattle.live_inbox.specs.Ends.{InboxView, fresh_port, fresh_ports}
use Rattle.live_group.specs.Senders.{SenderView, ReceiverView, OpenedView, HavePorts, HaveCapacity, inbox_capacity}

abbrev pub inboxes_of : List OpenedView → List InboxView
inboxes_of os = map (λ (o : OpenedView). o.inbox) os

abbrev pub inboxes_of_lines : List SenderView → List InboxView
inboxes_of_lines ls = map (λ (l : SenderView). l.inbox) ls

abbrev pub inboxes_of_ears : List ReceiverView → List InboxView
inboxes_of_ears es = map (λ (e : ReceiverView). e.inbox) es

-- `n` inboxes are open, each of one capacity and with a port for each member
pub record AreOpen (members n : ℕ) (opened : List OpenedView) (ears : List ReceiverView) : Type 0 where
  pub width : length opened ≡ n
  pub same : inboxes_of_ears ears ≡ inboxes_of opened
  pub capacity : HaveCapacity inbox_capacity (inboxes_of opened)
  pub ports : HavePorts members opened

pub one_open : (members n : ℕ) (opened : List OpenedView) (ears : List ReceiverView) (o : OpenedView) (e : ReceiverView)
    → AreOpen members n opened ears → o.inbox ≡ e.inbox → o.inbox.capacity ≡ inbox_capacity → length o.ports ≡ members
    → AreOpen members (n + 1) (opened ++ o ∷ []) (ears ++ e ∷ [])
one_open members n opened ears o e is its capacity ports = record {
  width = let long = length-append opened (o ∷ []) in let width = is.width in omega arith;
  same =
      map-append (λ (e : ReceiverView). e.inbox) ears (e ∷ [])
      ∙ ap (λ (is : List InboxView). is ++ e.inbox ∷ []) is.same
      ∙ ap (λ (i : InboxView). inboxes_of opened ++ i ∷ []) (sym its)
      ∙ sym (map-append (λ (o : OpenedView). o.inbox) opened (o ∷ []));
  capacity =
      subst (HaveCapacity inbox_capacity) (sym (map-append (λ (o : OpenedView). o.inbox) opened (o ∷ [])))
      (All-push (λ (i : InboxView). i.capacity ≡ inbox_capacity) (inboxes_of opened) o.inbox is.capacity capacity);
  ports = All-push (λ (o : OpenedView). length o.ports ≡ members) opened o is.ports ports;
}

-- `n` ports are dealt out of an inbox
pub fresh_count : (b : TableId) (all n : ℕ) → length (fresh_ports {T = List ℕ} b all n) ≡ n
fresh_count b all zero = refl
fresh_count b all (suc n) =
    let more = length-append (fresh_ports {T = List ℕ} b all n) (fresh_port b all n ∷ []) in
    let earlier = fresh_count b all n in omega arith

-- these lines are of the first `i` inboxes, which have one port less
pub record AreDealt (i : ℕ) (old now : List OpenedView) (senders : List SenderView) : Type 0 where
  pub width : length now ≡ length old
  pub dealt : inboxes_of_lines senders ≡ take i (inboxes_of old)
  pub same : inboxes_of now ≡ inboxes_of old
  pub fewer : (k : ℕ) (d : OpenedView) → k < i → length (get_or now k d).ports + 1 ≡ length (get_or old k d).ports
  pub rest : (k : ℕ) (d : OpenedView) → i ≤ k → get_or now k d ≡ get_or old k d

module _ (i : ℕ) (old now : List OpenedView) (senders : List SenderView) (o new : OpenedView) (sender : SenderView)
    (is : AreDealt i old now senders) (there : i < length now) (at : o ≡ get_or now i o)
    (its : sender.inbox ≡ o.inbox) (same : new.inbox ≡ o.inbox) (ports : length new.ports + 1 ≡ length o.ports) where
  in_old : i < length old
  in_old = let width = is.width in omega arith

  was : o ≡ get_or old i o
  was = at ∙ is.rest i o (omega arith)

  same_inboxes : inboxes_of (set now i new) ≡ inboxes_of old
  same_inboxes =
      map-set (λ (x : OpenedView). x.inbox) now i new
      ∙ ap (λ (b : InboxView). set (inboxes_of now) i b)
      (same ∙ ap (λ (x : OpenedView). x.inbox) at
      ∙ sym (get_or-map (λ (x : OpenedView). x.inbox) now i o o.inbox there))
      ∙ set-get_or (inboxes_of now) i o.inbox
      ∙ is.same

  its_place : sender.inbox ≡ get_or (inboxes_of old) i o.inbox
  its_place =
      its ∙ ap (λ (x : OpenedView). x.inbox) was
      ∙ sym (get_or-map (λ (x : OpenedView). x.inbox) old i o o.inbox in_old)

  one_line : inboxes_of_lines (senders ++ sender ∷ []) ≡ take (i + 1) (inboxes_of old)
  one_line =
      map-append (λ (l : SenderView). l.inbox) senders (sender ∷ [])
      ∙ ap (λ (ls : List InboxView). ls ++ sender.inbox ∷ []) is.dealt
      ∙ ap (λ (b : InboxView). take i (inboxes_of old) ++ b ∷ []) its_place
      ∙ sym (take_more (inboxes_of old) i o.inbox
      (let wide = length-map old (λ (x : OpenedView). x.inbox) in omega (arith, wide, in_old)))

  one_fewer : (k : ℕ) (d : OpenedView) → k < i + 1
      → length (get_or (set now i new) k d).ports + 1 ≡ length (get_or old k d).ports
  one_fewer k d less = elim (cases_lt k i) [
    | inl earlier ↦
        let other : k ≢ i = omega arith in
        ap (λ (x : OpenedView). length x.ports + 1) (get_or-set_other now i k new d other) ∙ is.fewer k d earlier
    | inr last ↦
        let here : k ≡ i = omega arith in
        rw here (ap (λ (x : OpenedView). length x.ports + 1) (get_or-set_same now i new d there)
        ∙ ports
        ∙ ap (λ (x : OpenedView). length x.ports) (was ∙ get_or_default old i o d in_old))
  ]

  pub one_dealt : AreDealt (i + 1) old (set now i new) (senders ++ sender ∷ [])
  one_dealt = record {
    width = length-set now i new ∙ is.width;
    dealt = one_line;
    same = same_inboxes;
    fewer = one_fewer;
    rest =
        λ k d later.
        let other : k ≢ i = omega arith in
        get_or-set_other now i k new d other ∙ is.rest k d (omega arith);
  }
