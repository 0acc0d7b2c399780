use Rattle.std.proofs.Common.{◌≡◌, ℕ, ◌++◌, [], ◌∷◌, length, string_bytes, append-nil, sym, ap, ◌∙◌, arith, rules}
use Rattle.ndn_tlv.specs.declared.tlv_fault.TlvFault.{TlvFault}
use Rattle.ndn_tlv.specs.Listing.{Listing}
use Rattle.ndn_tlv.specs.Elements.{Item, item, elements}
use Rattle.ndn_inspect.specs.Inspection.{Lines, element_line}
use Rattle.ndn_inspect.proofs.OpenReadings.{Readings, at_end, at_fault, at_leaf, at_nest, all_read, first_read, Fit-nil}
use Rattle.ndn_inspect.proofs.OpenReadings.{Fit-last, Fit-parts, Fit-element, elements_fit, size, size_elements}
use Rattle.ndn_inspect.proofs.OpenReadings.{size-then, work, work-last}
use Rattle.ndn_inspect.proofs.inspector.put_elements.Goals as goal

pub loop-reader-init : goal.loop-reader-init
loop-reader-init c =
    let octets = c.args.octets.now in
    let pushed : c.push.new.self.items ≡ elements 0 octets ∷ [] =
    c.in_ok-push.ensures.items
    ∙ ap (λ (list : Readings). list ++ c.new.result ∷ []) c.new-open.ensures.items
    ∙ ap (λ (r : Listing Item TlvFault). r ∷ []) c.new.ensures.elements in (
      rw pushed (first_read (string_bytes c.args.text.now) octets),
      rw pushed (Fit-last [] (elements 0 octets) Fit-nil (elements_fit 0 octets (search rules))),
    )

pub returns-in-Err-clause-text : goal.returns-in-Err-clause-text
returns-in-Err-clause-text c =
    let text = string_bytes c.loop-reader.text in
    let popped = c.in-Some.ensures.items in
    let so_far = rw popped at c.loop-reader.invariant.0 in
    let end = at_fault text c.pop.new.self.items c.in-Some.reader _ so_far c.in-Err.fault c.in-Err.ensures.fault in
    sym (append-nil text) ∙ ap (λ (x : Lines). x.text) end

pub returns-in-Err-clause-fault : goal.returns-in-Err-clause-fault
returns-in-Err-clause-fault c =
    let text = string_bytes c.loop-reader.text in
    let so_far = rw c.in-Some.ensures.items at c.loop-reader.invariant.0 in
    let end = at_fault text c.pop.new.self.items c.in-Some.reader _ so_far c.in-Err.fault c.in-Err.ensures.fault in
    ap (λ (x : Lines). x.fault) end

pub loop-reader-smaller-in_default-next : goal.loop-reader-smaller-in_default-next
loop-reader-smaller-in_default-next c =
    let popped = ap work c.in-Some.ensures.items in
    let last = work-last c.pop.new.self.items c.in-Some.reader in
    omega arith

pub loop-reader-preserved-in_default-next : goal.loop-reader-preserved-in_default-next
loop-reader-preserved-in_default-next c =
    let outer = c.pop.new.self.items in
    let so_far = rw c.in-Some.ensures.items at c.loop-reader.invariant.0 in
    let fit = rw c.in-Some.ensures.items at c.loop-reader.invariant.1 in
    let seen = rw c.in_default-next.is at c.in-Ok.ensures.ok in (
      at_end (string_bytes c.loop-reader.text) outer c.in-Some.reader _ so_far seen.0,
      (Fit-parts outer c.in-Some.reader fit).0,
    )

pub new-requires-then-has_elements : goal.new-requires-then-has_elements
new-requires-then-has_elements c =
    let fit = rw c.in-Some.ensures.items at c.loop-reader.invariant.1 in
    let seen = rw c.in-Some-next.is at c.in-Ok.ensures.ok in
    let parts = Fit-parts c.pop.new.self.items c.in-Some.reader fit in
    (Fit-element (item c.in-Some-next.element) c.next.new.self c.in-Some.reader seen parts.1).0

pub loop-reader-smaller : goal.loop-reader-smaller
loop-reader-smaller c =
    let popped = ap work c.in-Some.ensures.items in
    let last = work-last c.pop.new.self.items c.in-Some.reader in
    let pushed = ap work c.in_ok-push-2.ensures.items in
    let next = work-last c.pop.new.self.items c.next.new.self in
    let seen = rw c.in-Some-next.is at c.in-Ok.ensures.ok in
    let less = size-then (item c.in-Some-next.element) c.next.new.self c.in-Some.reader seen in
    omega arith

pub loop-reader-preserved : goal.loop-reader-preserved
loop-reader-preserved c =
    let outer = c.pop.new.self.items in
    let text = string_bytes c.loop-reader.text in
    let element = item c.in-Some-next.element in
    let so_far = rw c.in-Some.ensures.items at c.loop-reader.invariant.0 in
    let fit = rw c.in-Some.ensures.items at c.loop-reader.invariant.1 in
    let parts = Fit-parts outer c.in-Some.reader fit in
    let seen = rw c.in-Some-next.is at c.in-Ok.ensures.ok in
    let leaf = sym c.has_elements.ensures ∙ c.if-has_elements.false in
    let deep : c.len.result ≡ length outer = c.len.ensures ∙ c.pop.new.self.ok.0 in
    let lined = c.in_ok-put_line.ensures ∙ ap (λ (d : ℕ). text ++ element_line d element) deep in (
      rw (lined, c.in_ok-push-2.ensures.items)
          (at_leaf text outer c.in-Some.reader _ so_far element c.next.new.self seen leaf),
      rw c.in_ok-push-2.ensures.items
          (Fit-last outer c.next.new.self parts.0
          (Fit-element element c.next.new.self c.in-Some.reader seen parts.1).1),
    )

pub loop-reader-smaller-in-Continue-branch-4 : goal.loop-reader-smaller-in-Continue-branch-4
loop-reader-smaller-in-Continue-branch-4 c =
    let outer = c.pop.new.self.items in
    let element = item c.in-Some-next.element in
    let popped = ap work c.in-Some.ensures.items in
    let last = work-last outer c.in-Some.reader in
    let pushed = ap work c.in_ok-push-2.ensures.items in
    let next = work-last outer c.next.new.self in
    let nested = ap work c.in_ok-push-3.ensures.items in
    let inner = work-last c.push-in-Some.new.self.items c.new-then-has_elements.result in
    let read = ap (λ (r : Listing Item TlvFault). size r.items) c.new-then-has_elements.ensures.elements in
    let short = size_elements element.value_start element.value in
    let seen = rw c.in-Some-next.is at c.in-Ok.ensures.ok in
    let less = size-then element c.next.new.self c.in-Some.reader seen in
    omega arith

pub loop-reader-preserved-in-Continue-branch-4 : goal.loop-reader-preserved-in-Continue-branch-4
loop-reader-preserved-in-Continue-branch-4 c =
    let outer = c.pop.new.self.items in
    let text = string_bytes c.loop-reader.text in
    let element = item c.in-Some-next.element in
    let so_far = rw c.in-Some.ensures.items at c.loop-reader.invariant.0 in
    let fit = rw c.in-Some.ensures.items at c.loop-reader.invariant.1 in
    let parts = Fit-parts outer c.in-Some.reader fit in
    let seen = rw c.in-Some-next.is at c.in-Ok.ensures.ok in
    let fits = Fit-element element c.next.new.self c.in-Some.reader seen parts.1 in
    let nest = sym c.has_elements.ensures ∙ c.if-has_elements.true in
    let deep : c.len.result ≡ length outer = c.len.ensures ∙ c.pop.new.self.ok.0 in
    let lined = c.in_ok-put_line.ensures ∙ ap (λ (d : ℕ). text ++ element_line d element) deep in
    let inner = elements element.value_start element.value in
    let pushed : c.push-then-has_elements.new.self.items ≡ (outer ++ c.next.new.self ∷ []) ++ inner ∷ [] =
    c.in_ok-push-3.ensures.items
    ∙ ap (λ (list : Readings). list ++ c.new-then-has_elements.result ∷ []) c.in_ok-push-2.ensures.items
    ∙ ap (λ (r : Listing Item TlvFault). (outer ++ c.next.new.self ∷ []) ++ r ∷ [])
    c.new-then-has_elements.ensures.elements in (
      rw (lined, pushed) (at_nest text outer c.in-Some.reader _ so_far element c.next.new.self seen nest),
      rw pushed (Fit-last (outer ++ c.next.new.self ∷ []) inner (Fit-last outer c.next.new.self parts.0 fits.1)
          (elements_fit element.value_start element.value fits.0)),
    )

pub returns-clause-text : goal.returns-clause-text
returns-clause-text c =
    let none : length c.loop-reader.open.items ≡ 0 = sym c.loop-reader.open.ok.0 ∙ c.in_default.ensures.cases.0 in
    ap (λ (x : Lines). x.text)
    (all_read (string_bytes c.loop-reader.text) c.loop-reader.open.items _ none c.loop-reader.invariant.0)

pub returns-clause-fault : goal.returns-clause-fault
returns-clause-fault c =
    let none : length c.loop-reader.open.items ≡ 0 = sym c.loop-reader.open.ok.0 ∙ c.in_default.ensures.cases.0 in
    ap (λ (x : Lines). x.fault)
    (all_read (string_bytes c.loop-reader.text) c.loop-reader.open.items _ none c.loop-reader.invariant.0)
