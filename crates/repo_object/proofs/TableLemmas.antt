-- Fields of one kind of record are read alike by the table of all kinds and by that kind's own.
use Rattle.std.proofs.Common.{◌≡◌, ℕ, eqb, Bool, true, false, cond, ◌||◌, List, [], ◌∷◌, Option, Some, None, option_map}
use Rattle.std.proofs.Common.{refl}
use Rattle.std.proofs.Common.{sym, ap, ◌∙◌, inl, inr, ◌↔◌, subst}
use Rattle.std.specs.List.{All}
use Rattle.std.specs.Prelude.{IsTrue}
use Rattle.std.proofs.lemmas.Bool.{cases_eq, eq-eqb, ne_eqb, eqb-true}
use Rattle.std.proofs.lemmas.List.Elements.{All-head, All-tail}
use Rattle.ndn_tlv.specs.declared.order_table.FieldError.{FieldError}
use Rattle.ndn_tlv.specs.declared.order_table.FieldError.TheVariants.{Tlv, Critical}
use Rattle.ndn_tlv.specs.declared.order_table.Place.{Place}
use Rattle.ndn_tlv.specs.declared.tlv_fault.TlvFault.{TlvFault}
use Rattle.ndn_tlv.specs.Listing.{Listing, nothing, only_fault, ◌then◌}
use Rattle.ndn_tlv.specs.Elements.{Item, elements}
use Rattle.ndn_tlv.specs.OrderTable.{is_critical_type, place_of, fields_among, fields}
use Rattle.ndn_tlv.proofs.Fields.{fields-field, fields-critical, fields-stranger}
use Rattle.repo_object.specs.declared.record_fields.RecordField.{RecordField}
use Rattle.repo_object.specs.declared.record_fields.RecordField.TheVariants as field
use Rattle.repo_object.specs.Records.{record_table, record_fields}
use Rattle.repo_object.specs.KindTables.{Kind, kind_table, is_of_kind}
use Rattle.repo_object.specs.KindTables.Kind.{OfSegments, OfIndexes, OfWithdrawals}
use Rattle.repo_object.proofs.RecordLemmas.{Field}

abbrev Table : Type 0
Table = List (Place RecordField)

abbrev Fields : Type 0
Fields = Listing Field FieldError

abbrev typ_of : RecordField → ℕ
typ_of field.Withdraws = 133
typ_of field.Name = 7
typ_of field.SegmentCount = 129
typ_of field.Digest = 131
typ_of field.IndexDigest = 135

-- each place has its field's type, which is critical
abbrev Good : Table → Type 0
Good [] = Unit
Good (p ∷ ps) = (p.typ ≡ typ_of p.field) × (is_critical_type p.typ ≡ true) × Good ps

abbrev ended : Option TlvFault → Listing Field FieldError
ended None = nothing
ended (Some f) = only_fault (Tlv f)

record Found (typ : ℕ) (x : RecordField × Table) : Type 0 where
  typed : typ ≡ typ_of x.0
  critical : is_critical_type typ ≡ true
  good : Good x.1

same_found : (x y : RecordField × Table) → (let o : Option (RecordField × Table) = Some x in o) ≡ Some y → x ≡ y
same_found x y e = cc

found : (typ : ℕ) (u : Table) (x : RecordField × Table) → Good u → place_of typ u ≡ Some x → Found typ x
unfolding place_of
found typ [] x good h = absurd cc
found typ (p ∷ ps) x good h =
    elim (cases_eq p.typ typ) [
      | inl same ↦
          let here : RecordField × Table = (p.field, cond p.repeats (p ∷ ps) ps) in
          let is : here ≡ x = same_found here x (sym (rw (eq-eqb p.typ typ same) refl) ∙ h) in
          subst (Found typ) is (record {
            typed = sym same ∙ good.0;
            critical = ap is_critical_type (sym same) ∙ good.1;
            good = after p.repeats;
          })
      | inr other ↦ found typ ps x good.2 (sym (rw (ne_eqb p.typ typ other) refl) ∙ h)
    ]
  where
    after : (b : Bool) → Good (cond b (p ∷ ps) ps)
    after true = good
    after false = good.2

fields_end : (u : Table) (fault : Option TlvFault) → fields_among u [] fault ≡ ended fault
unfolding fields_among
fields_end u None = refl
fields_end u (Some f) = refl

-- ---- a table without the places of some types

abbrev after_of : List Item → Option TlvFault → Listing Item TlvFault
after_of es fault = record { items = es; fault = fault }

module _ (stays : ℕ → Bool) where
  abbrev keep : Table → Table
  keep [] = []
  keep (p ∷ ps) = cond (stays p.typ) (p ∷ keep ps) (keep ps)

  abbrev kept : RecordField × Table → RecordField × Table
  kept x = (x.0, keep x.1)

  abbrev Stay : List Field → Type 0
  Stay [] = Unit
  Stay (x ∷ xs) = (stays x.1.typ ≡ true) × Stay xs

  place-kept : (typ : ℕ) (u : Table) → stays typ ≡ true → place_of typ (keep u) ≡ option_map kept (place_of typ u)
  unfolding place_of
  place-kept typ [] s = refl
  place-kept typ (p ∷ ps) s = step (place-kept typ ps s) (stays p.typ) (eqb p.typ typ) refl refl where
    open_places : (b : Bool) → stays p.typ ≡ true → cond b (p ∷ keep ps) (keep ps) ≡ keep (cond b (p ∷ ps) ps)
    open_places true sb = rw sb refl
    open_places false sb = refl

    step : place_of typ (keep ps) ≡ option_map kept (place_of typ ps) → (b c : Bool) → stays p.typ ≡ b
        → eqb p.typ typ ≡ c
        → place_of typ (cond b (p ∷ keep ps) (keep ps))
        ≡ option_map kept (cond c (Some (p.field, cond p.repeats (p ∷ ps) ps)) (place_of typ ps))
    step later true true sb ec =
        rw ec (ap (λ (t : Table). placed (p.field, t)) (open_places p.repeats sb)) where
          placed : RecordField × Table → Option (RecordField × Table)
          placed x = Some x
    step later true false sb ec = rw ec later
    step later false true sb ec =
        let no : true ≡ false = sym s ∙ ap stays (sym (eqb-true p.typ typ ec)) ∙ sb in absurd cc
    step later false false sb ec = later

  place-gone : (typ : ℕ) (u : Table) → stays typ ≡ false → place_of typ (keep u) ≡ None
  unfolding place_of
  place-gone typ [] s = refl
  place-gone typ (p ∷ ps) s = step (place-gone typ ps s) (stays p.typ) (eqb p.typ typ) refl refl where
    step : place_of typ (keep ps) ≡ None → (b c : Bool) → stays p.typ ≡ b → eqb p.typ typ ≡ c
        → place_of typ (cond b (p ∷ keep ps) (keep ps)) ≡ None
    step later true true sb ec =
        let no : true ≡ false = sym sb ∙ ap stays (eqb-true p.typ typ ec) ∙ s in absurd cc
    step later true false sb ec = rw ec later
    step later false c sb ec = later

  none-kept : (typ : ℕ) (u : Table) → place_of typ u ≡ None → place_of typ (keep u) ≡ None
  none-kept typ u at = by_type (stays typ) refl where
    by_type : (b : Bool) → stays typ ≡ b → place_of typ (keep u) ≡ None
    by_type true s = place-kept typ u s ∙ ap (option_map kept) at
    by_type false s = place-gone typ u s

  -- fields whose types stay are read without the places that go
  same-kept : (u : Table) (es : List Item) (fault : Option TlvFault) → Stay (fields_among u es fault).items
      → fields_among (keep u) es fault ≡ fields_among u es fault
  same-kept u [] None s = fields_end (keep u) None ∙ sym (fields_end u None)
  same-kept u [] (Some f) s = fields_end (keep u) (Some f) ∙ sym (fields_end u (Some f))
  same-kept u (e ∷ es) fault s = by_place (λ t h. same-kept t es fault h) (place_of e.typ u) refl where
    by_place : ((t : Table) → Stay (fields_among t es fault).items
        → fields_among (keep t) es fault ≡ fields_among t es fault)
        → (o : Option (RecordField × Table)) → place_of e.typ u ≡ o
        → fields_among (keep u) (e ∷ es) fault ≡ fields_among u (e ∷ es) fault
    by_place later None at = by_kind (is_critical_type e.typ) refl where
      gone : place_of e.typ (keep u) ≡ None
      gone = none-kept e.typ u at

      by_kind : (b : Bool) → is_critical_type e.typ ≡ b
          → fields_among (keep u) (e ∷ es) fault ≡ fields_among u (e ∷ es) fault
      by_kind true c =
          fields-critical (keep u) e (after_of es fault) gone c ∙ sym (fields-critical u e (after_of es fault) at c)
      by_kind false c =
          let skipped = fields-stranger u e (after_of es fault) at c in
          let P : Fields → Type 0 = λ l. Stay l.items in
          fields-stranger (keep u) e (after_of es fault) gone c
          ∙ later u (subst P skipped s)
          ∙ sym skipped
    by_place later (Some x) at =
        let here = fields-field u e (after_of es fault) x.0 x.1 at in
        let P : Fields → Type 0 = λ l. Stay l.items in
        let both = subst P here s in
        fields-field (keep u) e (after_of es fault) x.0 (keep x.1)
        (place-kept e.typ u both.0 ∙ ap (option_map kept) at)
        ∙ ap (λ (l : Fields). (x.0, e) then l) (later x.1 both.1)
        ∙ sym here

  -- and what is read without them, and no fault ends, is read with them too
  kept-same : (u : Table) (es : List Item) (fault : Option TlvFault) → Good u
      → (fields_among (keep u) es fault).fault ≡ None → fields_among u es fault ≡ fields_among (keep u) es fault
  kept-same u [] None good whole = fields_end u None ∙ sym (fields_end (keep u) None)
  kept-same u [] (Some f) good whole = fields_end u (Some f) ∙ sym (fields_end (keep u) (Some f))
  kept-same u (e ∷ es) fault good whole = by_place (λ t g h. kept-same t es fault g h) (place_of e.typ u) refl where
    by_place : ((t : Table) → Good t → (fields_among (keep t) es fault).fault ≡ None
        → fields_among t es fault ≡ fields_among (keep t) es fault)
        → (o : Option (RecordField × Table)) → place_of e.typ u ≡ o
        → fields_among u (e ∷ es) fault ≡ fields_among (keep u) (e ∷ es) fault
    by_place later None at = by_kind (is_critical_type e.typ) refl where
      gone : place_of e.typ (keep u) ≡ None
      gone = none-kept e.typ u at

      by_kind : (b : Bool) → is_critical_type e.typ ≡ b
          → fields_among u (e ∷ es) fault ≡ fields_among (keep u) (e ∷ es) fault
      by_kind true c =
          fields-critical u e (after_of es fault) at c ∙ sym (fields-critical (keep u) e (after_of es fault) gone c)
      by_kind false c =
          let skipped = fields-stranger (keep u) e (after_of es fault) gone c in
          fields-stranger u e (after_of es fault) at c
          ∙ later u good (ap (λ (l : Fields). l.fault) (sym skipped) ∙ whole)
          ∙ sym skipped
    by_place later (Some x) at = by_type (stays e.typ) refl where
      here : Found e.typ x
      here = found e.typ u x good at

      by_type : (b : Bool) → stays e.typ ≡ b → fields_among u (e ∷ es) fault ≡ fields_among (keep u) (e ∷ es) fault
      by_type true s =
          let read =
          fields-field (keep u) e (after_of es fault) x.0 (keep x.1)
          (place-kept e.typ u s ∙ ap (option_map kept) at) in
          fields-field u e (after_of es fault) x.0 x.1 at
          ∙ ap (λ (l : Fields). (x.0, e) then l)
          (later x.1 here.good (ap (λ (l : Fields). l.fault) (sym read) ∙ whole))
          ∙ sym read
      by_type false s =
          let broken = fields-critical (keep u) e (after_of es fault) (place-gone e.typ u s) here.critical in
          let none : Some (Critical e.typ e.start) ≡ None = ap (λ (l : Fields). l.fault) (sym broken) ∙ whole in
          absurd cc

-- ---- the tables of the kinds

abbrev Typed : List Field → Type 0
Typed [] = Unit
Typed (x ∷ xs) = (x.1.typ ≡ typ_of x.0) × Typed xs

abbrev AreTyped : Fields → Type 0
AreTyped l = Typed l.items

typed : (u : Table) (es : List Item) (fault : Option TlvFault) → Good u → AreTyped (fields_among u es fault)
typed u [] None good = subst AreTyped (sym (fields_end u None)) tt
typed u [] (Some f) good = subst AreTyped (sym (fields_end u (Some f))) tt
typed u (e ∷ es) fault good = by_place (λ t g. typed t es fault g) (place_of e.typ u) refl where
  by_place : ((t : Table) → Good t → AreTyped (fields_among t es fault)) → (o : Option (RecordField × Table))
      → place_of e.typ u ≡ o → AreTyped (fields_among u (e ∷ es) fault)
  by_place later None at = by_kind (is_critical_type e.typ) refl where
    by_kind : (b : Bool) → is_critical_type e.typ ≡ b → AreTyped (fields_among u (e ∷ es) fault)
    by_kind true c = subst AreTyped (sym (fields-critical u e (after_of es fault) at c)) tt
    by_kind false c = subst AreTyped (sym (fields-stranger u e (after_of es fault) at c)) (later u good)
  by_place later (Some x) at =
      let here = found e.typ u x good at in
      subst AreTyped (sym (fields-field u e (after_of es fault) x.0 x.1 at)) (here.typed, later x.1 here.good)

abbrev stays_in : Kind → ℕ → Bool
stays_in OfSegments typ = eqb typ 7 || (eqb typ 129 || eqb typ 131)
stays_in OfIndexes typ = eqb typ 7 || (eqb typ 129 || eqb typ 135)
stays_in OfWithdrawals typ = eqb typ 133

field-stays : (kind : Kind) (f : RecordField) → is_of_kind kind f ≡ true → stays_in kind (typ_of f) ≡ true
field-stays OfSegments field.Withdraws h = absurd cc
field-stays OfSegments field.Name h = refl
field-stays OfSegments field.SegmentCount h = refl
field-stays OfSegments field.Digest h = refl
field-stays OfSegments field.IndexDigest h = absurd cc
field-stays OfIndexes field.Withdraws h = absurd cc
field-stays OfIndexes field.Name h = refl
field-stays OfIndexes field.SegmentCount h = refl
field-stays OfIndexes field.Digest h = absurd cc
field-stays OfIndexes field.IndexDigest h = refl
field-stays OfWithdrawals field.Withdraws h = refl
field-stays OfWithdrawals field.Name h = absurd cc
field-stays OfWithdrawals field.SegmentCount h = absurd cc
field-stays OfWithdrawals field.Digest h = absurd cc
field-stays OfWithdrawals field.IndexDigest h = absurd cc

abbrev OfKind : Kind → Field → Type 0
OfKind kind x = IsTrue (is_of_kind kind x.0)

all_stay : (kind : Kind) (items : List Field) → All (OfKind kind) items → Typed items → Stay (stays_in kind) items
all_stay kind [] all types = tt
all_stay kind (x ∷ xs) all types = (
  ap (stays_in kind) types.0 ∙ field-stays kind x.0 (All-head (OfKind kind) x xs all),
  all_stay kind xs (All-tail (OfKind kind) x xs all) types.1,
)

kind_places : (kind : Kind) → keep (stays_in kind) record_table ≡ kind_table kind
kind_places OfSegments = refl
kind_places OfIndexes = refl
kind_places OfWithdrawals = refl

record_good : Good record_table
record_good = (refl, refl, (refl, refl, (refl, refl, (refl, refl, (refl, refl, tt)))))

abbrev only : List Field → Fields
only items = record { items = items; fault = None }

pub own_table : (kind : Kind) (content : List ℕ) (items : List Field) → All (OfKind kind) items
    → (record_fields content ≡ only items) ↔ (fields (kind_table kind) (elements 0 content) ≡ only items)
own_table kind content items all = (
  λ (h : record_fields content ≡ only items).
      (let stay : Stay (stays_in kind) (record_fields content).items =
      all_stay kind (record_fields content).items (subst (All (OfKind kind)) (sym (ap (λ (l : Fields). l.items) h)) all)
      (typed record_table (elements 0 content).items (elements 0 content).fault record_good) in
      ap (λ (t : Table). fields t (elements 0 content)) (sym (kind_places kind))
      ∙ same-kept (stays_in kind) record_table (elements 0 content).items (elements 0 content).fault stay
      ∙ h),
  λ (h : fields (kind_table kind) (elements 0 content) ≡ only items).
      (let own = ap (λ (t : Table). fields t (elements 0 content)) (kind_places kind) ∙ h in
      kept-same (stays_in kind) record_table (elements 0 content).items (elements 0 content).fault record_good
      (ap (λ (l : Fields). l.fault) own)
      ∙ own),
)
