-- What lines that are taken declare.
use Rattle.std.proofs.Common.{◌≡◌, ◌∙◌, ℕ, ◌<◌, Bool, true, false, not, ◌&&◌, ◌||◌, List, [], ◌∷◌, ◌++◌, length, map}
use Rattle.std.proofs.Common.{None, Ok, Err, nat_le, refl, sym, ap, arith}
use Rattle.std.proofs.Common.{if◌then◌else◌}
use Rattle.std.specs.List.{list_any}
use Rattle.std.specs.Prelude.{is_some}
use Rattle.std.proofs.lemmas.Bool.{or_parts}
use Rattle.std.proofs.lemmas.Bool.Decides.{nat_tests}
use Rattle.ndn_name.specs.Names.{Component}
use Rattle.script_lang.specs.declared.verb.Verb.{Verb}
use Rattle.script_lang.specs.declared.verb.Verb.TheVariants as verb
use Rattle.script_lang.specs.declared.check_fault.CheckFault.TheVariants as check_fault
use Rattle.script_lang.specs.Kinds.{Value, Text, Named, Octets}
use Rattle.script_lang.specs.Forms.{Stated, statement}
use Rattle.script_lang.specs.Checking.{Declared, LineTotals, Party, after_line, after_event, are_known, are_known_by}
use Rattle.script_lang.specs.Checking.{are_clients, are_those, are_within_limits, has_label, labels_in, party_node}
use Rattle.script_lang.specs.Checking.{with_totals, adds, declared_then, is_party_among, is_there}
use Rattle.script_lang.specs.Checking.{are_members, is_label_there, may_declare, party}
use Rattle.script_lang.proofs.Parties.{nobody_has}
use Rattle.svs_vector.specs.Rosters.{has_same_octets, member_of}
use Rattle.repo_member.specs.Groups.{GroupKeys, is_name_taken}
use Rattle.repo_member.proofs.PublicLaws.{same_name, none_found}

-- A member or a client may be declared where the group is, no event was, nobody has its label or its name, and
-- there are few of its kind.
pub record MayDeclare (d : Declared) (p : Party) (count : ℕ) : Type 0 where
  pub group : d.group ≡ true
  pub early : d.events ≡ false
  pub apart : is_there d p ≡ false
  pub few : count < 16

may : (d : Declared) (p : Party) (count : ℕ) (after e : Declared) → declared_then (may_declare d p count) after ≡ Ok e
    → MayDeclare d p count × (after ≡ e)
may d p count after e h = go d.group d.events (is_there d p) (nat_le 16 count) refl refl refl refl h where
  go : (group events there full : Bool) → d.group ≡ group → d.events ≡ events → is_there d p ≡ there
      → nat_le 16 count ≡ full
      → declared_then (if not group then Err check_fault.NoGroup else if events then Err check_fault.Late
      else if there then Err check_fault.Duplicate else if full then Err check_fault.Limit else Ok tt) after ≡ Ok e
      → MayDeclare d p count × (after ≡ e)
  go false events there full g v t f k = absurd cc
  go true true there full g v t f k = absurd cc
  go true false true full g v t f k = absurd cc
  go true false false true g v t f k = absurd cc
  go true false false false g v t f k =
      (record { group = g; early = v; apart = t; few = grind (arith, nat_tests, f) }, cc)

pub member_declares : (d e : Declared) (label : List ℕ) (node : List Component) (key : List ℕ)
    → after_line d (statement verb.Member (Text label ∷ Named node ∷ Octets key ∷ [])) ≡ Ok e
    → MayDeclare d (party label node) (length d.members)
    × (record d { members = d.members ++ party label node ∷ [] } ≡ e)
member_declares d e label node key h = may d (party label node) (length d.members) _ e h

pub client_declares : (d e : Declared) (label : List ℕ) (node : List Component) (key : List ℕ)
    → after_line d (statement verb.Client (Text label ∷ Named node ∷ Octets key ∷ [])) ≡ Ok e
    → MayDeclare d (party label node) (length d.clients)
    × (record d { clients = d.clients ++ party label node ∷ [] } ≡ e)
client_declares d e label node key h = may d (party label node) (length d.clients) _ e h

pub group_declares : (d e : Declared) (name : List Component)
    → after_line d (statement verb.Group (Named name ∷ [])) ≡ Ok e
    → (d.group ≡ false) × (record d { group = true } ≡ e)
group_declares d e name h = go d.group refl h where
  go : (group : Bool) → d.group ≡ group
      → (if group then Err check_fault.Duplicate else Ok (record d { group = true })) ≡ Ok e
      → (d.group ≡ false) × (record d { group = true } ≡ e)
  go true g k = absurd cc
  go false g k = (g, cc)

-- A mirror may be declared where the group is, no event was, its publisher is known, and there are few mirrors.
pub record MayMirror (d : Declared) (publishers : List (List ℕ)) : Type 0 where
  pub group : d.group ≡ true
  pub early : d.events ≡ false
  pub known : are_members d publishers ≡ true
  pub few : length d.mirrors < 4

pub mirror_declares : (d e : Declared) (label : List ℕ) (publisher : Value) (prefix : List Component)
    → after_line d (statement verb.Mirror (Text label ∷ publisher ∷ Named prefix ∷ [])) ≡ Ok e
    → MayMirror d (labels_in (publisher ∷ [])) × (record d { mirrors = d.mirrors ++ label ∷ [] } ≡ e)
mirror_declares d e label publisher prefix h =
    go d.group d.events (are_members d publishers) (is_label_there d label) (nat_le 4 (length d.mirrors))
    refl refl refl refl h where
      publishers : List (List ℕ)
      publishers = labels_in (publisher ∷ [])

      after : Declared
      after = record d { mirrors = d.mirrors ++ label ∷ [] }

      go : (group events known there full : Bool) → d.group ≡ group → d.events ≡ events
          → are_members d publishers ≡ known → nat_le 4 (length d.mirrors) ≡ full
          → declared_then (if not group then Err check_fault.NoGroup else if events then Err check_fault.Late
          else if not known then Err check_fault.UnknownLabel else if there then Err check_fault.Duplicate
          else if full then Err check_fault.Limit else Ok tt) after ≡ Ok e
          → MayMirror d publishers × (after ≡ e)
      go false events known there full g v k f h = absurd cc
      go true true known there full g v k f h = absurd cc
      go true false false there full g v k f h = absurd cc
      go true false true true full g v k f h = absurd cc
      go true false true false true g v k f h = absurd cc
      go true false true false false g v k f h =
          (record { group = g; early = v; known = k; few = grind (arith, nat_tests, f) }, cc)

pub is_free : (d : Declared) (keys : GroupKeys) (label : List ℕ) (node : List Component)
    → map party_node d.members ≡ keys.members.names → map party_node d.clients ≡ keys.clients.names
    → is_there d (party label node) ≡ false → is_name_taken keys node ≡ false
is_free d keys label node members clients h =
    let parties =
    or_parts (is_party_among (party label node) d.members || is_party_among (party label node) d.clients) _ h in
    let both =
    or_parts (is_party_among (party label node) d.members) (is_party_among (party label node) d.clients) parties.0 in
    let no_member : member_of node keys.members.names ≡ None = none_found (has_same_octets node) keys.members.names
    (ap (list_any (has_same_octets node)) (sym members)
    ∙ nobody_has (has_same_octets node) label node d.members (same_name.symm node) both.0) in
    let no_client : member_of node keys.clients.names ≡ None = none_found (has_same_octets node) keys.clients.names
    (ap (list_any (has_same_octets node)) (sym clients)
    ∙ nobody_has (has_same_octets node) label node d.clients (same_name.symm node) both.1) in
    ap (λ o. is_some o || is_some (member_of node keys.clients.names)) no_member ∙ ap (λ o. is_some o) no_client

-- ---- events

-- An event line that is taken: the group is there, its labels are known, and nothing is declared but that there was an
-- event.
pub record IsEvent (d e : Declared) (l : Stated) : Type 0 where
  pub group : e.group ≡ true
  pub there : d.group ≡ true
  pub events : e.events ≡ true
  pub members : e.members ≡ d.members
  pub clients : e.clients ≡ d.clients
  pub mirrors : e.mirrors ≡ d.mirrors
  pub known : are_known e l ≡ true

-- That there was an event makes no label known.
same_clients : (d : Declared) (totals : LineTotals) (labels : List (List ℕ))
    → are_clients (record d { events = true; totals = totals }) labels ≡ are_clients d labels
same_clients d totals [] = refl
same_clients d totals (client ∷ []) = refl
same_clients d totals (client ∷ other ∷ clients) =
    ap (λ (b : Bool). has_label client d.clients && b) (same_clients d totals (other ∷ clients))

same_those : (d : Declared) (totals : LineTotals) (labels : List (List ℕ))
    → are_those (record d { events = true; totals = totals }) labels ≡ are_those d labels
same_those d totals [] = refl
same_those d totals (m ∷ clients) = ap (λ (b : Bool). has_label m d.members && b) (same_clients d totals clients)

same_by : (form : Verb) (d : Declared) (totals : LineTotals) (labels : List (List ℕ))
    → are_known_by form (record d { events = true; totals = totals }) labels ≡ are_known_by form d labels
same_by verb.Insert d totals labels = same_those d totals labels
same_by verb.Status d totals labels = same_those d totals labels
same_by verb.Delete d totals labels = same_those d totals labels
same_by form d totals labels = refl

pub event_after : (d e : Declared) (l : Stated) → after_event d l ≡ Ok e → IsEvent d e l
event_after d e l h =
    go d.group (are_known d l) (are_within_limits (with_totals d.totals (adds l.verb l.values))) refl refl h where
      go : (group known within : Bool) → d.group ≡ group → are_known d l ≡ known
          → (if not group then Err check_fault.NoGroup else if not known then Err check_fault.UnknownLabel
          else if not within then Err check_fault.TooLarge
          else Ok (record d { events = true; totals = with_totals d.totals (adds l.verb l.values) })) ≡ Ok e
          → IsEvent d e l
      go false known within g is k = absurd cc
      go true false within g is k = absurd cc
      go true true false g is k = absurd cc
      go true true true g is k =
          let after : record d { events = true; totals = with_totals d.totals (adds l.verb l.values) } ≡ e = cc in
          record {
            group = ap (λ (f : Declared). f.group) (sym after) ∙ g;
            there = g;
            events = ap (λ (f : Declared). f.events) (sym after);
            members = ap (λ (f : Declared). f.members) (sym after);
            clients = ap (λ (f : Declared). f.clients) (sym after);
            mirrors = ap (λ (f : Declared). f.mirrors) (sym after);
            known = ap (λ (f : Declared). are_known f l) (sym after)
                ∙ same_by l.verb d (with_totals d.totals (adds l.verb l.values)) (labels_in l.values) ∙ is;
          }
