-- What lines that are taken declare: names and keys that a group takes, and what is kept beside them.
use Rattle.std.proofs.Common.{◌≡◌, ◌∙◌, ℕ, ◌+◌, ◌<◌, ◌≤◌, Bool, true, false, not, ◌||◌}
use Rattle.std.proofs.Common.{nat_le, List, [], ◌∷◌, ◌++◌, length, length-append, map, sum_by, Option, Some, None, Ok}
use Rattle.std.proofs.Common.{Err}
use Rattle.std.proofs.Common.{refl, sym, ap, subst, arith}
use Rattle.std.proofs.Common.{if◌then◌else◌}
use Rattle.std.specs.Prelude.{is_some}
use Rattle.std.specs.List.{All, list_any}
use Rattle.std.proofs.lemmas.Bool.{false≢true, or_parts}
use Rattle.std.proofs.lemmas.List.{length-map, map-append}
use Rattle.std.proofs.lemmas.List.Elements.{All-nil, All-push}
use Rattle.std.proofs.lemmas.List.Sums.{sum_by-append, sum_by-cons}
use Rattle.live_member.specs.Meanings.{part_count}
use Rattle.std.proofs.lemmas.Bool.Decides.{nat_tests}
use Rattle.ndn_name.specs.Names.{Component, IsName, encoding}
use Rattle.ndn_name.specs.UriText.{is_digest}
use Rattle.svs_vector.specs.Rosters.{has_same_octets, member_of}
use Rattle.repo_object.specs.Objects.{NamedContents, IsObject}
use Rattle.script_lang.specs.declared.check_fault.CheckFault.TheVariants as check_fault
use Rattle.script_lang.specs.declared.verb.Verb.TheVariants as verb
use Rattle.script_lang.specs.Kinds.{Text, Number, Named, Octets}
use Rattle.script_lang.specs.Forms.{Stated, form, statement}
use Rattle.script_lang.specs.Lines.{line_of}
use Rattle.script_lang.specs.Checking.{Declared, Party, after_line, declared_then, is_mirror, is_party_among}
use Rattle.script_lang.specs.Checking.{is_there, party_node}
use Rattle.script_lang.specs.Checking.{party, party_label}
use Rattle.script_lang.specs.Texts.{AreOf}
use Rattle.script_lang.proofs.LineTexts.{line_texts}
use Rattle.script_lang.proofs.Parties.{nobody_has}
use Rattle.repo_member.specs.Groups.{GroupKeys, NodeKeys, IsKey, IsPlainNodeName, is_name_taken, no_nodes}
use Rattle.repo_member.proofs.PublicLaws.{none_found, same_name, above_digests, object_name}
use Rattle.script_report.specs.declared.refusal.Refusal.TheVariants as refusal
use Rattle.live_script.specs.Evaluation.{Reached, counted, evaluated_line, named, nobody, refused, taken}
use Rattle.live_script.specs.Evaluation.{with_member_too}
use Rattle.live_script.specs.Scripts.{GivesNobody, IsKept, IsLine, IsPublication, TotalsView, group_keys}

-- ---- names and keys

node_name : (name : List Component) → IsName name
    → (list_any is_digest name ≡ false) × (1 ≤ length (encoding name)) × (length (encoding name) ≤ 200)
    → IsPlainNodeName name
node_name name valid h = record { valid = valid; some = h.1; short = h.2; plain = above_digests name h.0 }

-- The values of a line are within the ranges of its form.
ranges : (s t : Stated) → IsLine s → s ≡ t → AreOf (form t.verb).kinds t.values
ranges s t line is =
    ((line_texts t line.octets).0 (subst (λ (u : Stated). line_of line.octets ≡ Ok (Some u)) is line.read)).ranges

pub group_named : (s : Stated) (name : List Component) → IsLine s → s ≡ statement verb.Group (Named name ∷ [])
    → IsName name
    → IsPlainNodeName name
group_named s name line is valid = node_name name valid (ranges s (statement verb.Group (Named name ∷ [])) line is).0

pub member_named : (s : Stated) (label : List ℕ) (node : List Component) (key : List ℕ) → IsLine s
    → s ≡ statement verb.Member (Text label ∷ Named node ∷ Octets key ∷ []) → IsName node
    → IsPlainNodeName node × IsKey key
member_named s label node key line is valid =
    let of = ranges s (statement verb.Member (Text label ∷ Named node ∷ Octets key ∷ [])) line is in
    (node_name node valid of.1.0, record { some = of.1.1.0.0; short = of.1.1.0.1 })

pub publication : (s : Stated) (m : List ℕ) (name : List Component) (size : ℕ) (content : List ℕ) → IsLine s
    → s ≡ statement verb.Publish (Text m ∷ Named name ∷ Number size ∷ Octets content ∷ [])
    → IsPublication name size content
publication s m name size content line is =
    let of = ranges s (statement verb.Publish (Text m ∷ Named name ∷ Number size ∷ Octets content ∷ [])) line is in
    record { named = object_name name of.1.0; some = of.1.1.0.0; few = of.1.1.0.1; octets = of.1.1.1.0.1 }

-- ---- what lines declare

pub group_declares : (d e : Declared) (name : List Component)
    → after_line d (statement verb.Group (Named name ∷ [])) ≡ Ok e → (d.group ≡ false) × (e ≡ record d { group = true })
group_declares d e name h = go d.group refl h where
  go : (group : Bool) → d.group ≡ group
      → (if group then Err check_fault.Duplicate else Ok (record d { group = true })) ≡ Ok e
      → (d.group ≡ false) × (e ≡ record d { group = true })
  go true g k = absurd cc
  go false g k = (g, cc)

-- A party that may be declared stands after the group's line, is new, and isn't one too many.
pub record MayDeclare (d : Declared) (p : Party) (count : ℕ) : Type 0 where
  pub group : d.group ≡ true
  pub apart : is_there d p ≡ false
  pub few : count < 16

pub member_declares : (d e : Declared) (label : List ℕ) (node : List Component) (key : List ℕ)
    → after_line d (statement verb.Member (Text label ∷ Named node ∷ Octets key ∷ [])) ≡ Ok e
    → MayDeclare d (party label node) (length d.members)
    × (e ≡ record d { members = d.members ++ party label node ∷ [] })
member_declares d e label node key h = go d.group d.events (is_there d p) (nat_le 16 count) refl refl refl h where
  p : Party
  p = party label node

  count : ℕ
  count = length d.members

  after : Declared
  after = record d { members = d.members ++ party label node ∷ [] }

  go : (group events there full : Bool) → d.group ≡ group → is_there d p ≡ there → nat_le 16 count ≡ full
      → declared_then (if not group then Err check_fault.NoGroup
      else if events then Err check_fault.Late
      else if there then Err check_fault.Duplicate
      else if full then Err check_fault.Limit
      else Ok tt) after ≡ Ok e
      → MayDeclare d p count × (e ≡ after)
  go false events there full g a f k = absurd cc
  go true true there full g a f k = absurd cc
  go true false true full g a f k = absurd cc
  go true false false true g a f k = absurd cc
  go true false false false g a f k = (record { group = g; apart = a; few = grind (arith, nat_tests, f) }, cc)

pub is_free : (d : Declared) (keys : GroupKeys) (label : List ℕ) (node : List Component)
    → map party_node d.members ≡ keys.members.names → keys.clients ≡ no_nodes
    → is_there d (party label node) ≡ false → is_name_taken keys node ≡ false
is_free d keys label node members none h =
    let parties = or_parts (is_party_among (party label node) d.members || is_party_among (party label node) d.clients)
    (is_mirror label d.mirrors) h in
    let both = or_parts (is_party_among (party label node) d.members) (is_party_among (party label node) d.clients)
    parties.0 in
    let no_member : member_of node keys.members.names ≡ None = none_found (has_same_octets node) keys.members.names
    (ap (list_any (has_same_octets node)) (sym members)
    ∙ nobody_has (has_same_octets node) label node d.members (same_name.symm node) both.0) in
    let no_client : member_of node keys.clients.names ≡ None =
    ap (λ (n : NodeKeys). member_of node n.names) none in
    ap (λ o. is_some o || is_some (member_of node keys.clients.names)) no_member ∙ ap (λ o. is_some o) no_client

-- ---- what is kept then

-- The group's line gives the group its name. Nobody was declared before it.
pub group_kept : (labels : List (List ℕ)) (group : Option GroupKeys) (totals : TotalsView) (r : Reached) (d : Declared)
    (name : List Component) → r.keys ≡ group_keys group → IsKept labels group totals r → r.declared.group ≡ false
    → d ≡ record r.declared { group = true }
    → IsKept labels (Some (named name)) totals (record r { declared = d; keys = named name })
group_kept labels (Some g) totals r d name same k first is = absurd (false≢true (sym first ∙ k.there))
group_kept labels None totals r d name same k first is = rw is (record {
  lines = k.lines;
  octets = k.octets;
  there = refl;
  names = k.names;
  nodes = k.nodes ∙ ap (λ (g : GroupKeys). g.members.names) same;
  clients = k.clients;
  no_clients = refl;
  width = k.width;
  objects = k.objects;
  count = k.count;
  contents = k.contents;
  parts = k.parts;
  counted = k.counted;
  few = k.few;
})

pub group_line : (r : Reached) (d : Declared) (name : List Component) (octets : List ℕ)
    → after_line r.declared (statement verb.Group (Named name ∷ [])) ≡ Ok d
    → evaluated_line r octets (statement verb.Group (Named name ∷ [])) ≡ taken r octets d (named name) r.lists
unfolding evaluated_line
group_line r d name octets h = rw h refl

-- A member is there with its label, its name and its key, and is to publish nothing yet.
pub member_kept : (labels : List (List ℕ)) (g : GroupKeys) (totals : TotalsView) (r : Reached) (d : Declared)
    (label : List ℕ) (node : List Component) (key : List ℕ) → r.keys ≡ g → IsKept labels (Some g) totals r
    → d ≡ record r.declared { members = r.declared.members ++ party label node ∷ [] }
    → IsKept (labels ++ label ∷ []) (Some (with_member_too node key g)) totals
    (record r { declared = d; keys = with_member_too node key g; lists = r.lists ++ [] ∷ [] })
member_kept labels g totals r d label node key same k is = rw is (record {
  lines = k.lines;
  octets = k.octets;
  there = k.there;
  names = ap (λ (xs : List (List ℕ)). xs ++ label ∷ []) k.names
      ∙ sym (map-append party_label r.declared.members (party label node ∷ []));
  nodes = map-append party_node r.declared.members (party label node ∷ [])
      ∙ ap (λ (xs : List (List Component)). xs ++ node ∷ []) (k.nodes ∙ ap (λ (h : GroupKeys). h.members.names) same);
  clients = k.clients;
  no_clients = ap (λ (h : GroupKeys). h.clients) (sym same) ∙ k.no_clients;
  width = omega (
    arith,
    k.width,
    length-append r.lists ([] ∷ []),
    length-append r.declared.members (party label node ∷ []),
  );
  objects = All-push (All IsObject) r.lists [] k.objects (All-nil IsObject);
  count = k.count ∙ sym (sum_by-push length refl r.lists);
  contents = k.contents;
  parts = k.parts;
  counted = k.counted ∙ sym (sum_by-push (sum_by part_count) refl r.lists);
  few = k.few;
}) where
  sum_by-push : (f : List NamedContents → ℕ) → f [] ≡ 0 → (ls : List (List NamedContents))
      → sum_by f (ls ++ [] ∷ []) ≡ sum_by f ls
  sum_by-push f none ls =
      let one : sum_by f ([] ∷ []) ≡ f [] + sum_by f [] = sum_by-cons f [] [] in
      omega (arith, sum_by-append f ls ([] ∷ []), one, none)

pub member_line : (r : Reached) (d : Declared) (label : List ℕ) (node : List Component) (key octets : List ℕ)
    → after_line r.declared (statement verb.Member (Text label ∷ Named node ∷ Octets key ∷ [])) ≡ Ok d
    → evaluated_line r octets (statement verb.Member (Text label ∷ Named node ∷ Octets key ∷ []))
    ≡ taken r octets d (with_member_too node key r.keys) (r.lists ++ [] ∷ [])
unfolding evaluated_line
member_line r d label node key octets h = rw h refl

-- ---- what the lines come to, at what is seen of those before

pub group_taken : (view r : Reached) (s : Stated) (d : Declared) (name : List Component) (g : GroupKeys) → view ≡ r
    → s ≡ statement verb.Group (Named name ∷ []) → after_line view.declared s ≡ Ok d → g ≡ named name
    → (octets : List ℕ)
    → evaluated_line r octets s ≡ counted octets (record view { declared = d; keys = g })
group_taken view r s d name g same is h keys octets =
    rw (← same, is, keys) (group_line view d name octets
    (subst (λ (x : Stated). after_line view.declared x ≡ Ok d) is h))

pub member_taken : (view r : Reached) (s : Stated) (d : Declared) (label : List ℕ) (node : List Component)
    (key : List ℕ) (g : GroupKeys) (lists : List (List NamedContents)) → view ≡ r
    → s ≡ statement verb.Member (Text label ∷ Named node ∷ Octets key ∷ []) → after_line view.declared s ≡ Ok d
    → g ≡ with_member_too node key view.keys → lists ≡ view.lists ++ [] ∷ [] → (octets : List ℕ)
    → evaluated_line r octets s ≡ counted octets (record view { declared = d; keys = g; lists = lists })
member_taken view r s d label node key g lists same is h keys one_more octets =
    rw (← same, is, keys, one_more) (member_line view d label node key octets
    (subst (λ (x : Stated). after_line view.declared x ≡ Ok d) is h))

-- A member's line before the group's is refused.
pub member_ungrouped : (view r : Reached) (s : Stated) (label : List ℕ) (node : List Component) (key : List ℕ)
    → view ≡ r → s ≡ statement verb.Member (Text label ∷ Named node ∷ Octets key ∷ []) → view.declared.group ≡ false
    → (octets : List ℕ) → evaluated_line r octets s ≡ refused refusal.NoGroup
unfolding evaluated_line
member_ungrouped view r s label node key same is none octets = rw (← same, is, none) refl

-- Without a group nobody was declared.
pub nobody_kept : (labels : List (List ℕ)) (group : Option GroupKeys) (totals : TotalsView) (view r : Reached)
    → view ≡ r → view.keys ≡ group_keys group → group ≡ None → IsKept labels group totals view → GivesNobody r
nobody_kept labels group totals view r seen same none k = subst GivesNobody seen (record {
  keys = keys;
  members = members;
  lists = none_of view.lists (k.width ∙ ap length members);
}) where
  keys : view.keys ≡ nobody
  keys = same ∙ ap group_keys none

  none_of : {X : Type 0} (xs : List X) → length xs ≡ 0 → xs ≡ []
  none_of [] h = refl
  none_of (x ∷ xs) h = absurd cc

  members : view.declared.members ≡ []
  members = none_of view.declared.members (sym (length-map view.declared.members party_node)
      ∙ ap length (k.nodes ∙ ap (λ (g : GroupKeys). g.members.names) keys))
