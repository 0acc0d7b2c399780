-- What lines declare, and which line is refused because of earlier ones.
use Rattle.std.specs.Prelude.{ℕ, Option, position, ◌+◌, ◌-◌, ◌/◌, Bool, true, false, not, ◌&&◌, ◌||◌, List, [], ◌∷◌}
use Rattle.std.specs.Prelude.{◌++◌, length, map, Result, Ok, Err, nat_le, if◌then◌else◌}
use Rattle.std.specs.List.{list_all, list_any}
use Rattle.std.specs.Str.{bytes_eq}
use Rattle.std.specs.String.{string_bytes}
use Rattle.script_lang.specs.declared.script_totals.ScriptTotals.{ScriptTotals}
use Rattle.script_lang.specs.declared.declaration.Declaration.{Declaration}
use Rattle.ndn_name.specs.Names.{Component, encoding}
use Rattle.script_lang.specs.declared.check_fault.CheckFault.{CheckFault}
use Rattle.script_lang.specs.declared.check_fault.CheckFault.TheVariants.{NoGroup, Late, UnknownLabel, Duplicate, Limit}
use Rattle.script_lang.specs.declared.check_fault.CheckFault.TheVariants.{TooLarge, NoMemory}
use Rattle.script_lang.specs.declared.verb.Verb.{Verb}
use Rattle.script_lang.specs.declared.verb.Verb.TheVariants.{Group, Member, Client, Mirror, Publish, Withdraw}
use Rattle.script_lang.specs.declared.verb.Verb.TheVariants.{Deliver, Sync, Advance, Fire, Restart, Vector, Catalogue}
use Rattle.script_lang.specs.declared.verb.Verb.TheVariants.{Claim, Lose, Answer, Fetch, Settle, Dump, Hear, Order, Ask}
use Rattle.script_lang.specs.declared.verb.Verb.TheVariants.{Feed, Insert, Block, Status, Delete, Watch, Told, Mdeliver}
use Rattle.script_lang.specs.declared.verb.Verb.TheVariants.{Mfetch, Mcatalogue, Summary, Traffic}
use Rattle.script_lang.specs.Kinds.{Value, Text, Anyone, Number, Named, Octets}
use Rattle.script_lang.specs.Forms.{Stated}
use Rattle.script_lang.specs.Limits.{members_limit, mirrors_limit, listed_limit, contents_limit, parts_limit}
use Rattle.script_lang.specs.Limits.{settles_limit}

-- A label and a node name.
pub record Party : Type 0 where
  pub label : List ℕ
  pub node : List Component

-- Totals over the lines: octets of contents, parts, settles.
pub record LineTotals : Type 0 where
  pub contents : ℕ
  pub parts : ℕ
  pub settles : ℕ

-- The totals that code has, as `LineTotals`.
abbrev pub line_totals : ScriptTotals → LineTotals
line_totals s = record { contents = s.contents; parts = s.parts; settles = s.settles }

-- What the lines so far have declared. A mirror has a label alone.
pub record Declared : Type 0 where
  pub group : Bool
  pub members : List Party
  pub clients : List Party
  pub mirrors : List (List ℕ)
  pub events : Bool
  pub totals : LineTotals

-- The party that the declaration `d` declares.
abbrev pub party_of : Declaration → Party
party_of d = record { label = string_bytes d.label; node = d.node }

-- The parties that the declarations `ds` declare, in order.
abbrev pub parties_of : List Declaration → List Party
parties_of ds = map party_of ds

-- The label of a member or client.
abbrev pub party_label : Party → List ℕ
party_label p = p.label

-- The node name of a member or client.
abbrev pub party_node : Party → List Component
party_node p = p.node

-- The place of the first of `parties` with this label.
abbrev pub party_place : List ℕ → List Party → Option ℕ
party_place label parties = position (λ (p : Party). bytes_eq p.label label) parties

-- One of `parties` has this label.
abbrev pub has_label : List ℕ → List Party → Bool
has_label label parties = list_any (λ (p : Party). bytes_eq p.label label) parties

-- The place of the first mirror with this label.
abbrev pub mirror_place : List ℕ → List (List ℕ) → Option ℕ
mirror_place label mirrors = position (λ mirror. bytes_eq mirror label) mirrors

-- A mirror has this label.
abbrev pub is_mirror : List ℕ → List (List ℕ) → Bool
is_mirror label mirrors = list_any (λ mirror. bytes_eq mirror label) mirrors

-- The labels among values.
abbrev pub labels_in : List Value → List (List ℕ)
labels_in [] = []
labels_in (Text label ∷ values) = label ∷ labels_in values
labels_in (Anyone ∷ values) = labels_in values
labels_in (Number n ∷ values) = labels_in values
labels_in (Named name ∷ values) = labels_in values
labels_in (Octets octets ∷ values) = labels_in values

-- All are labels of clients.
abbrev pub are_clients : Declared → List (List ℕ) → Bool
are_clients d [] = true
are_clients d (client ∷ []) = has_label client d.clients
are_clients d (client ∷ other ∷ clients) = has_label client d.clients && are_clients d (other ∷ clients)

-- The first label, if there is one, is a member's, and all others are clients', as in a client's command.
abbrev pub are_those : Declared → List (List ℕ) → Bool
are_those d [] = true
are_those d (m ∷ clients) = has_label m d.members && are_clients d clients

-- All are labels of members.
abbrev pub are_members : Declared → List (List ℕ) → Bool
are_members d labels = list_all (λ label. has_label label d.members) labels

-- All are labels of mirrors.
abbrev pub are_mirrors : Declared → List (List ℕ) → Bool
are_mirrors d labels = list_all (λ label. is_mirror label d.mirrors) labels

-- The sort of a form. A `declaration` declares the group, a member, a client or a mirror. An `event` has labels of
-- members alone. A `command` is an event by a client's command, with the client's label after the member's. A
-- `mirroring` is an event of a mirror.
pub data Sort : Type 0 where
  declaration : Sort
  event : Sort
  command : Sort
  mirroring : Sort

-- The sort of each form.
abbrev pub sort_of : Verb → Sort
sort_of Group = declaration
sort_of Member = declaration
sort_of Client = declaration
sort_of Mirror = declaration
sort_of Publish = event
sort_of Withdraw = event
sort_of Deliver = event
sort_of Sync = event
sort_of Advance = event
sort_of Fire = event
sort_of Restart = event
sort_of Vector = event
sort_of Catalogue = event
sort_of Claim = event
sort_of Lose = event
sort_of Answer = event
sort_of Fetch = event
sort_of Settle = event
sort_of Dump = event
sort_of Hear = event
sort_of Order = event
sort_of Ask = event
sort_of Feed = event
sort_of Insert = command
sort_of Block = event
sort_of Status = command
sort_of Delete = command
sort_of Watch = event
sort_of Told = event
sort_of Mdeliver = mirroring
sort_of Mfetch = mirroring
sort_of Mcatalogue = mirroring
sort_of Summary = event
sort_of Traffic = event

-- The labels of a line of this sort are declared. It is false of a declaration, which isn't tested by it.
abbrev pub are_known_of : Sort → Declared → List (List ℕ) → Bool
are_known_of declaration d labels = false
are_known_of event d labels = are_members d labels
are_known_of command d labels = are_those d labels
are_known_of mirroring d labels = are_mirrors d labels

-- The labels of a line with this first word are declared.
abbrev pub are_known_by : Verb → Declared → List (List ℕ) → Bool
are_known_by verb d labels = are_known_of (sort_of verb) d labels

-- The labels of a line are declared.
abbrev pub are_known : Declared → Stated → Bool
are_known d s = are_known_by s.verb d (labels_in s.values)

-- Lines of this sort are declarations. Lines of every other sort are events.
abbrev pub is_declaration : Sort → Bool
is_declaration declaration = true
is_declaration event = false
is_declaration command = false
is_declaration mirroring = false

-- A line with this first word is a declaration.
abbrev pub declares : Verb → Bool
declares verb = is_declaration (sort_of verb)

-- How many segments of `size` octets a content of `len` octets has.
abbrev pub segments : ℕ → ℕ → ℕ
segments len size = (len + size - 1) / size

-- How many index packets list `count` segments: none where the record lists them itself.
abbrev pub index_packets : ℕ → ℕ
index_packets count = if nat_le count listed_limit then 0 else (count + listed_limit - 1) / listed_limit

-- How many parts a publication of `count` segments has: its record, the index packets and the segments.
abbrev pub publication_parts : ℕ → ℕ
publication_parts count = 1 + index_packets count + count

-- No octet, no part, no settle.
abbrev pub nothing_added : LineTotals
nothing_added = record { contents = 0; parts = 0; settles = 0 }

-- What a line adds to the totals.
abbrev pub adds : Verb → List Value → LineTotals
adds Group values = nothing_added
adds Member values = nothing_added
adds Client values = nothing_added
adds Mirror values = nothing_added
adds Publish (m ∷ name ∷ Number size ∷ Octets content ∷ []) = record {
  contents = length content;
  parts = publication_parts (segments (length content) size);
  settles = 0;
}
adds Publish _ = nothing_added
adds Withdraw values = record { contents = 0; parts = 1; settles = 0 }
adds Deliver values = nothing_added
adds Sync values = nothing_added
adds Advance values = nothing_added
adds Fire values = nothing_added
adds Restart values = nothing_added
adds Vector values = nothing_added
adds Catalogue values = nothing_added
adds Claim values = nothing_added
adds Lose values = nothing_added
adds Answer values = nothing_added
adds Fetch values = nothing_added
adds Settle values = record { contents = 0; parts = 0; settles = 1 }
adds Dump values = nothing_added
adds Hear values = nothing_added
adds Order values = record { contents = 0; parts = 1; settles = 0 }
adds Ask values = nothing_added
adds Feed values = nothing_added
adds Insert values = record { contents = 0; parts = 1; settles = 0 }
adds Block (m ∷ process ∷ index ∷ Octets content ∷ []) =
    record { contents = length content; parts = 1; settles = 0 }
adds Block _ = nothing_added
adds Status values = nothing_added
adds Delete values = nothing_added
adds Watch values = nothing_added
adds Told values = nothing_added
adds Mdeliver values = nothing_added
adds Mfetch values = nothing_added
adds Mcatalogue values = nothing_added
adds Summary values = nothing_added
adds Traffic values = nothing_added

-- Two totals, added.
abbrev pub with_totals : LineTotals → LineTotals → LineTotals
with_totals a b = record {
  contents = a.contents + b.contents;
  parts = a.parts + b.parts;
  settles = a.settles + b.settles;
}

-- No total is above its limit.
abbrev pub are_within_limits : LineTotals → Bool
are_within_limits t =
    nat_le t.contents contents_limit && nat_le t.parts parts_limit && nat_le t.settles settles_limit

-- ---- a line

-- What is declared after a `group` line. A second one is refused.
abbrev pub after_group : Declared → Result Declared CheckFault
after_group d = if d.group then Err Duplicate else Ok (record d { group = true })

-- One of `parties` has the label or the node name of `p`.
abbrev pub is_party_among : Party → List Party → Bool
is_party_among p parties =
    list_any (λ (q : Party). bytes_eq q.label p.label || bytes_eq (encoding q.node) (encoding p.node))
    parties

-- A member, client or mirror has the label of `p`, or a member or client has its node name.
abbrev pub is_there : Declared → Party → Bool
is_there d p = is_party_among p d.members || is_party_among p d.clients || is_mirror p.label d.mirrors

-- A member, client or mirror has the label.
abbrev pub is_label_there : Declared → List ℕ → Bool
is_label_there d label = has_label label d.members || has_label label d.clients || is_mirror label d.mirrors

-- Whether the member or client `p` may be declared, if `count` of its kind are declared already.
abbrev pub may_declare : Declared → Party → ℕ → Result (Unit {0}) CheckFault
may_declare d p count =
    if not d.group then Err NoGroup
    else if d.events then Err Late
    else if is_there d p then Err Duplicate
    else if nat_le members_limit count then Err Limit
    else Ok tt

-- Whether the mirror `label` may be declared by a line that names `publishers`.
abbrev pub may_mirror : Declared → List ℕ → List (List ℕ) → Result (Unit {0}) CheckFault
may_mirror d label publishers =
    if not d.group then Err NoGroup
    else if d.events then Err Late
    else if not (are_members d publishers) then Err UnknownLabel
    else if is_label_there d label then Err Duplicate
    else if nat_le mirrors_limit (length d.mirrors) then Err Limit
    else Ok tt

-- What is declared after a declaration: `after` if it may be made, else why it is refused.
abbrev pub declared_then : Result (Unit {0}) CheckFault → Declared → Result Declared CheckFault
declared_then (Ok x) after = Ok after
declared_then (Err fault) after = Err fault

-- What is declared after an event: the totals grow, and no declaration may follow.
abbrev pub after_event : Declared → Stated → Result Declared CheckFault
after_event d s =
    if not d.group then Err NoGroup
    else if not (are_known d s) then Err UnknownLabel
    else if not (are_within_limits (with_totals d.totals (adds s.verb s.values))) then Err TooLarge
    else Ok (record d { events = true; totals = with_totals d.totals (adds s.verb s.values) })

-- A member or client with this label and node name.
abbrev pub party : List ℕ → List Component → Party
party label node = record { label = label; node = node }

-- What is declared after a declaration, or why it is refused. No line reaches the last case, so no line is refused with
-- its `NoMemory`.
abbrev pub after_declaration : Declared → Verb → List Value → Result Declared CheckFault
after_declaration d Group values = after_group d
after_declaration d Member (Text label ∷ Named node ∷ key ∷ []) =
    declared_then (may_declare d (party label node) (length d.members))
    (record d { members = d.members ++ party label node ∷ [] })
after_declaration d Client (Text label ∷ Named node ∷ key ∷ []) =
    declared_then (may_declare d (party label node) (length d.clients))
    (record d { clients = d.clients ++ party label node ∷ [] })
after_declaration d Mirror (Text label ∷ publisher ∷ prefix ∷ []) =
    declared_then (may_mirror d label (labels_in (publisher ∷ [])))
    (record d { mirrors = d.mirrors ++ label ∷ [] })
after_declaration d verb values = Err NoMemory

-- What is declared after the line `s` of this sort, with this verb and these values, or why it is refused.
abbrev pub after_sort : Sort → Declared → Stated → Verb → List Value → Result Declared CheckFault
after_sort declaration d s verb values = after_declaration d verb values
after_sort event d s verb values = after_event d s
after_sort command d s verb values = after_event d s
after_sort mirroring d s verb values = after_event d s

-- What is declared after the line `s`, with this verb and these values, or why it is refused.
abbrev pub after_by : Declared → Stated → Verb → List Value → Result Declared CheckFault
after_by d s verb values = after_sort (sort_of verb) d s verb values

-- What is declared after a line, or the first refusal of it.
abbrev pub after_line : Declared → Stated → Result Declared CheckFault
after_line d s = after_by d s s.verb s.values

-- What is declared before the first line.
abbrev pub nothing_declared : Declared
nothing_declared = record {
  group = false;
  members = [];
  clients = [];
  mirrors = [];
  events = false;
  totals = nothing_added;
}

-- The forms whose lines may be refused for the state of the group before a total is tested: they name the number of a
-- sync Interest, or a fetcher, or they set up a watcher at a member, which may have the greatest number of watchers.
abbrev pub asks_the_group_first : Verb → Bool
asks_the_group_first Group = false
asks_the_group_first Member = false
asks_the_group_first Client = false
asks_the_group_first Mirror = false
asks_the_group_first Publish = false
asks_the_group_first Withdraw = false
asks_the_group_first Deliver = true
asks_the_group_first Sync = true
asks_the_group_first Advance = false
asks_the_group_first Fire = false
asks_the_group_first Restart = false
asks_the_group_first Vector = false
asks_the_group_first Catalogue = false
asks_the_group_first Claim = true
asks_the_group_first Lose = true
asks_the_group_first Answer = true
asks_the_group_first Fetch = false
asks_the_group_first Settle = false
asks_the_group_first Dump = false
asks_the_group_first Hear = false
asks_the_group_first Order = false
asks_the_group_first Ask = false
asks_the_group_first Feed = true
asks_the_group_first Insert = false
asks_the_group_first Block = false
asks_the_group_first Status = false
asks_the_group_first Delete = false
asks_the_group_first Watch = true
asks_the_group_first Told = false
asks_the_group_first Mdeliver = true
asks_the_group_first Mfetch = false
asks_the_group_first Mcatalogue = false
asks_the_group_first Summary = false
asks_the_group_first Traffic = false
