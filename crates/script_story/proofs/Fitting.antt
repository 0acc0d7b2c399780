-- What a line that is taken states can be carried out: an event names members and clients that are there and is within
-- its limits, and what is declared has a name and a key that a group takes.
use Rattle.std.proofs.Common.{◌≡◌, ℕ, ◌-◌, ◌*◌, ◌<◌, ◌≤◌, Bool, true, false, not, nat_lt, nat_le}
use Rattle.std.proofs.Common.{List, [], ◌∷◌, length, Option, Some, None, Ok, Err, refl, sym, ap, subst}
use Rattle.std.proofs.Common.{arith, if◌then◌else◌}
use Rattle.std.specs.Int.{div_ceil}
use Rattle.std.specs.List.{list_any}
use Rattle.std.specs.Option.{IfSome}
use Rattle.std.specs.Str.{bytes_eq}
use Rattle.std.proofs.Math.Nat.{lt_of_mul-lt-mul_right}
use Rattle.std.proofs.lemmas.Bool.{lt-ltb}
use Rattle.std.proofs.lemmas.Grind.{div_ceil_times}
use Rattle.std.proofs.lemmas.List.{length-map}
use Rattle.ndn_name.specs.Names.{Component, encoding}
use Rattle.ndn_name.specs.UriText.{is_digest}
use Rattle.ndn_name.specs.UriVerdict.{HasUri}
use Rattle.sorted_lists.specs.Range.{numbers_from}
use Rattle.repo_process.proofs.ProcessLemmas.{length-numbers}
use Rattle.repo_object.specs.Cuts.{piece, pieces}
use Rattle.script_lang.specs.declared.check_fault.CheckFault.TheVariants as check_fault
use Rattle.script_lang.specs.declared.verb.Verb.{Verb}
use Rattle.script_lang.specs.declared.verb.Verb.TheVariants as verb
use Rattle.script_lang.specs.Kinds.{Kind, Value, Text, Number, Named, Octets}
use Rattle.script_lang.specs.Forms.{Stated, form, statement}
use Rattle.script_lang.specs.Lines.{are_within, line_of}
use Rattle.script_lang.specs.Checking.{Declared, Party, has_label, labels_in, are_known, are_known_by, party_place}
use Rattle.script_lang.specs.Checking.{is_mirror, mirror_place}
use Rattle.script_lang.specs.Checking.{are_within_limits, with_totals, adds, after_by, after_event, after_line}
use Rattle.script_lang.specs.Texts.{AreOf, AreWordTexts, IsLineText, IsWordText}
use Rattle.script_lang.proofs.Conditions.{and_left, and_right, le_tested, lt_tested}
use Rattle.script_lang.proofs.LineTexts.{line_texts}
use Rattle.script_lang.proofs.Parties.{any_within}
use Rattle.repo_member.specs.Groups.{IsPlainNodeName, IsKey}
use Rattle.repo_member.proofs.PublicLaws.{above_digests, object_name}
use Rattle.bench_world.specs.EventValues.{EventValue}
use Rattle.bench_world.specs.Steps.{EventInRange, NamesClient}
use Rattle.script_story.specs.StatedEvents.{mirror_number, party_number, stated_by, stated_event}
use Rattle.script_story.proofs.ReadNames.{read_name_valid}

-- ---- places

-- a label that is known has the number of a party
pub number_within : (label : List ℕ) (a b : List Party) → b ≡ a → has_label label a ≡ true
    → party_number label b < length b
number_within label a b same known = rw same (any_within (λ (p : Party). bytes_eq p.label label) a known)

-- a label of a mirror has the number of a mirror
pub mirror_within : (label : List ℕ) (mirrors : List (List ℕ)) → is_mirror label mirrors ≡ true
    → mirror_number label mirrors < length mirrors
mirror_within label mirrors known = any_within (λ mirror. bytes_eq mirror label) mirrors known

pub mirror_placed : (label : List ℕ) (mirrors : List (List ℕ)) → is_mirror label mirrors ≡ true
    → mirror_place label mirrors ≡ Some (mirror_number label mirrors)
mirror_placed label mirrors known =
    let n : ℕ = mirror_number label mirrors in
    let inside : nat_lt n (length mirrors) ≡ true = lt-ltb n (length mirrors) (mirror_within label mirrors known) in
    ap (λ (b : Bool). if b then Some n else None) inside

-- a label that is known has a place
pub place_of_known : (label : List ℕ) (parties : List Party) → has_label label parties ≡ true
    → party_place label parties ≡ Some (party_number label parties)
place_of_known label parties known =
    let n : ℕ = party_number label parties in
    let inside : nat_lt n (length parties) ≡ true =
    lt-ltb n (length parties) (any_within (λ (p : Party). bytes_eq p.label label) parties known) in
    ap (λ (b : Bool). if b then Some n else None) inside

-- ---- names and contents

-- a content has no more pieces than it has octets for
few_pieces : (size : ℕ) (content : List ℕ) → 1 ≤ size → length content ≤ 20000 * size
    → length (pieces size content) ≤ 20000
few_pieces size content some short =
    let times = div_ceil_times (length content) size some in
    let fewer : div_ceil (length content) size * size < 20001 * size = omega (arith, times.1) in
    let count : div_ceil (length content) size < 20001 =
    lt_of_mul-lt-mul_right size {m = div_ceil (length content) size} {n = 20001} fewer in
    omega (
      arith,
      count,
      length-map (numbers_from 0 (div_ceil (length content) size)) (piece size content),
      length-numbers 0 (div_ceil (length content) size),
    )

-- ---- events, form by form

-- The members and the client that an event names are there, and what is said is within its limits.
abbrev pub Fits : Declared → EventValue → Type 0
Fits d v = EventInRange (length d.members) v × NamesClient (length d.clients) v

-- The members and clients are the same, as they are before and after an event.
pub record SameParties (d e : Declared) : Type 0 where
  pub members : e.members ≡ d.members
  pub clients : e.clients ≡ d.clients

member_within : (d e : Declared) → SameParties d e → (label : List ℕ) → has_label label d.members ≡ true
    → party_number label e.members < length e.members
member_within d e same label known = number_within label d.members e.members same.members known

client_within : (d e : Declared) → SameParties d e → (label : List ℕ) → has_label label d.clients ≡ true
    → party_number label e.clients < length e.clients
client_within d e same label known = number_within label d.clients e.clients same.clients known

-- What a form states fits, whatever its values are.
abbrev FormFits : Verb → Type 0
FormFits form_verb = (d e : Declared) (values : List Value) → SameParties d e → AreOf (form form_verb).kinds values
    → are_within form_verb values ≡ true → are_known_by form_verb d (labels_in values) ≡ true
    → IfSome (stated_by form_verb e values) (Fits e)

publish_fits : FormFits verb.Publish
publish_fits d e (Text m ∷ Named name ∷ Number size ∷ Octets content ∷ []) same of within known = (
  (
    member_within d e same m (and_left _ _ known),
    object_name name of.1.0,
    of.1.1.0.0,
    of.1.1.0.1,
    few_pieces size content of.1.1.0.0 (le_tested (length content) (20000 * size) within),
  ),
  tt,
)
publish_fits d e values same of within known = tt

withdraw_fits : FormFits verb.Withdraw
withdraw_fits d e (Text m ∷ Number s ∷ []) same of within known =
    let small : s ≤ 65535 = of.1.0.1 in
    ((member_within d e same m (and_left _ _ known), omega arith), tt)
withdraw_fits d e values same of within known = tt

deliver_fits : FormFits verb.Deliver
deliver_fits d e (Number k ∷ Text m ∷ []) same of within known = (member_within d e same m (and_left _ _ known), tt)
deliver_fits d e values same of within known = tt

sync_fits : FormFits verb.Sync
sync_fits d e (Number k ∷ []) same of within known = (tt, tt)
sync_fits d e values same of within known = tt

advance_fits : FormFits verb.Advance
advance_fits d e (Number ms ∷ []) same of within known = (of.0.1, tt)
advance_fits d e values same of within known = tt

fire_fits : FormFits verb.Fire
fire_fits d e (Text m ∷ []) same of within known = (member_within d e same m (and_left _ _ known), tt)
fire_fits d e values same of within known = tt

restart_fits : FormFits verb.Restart
restart_fits d e (Text m ∷ []) same of within known = (member_within d e same m (and_left _ _ known), tt)
restart_fits d e values same of within known = tt

vector_fits : FormFits verb.Vector
vector_fits d e (Text m ∷ []) same of within known = (member_within d e same m (and_left _ _ known), tt)
vector_fits d e values same of within known = tt

catalogue_fits : FormFits verb.Catalogue
catalogue_fits d e (Text m ∷ []) same of within known = (member_within d e same m (and_left _ _ known), tt)
catalogue_fits d e values same of within known = tt

claim_fits : FormFits verb.Claim
claim_fits d e (Text m ∷ Number f ∷ []) same of within known = (
  (member_within d e same m (and_left _ _ known), record { from_one = of.1.0.0; to_last = of.1.0.1 }),
  tt,
)
claim_fits d e values same of within known = tt

lose_fits : FormFits verb.Lose
lose_fits d e (Text m ∷ Number f ∷ []) same of within known = (
  (member_within d e same m (and_left _ _ known), record { from_one = of.1.0.0; to_last = of.1.0.1 }),
  tt,
)
lose_fits d e values same of within known = tt

answer_fits : FormFits verb.Answer
answer_fits d e (Text m ∷ Number f ∷ Text q ∷ []) same of within known = (
  (
    member_within d e same m (and_left _ _ known),
    record { from_one = of.1.0.0; to_last = of.1.0.1 },
    member_within d e same q (and_left _ _ (and_right (has_label m d.members) _ known)),
  ),
  tt,
)
answer_fits d e values same of within known = tt

fetch_fits : FormFits verb.Fetch
fetch_fits d e (Text m ∷ Number workers ∷ Number tries ∷ Number loss ∷ []) same of within known = (
  (member_within d e same m (and_left _ _ known), of.1.0.0, of.1.0.1, of.1.1.0.0, of.1.1.0.1),
  tt,
)
fetch_fits d e values same of within known = tt

settle_fits : FormFits verb.Settle
settle_fits d e (Number workers ∷ []) same of within known = ((of.0.0, of.0.1), tt)
settle_fits d e values same of within known = tt

dump_fits : FormFits verb.Dump
dump_fits d e (Text m ∷ Text p ∷ Number s ∷ Number x ∷ []) same of within known =
    let small : s ≤ 65535 = of.1.1.0.1 in
    let low : x ≤ 20100 = of.1.1.1.0.1 in
    ((member_within d e same m (and_left _ _ known), omega arith, omega arith), tt)
dump_fits d e values same of within known = tt

hear_fits : FormFits verb.Hear
hear_fits d e (Text m ∷ Octets octets ∷ []) same of within known = (member_within d e same m (and_left _ _ known), tt)
hear_fits d e values same of within known = tt

order_fits : FormFits verb.Order
order_fits d e (Text m ∷ Octets octets ∷ []) same of within known = (member_within d e same m (and_left _ _ known), tt)
order_fits d e values same of within known = tt

ask_fits : FormFits verb.Ask
ask_fits d e (Text m ∷ Octets octets ∷ []) same of within known = (member_within d e same m (and_left _ _ known), tt)
ask_fits d e values same of within known = tt

feed_fits : FormFits verb.Feed
feed_fits d e (Text m ∷ Number f ∷ Octets octets ∷ []) same of within known = (
  (member_within d e same m (and_left _ _ known), record { from_one = of.1.0.0; to_last = of.1.0.1 }),
  tt,
)
feed_fits d e values same of within known = tt

insert_fits : FormFits verb.Insert
insert_fits d e (Text m ∷ Text client ∷ Named name ∷ Number first ∷ Number last ∷ []) same of within known =
    let rises : first ≤ last = le_tested first last (and_left (nat_le first last) _ within) in
    let few : last - first < 200 = lt_tested (last - first) 200 (and_right (nat_le first last) _ within) in (
      (member_within d e same m (and_left _ _ known), object_name name of.1.1.0, rises, omega arith),
      client_within d e same client (and_right (has_label m d.members) _ known),
    )
insert_fits d e values same of within known = tt

block_fits : FormFits verb.Block
block_fits d e (Text m ∷ Number process ∷ Number index ∷ Octets content ∷ []) same of within known =
    ((member_within d e same m (and_left _ _ known), of.1.1.1.0), tt)
block_fits d e values same of within known = tt

status_fits : FormFits verb.Status
status_fits d e (Text m ∷ Text client ∷ Number process ∷ []) same of within known = (
  member_within d e same m (and_left _ _ known),
  client_within d e same client (and_right (has_label m d.members) _ known),
)
status_fits d e values same of within known = tt

delete_fits : FormFits verb.Delete
delete_fits d e (Text m ∷ Text client ∷ Named name ∷ []) same of within known = (
  (member_within d e same m (and_left _ _ known), object_name name of.1.1.0),
  client_within d e same client (and_right (has_label m d.members) _ known),
)
delete_fits d e values same of within known = tt

summary_fits : FormFits verb.Summary
summary_fits d e [] same of within known = (tt, tt)
summary_fits d e values same of within known = tt

traffic_fits : FormFits verb.Traffic
traffic_fits d e [] same of within known = (tt, tt)
traffic_fits d e values same of within known = tt

form_fits : (form_verb : Verb) → FormFits form_verb
form_fits verb.Group d e values same of within known = tt
form_fits verb.Member d e values same of within known = tt
form_fits verb.Client d e values same of within known = tt
form_fits verb.Mirror d e values same of within known = tt
form_fits verb.Publish d e values same of within known = publish_fits d e values same of within known
form_fits verb.Withdraw d e values same of within known = withdraw_fits d e values same of within known
form_fits verb.Deliver d e values same of within known = deliver_fits d e values same of within known
form_fits verb.Sync d e values same of within known = sync_fits d e values same of within known
form_fits verb.Advance d e values same of within known = advance_fits d e values same of within known
form_fits verb.Fire d e values same of within known = fire_fits d e values same of within known
form_fits verb.Restart d e values same of within known = restart_fits d e values same of within known
form_fits verb.Vector d e values same of within known = vector_fits d e values same of within known
form_fits verb.Catalogue d e values same of within known = catalogue_fits d e values same of within known
form_fits verb.Claim d e values same of within known = claim_fits d e values same of within known
form_fits verb.Lose d e values same of within known = lose_fits d e values same of within known
form_fits verb.Answer d e values same of within known = answer_fits d e values same of within known
form_fits verb.Fetch d e values same of within known = fetch_fits d e values same of within known
form_fits verb.Settle d e values same of within known = settle_fits d e values same of within known
form_fits verb.Dump d e values same of within known = dump_fits d e values same of within known
form_fits verb.Hear d e values same of within known = hear_fits d e values same of within known
form_fits verb.Order d e values same of within known = order_fits d e values same of within known
form_fits verb.Ask d e values same of within known = ask_fits d e values same of within known
form_fits verb.Feed d e values same of within known = feed_fits d e values same of within known
form_fits verb.Insert d e values same of within known = insert_fits d e values same of within known
form_fits verb.Block d e values same of within known = block_fits d e values same of within known
form_fits verb.Status d e values same of within known = status_fits d e values same of within known
form_fits verb.Delete d e values same of within known = delete_fits d e values same of within known
form_fits verb.Watch d e values same of within known = tt
form_fits verb.Told d e values same of within known = tt
form_fits verb.Mdeliver d e values same of within known = tt
form_fits verb.Mfetch d e values same of within known = tt
form_fits verb.Mcatalogue d e values same of within known = tt
form_fits verb.Summary d e values same of within known = summary_fits d e values same of within known
form_fits verb.Traffic d e values same of within known = traffic_fits d e values same of within known

-- ---- lines

-- An event line that is taken names what is known, and declares nothing more.
pub record IsKnown (d e : Declared) (s : Stated) : Type 0 where
  pub same : SameParties d e
  pub known : are_known d s ≡ true

taken : (d e : Declared) (s : Stated) → after_event d s ≡ Ok e → IsKnown d e s
taken d e s h = go
    d.group (are_known d s) (are_within_limits (with_totals d.totals (adds s.verb s.values))) refl h where
      go : (group known within : Bool) → are_known d s ≡ known
          → (if not group then Err check_fault.NoGroup else if not known then Err check_fault.UnknownLabel
          else if not within then Err check_fault.TooLarge
          else Ok (record d { events = true; totals = with_totals d.totals (adds s.verb s.values) })) ≡ Ok e
          → IsKnown d e s
      go false known within is k = cc
      go true false within is k = cc
      go true true false is k = cc
      go true true true is k =
          let after : record d { events = true; totals = with_totals d.totals (adds s.verb s.values) } ≡ e = cc in
          record {
            same = record {
              members = ap (λ (f : Declared). f.members) (sym after);
              clients = ap (λ (f : Declared). f.clients) (sym after);
            };
            known = is;
          }

event_taken : (form_verb : Verb) (d e : Declared) (s : Stated) (values : List Value) (v : EventValue)
    → after_by d s form_verb values ≡ Ok e → stated_by form_verb e values ≡ Some v → IsKnown d e s
event_taken verb.Group d e s values v after accepted = cc
event_taken verb.Member d e s values v after accepted = cc
event_taken verb.Client d e s values v after accepted = cc
event_taken verb.Mirror d e s values v after accepted = cc
event_taken form_verb d e s values v after accepted = taken d e s after

fits_some : (d : Declared) (o : Option EventValue) (v : EventValue) → o ≡ Some v → IfSome o (Fits d) → Fits d v
fits_some d o v is h = let P : Option EventValue → Type 0 = λ x. IfSome x (Fits d) in subst P is h

-- An event that a line states, which is taken, can be carried out.
pub event_fits : (octets : List ℕ) (d e : Declared) (s : Stated) (v : EventValue) → line_of octets ≡ Ok (Some s)
    → after_line d s ≡ Ok e → stated_event e s ≡ Some v
    → EventInRange (length e.members) v × NamesClient (length e.clients) v
event_fits octets d e s v read after accepted =
    let text : IsLineText s octets = (line_texts s octets).0 read in
    let k = event_taken s.verb d e s s.values v after accepted in
    fits_some e (stated_event e s) v accepted (form_fits s.verb d e s.values k.same text.ranges text.within k.known)

-- ---- what is declared

-- A value of a kind has a text as a word.
abbrev pub AreWritten : List Kind → List Value → Type 0
AreWritten [] [] = Unit {0}
AreWritten (kind ∷ kinds) (value ∷ values) =
    ((text : List ℕ) × IsWordText kind value text) × AreWritten kinds values
AreWritten kinds values = ⊥

pub written : (kinds : List Kind) (values : List Value) (texts : List (List ℕ)) → AreWordTexts kinds values texts
    → AreWritten kinds values
written [] [] [] h = tt
written (kind ∷ kinds) (value ∷ values) (text ∷ texts) h = ((text, h.0), written kinds values texts h.1)
written kinds values texts h = absurd h

node_name : (name : List Component) (text : List ℕ)
    → (list_any is_digest name ≡ false) × (1 ≤ length (encoding name)) × (length (encoding name) ≤ 200)
    → HasUri name text → IsPlainNodeName name
node_name name text h read = record {
  valid = read_name_valid name text read h.0 (omega (arith, h.2));
  some = h.1;
  short = h.2;
  plain = above_digests name h.0;
}

key_fits : (key : List ℕ) → (1 ≤ length key) × (length key ≤ 128) → IsKey key
key_fits key h = record { some = h.0; short = h.1 }

-- The name of a group line is one of a group.
pub group_fits : (octets : List ℕ) (name : List Component)
    → line_of octets ≡ Ok (Some (statement verb.Group (Named name ∷ []))) → IsPlainNodeName name
group_fits octets name read =
    let text = (line_texts (statement verb.Group (Named name ∷ [])) octets).0 read in
    let words = written (form verb.Group).kinds (Named name ∷ []) text.words text.texts in
    node_name name words.0.0 text.ranges.0 words.0.1

-- The name and the key of a member line are those of a member.
pub member_fits : (octets label : List ℕ) (name : List Component) (key : List ℕ)
    → line_of octets ≡ Ok (Some (statement verb.Member (Text label ∷ Named name ∷ Octets key ∷ [])))
    → IsPlainNodeName name × IsKey key
member_fits octets label name key read =
    let values : List Value = Text label ∷ Named name ∷ Octets key ∷ [] in
    let text = (line_texts (statement verb.Member values) octets).0 read in
    let words = written (form verb.Member).kinds values text.words text.texts in
    (node_name name words.1.0.0 text.ranges.1.0 words.1.0.1, key_fits key text.ranges.1.1.0)

-- The name and the key of a client line are those of a client.
pub client_fits : (octets label : List ℕ) (name : List Component) (key : List ℕ)
    → line_of octets ≡ Ok (Some (statement verb.Client (Text label ∷ Named name ∷ Octets key ∷ [])))
    → IsPlainNodeName name × IsKey key
client_fits octets label name key read =
    let values : List Value = Text label ∷ Named name ∷ Octets key ∷ [] in
    let text = (line_texts (statement verb.Client values) octets).0 read in
    let words = written (form verb.Client).kinds values text.words text.texts in
    (node_name name words.1.0.0 text.ranges.1.0 words.1.0.1, key_fits key text.ranges.1.1.0)

-- An `mfetch` line has 1 to 16 workers, and 1 to 16 tries.
pub mirror_fits : (octets label : List ℕ) (workers tries loss : ℕ)
    → line_of octets ≡ Ok (Some (statement verb.Mfetch (Text label ∷ Number workers ∷ Number tries ∷ Number loss ∷ [])))
    → ((1 ≤ workers) × (workers ≤ 16)) × ((1 ≤ tries) × (tries ≤ 16))
mirror_fits octets label workers tries loss read =
    let values : List Value = Text label ∷ Number workers ∷ Number tries ∷ Number loss ∷ [] in
    let text = (line_texts (statement verb.Mfetch values) octets).0 read in
    ((text.ranges.1.0.0, text.ranges.1.0.1), (text.ranges.1.1.0.0, text.ranges.1.1.0.1))
