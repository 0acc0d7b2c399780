-- What a publication's line declares, and what is kept then.
use Rattle.std.proofs.Common.{◌≡◌, ◌∙◌, ℕ, suc, ◌+◌, ◌-◌, ◌<◌, ◌≤◌, Bool, true, false, not}
use Rattle.std.proofs.Common.{nat_lt}
use Rattle.std.proofs.Common.{nat_le, List, [], ◌∷◌, ◌++◌, length, map, sum_by, get_or, set, Option, Some, None, Ok}
use Rattle.std.proofs.Common.{Err, refl, Vec, Global}
use Rattle.std.proofs.Common.{length-append, sym, ap, subst, arith, if◌then◌else◌}
use Rattle.std.specs.Int.{div_ceil}
use Rattle.std.specs.List.{All}
use Rattle.std.specs.Str.{bytes_eq}
use Rattle.std.proofs.Math.Nat.{le-div_iff_mul-le}
use Rattle.std.proofs.lemmas.Bool.{lt-ltb}
use Rattle.std.proofs.lemmas.Bool.Decides.{nat_tests}
use Rattle.std.proofs.lemmas.Grind.{div_ceil_times}
use Rattle.std.proofs.lemmas.List.{get_or-map, length-map, length-set, map-append, map-set}
use Rattle.std.proofs.lemmas.List.Elements.{All-push, All-set}
use Rattle.std.proofs.lemmas.List.Sums.{sum_by-append, sum_by-cons, sum_by-set}
use Rattle.live_member.specs.Meanings.{part_count}
use Rattle.ndn_name.specs.Names.{Component}
use Rattle.sorted_lists.proofs.Ranges.{length-numbers}
use Rattle.sorted_lists.specs.Range.{numbers_from}
use Rattle.repo_object.specs.Cuts.{piece, pieces}
use Rattle.repo_object.specs.Objects.{NamedContents, IsObject}
use Rattle.script_lang.specs.declared.check_fault.CheckFault.TheVariants as check_fault
use Rattle.script_lang.specs.declared.verb.Verb.TheVariants as verb
use Rattle.script_lang.specs.Kinds.{Value, Text, Number, Named, Octets}
use Rattle.script_lang.specs.Forms.{Stated, statement}
use Rattle.script_lang.specs.Checking.{Declared, Party, adds, after_line, are_known, are_within_limits, has_label}
use Rattle.script_lang.specs.Checking.{party_label, party_place, publication_parts, segments, with_totals, party_node}
use Rattle.script_lang.proofs.Conditions.{and_left}
use Rattle.script_lang.proofs.Parties.{any_within}
use Rattle.repo_member.specs.Groups.{GroupKeys}
use Rattle.script_report.specs.declared.refusal.Refusal.TheVariants as refusal
use Rattle.live_script.specs.Evaluation.{Reached, counted, cut_object, is_few, evaluated_line, member_number, published}
use Rattle.live_script.specs.Evaluation.{refused}
use Rattle.live_script.specs.Evaluation.{with_object}
use Rattle.live_script.specs.Scripts.{IsKept, TotalsView, are_few, with_one_more}

-- ---- the place of a member

pub place_within : (label : List ℕ) (parties : List Party) → has_label label parties ≡ true
    → member_number label parties < length parties
place_within label parties known = any_within (λ (p : Party). bytes_eq p.label label) parties known

pub place_of_known : (label : List ℕ) (parties : List Party) → has_label label parties ≡ true
    → party_place label parties ≡ Some (member_number label parties)
place_of_known label parties known =
    let n : ℕ = member_number label parties in
    let inside : nat_lt n (length parties) ≡ true = lt-ltb n (length parties) (place_within label parties known) in
    ap (λ (b : Bool). if b then Some n else None) inside

-- ---- the segments of a content

-- The pieces of a content are as many as its line counts.
pub count_pieces : (size : ℕ) (content : List ℕ) → 1 ≤ size
    → length (pieces size content) ≡ segments (length content) size
count_pieces size content some =
    let n : ℕ = length content in
    let c : ℕ = div_ceil n size in
    let times = div_ceil_times n size some in
    let below = le-div_iff_mul-le {k = size} {x = c} {y = n + size - 1} some in
    let above = le-div_iff_mul-le {k = size} {x = suc c} {y = n + size - 1} some in
    let low : c ≤ segments n size = below.1 (omega (arith, times.1, some)) in
    let high : segments n size ≤ c = not_more c (segments n size)
    (λ more. omega (arith, above.0 more, times.0, some)) in
    let same : c ≡ segments n size = omega (arith, low, high) in
    length-map (numbers_from 0 c) (piece size content) ∙ length-numbers 0 c ∙ same where
      not_more : (a b : ℕ) → (suc a ≤ b → ⊥) → b ≤ a
      not_more a b none = go (nat_le (suc a) b) refl where
        go : (t : Bool) → nat_le (suc a) b ≡ t → b ≤ a
        go true is = absurd (none (grind (arith, nat_tests, is)))
        go false is = grind (arith, nat_tests, is)

-- ---- what the line declares

-- It stands after the group's line, of a member that is there, and its octets and parts are counted.
pub record Declares (d e : Declared) (label : List ℕ) (values : List Value) : Type 0 where
  pub group : d.group ≡ true
  pub known : has_label label d.members ≡ true
  pub is : e ≡ record d { events = true; totals = with_totals d.totals (adds verb.Publish values) }

pub known_in : (m : List ℕ) (d e : Declared) (values : List Value) → Declares d e m values
    → has_label m e.members ≡ true
known_in m d e values declares = ap (λ (x : Declared). has_label m x.members) declares.is ∙ declares.known

module _ (m : List ℕ) (name : List Component) (size : ℕ) (content : List ℕ) where
  abbrev values : List Value
  values = Text m ∷ Named name ∷ Number size ∷ Octets content ∷ []

  pub publish_declares : (d e : Declared) → after_line d (statement verb.Publish values) ≡ Ok e → Declares d e m values
  publish_declares d e h = go d.group (are_known d (statement verb.Publish values))
      (are_within_limits (with_totals d.totals (adds verb.Publish values))) refl refl h where
        go : (group known within : Bool) → d.group ≡ group → are_known d (statement verb.Publish values) ≡ known
            → (if not group then Err check_fault.NoGroup
            else if not known then Err check_fault.UnknownLabel
            else if not within then Err check_fault.TooLarge
            else Ok (record d { events = true; totals = with_totals d.totals (adds verb.Publish values) })) ≡ Ok e
            → Declares d e m values
        go false known within g a k = absurd cc
        go true false within g a k = absurd cc
        go true true false g a k = absurd cc
        go true true true g a k = record { group = g; known = and_left (has_label m d.members) true a; is = cc }

  pub publish_line : (r : Reached) (d : Declared) (octets : List ℕ)
      → after_line r.declared (statement verb.Publish values) ≡ Ok d
      → evaluated_line r octets (statement verb.Publish values)
      ≡ published r octets d (with_object (member_number m d.members) (cut_object name size content) r.lists)
  unfolding evaluated_line
  publish_line r d octets h = rw h refl

  pub publish_taken : (view r : Reached) (s : Stated) (d : Declared) (lists : List (List NamedContents)) → view ≡ r
      → s ≡ statement verb.Publish values → after_line view.declared s ≡ Ok d
      → lists ≡ with_object (member_number m d.members) (cut_object name size content) view.lists
      → is_few d lists ≡ true → (octets : List ℕ)
      → evaluated_line r octets s ≡ counted octets (record view { declared = d; lists = lists })
  publish_taken view r s d lists same is h one_more few octets =
      let line = publish_line view d octets (subst (λ (x : Stated). after_line view.declared x ≡ Ok d) is h) in
      let fits : is_few d (with_object (member_number m d.members) (cut_object name size content) view.lists) ≡ true =
      subst (λ (ls : List (List NamedContents)). is_few d ls ≡ true) one_more few in
      rw (← same, is, one_more) (line ∙ rw fits refl)

  pub publish_refused : (view r : Reached) (s : Stated) (d : Declared) → view ≡ r → s ≡ statement verb.Publish values
      → after_line view.declared s ≡ Ok d
      → is_few d (with_object (member_number m d.members) (cut_object name size content) view.lists) ≡ false
      → (octets : List ℕ) → evaluated_line r octets s ≡ refused refusal.TooLarge
  publish_refused view r s d same is h many octets =
      let line = publish_line view d octets (subst (λ (x : Stated). after_line view.declared x ≡ Ok d) is h) in
      rw (← same, is) (line ∙ rw many refl)

  -- The totals that are kept are those of the lists with the object.
  module _ (labels : List (List ℕ)) (group : Option GroupKeys) (totals : TotalsView) (r : Reached) (d : Declared)
      (kept : IsKept labels group totals r) (declares : Declares r.declared d m values) (some : 1 ≤ size) where
    abbrev place : ℕ
    place = member_number m d.members

    abbrev object : NamedContents
    object = cut_object name size content

    abbrev lists : List (List NamedContents)
    lists = with_object place object r.lists

    abbrev pub more : TotalsView
    more = with_one_more (length content) (length (pieces size content)) totals

    known_then : has_label m d.members ≡ true
    known_then = known_in m r.declared d values declares

    wide : length r.lists ≡ length d.members
    wide = kept.width ∙ ap (λ (x : Declared). length x.members) (sym declares.is)

    pub inside : place < length r.lists
    inside = omega (arith, place_within m d.members known_then, wide)

    count_more : sum_by length lists ≡ totals.objects + 1
    count_more =
        let own : List NamedContents = get_or r.lists place [] in
        let changed = sum_by-set length r.lists place (own ++ object ∷ []) [] inside in
        omega (arith, changed, length-append own (object ∷ []), kept.count)

    contents_more : more.contents ≡ d.totals.contents
    contents_more = ap (λ n. n + length content) kept.contents
        ∙ ap (λ (x : Declared). x.totals.contents) (sym declares.is)

    parts_more : more.parts ≡ d.totals.parts
    parts_more = ap (λ n. n + publication_parts (length (pieces size content))) kept.parts
        ∙ ap (λ n. r.declared.totals.parts + publication_parts n) (count_pieces size content some)
        ∙ ap (λ (x : Declared). x.totals.parts) (sym declares.is)

    parts_counted : sum_by (sum_by part_count) lists ≡ more.parts
    parts_counted =
        let own : List NamedContents = get_or r.lists place [] in
        let changed = sum_by-set (sum_by part_count) r.lists place (own ++ object ∷ []) [] inside in
        let one : sum_by part_count (object ∷ []) ≡ part_count object + 0 = sum_by-cons part_count object [] in
        let same : part_count object ≡ publication_parts (length (pieces size content)) = omega arith in
        omega (arith, changed, sum_by-append part_count own (object ∷ []), one, same, kept.counted)

    pub is_few_as : is_few d lists ≡ are_few more
    is_few_as = rw (count_more, ← contents_more, ← parts_more) refl

    pub publish_kept : IsObject object → are_few more ≡ true
        → IsKept labels group more (record r { declared = d; lists = lists })
    publish_kept is few = record {
      lines = kept.lines;
      octets = kept.octets;
      there = ap (λ (x : Declared). x.group) declares.is ∙ kept.there;
      names = kept.names ∙ ap (λ (x : Declared). map party_label x.members) (sym declares.is);
      nodes = ap (λ (x : Declared). map party_node x.members) declares.is ∙ kept.nodes;
      clients = ap (λ (x : Declared). x.clients) declares.is ∙ kept.clients;
      no_clients = kept.no_clients;
      width = length-set r.lists place (get_or r.lists place [] ++ object ∷ []) ∙ wide;
      objects = All-set (All IsObject) r.lists place (get_or r.lists place [] ++ object ∷ [])
          (All-push IsObject (get_or r.lists place []) object (kept.objects place [] inside) is) kept.objects;
      count = sym count_more;
      contents = contents_more;
      parts = parts_more;
      counted = sym parts_counted;
      few = few;
    }

-- ---- values in memory

-- An object more in one of several lists.
pub list_longer : {X : Type 0} (lists : List (Vec X Global)) (member : ℕ) (x : X) (old new : Vec X Global)
    → member < length lists → old ≡ get_or lists member old → new.items ≡ old.items ++ x ∷ []
    → map (λ (l : Vec X Global). l.items) (set lists member new)
    ≡ set (map (λ (l : Vec X Global). l.items) lists) member
    (get_or (map (λ (l : Vec X Global). l.items) lists) member [] ++ x ∷ [])
list_longer lists member x old new there was is =
    map-set (λ (l : Vec _ Global). l.items) lists member new
    ∙ ap (set (map (λ (l : Vec _ Global). l.items) lists) member) (is ∙ ap (λ os. os ++ x ∷ [])
    (ap (λ (l : Vec _ Global). l.items) was ∙ sym (get_or-map (λ (l : Vec _ Global). l.items) lists member old []
    there)))

-- An empty list after several lists.
pub one_list_more : {X : Type 0} (lists more : List (Vec X Global)) (l : Vec X Global) → more ≡ lists ++ l ∷ []
    → l.items ≡ []
    → map (λ (l : Vec X Global). l.items) more ≡ map (λ (l : Vec X Global). l.items) lists ++ [] ∷ []
one_list_more lists more l is none =
    ap (map (λ (l : Vec _ Global). l.items)) is
    ∙ map-append (λ (l : Vec _ Global). l.items) lists (l ∷ [])
    ∙ ap (λ xs. map (λ (l : Vec _ Global). l.items) lists ++ xs ∷ []) none

pub same_number : (o : Option ℕ) (a b : ℕ) → o ≡ Some a → o ≡ Some b → a ≡ b
same_number o a b p q = cc

pub none_is_some : {X P : Type 0} {x : X} → None ≡ Some x → P
none_is_some e = absurd cc
