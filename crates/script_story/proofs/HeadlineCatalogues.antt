-- What `catalogue` lines print.
use Rattle.std.proofs.Common.{◌≡◌, ◌∙◌, ◌⊎◌, inl, inr, ℕ, suc, ◌+◌, ◌<◌, Bool, true, false, not, ◌||◌, List, []}
use Rattle.std.proofs.Common.{◌∷◌, length, get_or, map, refl, sym, ap, subst, arith}
use Rattle.std.proofs.Common.{if◌then◌else◌}
use Rattle.std.specs.List.{prefix_len}
use Rattle.std.specs.Str.{bytes_eq}
use Rattle.std.proofs.lemmas.Bool.{true≢false, cases_Bool}
use Rattle.std.proofs.lemmas.Slice.Eq.{bytes_eq-Decides}
use Rattle.repo_plan.specs.Parts.{Pair}
use Rattle.sorted_lists.proofs.Sets.{In, from_map}
use Rattle.sorted_lists.proofs.Members.{in_at, in_filtered}
use Rattle.repo_catalog.specs.declared.entry.Entry.{Entry}
use Rattle.repo_catalog.specs.Entries.{lists, publication_of}
use Rattle.group_model.specs.Publications.{Logs, Publication, published, published_entry}
use Rattle.group_model.specs.Member.{Member, catalogue, catalogued, is_listed, has_deleted}
use Rattle.group_model.specs.World.{Environment, World, catalogue_at, logs, member}
use Rattle.group_model.specs.Sound.{IsPublished, IsSoundGroup, IsSoundMember}
use Rattle.group_model.specs.Catalogues.{BelongsInCatalogue, ListsRightly}
use Rattle.group_model.proofs.Parts.{IsIn, in_published}
use Rattle.group_model.proofs.PublicLaws.{lists_those, lists_in_order}
use Rattle.script_lang.specs.declared.verb.Verb.TheVariants as verb
use Rattle.script_lang.specs.Kinds.{Text}
use Rattle.script_lang.specs.Forms.{statement}
use Rattle.script_lang.specs.Checking.{Declared, Party, has_label, party_label}
use Rattle.script_lang.proofs.Conditions.{and_left}
use Rattle.bench_world.specs.EventValues.{EventValue}
use Rattle.script_story.specs.StatedEvents.{party_number}
use Rattle.script_report.specs.Labels.{label_at}
use Rattle.script_story.specs.Evaluation.{RunEnvironment, State, acted_by, found_world, outside_of}
use Rattle.script_story.specs.ScriptRun.{Reached}
use Rattle.script_story.specs.Headline.{HoldsAllOf, IsCatalogueLine, IsCatalogueOf, IsToBeListed, ListExactly}
use Rattle.script_story.specs.Headline.{PrintsCatalogues, group_at, labels_at, printed_entries, publication_at}
use Rattle.script_story.proofs.HeadlineGroups.{IsEventLine, IsSoundState, event_line}
use Rattle.script_story.proofs.HeadlineGroups.{sound_from_start}
use Rattle.script_story.proofs.LinesTaken.{IsActed, StatedTaken, acts_so, stated_taken, taken_line}

-- ---- a catalogue

printed_entry : (ls : Logs) (m : Member) (e : Entry) → In e (catalogue ls m)
    → e ≡ published_entry (publication_at ls (publication_of e))
printed_entry ls m e among =
    let q : (q : Publication) × (In q (catalogued ls m)) × (e ≡ published_entry q) =
    from_map published_entry (catalogued ls m) e among in
    let there : IsIn ls q.0 = in_published ls q.0 (in_filtered (is_listed (published ls) m) (published ls) q.0 q.1).0 in
    let Tells : Entry → Type 0 = λ x. x ≡ published_entry (publication_at ls (publication_of x)) in
    let here : Tells (published_entry q.0) =
    ap (λ o. published_entry (record { publisher = q.0.publisher; seq = q.0.seq; post = o })) there.post in
    subst Tells (sym q.2) here

-- The member's own publications are held, unless it hides them.
held_by : (w : World) (m : ℕ) (pair : Pair) → IsSoundMember (logs w) m (member w m) → IsToBeListed w m pair
    → HoldsAllOf w m pair
held_by w m pair sound t = go t.had where
  own : pair ≡ (m, pair.1) → (has_deleted (member w m) pair ≡ true) ⊎ HoldsAllOf w m pair
  own same = subst (λ (p : Pair). (has_deleted (member w m) p ≡ true) ⊎ HoldsAllOf w m p) (sym same)
      (sound.own_held pair.1 (subst (IsPublished (logs w)) same t.published))

  go : (pair.0 ≡ m) ⊎ HoldsAllOf w m pair → HoldsAllOf w m pair
  go (inr all) = all
  go (inl its) = elim (own (λ i. (its i, pair.1))) [
    | inl hidden ↦ absurd (true≢false (sym hidden ∙ t.undeleted))
    | inr all ↦ all
  ]

list_exactly : (out : Environment) (w : World) (m : ℕ) → IsSoundGroup w → m < length w.members
    → ListExactly w m (catalogue_at w m)
list_exactly out w m sound there = record {
  exactly = λ pair.
      let lists_it : ListsRightly w m pair = lists_those out w sound m pair there in
      let to : lists pair (catalogue_at w m) ≡ true → IsToBeListed w m pair = λ listed.
      let belongs : BelongsInCatalogue (logs w) (member w m) pair = lists_it.exactly.0 listed in
      record {
        published = belongs.published;
        object = belongs.object;
        undeleted = not_hidden pair listed lists_it;
        had = inr belongs.held;
        not_withdrawn = belongs.not_withdrawn;
      } in
      let from : IsToBeListed w m pair → lists pair (catalogue_at w m) ≡ true = λ t.
      lists_it.exactly.1 (record {
        published = t.published;
        object = t.object;
        held = held_by w m pair (sound.members m there) t;
        not_withdrawn = t.not_withdrawn;
      }) in
      (to, from);
  in_order = lists_in_order (logs w) (member w m);
  printed = λ k d inside. printed_entry (logs w) (member w m) (get_or (catalogue_at w m) k d)
      (in_at (catalogue_at w m) k d inside);
} where
  not_hidden : (pair : Pair) → lists pair (catalogue_at w m) ≡ true → ListsRightly w m pair
      → has_deleted (member w m) pair ≡ false
  not_hidden pair listed lists_it = elim (cases_Bool (has_deleted (member w m) pair)) [
    | inl hidden ↦ absurd (true≢false (sym listed ∙ lists_it.not_hidden hidden))
    | inr shown ↦ shown
  ]

-- ---- the member of a label

-- A number stands for the first member with the label.
pub record IsNumberOf (label : List ℕ) (parties : List Party) (n : ℕ) : Type 0 where
  pub there : n < length parties
  pub labelled : label_at (map party_label parties) n ≡ label

abbrev place : List ℕ → List Party → ℕ
place label parties = prefix_len (λ (p : Party). not (bytes_eq p.label label)) parties

at_place : (label : List ℕ) (parties : List Party) → has_label label parties ≡ true
    → IsNumberOf label parties (place label parties)
at_place label [] known = cc
at_place label (p ∷ ps) known = go (bytes_eq p.label label) refl known (at_place label ps) where
  go : (b : Bool) → bytes_eq p.label label ≡ b → (b || has_label label ps) ≡ true
      → (has_label label ps ≡ true → IsNumberOf label ps (place label ps))
      → IsNumberOf label (p ∷ ps) (if not b then 1 + place label ps else 0)
  go true is k rest = record { there = omega arith; labelled = (bytes_eq-Decides p.label label).0 is }
  go false is k rest =
      let after = rest k in
      let more : suc (place label ps) ≡ 1 + place label ps = omega arith in
      let here : IsNumberOf label (p ∷ ps) (suc (place label ps)) =
      record { there = omega (arith, after.there); labelled = after.labelled } in
      subst (IsNumberOf label (p ∷ ps)) more here

pub named_by : (label : List ℕ) (parties : List Party) → has_label label parties ≡ true
    → IsNumberOf label parties (party_number label parties)
named_by label parties known = at_place label parties known

-- ---- the line

module _ (env : RunEnvironment) (s : State) (sound : IsSoundState env s) (label report : List ℕ) (new : State) where
  catalogue_of : StatedTaken env s (statement verb.Catalogue (Text label ∷ [])) report new
      → IsCatalogueOf (found_world env s) (map party_label s.declared.members) label report
  unfolding acted_by
  catalogue_of t =
      let line : IsEventLine s.declared t.d (statement verb.Catalogue (Text label ∷ [])) =
      event_line s.declared t.d (statement verb.Catalogue (Text label ∷ [])) t.after in
      let same : t.d.members ≡ s.declared.members = ap (λ (x : Declared). x.members) line.is in
      let m : ℕ = party_number label s.declared.members in
      let w : World = found_world env s in
      let named : IsNumberOf label s.declared.members m =
      named_by label s.declared.members (and_left (has_label label s.declared.members) _ line.known) in
      let there : m < length w.members = omega (arith, named.there, sound.many) in
      let text : List Party → List ℕ = λ ps.
      let labels : List (List ℕ) = map party_label ps in
      let entries : List Entry = catalogue_at w (party_number label ps) in
      printed_entries labels (label_at labels (party_number label ps)) entries in
      let acts : IsActed env s t.d (EventValue.Catalogue (party_number label t.d.members)) report new =
      acts_so env s t.d (EventValue.Catalogue (party_number label t.d.members)) report new t.is in
      let labels : List (List ℕ) = map party_label s.declared.members in
      record {
        number = m;
        there = there;
        named = named.labelled;
        text = acts.text ∙ ap text same ∙ ap (λ (l : List ℕ). printed_entries labels l (catalogue_at w m))
            named.labelled;
        rightly = list_exactly (outside_of env s.keys) w m sound.sound there;
      }

pub catalogue_line : (env : RunEnvironment) (r : Reached) → IsSoundState env r.state
    → (label report : List ℕ) (new : Reached) → IsCatalogueLine env r label report new
    → IsCatalogueOf (group_at env r) (labels_at r) label report
catalogue_line env r sound label report new l =
    catalogue_of env r.state sound label report new.state
    (stated_taken env r.state l.line report new.state (statement verb.Catalogue (Text label ∷ [])) l.stated
    (taken_line env r l.line report new l.taken))

pub prints_catalogues : PrintsCatalogues
prints_catalogues env lines reports r taken label report new l =
    catalogue_line env r (sound_from_start env lines reports r taken) label report new l
