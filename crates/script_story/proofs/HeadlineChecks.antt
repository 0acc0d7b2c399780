-- The packets of the parts that members hold: they pass their checks, and entries say what is in them.
use Rattle.std.proofs.Common.{◌≡◌, ◌∙◌, inl, inr, ℕ, suc, ◌+◌, ◌^◌, ◌≤◌, ◌<◌, Bool, true, cond, not, ◌&&◌, List, []}
use Rattle.std.proofs.Common.{◌∷◌, length}
use Rattle.std.proofs.Common.{get_or, map, Option, Some, None, refl, sym, ap, subst, arith}
use Rattle.std.specs.Prelude.{IsSomeAnd, is_some, unwrap_or}
use Rattle.std.specs.Option.{option_and_then}
use Rattle.std.proofs.lemmas.Bool.{and_parts, cases_Bool, false≢true}
use Rattle.std.proofs.lemmas.Option.{slice_get-get_or}
use Rattle.sorted_lists.specs.Range.{numbers_from}
use Rattle.sorted_lists.proofs.Sets.{In, from_map}
use Rattle.sorted_lists.proofs.Members.{in_at, in_filtered}
use Rattle.repo_plan.specs.declared.part.Part.{Part}
use Rattle.repo_plan.specs.Parts.{Pair, index_packets, pair_of, part_of, last_part}
use Rattle.repo_plan.proofs.Whole.{each_all}
use Rattle.repo_object.specs.Objects.{IsObject, IsPost, IsPublisher, NamedContents, Post, offered, shape_in}
use Rattle.repo_object.specs.Objects.Post.{Offers, Withdraws}
use Rattle.repo_object.specs.Publication.{packet_at}
use Rattle.repo_object.specs.Verdict.{content_in}
use Rattle.repo_object.proofs.Publications.{content_again}
use Rattle.repo_catalog.specs.declared.entry.Entry.{Entry}
use Rattle.group_model.specs.Publications.{Logs, Publication, is_object, no_object, object_in, pair_in, post_at}
use Rattle.group_model.specs.Publications.{published, published_entry}
use Rattle.group_model.specs.Member.{catalogued, holds_all, is_listed, knows_withdrawn, member_holds}
use Rattle.group_model.specs.World.{World, catalogue_at, logs, member}
use Rattle.group_model.specs.Sound.{IsPublished, IsPublishedPart, IsSoundGroup}
use Rattle.group_model.proofs.Members.{known_published}
use Rattle.group_model.proofs.Parts.{IsIn, in_parts_in, in_published}
use Rattle.repo_member.specs.Groups.{GroupKeys, publisher_at}
use Rattle.repo_member.specs.InGroup.{AreLogs, published_packet}
use Rattle.repo_member.proofs.PublicLaws.{is_publisher, packets_are_there, packets_pass}
use Rattle.bench_world.proofs.ClaimedPackets.{post_within, publisher_there}
use Rattle.script_story.specs.Evaluation.{RunEnvironment}
use Rattle.script_story.specs.ScriptRun.{Reached}
use Rattle.script_story.specs.Headline.{AreTakenFirst, group_at}
use Rattle.script_story.specs.HeldPackets.{EntriesTellOfDumped, HoldsChecked, MembersHoldChecked, PassesItsChecks}
use Rattle.script_story.specs.HeldPackets.{ReportsOfDumped, all_there, dumped}
use Rattle.script_story.proofs.ListedDigests.{lists_digest}
use Rattle.script_story.proofs.HeadlineGroups.{IsSoundState, sound_from_start}
use Rattle.script_story.proofs.HeadlineMembers.{kept_from_start}

-- ---- one packet

its_publisher : (g : GroupKeys) (ls : Logs) → AreLogs g ls → (pair : Pair) → IsPublished ls pair
    → IsPublisher (publisher_at g pair.0)
its_publisher g ls are pair there =
    is_publisher g pair.0 are.group (omega (arith, publisher_there ls pair there, are.width))

-- A number of a publication has two octets.
its_number : (g : GroupKeys) (ls : Logs) → AreLogs g ls → (pair : Pair) → IsPublished ls pair → pair.1 < 2 ^ 16
its_number g ls are pair there =
    let few : length (get_or ls pair.0 []) ≤ 65535 = are.few pair.0 [] (publisher_there ls pair there) in
    omega (arith, few, there.to_last)

passes_so : (g : GroupKeys) (ls : Logs) (t : Part) → AreLogs g ls → IsPublishedPart ls t → PassesItsChecks g ls t
passes_so g ls t are there = go (published_packet g ls t) refl (packets_are_there g ls t are there) where
  by : IsPublisher (publisher_at g t.publisher)
  by = its_publisher g ls are (pair_of t) there.there

  post : IsPost t.seq (post_at ls (pair_of t))
  post = post_within g ls are (pair_of t) there.there

  go : (o : Option (List ℕ)) → published_packet g ls t ≡ o → IsSomeAnd o (λ octets. length octets ≤ 8800)
      → PassesItsChecks g ls t
  go None is short = absurd short
  go (Some octets) is short =
      record {
        octets = octets;
        its = is;
        passes = packets_pass g ls t octets are there is;
        listed = λ after. lists_digest (publisher_at g t.publisher) by t.seq (post_at ls (pair_of t)) post
            (its_number g ls are (pair_of t) there.there) t.part after there.counted octets is;
      }

holds_checked : (g : GroupKeys) (w : World) (m : ℕ) → IsSoundGroup w → AreLogs g (logs w) → m < length w.members
    → HoldsChecked g w m
holds_checked g w m sound are there t held =
    let one = sound.members m there in
    let soundly = one.held t held in
    passes_so g (logs w) t are (record {
      there = known_published (logs w) (member w m).known (pair_of t) one.known soundly.known;
      counted = soundly.counted;
    })

-- Where there is a member the group's line was taken.
grouped : (env : RunEnvironment) (r : Reached) → IsSoundState env r.state → (m : ℕ)
    → m < length (group_at env r).members → r.state.declared.group ≡ true
grouped env r sound m there = elim (cases_Bool r.state.declared.group) [
  | inl is ↦ is
  | inr none ↦
      let empty : length r.state.declared.members ≡ 0 = ap length (sound.ungrouped none) in
      absurd (omega (arith, there, sound.many, empty))
]

pub logs_within : (env : RunEnvironment) (lines reports : List (List ℕ)) (r : Reached)
    → AreTakenFirst env lines reports r
    → r.state.declared.group ≡ true → AreLogs r.state.keys (logs (group_at env r))
logs_within env lines reports r taken is = ((kept_from_start env lines reports r taken).limited is).are

pub members_hold_checked : MembersHoldChecked
members_hold_checked env lines reports r taken m there =
    let sound = sound_from_start env lines reports r taken in
    holds_checked r.state.keys (group_at env r) m sound.sound
    (logs_within env lines reports r taken (grouped env r sound m there)) there

-- ---- entries

each_there : (f : ℕ → Option (List ℕ)) (first : ℕ) (contents : List (List ℕ))
    → ((k : ℕ) → k < length contents → f (first + k) ≡ Some (get_or contents k []))
    → map f (numbers_from first (length contents)) ≡ all_there contents
each_there f first [] each = refl
each_there f first (c ∷ cs) each =
    let none : first + 0 ≡ first = omega arith in
    let here : f first ≡ Some c = subst (λ (n : ℕ). f n ≡ Some c) none (each 0 (omega arith)) in
    let after : map f (numbers_from (first + 1) (length cs)) ≡ all_there cs =
    each_there f (first + 1) cs (λ k inside.
    let more : first + suc k ≡ (first + 1) + k = omega arith in
    subst (λ (n : ℕ). f n ≡ Some (get_or cs k [])) more (each (suc k) (omega (arith, inside)))) in
    λ i. here i ∷ after i

dumped_content : (g : GroupKeys) (w : World) (m : ℕ) (t : Part) (octets : List ℕ)
    → member_holds (member w m) t ≡ true → published_packet g (logs w) t ≡ Some octets
    → option_and_then content_in (dumped g w m t) ≡ content_in octets
dumped_content g w m t octets held its =
    ap (λ (b : Bool). option_and_then content_in (cond b (published_packet g (logs w) t) None)) held
    ∙ ap (option_and_then content_in) its

offers_it : (post : Post) → is_some (offered post) ≡ true → post ≡ Offers (unwrap_or (offered post) no_object)
offers_it (Offers object) h = refl
offers_it (Withdraws withdrawn) h = absurd (false≢true h)

module _ (g : GroupKeys) (w : World) (m : ℕ) (are : AreLogs g (logs w)) (q : Publication)
    (among : In q (published (logs w))) (is : is_object q ≡ true) (whole : holds_all (member w m) q ≡ true) where
  there : IsIn (logs w) q
  there = in_published (logs w) q among

  abbrev object : NamedContents
  object = object_in q

  abbrev first : ℕ
  first = index_packets (length object.contents) + 1

  offers : post_at (logs w) (pair_in q) ≡ Offers object
  offers = sym there.post ∙ offers_it q.post is

  segment_dumped : (k : ℕ) → k < length object.contents
      → option_and_then content_in (dumped g w m (part_of (pair_in q) (first + k))) ≡ Some (get_or object.contents k [])
  segment_dumped k inside =
      let t : Part = part_of (pair_in q) (first + k) in
      let after : first + k ≤ last_part (shape_in (Offers object)) = omega (arith, inside) in
      let counted : first + k ≤ last_part (shape_in q.post) =
      subst (λ (post : Post). first + k ≤ last_part (shape_in post)) (sym (offers_it q.post is)) after in
      let held : member_holds (member w m) t ≡ true =
      each_all (member_holds (member w m)) _ whole t (in_parts_in q t (record { pair = refl; counted = counted })) in
      let p : PassesItsChecks g (logs w) t = passes_so g (logs w) t are (record {
        there = there.there;
        counted = subst (λ (post : Post). first + k ≤ last_part (shape_in post)) (sym offers) after;
      }) in
      let by : IsPublisher (publisher_at g q.publisher) = its_publisher g (logs w) are (pair_in q) there.there in
      let within : IsObject object =
      subst (IsPost q.seq) offers (post_within g (logs w) are (pair_in q) there.there) in
      let place : first + k ≡ index_packets (length object.contents) + k + 1 = omega arith in
      let its : packet_at (publisher_at g q.publisher) q.seq (Offers object)
      (index_packets (length object.contents) + k + 1) ≡ Some p.octets =
      sym (λ i. packet_at (publisher_at g q.publisher) q.seq (offers i) (place i)) ∙ p.its in
      dumped_content g w m t p.octets held p.its
      ∙ content_again (publisher_at g q.publisher) by object within q.seq k p.octets its
      ∙ slice_get-get_or object.contents k [] inside

  entry_reports : ReportsOfDumped g w m (published_entry q)
  entry_reports = record {
    contents = object.contents;
    there = each_there (λ x. option_and_then content_in (dumped g w m (part_of (pair_in q) x))) first object.contents
        segment_dumped;
    octets = refl;
    digest = refl;
  }

entries_tell : (g : GroupKeys) (w : World) (m : ℕ) → AreLogs g (logs w) → (e : Entry) → In e (catalogue_at w m)
    → ReportsOfDumped g w m e
entries_tell g w m are e among =
    let listed : Publication → Bool = is_listed (published (logs w)) (member w m) in
    let q : (q : Publication) × (In q (catalogued (logs w) (member w m))) × (e ≡ published_entry q) =
    from_map published_entry (catalogued (logs w) (member w m)) e among in
    let is = in_filtered listed (published (logs w)) q.0 q.1 in
    let unknown : Bool = not (knows_withdrawn (published (logs w)) (member w m) (pair_in q.0)) in
    let both = and_parts (is_object q.0) (holds_all (member w m) q.0 && unknown) is.1 in
    subst (ReportsOfDumped g w m) (sym q.2)
    (entry_reports g w m are q.0 is.0 both.0 (and_parts (holds_all (member w m) q.0) unknown both.1).0)

pub entries_tell_of_dumped : EntriesTellOfDumped
entries_tell_of_dumped env lines reports r taken m there k d inside =
    let sound = sound_from_start env lines reports r taken in
    let w : World = group_at env r in
    entries_tell r.state.keys w m (logs_within env lines reports r taken (grouped env r sound m there))
    (get_or (catalogue_at w m) k d) (in_at (catalogue_at w m) k d inside)
