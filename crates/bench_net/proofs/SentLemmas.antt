-- The pairs of a sender and a vector's number tell as the packets do, also when one more is sent.
use Rattle.std.proofs.Common.{◌≡◌, ℕ, ◌+◌, ◌<◌, ◌≤◌, Bool, true, false, not, eqb, ◌||◌, ◌&&◌, List, []}
use Rattle.std.proofs.Common.{◌∷◌, ◌++◌, length, get_or, position, Vec, Option, Result, Ok, IfOk, Some, None, refl}
use Rattle.std.proofs.Common.{sym, ap, subst, ◌∙◌, arith, if◌then◌else◌}
use Rattle.std.specs.List.{list_any, position_or_len, All}
use Rattle.std.specs.Str.{bytes_eq}
use Rattle.std.proofs.Math.Bool.{and-false, or-false}
use Rattle.std.proofs.lemmas.Bool.{ltb-true, ltb-false, eqb-true, and_parts}
use Rattle.std.proofs.lemmas.Slice.Eq.{bytes_eq-Decides}
use Rattle.std.proofs.lemmas.List.{length-append, length-map, map-append, get_or_append_left, get_or_push}
use Rattle.std.proofs.lemmas.List.Elements.{All-push, All-head, All-tail}
use Rattle.std.proofs.lemmas.List.Quantifiers.{position-Some}
use Rattle.std.proofs.lemmas.List.Sums.{prefix_len-le-length}
use Rattle.std.proofs.lemmas.List.Folds.{position_or_len_push, list_any-append, list_any_none}
use Rattle.indexmap.specs.IndexSet.{insert_key}
use Rattle.bench_net.specs.SentList.{SentPacket, sent_packet, was_sent}
use Rattle.bench_net.specs.declared.sent.Packet.{Packet}
use Rattle.bench_net.specs.SentFields.{lists_of, packets_of, is_sent_pair, SentPairs}
use Rattle.bench_net.proofs.Places.{place-map, position-map, insert_key-map, any_within, place_found, place_missing}
use Rattle.bench_net.proofs.Places.{found_at, missing_at}

-- A vector put in among those that were sent, which is number i of them then.
pub record PutIn (ks more : List (List ℕ)) (w : List ℕ) (i : ℕ) : Type 0 where
  pub longer : length ks ≤ length more
  pub within : i < length more
  pub kept : (k : ℕ) → k < length ks → get_or more k [] ≡ get_or ks k []
  pub stands : get_or more i [] ≡ w
  pub found : (v : List ℕ) (j : ℕ) → position (bytes_eq v) ks ≡ Some j → position (bytes_eq v) more ≡ Some j
  pub itself : position (bytes_eq w) more ≡ Some i
  pub missing : (v : List ℕ) → position (bytes_eq v) ks ≡ None → bytes_eq v w ≡ false
      → position (bytes_eq v) more ≡ None
  pub fresh : position (bytes_eq w) ks ≡ None → i ≡ length ks

module _ (ks : List (List ℕ)) (w : List ℕ) where
  there : list_any (bytes_eq w) ks ≡ true → PutIn ks ks w (position_or_len (bytes_eq w) ks)
  there e =
      let i = position_or_len (bytes_eq w) ks in
      let lt : i < length ks = ltb-true i (length ks) (sym (any_within (bytes_eq w) ks) ∙ e) in
      let itself = found_at (bytes_eq w) ks i refl lt in
      record {
        longer = omega arith;
        within = lt;
        kept = λ k h. refl;
        stands = sym ((bytes_eq-Decides w (get_or ks i [])).0 (position-Some (bytes_eq w) ks i [] itself).1);
        found = λ v j h. h;
        itself = itself;
        missing = λ v h differs. h;
        fresh = λ none. let no : Some i ≡ None = sym itself ∙ none in absurd cc;
      }

  -- where one stands once the vector is after the others
  push_found : (v : List ℕ) (j : ℕ) → position (bytes_eq v) ks ≡ Some j → position (bytes_eq v) (ks ++ w ∷ []) ≡ Some j
  push_found v j h =
      let at = place_found (bytes_eq v) ks j h in
      let differs : eqb j (length ks) ≡ false = grind (arith, at.1) in
      found_at (bytes_eq v) (ks ++ w ∷ []) j (position_or_len_push (bytes_eq v) ks w ∙ rw (at.0, differs) refl)
      (omega (arith, at.1, length-append ks (w ∷ [])))

  push_missing : (v : List ℕ) → position (bytes_eq v) ks ≡ None → bytes_eq v w ≡ false
      → position (bytes_eq v) (ks ++ w ∷ []) ≡ None
  push_missing v h differs =
      let at = place_missing (bytes_eq v) ks h in
      let here : eqb (length ks) (length ks) ≡ true = grind arith in
      let place : position_or_len (bytes_eq v) (ks ++ w ∷ []) ≡ length ks + 1 =
      position_or_len_push (bytes_eq v) ks w ∙ rw (at, here, differs) refl in
      missing_at (bytes_eq v) (ks ++ w ∷ []) (omega (arith, place, length-append ks (w ∷ [])))

  gone : list_any (bytes_eq w) ks ≡ false → PutIn ks (ks ++ w ∷ []) w (position_or_len (bytes_eq w) ks)
  gone e =
      let i = position_or_len (bytes_eq w) ks in
      let le : length ks ≤ i = ltb-false i (length ks) (sym (any_within (bytes_eq w) ks) ∙ e) in
      let end : i ≡ length ks = omega (arith, le, prefix_len-le-length (λ x. not (bytes_eq w x)) ks) in
      let here : eqb (length ks) (length ks) ≡ true = grind arith in
      let place : position_or_len (bytes_eq w) (ks ++ w ∷ []) ≡ i =
      position_or_len_push (bytes_eq w) ks w ∙ rw (end, here, (bytes_eq-Decides w w).1 refl) (omega arith) in
      let longer = length-append ks (w ∷ []) in
      record {
        longer = omega (arith, longer);
        within = omega (arith, longer, end);
        kept = λ k h. get_or_append_left ks (w ∷ []) [] k h;
        stands = get_or_push ks w [] i (sym end);
        found = push_found;
        itself = found_at (bytes_eq w) (ks ++ w ∷ []) i place (omega (arith, longer, end));
        missing = push_missing;
        fresh = λ none. end;
      }

  pub put_in : PutIn ks (insert_key bytes_eq ks w) w (position_or_len (bytes_eq w) ks)
  put_in = by (list_any (bytes_eq w) ks) refl
    where
      by : (b : Bool) → list_any (bytes_eq w) ks ≡ b
          → PutIn ks (if b then ks else ks ++ w ∷ []) w (position_or_len (bytes_eq w) ks)
      by true e = there e
      by false e = gone e

-- ---- the pairs

abbrev pub is_pair : ℕ × ℕ → ℕ × ℕ → Bool
is_pair a b = eqb a.0 b.0 && eqb a.1 b.1

pair_equal : (a b : ℕ × ℕ) → is_pair a b ≡ true → a ≡ b
pair_equal (s, i) (t, j) e =
    let both = and_parts (eqb s t) (eqb i j) e in
    let first : s ≡ t = eqb-true s t both.0 in
    let second : i ≡ j = eqb-true i j both.1 in
    cc

-- a pair that is put in is found, and no other
pair_put : (sent_pairs : List (ℕ × ℕ)) (new pair : ℕ × ℕ)
    → list_any (is_pair pair) (insert_key is_pair sent_pairs new)
    ≡ (list_any (is_pair pair) sent_pairs || is_pair pair new)
pair_put sent_pairs new pair = by (list_any (is_pair new) sent_pairs) refl
  where
    found : (c : Bool) → is_pair pair new ≡ c → list_any (is_pair new) sent_pairs ≡ true
        → list_any (is_pair pair) sent_pairs ≡ (list_any (is_pair pair) sent_pairs || c)
    found true e there =
        let yes : list_any (is_pair pair) sent_pairs ≡ true =
        ap (λ (p : ℕ × ℕ). list_any (is_pair p) sent_pairs) (pair_equal pair new e) ∙ there in
        rw yes refl
    found false e there = sym (or-false (list_any (is_pair pair) sent_pairs))

    by : (b : Bool) → list_any (is_pair new) sent_pairs ≡ b
        → list_any (is_pair pair) (if b then sent_pairs else sent_pairs ++ new ∷ [])
        ≡ (list_any (is_pair pair) sent_pairs || is_pair pair new)
    by true e = found (is_pair pair new) refl e
    by false e =
        list_any-append (is_pair pair) sent_pairs (new ∷ [])
        ∙ ap (λ (c : Bool). list_any (is_pair pair) sent_pairs || c) (or-false (is_pair pair new))

-- no pair reports a vector that is not there
none_after : (sent_pairs : List (ℕ × ℕ)) (sender end : ℕ) → All (λ pair. pair.1 < end) sent_pairs
    → list_any (is_pair (sender, end)) sent_pairs ≡ false
none_after sent_pairs sender end below =
    list_any_none (is_pair (sender, end)) sent_pairs
    (λ k d h. let lt = below k d h in differs (get_or sent_pairs k d) lt)
  where
    differs : (pair : ℕ × ℕ) → pair.1 < end → is_pair (sender, end) pair ≡ false
    differs (t, j) lt = let no : eqb end j ≡ false = grind arith in rw no (and-false (eqb sender t))

within_put : (sent_pairs : List (ℕ × ℕ)) (sender i low high : ℕ) → low ≤ high → i < high
    → All (λ pair. pair.1 < low) sent_pairs
    → All (λ pair. pair.1 < high) (insert_key is_pair sent_pairs (sender, i))
within_put sent_pairs sender i low high le lt below = by (list_any (is_pair (sender, i)) sent_pairs)
  where
    higher : All (λ pair. pair.1 < high) sent_pairs
    higher k d h = let b = below k d h in omega (arith, b)

    by : (b : Bool) → All (λ pair. pair.1 < high) (if b then sent_pairs else sent_pairs ++ (sender, i) ∷ [])
    by true = higher
    by false = All-push (λ pair. pair.1 < high) sent_pairs (sender, i) higher lt

-- ---- one packet more

module _ (ks : List (List ℕ)) (sent_pairs : List (ℕ × ℕ)) (packets : List SentPacket)
    (tells : SentPairs ks sent_pairs packets)
    (sender : ℕ) (w octets : List ℕ) where
  abbrev number : ℕ
  number = position_or_len (bytes_eq w) ks

  abbrev more : List (List ℕ)
  more = insert_key bytes_eq ks w

  abbrev pairs : List (ℕ × ℕ)
  pairs = insert_key is_pair sent_pairs (sender, number)

  put : PutIn ks more w number
  put = put_in ks w

  -- what the pairs say of a vector that was there
  reported_there : (s : ℕ) (v : List ℕ) (j : ℕ) → position (bytes_eq v) ks ≡ Some j
      → is_sent_pair s v more pairs ≡ (is_sent_pair s v ks sent_pairs || (eqb s sender && bytes_eq v w))
  reported_there s v j at =
      let known = put.found v j at in
      rw (at, known)
      (pair_put sent_pairs (sender, number) (s, j)
      ∙ ap (λ (b : Bool). list_any (is_pair (s, j)) sent_pairs || (eqb s sender && b))
      (numbers_are (bytes_eq v w) refl))
    where
      numbers_are : (b : Bool) → bytes_eq v w ≡ b → eqb j number ≡ b
      numbers_are true e =
          let v-is = (bytes_eq-Decides v w).0 e in
          let at-w : position (bytes_eq w) ks ≡ Some j =
          ap (λ (x : List ℕ). position (bytes_eq x) ks) (sym v-is) ∙ at in
          let is : number ≡ j = (place_found (bytes_eq w) ks j at-w).0 in
          grind arith
      numbers_are false e = by (eqb j number) refl
        where
          by : (c : Bool) → eqb j number ≡ c → c ≡ false
          by false h = refl
          by true h =
              let is : j ≡ number = eqb-true j number h in
              let v-stands = position-Some (bytes_eq v) ks j [] at in
              let v-is : v ≡ get_or ks j [] = (bytes_eq-Decides v (get_or ks j [])).0 v-stands.1 in
              let kept : get_or more j [] ≡ get_or ks j [] = put.kept j v-stands.0 in
              let w-is : get_or more j [] ≡ w = ap (λ (n : ℕ). get_or more n []) is ∙ put.stands in
              let both : bytes_eq v w ≡ true = (bytes_eq-Decides v w).1 (v-is ∙ sym kept ∙ w-is) in
              absurd (let no : true ≡ false = sym both ∙ e in cc)

  -- and of one that was not
  sent_new : (s : ℕ) (v : List ℕ) → position (bytes_eq v) ks ≡ None
      → is_sent_pair s v more pairs ≡ (is_sent_pair s v ks sent_pairs || (eqb s sender && bytes_eq v w))
  sent_new s v none = by (bytes_eq v w) refl
    where
      by : (b : Bool) → bytes_eq v w ≡ b → is_sent_pair s v more pairs
          ≡ (is_sent_pair s v ks sent_pairs || (eqb s sender && b))
      by true e =
          let v-is = (bytes_eq-Decides v w).0 e in
          let at-w : position (bytes_eq w) ks ≡ None =
          ap (λ (x : List ℕ). position (bytes_eq x) ks) (sym v-is) ∙ none in
          let known : position (bytes_eq v) more ≡ Some number =
          ap (λ (x : List ℕ). position (bytes_eq x) more) v-is ∙ put.itself in
          let here : eqb number number ≡ true = grind arith in
          let end : number ≡ length ks = put.fresh at-w in
          let nobody : list_any (is_pair (s, number)) sent_pairs ≡ false =
          ap (λ (n : ℕ). list_any (is_pair (s, n)) sent_pairs) end ∙ none_after sent_pairs s (length ks) tells.within in
          rw (none, known) (pair_put sent_pairs (sender, number) (s, number) ∙ rw (nobody, here) refl)
      by false e =
          let known = put.missing v none e in
          rw (none, known) (sym (and-false (eqb s sender)))

  reported_more : (s : ℕ) (v : List ℕ) → is_sent_pair s v more pairs
      ≡ (is_sent_pair s v ks sent_pairs || (eqb s sender && bytes_eq v w))
  reported_more s v = by (position (bytes_eq v) ks) refl
    where
      by : (r : Option ℕ) → position (bytes_eq v) ks ≡ r
          → is_sent_pair s v more pairs ≡ (is_sent_pair s v ks sent_pairs || (eqb s sender && bytes_eq v w))
      by (Some j) e = reported_there s v j e
      by None e = sent_new s v e

  pub reports_more : SentPairs more pairs (packets ++ sent_packet sender w octets ∷ [])
  reports_more = record {
    within = within_put sent_pairs sender number (length ks) (length more) put.longer put.within tells.within;
    answers = λ s v.
        list_any-append (λ (p : SentPacket). eqb s p.sender && bytes_eq v p.vector) packets
        (sent_packet sender w octets ∷ [])
        ∙ ap (λ (b : Bool). was_sent s v packets || b) (or-false (eqb s sender && bytes_eq v w))
        ∙ ap (λ (b : Bool). b || (eqb s sender && bytes_eq v w)) (tells.answers s v)
        ∙ sym (reported_more s v);
  }

-- ---- the fields of what was sent

pub at_ok : {A E : Type 0} (r : Result A E) (x : A) (P : A → Type 0) → r ≡ Ok x → IfOk r P → P x
at_ok {A = A} {E = E} r x P e h = let Q : Result A E → Type 0 = λ r. IfOk r P in subst Q e h

module _ {X : Type 0} (vectors : List (Vec ℕ X)) (sent_pairs : List (ℕ × ℕ)) (sender : ℕ) (v : List ℕ) where
  pub reported_none : position (λ y. bytes_eq v y.items) vectors ≡ None
      → is_sent_pair sender v (lists_of vectors) sent_pairs ≡ false
  reported_none e = rw (position-map (λ (y : Vec ℕ X). y.items) (bytes_eq v) vectors, e) refl

  pub sent_some : (i : ℕ) → position (λ y. bytes_eq v y.items) vectors ≡ Some i
      → is_sent_pair sender v (lists_of vectors) sent_pairs ≡ list_any (is_pair (sender, i)) sent_pairs
  sent_some i e = rw (position-map (λ (y : Vec ℕ X). y.items) (bytes_eq v) vectors, e) refl

packets_same : (ks more : List (List ℕ)) (packets : List Packet) → All (λ (p : Packet). p.vector < length ks) packets
    → ((k : ℕ) → k < length ks → get_or more k [] ≡ get_or ks k []) → packets_of more packets ≡ packets_of ks packets
packets_same ks more [] within kept = refl
packets_same ks more (p ∷ ps) within kept =
    let here = kept p.vector (All-head (λ (p : Packet). p.vector < length ks) p ps within) in
    let rest = packets_same ks more ps (All-tail (λ (p : Packet). p.vector < length ks) p ps within) kept in
    rw (here, rest) refl

module _ {X : Type 0} (vs more : List (Vec ℕ X)) (sent_pairs pairs : List (ℕ × ℕ)) (old new : List Packet) (v : Vec ℕ X)
    (p : Packet)
    (vectors : more ≡ insert_key (λ x y. bytes_eq x.items y.items) vs v)
    (index : p.vector ≡ position_or_len (λ y. bytes_eq v.items y.items) vs)
    (pair : pairs ≡ insert_key is_pair sent_pairs (p.sender, p.vector))
    (push : new ≡ old ++ p ∷ [])
    (within : All (λ (p : Packet). p.vector < length vs) old)
    (tells : SentPairs (lists_of vs) sent_pairs (packets_of (lists_of vs) old)) where
  lists : lists_of more ≡ insert_key bytes_eq (lists_of vs) v.items
  lists = ap lists_of vectors ∙ insert_key-map (λ (y : Vec ℕ X). y.items) bytes_eq vs v

  place : p.vector ≡ position_or_len (bytes_eq v.items) (lists_of vs)
  place = index ∙ sym (place-map (λ (y : Vec ℕ X). y.items) (bytes_eq v.items) vs)

  in_lists : PutIn (lists_of vs) (lists_of more) v.items p.vector
  in_lists = rw (lists, place) (put_in (lists_of vs) v.items)

  long : length (lists_of vs) ≡ length vs
  long = length-map vs (λ (y : Vec ℕ X). y.items)

  long_more : length (lists_of more) ≡ length more
  long_more = length-map more (λ (y : Vec ℕ X). y.items)

  pub sent : packets_of (lists_of more) new
      ≡ packets_of (lists_of vs) old ++ sent_packet p.sender v.items p.octets.items ∷ []
  sent =
      let view = λ (q : Packet). sent_packet q.sender (get_or (lists_of more) q.vector []) q.octets.items in
      let same_old : packets_of (lists_of more) old ≡ packets_of (lists_of vs) old =
      packets_same (lists_of vs) (lists_of more) old (λ k d h. let lt = within k d h in omega (arith, lt, long))
      in_lists.kept in
      let here : get_or (lists_of more) p.vector [] ≡ v.items = in_lists.stands in
      ap (packets_of (lists_of more)) push ∙ map-append view old (p ∷ []) ∙ rw (same_old, here) refl

  pub still_within : All (λ (p : Packet). p.vector < length more) new
  still_within =
      rw push (All-push (λ (p : Packet). p.vector < length more) old p
      (λ k d h. let lt = within k d h in omega (arith, lt, in_lists.longer, long, long_more))
      (omega (arith, in_lists.within, long_more)))

  pub still_reports : SentPairs (lists_of more) pairs (packets_of (lists_of more) new)
  still_reports =
      rw (sent, lists, pair, place)
      (reports_more (lists_of vs) sent_pairs (packets_of (lists_of vs) old) tells p.sender v.items p.octets.items)

pub length-packets_of : (ks : List (List ℕ)) (packets : List Packet) → length (packets_of ks packets) ≡ length packets
length-packets_of ks packets =
    length-map packets (λ (p : Packet). sent_packet p.sender (get_or ks p.vector []) p.octets.items)
