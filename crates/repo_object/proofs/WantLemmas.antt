-- The name and the digest of a want lie in its Interest.
use Rattle.std.proofs.Common.{◌≡◌, ℕ, ◌+◌, ◌^◌, ◌<◌, false, Bool, is_some, List, [], ◌++◌, length, length-append, take}
use Rattle.std.proofs.Common.{drop, drop_at, drop-drop, append_assoc, Option, Some, None, option_map, Bor, refl, sym}
use Rattle.std.proofs.Common.{ap}
use Rattle.std.proofs.Common.{subst, ◌∙◌, arith}
use Rattle.std.specs.Prelude.{◌≤◌, IfSome, MatchOption}
use Rattle.std.specs.Array.{IsFirstChunk}
use Rattle.std.proofs.lemmas.List.{append-nil, take_at, take_all}
use Rattle.ndn_tlv.specs.Spelling.{head, element}
use Rattle.ndn_tlv.specs.NumberField.{number_field}
use Rattle.ndn_packet.proofs.Lengths.{length-digest_element, length-element}
use Rattle.ndn_name.specs.Names.{Component, IsName, encoding, components}
use Rattle.ndn_name.proofs.Encodings.{encoding-append, encoding-push, components-encoding, IsName-append}
use Rattle.ndn_interest.specs.WrittenInterest.{written_plain}
use Rattle.repo_plan.specs.declared.part.Part.{Part}
use Rattle.repo_object.specs.Objects.{record_name, segment_name}
use Rattle.repo_object.specs.NameParts.{IsSpelled}
use Rattle.repo_object.specs.Wants.{asked_name, interest_prefix, digest_component, name_between, digest_after}
use Rattle.repo_object.specs.Wants.{WantedPart, WantIsWritten, wanted_part}
use Rattle.repo_object.proofs.NameLemmas.{IsName-number}

abbrev Long : Option (List ℕ) → Type 0
Long digest = IfSome digest (λ d. length d ≡ 32)

-- 32 octets that are lent as a digest
pub digest_lent : (lent : Option (Bor (List ℕ))) (octets : List ℕ)
    → MatchOption lent (length octets < 32) (λ y. IsFirstChunk octets y.now 32) → length octets ≡ 32
    → option_map (λ d. d.now) lent ≡ Some octets
digest_lent None octets is long = absurd (omega (arith, is, long))
digest_lent (Some lent) octets is long =
    ap (λ (d : List ℕ). found d) (is.same ∙ take_all 32 octets (omega (arith, long))) where
      found : List ℕ → Option (List ℕ)
      found d = Some d

-- a digest that is lent
pub lent_long : (lent : Option (Bor (List ℕ))) → IfSome lent (λ d. length d.now ≡ 32)
    → Long (option_map (λ (d : Bor (List ℕ)). d.now) lent)
lent_long None long = tt
lent_long (Some d) long = long

pub lent_some : (lent : Option (Bor (List ℕ))) → is_some lent ≡ is_some (option_map (λ (d : Bor (List ℕ)). d.now) lent)
lent_some None = refl
lent_some (Some d) = refl

-- ---- octets of names

pub named_octets : (octets : List ℕ) (name : List Component) → IsName name → octets ≡ encoding name
    → components octets ≡ name
named_octets octets name valid e = ap components e ∙ components-encoding name valid

pub is_spelled : (octets : List ℕ) (name : List Component) → IsName name → octets ≡ encoding name → IsSpelled octets
is_spelled octets name valid e =
    let same = named_octets octets name valid e in
    record { name = subst IsName (sym same) valid; spelled = e ∙ ap encoding (sym same) }

abbrev numbered_in : ℕ → ℕ → List ℕ
numbered_in typ n = element typ (number_field n)

pub record_spelled : (node group : List Component) (seq : ℕ)
    → (encoding node ++ encoding group) ++ (numbered_in 0x3a seq ++ []) ≡ encoding (record_name node group seq)
record_spelled node group seq =
    ap (λ (x : List ℕ). (encoding node ++ encoding group) ++ x) (append-nil (numbered_in 0x3a seq))
    ∙ ap (λ (x : List ℕ). x ++ numbered_in 0x3a seq) (sym (encoding-append node group))
    ∙ sym (encoding-push (node ++ group) (0x3a, number_field seq))

pub index_spelled : (node group : List Component) (seq k : ℕ)
    → (encoding node ++ encoding group) ++ (numbered_in 0x3a seq ++ numbered_in 0x32 k)
    ≡ encoding (segment_name (record_name node group seq) k)
index_spelled node group seq k =
    sym (append_assoc (encoding node ++ encoding group) (numbered_in 0x3a seq) (numbered_in 0x32 k))
    ∙ ap (λ (x : List ℕ). ((encoding node ++ encoding group) ++ x) ++ numbered_in 0x32 k)
    (sym (append-nil (numbered_in 0x3a seq)))
    ∙ ap (λ (x : List ℕ). x ++ numbered_in 0x32 k) (record_spelled node group seq)
    ∙ sym (encoding-push (record_name node group seq) (0x32, number_field k))

pub segment_spelled : (name : List Component) (i : ℕ)
    → (encoding name ++ []) ++ ([] ++ numbered_in 0x32 i) ≡ encoding (segment_name name i)
segment_spelled name i =
    ap (λ (x : List ℕ). x ++ numbered_in 0x32 i) (append-nil (encoding name))
    ∙ sym (encoding-push name (0x32, number_field i))

-- the octets of a record's name, from the octets `a` of the node's name and `b` of the group's
pub record_octets : (a b : List ℕ) (node group : List Component) (seq : ℕ) → a ≡ encoding node → b ≡ encoding group
    → (a ++ b) ++ (numbered_in 0x3a seq ++ []) ≡ encoding (record_name node group seq)
record_octets a b node group seq e f =
    ap (λ (x : List ℕ). (x ++ b) ++ (numbered_in 0x3a seq ++ [])) e
    ∙ ap (λ (x : List ℕ). (encoding node ++ x) ++ (numbered_in 0x3a seq ++ [])) f
    ∙ record_spelled node group seq

pub index_octets : (a b : List ℕ) (node group : List Component) (seq k : ℕ) → a ≡ encoding node → b ≡ encoding group
    → (a ++ b) ++ (numbered_in 0x3a seq ++ numbered_in 0x32 k) ≡ encoding (segment_name (record_name node group seq) k)
index_octets a b node group seq k e f =
    ap (λ (x : List ℕ). (x ++ b) ++ (numbered_in 0x3a seq ++ numbered_in 0x32 k)) e
    ∙ ap (λ (x : List ℕ). (encoding node ++ x) ++ (numbered_in 0x3a seq ++ numbered_in 0x32 k)) f
    ∙ index_spelled node group seq k

pub segment_octets : (a : List ℕ) (name : List Component) (i : ℕ) → a ≡ encoding name
    → (a ++ []) ++ ([] ++ numbered_in 0x32 i) ≡ encoding (segment_name name i)
segment_octets a name i e = ap (λ (x : List ℕ). (x ++ []) ++ ([] ++ numbered_in 0x32 i)) e ∙ segment_spelled name i

pub record_valid : (node group : List Component) (seq : ℕ) → IsName node → IsName group → seq < 2 ^ 16
    → IsName (record_name node group seq)
record_valid node group seq valid_node valid_group low =
    IsName-number (node ++ group) 0x3a seq (IsName-append node group valid_node valid_group) (omega arith) (omega arith)
    low

pub segment_valid : (name : List Component) (i : ℕ) → IsName name → i < 2 ^ 16 → IsName (segment_name name i)
segment_valid name i valid low = IsName-number name 0x32 i valid (omega arith) (omega arith) low

-- ---- the Interest

plain_prefix : (name : List Component) → written_plain name false ≡ interest_prefix (length (encoding name)) ++
    encoding name
plain_prefix name =
    let body = encoding name in
    let inner = element 0x07 body in
    let size : length inner ≡ length (head 0x07 (length body)) + length body =
    length-append (head 0x07 (length body)) body in
    ap (element 0x05) (append-nil inner)
    ∙ ap (λ (n : ℕ). head 0x05 n ++ inner) size
    ∙ sym (append_assoc (head 0x05 (length (head 0x07 (length body)) + length body)) (head 0x07 (length body)) body)

asked_octets : (octets : List ℕ) (digest : Option (List ℕ)) → IsSpelled octets
    → octets ++ digest_component digest ≡ encoding (asked_name (components octets) digest)
asked_octets octets None is = append-nil octets ∙ is.spelled
asked_octets octets (Some d) is =
    ap (λ (x : List ℕ). x ++ element 0x01 d) is.spelled ∙ sym (encoding-push (components octets) (0x01, d))

abbrev wanted_fields : Part → List Component → Option (List ℕ) → Option ℕ → List ℕ → WantedPart
wanted_fields part name digest lists interest =
    record { part = part; name = name; digest = digest; lists = lists; interest = interest }

module _ (octets : List ℕ) (digest : Option (List ℕ)) (is : IsSpelled octets) (short : length octets ≤ 900)
    (long : Long digest) (asked : ℕ) (prefix named interest : List ℕ) (start end : ℕ) (has : Bool)
    (size : asked ≡ length octets + length (digest_component digest)) (begins : prefix ≡ interest_prefix asked)
    (goes_on : named ≡ prefix ++ octets) (ends : interest ≡ named ++ digest_component digest)
    (starts : start ≡ length prefix) (after : end ≡ length named) (tells : has ≡ is_some digest) where
  between : name_between interest start end ≡ octets
  between =
      ap (λ (x : List ℕ). drop start (take end x)) ends
      ∙ ap (drop start) (take_at named (digest_component digest) end (sym after))
      ∙ ap (drop start) goes_on
      ∙ drop_at prefix octets start (sym starts)

  pub want_name : components (name_between interest start end) ≡ components octets
  want_name = ap components between

  pub want_digest : digest_after interest end has ≡ digest
  want_digest = ap (digest_after interest end) tells ∙ by_digest digest ends long where
    by_digest : (o : Option (List ℕ)) → interest ≡ named ++ digest_component o → Long o
        → digest_after interest end (is_some o) ≡ o
    by_digest None e l = refl
    by_digest (Some d) e l =
        let two : length (head 0x01 (length d)) ≡ 2 =
        omega (arith, l, length-element 0x01 d, length-digest_element 0x01 d (omega arith) l) in
        let found : List ℕ → Option (List ℕ) = λ x. Some x in
        ap found
        (sym (drop-drop 2 end interest)
        ∙ ap (λ (x : List ℕ). drop 2 (drop end x)) e
        ∙ ap (drop 2) (drop_at named (element 0x01 d) end (sym after))
        ∙ drop_at (head 0x01 (length d)) d 2 two)

  written : interest ≡ written_plain (asked_name (components octets) digest) false
  written =
      let name = asked_name (components octets) digest in
      let whole = asked_octets octets digest is in
      let count : asked ≡ length (encoding name) =
      size ∙ sym (length-append octets (digest_component digest)) ∙ ap length whole in
      ends
      ∙ ap (λ (x : List ℕ). x ++ digest_component digest) goes_on
      ∙ append_assoc prefix octets (digest_component digest)
      ∙ ap (λ (x : List ℕ). prefix ++ x) whole
      ∙ ap (λ (x : List ℕ). x ++ encoding name) (begins ∙ ap interest_prefix count)
      ∙ sym (plain_prefix name)

  pub want_written : WantIsWritten interest start end has
  want_written = record {
    name = subst IsName (sym want_name) is.name;
    spelled = between ∙ is.spelled ∙ ap encoding (sym want_name);
    digest = subst Long (sym want_digest) long;
    written =
        written
        ∙ ap (λ (n : List Component). written_plain (asked_name n digest) false) (sym want_name)
        ∙ ap (λ (d : Option (List ℕ)).
        written_plain (asked_name (components (name_between interest start end)) d) false) (sym want_digest);
    short = omega (arith, short, ap length between);
    in_order = omega (arith, starts, after, ap length goes_on, length-append prefix octets);
    within = omega (arith, after, ap length ends, length-append named (digest_component digest));
  }

  pub want_is : (part : Part) (lists : Option ℕ)
      → wanted_fields part (components (name_between interest start end)) (digest_after interest end has) lists
      interest
      ≡ wanted_part part (components octets) digest lists
  want_is part lists =
      ap (λ (n : List Component). wanted_fields part n (digest_after interest end has) lists interest) want_name
      ∙ ap (λ (d : Option (List ℕ)). wanted_fields part (components octets) d lists interest) want_digest
      ∙ ap (wanted_fields part (components octets) digest lists) written
