-- An answer that was written is read back.
use Rattle.std.proofs.Common.{◌≡◌, ℕ, ◌+◌, ◌^◌, ◌<◌, List, [], ◌∷◌, ◌++◌, length, length-append, append_assoc}
use Rattle.std.proofs.Common.{Option, Some, None, Result, Ok, refl, ap, ◌∙◌, arith}
use Rattle.std.specs.Prelude.{ok_or}
use Rattle.std.specs.Option.{option_and_then}
use Rattle.std.specs.Result.{result_ok}
use Rattle.std.proofs.lemmas.Bool.{lt-ltb}
use Rattle.std.proofs.lemmas.List.{append-nil}
use Rattle.ndn_tlv.specs.declared.order_table.Place.{Place}
use Rattle.ndn_tlv.specs.declared.tlv_fault.TlvFault.{TlvFault}
use Rattle.ndn_tlv.specs.Spelling.{element}
use Rattle.ndn_tlv.specs.NumberField.{number_field}
use Rattle.ndn_tlv.specs.Listing.{Listing, nothing, ◌then◌, gathered, ◌>>=◌}
use Rattle.ndn_tlv.specs.Elements.{Item, placed, elements}
use Rattle.ndn_tlv.specs.OrderTable.{place_of, fields, once}
use Rattle.ndn_tlv.proofs.NumberFields.{number_of-number_field}
use Rattle.ndn_name.proofs.SizeLemmas.{width}
use Rattle.ndn_packet.proofs.ReadBack.{alone}
use Rattle.repo_command.specs.declared.answer.Answer.{Answer}
use Rattle.repo_command.specs.declared.answer_fields.AnswerField.{AnswerField}
use Rattle.repo_command.specs.declared.answer_fields.AnswerField.TheVariants.{ProcessId, StatusCode, InsertNum}
use Rattle.repo_command.specs.declared.answer_fields.AnswerField.TheVariants.{DeleteNum}
use Rattle.repo_command.specs.OrderTables.{repo_command_response}
use Rattle.repo_command.specs.Answers.{IsSmall, IsAnswer, AnswerError, none, written_field, response_value}
use Rattle.repo_command.specs.Answers.{written_answer}
use Rattle.repo_command.specs.Answers.{AnswerSoFar, no_number, with_number, with_answer_field, bad_answer_field}
use Rattle.repo_command.specs.Answers.{answer_fields, whole_answer, response_among, answer_in, answer_of}
use Rattle.repo_command.proofs.LengthLemmas.{number_element-size, written-size}
use Rattle.repo_command.proofs.FieldLemmas.{field_again, fields_end}

abbrev after_process : List (Place AnswerField)
after_process = once 208 StatusCode ∷ once 209 InsertNum ∷ once 210 DeleteNum ∷ []

abbrev after_code : List (Place AnswerField)
after_code = once 209 InsertNum ∷ once 210 DeleteNum ∷ []

abbrev after_inserted : List (Place AnswerField)
after_inserted = once 210 DeleteNum ∷ []

abbrev gather_answer : AnswerSoFar → List (Place AnswerField) → ℕ → List ℕ → Result AnswerSoFar AnswerError
gather_answer s places o octets = gathered with_answer_field bad_answer_field s (fields places (elements o octets))

-- with a number that may be there
abbrev with_some : AnswerSoFar → AnswerField → Option ℕ → AnswerSoFar
with_some s field None = s
with_some s field (Some n) = with_number s field n

number_taken : (s : AnswerSoFar) (field : AnswerField) (o typ n : ℕ) → n < 2 ^ 64
    → with_answer_field s (field, placed o typ (number_field n)) ≡ Ok (with_number s field n)
number_taken s field o typ n small =
    ap (λ (r : Option ℕ). ok_or r none >>= λ m. Ok (with_number s field m)) (number_of-number_field n small)

next_number :
    (places after : List (Place AnswerField)) (field : AnswerField) (o typ n : ℕ) (rest : List ℕ) (s : AnswerSoFar)
    → place_of typ places ≡ Some (field, after) → 0 < typ → typ < 2 ^ 32 → n < 2 ^ 64
    → gather_answer s places o (element typ (number_field n) ++ rest)
    ≡ gather_answer (with_number s field n) after (o + length (element typ (number_field n))) rest
next_number places after field o typ n rest s place above below small =
    field_again with_answer_field bad_answer_field places after field o typ (number_field n) rest s
    (with_number s field n) place above below (omega (arith, width n)) (number_taken s field o typ n small)

-- ---- field by field, from the last

deleted_again : (places : List (Place AnswerField)) (o : ℕ) (s : AnswerSoFar) (d : Option ℕ)
    → place_of 210 places ≡ Some (DeleteNum, []) → IsSmall d
    → gather_answer s places o (written_field 210 d ++ []) ≡ Ok (with_some s DeleteNum d)
deleted_again places o s None place small = fields_end with_answer_field bad_answer_field places o s
deleted_again places o s (Some n) place small =
    next_number places [] DeleteNum o 210 n [] s place (omega arith) (omega arith) small
    ∙ fields_end with_answer_field bad_answer_field [] (o + length (element 210 (number_field n)))
    (with_number s DeleteNum n)

last_place : place_of 210 after_inserted ≡ Some (DeleteNum, [])
unfolding place_of
last_place = refl

inserted_again : (o : ℕ) (s : AnswerSoFar) (i d : Option ℕ) → IsSmall i → IsSmall d
    → gather_answer s after_code o (written_field 209 i ++ (written_field 210 d ++ []))
    ≡ Ok (with_some (with_some s InsertNum i) DeleteNum d)
unfolding place_of
inserted_again o s None d small_i small_d = deleted_again after_code o s d refl small_d
inserted_again o s (Some n) d small_i small_d =
    next_number after_code after_inserted InsertNum o 209 n (written_field 210 d ++ []) s refl (omega arith)
    (omega arith) small_i
    ∙ deleted_again after_inserted (o + length (element 209 (number_field n))) (with_number s InsertNum n) d last_place
    small_d

code_again : (places : List (Place AnswerField)) (o : ℕ) (s : AnswerSoFar) (code : ℕ) (i d : Option ℕ)
    → place_of 208 places ≡ Some (StatusCode, after_code)
    → code < 2 ^ 16 → IsSmall i → IsSmall d
    → gather_answer s places o (element 208 (number_field code) ++ (written_field 209 i ++ (written_field 210 d ++ [])))
    ≡ Ok (with_some (with_some (with_number s StatusCode code) InsertNum i) DeleteNum d)
code_again places o s code i d place small small_i small_d =
    next_number places after_code StatusCode o 208 code (written_field 209 i ++ (written_field 210 d ++ [])) s place
    (omega arith) (omega arith) (omega arith)
    ∙ inserted_again (o + length (element 208 (number_field code))) (with_number s StatusCode code) i d small_i small_d

abbrev made : Option ℕ → ℕ → Option ℕ → Option ℕ → AnswerSoFar
made p code i d =
    with_some (with_some (with_number (with_some no_number ProcessId p) StatusCode code) InsertNum i) DeleteNum d

value_again : (o code : ℕ) (p i d : Option ℕ) → IsSmall p → code < 2 ^ 16 → IsSmall i → IsSmall d
    → gather_answer no_number repo_command_response o
    (written_field 206 p ++ (element 208 (number_field code) ++ (written_field 209 i ++ (written_field 210 d ++ []))))
    ≡ Ok (made p code i d)
unfolding place_of
value_again o code None i d small_p small small_i small_d =
    code_again repo_command_response o no_number code i d refl small small_i small_d
value_again o code (Some n) i d small_p small small_i small_d =
    next_number repo_command_response after_process ProcessId o 206 n
    (element 208 (number_field code) ++ (written_field 209 i ++ (written_field 210 d ++ []))) no_number refl
    (omega arith) (omega arith) small_p
    ∙ code_again after_process (o + length (element 206 (number_field n))) (with_number no_number ProcessId n) code i d
    refl small small_i small_d

-- ---- the whole

regroup : (a b c d : List ℕ) → ((a ++ b) ++ c) ++ d ≡ a ++ (b ++ (c ++ (d ++ [])))
regroup a b c d = simp (append_assoc, append-nil)

abbrev answer : Option ℕ → ℕ → Option ℕ → Option ℕ → Answer
answer p code i d = record { code = code; process = p; inserted = i; deleted = d }

whole_again : (p i d : Option ℕ) (code : ℕ) → code < 2 ^ 16 → whole_answer (made p code i d) ≡ Some (answer p code i d)
whole_again None None None code small = rw (lt-ltb code 65536 small) refl
whole_again None None (Some d) code small = rw (lt-ltb code 65536 small) refl
whole_again None (Some i) None code small = rw (lt-ltb code 65536 small) refl
whole_again None (Some i) (Some d) code small = rw (lt-ltb code 65536 small) refl
whole_again (Some p) None None code small = rw (lt-ltb code 65536 small) refl
whole_again (Some p) None (Some d) code small = rw (lt-ltb code 65536 small) refl
whole_again (Some p) (Some i) None code small = rw (lt-ltb code 65536 small) refl
whole_again (Some p) (Some i) (Some d) code small = rw (lt-ltb code 65536 small) refl

pub answer_again : (a : Answer) → IsAnswer a → answer_of (written_answer a) ≡ Some a
answer_again a is =
    let value = response_value a in
    let e = placed 0 207 value in
    let p = written_field 206 a.process in
    let c = element 208 (number_field a.code) in
    let i = written_field 209 a.inserted in
    let d = written_field 210 a.deleted in
    let long : length value < 2 ^ 64 =
    omega (
      arith,
      length-append ((p ++ c) ++ i) d,
      length-append (p ++ c) i,
      length-append p c,
      written-size 206 a.process (omega arith),
      number_element-size 208 a.code (omega arith),
      written-size 209 a.inserted (omega arith),
      written-size 210 a.deleted (omega arith),
    ) in
    let read : elements 0 (written_answer a) ≡ (e then nothing) = alone 0 207 value (omega arith) (omega arith) long in
    let all : answer_fields e ≡ Ok (made a.process a.code a.inserted a.deleted) =
    ap (gather_answer no_number repo_command_response e.value_start) (regroup p c i d)
    ∙ value_again e.value_start a.code a.process a.inserted a.deleted is.process is.code is.inserted is.deleted in
    ap (λ (l : Listing Item TlvFault). option_and_then answer_in (response_among l.items l.fault)) read
    ∙ ap (λ (r : Result AnswerSoFar AnswerError). option_and_then whole_answer (result_ok r)) all
    ∙ whole_again a.process a.inserted a.deleted a.code is.code
