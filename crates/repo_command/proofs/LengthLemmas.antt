-- How many octets a command has: fewer than a packet may have.
use Rattle.std.proofs.Common.{ℕ, ◌<◌, ◌≤◌, List, [], ◌∷◌, ◌++◌, length, length-append, Option, Some, None}
use Rattle.std.proofs.Common.{arith}
use Rattle.sha2.specs.Sha256.{sha256}
use Rattle.sha2.proofs.Facts256.{length-sha256}
use Rattle.ndn_tlv.specs.Spelling.{element}
use Rattle.ndn_tlv.specs.NumberField.{number_field}
use Rattle.ndn_name.specs.Names.{Component, encoding}
use Rattle.ndn_name.proofs.SizeLemmas.{width}
use Rattle.ndn_packet.specs.Written.{written_info}
use Rattle.ndn_interest.specs.WrittenInterest.{written_digested}
use Rattle.ndn_interest.proofs.WriteLemmas.{length-digested, length-named}
use Rattle.repo_object.proofs.Sizes.{element-at_most, element-narrow, pushed-size}
pub use Rattle.repo_object.proofs.PacketSizes.{info-size}
use Rattle.repo_command.specs.declared.command.Command.{Command}
use Rattle.repo_command.specs.declared.command.Command.TheVariants.{Insert, Check, Delete}
use Rattle.repo_command.specs.declared.verb.Verb.{Verb}
use Rattle.repo_command.specs.declared.verb.Verb.TheVariants as verb
use Rattle.repo_command.specs.Verbs.{verb_of, command_name}
use Rattle.repo_command.specs.declared.answer.Answer.{Answer}
use Rattle.repo_command.specs.Answers.{written_field, response_value, written_answer}
use Rattle.repo_command.specs.Commands.{named_length, parameters_value, written_parameters, command_interest}

-- ---- names

pub command_name-size : (node : List Component) (v : Verb) → length (encoding node) ≤ 200
    → length (encoding (command_name node v)) ≤ 208
command_name-size node verb.Insert short =
    omega (arith, pushed-size node 8 (105 ∷ 110 ∷ 115 ∷ 101 ∷ 114 ∷ 116 ∷ []) (omega arith) (omega arith))
command_name-size node verb.Check short =
    omega (arith, pushed-size node 8 (99 ∷ 104 ∷ 101 ∷ 99 ∷ 107 ∷ []) (omega arith) (omega arith))
command_name-size node verb.Delete short =
    omega (arith, pushed-size node 8 (100 ∷ 101 ∷ 108 ∷ 101 ∷ 116 ∷ 101 ∷ []) (omega arith) (omega arith))

-- ---- parameters

pub number_element-size : (typ n : ℕ) → typ < 253 → length (element typ (number_field n)) ≤ 10
number_element-size typ n low =
    omega (arith, width n, element-narrow typ (number_field n) low (omega (arith, width n)))

pub value-size : (c : Command) → named_length c ≤ 400 → length (parameters_value c) ≤ 424
value-size (Insert name first last) short =
    let named = element 7 (encoding name) in
    let a = element 204 (number_field first) in
    let b = element 205 (number_field last) in
    omega (
      arith,
      short,
      length-append named (a ++ b),
      length-append a b,
      element-at_most 7 (encoding name) (omega arith) (omega arith),
      number_element-size 204 first (omega arith),
      number_element-size 205 last (omega arith),
    )
value-size (Check process) short = omega (arith, number_element-size 206 process (omega arith))
value-size (Delete name) short = omega (arith, short, element-at_most 7 (encoding name) (omega arith) (omega arith))

pub parameters-size : (c : Command) → named_length c ≤ 400 → length (written_parameters c) ≤ 428
parameters-size c short =
    let value = value-size c short in
    omega (arith, value, element-at_most 201 (parameters_value c) (omega arith) (omega (arith, value)))

-- ---- answers

pub written-size : (typ : ℕ) (n : Option ℕ) → typ < 253 → length (written_field typ n) ≤ 10
written-size typ None low = omega arith
written-size typ (Some n) low = number_element-size typ n low

pub answer-size : (a : Answer) → length (written_answer a) ≤ 44
answer-size a =
    let process = written_field 206 a.process in
    let code = element 208 (number_field a.code) in
    let inserted = written_field 209 a.inserted in
    let deleted = written_field 210 a.deleted in
    let long : length (response_value a) ≤ 40 = omega (
      arith,
      written-size 206 a.process (omega arith),
      number_element-size 208 a.code (omega arith),
      written-size 209 a.inserted (omega arith),
      written-size 210 a.deleted (omega arith),
      length-append ((process ++ code) ++ inserted) deleted,
      length-append (process ++ code) inserted,
      length-append process code,
    ) in
    omega (arith, long, element-at_most 207 (response_value a) (omega arith) (omega (arith, long)))

-- ---- the packet

-- a command within the limits is a packet
pub command-size : (node : List Component) (c : Command) (key_name : List Component) (key : List ℕ)
    → length (encoding node) ≤ 200 → named_length c ≤ 400 → length (encoding key_name) ≤ 205
    → length (command_interest node c key_name key) ≤ 8800
command-size node c key_name key short_node short short_key =
    let name = command_name node (verb_of c) in
    let parameters = written_parameters c in
    let named = command_name-size node (verb_of c) short_node in
    let given = parameters-size c short in
    let info = info-size key_name short_key in
    let first = element 0x24 parameters in
    let second = element 0x2c (written_info key_name) in
    let a = element-at_most 0x24 parameters (omega arith) (omega (arith, given)) in
    let b = element-at_most 0x2c (written_info key_name) (omega arith) (omega (arith, info)) in
    let digested = written_digested name parameters key_name key in
    let long : length digested ≤ 690 =
    omega (arith, given, info, a, b, length-digested name key_name parameters key, length-append first second) in
    let value = encoding (name ++ (2, sha256 digested) ∷ []) in
    let size = length-named name (sha256 digested) (length-sha256 digested) in
    let d = element-at_most 7 value (omega arith) (omega (arith, size, named)) in
    let body = length-append (element 7 value) digested in
    omega (
      arith,
      named,
      long,
      size,
      d,
      body,
      element-at_most 5 (element 7 value ++ digested) (omega arith) (omega (arith, named, long, size, d, body)),
    )
