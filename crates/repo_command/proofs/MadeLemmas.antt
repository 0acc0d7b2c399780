-- The verdict on a command that was made, and what every command is within that is taken.
use Rattle.std.proofs.Common.{◌≡◌, ℕ, ◌+◌, ◌-◌, ◌^◌, ◌<◌, ◌≤◌, Bool, true, false, ◌&&◌, leb, ltb, List, [], ◌∷◌, ◌++◌}
use Rattle.std.proofs.Common.{length, slice_get, Option, Some, None, Result, Ok, Err, if◌then◌else◌, refl, ap, ◌∙◌}
use Rattle.std.proofs.Common.{arith}
use Rattle.std.specs.Prelude.{ok_or}
use Rattle.sha2.specs.Sha256.{sha256}
use Rattle.ndn_tlv.specs.declared.order_table.Place.{Place}
use Rattle.ndn_tlv.specs.declared.tlv_fault.TlvFault.{TlvFault}
use Rattle.ndn_tlv.specs.Spelling.{element}
use Rattle.ndn_tlv.specs.NumberField.{number_of, number_field}
use Rattle.ndn_tlv.specs.Listing.{Listing, nothing, ◌then◌, gathered, ◌>>=◌}
use Rattle.ndn_tlv.specs.Elements.{Item, placed, elements}
use Rattle.ndn_tlv.specs.OrderTable.{place_of, fields, once}
use Rattle.ndn_tlv.proofs.NumberFields.{number_of-number_field}
use Rattle.ndn_name.specs.declared.fault.PacketFault.{PacketFault}
use Rattle.ndn_name.specs.declared.name_fault.NameFault.{NameFault}
use Rattle.ndn_name.specs.Names.{Component, IsName, encoding}
use Rattle.ndn_name.proofs.Encodings.{name_of-encoding}
use Rattle.ndn_name.proofs.SizeLemmas.{width}
use Rattle.ndn_sign.specs.Ring.{NamedKey, key_number, pair}
use Rattle.ndn_interest.specs.Interest.{Interest}
use Rattle.ndn_interest.specs.WrittenInterest as written
use Rattle.ndn_interest.proofs.ReadBackLemmas.{signed_again}
use Rattle.ndn_interest.proofs.SignerLemmas.{signer_again}
use Rattle.ndn_packet.proofs.ReadBack.{alone}
use Rattle.repo_object.specs.Objects.{is_object_name}
use Rattle.repo_command.specs.declared.command.Command.{Command}
use Rattle.repo_command.specs.declared.command.Command.TheVariants.{Insert, Check, Delete}
use Rattle.repo_command.specs.declared.command_refusal.CommandRefusal.{CommandRefusal}
use Rattle.repo_command.specs.declared.command_refusal.CommandRefusal.TheVariants.{BadParameter}
use Rattle.repo_command.specs.declared.parameters.ParameterField.{ParameterField}
use Rattle.repo_command.specs.declared.parameters.ParameterField.TheVariants.{Name, StartBlockId, EndBlockId, ProcessId}
use Rattle.repo_command.specs.OrderTables.{repo_command_parameter}
use Rattle.repo_command.specs.Verbs.{verb_of, command_name}
use Rattle.repo_command.specs.Commands.{named_length, is_command, CommandIsSpelled, parameters_value}
use Rattle.repo_command.specs.Commands.{written_parameters, command_interest}
use Rattle.repo_command.specs.Parameters.{Parameters, no_parameters, good_name, with_parameter, bad_parameter_field}
use Rattle.repo_command.specs.Parameters.{parameters_in, parameter_among, parameters_of, command_from}
use Rattle.repo_command.specs.Verdict.{packet_or, command_interest_verdict, command_verdict}
use Rattle.repo_command.proofs.NameLemmas.{IsName-command, verb_in-made}
use Rattle.repo_command.proofs.LengthLemmas.{value-size, command-size}
use Rattle.repo_command.proofs.FieldLemmas.{field_again, last_field}
use Rattle.repo_command.proofs.VerdictLemmas.{from_client}

-- ---- the parameters

abbrev after_name : List (Place ParameterField)
after_name = once 204 StartBlockId ∷ once 205 EndBlockId ∷ once 206 ProcessId ∷ []

abbrev after_first : List (Place ParameterField)
after_first = once 205 EndBlockId ∷ once 206 ProcessId ∷ []

abbrev after_last : List (Place ParameterField)
after_last = once 206 ProcessId ∷ []

-- what the parameters of a command say
abbrev given : Command → Parameters
given (Insert name first last) = record { name = Some name; first = Some first; last = Some last; process = None }
given (Check process) = record { name = None; first = None; last = None; process = Some process }
given (Delete name) = record { name = Some name; first = None; last = None; process = None }

abbrev gather_parameters : Parameters → List (Place ParameterField) → ℕ → List ℕ → Result Parameters CommandRefusal
gather_parameters p places o octets = gathered with_parameter bad_parameter_field p (fields places (elements o octets))

name_taken : (o typ : ℕ) (name : List Component) → IsName name
    → with_parameter no_parameters (Name, placed o typ (encoding name)) ≡ Ok (record no_parameters { name = Some name })
name_taken o typ name valid =
    ap (λ (r : Result (List Component) NameFault). good_name r >>= λ n. Ok (record no_parameters { name = Some n }))
    (name_of-encoding (placed o typ (encoding name)).value_start name valid)

number_taken : (n : ℕ) (with : ℕ → Parameters) → n < 2 ^ 64
    → (ok_or {E = CommandRefusal} (number_of (number_field n)) BadParameter >>= λ m. Ok (with m)) ≡ Ok (with n)
number_taken n with small =
    ap (λ (r : Option ℕ). ok_or {E = CommandRefusal} r BadParameter >>= λ m. Ok (with m))
    (number_of-number_field n small)

value_again : (c : Command) (o : ℕ) → CommandIsSpelled c → named_length c ≤ 400
    → gather_parameters no_parameters repo_command_parameter o (parameters_value c) ≡ Ok (given c)
unfolding place_of
value_again (Insert name first last) o is short =
    let a = element 7 (encoding name) in
    let b = element 204 (number_field first) in
    let d = element 205 (number_field last) in
    let named = record no_parameters { name = Some name } in
    let begun = record named { first = Some first } in
    let p = o + length a in
    let q = p + length b in
    field_again with_parameter bad_parameter_field repo_command_parameter after_name Name o 7 (encoding name) (b ++ d)
    no_parameters named refl (omega arith) (omega arith) (omega (arith, short)) (name_taken o 7 name is.0)
    ∙ field_again with_parameter bad_parameter_field after_name after_first StartBlockId p 204 (number_field first) d
    named begun refl (omega arith) (omega arith) (omega (arith, width first))
    (number_taken first (λ m. record named { first = Some m }) is.1)
    ∙ last_field with_parameter bad_parameter_field after_first after_last EndBlockId q 205 (number_field last) begun
    (given (Insert name first last)) refl (omega arith) (omega arith) (omega (arith, width last))
    (number_taken last (λ m. record begun { last = Some m }) is.2)
value_again (Check process) o is short =
    last_field with_parameter bad_parameter_field repo_command_parameter [] ProcessId o 206 (number_field process)
    no_parameters (given (Check process)) refl (omega arith) (omega arith) (omega (arith, width process))
    (number_taken process (λ m. record no_parameters { process = Some m }) is)
value_again (Delete name) o is short =
    last_field with_parameter bad_parameter_field repo_command_parameter after_name Name o 7 (encoding name)
    no_parameters (given (Delete name)) refl (omega arith) (omega arith) (omega (arith, short)) (name_taken o 7 name is)

parameters_again : (c : Command) → CommandIsSpelled c → named_length c ≤ 400
    → parameters_of (written_parameters c) ≡ Ok (given c)
parameters_again c is short =
    let value = parameters_value c in
    let e = placed 0 201 value in
    let read : elements 0 (written_parameters c) ≡ (e then nothing) =
    alone 0 201 value (omega arith) (omega arith) (omega (arith, value-size c short)) in
    ap (λ (l : Listing Item TlvFault). parameter_among l.items >>= parameters_in) read
    ∙ value_again c e.value_start is short

-- ---- the verdict

abbrev pub or_bad : ℕ → Command → Bool → Result (ℕ × Command) CommandRefusal
or_bad client c b = if b then Ok (client, c) else Err BadParameter

insertion : (a b : Bool) (client : ℕ) (range : ℕ × ℕ) (name : List Component)
    → (((if a then Ok name else Err BadParameter)
    >>= λ n. (if b then Ok range else Err BadParameter) >>= λ r. Ok (Insert n r.0 r.1))
    >>= from_client client)
    ≡ or_bad client (Insert name range.0 range.1) (a && b)
insertion true true client range name = refl
insertion true false client range name = refl
insertion false b client range name = refl

deletion : (a : Bool) (client : ℕ) (name : List Component)
    → (((if a then Ok name else Err BadParameter) >>= λ n. Ok (Delete n)) >>= from_client client)
    ≡ or_bad client (Delete name) a
deletion true client name = refl
deletion false client name = refl

last_step : (c : Command) (client : ℕ)
    → (command_from (verb_of c) (given c) >>= from_client client) ≡ or_bad client c (is_command c)
last_step (Insert name first last) client =
    insertion (is_object_name name) (leb first last && ltb (last - first) 200) client (first, last) name
last_step (Check process) client = refl
last_step (Delete name) client = deletion (is_object_name name) client name

module _ (node : List Component) (ring : List NamedKey) (c : Command) (key_name : List Component) (key : List ℕ)
    (client : ℕ) (found : key_number (encoding key_name) ring ≡ Some client)
    (at : slice_get ring client ≡ Some (pair (encoding key_name) key))
    (read : parameters_of (written_parameters c) ≡ Ok (given c)) where
  made_verdict : command_interest_verdict node ring
      (written.read_signed (command_name node (verb_of c)) (written_parameters c) key_name key)
      ≡ or_bad client c (is_command c)
  made_verdict =
      let name = command_name node (verb_of c) in
      let parameters = written_parameters c in
      let digest = sha256 (written.written_digested name parameters key_name key) in
      rw (verb_in-made node (verb_of c) digest, signer_again name key_name parameters key ring client found at, read)
      (last_step c client)

  pub made_is_checked : IsName node → length (encoding node) ≤ 200 → named_length c ≤ 400 → IsName key_name
      → length (encoding key_name) ≤ 205
      → command_verdict node ring (command_interest node c key_name key) ≡ or_bad client c (is_command c)
  made_is_checked valid_node short_node short valid_key short_key =
      let name = command_name node (verb_of c) in
      let small = command-size node c key_name key short_node short short_key in
      let packet =
      signed_again name key_name (written_parameters c) key (IsName-command node (verb_of c) valid_node) valid_key
      small in
      ap (λ (r : Result Interest PacketFault). packet_or r >>= command_interest_verdict node ring) packet ∙ made_verdict

pub made_commands : (node key_name : List Component) (c : Command) (key : List ℕ) (ring : List NamedKey) (client : ℕ)
    → IsName node → length (encoding node) ≤ 200 → CommandIsSpelled c → named_length c ≤ 400 → IsName key_name
    → length (encoding key_name) ≤ 205
    → key_number (encoding key_name) ring ≡ Some client → slice_get ring client ≡ Some (pair (encoding key_name) key)
    → command_verdict node ring (command_interest node c key_name key) ≡ or_bad client c (is_command c)
made_commands node key_name c key ring client valid_node short_node spelled short valid_key short_key found at =
    made_is_checked node ring c key_name key client found at (parameters_again c spelled short) valid_node short_node
    short valid_key short_key
