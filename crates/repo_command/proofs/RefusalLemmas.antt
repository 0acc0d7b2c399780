-- A refusal that octets get as a command is never out of memory.
use Rattle.std.proofs.Common.{◌≡◌, ℕ, ◌-◌, Bool, true, false, cond, ◌&&◌, leb, ltb, List, [], ◌∷◌, Option, Some, None}
use Rattle.std.proofs.Common.{Result, Ok, Err}
use Rattle.std.specs.Prelude.{IfErr, ◌≢◌, unwrap_or, ok_or, nat_le, nat_lt, ◌==◌}
use Rattle.ndn_tlv.specs.Listing.{gather, ◌>>=◌}
use Rattle.ndn_tlv.specs.Elements.{Item, elements}
use Rattle.ndn_tlv.specs.NumberField.{number_of}
use Rattle.ndn_name.specs.declared.fault.PacketFault.{PacketFault}
use Rattle.ndn_name.specs.declared.name_fault.NameFault.{NameFault}
use Rattle.ndn_name.specs.Names.{Component, name_of}
use Rattle.ndn_sign.specs.Ring.{NamedKey}
use Rattle.ndn_interest.specs.declared.signature_error.SignatureError.{SignatureError}
use Rattle.ndn_interest.specs.declared.signature_error.SignatureError.TheVariants as signature
use Rattle.ndn_interest.specs.Interest.{Interest, interest_of}
use Rattle.ndn_interest.specs.Signer.{signer_of}
use Rattle.repo_object.specs.Objects.{is_object_name}
use Rattle.repo_command.specs.declared.command_refusal.CommandRefusal.{CommandRefusal}
use Rattle.repo_command.specs.declared.command_refusal.CommandRefusal.TheVariants.{BadParameter, OtherName, NoMemory}
use Rattle.repo_command.specs.declared.parameters.ParameterField.{ParameterField}
use Rattle.repo_command.specs.declared.parameters.ParameterField.TheVariants.{Name, StartBlockId, EndBlockId, ProcessId}
use Rattle.repo_command.specs.declared.verb.Verb.{Verb}
use Rattle.repo_command.specs.declared.verb.Verb.TheVariants.{Insert, Check, Delete}
use Rattle.repo_command.specs.Verbs.{verb_in}
use Rattle.repo_command.specs.Parameters.{Parameters, good_name, parameter_number, with_parameter, parameters_in}
use Rattle.repo_command.specs.Parameters.{parameter_among, parameters_of, object_name_of, range_of, command_from}
use Rattle.repo_command.specs.Parameters.{bad_parameter_field}
use Rattle.repo_command.specs.Verdict.{packet_or, signed_or, command_interest_verdict, command_verdict}

abbrev IsNoWant : CommandRefusal → Type 0
IsNoWant refusal = refusal ≢ NoMemory

-- What fails is as those say whom it is made of.
then_err : {A B : Type 0} (r : Result A CommandRefusal) (f : A → Result B CommandRefusal) → IfErr r IsNoWant
    → ((x : A) → IfErr (f x) IsNoWant) → IfErr (r >>= f) IsNoWant
then_err (Ok x) f h k = k x
then_err (Err e) f h k = h

gather_err : {S A F : Type 0} (take : S → A → Result S CommandRefusal) (named : F → CommandRefusal)
    → ((s : S) (x : A) → IfErr (take s x) IsNoWant) → ((f : F) → IsNoWant (named f)) → (s : S) (xs : List A)
    (end : Option F) → IfErr (gather take named s xs end) IsNoWant
unfolding gather
gather_err take named steps ends s [] None = tt
gather_err take named steps ends s [] (Some f) = ends f
gather_err take named steps ends s (x ∷ xs) end =
    then_err (take s x) (λ t. gather take named t xs end) (steps s x) (λ t. gather_err take named steps ends t xs end)

bad : IsNoWant BadParameter
bad e = absurd cc

-- ---- the parameters

tested_err : {A : Type 0} (b : Bool) (x : A) → IfErr (cond b (Ok x) (Err BadParameter)) IsNoWant
tested_err true x = tt
tested_err false x = bad

given_err : {A : Type 0} (o : Option A) → IfErr (ok_or o BadParameter) IsNoWant
given_err (Some x) = tt
given_err None = bad

good_err : (r : Result (List Component) NameFault) → IfErr (good_name r) IsNoWant
good_err (Ok name) = tt
good_err (Err f) = bad

field_err : (p : Parameters) (field : ParameterField × Item) → IfErr (with_parameter p field) IsNoWant
field_err p (Name, e) =
    then_err (good_name (name_of e.value_start e.value)) _ (good_err (name_of e.value_start e.value)) (λ name. tt)
field_err p (StartBlockId, e) = then_err (parameter_number e) _ (given_err (number_of e.value)) (λ n. tt)
field_err p (EndBlockId, e) = then_err (parameter_number e) _ (given_err (number_of e.value)) (λ n. tt)
field_err p (ProcessId, e) = then_err (parameter_number e) _ (given_err (number_of e.value)) (λ n. tt)

among_err : (es : List Item) → IfErr (parameter_among es) IsNoWant
among_err [] = bad
among_err (e ∷ es) = tested_err (e.typ == 201) e

parameters_err : (octets : List ℕ) → IfErr (parameters_of octets) IsNoWant
parameters_err octets =
    then_err (parameter_among (elements 0 octets).items) parameters_in (among_err (elements 0 octets).items) (λ e.
    gather_err with_parameter bad_parameter_field field_err (λ f. bad) _ _ _)

-- ---- the command

object_err : (o : Option (List Component)) → IfErr (object_name_of o) IsNoWant
object_err None = bad
object_err (Some name) = tested_err (is_object_name name) name

range_err : (a b : Option ℕ) → IfErr (range_of a b) IsNoWant
range_err None b = bad
range_err (Some first) None = bad
range_err (Some first) (Some last) = tested_err (nat_le first last && nat_lt (last - first) 200) (first, last)

command_err : (verb : Verb) (p : Parameters) → IfErr (command_from verb p) IsNoWant
command_err Insert p =
    then_err (object_name_of p.name) _ (object_err p.name) (λ name.
    then_err (range_of p.first p.last) _ (range_err p.first p.last) (λ range. tt))
command_err Check p = then_err (ok_or p.process BadParameter) _ (given_err p.process) (λ process. tt)
command_err Delete p = then_err (object_name_of p.name) _ (object_err p.name) (λ name. tt)

-- ---- the Interest

packet_err : (r : Result Interest PacketFault) → IfErr (packet_or r) IsNoWant
packet_err (Ok i) = tt
packet_err (Err f) = λ e. absurd cc

verb_err : (o : Option Verb) → IfErr (ok_or o OtherName) IsNoWant
verb_err (Some verb) = tt
verb_err None = λ e. absurd cc

signed_err : (r : Result ℕ SignatureError) → IfErr (signed_or r) IsNoWant
signed_err (Ok n) = tt
signed_err (Err signature.Unsigned) = λ e. absurd cc
signed_err (Err signature.ParamsDigest) = λ e. absurd cc
signed_err (Err signature.UnknownKey) = λ e. absurd cc
signed_err (Err signature.BadSignature) = λ e. absurd cc

module _ (node : List Component) (ring : List NamedKey) where
  interest_err : (i : Interest) → IfErr (command_interest_verdict node ring i) IsNoWant
  interest_err i =
      then_err (ok_or (verb_in node i.name) OtherName) _ (verb_err (verb_in node i.name)) (λ verb.
      then_err (signed_or (signer_of ring i)) _ (signed_err (signer_of ring i)) (λ client.
      then_err (parameters_of (unwrap_or i.parameters [])) _ (parameters_err (unwrap_or i.parameters [])) (λ p.
      then_err (command_from verb p) _ (command_err verb p) (λ c. tt))))

pub refused_for_octets : (node : List Component) (ring : List NamedKey) (octets : List ℕ)
    → IfErr (command_verdict node ring octets) (λ refusal. refusal ≢ NoMemory)
refused_for_octets node ring octets =
    then_err (packet_or (interest_of octets)) (command_interest_verdict node ring) (packet_err (interest_of octets))
    (interest_err node ring)
