-- What every command is within that is taken.
use Rattle.std.proofs.Common.{◌≡◌, ℕ, ◌-◌, ◌<◌, Bool, true, false, ◌&&◌, leb, ltb, List, [], length, Option, Some, None}
use Rattle.std.proofs.Common.{Result, Ok, Err, if◌then◌else◌, refl, sym, ap, ◌∙◌, arith}
use Rattle.std.specs.Prelude.{unwrap_or, ok_or}
use Rattle.std.proofs.lemmas.Bool.{and_from}
use Rattle.ndn_tlv.specs.Listing.{◌>>=◌}
use Rattle.ndn_tlv.proofs.Steps.{bind_ok, ok_is}
use Rattle.ndn_name.specs.Names.{Component}
use Rattle.ndn_sign.specs.Ring.{NamedKey}
use Rattle.ndn_interest.specs.declared.signature_error.SignatureError.{SignatureError}
use Rattle.ndn_interest.specs.Interest.{interest_of}
use Rattle.ndn_interest.specs.Signer.{signer_of}
use Rattle.ndn_interest.proofs.SignerLemmas.{signer_there}
use Rattle.repo_object.specs.Objects.{is_object_name}
use Rattle.repo_command.specs.declared.command.Command.{Command}
use Rattle.repo_command.specs.declared.command.Command.TheVariants as command
use Rattle.repo_command.specs.declared.command_refusal.CommandRefusal.{CommandRefusal}
use Rattle.repo_command.specs.declared.command_refusal.CommandRefusal.TheVariants.{BadParameter, OtherName}
use Rattle.repo_command.specs.declared.verb.Verb.{Verb}
use Rattle.repo_command.specs.declared.verb.Verb.TheVariants.{Insert, Check, Delete}
use Rattle.repo_command.specs.Verbs.{verb_in}
use Rattle.repo_command.specs.Commands.{is_command}
use Rattle.repo_command.specs.Parameters.{Parameters, parameters_of, object_name_of, range_of, command_from}
use Rattle.repo_command.specs.Verdict.{packet_or, signed_or, command_interest_verdict, command_verdict}

abbrev done : {A : Type 0} → A → Result A CommandRefusal
done x = Ok x

-- ---- the command

tested : {A : Type 0} (b : Bool) (x y : A) → (if b then done x else Err BadParameter) ≡ Ok y → (b ≡ true) × (x ≡ y)
tested true x y e = (refl, ok_is x y e)
tested false x y e = absurd cc

object_name_taken : (o : Option (List Component)) (name : List Component) → object_name_of o ≡ Ok name
    → is_object_name name ≡ true
object_name_taken None name e = absurd cc
object_name_taken (Some n) name e =
    let t = tested (is_object_name n) n name e in
    ap is_object_name (sym t.1) ∙ t.0

abbrev in_range : ℕ × ℕ → Bool
in_range range = leb range.0 range.1 && ltb (range.1 - range.0) 200

range_taken : (a b : Option ℕ) (range : ℕ × ℕ) → range_of a b ≡ Ok range → in_range range ≡ true
range_taken None b range e = absurd cc
range_taken (Some first) None range e = absurd cc
range_taken (Some first) (Some last) range e =
    let t = tested (in_range (first, last)) (first, last) range e in
    ap in_range (sym t.1) ∙ t.0

command_taken : (verb : Verb) (p : Parameters) (c : Command) → command_from verb p ≡ Ok c → is_command c ≡ true
command_taken Insert p c e =
    let named =
    bind_ok (object_name_of p.name)
    (λ name. range_of p.first p.last >>= λ range. done (command.Insert name range.0 range.1)) c e in
    let ranged = bind_ok (range_of p.first p.last) (λ range. done (command.Insert named.0 range.0 range.1)) c named.2 in
    let same : command.Insert named.0 ranged.0.0 ranged.0.1 ≡ c =
    ok_is (command.Insert named.0 ranged.0.0 ranged.0.1) c ranged.2 in
    ap is_command (sym same)
    ∙ and_from (is_object_name named.0) (in_range ranged.0) (object_name_taken p.name named.0 named.1)
    (range_taken p.first p.last ranged.0 ranged.1)
command_taken Check p c e =
    let asked = bind_ok (ok_or p.process BadParameter) (λ process. done (command.Check process)) c e in
    let same : command.Check asked.0 ≡ c = ok_is (command.Check asked.0) c asked.2 in
    ap is_command (sym same)
command_taken Delete p c e =
    let named = bind_ok (object_name_of p.name) (λ name. done (command.Delete name)) c e in
    let same : command.Delete named.0 ≡ c = ok_is (command.Delete named.0) c named.2 in
    ap is_command (sym same) ∙ object_name_taken p.name named.0 named.1

-- ---- the client

signed_is : (r : Result ℕ SignatureError) (client : ℕ) → signed_or r ≡ Ok client → r ≡ Ok client
signed_is (Ok n) client e = ap (λ (m : ℕ). Ok m) (ok_is n client e)
signed_is (Err refusal) client e = absurd cc

-- ---- the whole

pub taken_commands : (node : List Component) (ring : List NamedKey) (octets : List ℕ) (client : ℕ) (c : Command)
    → command_verdict node ring octets ≡ Ok (client, c) → (is_command c ≡ true) × (client < length ring)
taken_commands node ring octets client c e =
    let read = bind_ok (packet_or (interest_of octets)) (command_interest_verdict node ring) (client, c) e in
    let i = read.0 in
    let named =
    bind_ok (ok_or (verb_in node i.name) OtherName)
    (λ verb. signed_or (signer_of ring i)
    >>= λ n. parameters_of (unwrap_or i.parameters []) >>= λ p. command_from verb p >>= λ x. done (n, x)) (client, c)
    read.2 in
    let signed =
    bind_ok (signed_or (signer_of ring i))
    (λ n. parameters_of (unwrap_or i.parameters []) >>= λ p. command_from named.0 p >>= λ x. done (n, x)) (client, c)
    named.2 in
    let given =
    bind_ok (parameters_of (unwrap_or i.parameters [])) (λ p. command_from named.0 p >>= λ x. done (signed.0, x))
    (client, c) signed.2 in
    let asked = bind_ok (command_from named.0 given.0) (λ x. done (signed.0, x)) (client, c) given.2 in
    let same = ok_is (signed.0, asked.0) (client, c) asked.2 in
    let first : signed.0 ≡ client = ap (λ (x : ℕ × Command). x.0) same in
    let second : asked.0 ≡ c = ap (λ (x : ℕ × Command). x.1) same in
    let small = signer_there ring i signed.0 (signed_is (signer_of ring i) signed.0 signed.1) in
    (ap is_command (sym second) ∙ command_taken named.0 given.0 asked.0 asked.1, omega (arith, small, first))
