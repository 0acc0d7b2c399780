-- Commands that clients of the group make for its members.
use Rattle.std.proofs.Common.{◌≡◌, ℕ, ◌-◌, ◌<◌, ◌≤◌, true, ◌&&◌, List, [], length, get_or, Some, refl, sym, ap, ◌∙◌}
use Rattle.std.proofs.Common.{subst}
use Rattle.std.proofs.Common.{arith}
use Rattle.std.specs.Prelude.{slice_get, nat_le, nat_lt, Result, Ok, Err, IfErr, ◌≢◌}
use Rattle.std.proofs.lemmas.Bool.{and_parts}
use Rattle.std.proofs.lemmas.Option.{slice_get-get_or, unwrap_or-slice_get}
use Rattle.ndn_name.specs.Names.{Component, encoding}
use Rattle.ndn_sign.specs.Ring
use Rattle.ndn_sign.specs.Ring.{pair, key_number}
use Rattle.repo_object.specs.Objects.{is_object_name, key_name}
use Rattle.repo_object.proofs.NameLemmas.{IsName-key}
use Rattle.repo_object.proofs.PacketSizes.{key_name-size}
use Rattle.repo_object.proofs.Sizes.{named_short}
use Rattle.repo_command.specs.declared.command.Command.{Command}
use Rattle.repo_command.specs.declared.command.Command.TheVariants.{Insert, Check, Delete}
use Rattle.repo_command.specs.Commands.{named_length, is_command, CommandIsSpelled}
use Rattle.repo_command.specs.declared.command_refusal.CommandRefusal.{CommandRefusal}
use Rattle.repo_command.specs.declared.command_refusal.CommandRefusal.TheVariants as refused
use Rattle.repo_command.specs.Verdict.{command_verdict}
use Rattle.repo_command.proofs.MadeLemmas.{or_bad, made_commands}
use Rattle.repo_command.proofs.RefusalLemmas.{refused_for_octets}
use Rattle.repo_command.proofs.TakenLemmas.{taken_commands}
use Rattle.repo_member.specs.Groups.{GroupKeys, IsGroup, IsPlainNodeName, node_at, client_at, client_key_at}
use Rattle.repo_member.specs.Commanded.{coded, order_of, order_made, MadeOrdersAreTaken, OrdersBeyondAreMalformed}
use Rattle.repo_member.proofs.GroupLemmas.{client_is, client_plain, ring_length}
use Rattle.repo_member.proofs.ConsistentSyncs.{number_at, ring_at}

-- a command within the limits has a short name
within_short : (command : Command) → is_command command ≡ true → named_length command ≤ 400
within_short (Insert name first last) is =
    named_short name (and_parts (is_object_name name) (nat_le first last && nat_lt (last - first) 200) is).0
within_short (Check process) is = omega arith
within_short (Delete name) is = named_short name is

-- No command is answered by the code of running out of memory, since there is none.
no_code : (verdict : Result (ℕ × Command) CommandRefusal) → IfErr verdict (λ r. r ≢ refused.NoMemory)
    → coded (Err refused.NoMemory) ≡ coded verdict → ⊥
no_code (Ok order) of_octets e = cc
no_code (Err (refused.Packet fault)) of_octets e = cc
no_code (Err refused.OtherName) of_octets e = cc
no_code (Err refused.Unsigned) of_octets e = cc
no_code (Err refused.ParamsDigest) of_octets e = cc
no_code (Err refused.UnknownKey) of_octets e = cc
no_code (Err refused.BadSignature) of_octets e = cc
no_code (Err refused.BadParameter) of_octets e = cc
no_code (Err refused.NoMemory) of_octets e = of_octets refl

pub coded_refusals : (node : List Component) (ring : List Ring.NamedKey) (octets : List ℕ) (refusal : CommandRefusal)
    → coded (Err refusal) ≡ coded (command_verdict node ring octets) → refusal ≢ refused.NoMemory
coded_refusals node ring octets refusal e is =
    no_code (command_verdict node ring octets) (refused_for_octets node ring octets)
    (ap (λ (r : CommandRefusal). coded (Err r)) (sym is) ∙ e)

module _ (g : GroupKeys) (number client : ℕ) (group : IsGroup g) (there : number < length g.members.names)
    (known : client < length g.clients.names) where
  node_is : node_at g number ≡ get_or g.members.names number []
  node_is = unwrap_or-slice_get g.members.names number []

  node_name : IsPlainNodeName (node_at g number)
  node_name = subst IsPlainNodeName (sym node_is) (group.members.node_names number [] there)

  client_name : IsPlainNodeName (client_at g client)
  client_name = client_plain g group.clients client known

  client_same : client_at g client ≡ get_or g.clients.names client []
  client_same = client_is g group.clients client known

  client_found : key_number (encoding (key_name (client_at g client))) g.clients.ring ≡ Some client
  client_found =
      subst (λ (n : List Component). key_number (encoding (key_name n)) g.clients.ring ≡ Some client) (sym client_same)
      (number_at g.clients group.clients client known)

  key_is : slice_get g.clients.ring client
      ≡ Some (pair (encoding (key_name (client_at g client))) (client_key_at g client))
  key_is =
      slice_get-get_or g.clients.ring client (pair [] []) (omega (arith, known, ring_length g.clients group.clients))
      ∙ ap (λ (q : Ring.NamedKey). Some q) made where
        made : get_or g.clients.ring client (pair [] [])
            ≡ pair (encoding (key_name (client_at g client))) (client_key_at g client)
        made =
            let n : (get_or g.clients.ring client (pair [] [])).name ≡ encoding (key_name (client_at g client)) =
            ring_at g.clients group.clients client known client known
            ∙ ap (λ (node : List Component). encoding (key_name node)) (sym client_same) in
            let k : (get_or g.clients.ring client (pair [] [])).key ≡ client_key_at g client =
            sym (ap (λ (q : Ring.NamedKey). q.key) (unwrap_or-slice_get g.clients.ring client (pair [] []))) in
            λ i. record { name = n i; key = k i }

  pub verdict : (command : Command) → CommandIsSpelled command → named_length command ≤ 400
      → command_verdict (node_at g number) g.clients.ring (order_made g number client command)
      ≡ or_bad client command (is_command command)
  verdict command spelled short =
      made_commands (node_at g number) (key_name (client_at g client)) command (client_key_at g client) g.clients.ring
      client
      node_name.valid node_name.short spelled short (IsName-key (client_at g client) client_name.valid)
      (key_name-size (client_at g client) client_name.short) client_found key_is

pub made_orders_are_taken : MadeOrdersAreTaken
made_orders_are_taken g number client command group there known spelled is =
    ap coded (verdict g number client group there known command spelled (within_short command is)
    ∙ ap (or_bad client command) is)

pub orders_beyond : OrdersBeyondAreMalformed
orders_beyond g number client command group there known spelled short is =
    ap coded (verdict g number client group there known command spelled short ∙ ap (or_bad client command) is)

-- ---- what is taken is within the limits

-- an order is the check's
coded_order : (r : Result (ℕ × Command) CommandRefusal) (order : ℕ × Command) → coded r ≡ Ok order → r ≡ Ok order
coded_order (Ok taken) order e = let same : taken ≡ order = cc in ap (λ (o : ℕ × Command). Ok o) same
coded_order (Err refusal) order e = absurd cc

pub orders_within : (g : GroupKeys) (number : ℕ) (octets : List ℕ) (client : ℕ) (command : Command)
    → order_of g number octets ≡ Ok (client, command) → is_command command ≡ true
orders_within g number octets client command e =
    (taken_commands (node_at g number) g.clients.ring octets client command
    (coded_order (command_verdict (node_at g number) g.clients.ring octets) (client, command) e)).0
