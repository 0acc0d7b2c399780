use Rattle.std.proofs.Common.{◌≡◌, ◌∷◌, ◌++◌, [], ◌+◌, length, length-append, refl, ap, ◌∙◌, arith}
use Rattle.bench_net.proofs.SentLemmas.{at_ok}
use Rattle.bench_world.specs.IssuedCommands.{issued_of}
use Rattle.bench_world.specs.IssuedList.{IssuedList}
use Rattle.bench_world.proofs.IssuedLemmas.{put_in}
use Rattle.bench_world.proofs.issued.IssuedCommands.add_reserved.Goals as goal

pub invariant_of-self : goal.invariant_of-self
invariant_of-self c =
    let ks = c.self.inside.commands.keys in
    let old = c.self.inside.made.items in
    let number = c.unwrap-number.result.0 in
    let keys = at_ok c.insert_full.result c.unwrap-number.result _ c.unwrap-number.ensures c.insert_full.ensures.keys in
    let within =
    at_ok c.insert_full.result c.unwrap-number.result _ c.unwrap-number.ensures c.insert_full.ensures.within in
    let stored =
    at_ok c.insert_full.result c.unwrap-number.result _ c.unwrap-number.ensures c.insert_full.ensures.stored in
    let pushed : c.push.new.self.items ≡ old ++ number ∷ [] = c.push.ensures.items ∙ rw c.unwrap.ensures refl in
    let long : length c.push.new.self.items ≡ length old + 1 = ap length pushed ∙ length-append old (number ∷ []) in
    let after =
    put_in ks c.insert_full.new.self.keys c.args.command c.push.new.self.items old number keys pushed within stored
    c.self.invariant.within in
    record {
      room = omega (arith, long, c.push.ensures.capacity, c.self.invariant.room, c.requires);
      room_of_commands = omega (arith, c.insert_full.ensures.spare, c.self.invariant.room_of_commands);
      within = after.within;
      answers = after.answers c.self.invariant.answers;
    }

pub returns-clause-made : goal.returns-clause-made
returns-clause-made c =
    let ks = c.self.inside.commands.keys in
    let old = c.self.inside.made.items in
    let number = c.unwrap-number.result.0 in
    let keys = at_ok c.insert_full.result c.unwrap-number.result _ c.unwrap-number.ensures c.insert_full.ensures.keys in
    let within =
    at_ok c.insert_full.result c.unwrap-number.result _ c.unwrap-number.ensures c.insert_full.ensures.within in
    let stored =
    at_ok c.insert_full.result c.unwrap-number.result _ c.unwrap-number.ensures c.insert_full.ensures.stored in
    let pushed : c.push.new.self.items ≡ old ++ number ∷ [] = c.push.ensures.items ∙ rw c.unwrap.ensures refl in
    (put_in ks c.insert_full.new.self.keys c.args.command c.push.new.self.items old number keys pushed within stored
    c.self.invariant.within).listed
    ∙ ap (λ (s : IssuedList). s.commands ++ issued_of c.args.command ∷ []) c.self.view_is
