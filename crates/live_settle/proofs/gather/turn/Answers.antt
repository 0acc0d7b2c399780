use Rattle.std.proofs.Common.{◌≡◌, ◌∙◌, ap, sym, subst, arith, Option}
use Rattle.std.specs.Prelude.{IfSome}
use Rattle.std.specs.Option.{option_map}
use Rattle.std.proofs.lemmas.List.{length-set}
use Rattle.live_member.specs.Reports.{Loan}
use Rattle.live_settle.proofs.Passes.{joins_at, publisher_in, never_none, turned_at}
use Rattle.live_settle.proofs.gather.turn.Goals as goal

pub returns-in_default : goal.returns-in_default
returns-in_default g c =
    let can = c.requires.can in
    let both = joins_at g.L.Lists.meaning c.args.lives.now c.args.j c.index-lives-j.result c.claim.new.self
    c.in_ok-part.field-0 can.ready can.there can.gathering c.requires.room c.in_ok-part.ensures
    c.in_default.not-Claimed in
    record { turned = both.0; entries = both.1 }

pub bounds-lives-part : goal.bounds-lives-part
bounds-lives-part g c =
    let can = c.requires.can in
    let inside = publisher_in g.L.Lists.meaning c.args.lives.now c.args.j c.index-lives-j.result c.claim.new.self
    c.in_ok-part.field-0 can.ready can.there can.gathering c.requires.room c.in_ok-part.ensures
    c.in-Claimed.part c.in-Claimed.is in
    omega (arith, inside, length-set c.args.lives.now c.args.j c.claim.new.self)

pub returns-in_default-2 : goal.returns-in_default-2
returns-in_default-2 g c =
    let can = c.requires.can in
    absurd (never_none g.L.Lists.meaning c.args.lives.now c.args.j c.index-lives-j.result c.claim.new.self
    c.in_ok-part.field-0 can.ready can.there can.gathering c.requires.room c.in_ok-part.ensures
    c.in-Claimed.part c.in-Claimed.is c.index-lives-part.result
    (sym c.in_ok-lent.ensures.own ∙ ap (option_map (λ (l : Loan). l.octets)) c.in_default-2.is))

pub returns-in_ok-accept : goal.returns-in_ok-accept
returns-in_ok-accept g c =
    let can = c.requires.can in
    let both = turned_at g.L.Lists.meaning c.args.lives.now c.args.j c.index-lives-j.result c.claim.new.self
    c.in_ok-part.field-0 can.ready can.there can.gathering c.requires.room c.in_ok-part.ensures
    c.in-Claimed.part c.in-Claimed.is c.index-lives-part.result c.index-lives-j-in-Some.result c.accept.new.self
    c.in_ok-accept.field-0 c.in-Some.lent
    (subst (λ (o : Option Loan). IfSome o (λ l. l.part ≡ c.in-Claimed.part)) c.in-Some.is c.in_ok-lent.ensures.part)
    (sym c.in_ok-lent.ensures.own ∙ ap (option_map (λ (l : Loan). l.octets)) c.in-Some.is)
    c.in_ok-accept.ensures in
    record { turned = both.0; entries = both.1 }
