use Rattle.std.proofs.Common.{refl}
use Rattle.live_settle.proofs.Passes.{heard_itself, heard_at}
use Rattle.live_settle.proofs.Hearings.{hears_report}
use Rattle.live_settle.proofs.hearing.hear_one.Goals as goal

pub returns-then-p-j : goal.returns-then-p-j
returns-then-p-j g c = record {
  hears = heard_itself g.L.Lists.meaning c.args.lives.now c.args.j c.args.p c.requires.ready c.requires.there
      c.if-p-j.true c.requires.knows;
  heard = record { heard = λ differs. absurd (differs c.if-p-j.true); itself = λ same. refl };
}

pub returns : goal.returns
returns g c = record {
  hears = heard_at g.L.Lists.meaning c.args.lives.now c.args.j c.args.p c.index-lives-j.result c.index-lives-p.result
      c.hear.new.self c.in_ok-told.told c.in_ok-hear.field-0 c.requires.ready c.requires.there c.requires.other
      c.requires.room c.requires.knows c.in_ok-told.ensures c.in_ok-hear.ensures;
  heard = record {
    heard = λ differs. hears_report g.L.Lists.meaning c.args.lives.now c.args.j c.args.p c.index-lives-j.result
        c.index-lives-p.result c.hear.new.self c.in_ok-told.told c.in_ok-hear.field-0 c.requires.there
        c.requires.other c.requires.room c.in_ok-told.ensures c.in_ok-hear.ensures;
    itself = λ same. absurd (c.if-p-j.false same);
  };
}
