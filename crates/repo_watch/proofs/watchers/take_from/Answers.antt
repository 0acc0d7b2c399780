use Rattle.std.proofs.Common.{◌∙◌, Option, set, sym, ap}
use Rattle.repo_watch.specs.Watching.{Watching, news_of}
use Rattle.repo_watch.proofs.Places.{watch_found, taken_found, some_none}
use Rattle.repo_watch.proofs.watchers.take_from.Goals as goal

pub returns-in_default-take-clause-missing : goal.returns-in_default-take-clause-missing
returns-in_default-take-clause-missing g c =
    let there =
    watch_found c.args.list.now c.args.w c.in-Some.place c.index-list-place.result c.in-Some.ensures.there.0
    c.in-Some.ensures.there.1 in
    (λ e. absurd cc, λ n. absurd (some_none _ (sym there ∙ n)))

pub returns-clause-missing : goal.returns-clause-missing
returns-clause-missing g c =
    let there =
    watch_found c.args.list.now c.args.w c.in-Some.place c.index-list-place.result c.in-Some.ensures.there.0
    c.in-Some.ensures.there.1 in
    (λ e. absurd cc, λ n. absurd (some_none _ (sym there ∙ n)))

pub returns-clause-news : goal.returns-clause-news
returns-clause-news g c =
    let d = c.index-list-place.result in
    let there =
    watch_found c.args.list.now c.args.w c.in-Some.place d c.in-Some.ensures.there.0 c.in-Some.ensures.there.1 in
    c.in-Ok.ensures.news
    ∙ ap (λ (o : Option Watching). news_of o c.args.catalogue.now.entries) (sym there)

pub returns-clause-ok : goal.returns-clause-ok
returns-clause-ok g c =
    let d = c.index-list-place.result in
    ap (set c.args.list.now c.in-Some.place)
    c.in-Ok.ensures.ok
    ∙ sym (taken_found c.args.list.now c.args.w c.in-Some.place c.args.catalogue.now.entries d
    c.in-Some.ensures.there.0 c.in-Some.ensures.there.1)
