use Rattle.std.proofs.Common.{◌≡◌, ◌∙◌, ◌++◌, ℕ, List, length, map, get_or, ap, arith}
use Rattle.std.specs.String.{string_bytes}
use Rattle.repo_catalog.specs.declared.entry.Entry.{Entry}
use Rattle.repo_watch.specs.Watching.{Watching, watch_of}
use Rattle.group_model.specs.World.{catalogue_at}
use Rattle.bench_world.specs.Worlds.{world_of}
use Rattle.script_story.specs.ReportTexts.{news_in, news_text}
use Rattle.script_lines.proofs.WatchLines.{all_there, copies_are, publishers_are, same_at}
use Rattle.script_lines.proofs.run_state.watching.tell_news.Goals as goal

pub entries_of-requires : goal.entries_of-requires
entries_of-requires c =
    let are = c.catalogue-catalogue.ensures ∙ c.member.ensures.catalogue in
    all_there c.args.world.now c.args.m c.catalogue-catalogue.result.now.entries are
    (watch_of c.args.number (get_or c.args.watchers.now c.args.m c.index-watchers-m.result)) c.deref.result.now
    (c.deref.ensures.value ∙ c.in_ok-pairs.ensures.news)

pub put_news-requires-clause-publishers : goal.put_news-requires-clause-publishers
put_news-requires-clause-publishers c =
    let o = watch_of c.args.number (get_or c.args.watchers.now c.args.m c.index-watchers-m.result) in
    let are = c.catalogue-catalogue.ensures ∙ c.member.ensures.catalogue in
    publishers_are c.args.world.now c.args.m c.catalogue-catalogue.result.now.entries are (length c.args.labels.now) o
    c.deref-2.result.now c.cite_soundness.ensures.names c.cite_soundness.ensures.sound c.requires.labels
    (omega (arith, c.requires.there, c.requires.each))
    (c.deref-2.ensures.value ∙ copies_are c.args.world.now c.args.m c.catalogue-catalogue.result.now.entries are o
    c.in_ok-entries.entries.items c.deref.result.now (c.deref.ensures.value ∙ c.in_ok-pairs.ensures.news)
    c.in_ok-entries.ensures)

pub returns-clause-report : goal.returns-clause-report
returns-clause-report c =
    let o = watch_of c.args.number (get_or c.args.watchers.now c.args.m c.index-watchers-m.result) in
    let are = c.catalogue-catalogue.ensures ∙ c.member.ensures.catalogue in
    let entries = catalogue_at (world_of c.args.world.now) c.args.m in
    let copied : c.deref-2.result.now ≡ news_in o entries =
    c.deref-2.ensures.value ∙ copies_are c.args.world.now c.args.m c.catalogue-catalogue.result.now.entries are o
    c.in_ok-entries.entries.items c.deref.result.now (c.deref.ensures.value ∙ c.in_ok-pairs.ensures.news)
    c.in_ok-entries.ensures in
    c.in_ok-put_news.ensures
    ∙ ap (λ (old : List ℕ). old ++ news_text (map string_bytes c.args.labels.now) c.args.m c.args.number
    c.deref-2.result.now) c.requires.empty
    ∙ ap (λ (es : List Entry). news_text (map string_bytes c.args.labels.now) c.args.m c.args.number es) copied
    ∙ ap (λ (ws : List Watching). news_text (map string_bytes c.args.labels.now) c.args.m c.args.number
    (news_in (watch_of c.args.number ws) entries)) (same_at c.args.watchers.now c.args.m c.index-watchers-m.result
    c.requires.there)
