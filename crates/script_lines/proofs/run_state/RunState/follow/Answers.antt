use Rattle.std.proofs.Common.{◌≡◌, ◌∙◌, [], ◌∷◌, sym, ap, subst}
use Rattle.std.specs.Prelude.{OnOk, IfErr}
use Rattle.std.specs.String.{string_bytes}
use Rattle.script_lang.specs.Kinds.{Named, Number, Text}
use Rattle.script_lang.specs.Forms.{publisher_value, stated}
use Rattle.script_story.specs.Evaluation.{Verdict, env_by, accepted}
use Rattle.script_lines.specs.RunStates.{IsLineError, LineIsChecked, state_of_run}
use Rattle.script_lines.proofs.RunStateLemmas.{client_declared, declared_says, event_acts, grouped}
use Rattle.script_lines.proofs.RunStateLemmas.{is_event, member_declared}
use Rattle.script_lines.proofs.WatchLines.{announced_taken, watch_taken}
use Rattle.script_lines.proofs.MirrorLines.{fetched_taken, heard_taken, listed_taken, mirror_declared}
use Rattle.script_lines.proofs.run_state.RunState.follow.Goals as goal

pub declare_group-requires : goal.declare_group-requires
declare_group-requires g c =
    let one = grouped (env_by (g.D.Draws.draw c.args.draws.now) (g.N.Net.passes c.args.net.now))
    c.args.self.now (stated c.args.line) c.in-Group.name (ap stated c.in-Group.is) c.requires.checked in
    record { name = one.plain; group = one.group; early = one.early; declared = one.declared }

pub returns-in-Group-clause-taken : goal.returns-in-Group-clause-taken
returns-in-Group-clause-taken g c =
    let one = grouped (env_by (g.D.Draws.draw c.args.draws.now) (g.N.Net.passes c.args.net.now))
    c.args.self.now (stated c.args.line) c.in-Group.name (ap stated c.in-Group.is) c.requires.checked in
    declared_says c.declare_group.result _ c.args.report.now.items _ _ one.accepted c.requires.empty
    c.declare_group.ensures.state

pub declare_member-requires : goal.declare_member-requires
declare_member-requires g c =
    let one = member_declared (env_by (g.D.Draws.draw c.args.draws.now) (g.N.Net.passes c.args.net.now))
    c.args.self.now (stated c.args.line) (string_bytes c.in-Member.label) c.in-Member.name c.in-Member.key.items
    c.deref.result.now (ap stated c.in-Member.is) c.deref.ensures.value c.requires.checked in
    record { node = one.fits; early = one.early; few = one.few; declared = one.declared }

pub returns-in-Member-clause-taken : goal.returns-in-Member-clause-taken
returns-in-Member-clause-taken g c =
    let one = member_declared (env_by (g.D.Draws.draw c.args.draws.now) (g.N.Net.passes c.args.net.now))
    c.args.self.now (stated c.args.line) (string_bytes c.in-Member.label) c.in-Member.name c.in-Member.key.items
    c.deref.result.now (ap stated c.in-Member.is) c.deref.ensures.value c.requires.checked in
    declared_says c.declare_member.result _ c.args.report.now.items _ _ one.accepted c.requires.empty
    c.declare_member.ensures.state

pub declare_client-requires : goal.declare_client-requires
declare_client-requires g c =
    let one = client_declared (env_by (g.D.Draws.draw c.args.draws.now) (g.N.Net.passes c.args.net.now))
    c.args.self.now (stated c.args.line) (string_bytes c.in-Client._label) c.in-Client.name c.in-Client.key.items
    c.deref-in-Client.result.now (ap stated c.in-Client.is) c.deref-in-Client.ensures.value c.requires.checked in
    record { node = one.fits; early = one.early; few = one.few; declared = one.declared }

pub returns-in-Client-clause-taken : goal.returns-in-Client-clause-taken
returns-in-Client-clause-taken g c =
    let one = client_declared (env_by (g.D.Draws.draw c.args.draws.now) (g.N.Net.passes c.args.net.now))
    c.args.self.now (stated c.args.line) (string_bytes c.in-Client._label) c.in-Client.name c.in-Client.key.items
    c.deref-in-Client.result.now (ap stated c.in-Client.is) c.deref-in-Client.ensures.value c.requires.checked in
    declared_says c.declare_client.result _ c.args.report.now.items _ _ one.accepted c.requires.empty
    c.declare_client.ensures.state

pub act-requires-clause-states : goal.act-requires-clause-states
act-requires-clause-states g c κs within =
    let one = event_acts (env_by (g.D.Draws.draw c.args.draws.now) (g.N.Net.passes c.args.net.now)) c.args.self.now
    c.args.line (is_event c.args.line c.in_default.not-Group c.in_default.not-Member c.in_default.not-Client
    c.in_default.not-Watch c.in_default.not-Told c.in_default.not-Mirror c.in_default.not-Mdeliver
    c.in_default.not-Mfetch c.in_default.not-Mcatalogue) c.requires.checked in
    one.states

pub act-requires-clause-at : goal.act-requires-clause-at
act-requires-clause-at g c κs within =
    let one = event_acts (env_by (g.D.Draws.draw c.args.draws.now) (g.N.Net.passes c.args.net.now)) c.args.self.now
    c.args.line (is_event c.args.line c.in_default.not-Group c.in_default.not-Member c.in_default.not-Client
    c.in_default.not-Watch c.in_default.not-Told c.in_default.not-Mirror c.in_default.not-Mdeliver
    c.in_default.not-Mfetch c.in_default.not-Mcatalogue) c.requires.checked in
    one.at

pub returns-in_default-clause-taken : goal.returns-in_default-clause-taken
returns-in_default-clause-taken g c =
    let one = event_acts (env_by (g.D.Draws.draw c.args.draws.now) (g.N.Net.passes c.args.net.now)) c.args.self.now
    c.args.line (is_event c.args.line c.in_default.not-Group c.in_default.not-Member c.in_default.not-Client
    c.in_default.not-Watch c.in_default.not-Told c.in_default.not-Mirror c.in_default.not-Mdeliver
    c.in_default.not-Mfetch c.in_default.not-Mcatalogue) c.requires.checked in
    subst (λ (v : Verdict). OnOk c.act.result (v ≡ accepted c.act.new.report.items (state_of_run c.act.new.self)))
    (sym one.acts) c.act.ensures.taken

pub returns-in_default-clause-stopped : goal.returns-in_default-clause-stopped
returns-in_default-clause-stopped g c =
    let one = event_acts (env_by (g.D.Draws.draw c.args.draws.now) (g.N.Net.passes c.args.net.now)) c.args.self.now
    c.args.line (is_event c.args.line c.in_default.not-Group c.in_default.not-Member c.in_default.not-Client
    c.in_default.not-Watch c.in_default.not-Told c.in_default.not-Mirror c.in_default.not-Mdeliver
    c.in_default.not-Mfetch c.in_default.not-Mcatalogue) c.requires.checked in
    subst (λ (v : Verdict). IfErr c.act.result (IsLineError v)) (sym one.acts) c.act.ensures.stopped

pub watch-requires-clause-checked : goal.watch-requires-clause-checked
watch-requires-clause-checked g c =
    subst (LineIsChecked c.args.self.now) (ap stated c.in-Watch.is) c.requires.checked

pub returns-in-Watch-clause-taken : goal.returns-in-Watch-clause-taken
returns-in-Watch-clause-taken g c =
    subst (λ (v : Verdict). OnOk c.watch.result (v ≡ accepted c.watch.new.report.items (state_of_run c.watch.new.self)))
    (sym (watch_taken (env_by (g.D.Draws.draw c.args.draws.now) (g.N.Net.passes c.args.net.now))
    (state_of_run c.args.self.now) c.args.self.now.words (stated c.args.line)
    (Text (string_bytes c.in-Watch.m) ∷ publisher_value c.in-Watch.p ∷ Named c.in-Watch.name ∷ [])
    (ap stated c.in-Watch.is))) c.watch.ensures.taken

pub returns-in-Watch-clause-stopped : goal.returns-in-Watch-clause-stopped
returns-in-Watch-clause-stopped g c =
    subst (λ (v : Verdict). IfErr c.watch.result (IsLineError v))
    (sym (watch_taken (env_by (g.D.Draws.draw c.args.draws.now) (g.N.Net.passes c.args.net.now))
    (state_of_run c.args.self.now) c.args.self.now.words (stated c.args.line)
    (Text (string_bytes c.in-Watch.m) ∷ publisher_value c.in-Watch.p ∷ Named c.in-Watch.name ∷ [])
    (ap stated c.in-Watch.is))) c.watch.ensures.stopped

pub tell-requires-clause-checked : goal.tell-requires-clause-checked
tell-requires-clause-checked g c =
    subst (LineIsChecked c.args.self.now) (ap stated c.in-Told.is) c.requires.checked

pub returns-in-Told-clause-taken : goal.returns-in-Told-clause-taken
returns-in-Told-clause-taken g c =
    subst (λ (v : Verdict). OnOk c.tell.result (v ≡ accepted c.tell.new.report.items (state_of_run c.tell.new.self)))
    (sym (announced_taken (env_by (g.D.Draws.draw c.args.draws.now) (g.N.Net.passes c.args.net.now))
    (state_of_run c.args.self.now) c.args.self.now.words (stated c.args.line)
    (Text (string_bytes c.in-Told.m) ∷ Number c.in-Told.w ∷ [])
    (ap stated c.in-Told.is))) c.tell.ensures.taken

pub returns-in-Told-clause-stopped : goal.returns-in-Told-clause-stopped
returns-in-Told-clause-stopped g c =
    subst (λ (v : Verdict). IfErr c.tell.result (IsLineError v))
    (sym (announced_taken (env_by (g.D.Draws.draw c.args.draws.now) (g.N.Net.passes c.args.net.now))
    (state_of_run c.args.self.now) c.args.self.now.words (stated c.args.line)
    (Text (string_bytes c.in-Told.m) ∷ Number c.in-Told.w ∷ [])
    (ap stated c.in-Told.is))) c.tell.ensures.stopped

pub declare_mirror-requires : goal.declare_mirror-requires
declare_mirror-requires g c =
    let one = mirror_declared (env_by (g.D.Draws.draw c.args.draws.now) (g.N.Net.passes c.args.net.now))
    c.args.self.now (stated c.args.line) (string_bytes c.in-Mirror._label) (publisher_value c.in-Mirror.p)
    c.in-Mirror.name (ap stated c.in-Mirror.is) c.requires.checked in
    record { publisher = one.known; early = one.early; declared = one.declared }

pub returns-in-Mirror-clause-taken : goal.returns-in-Mirror-clause-taken
returns-in-Mirror-clause-taken g c =
    let one = mirror_declared (env_by (g.D.Draws.draw c.args.draws.now) (g.N.Net.passes c.args.net.now))
    c.args.self.now (stated c.args.line) (string_bytes c.in-Mirror._label) (publisher_value c.in-Mirror.p)
    c.in-Mirror.name (ap stated c.in-Mirror.is) c.requires.checked in
    declared_says c.declare_mirror.result _ c.args.report.now.items _ _ one.accepted c.requires.empty
    c.declare_mirror.ensures.state

pub mirror_hear-requires-clause-checked : goal.mirror_hear-requires-clause-checked
mirror_hear-requires-clause-checked g c =
    subst (LineIsChecked c.args.self.now) (ap stated c.in-Mdeliver.is) c.requires.checked

pub returns-in-Mdeliver-clause-taken : goal.returns-in-Mdeliver-clause-taken
returns-in-Mdeliver-clause-taken g c =
    subst (λ (v : Verdict). OnOk c.mirror_hear.result
    (v ≡ accepted c.mirror_hear.new.report.items (state_of_run c.mirror_hear.new.self)))
    (sym (heard_taken (env_by (g.D.Draws.draw c.args.draws.now) (g.N.Net.passes c.args.net.now))
    (state_of_run c.args.self.now) c.args.self.now.words (stated c.args.line)
    (Number c.in-Mdeliver.k ∷ Text (string_bytes c.in-Mdeliver.l) ∷ [])
    (ap stated c.in-Mdeliver.is))) c.mirror_hear.ensures.taken

pub returns-in-Mdeliver-clause-stopped : goal.returns-in-Mdeliver-clause-stopped
returns-in-Mdeliver-clause-stopped g c =
    subst (λ (v : Verdict). IfErr c.mirror_hear.result (IsLineError v))
    (sym (heard_taken (env_by (g.D.Draws.draw c.args.draws.now) (g.N.Net.passes c.args.net.now))
    (state_of_run c.args.self.now) c.args.self.now.words (stated c.args.line)
    (Number c.in-Mdeliver.k ∷ Text (string_bytes c.in-Mdeliver.l) ∷ [])
    (ap stated c.in-Mdeliver.is))) c.mirror_hear.ensures.stopped

pub mirror_fetch-requires-clause-checked : goal.mirror_fetch-requires-clause-checked
mirror_fetch-requires-clause-checked g c κs within =
    subst (LineIsChecked c.args.self.now) (ap stated c.in-Mfetch.is) c.requires.checked

pub returns-in-Mfetch-clause-taken : goal.returns-in-Mfetch-clause-taken
returns-in-Mfetch-clause-taken g c =
    subst (λ (v : Verdict). OnOk c.mirror_fetch.result
    (v ≡ accepted c.mirror_fetch.new.report.items (state_of_run c.mirror_fetch.new.self)))
    (sym (fetched_taken (env_by (g.D.Draws.draw c.args.draws.now) (g.N.Net.passes c.args.net.now))
    (state_of_run c.args.self.now) c.args.self.now.words (stated c.args.line)
    (Text (string_bytes c.in-Mfetch.l) ∷ Number c.in-Mfetch.workers ∷ Number c.in-Mfetch.tries
    ∷ Number c.in-Mfetch.loss ∷ [])
    (ap stated c.in-Mfetch.is))) c.mirror_fetch.ensures.taken

pub mirror_list-requires-clause-checked : goal.mirror_list-requires-clause-checked
mirror_list-requires-clause-checked g c =
    subst (LineIsChecked c.args.self.now) (ap stated c.in-Mcatalogue.is) c.requires.checked

pub returns-in-Mcatalogue-clause-taken : goal.returns-in-Mcatalogue-clause-taken
returns-in-Mcatalogue-clause-taken g c =
    subst (λ (v : Verdict). OnOk c.mirror_list.result
    (v ≡ accepted c.mirror_list.new.report.items (state_of_run c.mirror_list.new.self)))
    (sym (listed_taken (env_by (g.D.Draws.draw c.args.draws.now) (g.N.Net.passes c.args.net.now))
    (state_of_run c.args.self.now) c.args.self.now.words (stated c.args.line)
    (Text (string_bytes c.in-Mcatalogue.l) ∷ [])
    (ap stated c.in-Mcatalogue.is))) c.mirror_list.ensures.taken
