use Rattle.std.proofs.Common.{rules, ◌++◌, codes}
use Rattle.std.proofs.KnownBytes.{Appends-trans}
use Rattle.repo_top.specs.Generator.{gen_text, member_text, object_text, texts}
use Rattle.repo_io.proofs.Outputs.{prefix_as, prefix_after, prefix_whole}
use Rattle.repo_top.proofs.Scripts.{first_prefix, fourth_prefix, second_prefix, third_prefix}
use Rattle.repo_top.proofs.generator.write_script.Goals as goal

pub returns-in_err-write_line-clause-prefix : goal.returns-in_err-write_line-clause-prefix
unfolding gen_text
returns-in_err-write_line-clause-prefix g c =
    let a = g.K.Sink.out c.args.sink.now in
    let members = texts member_text c.args.measures.members in
    let objects = texts (object_text c.args.measures.members c.args.measures.seed) c.args.measures.objects in
    let first = codes "group /g\n" in
    let fourth = codes "settle 4\n" in
    let fifth = codes "summary\n" in
    let b = g.K.Sink.out c.write_line.new.sink in
    prefix_as a b (gen_text c.args.measures) (λ e. search rules)
    (first_prefix a b first members objects fourth fifth c.write_line.ensures.prefix)

pub returns-in_err-write_members-clause-prefix : goal.returns-in_err-write_members-clause-prefix
unfolding gen_text
returns-in_err-write_members-clause-prefix g c =
    let a = g.K.Sink.out c.args.sink.now in
    let members = texts member_text c.args.measures.members in
    let objects = texts (object_text c.args.measures.members c.args.measures.seed) c.args.measures.objects in
    let first = codes "group /g\n" in
    let fourth = codes "settle 4\n" in
    let fifth = codes "summary\n" in
    let b = g.K.Sink.out c.write_line.new.sink in
    let d = g.K.Sink.out c.write_members.new.sink in
    prefix_as a d (gen_text c.args.measures) (λ e. search rules) (second_prefix a d first members objects fourth fifth
    (prefix_after a b d first members c.in_ok-write_line.ensures.whole c.write_members.ensures.prefix))

pub returns-in_err-write_objects-clause-prefix : goal.returns-in_err-write_objects-clause-prefix
unfolding gen_text
returns-in_err-write_objects-clause-prefix g c =
    let a = g.K.Sink.out c.args.sink.now in
    let members = texts member_text c.args.measures.members in
    let objects = texts (object_text c.args.measures.members c.args.measures.seed) c.args.measures.objects in
    let first = codes "group /g\n" in
    let fourth = codes "settle 4\n" in
    let fifth = codes "summary\n" in
    let b = g.K.Sink.out c.write_line.new.sink in
    let d = g.K.Sink.out c.write_members.new.sink in
    let two = Appends-trans a b d first members c.in_ok-write_line.ensures.whole c.in_ok-write_members.ensures.whole in
    let e = g.K.Sink.out c.write_objects.new.sink in
    prefix_as a e (gen_text c.args.measures) (λ e. search rules) (third_prefix a e first members objects fourth fifth
    (prefix_after a d e (first ++ members) objects two c.write_objects.ensures.prefix))

pub returns-in_err-write_line-2-clause-prefix : goal.returns-in_err-write_line-2-clause-prefix
unfolding gen_text
returns-in_err-write_line-2-clause-prefix g c =
    let a = g.K.Sink.out c.args.sink.now in
    let members = texts member_text c.args.measures.members in
    let objects = texts (object_text c.args.measures.members c.args.measures.seed) c.args.measures.objects in
    let first = codes "group /g\n" in
    let fourth = codes "settle 4\n" in
    let fifth = codes "summary\n" in
    let b = g.K.Sink.out c.write_line.new.sink in
    let d = g.K.Sink.out c.write_members.new.sink in
    let two = Appends-trans a b d first members c.in_ok-write_line.ensures.whole c.in_ok-write_members.ensures.whole in
    let e = g.K.Sink.out c.write_objects.new.sink in
    let three = Appends-trans a d e (first ++ members) objects two c.in_ok-write_objects.ensures.whole in
    let f = g.K.Sink.out c.write_line-2.new.sink in
    prefix_as a f (gen_text c.args.measures) (λ e. search rules) (fourth_prefix a f first members objects fourth fifth
    (prefix_after a e f (first ++ members ++ objects) fourth three c.write_line-2.ensures.prefix))

pub returns-in_err-write_line-3-clause-prefix : goal.returns-in_err-write_line-3-clause-prefix
unfolding gen_text
returns-in_err-write_line-3-clause-prefix g c =
    let a = g.K.Sink.out c.args.sink.now in
    let members = texts member_text c.args.measures.members in
    let objects = texts (object_text c.args.measures.members c.args.measures.seed) c.args.measures.objects in
    let first = codes "group /g\n" in
    let fourth = codes "settle 4\n" in
    let fifth = codes "summary\n" in
    let b = g.K.Sink.out c.write_line.new.sink in
    let d = g.K.Sink.out c.write_members.new.sink in
    let two = Appends-trans a b d first members c.in_ok-write_line.ensures.whole c.in_ok-write_members.ensures.whole in
    let e = g.K.Sink.out c.write_objects.new.sink in
    let three = Appends-trans a d e (first ++ members) objects two c.in_ok-write_objects.ensures.whole in
    let f = g.K.Sink.out c.write_line-2.new.sink in
    let four = Appends-trans a e f (first ++ members ++ objects) fourth three c.in_ok-write_line-2.ensures.whole in
    let h = g.K.Sink.out c.write_line-3.new.sink in
    prefix_as a h (gen_text c.args.measures) (λ e. search rules)
    (prefix_after a f h (first ++ members ++ objects ++ fourth) fifth four c.write_line-3.ensures.prefix)

pub returns-clause-whole : goal.returns-clause-whole
unfolding gen_text
returns-clause-whole g c =
    let a = g.K.Sink.out c.args.sink.now in
    let members = texts member_text c.args.measures.members in
    let objects = texts (object_text c.args.measures.members c.args.measures.seed) c.args.measures.objects in
    let first = codes "group /g\n" in
    let fourth = codes "settle 4\n" in
    let fifth = codes "summary\n" in
    let b = g.K.Sink.out c.write_line.new.sink in
    let d = g.K.Sink.out c.write_members.new.sink in
    let two = Appends-trans a b d first members c.in_ok-write_line.ensures.whole c.in_ok-write_members.ensures.whole in
    let e = g.K.Sink.out c.write_objects.new.sink in
    let three = Appends-trans a d e (first ++ members) objects two c.in_ok-write_objects.ensures.whole in
    let f = g.K.Sink.out c.write_line-2.new.sink in
    let four = Appends-trans a e f (first ++ members ++ objects) fourth three c.in_ok-write_line-2.ensures.whole in
    let h = g.K.Sink.out c.write_line-3.new.sink in
    Appends-trans a f h (first ++ members ++ objects ++ fourth) fifth four c.in_ok-write_line-3.ensures.whole

pub returns-clause-prefix : goal.returns-clause-prefix
returns-clause-prefix g c =
    prefix_whole (g.K.Sink.out c.args.sink.now) (g.K.Sink.out c.write_line-3.new.sink) (gen_text c.args.measures)
    (λ e. search rules) (returns-clause-whole g c)
