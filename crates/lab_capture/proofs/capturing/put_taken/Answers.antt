use Rattle.std.proofs.Common.{length, map, sym}
use Rattle.std.proofs.lemmas.List.{length-map}
use Rattle.std.proofs.lemmas.Result.{on_ok_weaker}
use Rattle.std.specs.Option.{option_map}
use Rattle.script_lang.specs.Forms.{stated}
use Rattle.script_lines.specs.Scripts.{reached}
use Rattle.script_story.specs.Mirrors.{mirror_as}
use Rattle.bench_world.specs.Worlds.{world_of}
use Rattle.lab_capture.specs.Capturings.{known_as}
use Rattle.lab_capture.specs.Frames.{line_frames}
use Rattle.lab_capture.specs.Replies.{line_replies}
use Rattle.lab_capture.proofs.Texts.{counted_text, replies_text, taken_text, text_goes_on}
use Rattle.lab_capture.proofs.capturing.put_taken.Goals as goal

pub returns-in_ok-put_replies-in-Some : goal.returns-in_ok-put_replies-in-Some
returns-in_ok-put_replies-in-Some c =
    let s = (reached c.args.script.now).state in
    let known = known_as c.args.known.now in
    let mirrors = c.in-Some.world.now.mirrors in
    let keys = c.in-Some.world.now.keys in
    let world = world_of c.in-Some.world.now in
    let read = option_map stated c.in_ok-stated-in-Some.stated in
    let mid = c.put_replies.new.out.items in
    on_ok_weaker c.put_frames.result (λ are.
    text_goes_on c.args.text.now.items mid c.put_frames.new.out.items
    (line_replies s c.args.line.now c.args.report.now) (line_frames s known c.args.line.now)
    (replies_text s c.args.line.now c.args.report.now c.words-words.result.now keys world read c.args.text.now.items mid
    c.words-words.ensures c.in-Some.ensures.keys c.in-Some.ensures.world c.in_ok-stated-in-Some.ensures
    c.in_ok-put_replies-in-Some.ensures)
    (taken_text s known c.args.line.now c.words-words.result.now keys world (map mirror_as mirrors) read mid
    c.put_frames.new.out.items
    c.words-words.ensures c.in-Some.ensures.keys c.in-Some.ensures.world c.in-Some.ensures.mirrors
    c.in_ok-stated-in-Some.ensures
    (counted_text c.words-words.result.now keys world (length mirrors) (length (map mirror_as mirrors)) read mid
    c.put_frames.new.out.items _ (sym (length-map mirrors mirror_as)) are)))
    c.put_frames.ensures
