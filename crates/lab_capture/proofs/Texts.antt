-- The records of frames, one after another.
use Rattle.std.proofs.Common.{◌≡◌, ℕ, suc, ◌+◌, List, [], ◌∷◌, ◌++◌, length, map, Option, Some, sym, ap, ◌∙◌}
use Rattle.std.proofs.Common.{append_assoc}
use Rattle.std.proofs.Common.{append-nil, arith}
use Rattle.std.specs.List.{flat_map}
use Rattle.std.proofs.lemmas.Grind.{flat_map-append}
use Rattle.std.proofs.lemmas.List.{map-append}
use Rattle.std.proofs.lemmas.List.Elements.{filter-append}
use Rattle.std.specs.Prelude.{filter}
use Rattle.sorted_lists.specs.Range.{numbers_from}
use Rattle.repo_holdings.proofs.ContentLemmas.{numbers_last}
use Rattle.group_model.specs.World.{World}
use Rattle.repo_member.specs.Groups.{GroupKeys}
use Rattle.script_lang.specs.Forms.{Stated}
use Rattle.script_lang.specs.Checking.{Declared}
use Rattle.script_story.specs.Evaluation.{State}
use Rattle.script_story.specs.Mirrors.{Mirroring}
use Rattle.lab_capture.specs.Frames.{mirror_parts}
use Rattle.lab_capture.specs.declared.station.Station.{Station}
use Rattle.lab_capture.specs.declared.station.Station.TheVariants.{Member}
use Rattle.lab_capture.specs.Replies.{line_replies, replies, replies_in}
use Rattle.lab_capture.specs.Captures.{Framed, frame_record}
use Rattle.lab_capture.specs.Frames.{Claimed, Known, fits, gains, frames_of, frames_text, line_frames, new_syncs}
use Rattle.lab_capture.specs.Frames.{packet_of, said, sent_if, sent_now, stated_in, want_frames}

pub text_joined : (a b : List Framed) → frames_text (a ++ b) ≡ frames_text a ++ frames_text b
text_joined a b = ap (flat_map frame_record) (filter-append fits a b)
    ∙ flat_map-append frame_record (filter fits a) (filter fits b)

-- the frames `a` were written, and then the frames `b`
pub text_goes_on : (old mid new : List ℕ) (a b : List Framed) → mid ≡ old ++ frames_text a → new ≡ mid ++ frames_text b
    → new ≡ old ++ frames_text (a ++ b)
text_goes_on old mid new a b first then =
    then ∙ ap (λ (t : List ℕ). t ++ frames_text b) first ∙ append_assoc old (frames_text a) (frames_text b)
    ∙ ap (λ (t : List ℕ). old ++ t) (sym (text_joined a b))

-- ---- the frames of numbers

pub none_yet : (f : ℕ → List Framed) (first : ℕ) (old : List ℕ)
    → old ≡ old ++ frames_text (flat_map f (numbers_from first 0))
none_yet f first old = sym (append-nil old)

pub one_more : (f : ℕ → List Framed) (first n k : ℕ) (old mid new : List ℕ) → k ≡ first + n
    → mid ≡ old ++ frames_text (flat_map f (numbers_from first n)) → new ≡ mid ++ frames_text (f k)
    → new ≡ old ++ frames_text (flat_map f (numbers_from first (n + 1)))
one_more f first n k old mid new is so_far more =
    let next : suc n ≡ n + 1 = omega arith in
    let last : flat_map f ((first + n) ∷ []) ≡ f k = append-nil (f (first + n)) ∙ ap f (sym is) in
    let all : flat_map f (numbers_from first n) ++ f k ≡ flat_map f (numbers_from first (n + 1)) =
    ap (λ (t : List Framed). flat_map f (numbers_from first n) ++ t) (sym last)
    ∙ sym (flat_map-append f (numbers_from first n) ((first + n) ∷ []))
    ∙ ap (flat_map f) (sym (numbers_last first n)) ∙ ap (λ (i : ℕ). flat_map f (numbers_from first i)) next in
    text_goes_on old mid new (flat_map f (numbers_from first n)) (f k) so_far more
    ∙ ap (λ (t : List Framed). old ++ frames_text t) all

pub mapped_more : {A B : Type 0} (f : A → B) (g : ℕ → B) (n : ℕ) (so_far now : List A) (x : A)
    → map f so_far ≡ map g (numbers_from 0 n) → f x ≡ g n → now ≡ so_far ++ x ∷ []
    → map f now ≡ map g (numbers_from 0 (n + 1))
mapped_more {A} {B} f g n so_far now x are is more =
    let last : 0 + n ≡ n = omega arith in
    let next : suc n ≡ n + 1 = omega arith in
    ap (map f) more ∙ map-append f so_far (x ∷ [])
    ∙ ap (λ (xs : List B). xs ++ f x ∷ []) are
    ∙ ap (λ (y : B). map g (numbers_from 0 n) ++ y ∷ []) (is ∙ ap g (sym last))
    ∙ sym (map-append g (numbers_from 0 n) ((0 + n) ∷ [])) ∙ ap (map g) (sym (numbers_last 0 n))
    ∙ ap (λ (k : ℕ). map g (numbers_from 0 k)) next

-- the frames of one more element of `left` were written, and those of `rest` are still to be written
pub passed_text : {A : Type 0} (f : A → List Framed) (left rest : List A) (x : A) (mid new whole : List ℕ)
    → left ≡ x ∷ rest → mid ++ frames_text (flat_map f left) ≡ whole → new ≡ mid ++ frames_text (f x)
    → new ++ frames_text (flat_map f rest) ≡ whole
passed_text {A} f left rest x mid new whole are all more =
    ap (λ (t : List ℕ). t ++ frames_text (flat_map f rest)) more
    ∙ append_assoc mid (frames_text (f x)) (frames_text (flat_map f rest))
    ∙ ap (λ (t : List ℕ). mid ++ t) (sym (text_joined (f x) (flat_map f rest)))
    ∙ ap (λ (xs : List A). mid ++ frames_text (flat_map f xs)) (sym are) ∙ all

pub passed_all : {A : Type 0} (f : A → List Framed) (left : List A) (mid whole : List ℕ) → left ≡ []
    → mid ++ frames_text (flat_map f left) ≡ whole → mid ≡ whole
passed_all {A} f left mid whole none all =
    sym (append-nil mid) ∙ ap (λ (xs : List A). mid ++ frames_text (flat_map f xs)) (sym none) ∙ all

-- ---- a want

pub want_text : (g : GroupKeys) (w : World) (c : Claimed) (old mid new : List ℕ) (asker asked : Station)
    (interest : List ℕ) (packet : Option (List ℕ)) → asker ≡ Member c.asker → asked ≡ Member c.asked
    → interest ≡ c.interest → packet ≡ packet_of g w c.asker c.part
    → mid ≡ old ++ frames_text (sent_now w asker asked interest ∷ [])
    → new ≡ mid ++ frames_text (sent_if w asked asker packet) → new ≡ old ++ frames_text (want_frames g w c)
want_text g w c old mid new asker asked interest packet is_asker is_asked is_interest is_packet first then =
    let all : Station → Station → List ℕ → Option (List ℕ) → List ℕ = λ a b i p.
    old ++ frames_text (sent_now w a b i ∷ sent_if w b a p) in
    text_goes_on old mid new (sent_now w asker asked interest ∷ []) (sent_if w asked asker packet) first then
    ∙ ap (λ (a : Station). all a asked interest packet) is_asker
    ∙ ap (λ (b : Station). all (Member c.asker) b interest packet) is_asked
    ∙ ap (λ (i : List ℕ). all (Member c.asker) (Member c.asked) i packet) is_interest
    ∙ ap (all (Member c.asker) (Member c.asked) c.interest) is_packet

-- ---- a line

-- the number of mirrors in the text may be `n` or `k`, which are equal
pub counted_text : (d : Declared) (g : GroupKeys) (w : World) (n k : ℕ) (stated : Option Stated) (old new rest : List ℕ)
    → n ≡ k → new ≡ old ++ (frames_text (said d g w n stated) ++ rest)
    → new ≡ old ++ (frames_text (said d g w k stated) ++ rest)
counted_text d g w n k stated old new rest same are =
    are ∙ ap (λ (i : ℕ). old ++ (frames_text (said d g w i stated) ++ rest)) same

pub taken_text : (s : State) (known : Known) (line : List ℕ) (d : Declared) (g : GroupKeys) (w : World)
    (ms : List Mirroring) (stated : Option Stated) (old new : List ℕ) → d ≡ s.declared → g ≡ s.keys
    → Some w ≡ s.world → ms ≡ s.mirrors → stated ≡ stated_in line
    → new ≡ old ++ (frames_text (said d g w (length ms) stated)
    ++ (frames_text (new_syncs g w known.sent) ++ (frames_text (gains g w known)
    ++ frames_text (flat_map (mirror_parts g w ms) known.mirrors))))
    → new ≡ old ++ frames_text (line_frames s known line)
taken_text s known line d g w ms stated old new is_declared is_keys is_world is_mirrors is_stated are =
    let came : GroupKeys → List Mirroring → List Framed = λ g ms.
    gains g w known ++ flat_map (mirror_parts g w ms) known.mirrors in
    let others : GroupKeys → List Mirroring → List Framed = λ g ms. new_syncs g w known.sent ++ came g ms in
    let frames : Declared → GroupKeys → List Mirroring → Option Stated → List Framed = λ d g ms x.
    said d g w (length ms) x ++ others g ms in
    let text : List Framed → List ℕ = λ fs. old ++ frames_text fs in
    are
    ∙ ap (λ (t : List ℕ). old ++ (frames_text (said d g w (length ms) stated)
    ++ (frames_text (new_syncs g w known.sent) ++ t)))
    (sym (text_joined (gains g w known) (flat_map (mirror_parts g w ms) known.mirrors)))
    ∙ ap (λ (t : List ℕ). old ++ (frames_text (said d g w (length ms) stated) ++ t))
    (sym (text_joined (new_syncs g w known.sent) (came g ms)))
    ∙ ap (λ (t : List ℕ). old ++ t) (sym (text_joined (said d g w (length ms) stated) (others g ms)))
    ∙ ap (λ (x : Declared). text (frames x g ms stated)) is_declared
    ∙ ap (λ (x : GroupKeys). text (frames s.declared x ms stated)) is_keys
    ∙ ap (λ (x : List Mirroring). text (frames s.declared s.keys x stated)) is_mirrors
    ∙ ap (λ (x : Option Stated). text (frames s.declared s.keys s.mirrors x)) is_stated
    ∙ ap (λ (x : Option World). text (frames_of s known line x)) is_world

pub replies_text : (s : State) (line report : List ℕ) (d : Declared) (g : GroupKeys) (w : World)
    (stated : Option Stated) (old new : List ℕ) → d ≡ s.declared → g ≡ s.keys → Some w ≡ s.world
    → stated ≡ stated_in line → new ≡ old ++ frames_text (replies d g w stated report)
    → new ≡ old ++ frames_text (line_replies s line report)
replies_text s line report d g w stated old new is_declared is_keys is_world is_stated are =
    let text : List Framed → List ℕ = λ fs. old ++ frames_text fs in
    are
    ∙ ap (λ (x : Declared). text (replies x g w stated report)) is_declared
    ∙ ap (λ (x : GroupKeys). text (replies s.declared x w stated report)) is_keys
    ∙ ap (λ (x : Option Stated). text (replies s.declared s.keys w x report)) is_stated
    ∙ ap (λ (x : Option World). text (replies_in s line report x)) is_world
