-- Captures of frames: how they are read on, and that their frames are the only ones.
use Rattle.std.proofs.Common.{◌≡◌, ◌<◌, ℕ, List, [], ◌++◌, ◌∷◌, length, map, take, drop, arith, ap, refl, sym, ◌∙◌}
use Rattle.std.specs.Prelude.{false, not, bytes_eq, Option, Some, None, unwrap_or}
use Rattle.std.specs.List.{All, flat_map}
use Rattle.std.proofs.lemmas.Bool.{not-false}
use Rattle.std.proofs.lemmas.List.Concat.{flat_map-cons}
use Rattle.std.proofs.lemmas.List.{append_assoc, append-nil, flat_map_more, map-append, take-append-drop}
use Rattle.std.proofs.lemmas.List.Elements.{All-head, All-push, All-tail}
use Rattle.std.proofs.lemmas.Slice.Eq.{bytes_eq-Decides}
use Rattle.lab_capture.specs.declared.frame.Frame.{Frame}
use Rattle.lab_capture.specs.Captures.{Framed, IsFrame, IsNoCapture, capture_head, capture_octets, frame_record, framed}
use Rattle.lab_capture.specs.Reading.{first_frame}
use Rattle.lab_capture.proofs.Records.{first_again}

-- The records of frames.
abbrev pub records : List Framed → List ℕ
records frames = flat_map frame_record frames

-- ---- reading on

-- The head is read, and no frame yet.
pub begun : (octets rest : List ℕ) → take 24 octets ≡ capture_head → rest ≡ drop 24 octets
    → octets ≡ capture_head ++ rest
begun octets rest head others =
    sym (take-append-drop 24 octets)
    ∙ ap (λ (xs : List ℕ). xs ++ drop 24 octets) head
    ∙ ap (λ (xs : List ℕ). capture_head ++ xs) (sym others)

pub head_is : (head : List ℕ) → not (bytes_eq head capture_head) ≡ false → head ≡ capture_head
head_is head same = (bytes_eq-Decides head capture_head).0 (not-false (bytes_eq head capture_head) same)

one_more : (frames : List Frame) (frame : Frame)
    → records (map framed frames) ++ frame_record (framed frame) ≡ records (map framed (frames ++ frame ∷ []))
one_more frames frame =
    flat_map_more frame_record [] (map framed frames) (framed frame)
    ∙ ap records (sym (map-append framed frames (frame ∷ [])))

-- One more frame is read.
pub read_on : (octets rest others : List ℕ) (frames : List Frame) (frame : Frame)
    → octets ≡ capture_head ++ (records (map framed frames) ++ rest)
    → rest ≡ frame_record (framed frame) ++ others
    → octets ≡ capture_head ++ (records (map framed (frames ++ frame ∷ [])) ++ others)
read_on octets rest others frames frame so_far next =
    let same : records (map framed frames) ++ rest ≡ records (map framed (frames ++ frame ∷ [])) ++ others =
    ap (λ (xs : List ℕ). records (map framed frames) ++ xs) next
    ∙ sym (append_assoc (records (map framed frames)) (frame_record (framed frame)) others)
    ∙ ap (λ (xs : List ℕ). xs ++ others) (one_more frames frame) in
    so_far ∙ ap (λ (xs : List ℕ). capture_head ++ xs) same

pub frames_on : (frames : List Frame) (frame : Frame) → All IsFrame (map framed frames) → IsFrame (framed frame)
    → All IsFrame (map framed (frames ++ frame ∷ []))
frames_on frames frame all is =
    rw (map-append framed frames (frame ∷ [])) (All-push IsFrame (map framed frames) (framed frame) all is)

-- All frames are read.
pub read_whole : (octets rest : List ℕ) (frames : List Framed) → octets ≡ capture_head ++ (records frames ++ rest)
    → rest ≡ [] → octets ≡ capture_octets frames
read_whole octets rest frames so_far empty =
    so_far
    ∙ ap (λ (xs : List ℕ). capture_head ++ (records frames ++ xs)) empty
    ∙ ap (λ (xs : List ℕ). capture_head ++ xs) (append-nil (records frames))

-- ---- what follows the head

first : (f g : Framed) (r s : List ℕ) → ◌≡◌ {A = Option (Framed × List ℕ)} (Some (f, r)) (Some (g, s)) → f ≡ g
first f g r s e = ap (λ (o : Option (Framed × List ℕ)). (unwrap_or o (f, r)).0) e

second : (f g : Framed) (r s : List ℕ) → ◌≡◌ {A = Option (Framed × List ℕ)} (Some (f, r)) (Some (g, s)) → r ≡ s
second f g r s e = ap (λ (o : Option (Framed × List ℕ)). (unwrap_or o (f, r)).1) e

nothing_there : (x : Framed × List ℕ) → ◌≡◌ {A = Option (Framed × List ℕ)} None (Some x) → ⊥
nothing_there x e = cc

-- Two records that begin the same octets are read alike.
both : (f g : Framed) (r s : List ℕ) → IsFrame f → IsFrame g → frame_record f ++ r ≡ frame_record g ++ s
    → ◌≡◌ {A = Option (Framed × List ℕ)} (Some (f, r)) (Some (g, s))
both f g r s is_f is_g e = sym (first_again f r is_f) ∙ ap first_frame e ∙ first_again g s is_g

some_octets : (f : Framed) (rest : List ℕ) → frame_record f ++ rest ≡ [] → ⊥
some_octets f rest e = cc

-- The first record stands before the others, and what follows them.
first_before : (f : Framed) (fs : List Framed) (rest : List ℕ)
    → records (f ∷ fs) ++ rest ≡ frame_record f ++ (records fs ++ rest)
first_before f fs rest =
    ap (λ (xs : List ℕ). xs ++ rest) (flat_map-cons frame_record f fs)
    ∙ append_assoc (frame_record f) (records fs) rest

no_records : (fs gs : List Framed) (rest : List ℕ) → All IsFrame fs → All IsFrame gs → records fs ++ rest ≡ records gs
    → first_frame rest ≡ None → 0 < length rest → ⊥
no_records [] [] rest all_f all_g e none some = omega (arith, some, ap length e)
no_records [] (g ∷ gs) rest all_f all_g e none some =
    nothing_there (g, records gs)
    (sym none ∙ ap first_frame (e ∙ flat_map-cons frame_record g gs)
    ∙ first_again g (records gs) (All-head IsFrame g gs all_g))
no_records (f ∷ fs) [] rest all_f all_g e none some =
    some_octets f (records fs ++ rest) (sym (first_before f fs rest) ∙ e)
no_records (f ∷ fs) (g ∷ gs) rest all_f all_g e none some =
    no_records fs gs rest (All-tail IsFrame f fs all_f) (All-tail IsFrame g gs all_g)
    (second f g (records fs ++ rest) (records gs)
    (both f g (records fs ++ rest) (records gs) (All-head IsFrame f fs all_f) (All-head IsFrame g gs all_g)
    (sym (first_before f fs rest) ∙ e ∙ flat_map-cons frame_record g gs)))
    none some

same_records : (fs gs : List Framed) → All IsFrame fs → All IsFrame gs → records fs ≡ records gs → fs ≡ gs
same_records [] [] all_f all_g e = refl
same_records [] (g ∷ gs) all_f all_g e =
    absurd (some_octets g (records gs) (sym (flat_map-cons frame_record g gs) ∙ sym e))
same_records (f ∷ fs) [] all_f all_g e =
    absurd (some_octets f (records fs) (sym (flat_map-cons frame_record f fs) ∙ e))
same_records (f ∷ fs) (g ∷ gs) all_f all_g e =
    let read = both f g (records fs) (records gs) (All-head IsFrame f fs all_f) (All-head IsFrame g gs all_g)
    (sym (flat_map-cons frame_record f fs) ∙ e ∙ flat_map-cons frame_record g gs) in
    let others : fs ≡ gs =
    same_records fs gs (All-tail IsFrame f fs all_f) (All-tail IsFrame g gs all_g)
    (second f g (records fs) (records gs) read) in
    ap (λ (x : Framed). x ∷ fs) (first f g (records fs) (records gs) read) ∙ ap (λ (xs : List Framed). g ∷ xs) others

-- ---- captures

after_head : (xs ys : List ℕ) → capture_head ++ xs ≡ capture_head ++ ys → xs ≡ ys
after_head xs ys e = ap (drop 24) e

pub same_frames : (fs gs : List Framed) → All IsFrame fs → All IsFrame gs → capture_octets fs ≡ capture_octets gs
    → fs ≡ gs
same_frames fs gs all_f all_g e = same_records fs gs all_f all_g (after_head (records fs) (records gs) e)

-- Octets in which something follows frames that no frame's record begins are no capture.
pub no_capture : (octets rest : List ℕ) (frames : List Framed) → octets ≡ capture_head ++ (records frames ++ rest)
    → All IsFrame frames → first_frame rest ≡ None → 0 < length rest → IsNoCapture octets
no_capture octets rest frames so_far all none some others all_others e =
    no_records frames others rest all all_others
    (after_head (records frames ++ rest) (records others) (sym so_far ∙ e)) none some
