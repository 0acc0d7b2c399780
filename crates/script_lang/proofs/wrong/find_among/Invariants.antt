use Rattle.std.proofs.Common.{◌≡◌, ◌+◌, map, length}
use Rattle.script_lang.specs.WordPlaces.{place_kind}
use Rattle.script_lang.specs.WrongWords.{wrong_from}
use Rattle.script_lang.proofs.wrong.find_among.Given as goal

abbrev pub invariant-loop-rest : goal.invariant-loop-rest
invariant-loop-rest l =
    (wrong_from l.fault l.verb l.place (map place_kind l.rest) (map (λ word. word.now) l.left)
    ≡ wrong_from l.fault l.verb 0 (map place_kind l.places) (map (λ word. word.now) l.words))
    × (l.place + length l.rest ≡ length l.places)

abbrev pub decreases-loop-rest : goal.decreases-loop-rest
decreases-loop-rest l = length l.rest
