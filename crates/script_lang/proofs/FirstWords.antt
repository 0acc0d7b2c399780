-- The first words of lines.
use Rattle.std.proofs.Common.{◌≡◌, ℕ, Bool, true, false, List, [], ◌∷◌, ◌++◌, map, Some, if◌then◌else◌, refl, sym, ap}
use Rattle.std.proofs.Common.{◌∙◌, arith}
use Rattle.std.specs.Str.{bytes_eq}
use Rattle.ndn_name.proofs.Heads.{is_word}
use Rattle.script_lang.specs.declared.verb.Verb.{Verb}
use Rattle.script_lang.specs.declared.verb.Verb.TheVariants.{Group, Member, Client, Mirror, Publish, Withdraw}
use Rattle.script_lang.specs.declared.verb.Verb.TheVariants.{Deliver, Sync, Advance, Fire, Restart, Vector, Catalogue}
use Rattle.script_lang.specs.declared.verb.Verb.TheVariants.{Claim, Lose, Answer, Fetch, Settle, Dump, Hear, Order, Ask}
use Rattle.script_lang.specs.declared.verb.Verb.TheVariants.{Feed, Insert, Block, Status, Delete, Watch, Told, Mdeliver}
use Rattle.script_lang.specs.declared.verb.Verb.TheVariants.{Mfetch, Mcatalogue, Summary, Traffic}
use Rattle.script_lang.specs.Forms.{form}
use Rattle.script_lang.specs.Lines.{verb_named, verb_of_word, verbs, says_nothing}
use Rattle.script_lang.specs.Texts.{IsWord}

pub verb_back : (verb : Verb) → verb_of_word (form verb).word ≡ Some verb
unfolding verb_named
verb_back Group = refl
verb_back Member = refl
verb_back Client = refl
verb_back Mirror = refl
verb_back Publish = refl
verb_back Withdraw = refl
verb_back Deliver = refl
verb_back Sync = refl
verb_back Advance = refl
verb_back Fire = refl
verb_back Restart = refl
verb_back Vector = refl
verb_back Catalogue = refl
verb_back Claim = refl
verb_back Lose = refl
verb_back Answer = refl
verb_back Fetch = refl
verb_back Settle = refl
verb_back Dump = refl
verb_back Hear = refl
verb_back Order = refl
verb_back Ask = refl
verb_back Feed = refl
verb_back Insert = refl
verb_back Block = refl
verb_back Status = refl
verb_back Delete = refl
verb_back Watch = refl
verb_back Told = refl
verb_back Mdeliver = refl
verb_back Mfetch = refl
verb_back Mcatalogue = refl
verb_back Summary = refl
verb_back Traffic = refl

pub verb_is_word : (verb : Verb) → IsWord (form verb).word
verb_is_word Group = record { some = omega arith; graphic = refl }
verb_is_word Member = record { some = omega arith; graphic = refl }
verb_is_word Client = record { some = omega arith; graphic = refl }
verb_is_word Mirror = record { some = omega arith; graphic = refl }
verb_is_word Publish = record { some = omega arith; graphic = refl }
verb_is_word Withdraw = record { some = omega arith; graphic = refl }
verb_is_word Deliver = record { some = omega arith; graphic = refl }
verb_is_word Sync = record { some = omega arith; graphic = refl }
verb_is_word Advance = record { some = omega arith; graphic = refl }
verb_is_word Fire = record { some = omega arith; graphic = refl }
verb_is_word Restart = record { some = omega arith; graphic = refl }
verb_is_word Vector = record { some = omega arith; graphic = refl }
verb_is_word Catalogue = record { some = omega arith; graphic = refl }
verb_is_word Claim = record { some = omega arith; graphic = refl }
verb_is_word Lose = record { some = omega arith; graphic = refl }
verb_is_word Answer = record { some = omega arith; graphic = refl }
verb_is_word Fetch = record { some = omega arith; graphic = refl }
verb_is_word Settle = record { some = omega arith; graphic = refl }
verb_is_word Dump = record { some = omega arith; graphic = refl }
verb_is_word Hear = record { some = omega arith; graphic = refl }
verb_is_word Order = record { some = omega arith; graphic = refl }
verb_is_word Ask = record { some = omega arith; graphic = refl }
verb_is_word Feed = record { some = omega arith; graphic = refl }
verb_is_word Insert = record { some = omega arith; graphic = refl }
verb_is_word Block = record { some = omega arith; graphic = refl }
verb_is_word Status = record { some = omega arith; graphic = refl }
verb_is_word Delete = record { some = omega arith; graphic = refl }
verb_is_word Watch = record { some = omega arith; graphic = refl }
verb_is_word Told = record { some = omega arith; graphic = refl }
verb_is_word Mdeliver = record { some = omega arith; graphic = refl }
verb_is_word Mfetch = record { some = omega arith; graphic = refl }
verb_is_word Mcatalogue = record { some = omega arith; graphic = refl }
verb_is_word Summary = record { some = omega arith; graphic = refl }
verb_is_word Traffic = record { some = omega arith; graphic = refl }

pub speaks : (verb : Verb) (rest : List ℕ) → says_nothing ((form verb).word ++ rest) ≡ false
speaks Group rest = refl
speaks Member rest = refl
speaks Client rest = refl
speaks Mirror rest = refl
speaks Publish rest = refl
speaks Withdraw rest = refl
speaks Deliver rest = refl
speaks Sync rest = refl
speaks Advance rest = refl
speaks Fire rest = refl
speaks Restart rest = refl
speaks Vector rest = refl
speaks Catalogue rest = refl
speaks Claim rest = refl
speaks Lose rest = refl
speaks Answer rest = refl
speaks Fetch rest = refl
speaks Settle rest = refl
speaks Dump rest = refl
speaks Hear rest = refl
speaks Order rest = refl
speaks Ask rest = refl
speaks Feed rest = refl
speaks Insert rest = refl
speaks Block rest = refl
speaks Status rest = refl
speaks Delete rest = refl
speaks Watch rest = refl
speaks Told rest = refl
speaks Mdeliver rest = refl
speaks Mfetch rest = refl
speaks Mcatalogue rest = refl
speaks Summary rest = refl
speaks Traffic rest = refl

-- ---- a word that has a verb is that verb's

one_of : (vs : List Verb) (word : List ℕ) (verb : Verb) → verb_named
    (map (λ v. ((form v).word, v)) vs) word ≡ Some verb
    → word ≡ (form verb).word
unfolding verb_named
one_of [] word verb h = cc
one_of (v ∷ vs) word verb h = go (bytes_eq (form v).word word) refl h (one_of vs word verb) where
  go : (b : Bool) → bytes_eq (form v).word word ≡ b
      → (if b then Some v else verb_named (map (λ x. ((form x).word, x)) vs) word) ≡ Some verb
      → (verb_named (map (λ x. ((form x).word, x)) vs) word ≡ Some verb → word ≡ (form verb).word)
      → word ≡ (form verb).word
  go true e k others = (let s : v ≡ verb = cc in sym (is_word (form v).word word e) ∙ ap (λ x. (form x).word) s)
  go false e k others = others k

pub verb_word : (word : List ℕ) (verb : Verb) → verb_of_word word ≡ Some verb → word ≡ (form verb).word
verb_word word verb h = one_of verbs word verb h
