-- What the words of each form are called, and the kinds of word as code has them.
use Rattle.std.specs.Prelude.{ℕ, List, [], ◌∷◌, codes}
use Rattle.script_lang.specs.declared.place.Place.{Place}
use Rattle.script_lang.specs.declared.place.WordKind.{WordKind}
use Rattle.script_lang.specs.declared.place.WordKind.TheVariants as kind
use Rattle.script_lang.specs.declared.verb.Verb.{Verb}
use Rattle.script_lang.specs.declared.verb.Verb.TheVariants.{Group, Member, Client, Mirror, Publish, Withdraw}
use Rattle.script_lang.specs.declared.verb.Verb.TheVariants.{Deliver, Sync, Advance, Fire, Restart, Vector, Catalogue}
use Rattle.script_lang.specs.declared.verb.Verb.TheVariants.{Claim, Lose, Answer, Fetch, Settle, Dump, Hear, Order, Ask}
use Rattle.script_lang.specs.declared.verb.Verb.TheVariants.{Feed, Insert, Block, Status, Delete, Watch, Told, Mdeliver}
use Rattle.script_lang.specs.declared.verb.Verb.TheVariants.{Mfetch, Mcatalogue, Summary, Traffic}
use Rattle.script_lang.specs.Kinds.{Kind, LABEL, PUBLISHER, N, URI, HEX, CONTENT}

-- A `WordKind` of code as a `Kind`, with the same range.
abbrev pub kind_of : WordKind → Kind
kind_of kind.Label = LABEL
kind_of kind.Publisher = PUBLISHER
kind_of (kind.Number least most) = N least most
kind_of (kind.Uri least most) = URI least most
kind_of (kind.Hex most) = HEX most
kind_of (kind.Content least most) = CONTENT least most

-- The kind of the word at a place of a form.
abbrev pub place_kind : Place → Kind
place_kind place = kind_of place.kind

-- The name of the word at a place of a form.
abbrev pub place_name : Place → List ℕ
place_name place = place.name.now

-- The name of each word of a form after the first one.
abbrev pub place_names : Verb → List (List ℕ)
place_names Group = codes "URI" ∷ []
place_names Member = codes "LABEL" ∷ codes "URI" ∷ codes "HEX" ∷ []
place_names Client = codes "LABEL" ∷ codes "URI" ∷ codes "HEX" ∷ []
place_names Mirror = codes "LABEL" ∷ codes "P" ∷ codes "URI" ∷ []
place_names Publish = codes "M" ∷ codes "URI" ∷ codes "SIZE" ∷ codes "CONTENT" ∷ []
place_names Withdraw = codes "M" ∷ codes "S" ∷ []
place_names Deliver = codes "K" ∷ codes "M" ∷ []
place_names Sync = codes "K" ∷ []
place_names Advance = codes "MS" ∷ []
place_names Fire = codes "M" ∷ []
place_names Restart = codes "M" ∷ []
place_names Vector = codes "M" ∷ []
place_names Catalogue = codes "M" ∷ []
place_names Claim = codes "M" ∷ codes "F" ∷ []
place_names Lose = codes "M" ∷ codes "F" ∷ []
place_names Answer = codes "M" ∷ codes "F" ∷ codes "Q" ∷ []
place_names Fetch = codes "M" ∷ codes "WORKERS" ∷ codes "TRIES" ∷ codes "LOSS" ∷ []
place_names Settle = codes "WORKERS" ∷ []
place_names Dump = codes "M" ∷ codes "P" ∷ codes "S" ∷ codes "X" ∷ []
place_names Hear = codes "M" ∷ codes "HEX" ∷ []
place_names Order = codes "M" ∷ codes "HEX" ∷ []
place_names Ask = codes "M" ∷ codes "HEX" ∷ []
place_names Feed = codes "M" ∷ codes "F" ∷ codes "HEX" ∷ []
place_names Insert = codes "M" ∷ codes "CLIENT" ∷ codes "URI" ∷ codes "FIRST" ∷ codes "LAST" ∷ []
place_names Block = codes "M" ∷ codes "PROCESS" ∷ codes "INDEX" ∷ codes "CONTENT" ∷ []
place_names Status = codes "M" ∷ codes "CLIENT" ∷ codes "PROCESS" ∷ []
place_names Delete = codes "M" ∷ codes "CLIENT" ∷ codes "URI" ∷ []
place_names Watch = codes "M" ∷ codes "P" ∷ codes "URI" ∷ []
place_names Told = codes "M" ∷ codes "W" ∷ []
place_names Mdeliver = codes "K" ∷ codes "L" ∷ []
place_names Mfetch = codes "L" ∷ codes "WORKERS" ∷ codes "TRIES" ∷ codes "LOSS" ∷ []
place_names Mcatalogue = codes "L" ∷ []
place_names Summary = []
place_names Traffic = []
