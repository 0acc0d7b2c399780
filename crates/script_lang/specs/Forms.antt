-- The forms of line: the table of their words, and each line as its verb and the values of its words.
use Rattle.std.specs.Prelude.{ℕ, List, [], ◌∷◌, codes, Option, Some, None, String}
use Rattle.std.specs.String.{string_bytes}
use Rattle.script_lang.specs.declared.line.Line.{Line}
use Rattle.script_lang.specs.declared.line.Line.TheVariants as line
use Rattle.script_lang.specs.declared.verb.Verb.{Verb}
use Rattle.script_lang.specs.declared.verb.Verb.TheVariants.{Group, Member, Client, Mirror, Publish, Withdraw}
use Rattle.script_lang.specs.declared.verb.Verb.TheVariants.{Deliver, Sync, Advance, Fire, Restart, Vector, Catalogue}
use Rattle.script_lang.specs.declared.verb.Verb.TheVariants.{Claim, Lose, Answer, Fetch, Settle, Dump, Hear, Order, Ask}
use Rattle.script_lang.specs.declared.verb.Verb.TheVariants.{Feed, Insert, Block, Status, Delete, Watch, Told, Mdeliver}
use Rattle.script_lang.specs.declared.verb.Verb.TheVariants.{Mfetch, Mcatalogue, Summary, Traffic}
use Rattle.script_lang.specs.Limits.{last_part}
use Rattle.script_lang.specs.Kinds.{Kind, LABEL, PUBLISHER, N, URI, HEX, CONTENT, Value, Text, Anyone, Number}
use Rattle.script_lang.specs.Kinds.{Named, Octets}

-- A form of line: its first word, and the kinds of the others.
pub record Form : Type 0 where
  pub word : List ℕ
  pub kinds : List Kind

-- A row of the table.
abbrev pub row : List ℕ → List Kind → Form
row word kinds = record { word = word; kinds = kinds }

-- A number with no other range than 18 digits.
abbrev pub any : Kind
any = N 0 999999999999999999

-- The table of the forms. `publish` and `insert` have limits across words too (`are_within`).
abbrev pub form : Verb → Form
form Group = row (codes "group") (URI 1 200 ∷ [])
form Member = row (codes "member") (LABEL ∷ URI 1 200 ∷ HEX 128 ∷ [])
form Client = row (codes "client") (LABEL ∷ URI 1 200 ∷ HEX 128 ∷ [])
form Mirror = row (codes "mirror") (LABEL ∷ PUBLISHER ∷ URI 0 400 ∷ [])
form Publish = row (codes "publish") (LABEL ∷ URI 1 400 ∷ N 1 8000 ∷ CONTENT 0 16000000 ∷ [])
form Withdraw = row (codes "withdraw") (LABEL ∷ N 1 65535 ∷ [])
form Deliver = row (codes "deliver") (N 1 4294967295 ∷ LABEL ∷ [])
form Sync = row (codes "sync") (N 1 4294967295 ∷ [])
form Advance = row (codes "advance") (N 0 1000000000 ∷ [])
form Fire = row (codes "fire") (LABEL ∷ [])
form Restart = row (codes "restart") (LABEL ∷ [])
form Vector = row (codes "vector") (LABEL ∷ [])
form Catalogue = row (codes "catalogue") (LABEL ∷ [])
form Claim = row (codes "claim") (LABEL ∷ N 1 16 ∷ [])
form Lose = row (codes "lose") (LABEL ∷ N 1 16 ∷ [])
form Answer = row (codes "answer") (LABEL ∷ N 1 16 ∷ LABEL ∷ [])
form Fetch = row (codes "fetch") (LABEL ∷ N 1 16 ∷ N 1 16 ∷ N 0 1000 ∷ [])
form Settle = row (codes "settle") (N 1 16 ∷ [])
form Dump = row (codes "dump") (LABEL ∷ LABEL ∷ N 1 65535 ∷ N 0 last_part ∷ [])
form Hear = row (codes "hear") (LABEL ∷ HEX 9000 ∷ [])
form Order = row (codes "order") (LABEL ∷ HEX 9000 ∷ [])
form Ask = row (codes "ask") (LABEL ∷ HEX 9000 ∷ [])
form Feed = row (codes "feed") (LABEL ∷ N 1 16 ∷ HEX 9000 ∷ [])
form Insert = row (codes "insert")
    (LABEL ∷ LABEL ∷ URI 1 400 ∷ any ∷ any ∷ [])
form Block = row (codes "block")
    (LABEL ∷ N 1 4294967295 ∷ any ∷ CONTENT 1 8000 ∷ [])
form Status = row (codes "status") (LABEL ∷ LABEL ∷ N 1 4294967295 ∷ [])
form Delete = row (codes "delete") (LABEL ∷ LABEL ∷ URI 1 400 ∷ [])
form Watch = row (codes "watch") (LABEL ∷ PUBLISHER ∷ URI 0 400 ∷ [])
form Told = row (codes "told") (LABEL ∷ N 1 4294967295 ∷ [])
form Mdeliver = row (codes "mdeliver") (N 1 4294967295 ∷ LABEL ∷ [])
form Mfetch = row (codes "mfetch") (LABEL ∷ N 1 16 ∷ N 1 16 ∷ N 0 1000 ∷ [])
form Mcatalogue = row (codes "mcatalogue") (LABEL ∷ [])
form Summary = row (codes "summary") []
form Traffic = row (codes "traffic") []

-- A line as its verb and the values of its words.
pub record Stated : Type 0 where
  pub verb : Verb
  pub values : List Value

-- A line with this first word and these values.
abbrev pub statement : Verb → List Value → Stated
statement verb values = record { verb = verb; values = values }

-- The value of a publisher: its label, or `Anyone` for `None`.
abbrev pub publisher_value : {Z : Type 0} → Option (String Z) → Value
publisher_value (Some label) = Text (string_bytes label)
publisher_value None = Anyone

-- A line of code, as its first word and its values.
abbrev pub stated : Line → Stated
stated (line.Group name) =
    statement Group (Named name ∷ [])
stated (line.Member label name key) =
    statement Member (Text (string_bytes label) ∷ Named name ∷ Octets key.items ∷ [])
stated (line.Client label name key) =
    statement Client (Text (string_bytes label) ∷ Named name ∷ Octets key.items ∷ [])
stated (line.Mirror label p name) =
    statement Mirror (Text (string_bytes label) ∷ publisher_value p ∷ Named name ∷ [])
stated (line.Publish m name size content) =
    statement Publish (Text (string_bytes m) ∷ Named name ∷ Number size ∷ Octets content.items ∷ [])
stated (line.Withdraw m s) =
    statement Withdraw (Text (string_bytes m) ∷ Number s ∷ [])
stated (line.Deliver k m) =
    statement Deliver (Number k ∷ Text (string_bytes m) ∷ [])
stated (line.Sync k) =
    statement Sync (Number k ∷ [])
stated (line.Advance ms) =
    statement Advance (Number ms ∷ [])
stated (line.Fire m) =
    statement Fire (Text (string_bytes m) ∷ [])
stated (line.Restart m) =
    statement Restart (Text (string_bytes m) ∷ [])
stated (line.Vector m) =
    statement Vector (Text (string_bytes m) ∷ [])
stated (line.Catalogue m) =
    statement Catalogue (Text (string_bytes m) ∷ [])
stated (line.Claim m f) =
    statement Claim (Text (string_bytes m) ∷ Number f ∷ [])
stated (line.Lose m f) =
    statement Lose (Text (string_bytes m) ∷ Number f ∷ [])
stated (line.Answer m f q) =
    statement Answer (Text (string_bytes m) ∷ Number f ∷ Text (string_bytes q) ∷ [])
stated (line.Fetch m workers tries loss) =
    statement Fetch (Text (string_bytes m) ∷ Number workers ∷ Number tries ∷ Number loss ∷ [])
stated (line.Settle workers) =
    statement Settle (Number workers ∷ [])
stated (line.Dump m p s x) =
    statement Dump (Text (string_bytes m) ∷ Text (string_bytes p) ∷ Number s ∷ Number x ∷ [])
stated (line.Hear m octets) =
    statement Hear (Text (string_bytes m) ∷ Octets octets.items ∷ [])
stated (line.Order m octets) =
    statement Order (Text (string_bytes m) ∷ Octets octets.items ∷ [])
stated (line.Ask m octets) =
    statement Ask (Text (string_bytes m) ∷ Octets octets.items ∷ [])
stated (line.Feed m f octets) =
    statement Feed (Text (string_bytes m) ∷ Number f ∷ Octets octets.items ∷ [])
stated (line.Insert m client name first last) =
    statement Insert
    (Text (string_bytes m) ∷ Text (string_bytes client) ∷ Named name ∷ Number first ∷ Number last ∷ [])
stated (line.Block m process index content) =
    statement Block (Text (string_bytes m) ∷ Number process ∷ Number index ∷ Octets content.items ∷ [])
stated (line.Status m client process) =
    statement Status (Text (string_bytes m) ∷ Text (string_bytes client) ∷ Number process ∷ [])
stated (line.Delete m client name) =
    statement Delete (Text (string_bytes m) ∷ Text (string_bytes client) ∷ Named name ∷ [])
stated (line.Watch m p name) =
    statement Watch (Text (string_bytes m) ∷ publisher_value p ∷ Named name ∷ [])
stated (line.Told m w) =
    statement Told (Text (string_bytes m) ∷ Number w ∷ [])
stated (line.Mdeliver k l) =
    statement Mdeliver (Number k ∷ Text (string_bytes l) ∷ [])
stated (line.Mfetch l workers tries loss) =
    statement Mfetch (Text (string_bytes l) ∷ Number workers ∷ Number tries ∷ Number loss ∷ [])
stated (line.Mcatalogue l) =
    statement Mcatalogue (Text (string_bytes l) ∷ [])
stated line.Summary = statement Summary []
stated line.Traffic = statement Traffic []

-- ---- values of their kinds

-- A value is one of this kind, whatever its range.
abbrev pub IsShaped : Kind → Value → Type 0
IsShaped LABEL (Text label) = Unit {0}
IsShaped PUBLISHER (Text label) = Unit {0}
IsShaped PUBLISHER Anyone = Unit {0}
IsShaped (N least most) (Number n) = Unit {0}
IsShaped (URI least most) (Named name) = Unit {0}
IsShaped (HEX most) (Octets octets) = Unit {0}
IsShaped (CONTENT least most) (Octets octets) = Unit {0}
IsShaped kind value = ⊥

-- Values are of these kinds, one by one.
abbrev pub AreShaped : List Kind → List Value → Type 0
AreShaped [] [] = Unit {0}
AreShaped (kind ∷ kinds) (value ∷ values) = IsShaped kind value × AreShaped kinds values
AreShaped kinds values = ⊥
