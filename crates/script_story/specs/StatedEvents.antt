-- The event that a line states: each label stands for the number of its member or client.
use Rattle.std.specs.Prelude.{ℕ, List, [], ◌∷◌, Option, Some, None}
use Rattle.std.specs.List.{position_or_len}
use Rattle.std.specs.Str.{bytes_eq}
use Rattle.script_lang.specs.declared.verb.Verb.{Verb}
use Rattle.script_lang.specs.declared.verb.Verb.TheVariants as verb
use Rattle.script_lang.specs.Kinds.{Value, Text, Number, Named, Octets}
use Rattle.script_lang.specs.Forms.{Stated}
use Rattle.script_lang.specs.Checking.{Party, Declared}
use Rattle.ndn_name.specs.Names.{Component}
use Rattle.repo_watch.specs.declared.pattern.Pattern.{Pattern}
use Rattle.bench_world.specs.EventValues.{EventValue}

-- The number of the first member or client in `parties` with this label. Where none has it, it is their number, which
-- no party has.
abbrev pub party_number : List ℕ → List Party → ℕ
party_number label parties = position_or_len (λ (p : Party). bytes_eq p.label label) parties

-- The number of the first mirror with this label. Where none has it, it is their number, which no mirror has.
abbrev pub mirror_number : List ℕ → List (List ℕ) → ℕ
mirror_number label mirrors = position_or_len (λ mirror. bytes_eq mirror label) mirrors

-- The number of the publisher that a value names, where it names one.
abbrev pub publisher_number : Declared → Value → Option ℕ
publisher_number d (Text label) = Some (party_number label d.members)
publisher_number d other = None

-- What a watcher or a mirror asks for.
abbrev pub pattern_for : Option ℕ → List Component → Pattern
pattern_for publisher prefix = record { publisher = publisher; prefix = prefix }

-- ---- what lines state, by their kinds

-- The event that an `order` or a `delete` line states; none of any other line.
abbrev pub stated_of_commands : Verb → Declared → List Value → Option EventValue
stated_of_commands verb.Order d (Text m ∷ Octets octets ∷ []) = Some
    (EventValue.Order (party_number m d.members) octets)
stated_of_commands verb.Delete d (Text m ∷ Text client ∷ Named name ∷ []) =
    Some (EventValue.Delete (party_number m d.members) (party_number client d.clients) name)
stated_of_commands _ d values = None

-- The event of an `insert`, `block` or `status` line; of any other line, that of `stated_of_commands`.
abbrev pub stated_of_insertions : Verb → Declared → List Value → Option EventValue
stated_of_insertions verb.Insert d (Text m ∷ Text client ∷ Named name ∷ Number first ∷ Number last ∷ []) =
    Some (EventValue.Insert (party_number m d.members) (party_number client d.clients) name first last)
stated_of_insertions verb.Block d (Text m ∷ Number process ∷ Number index ∷ Octets content ∷ []) =
    Some (EventValue.Block (party_number m d.members) process index content)
stated_of_insertions verb.Status d (Text m ∷ Text client ∷ Number process ∷ []) =
    Some (EventValue.Status (party_number m d.members) (party_number client d.clients) process)
stated_of_insertions form d values = stated_of_commands form d values

-- The event of a `fetch`, `dump`, `hear`, `ask` or `feed` line; of any other line, that of `stated_of_insertions`.
abbrev pub stated_of_packets : Verb → Declared → List Value → Option EventValue
stated_of_packets verb.Fetch d (Text m ∷ Number workers ∷ Number tries ∷ Number loss ∷ []) =
    Some (EventValue.Fetch (party_number m d.members) workers tries loss)
stated_of_packets verb.Dump d (Text m ∷ Text p ∷ Number s ∷ Number x ∷ []) =
    Some (EventValue.Dump (party_number m d.members) (party_number p d.members) s x)
stated_of_packets verb.Hear d (Text m ∷ Octets octets ∷ []) = Some (EventValue.Hear (party_number m d.members) octets)
stated_of_packets verb.Ask d (Text m ∷ Octets octets ∷ []) = Some (EventValue.Ask (party_number m d.members) octets)
stated_of_packets verb.Feed d (Text m ∷ Number f ∷ Octets octets ∷ []) =
    Some (EventValue.Feed (party_number m d.members) f octets)
stated_of_packets form d values = stated_of_insertions form d values

-- The event of a `claim`, `lose` or `answer` line; of any other line, that of `stated_of_packets`.
abbrev pub stated_of_parts : Verb → Declared → List Value → Option EventValue
stated_of_parts verb.Claim d (Text m ∷ Number f ∷ []) = Some (EventValue.Claim (party_number m d.members) f)
stated_of_parts verb.Lose d (Text m ∷ Number f ∷ []) = Some (EventValue.Lose (party_number m d.members) f)
stated_of_parts verb.Answer d (Text m ∷ Number f ∷ Text q ∷ []) =
    Some (EventValue.Answer (party_number m d.members) f (party_number q d.members))
stated_of_parts form d values = stated_of_packets form d values

-- The event of a `vector`, `catalogue`, `settle`, `summary` or `traffic` line; of any other line, that of
-- `stated_of_parts`.
abbrev pub stated_of_group : Verb → Declared → List Value → Option EventValue
stated_of_group verb.Vector d (Text m ∷ []) = Some (EventValue.Vector (party_number m d.members))
stated_of_group verb.Catalogue d (Text m ∷ []) = Some (EventValue.Catalogue (party_number m d.members))
stated_of_group verb.Settle d (Number workers ∷ []) = Some (EventValue.Settle workers)
stated_of_group verb.Summary d [] = Some EventValue.Summary
stated_of_group verb.Traffic d [] = Some EventValue.Traffic
stated_of_group form d values = stated_of_parts form d values

-- The event of a `publish`, `withdraw`, `deliver`, `sync`, `advance`, `fire` or `restart` line; of any other line, that
-- of `stated_of_group`. A declaration states no event, and neither does a line of watchers or mirrors.
abbrev pub stated_by : Verb → Declared → List Value → Option EventValue
stated_by verb.Publish d (Text m ∷ Named name ∷ Number size ∷ Octets content ∷ []) =
    Some (EventValue.Publish (party_number m d.members) name size content)
stated_by verb.Withdraw d (Text m ∷ Number s ∷ []) = Some (EventValue.Withdraw (party_number m d.members) s)
stated_by verb.Deliver d (Number k ∷ Text m ∷ []) = Some (EventValue.Deliver k (party_number m d.members))
stated_by verb.Sync d (Number k ∷ []) = Some (EventValue.Sync k)
stated_by verb.Advance d (Number ms ∷ []) = Some (EventValue.Advance ms)
stated_by verb.Fire d (Text m ∷ []) = Some (EventValue.Fire (party_number m d.members))
stated_by verb.Restart d (Text m ∷ []) = Some (EventValue.Restart (party_number m d.members))
stated_by form d values = stated_of_group form d values

-- The event that a line states, if it states one.
abbrev pub stated_event : Declared → Stated → Option EventValue
stated_event d s = stated_by s.verb d s.values
