-- No line is refused when memory runs out.
use Rattle.std.proofs.Common.{ℕ, Bool, true, false, cond, not, ◌&&◌, List, [], ◌∷◌, length, Option, Some, None, Result}
use Rattle.std.proofs.Common.{◌≡◌, Ok, Err, refl}
use Rattle.std.specs.Prelude.{IfErr, ◌≢◌, nat_le, codes, replicate}
use Rattle.std.specs.List.{list_all}
use Rattle.std.specs.Str.{bytes_eq}
use Rattle.std.specs.Str.Parse.{digits_value}
use Rattle.hex.specs.Hex.{decode_of}
use Rattle.hex.specs.declared.error.FromHexError.{FromHexError}
use Rattle.ndn_name.specs.Names.{Component, encoding}
use Rattle.ndn_name.specs.UriText.{after_word, cut_at, plain_name_of_text}
use Rattle.script_lang.specs.declared.line_fault.LineFault.{LineFault}
use Rattle.script_lang.specs.declared.line_fault.LineFault.TheVariants.{Syntax, Limit, NoMemory}
use Rattle.script_lang.specs.declared.check_fault.CheckFault.{CheckFault}
use Rattle.script_lang.specs.declared.check_fault.CheckFault.TheVariants as refusal
use Rattle.script_lang.specs.declared.verb.Verb.{Verb}
use Rattle.script_lang.specs.declared.verb.Verb.TheVariants.{Group, Member, Client, Mirror}
use Rattle.script_lang.specs.Kinds.{Kind, LABEL, PUBLISHER, N, URI, HEX, CONTENT, Value, Text, Anyone, Number, Named}
use Rattle.script_lang.specs.Kinds.{Octets, label_of, publisher_of}
use Rattle.script_lang.specs.Kinds.{is_label, is_numeral, numeral_of, octets_within, decoded_within, hex_of, filled}
use Rattle.script_lang.specs.Kinds.{filled_of, content_by, content_of, name_within, uri_of, mapped, word_of}
use Rattle.script_lang.specs.Forms.{AreShaped, Stated, form, statement}
use Rattle.script_lang.specs.Lines.{with_value, without_value, word_then, values_of, are_within, stated_of}
use Rattle.script_lang.specs.Lines.{line_by, line_in_words, verb_of_word, spaced_words, says_nothing, is_printable}
use Rattle.script_lang.specs.Lines.{mapped_line, line_in, line_within, ends_with, line_of, without_last_octet}
use Rattle.script_lang.specs.Lines.{without_return}
use Rattle.script_lang.specs.Checking.{Declared, Party, after_group, after_declaration, after_event, after_by}
use Rattle.script_lang.specs.Checking.{after_line}
use Rattle.script_lang.specs.Checking.{may_declare, declared_then, is_there, are_known, adds, are_within_limits}
use Rattle.script_lang.specs.Checking.{with_totals, party, are_members, is_label_there, labels_in, may_mirror}

-- ---- the text of a line

abbrev IsOfLine : LineFault → Type 0
IsOfLine f = f ≢ NoMemory

syntax_is : IsOfLine Syntax
syntax_is e = absurd cc

limit_is : IsOfLine Limit
limit_is e = absurd cc

either : {A : Type 0} (b : Bool) (x : A) (f : LineFault) → IsOfLine f → IfErr (cond b (Ok x) (Err f)) IsOfLine
either true x f h = tt
either false x f h = h

chosen : {A : Type 0} (b : Bool) (r s : Result A LineFault) → IfErr r IsOfLine → IfErr s IsOfLine
    → IfErr (cond b r s) IsOfLine
chosen true r s h k = h
chosen false r s h k = k

mapped_err : {A B : Type 0} (f : A → B) (r : Result A LineFault) → IfErr r IsOfLine → IfErr (mapped f r) IsOfLine
mapped_err f (Ok x) h = tt
mapped_err f (Err e) h = h

within_err : (least most : ℕ) (octets : List ℕ) → IfErr (octets_within least most octets) IsOfLine
within_err least most octets =
    either (nat_le least (length octets) && nat_le (length octets) most) octets Limit limit_is

label_err : (word : List ℕ) → IfErr (label_of word) IsOfLine
unfolding label_of
label_err word = either (is_label word) word Syntax syntax_is

publisher_err : (word : List ℕ) → IfErr (publisher_of word) IsOfLine
unfolding publisher_of
publisher_err word =
    chosen (bytes_eq word (codes "*")) (Ok Anyone) _ tt (mapped_err Text (label_of word) (label_err word))

numeral_err : (least most : ℕ) (word : List ℕ) → IfErr (numeral_of least most word) IsOfLine
unfolding numeral_of
numeral_err least most word =
    chosen (is_numeral word) _ (Err Syntax)
    (either (nat_le least (digits_value 10 word) && nat_le (digits_value 10 word) most) (digits_value 10 word) Limit
    limit_is) syntax_is

decoded_err : (least most : ℕ) (r : Result (List ℕ) FromHexError) → IfErr (decoded_within least most r) IsOfLine
decoded_err least most (Ok octets) = within_err least most octets
decoded_err least most (Err e) = syntax_is

hex_err : (least most : ℕ) (word : List ℕ) → IfErr (hex_of least most word) IsOfLine
unfolding hex_of
hex_err least most word = decoded_err least most (decode_of word)

counted_err : (least most : ℕ) (o : Option (List ℕ × List ℕ)) → IfErr (filled least most o) IsOfLine
counted_err least most None = syntax_is
counted_err least most (Some parts) =
    chosen (is_numeral parts.0 && is_numeral parts.1) _ (Err Syntax)
    (either (nat_le least (digits_value 10 parts.0) && nat_le (digits_value 10 parts.0) most
    && nat_le (digits_value 10 parts.1) 255) (replicate (digits_value 10 parts.0) (digits_value 10 parts.1)) Limit
    limit_is) syntax_is

filled_err : (least most : ℕ) (counts : List ℕ) → IfErr (filled_of least most counts) IsOfLine
unfolding filled_of
filled_err least most counts = counted_err least most (cut_at 58 counts)

by_err : (least most : ℕ) (text digits counts : Option (List ℕ))
    → IfErr (content_by least most text digits counts) IsOfLine
by_err least most (Some text) digits counts = within_err least most text
by_err least most None (Some digits) counts = hex_err least most digits
by_err least most None None (Some counts) = filled_err least most counts
by_err least most None None None = syntax_is

content_err : (least most : ℕ) (word : List ℕ) → IfErr (content_of least most word) IsOfLine
unfolding content_of
content_err least most word =
    by_err least most (after_word (codes "text:") word) (after_word (codes "hex:") word)
    (after_word (codes "fill:") word)

named_err : (least most : ℕ) (o : Option (List Component)) → IfErr (name_within least most o) IsOfLine
named_err least most None = syntax_is
named_err least most (Some name) =
    either (nat_le least (length (encoding name)) && nat_le (length (encoding name)) most) name Limit limit_is

uri_err : (least most : ℕ) (word : List ℕ) → IfErr (uri_of least most word) IsOfLine
unfolding uri_of
uri_err least most word = named_err least most (plain_name_of_text word)

word_err : (kind : Kind) (word : List ℕ) → IfErr (word_of kind word) IsOfLine
word_err LABEL word = mapped_err Text (label_of word) (label_err word)
word_err PUBLISHER word = publisher_err word
word_err (N least most) word = mapped_err Number (numeral_of least most word) (numeral_err least most word)
word_err (URI least most) word = mapped_err Named (uri_of least most word) (uri_err least most word)
word_err (HEX most) word = mapped_err Octets (hex_of 1 most word) (hex_err 1 most word)
word_err (CONTENT least most) word = mapped_err Octets (content_of least most word) (content_err least most word)

with_err : (value : Value) (r : Result (List Value) LineFault) → IfErr r IsOfLine → IfErr (with_value value r) IsOfLine
with_err value (Ok values) h = tt
with_err value (Err f) h = h

without_err : (r : Result (List Value) LineFault) → IfErr r IsOfLine → IfErr (without_value r) IsOfLine
without_err (Ok values) h = limit_is
without_err (Err f) h = h

then_err : (r : Result Value LineFault) (others : Result (List Value) LineFault) → IfErr r IsOfLine
    → IfErr others IsOfLine → IfErr (word_then r others) IsOfLine
then_err (Ok value) others h k = with_err value others k
then_err (Err Limit) others h k = without_err others k
then_err (Err Syntax) others h k = syntax_is
then_err (Err NoMemory) others h k = h

values_err : (kinds : List Kind) (words : List (List ℕ)) → IfErr (values_of kinds words) IsOfLine
unfolding values_of
values_err [] [] = tt
values_err [] (word ∷ words) = syntax_is
values_err (kind ∷ kinds) [] = syntax_is
values_err (kind ∷ kinds) (word ∷ words) =
    then_err (word_of kind word) (values_of kinds words) (word_err kind word) (values_err kinds words)

stated_err : (verb : Verb) (r : Result (List Value) LineFault) → IfErr r IsOfLine → IfErr (stated_of verb r) IsOfLine
stated_err verb (Ok values) h = either (are_within verb values) (statement verb values) Limit limit_is
stated_err verb (Err f) h = h

verb_err : (words : List (List ℕ)) (o : Option Verb) → IfErr (line_by words o) IsOfLine
verb_err words None = syntax_is
verb_err words (Some verb) =
    stated_err verb (values_of (form verb).kinds words) (values_err (form verb).kinds words)

words_err : (words : List (List ℕ)) → IfErr (line_in_words words) IsOfLine
words_err [] = syntax_is
words_err (verb ∷ words) = verb_err words (verb_of_word verb)

line_err : (r : Result Stated LineFault) → IfErr r IsOfLine → IfErr (mapped_line r) IsOfLine
line_err (Ok s) h = tt
line_err (Err f) h = h

in_err : (octets : List ℕ) → IfErr (line_in octets) IsOfLine
in_err octets =
    chosen (says_nothing octets) (Ok None) _ tt
    (chosen (list_all is_printable octets) (mapped_line (line_in_words (spaced_words octets))) (Err Syntax)
    (line_err (line_in_words (spaced_words octets)) (words_err (spaced_words octets))) syntax_is)

long_err : (octets body : List ℕ) → IfErr (line_within octets body) IsOfLine
long_err octets body = chosen (nat_le (length octets) 32768) (line_in body) (Err Limit) (in_err body) limit_is

pub read_for_a_cause : (octets : List ℕ) → IfErr (line_of octets) (λ f. f ≢ NoMemory)
read_for_a_cause octets =
    chosen (ends_with 10 octets) _ (line_within octets octets)
    (long_err (without_last_octet octets) (without_return (without_last_octet octets))) (long_err octets octets)

-- ---- a line behind others

abbrev IsOfOthers : CheckFault → Type 0
IsOfOthers r = r ≢ refusal.NoMemory

refused : {A : Type 0} (b : Bool) (f : CheckFault) (r : Result A CheckFault) → IsOfOthers f → IfErr r IsOfOthers
    → IfErr (cond b (Err f) r) IsOfOthers
refused true f r h k = h
refused false f r h k = k

group_err : (d : Declared) → IfErr (after_group d) IsOfOthers
group_err d = refused d.group refusal.Duplicate _ (λ e. absurd cc) tt

may_err : (d : Declared) (p : Party) (count : ℕ) → IfErr (may_declare d p count) IsOfOthers
may_err d p count =
    refused (not d.group) refusal.NoGroup _ (λ e. absurd cc) (refused d.events refusal.Late _ (λ e. absurd cc)
    (refused (is_there d p) refusal.Duplicate _ (λ e. absurd cc)
    (refused (nat_le 16 count) refusal.Limit _ (λ e. absurd cc) tt)))

mirror_may_err : (d : Declared) (label : List ℕ) (publishers : List (List ℕ))
    → IfErr (may_mirror d label publishers) IsOfOthers
mirror_may_err d label publishers =
    refused (not d.group) refusal.NoGroup _ (λ e. absurd cc) (refused d.events refusal.Late _ (λ e. absurd cc)
    (refused (not (are_members d publishers)) refusal.UnknownLabel _ (λ e. absurd cc)
    (refused (is_label_there d label) refusal.Duplicate _ (λ e. absurd cc)
    (refused (nat_le 4 (length d.mirrors)) refusal.Limit _ (λ e. absurd cc) tt))))

declared_err : (r : Result (Unit {0}) CheckFault) (after : Declared) → IfErr r IsOfOthers
    → IfErr (declared_then r after) IsOfOthers
declared_err (Ok x) after h = tt
declared_err (Err f) after h = h

event_err : (d : Declared) (s : Stated) → IfErr (after_event d s) IsOfOthers
event_err d s =
    refused (not d.group) refusal.NoGroup _ (λ e. absurd cc) (refused (not (are_known d s)) refusal.UnknownLabel _
    (λ e. absurd cc) (refused (not (are_within_limits (with_totals d.totals (adds s.verb s.values)))) refusal.TooLarge _
    (λ e. absurd cc) tt))

-- What a member's or a client's line states.
record StatesParty (values : List Value) : Type 0 where
  label : List ℕ
  node : List Component
  key : Value
  is : values ≡ Text label ∷ Named node ∷ key ∷ []

states_party : (values : List Value) → AreShaped (LABEL ∷ URI 1 200 ∷ HEX 128 ∷ []) values → StatesParty values
states_party (Text label ∷ Named node ∷ key ∷ []) h = record { label = label; node = node; key = key; is = refl }
states_party (Text label ∷ Named node ∷ key ∷ other ∷ values) h = absurd h.1.1.1
states_party (Text label ∷ Named node ∷ []) h = absurd h.1.1
states_party (Text label ∷ Text other ∷ values) h = absurd h.1.0
states_party (Text label ∷ Anyone ∷ values) h = absurd h.1.0
states_party (Text label ∷ Number n ∷ values) h = absurd h.1.0
states_party (Text label ∷ Octets octets ∷ values) h = absurd h.1.0
states_party (Text label ∷ []) h = absurd h.1
states_party (Anyone ∷ values) h = absurd h.0
states_party (Number n ∷ values) h = absurd h.0
states_party (Named name ∷ values) h = absurd h.0
states_party (Octets octets ∷ values) h = absurd h.0
states_party [] h = absurd h

member_err : (d : Declared) (values : List Value) → StatesParty values
    → IfErr (after_declaration d Member values) IsOfOthers
member_err d values h =
    rw h.is (declared_err (may_declare d (party h.label h.node) (length d.members)) _
    (may_err d (party h.label h.node) (length d.members)))

client_err : (d : Declared) (values : List Value) → StatesParty values
    → IfErr (after_declaration d Client values) IsOfOthers
client_err d values h =
    rw h.is (declared_err (may_declare d (party h.label h.node) (length d.clients)) _
    (may_err d (party h.label h.node) (length d.clients)))

-- What a mirror's line states.
record StatesMirror (values : List Value) : Type 0 where
  label : List ℕ
  publisher : Value
  prefix : Value
  is : values ≡ Text label ∷ publisher ∷ prefix ∷ []

states_mirror : (values : List Value) → AreShaped (LABEL ∷ PUBLISHER ∷ URI 0 400 ∷ []) values → StatesMirror values
states_mirror (Text label ∷ publisher ∷ prefix ∷ []) h =
    record { label = label; publisher = publisher; prefix = prefix; is = refl }
states_mirror (Text label ∷ publisher ∷ prefix ∷ other ∷ values) h = absurd h.1.1.1
states_mirror (Text label ∷ publisher ∷ []) h = absurd h.1.1
states_mirror (Text label ∷ []) h = absurd h.1
states_mirror (Anyone ∷ values) h = absurd h.0
states_mirror (Number n ∷ values) h = absurd h.0
states_mirror (Named name ∷ values) h = absurd h.0
states_mirror (Octets octets ∷ values) h = absurd h.0
states_mirror [] h = absurd h

mirror_err : (d : Declared) (values : List Value) → StatesMirror values
    → IfErr (after_declaration d Mirror values) IsOfOthers
mirror_err d values h =
    rw h.is (declared_err (may_mirror d h.label (labels_in (h.publisher ∷ []))) _
    (mirror_may_err d h.label (labels_in (h.publisher ∷ []))))

by_others : (d : Declared) (s : Stated) (verb : Verb) (values : List Value) → AreShaped (form verb).kinds values
    → IfErr (after_by d s verb values) IsOfOthers
by_others d s Group values h = group_err d
by_others d s Member values h = member_err d values (states_party values h)
by_others d s Client values h = client_err d values (states_party values h)
by_others d s Mirror values h = mirror_err d values (states_mirror values h)
by_others d s verb values h = event_err d s

pub checked_for_a_cause : (d : Declared) (s : Stated) → AreShaped (form s.verb).kinds s.values
    → IfErr (after_line d s) (λ r. r ≢ refusal.NoMemory)
checked_for_a_cause d s h = by_others d s s.verb s.values h
