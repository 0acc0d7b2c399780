-- What is noted beside stored packets, where one publication changed.
use Rattle.std.proofs.Common.{◌≡◌, ℕ, Bool, true, false, cond, not, ◌||◌, List, refl, sym, ap, ◌∙◌, Option, Some, None}
use Rattle.std.proofs.Common.{option_map}
use Rattle.std.specs.Prelude.{filter, IsSomeAnd}
use Rattle.std.specs.Option.{option_and_then}
use Rattle.std.specs.Ordering.{eq_by_cmp}
use Rattle.ndn_name.specs.Names.{Component}
use Rattle.sorted_lists.specs.SortedList.{contains, insert_key, value_of, with_value}
use Rattle.sorted_lists.proofs.Sets.{eq_same, eq_itself, value_of-filter, value_of-with_value}
use Rattle.sorted_lists.proofs.Sets.{contains-insert_key, eq_turned}
use Rattle.repo_plan.specs.Parts.{Pair, pair_cmp}
use Rattle.repo_plan.proofs.Orders.{exact_pairs}
use Rattle.repo_plan.specs.declared.shape.Shape.{Shape}
use Rattle.repo_object.specs.Publication.{Listed, RecordSays}
use Rattle.repo_object.specs.Publication.RecordSays.{Lists, WithdrawsNumber}
use Rattle.repo_object.specs.Verdict.{stated_in}
use Rattle.repo_holdings.specs.declared.record_summary.RecordSummary.{RecordSummary}
use Rattle.repo_holdings.specs.declared.record_summary.RecordSummary.TheVariants.{Object, Withdrawal}
use Rattle.repo_holdings.specs.Records.{Packet}
use Rattle.repo_holdings.specs.Listed.{stored_at, object_stated, listing_in, listing_at, stated_at, whole_at}
use Rattle.repo_holdings.specs.Listed.{is_withdrawn}
use Rattle.repo_holdings.specs.Gaining.{summary_of}
use Rattle.repo_holdings.specs.Noted.{NotesState, AreNotes}
use Rattle.repo_holdings.specs.Changing.{withdraws_too, AreNotedWith}
use Rattle.repo_holdings.proofs.CatalogueLemmas.{same_whole}

-- a name is taken from the notes, whose publication is stored whole
pub noted_taken : (packets : List Packet) (pair : Pair) (old new : NotesState)
    → new ≡ record old { names = filter (λ e. not (eq_by_cmp pair_cmp pair e.0)) old.names }
    → ((q : Pair) → contains pair_cmp old.withdrawn q ≡ is_withdrawn packets q)
    → ((l : Listed) → listing_at packets pair ≡ Some l → whole_at packets pair ≡ None → ⊥)
    → AreNotedWith pair packets old new
noted_taken packets pair old new is withdrawn whole = record {
  withdrawn = λ q. ap (λ (n : NotesState). contains pair_cmp n.withdrawn q) is ∙ withdrawn q;
  name = λ l listed none. absurd (whole l listed none);
  others = λ q other.
      ap (λ (n : NotesState). value_of pair_cmp n.names q) is
      ∙ value_of-filter exact_pairs (λ (k : Pair). not (eq_by_cmp pair_cmp pair k)) old.names q
      ∙ ap (λ (b : Bool). cond (not b) (value_of pair_cmp old.names q) None) other;
}

-- what was noted of others, and what is noted of one publication, are the notes of what is stored
pub noted_from : (before after : List Packet) (pair : Pair) (old new : NotesState) → AreNotes old before
    → ((q : Pair) → eq_by_cmp pair_cmp q pair ≡ false → (x : ℕ) → stored_at after q x ≡ stored_at before q x)
    → AreNotedWith pair after old new → AreNotes new after
noted_from before after pair old new are others with = record {
  withdrawn = with.withdrawn;
  names = λ q l listed none. go q l listed none (eq_by_cmp pair_cmp q pair) refl;
} where
  go : (q : Pair) (l : Listed) → listing_at after q ≡ Some l → whole_at after q ≡ None → (b : Bool)
      → eq_by_cmp pair_cmp q pair ≡ b → value_of pair_cmp new.names q ≡ Some l.name
  go q l listed none true p =
      let same : q ≡ pair = eq_same exact_pairs q pair p in
      ap (value_of pair_cmp new.names) same
      ∙ with.name l (ap (listing_at after) (sym same) ∙ listed) (ap (whole_at after) (sym same) ∙ none)
  go q l listed none false p =
      with.others q (eq_turned exact_pairs pair q ∙ p)
      ∙ are.names q l (ap (option_and_then listing_in) (sym (others q p 0)) ∙ listed)
      (sym (same_whole before after q (others q p)) ∙ none)

-- what is reported of an object names it
pub named_stated : (packets : List Packet) (pair : Pair) (summary : RecordSummary) (shape : Shape)
    (name : List Component)
    → option_map summary_of (stated_at packets pair) ≡ Some summary → summary ≡ Object shape name
    → IsSomeAnd (listing_at packets pair) (λ l. name ≡ l.name)
named_stated packets pair summary shape name h is = go (stored_at packets pair 0) h where
  go : (o : Option (List ℕ)) → option_map summary_of (option_and_then stated_in o) ≡ Some summary
      → IsSomeAnd (option_and_then listing_in o) (λ l. name ≡ l.name)
  go None p = absurd cc
  go (Some octets) p = says (stated_in octets) p where
    says : (o : Option RecordSays) → option_map summary_of o ≡ Some summary
        → IsSomeAnd (option_and_then object_stated o) (λ l. name ≡ l.name)
    says None q = absurd cc
    says (Some (Lists l)) q =
        let both : summary_of (Lists l) ≡ Object shape name = cc in
        let same : l.name ≡ name = cc in
        sym same
    says (Some (WithdrawsNumber seq)) q =
        let both : summary_of (WithdrawsNumber seq) ≡ Object shape name = cc in absurd cc

-- and of a withdrawal that it is no object
pub withdrawal_lists_none : (packets : List Packet) (pair : Pair) (summary : RecordSummary) (seq : ℕ)
    → option_map summary_of (stated_at packets pair) ≡ Some summary → summary ≡ Withdrawal seq → listing_at packets pair
    ≡ None
withdrawal_lists_none packets pair summary seq h is = go (stored_at packets pair 0) h where
  go : (o : Option (List ℕ)) → option_map summary_of (option_and_then stated_in o) ≡ Some summary
      → option_and_then listing_in o ≡ None
  go None p = refl
  go (Some octets) p = says (stated_in octets) p where
    says : (o : Option RecordSays) → option_map summary_of o ≡ Some summary → option_and_then object_stated o ≡ None
    says None q = refl
    says (Some (Lists l)) q = let both : summary_of (Lists l) ≡ Withdrawal seq = cc in absurd cc
    says (Some (WithdrawsNumber n)) q = refl

-- a publication is noted as withdrawn
pub noted_withdrawn : (packets : List Packet) (pair : Pair) (summary : RecordSummary) (seq : ℕ) (old new : NotesState)
    → summary ≡ Withdrawal seq → option_map summary_of (stated_at packets pair) ≡ Some summary
    → new.withdrawn ≡ insert_key pair_cmp (pair.0, seq) old.withdrawn → new.names ≡ old.names
    → ((q : Pair) → (withdraws_too pair (Some summary) q || contains pair_cmp old.withdrawn q) ≡ is_withdrawn packets q)
    → AreNotedWith pair packets old new
noted_withdrawn packets pair summary seq old new is says more names withdrawn = record {
  withdrawn = λ q.
      ap (λ (ws : List Pair). contains pair_cmp ws q) more
      ∙ contains-insert_key exact_pairs (pair.0, seq) old.withdrawn q
      ∙ ap (λ (x : RecordSummary). withdraws_too pair (Some x) q || contains pair_cmp old.withdrawn q) (sym is)
      ∙ withdrawn q;
  name = λ l listed none. absurd (none_listed l (sym (withdrawal_lists_none packets pair summary seq says is)
      ∙ listed));
  others = λ q other. ap (λ (ns : List (Pair × List Component)). value_of pair_cmp ns q) names;
} where
  none_listed : (l : Listed) → let n : Option Listed = None in n ≡ Some l → ⊥
  none_listed l h = cc

-- what is noted after something else was
pub noted_since : (packets : List Packet) (pair : Pair) (old between new : NotesState)
    → ((q : Pair) → eq_by_cmp pair_cmp pair q ≡ false
    → value_of pair_cmp between.names q ≡ value_of pair_cmp old.names q)
    → AreNotedWith pair packets between new → AreNotedWith pair packets old new
noted_since packets pair old between new same is = record {
  withdrawn = is.withdrawn;
  name = is.name;
  others = λ q other. is.others q other ∙ same q other;
}

-- where a name is noted, it is there, and the others are as before
pub name_noted : (pair : Pair) (name : List Component) (names after : List (Pair × List Component))
    → after ≡ with_value pair_cmp pair name names → value_of pair_cmp after pair ≡ Some name
name_noted pair name names after is =
    ap (λ (ns : List (Pair × List Component)). value_of pair_cmp ns pair) is
    ∙ value_of-with_value exact_pairs pair name names pair
    ∙ ap (λ (b : Bool). cond b (Some name) (value_of pair_cmp names pair)) (eq_itself exact_pairs pair)

pub others_named : (pair : Pair) (name : List Component) (names after : List (Pair × List Component))
    → after ≡ with_value pair_cmp pair name names → (q : Pair) → eq_by_cmp pair_cmp pair q ≡ false
    → value_of pair_cmp after q ≡ value_of pair_cmp names q
others_named pair name names after is q other =
    ap (λ (ns : List (Pair × List Component)). value_of pair_cmp ns q) is
    ∙ value_of-with_value exact_pairs pair name names q
    ∙ ap (λ (b : Bool). cond b (Some name) (value_of pair_cmp names q)) (eq_turned exact_pairs q pair ∙ other)
