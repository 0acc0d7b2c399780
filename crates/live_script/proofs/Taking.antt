-- What lines come to that are read, and why they aren't taken.
use Rattle.std.proofs.Common.{◌≡◌, ℕ, true, false, List, Some, None, Result, Ok, Err, String, Global, Vec}
use Rattle.std.proofs.Common.{◌⊎◌, inl, inr}
use Rattle.std.proofs.Common.{refl, sym, subst}
use Rattle.std.specs.Prelude.{IfErr, IfOk, IsErr}
use Rattle.std.specs.Result.{IsErrAnd}
use Rattle.ndn_name.specs.declared.name.Name.{Name}
use Rattle.script_lang.specs.declared.line.Line.{Line}
use Rattle.script_lang.specs.declared.line.Line.TheVariants as line
use Rattle.script_lang.specs.declared.line_fault.LineFault.{LineFault}
use Rattle.script_lang.specs.declared.line_fault.LineFault.TheVariants as line_fault
use Rattle.script_lang.specs.declared.check_fault.CheckFault.{CheckFault}
use Rattle.script_lang.specs.declared.check_fault.CheckFault.TheVariants as check_fault
use Rattle.script_lang.specs.Forms.{Stated, stated}
use Rattle.script_lang.specs.Lines.{line_of}
use Rattle.script_lang.specs.Reading.{IsReadFault}
use Rattle.script_lang.specs.Checking.{after_line}
use Rattle.script_lang.proofs.Stops.{stops_so}
use Rattle.script_report.specs.declared.refusal.Refusal.TheVariants as refusal
use Rattle.repo_member.specs.declared.group_fault.GroupFault.{GroupFault}
use Rattle.repo_member.specs.declared.group_fault.GroupFault.TheVariants as group_fault
use Rattle.live_script.specs.declared.error.LineError.{LineError}
use Rattle.live_script.specs.declared.error.LineError.TheVariants as error
use Rattle.live_script.specs.Evaluation.{Reached, counted, is_within_input, evaluated, evaluated_line, may_stand}
use Rattle.live_script.specs.Evaluation.{refused}
use Rattle.live_script.specs.LineErrors.{IsLineError, check_line_error, group_stop, line_fault_error}

-- ---- octets

pub no_room : (r : Reached) (octets : List ℕ) → is_within_input r octets ≡ false
    → evaluated r octets ≡ refused refusal.Limit
no_room r octets none = rw none refl

pub judged_stated : (r : Reached) (octets : List ℕ) (s : Stated) → is_within_input r octets ≡ true
    → line_of octets ≡ Ok (Some s) → evaluated r octets ≡ evaluated_line r octets s
judged_stated r octets s within read = rw (within, read) refl

pub judged_nothing : (r : Reached) (octets : List ℕ) → is_within_input r octets ≡ true → line_of octets ≡ Ok None
    → evaluated r octets ≡ counted octets r
judged_nothing r octets within read = rw (within, read) refl

-- Nothing but how much was taken says whether there is room.
pub room_kept : (r next : Reached) (octets : List ℕ) → (next.lines ≡ r.lines) × (next.octets ≡ r.octets)
    → is_within_input r octets ≡ true → is_within_input next octets ≡ true
room_kept r next octets same within = rw (same.0, same.1) within

pub evaluated_fault : (r : Reached) (octets : List ℕ) (fault : LineFault) → is_within_input r octets ≡ true
    → IsReadFault fault (line_of octets) → IsLineError (evaluated r octets) (line_fault_error fault)
evaluated_fault r octets line_fault.Syntax within h = rw (within, h) refl
evaluated_fault r octets line_fault.Limit within h = rw (within, h) refl
evaluated_fault r octets line_fault.NoMemory within h = tt

-- ---- lines that aren't taken

pub not_live : (r : Reached) (octets : List ℕ) (l : Line) → ((name : Name) → l ≡ line.Group name → ⊥)
    → ((label : String Global) (name : Name) (key : Vec ℕ Global) → l ≡ line.Member label name key → ⊥)
    → ((m : String Global) (name : Name) (size : ℕ) (content : Vec ℕ Global) → l ≡ line.Publish m name size content → ⊥)
    → evaluated_line r octets (stated l) ≡ refused refusal.NotLive
unfolding evaluated_line
not_live r octets (line.Group name) g m p = absurd (g name refl)
not_live r octets (line.Member label name key) g m p = absurd (m label name key refl)
not_live r octets (line.Publish label name size content) g m p = absurd (p label name size content refl)
not_live r octets l g m p = refl

stops_at : (r : Reached) (octets : List ℕ) (s : Stated) (fault : CheckFault) → may_stand s.verb ≡ true
    → after_line r.declared s ≡ Err fault → IsLineError (evaluated_line r octets s) (check_line_error fault)
unfolding evaluated_line
stops_at r octets s check_fault.NoGroup may h = rw (may, h) refl
stops_at r octets s check_fault.Late may h = rw (may, h) refl
stops_at r octets s check_fault.UnknownLabel may h = rw (may, h) refl
stops_at r octets s check_fault.Duplicate may h = rw (may, h) refl
stops_at r octets s check_fault.Limit may h = rw (may, h) refl
stops_at r octets s check_fault.TooLarge may h = rw (may, h) refl
stops_at r octets s check_fault.NoMemory may h = tt

pub refused_line : (r : Reached) (octets : List ℕ) (s : Stated) (fault : CheckFault) → may_stand s.verb ≡ true
    → (fault ≡ check_fault.NoMemory) ⊎ (after_line r.declared s ≡ Err fault)
    → IsLineError (evaluated_line r octets s) (check_line_error fault)
refused_line r octets s fault may (inl out) =
    subst (λ (f : CheckFault). IsLineError (evaluated_line r octets s) (check_line_error f)) (sym out) tt
refused_line r octets s fault may (inr h) = stops_at r octets s fault may h

-- A line that is checked and refused stops so, at what is seen of the lines before.
pub stopped_by : {A : Type 0} (view r : Reached) (s : Stated) (fault : CheckFault) (result : Result A LineError) → view
    ≡ r
    → may_stand s.verb ≡ true → (fault ≡ check_fault.NoMemory) ⊎ (after_line view.declared s ≡ Err fault)
    → IsErrAnd result (λ error. error ≡ check_line_error fault)
    → IfErr result (λ error. (octets : List ℕ) → IsLineError (evaluated_line r octets s) error)
stopped_by view r s fault result same may why is =
    let P : LineError → Type 0 = λ error. (octets : List ℕ) → IsLineError (evaluated_line r octets s) error in
    stops_so result P (check_line_error fault) is (λ octets.
    rw (← same) (refused_line view octets s fault may why))

pub out_of_memory : {A : Type 0} (r : Reached) (s : Stated) (result : Result A LineError)
    → IsErrAnd result (λ s. s ≡ error.NoMemory)
    → IfErr result (λ error. (octets : List ℕ) → IsLineError (evaluated_line r octets s) error)
out_of_memory r s result is =
    let P : LineError → Type 0 = λ error. (octets : List ℕ) → IsLineError (evaluated_line r octets s) error in
    stops_so result P error.NoMemory is (λ octets. tt)

-- So where a call stops only when memory runs out.
pub memory_wanted : {A : Type 0} (r : Reached) (s : Stated) (result : Result A LineError) (why : LineError)
    → why ≡ error.NoMemory → IsErrAnd result (λ t. t ≡ why)
    → IfErr result (λ error. (octets : List ℕ) → IsLineError (evaluated_line r octets s) error)
memory_wanted r s result why memory is =
    out_of_memory r s result (subst (λ (w : LineError). IsErrAnd result (λ t. t ≡ w)) memory is)

-- A group that may have the member doesn't take it only when memory runs out.
pub memory_alone : {A : Type 0} (result : Result A LineError) (fault : GroupFault)
    → (fault ≡ group_fault.Duplicate → ⊥) → (fault ≡ group_fault.Full → ⊥)
    → IsErrAnd result (λ s. s ≡ group_stop fault) → IfErr result (λ s. s ≡ error.NoMemory)
memory_alone result group_fault.Duplicate apart room is = absurd (apart refl)
memory_alone result group_fault.Full apart room is = absurd (room refl)
memory_alone result group_fault.NoMemory apart room is =
    stops_so result (λ s. s ≡ error.NoMemory) error.NoMemory is refl

pub nothing_taken : {A : Type 0} (result : Result A LineError) (P : A → Type 0) → IsErr result → IfOk result P
nothing_taken (Ok x) P failed = absurd cc
nothing_taken (Err s) P failed = tt
