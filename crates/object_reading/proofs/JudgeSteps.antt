-- One step of the judgement of a file, for each outcome of the record in front.
use Rattle.object_reading.proofs.Prelude.{◌≡◌, ℕ, suc, ◌<◌, true, false, cond, List, [], ◌∷◌, length, drop, reverse, slice_index, Option, Some, None, option_map, option_and_then, Ok, Err, ap, ◌∙◌, arith, option_or, RecordFault, RecordKind, kind_of_type, record_end, record_fault, first_body, Fault, OutOfOrder, is_empty, is_ended, Part, part_in, first_part, fault_from_record, fault_of_record, fault_at, judged_by, judged_after, any_judged}

-- the fault in front, where the file hasn't ended
open_fault :
    (before : List Part) (rest : List ℕ) → is_ended before ≡ false
    → fault_at before rest
    ≡ option_or (option_map fault_from_record (record_fault rest))
    (option_and_then (λ kind. fault_of_record before kind (first_body rest))
    (kind_of_type (slice_index rest 0)))
unfolding fault_at
open_fault before rest e =
    ap (λ ended.
    cond ended (cond (is_empty rest) None (Some OutOfOrder))
    (option_or (option_map fault_from_record (record_fault rest))
    (option_and_then (λ kind. fault_of_record before kind (first_body rest))
    (kind_of_type (slice_index rest 0))))) e

judged_at :
    (count : ℕ) (before : List Part) (rest : List ℕ) (fault : Option Fault) → fault_at before rest ≡ fault
    → judged_after (suc count) before rest
    ≡ judged_by (λ parts. judged_after count parts (drop (record_end rest) rest)) before
    fault (first_part rest)
judged_at count before rest fault e =
    ap (λ f. judged_by (λ parts. judged_after count parts (drop (record_end rest) rest)) before f
    (first_part rest)) e

-- the record in front has a fault of its own
pub no_record :
    (count : ℕ) (before : List Part) (rest : List ℕ) (fault : RecordFault) → is_ended before ≡ false
    → record_fault rest ≡ Some fault → judged_after (suc count) before rest ≡ Err (fault_from_record fault)
no_record count before rest fault not_ended found =
    let at : fault_at before rest ≡ Some (fault_from_record fault) =
    open_fault before rest not_ended
    ∙ ap (λ f.
    option_or (option_map fault_from_record f)
    (option_and_then (λ kind. fault_of_record before kind (first_body rest))
    (kind_of_type (slice_index rest 0)))) found in
    judged_at count before rest (Some (fault_from_record fault)) at

-- the fault of a record that has none of its own
in_record :
    (before : List Part) (rest : List ℕ) (kind : RecordKind) → is_ended before ≡ false
    → record_fault rest ≡ None
    → kind_of_type (slice_index rest 0) ≡ Some kind
    → fault_at before rest ≡ fault_of_record before kind (first_body rest)
in_record before rest kind not_ended none known =
    open_fault before rest not_ended
    ∙ ap (λ f.
    option_or (option_map fault_from_record f)
    (option_and_then (λ k. fault_of_record before k (first_body rest)) (kind_of_type (slice_index rest 0))))
    none
    ∙ ap (option_and_then (λ k. fault_of_record before k (first_body rest))) known

-- the record in front breaks a rule
pub broken_rule :
    (count : ℕ) (before : List Part) (rest : List ℕ) (kind : RecordKind) (fault : Fault)
    → is_ended before ≡ false
    → record_fault rest ≡ None → kind_of_type (slice_index rest 0) ≡ Some kind
    → fault_of_record before kind (first_body rest) ≡ Some fault
    → judged_after (suc count) before rest ≡ Err fault
broken_rule count before rest kind fault not_ended none known broken =
    judged_at count before rest (Some fault) (in_record before rest kind not_ended none known ∙ broken)

-- the record in front is a part that may stand here, and the judgement goes on after it
pub goes_on :
    (before : List Part) (rest : List ℕ) (kind : RecordKind) (part : Part) → is_ended before ≡ false
    → record_fault rest ≡ None → kind_of_type (slice_index rest 0) ≡ Some kind
    → fault_of_record before kind (first_body rest) ≡ None → part_in kind (first_body rest) ≡ Some part
    → length (drop (record_end rest) rest) < length rest
    → judged_after (suc (length rest)) before rest
    ≡ judged_after (suc (length (drop (record_end rest) rest))) (part ∷ before) (drop (record_end rest) rest)
goes_on before rest kind part not_ended none known allowed found shorter =
    let after : List ℕ = drop (record_end rest) rest in
    let first : first_part rest ≡ Some part =
    ap (option_and_then (λ k. part_in k (first_body rest))) known ∙ found in
    judged_at (length rest) before rest None (in_record before rest kind not_ended none known ∙ allowed)
    ∙ ap (judged_by (λ parts. judged_after (length rest) parts after) before None) first
    ∙ any_judged (length rest) (suc (length after)) (part ∷ before) after shorter (omega arith)

-- the file has ended: nothing is left, or something is
ended_fault :
    (before : List Part) (rest : List ℕ) → is_ended before ≡ true
    → fault_at before rest ≡ cond (is_empty rest) None (Some OutOfOrder)
unfolding fault_at
ended_fault before rest e =
    ap (λ ended.
    cond ended (cond (is_empty rest) None (Some OutOfOrder))
    (option_or (option_map fault_from_record (record_fault rest))
    (option_and_then (λ kind. fault_of_record before kind (first_body rest))
    (kind_of_type (slice_index rest 0))))) e

pub at_the_end :
    (count : ℕ) (before : List Part) → is_ended before ≡ true
    → judged_after (suc count) before [] ≡ Ok (reverse before)
at_the_end count before e = judged_at count before [] None (ended_fault before [] e)

pub past_the_end :
    (count : ℕ) (before : List Part) (byte : ℕ) (others : List ℕ) → is_ended before ≡ true
    → judged_after (suc count) before (byte ∷ others) ≡ Err OutOfOrder
past_the_end count before byte others e =
    judged_at count before (byte ∷ others) (Some OutOfOrder) (ended_fault before (byte ∷ others) e)
