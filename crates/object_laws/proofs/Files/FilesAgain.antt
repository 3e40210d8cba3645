-- A file with parts is judged as these, and one with a first fault as that: so there is one answer for each
-- file.
use Rattle.object_laws.proofs.Prelude.{◌≡◌, ℕ, zero, suc, ◌+◌, ◌<◌, ◌≤◌, true, false, cond, ◌==◌, ◌&&◌, nat_le, List, [], ◌∷◌, ◌++◌, length, drop, flat_map, reverse, slice_index, Some, None, option_map, option_and_then, Ok, Err, refl, ap, sym, ◌∙◌, arith, option_or, option_map_or, leb-true, append_assoc, append-nil, reverse-append, reverse-reverse, length-append, BODY_LIMIT, RecordKind, kind_of_type, record_end, first_body, record_bytes, record_fault, ReadAgain, read_again, Fault, OutOfOrder, WrongBody, rank_of, may_come_after, is_empty, is_ended, may_follow, Part, kind_of_part, body_of, part_bytes, part_in, first_part, part_fault, is_accepted, are_accepted, fault_from_record, fault_of_record, fault_at, IsFileOf, HasFirstFault, judged_by, judged_after, parts_of, and_parts}
use Rattle.omf80.specs.declared.kind.RecordKind.TheVariants as kinds
use Rattle.object_laws.proofs.Files.PartsAgain.{part_again}
use Rattle.object_laws.proofs.Files.Accepted.{no_fault_there}

-- nothing follows the end of the file
open_after : (latest kind : RecordKind) → may_come_after latest kind ≡ true → (rank_of latest == 5) ≡ false
open_after kinds.Header kind h = refl
open_after kinds.ExternalNames kind h = refl
open_after kinds.Publics kind h = refl
open_after kinds.Content kind h = refl
open_after kinds.ExternalReferences kind h = refl
open_after kinds.Relocation kind h = refl
open_after kinds.IntersegmentReferences kind h = refl
open_after kinds.ModuleEnd kind h = refl
open_after kinds.EndOfFile kinds.Header h = absurd (let bad : false ≡ true = h in cc)
open_after kinds.EndOfFile kinds.ExternalNames h = absurd (let bad : false ≡ true = h in cc)
open_after kinds.EndOfFile kinds.Publics h = absurd (let bad : false ≡ true = h in cc)
open_after kinds.EndOfFile kinds.Content h = absurd (let bad : false ≡ true = h in cc)
open_after kinds.EndOfFile kinds.ExternalReferences h = absurd (let bad : false ≡ true = h in cc)
open_after kinds.EndOfFile kinds.Relocation h = absurd (let bad : false ≡ true = h in cc)
open_after kinds.EndOfFile kinds.IntersegmentReferences h = absurd (let bad : false ≡ true = h in cc)
open_after kinds.EndOfFile kinds.ModuleEnd h = absurd (let bad : false ≡ true = h in cc)
open_after kinds.EndOfFile kinds.EndOfFile h = absurd (let bad : false ≡ true = h in cc)

not_ended_before : (before : List Part) (kind : RecordKind) → may_follow before kind ≡ true
    → is_ended before ≡ false
not_ended_before [] kind h = refl
not_ended_before (latest ∷ others) kind h = open_after (kind_of_part latest) kind h

-- a part that may stand after others, with bytes after it: it is read, and judged without a fault
pub record JudgedAgain (before : List Part) (part : Part) (rest bytes : List ℕ) : Type 0 where
  pub no_fault : fault_at before bytes ≡ None
  pub found : first_part bytes ≡ Some part
  pub rest_is : drop (record_end bytes) bytes ≡ rest

judged_again :
    (before : List Part) (part : Part) (rest bytes : List ℕ) → is_accepted before part ≡ true
    → ReadAgain (kind_of_part part) (body_of part) rest bytes → JudgedAgain before part rest bytes
unfolding fault_at
judged_again before part rest bytes accepted r =
    let kind : RecordKind = kind_of_part part in
    let first = and_parts (nat_le (length (body_of part)) BODY_LIMIT && may_follow before kind)
    (option_map_or (λ (_ : Fault). false) (part_fault before part) true) accepted in
    let second = and_parts (nat_le (length (body_of part)) BODY_LIMIT) (may_follow before kind) first.0 in
    let no_fault : part_fault before part ≡ None = no_fault_there (part_fault before part) first.1 in
    let of_record : fault_of_record before kind (body_of part) ≡ None =
    ap (λ follows.
    cond follows (option_map_or (part_fault before) (part_in kind (body_of part)) (Some WrongBody))
    (Some OutOfOrder)) second.1
    ∙ ap (λ read. option_map_or (part_fault before) read (Some WrongBody)) (part_again part) ∙ no_fault in
    record {
      no_fault =
          ap (λ ended.
          cond ended (cond (is_empty bytes) None (Some OutOfOrder))
          (option_or (option_map fault_from_record (record_fault bytes))
          (option_and_then (λ k. fault_of_record before k (first_body bytes))
          (kind_of_type (slice_index bytes 0)))))
          (not_ended_before before kind second.1)
          ∙ ap (λ fault.
          option_or (option_map fault_from_record fault)
          (option_and_then (λ k. fault_of_record before k (first_body bytes))
          (kind_of_type (slice_index bytes 0))))
          r.no_fault
          ∙ ap (option_and_then (λ k. fault_of_record before k (first_body bytes))) r.of_type
          ∙ ap (fault_of_record before kind) r.body_is ∙ of_record;
      found =
          ap (option_and_then (λ k. part_in k (first_body bytes))) r.of_type
          ∙ ap (part_in kind) r.body_is ∙ part_again part;
      rest_is = r.rest_is;
    }

pub limit_of : (before : List Part) (part : Part) → is_accepted before part ≡ true
    → length (body_of part) ≤ BODY_LIMIT
limit_of before part accepted =
    let first = and_parts (nat_le (length (body_of part)) BODY_LIMIT && may_follow before (kind_of_part part))
    (option_map_or (λ (_ : Fault). false) (part_fault before part) true) accepted in
    let second =
    and_parts (nat_le (length (body_of part)) BODY_LIMIT)
    (may_follow before (kind_of_part part)) first.0 in
    leb-true (length (body_of part)) BODY_LIMIT second.0

-- the judgement of bytes that begin with a part goes on after it
onward :
    (count : ℕ) (before : List Part) (part : Part) (rest : List ℕ) → is_accepted before part ≡ true
    → judged_after (suc count) before (part_bytes part ++ rest) ≡ judged_after count (part ∷ before) rest
onward count before part rest accepted =
    let bytes : List ℕ = part_bytes part ++ rest in
    let j = judged_again before part rest bytes accepted
    (read_again (kind_of_part part) (body_of part) rest (limit_of before part accepted)) in
    ap (λ fault.
    judged_by (λ parts. judged_after count parts (drop (record_end bytes) bytes)) before
    fault (first_part bytes))
    j.no_fault
    ∙ ap (judged_by (λ parts. judged_after count parts (drop (record_end bytes) bytes)) before None) j.found
    ∙ ap (judged_after count (part ∷ before)) j.rest_is

-- a part has a byte at least
pub has_bytes : (part : Part) → 0 < length (part_bytes part)
unfolding record_bytes
has_bytes part = omega arith

-- so it comes to the bytes after all of some parts
pub record Onward (count : ℕ) (before later : List Part) (bytes rest : List ℕ) : Type 0 where
  pub left : ℕ
  pub enough : length rest < left
  pub same : judged_after count before bytes ≡ judged_after left (reverse later ++ before) rest

onward_past :
    (later before : List Part) (rest : List ℕ) (count : ℕ) → are_accepted before later ≡ true
    → length (flat_map part_bytes later ++ rest) < count
    → Onward count before later (flat_map part_bytes later ++ rest) rest
onward_past [] before rest count accepted h = record { left = count; enough = h; same = refl }
onward_past (part ∷ later) before rest zero accepted h = absurd (omega arith)
onward_past (part ∷ later) before rest (suc count) accepted h =
    let t = and_parts (is_accepted before part) (are_accepted (part ∷ before) later) accepted in
    let after : List ℕ = flat_map part_bytes later ++ rest in
    let grouped : (part_bytes part ++ flat_map part_bytes later) ++ rest ≡ part_bytes part ++ after =
    append_assoc (part_bytes part) (flat_map part_bytes later) rest in
    let longer : length ((part_bytes part ++ flat_map part_bytes later) ++ rest)
    ≡ length (part_bytes part) + length after =
    ap length grouped ∙ length-append (part_bytes part) after in
    let some : 0 < length (part_bytes part) = has_bytes part in
    let o = onward_past later (part ∷ before) rest count t.1 (omega arith) in
    record {
      left = o.left;
      enough = o.enough;
      same =
          ap (judged_after (suc count) before) grouped ∙ onward count before part after t.0 ∙ o.same
          ∙ ap (λ b. judged_after o.left b rest)
          (sym (append_assoc (reverse later) (part ∷ []) before)
          ∙ ap (λ r. r ++ before) (sym (reverse-append (part ∷ []) later)));
    }

-- the end of a file, and a fault
at_end :
    (count : ℕ) (before : List Part) → 0 < count → is_ended before ≡ true
    → judged_after count before [] ≡ Ok (reverse before)
unfolding fault_at
at_end zero before h ended = absurd (omega arith)
at_end (suc count) before h ended =
    ap (λ e.
    judged_by (λ parts. judged_after count parts []) before
    (cond e None
    (option_or (option_map fault_from_record (record_fault []))
    (option_and_then (λ kind. fault_of_record before kind (first_body [])) (kind_of_type 0)))) None) ended

at_fault :
    (count : ℕ) (before : List Part) (rest : List ℕ) (fault : Fault) → length rest < count
    → fault_at before rest ≡ Some fault → judged_after count before rest ≡ Err fault
at_fault zero before rest fault h is = absurd (omega arith)
at_fault (suc count) before rest fault h is =
    ap (λ f.
    judged_by (λ parts. judged_after count parts (drop (record_end rest) rest)) before f (first_part rest)) is

-- a file with parts is judged as these
pub parts_are : (bytes : List ℕ) (parts : List Part) → IsFileOf bytes parts → parts_of bytes ≡ Ok parts
unfolding parts_of
parts_are bytes parts file =
    let all : bytes ≡ flat_map part_bytes parts ++ [] =
    file.spelled ∙ sym (append-nil (flat_map part_bytes parts)) in
    let o = onward_past parts [] [] (suc (length (flat_map part_bytes parts ++ [])))
    file.accepted (omega arith) in
    let before : reverse parts ++ [] ≡ reverse parts = append-nil (reverse parts) in
    ap (λ b. judged_after (suc (length b)) [] b) all ∙ o.same
    ∙ ap (λ b. judged_after o.left b []) before
    ∙ at_end o.left (reverse parts) (let e : length {A = ℕ} [] < o.left = o.enough in omega arith) file.ended
    ∙ ap Ok (reverse-reverse parts)

-- a file with a first fault is judged as that
pub fault_is : (bytes : List ℕ) (fault : Fault) → HasFirstFault bytes fault → parts_of bytes ≡ Err fault
unfolding parts_of
fault_is bytes fault h =
    let o = onward_past h.before [] h.rest (suc (length (flat_map part_bytes h.before ++ h.rest)))
    h.accepted (omega arith) in
    let before : reverse h.before ++ [] ≡ reverse h.before = append-nil (reverse h.before) in
    ap (λ b. judged_after (suc (length b)) [] b) h.spelled ∙ o.same
    ∙ ap (λ b. judged_after o.left b h.rest) before
    ∙ at_fault o.left (reverse h.before) h.rest fault o.enough h.at_rest
