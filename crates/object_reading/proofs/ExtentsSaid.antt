-- What is said of each segment, once all entries of a header are read.
use Rattle.object_reading.proofs.Prelude.{◌≡◌, true, false, List, refl, sym, Segment, Absolute, Code, Data, Stack, same_segment, length_in, SegmentEntry, ascend_from, alignment_with, alignment_in, Extents, nothing_said, extents_with, extents_after, false≢true}
use Rattle.object_reading.proofs.HeaderLaws.{said_of}

-- an entry of another segment says nothing of this one
code_stays :
    (other : Segment) (entry : SegmentEntry) (extents : Extents) → same_segment other Code ≡ false
    → ((extents_with other entry extents).code_length ≡ extents.code_length)
    × ((extents_with other entry extents).code_alignment ≡ extents.code_alignment)
code_stays Absolute entry extents e = (refl, refl)
code_stays Code entry extents e = absurd (false≢true (sym e))
code_stays Data entry extents e = (refl, refl)
code_stays Stack entry extents e = (refl, refl)

data_stays :
    (other : Segment) (entry : SegmentEntry) (extents : Extents) → same_segment other Data ≡ false
    → ((extents_with other entry extents).data_length ≡ extents.data_length)
    × ((extents_with other entry extents).data_alignment ≡ extents.data_alignment)
data_stays Absolute entry extents e = (refl, refl)
data_stays Code entry extents e = (refl, refl)
data_stays Data entry extents e = absurd (false≢true (sym e))
data_stays Stack entry extents e = (refl, refl)

stack_stays :
    (other : Segment) (entry : SegmentEntry) (extents : Extents) → same_segment other Stack ≡ false
    → (extents_with other entry extents).stack_length ≡ extents.stack_length
stack_stays Absolute entry extents e = refl
stack_stays Code entry extents e = refl
stack_stays Data entry extents e = refl
stack_stays Stack entry extents e = absurd (false≢true (sym e))

pub code_length_said :
    (entries : List SegmentEntry) → ascend_from 0 entries ≡ true
    → (extents_after entries nothing_said).code_length ≡ length_in entries Code
code_length_said entries ascending =
    said_of (λ (extents : Extents). extents.code_length) (λ (entry : SegmentEntry). entry.length) Code
    (λ entry extents. refl) (λ other entry extents e. (code_stays other entry extents e).0)
    entries 0 nothing_said
    ascending

pub code_alignment_said :
    (entries : List SegmentEntry) → ascend_from 0 entries ≡ true
    → (extents_after entries nothing_said).code_alignment ≡ alignment_in entries Code
code_alignment_said entries ascending =
    said_of (λ (extents : Extents). extents.code_alignment) alignment_with Code
    (λ entry extents. refl) (λ other entry extents e. (code_stays other entry extents e).1)
    entries 0 nothing_said
    ascending

pub data_length_said :
    (entries : List SegmentEntry) → ascend_from 0 entries ≡ true
    → (extents_after entries nothing_said).data_length ≡ length_in entries Data
data_length_said entries ascending =
    said_of (λ (extents : Extents). extents.data_length) (λ (entry : SegmentEntry). entry.length) Data
    (λ entry extents. refl) (λ other entry extents e. (data_stays other entry extents e).0)
    entries 0 nothing_said
    ascending

pub data_alignment_said :
    (entries : List SegmentEntry) → ascend_from 0 entries ≡ true
    → (extents_after entries nothing_said).data_alignment ≡ alignment_in entries Data
data_alignment_said entries ascending =
    said_of (λ (extents : Extents). extents.data_alignment) alignment_with Data
    (λ entry extents. refl) (λ other entry extents e. (data_stays other entry extents e).1)
    entries 0 nothing_said
    ascending

pub stack_length_said :
    (entries : List SegmentEntry) → ascend_from 0 entries ≡ true
    → (extents_after entries nothing_said).stack_length ≡ length_in entries Stack
stack_length_said entries ascending =
    said_of (λ (extents : Extents). extents.stack_length) (λ (entry : SegmentEntry). entry.length) Stack
    (λ entry extents. refl) stack_stays entries 0 nothing_said ascending
