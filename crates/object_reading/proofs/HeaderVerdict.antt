-- The header is judged as the rules say.
use Rattle.object_reading.proofs.Prelude.{◌≡◌, ℕ, Bool, true, false, ◌&&◌, cond, List, [], ◌∷◌, Option, Some, None, option_map, option_and_then, Result, Ok, Err, refl, ap, sym, subst, ◌∙◌, list_all, option_map_or, append-nil, is_name, Fault, WrongBody, WrongAlignment, may_follow, SegmentEntry, Part, HeaderPart, Front, name_in_front, segment_entries_in, header_after_name, header_in, ascend_from, is_served, part_fault, Extents, nothing_said, extents_after, State, with_header, header_named, header_taken, false≢true}
use Rattle.omf80.specs.declared.kind.RecordKind.TheVariants as kinds
use Rattle.object_reading.proofs.HeaderLaws.{verdict_on, extents_are}
use Rattle.object_reading.proofs.Knowing.{Knows, Verdict, wrong_either_way, fault_by}

-- what is known after the header
header_known :
    (state : State) (name : List ℕ) (translator version : ℕ) (entries : List SegmentEntry) → Knows [] state
    → ascend_from 0 entries ≡ true
    → Knows (HeaderPart name translator version entries ∷ [])
    (record state { name = name; extents = extents_after entries nothing_said })
header_known state name translator version entries k ascending = record {
  header = record {
    entries = entries;
    ascending = ascending;
    said = refl;
    stated = append-nil entries;
    in_order = append-nil entries;
    named = refl;
  };
  names = k.names;
  externals = k.externals;
  counted = λ _. k.counted refl;
  code_end = k.code_end;
  data_end = k.data_end;
  content = λ h. absurd (false≢true h);
  start = k.start;
  no_start = λ _. refl;
}

header_fault :
    (name : List ℕ) (translator version : ℕ) (entries : List SegmentEntry) (named ascending served : Bool)
    → is_name name ≡ named → ascend_from 0 entries ≡ ascending → list_all is_served entries ≡ served
    → part_fault [] (HeaderPart name translator version entries)
    ≡ fault_by (named && ascending) served true true
header_fault name translator version entries named ascending served a b c =
    ap (λ t. fault_by (t && ascend_from 0 entries) (list_all is_served entries) true true) a
    ∙ ap (λ t. fault_by (named && t) (list_all is_served entries) true true) b
    ∙ ap (λ t. fault_by (named && ascending) t true true) c

entries_judged :
    (state : State) (name : List ℕ) (translator version : ℕ) (entries : List SegmentEntry) → Knows [] state
    → (named ascending served : Bool)
    → is_name name ≡ named → ascend_from 0 entries ≡ ascending → list_all is_served entries ≡ served
    → Verdict [] kinds.Header (Some (HeaderPart name translator version entries))
    (cond named
    (with_header state name
    (cond ascending (cond served (Ok (extents_after entries nothing_said)) (Err WrongAlignment))
    (Err WrongBody)))
    (Err WrongBody))
entries_judged state name translator version entries k false ascending served a b c =
    header_fault name translator version entries false ascending served a b c
entries_judged state name translator version entries k true false served a b c =
    header_fault name translator version entries true false served a b c
entries_judged state name translator version entries k true true false a b c =
    header_fault name translator version entries true true false a b c
entries_judged state name translator version entries k true true true a b c = record {
  part = HeaderPart name translator version entries;
  of_kind = refl;
  read = refl;
  no_fault = header_fault name translator version entries true true true a b c;
  knows = header_known state name translator version entries k b;
}

read_judged :
    (state : State) (name : List ℕ) (translator version : ℕ) (read : Option (List SegmentEntry))
    → Knows [] state
    → Verdict [] kinds.Header (option_map (HeaderPart name translator version) read)
    (cond (is_name name) (with_header state name (verdict_on 0 nothing_said true read)) (Err WrongBody))
read_judged state name translator version None k = wrong_either_way [] kinds.Header (is_name name)
read_judged state name translator version (Some entries) k =
    entries_judged state name translator version entries k (is_name name) (ascend_from 0 entries)
    (list_all is_served entries) refl refl refl

named_judged :
    (state : State) (name rest : List ℕ) → Knows [] state
    → Verdict [] kinds.Header (header_after_name name rest) (header_named state name rest)
named_judged state name [] k = refl
named_judged state name (translator ∷ []) k = refl
named_judged state name (translator ∷ version ∷ entries) k =
    subst (λ (said : Result Extents Fault).
    Verdict [] kinds.Header (option_map (HeaderPart name translator version) (segment_entries_in entries))
    (cond (is_name name) (with_header state name said) (Err WrongBody)))
    (sym (extents_are entries 0 nothing_said true))
    (read_judged state name translator version (segment_entries_in entries) k)

front_judged :
    (state : State) (front : Front (List ℕ)) → Knows [] state
    → Verdict [] kinds.Header
    (option_and_then (λ (named : List ℕ × List ℕ). header_after_name named.0 named.1) front)
    (option_map_or (λ (named : List ℕ × List ℕ). header_named state named.0 named.1) front (Err WrongBody))
front_judged state None k = refl
front_judged state (Some (name, rest)) k = named_judged state name rest k

pub header_verdict :
    (before : List Part) (state : State) (body : List ℕ) → Knows before state
    → may_follow before kinds.Header ≡ true
    → Verdict before kinds.Header (header_in body) (header_taken state body)
header_verdict [] state body k follows = front_judged state (name_in_front body) k
header_verdict (latest ∷ others) state body k follows = absurd (false≢true follows)
