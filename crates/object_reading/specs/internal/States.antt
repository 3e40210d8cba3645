-- What the judgement of a file knows of the records that it has passed, and how it takes in the next one.
use Rattle.std.specs.Prelude.{◌≡◌, ℕ, ◌+◌, ◌*◌, ◌==◌, Bool, true, not, ◌&&◌, nat_le, if◌then◌else◌, List, [], ◌∷◌, length, Option, Some, None, Result, Ok, Err}
use Rattle.std.specs.Option.{option_map_or}
use Rattle.omf80.specs.declared.kind.RecordKind.{RecordKind}
use Rattle.omf80.specs.declared.kind.RecordKind.TheVariants as kinds
use Rattle.symbols.specs.Names.{is_name}
use Rattle.object_modules.specs.declared.fault.Fault.{Fault}
use Rattle.object_modules.specs.declared.fault.Fault.TheVariants.{OutOfOrder, WrongBody, ContentMisplaced, FixMisplaced}
use Rattle.object_modules.specs.declared.segment.Segment.{Segment}
use Rattle.object_modules.specs.declared.segment.Segment.TheVariants.{Absolute, Code, Data, Stack}
use Rattle.object_modules.specs.Before.{is_empty, content_end}
use Rattle.object_modules.specs.Module.{holds_bytes, may_have_publics}
use Rattle.object_modules.specs.Parts.{Content}
use Rattle.object_modules.specs.Reading.{segment_of, name_in_front}
use Rattle.object_reading.specs.internal.Entries.{content_at, content_where, is_content}
use Rattle.object_reading.specs.internal.Fixes.{FixHead, fix_where, fixes_in}
use Rattle.object_reading.specs.declared.rules.extents.Extents.{Extents}
use Rattle.object_reading.specs.declared.judgement.header.Header.{Header}
use Rattle.object_reading.specs.declared.rules.names.NameList.TheVariants.{Externals, Publics}
use Rattle.object_reading.specs.declared.judgement.state.State.{State as CodeState}
use Rattle.object_reading.specs.internal.Headers.{nothing_said, extents_in}
use Rattle.object_reading.specs.internal.Marks.{Marked, unmarked, marked_after}
use Rattle.object_reading.specs.internal.NamesJudged.{names_in, names_taken}
use Rattle.object_reading.specs.internal.Order.{may_come}
use Rattle.object_reading.specs.internal.References.{entries_fit, target_fits}

pub record State : Type 0 where
  pub latest : Option RecordKind
  pub name : List ℕ
  pub extents : Extents
  pub names : List (List ℕ)
  pub external_count : ℕ
  pub code_end : ℕ
  pub data_end : ℕ
  pub content : Marked
  pub start : Option ℕ

abbrev pub state_view : CodeState → State
state_view state = record {
  latest = state.latest;
  name = state.name.now;
  extents = state.extents;
  names = state.names;
  external_count = state.external_count;
  code_end = state.code_end;
  data_end = state.data_end;
  content = state.content;
  start = state.start;
}

-- before the first record
abbrev pub beginning : State
beginning = record {
  latest = None;
  name = [];
  extents = nothing_said;
  names = [];
  external_count = 0;
  code_end = 0;
  data_end = 0;
  content = unmarked (content_at Absolute 0 []);
  start = None;
}

-- a header holds what is known
pub record Tells (header : Header) (state : State) : Type 0 where
  pub name : header.name.now ≡ state.name
  pub code_length : header.code_length ≡ (state.extents).code_length
  pub code_alignment : header.code_alignment ≡ (state.extents).code_alignment
  pub data_length : header.data_length ≡ (state.extents).data_length
  pub data_alignment : header.data_alignment ≡ (state.extents).data_alignment
  pub stack_length : header.stack_length ≡ (state.extents).stack_length
  pub start : header.start ≡ state.start

-- the stated length of a segment
abbrev pub extent_of : Extents → Segment → ℕ
extent_of extents Absolute = 0
extent_of extents Code = extents.code_length
extent_of extents Data = extents.data_length
extent_of extents Stack = extents.stack_length

-- where the latest content of a segment ends
abbrev pub end_of : State → Segment → ℕ
end_of state Absolute = 0
end_of state Code = state.code_end
end_of state Data = state.data_end
end_of state Stack = 0

-- the header
abbrev pub with_header : State → (name : List ℕ) → Result Extents Fault → Result State Fault
with_header state name (Ok extents) = Ok (record state { name = name; extents = extents })
with_header state name (Err fault) = Err fault

abbrev pub header_named : State → (name rest : List ℕ) → Result State Fault
header_named state name (translator ∷ version ∷ entries) =
    if is_name name then with_header state name (extents_in 0 nothing_said true entries) else Err WrongBody
header_named state name rest = Err WrongBody

abbrev pub header_taken : State → (body : List ℕ) → Result State Fault
header_taken state body =
    option_map_or (λ (named : List ℕ × List ℕ). header_named state named.0 named.1) (name_in_front body)
    (Err WrongBody)

-- names
abbrev pub with_externals : State → Option (List (List ℕ)) → Result State Fault
with_externals state None = Err WrongBody
with_externals state (Some names) = Ok (record state { names = names; external_count = length names })

abbrev pub externals_taken : State → (body : List ℕ) → Result State Fault
externals_taken state body =
    if is_empty body then Err WrongBody
    else with_externals state (names_taken state.names (names_in Externals body))

abbrev pub with_publics : State → Option (List (List ℕ)) → Result State Fault
with_publics state None = Err WrongBody
with_publics state (Some names) = Ok (record state { names = names })

abbrev pub publics_taken : State → (body : List ℕ) → Result State Fault
publics_taken state [] = Err WrongBody
publics_taken state (number ∷ entries) =
    option_map_or
    (λ (segment : Segment).
    if may_have_publics segment && not (is_empty entries)
    then with_publics state (names_taken state.names (names_in Publics entries))
    else Err WrongBody)
    (segment_of number) (Err WrongBody)

-- contents
abbrev pub with_end : State → Segment → (end : ℕ) → State
with_end state Absolute end = state
with_end state Code end = record state { code_end = end }
with_end state Data end = record state { data_end = end }
with_end state Stack end = state

abbrev pub with_content : State → Content → State
with_content state content =
    record (with_end state content.segment (content_end content)) { content = unmarked content }

abbrev pub fits : State → Content → Bool
fits state content =
    nat_le (content_end content) (extent_of state.extents content.segment)
    && nat_le (end_of state content.segment) content.offset

abbrev pub content_taken : State → RecordKind → (body : List ℕ) → Result State Fault
content_taken state kind body =
    option_map_or
    (λ (content : Content).
    if holds_bytes content.segment && not (is_empty content.bytes)
    then (if fits state content then Ok (with_content state content) else Err ContentMisplaced)
    else Err WrongBody)
    (content_where (is_content kind) body) (Err WrongBody)

-- fixes
abbrev pub with_fixes : State → Option Marked → Result State Fault
with_fixes state None = Err FixMisplaced
with_fixes state (Some content) = Ok (record state { content = content })

abbrev pub fixes_placed : State → RecordKind → FixHead → Result State Fault
fixes_placed state kind (target, fix_kind, entries) =
    if not (is_empty entries) && target_fits ((state.content).content).segment kind target
    && entries_fit state.external_count target fix_kind entries
    then with_fixes state (marked_after state.content (fixes_in target fix_kind entries))
    else Err WrongBody

abbrev pub fixes_taken : State → RecordKind → (body : List ℕ) → Result State Fault
fixes_taken state kind body =
    option_map_or (fixes_placed state kind) (fix_where ((state.content).content).segment kind body) (Err WrongBody)

-- the ends of the module and of the file
abbrev pub start_stated : (body : List ℕ) → Option (Option ℕ)
start_stated (flag ∷ segment ∷ low ∷ high ∷ []) =
    if flag == 0 && segment == 0 && low + 256 * high == 0 then Some None
    else if flag == 1 && segment == 1 then Some (Some (low + 256 * high))
    else None
start_stated body = None

abbrev pub end_taken : State → (body : List ℕ) → Result State Fault
end_taken state body =
    option_map_or (λ (start : Option ℕ). Ok (record state { start = start })) (start_stated body) (Err WrongBody)

abbrev pub last_taken : State → (body : List ℕ) → Result State Fault
last_taken state body = if is_empty body then Ok state else Err WrongBody

-- any record that may stand here, and any record
abbrev pub body_taken : State → RecordKind → (body : List ℕ) → Result State Fault
body_taken state kinds.Header body = header_taken state body
body_taken state kinds.ExternalNames body = externals_taken state body
body_taken state kinds.Publics body = publics_taken state body
body_taken state kinds.Content body = content_taken state kinds.Content body
body_taken state kinds.ExternalReferences body = fixes_taken state kinds.ExternalReferences body
body_taken state kinds.Relocation body = fixes_taken state kinds.Relocation body
body_taken state kinds.IntersegmentReferences body = fixes_taken state kinds.IntersegmentReferences body
body_taken state kinds.ModuleEnd body = end_taken state body
body_taken state kinds.EndOfFile body = last_taken state body

abbrev pub then_latest : RecordKind → Result State Fault → Result State Fault
then_latest kind (Ok state) = Ok (record state { latest = Some kind })
then_latest kind (Err fault) = Err fault

abbrev pub record_taken : State → RecordKind → (body : List ℕ) → Result State Fault
record_taken state kind body =
    if may_come state.latest kind then then_latest kind (body_taken state kind body) else Err OutOfOrder
