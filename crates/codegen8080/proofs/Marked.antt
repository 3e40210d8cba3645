-- The marks of a module, which lie in its code after its constants, and where its procedures begin.
use Rattle.codegen8080.proofs.Prelude.{◌≡◌, ◌≤◌, ◌<◌, ◌-◌, ℕ, suc, ◌+◌, Bool, true, false, drop, take, List, [], ◌∷◌, ◌++◌, length, Option, Some, slice_get, same_Some, none-some, arith, refl, sym, subst, ap, ◌∙◌, min, ObjectModule, Places, Code, places_length, segment_places_in, set_length, Assembled, Item, set_bytes, size_of_items, Routine, ProcedureKind, TreeModule, TreeProcedure, entry, Finishes, Written, place_of_known, place_of_label, has_routine, module_label_of_routine, with_targets, retarget, IsCodeWritten, IsMadeOf, Linkage, all_routines, content_items, contents_items}
use Rattle.std.specs.List.{AllByRecursion, AllZip}
use Rattle.std.proofs.Math.Path.{fun_ext}
use Rattle.mem80.proofs.Lists.{all_append}
use Rattle.object_modules.specs.Module.{length_of}
use Rattle.asm8080.proofs.CodeInParts.{size_in_parts}
use Rattle.codegen8080.specs.Marks.{BeginInCode, BeginsWithin, IsBefore, LieInCode, LiesWithin}
use Rattle.codegen8080.specs.internal.Marking.{AreMarksOf, procedure_places, routine_mark, routine_marks}
use Rattle.codegen8080.specs.declared.marking.{Begun.{Begun}, Mark.{Mark}, OwnPart.{OwnPart}}
use Rattle.codegen8080.specs.declared.marking.OwnPart.TheVariants as own_parts
use Rattle.treecode.specs.declared.module.Content.{Content}
use Rattle.treecode.specs.declared.place.Place.{Place}
use Rattle.treecode.specs.declared.place.Place.TheVariants as places
use Rattle.treecode.specs.declared.procedure.ProcedureKind.TheVariants as kinds
use Rattle.steps8080.specs.internal.Writer.{address_items}
use Rattle.codegen8080.specs.internal.Marks.{code_part, marks_from, marks_of_parts, places_from}
use Rattle.codegen8080.specs.internal.Modules.{IsWrittenWith, constant_size}
use Rattle.codegen8080.specs.internal.Sources.{IsOfModule}
use Rattle.codegen8080.proofs.{BegunCode.{IsOwn, begins_there, numbered_whole, procedure_begins, routine_begins}, ModuleParts.{take_all}, ObjectParts.{known_by}}

-- the bytes of contents
pub word_size : (place : Place) → 2 ≡ size_of_items (address_items place)
word_size (places.Number number) = refl
word_size (places.Code offset) = refl
word_size (places.Data offset) = refl
word_size (places.External offset name) = refl

pub one_more_content :
    (size count next all : ℕ) (left : List Content) (content : Content)
    → slice_get left 0 ≡ Some content
    → count ≡ size_of_items (content_items content)
    → next ≡ min (size + count) 65535
    → min (size + size_of_items (contents_items left)) 65535 ≡ all
    → min (next + size_of_items (contents_items (take (length left - 1) (drop 1 left)))) 65535 ≡ all
one_more_content size count next all [] content at counted is so_far = absurd (none-some content at)
one_more_content size count next all (first ∷ others) content at counted is so_far =
    let same : count ≡ size_of_items (content_items first) =
    counted ∙ ap (λ (one : Content). size_of_items (content_items one)) (same_Some content first (sym at)) in
    let parts = size_in_parts (content_items first) (contents_items others) in
    let rest = ap (λ (list : List Content). size_of_items (contents_items list))
    (take_all others (length (first ∷ others) - 1) (omega arith)) in
    omega (arith, same, is, so_far, parts, rest)

pub all_contents : (size all : ℕ) (left : List Content) → length left < 1 → size ≤ 65535
    → min (size + size_of_items (contents_items left)) 65535 ≡ all → size ≡ all
all_contents size all [] none fits is = omega (arith, fits, is)
all_contents size all (first ∷ others) none fits is = absurd (omega (arith, none))

-- the places of procedures are those of their labels
places_of_labels :
    (written : Written) (bytes : Assembled) (labels : List (Option ℕ)) (number : ℕ) (procedures : List TreeProcedure)
    → Finishes written bytes labels
    → places_from bytes labels number procedures ≡ procedure_places (place_of_label written bytes) number procedures
places_of_labels written bytes labels number [] finished = refl
places_of_labels written bytes labels number (procedure ∷ procedures) finished =
    ap (λ place. place ∷ places_from bytes labels (suc number) procedures)
    (known_by written bytes labels number finished.known)
    ∙ ap (λ rest. place_of_label written bytes number ∷ rest)
    (places_of_labels written bytes labels (suc number) procedures finished)

pub marked :
    (tree : TreeModule) (start : ℕ) (called : List Bool) (written : Written) (bytes : Assembled)
    (labels : List (Option ℕ)) (own marks : List Mark) (procedures : List ℕ)
    → IsWrittenWith tree start called written
    → Finishes written bytes labels
    → marks ≡ own ++ marks_from tree called bytes labels 0 all_routines
    → procedures ≡ places_from bytes labels 0 tree.procedures.items
    → AreMarksOf tree marks procedures
marked tree start called written bytes labels own marks procedures is finished are begin = record {
  start_label = start;
  code = written;
  bytes = bytes;
  code_is = is.code;
  assembles = finished.assembles;
  own = own;
  marks_are =
      are
      ∙ ap (λ place_at. own ++ routine_marks tree called place_at all_routines)
      (fun_ext (λ number. known_by written bytes labels number finished.known))
      ∙ ap (λ (table : List Bool). own ++ routine_marks tree table (place_of_label written bytes) all_routines)
      (sym is.called_is);
  procedures_are = begin ∙ places_of_labels written bytes labels 0 tree.procedures.items finished;
}

-- the table of the routines that are called, as it was kept
pub called_by :
    (tree : TreeModule) (given called : List Bool) (bytes : Assembled) (labels : List (Option ℕ)) (own marks : List Mark)
    → given ≡ called
    → marks ≡ own ++ marks_from tree given bytes labels 0 all_routines
    → marks ≡ own ++ marks_from tree called bytes labels 0 all_routines
called_by tree given called bytes labels own marks same are =
    are ∙ ap (λ (table : List Bool). own ++ marks_from tree table bytes labels 0 all_routines) same

-- constants come first in the code
constants_fit :
    (tree : TreeModule) (start : ℕ) (written : Written) (bytes : Assembled) (labels : List (Option ℕ))
    → IsCodeWritten tree start written
    → Finishes written bytes labels
    → constant_size tree ≤ length bytes.bytes
constants_fit tree start written bytes labels is finished =
    let constants : List Item = contents_items tree.constants.items in
    let rest : List Item = is.own_is.main ++ is.own_is.procedures in
    let own : size_of_items is.own ≡ constant_size tree + size_of_items rest =
    ap size_of_items is.own_is.list_is ∙ size_in_parts constants rest in
    let made : size_of_items is.made ≡ size_of_items is.own = numbered_whole written is.own is.made is.same in
    let all : size_of_items written.code.items ≡ size_of_items is.made + size_of_items is.listed =
    ap size_of_items is.items_are ∙ size_in_parts is.made is.listed in
    let size = finished.assembles.size in
    omega (arith, own, made, all, size)

-- a part that is not a routine is before the end if its place is
before_end : (end : ℕ) (part : OwnPart) (place : ℕ) → place ≤ end → IsBefore end (code_part part) place
before_end end own_parts.Main place is = is
before_end end (own_parts.Procedure number) place is = is
before_end end (own_parts.Statement number) place is = is

-- the marks of parts lie after where they are counted from
parts_within : (low place end : ℕ) (list : List Begun) → low ≤ place → low ≤ end
    → AllByRecursion (LiesWithin low end) (marks_of_parts place end list)
parts_within low place end [] past fits = tt
parts_within low place end (part ∷ others) past fits = (
  (omega (arith, past, fits), before_end end part.part (min (place + part.distance) end) (omega arith)),
  parts_within low (min (place + part.distance) end) end others (omega (arith, past, fits)) fits,
)

-- an object module has as many bytes of code as were assembled
pub size_made :
    (name : List ℕ) (code variables : Assembled) (names : Linkage) (places : List ℕ) (start : Option ℕ)
    (object : ObjectModule)
    → IsMadeOf name code variables names places start object
    → length_of object Code ≡ length code.bytes
size_made name code variables names places start object made =
    let moved : Assembled = with_targets (retarget places (length names.externals)) code in
    ap (λ (segment : Places). length segment.places) made.code
    ∙ ap length (segment_places_in Code moved refl)
    ∙ places_length moved.fixes 0 (set_bytes code.bytes code.is_set)
    ∙ set_length code.bytes code.is_set

-- the place of a routine that is called
called_within :
    (tree : TreeModule) (start : ℕ) (called : List Bool) (written : Written) (bytes : Assembled)
    (labels : List (Option ℕ)) (routine : Routine)
    → IsWrittenWith tree start called written
    → Finishes written bytes labels
    → has_routine called routine ≡ true
    → (constant_size tree ≤ place_of_known bytes (entry labels (module_label_of_routine tree routine).index))
    × (place_of_known bytes (entry labels (module_label_of_routine tree routine).index) < length bytes.bytes)
called_within tree start called written bytes labels routine is finished set =
    let index : ℕ = (module_label_of_routine tree routine).index in
    subst (λ (place : ℕ). (constant_size tree ≤ place) × (place < length bytes.bytes))
    (sym (known_by written bytes labels index finished.known))
    (begins_there written bytes labels (constant_size tree) index finished
    (routine_begins tree start written routine is.code
    (subst (λ (table : List Bool). has_routine table routine ≡ true) (sym is.called_is) set)))

routine_within :
    (low end : ℕ) (routine : Routine) (is_called : Bool) (place : ℕ)
    → (is_called ≡ true → (low ≤ place) × (place < end))
    → AllByRecursion (LiesWithin low end) (routine_mark routine is_called place)
routine_within low end routine true place within = (within refl, tt)
routine_within low end routine false place within = tt

routines_within :
    (tree : TreeModule) (called : List Bool) (low end : ℕ) (place_at : (label : ℕ) → ℕ) (list : List Routine)
    → ((routine : Routine) → has_routine called routine ≡ true
    → (low ≤ place_at (module_label_of_routine tree routine).index)
    × (place_at (module_label_of_routine tree routine).index < end))
    → AllByRecursion (LiesWithin low end) (routine_marks tree called place_at list)
routines_within tree called low end place_at [] within = tt
routines_within tree called low end place_at (routine ∷ others) within =
    all_append (LiesWithin low end)
    (routine_mark routine (has_routine called routine) (place_at (module_label_of_routine tree routine).index))
    (routine_marks tree called place_at others)
    (routine_within low end routine (has_routine called routine) (place_at (module_label_of_routine tree routine).index)
    (within routine))
    (routines_within tree called low end place_at others within)

-- all marks are within the code, after its constants
pub lie_in_code :
    (tree : TreeModule) (start : ℕ) (called : List Bool) (written : Written) (bytes : Assembled)
    (labels : List (Option ℕ)) (list : List Begun) (marks : List Mark) (object : ObjectModule)
    → IsWrittenWith tree start called written
    → Finishes written bytes labels
    → length bytes.bytes ≤ 65535
    → marks
    ≡ marks_of_parts (min (constant_size tree) 65535) (length bytes.bytes) list
    ++ marks_from tree called bytes labels 0 all_routines
    → length_of object Code ≡ length bytes.bytes
    → LieInCode (constant_size tree) object marks
lie_in_code tree start called written bytes labels list marks object is finished few are size =
    let low : ℕ = constant_size tree in
    let end : ℕ = length bytes.bytes in
    let fits : low ≤ end = constants_fit tree start written bytes labels is.code finished in
    subst (λ (at : ℕ). AllByRecursion (LiesWithin low at) marks) (sym size)
    (subst (AllByRecursion (LiesWithin low end)) (sym are)
    (all_append (LiesWithin low end)
    (marks_of_parts (min low 65535) end list) (marks_from tree called bytes labels 0 all_routines)
    (parts_within low (min low 65535) end list (omega (arith, fits, few)) fits)
    (routines_within tree called low end (λ label. place_of_known bytes (entry labels label)) all_routines
    (λ routine set. called_within tree start called written bytes labels routine is finished set))))

-- a procedure that is not EXTERNAL begins within the code, after its constants
begins_by : (low end : ℕ) (kind : ProcedureKind) (place : ℕ) → (IsOwn kind → (low ≤ place) × (place < end))
    → BeginsWithin low end kind place
begins_by low end (kinds.External name) place within = tt
begins_by low end kinds.Static place within = within tt
begins_by low end kinds.Reentrant place within = within tt

begin_within :
    (low end : ℕ) (bytes : Assembled) (labels : List (Option ℕ)) (number : ℕ) (procedures : List TreeProcedure)
    → ((index : ℕ) (procedure : TreeProcedure) → slice_get procedures index ≡ Some procedure → IsOwn procedure.kind
    → (low ≤ place_of_known bytes (entry labels (number + index)))
    × (place_of_known bytes (entry labels (number + index)) < end))
    → AllZip (λ (procedure : TreeProcedure) (place : ℕ). BeginsWithin low end procedure.kind place) procedures
    (places_from bytes labels number procedures)
begin_within low end bytes labels number [] within = tt
begin_within low end bytes labels number (procedure ∷ procedures) within =
    let same : number + 0 ≡ number = omega arith in (
      begins_by low end procedure.kind (place_of_known bytes (entry labels number))
          (λ own. subst
          (λ (n : ℕ). (low ≤ place_of_known bytes (entry labels n)) × (place_of_known bytes (entry labels n) < end)) same
          (within 0 procedure refl own)),
      begin_within low end bytes labels (suc number) procedures
          (λ index one there own.
          let next : number + suc index ≡ suc number + index = omega arith in
          subst
          (λ (n : ℕ). (low ≤ place_of_known bytes (entry labels n)) × (place_of_known bytes (entry labels n) < end)) next
          (within (suc index) one there own)),
    )

pub begin_in_code :
    (tree : TreeModule) (start : ℕ) (called : List Bool) (written : Written) (bytes : Assembled)
    (labels : List (Option ℕ)) (procedures : List ℕ) (object : ObjectModule)
    → IsOfModule tree
    → IsWrittenWith tree start called written
    → Finishes written bytes labels
    → procedures ≡ places_from bytes labels 0 tree.procedures.items
    → length_of object Code ≡ length bytes.bytes
    → BeginInCode (constant_size tree) object tree.procedures.items procedures
begin_in_code tree start called written bytes labels procedures object of is finished are size =
    let low : ℕ = constant_size tree in
    let within : (index : ℕ) (procedure : TreeProcedure) → slice_get tree.procedures.items index ≡ Some procedure
    → IsOwn procedure.kind
    → (low ≤ place_of_known bytes (entry labels (0 + index)))
    × (place_of_known bytes (entry labels (0 + index)) < length bytes.bytes) =
    λ index procedure there own.
    let same : index ≡ 0 + index = omega arith in
    subst (λ (n : ℕ). (low ≤ place_of_known bytes (entry labels n)) × (place_of_known bytes (entry labels n) < length bytes.bytes))
    same
    (subst (λ (place : ℕ). (low ≤ place) × (place < length bytes.bytes))
    (sym (known_by written bytes labels index finished.known))
    (begins_there written bytes labels low index finished
    (procedure_begins tree start written index procedure of is.code there own))) in
    subst (λ (end : ℕ). AllZip (λ (procedure : TreeProcedure) (place : ℕ). BeginsWithin low end procedure.kind place)
    tree.procedures.items procedures) (sym size)
    (subst (AllZip (λ (procedure : TreeProcedure) (place : ℕ). BeginsWithin low (length bytes.bytes) procedure.kind place)
    tree.procedures.items) (sym are)
    (begin_within low (length bytes.bytes) bytes labels 0 tree.procedures.items within))
