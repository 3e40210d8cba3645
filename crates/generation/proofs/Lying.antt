-- The marks of the code of a module lie in that code, after its constants, and its procedures begin there.
use Rattle.generation.proofs.Prelude.{◌≡◌, ℕ, suc, ◌≤◌, true, false, List, [], ◌∷◌, length, Some, slice_get, refl, ap, sym, subst, ◌∙◌, arith, AllZip, Code, ObjectModule, length_of, TypedModule, TypedProcedure, constant_bytes, stored, TreeModule, TreeProcedure, ProcedureKind, size_of_contents, constants_take, OfItsModule}
use Rattle.std.specs.Prelude.{Bool, zero, ◌+◌, IfSome, None, Option, filter_map, if◌then◌else◌, option_and_then}
use Rattle.std.specs.List.{AllByRecursion, cons_option, enumerate_from}
use Rattle.std.proofs.lemmas.Option.{none-some, same_Some}
use Rattle.std.proofs.lemmas.Slice.Zip.{AllZip-long}
use Rattle.object_modules.specs.Module.{Public}
use Rattle.typed_trees.specs.Globals.{ListsGlobals, global_procedure, is_global, shared_procedure}
use Rattle.typed_trees.specs.declared.parts.GlobalItem.{GlobalItem}
use Rattle.typed_trees.specs.declared.parts.GlobalItem.TheVariants.{GlobalObject, GlobalProcedure}
use Rattle.treecode.specs.declared.module.PublicName.{PublicName}
use Rattle.treecode.specs.declared.module.PublicPlace.TheVariants as public_places
use Rattle.treecode.specs.declared.place.Home.{Home}
use Rattle.treecode.specs.internal.Contents.{public_item, public_procedure}
unfoldable use Rattle.treecode.specs.internal.Contents.{publics_of}
use Rattle.std.proofs.lemmas.List.Sums.{sum_by-cons}
use Rattle.asm8080.proofs.CodeInParts.{size_in_parts}
use Rattle.asm8080.specs.Items.{size_of_items}
use Rattle.typed_trees.specs.declared.parts.Visibility.{Visibility}
use Rattle.typed_trees.specs.declared.parts.Visibility.TheVariants as visibilities
use Rattle.treecode.specs.declared.module.Content.{Content}
use Rattle.treecode.specs.declared.module.Content.TheVariants as contents
use Rattle.treecode.specs.declared.place.Place.{Place}
use Rattle.treecode.specs.declared.place.Place.TheVariants as places
use Rattle.treecode.specs.internal.Homes.{external_number, is_global_procedure, kind_with}
use Rattle.codegen8080.specs.Marks.{BeginInCode, BeginsWithin, IsNamedAt, LieInCode, NamesBegin, StandFor}
use Rattle.codegen8080.specs.declared.module.CodeMarks.{CodeMarks}
use Rattle.codegen8080.specs.internal.Modules.{constant_size, content_items, contents_items}
use Rattle.measure_laws.specs.internal.Bounds.{size_of_content}
use Rattle.generation.specs.ModuleMarks.{IsNamedBy, LieInModule, OwnBeginsWithin}

-- the items of contents take as many bytes as these
content_size : (content : Content) → size_of_items (content_items content) ≡ size_of_content content
content_size (contents.Byte value) = refl
content_size (contents.Word (places.Number number)) = refl
content_size (contents.Word (places.Code offset)) = refl
content_size (contents.Word (places.Data offset)) = refl
content_size (contents.Word (places.External offset name)) = refl
content_size (contents.Gap count) = omega arith

contents_size : (list : List Content) → size_of_items (contents_items list) ≡ size_of_contents list
contents_size [] = refl
contents_size (content ∷ others) =
    let parts = size_in_parts (content_items content) (contents_items others) in
    let here = content_size content in
    let rest = contents_size others in
    let sum = sum_by-cons size_of_content content others in
    omega (arith, parts, here, rest, sum)

-- a procedure that is not EXTERNAL has code
begins_by : (low end place : ℕ) (external : Option ℕ) (visibility : Visibility) (is_reentrant : Bool)
    → BeginsWithin low end (kind_with external visibility is_reentrant) place
    → OwnBeginsWithin low end visibility place
begins_by low end place external visibilities.External is_reentrant is = tt
begins_by low end place external visibilities.Public true is = is
begins_by low end place external visibilities.Public false is = is
begins_by low end place external visibilities.Private true is = is
begins_by low end place external visibilities.Private false is = is

headings_begin :
    (low end : ℕ) (procedures : List TreeProcedure) (headings : List TypedProcedure) (list : List ℕ)
    → length procedures ≡ length headings
    → ((index : ℕ) (procedure : TreeProcedure) (heading : TypedProcedure)
    → slice_get procedures index ≡ Some procedure
    → slice_get headings index ≡ Some heading
    → (external : Option ℕ) × (procedure.kind ≡ kind_with external heading.visibility heading.is_reentrant))
    → AllZip (λ (procedure : TreeProcedure) (place : ℕ). BeginsWithin low end procedure.kind place) procedures list
    → AllZip (λ (heading : TypedProcedure) (place : ℕ). OwnBeginsWithin low end heading.visibility place) headings list
headings_begin low end [] [] [] same kinds are = are
headings_begin low end [] [] (place ∷ list) same kinds are = are
headings_begin low end [] (heading ∷ headings) list same kinds are = absurd (omega (arith, same))
headings_begin low end (procedure ∷ procedures) [] list same kinds are = absurd (omega (arith, same))
headings_begin low end (procedure ∷ procedures) (heading ∷ headings) [] same kinds are = are
headings_begin low end (procedure ∷ procedures) (heading ∷ headings) (place ∷ list) same kinds are =
    let kind = kinds 0 procedure heading refl refl in (
      begins_by low end place kind.0 heading.visibility heading.is_reentrant
          (subst (λ (one : ProcedureKind). BeginsWithin low end one place) kind.1 are.0),
      headings_begin low end procedures headings list (omega (arith, same))
          (λ index one other. kinds (suc index) one other) are.1,
    )

-- what holds of the PUBLIC names of a module, and so of the numbers of its procedures that are PUBLIC
module _ (typed : TypedModule) (publics : List Public) (list : List ℕ) where
  abbrev Named : PublicName → Type 0
  Named name = IsNamedAt publics list name.name name.place

  abbrev ProcedureNamed : (number : ℕ) → Type 0
  ProcedureNamed number =
      (heading : TypedProcedure) → slice_get typed.procedures number ≡ Some heading
      → heading.visibility ≡ visibilities.Public
      → IsNamedAt publics list heading.name (public_places.Procedure number)

  skipped : (found : Option PublicName) (others : List PublicName)
      → AllByRecursion Named (cons_option found others) → AllByRecursion Named others
  skipped None others are = are
  skipped (Some name) others are = are.1

  one_named : (number : ℕ) (heading : TypedProcedure) (visibility : Visibility) (others : List PublicName)
      → visibility ≡ visibilities.Public → heading.visibility ≡ visibility
      → AllByRecursion Named (cons_option (public_procedure number heading) others)
      → IsNamedAt publics list heading.name (public_places.Procedure number)
  one_named number heading visibility others is same are =
      (subst (λ (one : Visibility). AllByRecursion Named (cons_option (public_procedure number (record heading { visibility = one })) others))
      (same ∙ is) are).0

  globals_named : (starts : List Home) (items : List GlobalItem)
      → AllByRecursion Named (filter_map (public_item typed starts) items)
      → AllByRecursion ProcedureNamed (filter_map shared_procedure items)
  globals_named starts [] are = tt
  globals_named starts (GlobalObject number ∷ items) are =
      globals_named starts items
      (skipped (public_item typed starts (GlobalObject number)) (filter_map (public_item typed starts) items) are)
  globals_named starts (GlobalProcedure number ∷ items) are = (
    λ heading there is. one_named number heading heading.visibility (filter_map (public_item typed starts) items) is refl
        (subst
        (λ (found : Option TypedProcedure). AllByRecursion Named
        (cons_option (option_and_then (public_procedure number) found) (filter_map (public_item typed starts) items)))
        there are),
    globals_named starts items
        (skipped (public_item typed starts (GlobalProcedure number)) (filter_map (public_item typed starts) items) are),
  )

  -- a procedure that is PUBLIC is one of the globals
  global_named : (number : ℕ) (heading : TypedProcedure) (visibility : Visibility) (others : List ℕ)
      → heading.visibility ≡ visibility → visibility ≡ visibilities.Public
      → AllByRecursion ProcedureNamed (cons_option (global_procedure (number, heading)) others)
      → ProcedureNamed number
  global_named number heading visibility others same is are =
      (subst
      (λ (one : Visibility). AllByRecursion ProcedureNamed
      (cons_option (if is_global one then Some number else None) others)) (same ∙ is) are).0

  global_skipped : (found : Option ℕ) (others : List ℕ)
      → AllByRecursion ProcedureNamed (cons_option found others) → AllByRecursion ProcedureNamed others
  global_skipped None others are = are
  global_skipped (Some number) others are = are.1

  numbered_named : (number index : ℕ) (headings : List TypedProcedure) (heading : TypedProcedure)
      → AllByRecursion ProcedureNamed (filter_map global_procedure (enumerate_from number headings))
      → slice_get headings index ≡ Some heading
      → heading.visibility ≡ visibilities.Public
      → ProcedureNamed (number + index)
  numbered_named number index [] heading are there is = absurd (none-some heading there)
  numbered_named number zero (first ∷ headings) heading are there is =
      let same : first ≡ heading = same_Some first heading there in
      let at : number ≡ number + 0 = omega arith in
      subst ProcedureNamed at
      (global_named number first first.visibility (filter_map global_procedure (enumerate_from (number + 1) headings)) refl
      (ap (λ (one : TypedProcedure). one.visibility) same ∙ is) are)
  numbered_named number (suc index) (first ∷ headings) heading are there is =
      let at : (number + 1) + index ≡ number + suc index = omega arith in
      subst ProcedureNamed at
      (numbered_named (number + 1) index headings heading
      (global_skipped (global_procedure (number, first)) (filter_map global_procedure (enumerate_from (number + 1) headings))
      are) there is)

  named_zip : (headings : List TypedProcedure) (places_left : List ℕ) → length headings ≡ length places_left
      → ((index : ℕ) (heading : TypedProcedure) (place : ℕ)
      → slice_get headings index ≡ Some heading → slice_get places_left index ≡ Some place
      → IsNamedBy publics heading.visibility heading.name place)
      → AllZip (λ (heading : TypedProcedure) (place : ℕ). IsNamedBy publics heading.visibility heading.name place)
      headings places_left
  named_zip [] [] same each = tt
  named_zip [] (place ∷ places_left) same each = absurd (omega (arith, same))
  named_zip (heading ∷ headings) [] same each = absurd (omega (arith, same))
  named_zip (heading ∷ headings) (place ∷ places_left) same each = (
    each 0 heading place refl refl,
    named_zip headings places_left (omega (arith, same)) (λ index one at. each (suc index) one at),
  )

  by_visibility : (visibility : Visibility) (name : List ℕ) (place : ℕ)
      → (visibility ≡ visibilities.Public → StandFor publics name place)
      → IsNamedBy publics visibility name place
  by_visibility visibilities.Public name place stands = stands refl
  by_visibility visibilities.Private name place stands = tt
  by_visibility visibilities.External name place stands = tt

  procedures_named : (starts : List Home)
      → ListsGlobals typed
      → AllByRecursion Named (publics_of typed starts)
      → length typed.procedures ≡ length list
      → AllZip (λ (heading : TypedProcedure) (place : ℕ). IsNamedBy publics heading.visibility heading.name place)
      typed.procedures list
  unfolding publics_of
  procedures_named starts globals are same =
      let numbers = subst (AllByRecursion ProcedureNamed) globals.procedures (globals_named starts typed.globals are) in
      named_zip typed.procedures list same
      (λ index heading place there at. by_visibility heading.visibility heading.name place
      (λ is.
      let zero_more : 0 + index ≡ index = omega arith in
      let found = (subst ProcedureNamed zero_more
      (numbered_named 0 index typed.procedures heading numbers there is)) heading there is in
      subst (λ (one : Option ℕ). IfSome one (StandFor publics heading.name)) at found))

pub lie_in_module :
    (tree : TreeModule) (object : ObjectModule) (marks : CodeMarks)
    → LieInCode (constant_size tree) object marks.parts.items
    → BeginInCode (constant_size tree) object tree.procedures.items marks.procedures.items
    → NamesBegin object.publics marks.procedures.items tree.publics.items
    → OfItsModule tree (LieInModule marks) object
unfolding OfItsModule
lie_in_module tree object marks parts begin names typed code =
    let constants : constant_size tree ≡ constant_bytes typed =
    contents_size tree.constants.items
    ∙ ap (λ (list : List Content). size_of_contents list) code.lowered.constants
    ∙ constants_take typed code.storage tree.homes.items code.sound.storable (stored typed code.storage code.laid_out) in
    let own = headings_begin (constant_size tree) (length_of object Code) tree.procedures.items typed.procedures
    marks.procedures.items code.lowered.procedure_count
    (λ index procedure heading there also. (external_number typed (is_global_procedure index), (code.lowered.procedures index procedure heading there also).kind)) begin in
    record {
      parts = subst (λ (low : ℕ). LieInCode low object marks.parts.items) constants parts;
      begin = subst
          (λ (low : ℕ). AllZip (λ (heading : TypedProcedure) (place : ℕ).
          OwnBeginsWithin low (length_of object Code) heading.visibility place) typed.procedures marks.procedures.items)
          constants own;
      named =
          procedures_named typed object.publics marks.procedures.items tree.homes.items code.sound.globals
          (subst
          (AllByRecursion (λ (name : PublicName). IsNamedAt object.publics marks.procedures.items name.name name.place))
          code.lowered.publics names)
          (sym (AllZip-long
          (λ (heading : TypedProcedure) (place : ℕ).
          OwnBeginsWithin (constant_size tree) (length_of object Code) heading.visibility place)
          typed.procedures marks.procedures.items own));
    }
