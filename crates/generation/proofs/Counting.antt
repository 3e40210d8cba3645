-- What is counted of the object module of a module: the bytes of its code segment, and those that its code
-- pushes.
use Rattle.generation.proofs.Prelude.{◌≡◌, ℕ, suc, ◌+◌, ◌≤◌, Bool, true, false, List, [], ◌∷◌, length, Some, slice_get, refl, ap, sym, subst, ◌∙◌, arith, Code, ObjectModule, length_of, TypedModule, TypedProcedure, code_bound, constant_bytes, IsStored, stored, TreeModule, ProcedureKind, TreeProcedure, IsLowered, AreCodeOf, IsCodeOf, IsCodeOfMain, IsGenerated, has_main, bound_of_tree, size_of_contents, constants_take, weight_is, segment_is_within_its_bound, PushesWithinCharges, pushes_within_charges, IsCounted, OfItsModule}
use Rattle.layout.specs.{Storage.{Storage}, Sound.{IsSoundlyTyped}}
use Rattle.treecode.specs.declared.module.Content.{Content}
use Rattle.asm8080.specs.declared.item.Item.{Item}
use Rattle.treecode.specs.declared.procedure.ProcedureKind.TheVariants as kinds
use Rattle.generation.specs.internal.CodeItems.{BodiesPushWithinCharges, HasItems, MainPushes, ProcedurePushes, ProceduresPush}
use Rattle.generation.proofs.Bounding.{sound_for_bounds}

-- procedures and headings stand in the tables of a module from a number on
abbrev StandFrom :
    TreeModule → TypedModule → (number : ℕ) → List TreeProcedure → List TypedProcedure → Type 0
StandFrom tree typed number procedures headings =
    (index : ℕ) (procedure : TreeProcedure) (heading : TypedProcedure)
    → slice_get procedures index ≡ Some procedure
    → slice_get headings index ≡ Some heading
    → (slice_get tree.procedures.items (number + index) ≡ Some procedure)
    × (slice_get typed.procedures (number + index) ≡ Some heading)

module _
    (tree : TreeModule) (typed : TypedModule) (called : List Bool) (pushes : PushesWithinCharges typed tree)
  where
    procedure_pushes :
        (number : ℕ) (procedure : TreeProcedure) (heading : TypedProcedure) (list : List Item)
        → slice_get tree.procedures.items number ≡ Some procedure
        → slice_get typed.procedures number ≡ Some heading
        → (kind : ProcedureKind) (code : IsCodeOf tree called number procedure kind list)
        → ProcedurePushes tree called number procedure heading kind list code
    procedure_pushes number procedure heading list there stands (kinds.External name) code = tt
    procedure_pushes number procedure heading list there stands kinds.Static code =
        pushes.procedures called number procedure heading list there stands code
    procedure_pushes number procedure heading list there stands kinds.Reentrant code =
        pushes.procedures called number procedure heading list there stands code

    procedures_push :
        (number : ℕ) (procedures : List TreeProcedure) (headings : List TypedProcedure) (list : List Item)
        → length procedures ≡ length headings
        → StandFrom tree typed number procedures headings
        → (code : AreCodeOf tree called number procedures list)
        → ProceduresPush tree called number procedures headings list code
    procedures_push number [] [] list same stand code = tt
    procedures_push number [] (heading ∷ headings) list same stand code = absurd (omega (arith, same))
    procedures_push number (procedure ∷ procedures) [] list same stand code = absurd (omega (arith, same))
    procedures_push number (procedure ∷ procedures) (heading ∷ headings) list same stand code =
        let here = stand 0 procedure heading refl refl in
        let at : number + 0 ≡ number = omega arith in (
          procedure_pushes number procedure heading code.0
              (subst (λ (n : ℕ). slice_get tree.procedures.items n ≡ Some procedure) at here.0)
              (subst (λ (n : ℕ). slice_get typed.procedures n ≡ Some heading) at here.1)
              procedure.kind code.2,
          procedures_push (suc number) procedures headings code.1 (omega (arith, same))
              (λ index one other there stands.
              let next = stand (suc index) one other there stands in
              let further : number + suc index ≡ suc number + index = omega arith in (
                subst (λ (n : ℕ). slice_get tree.procedures.items n ≡ Some one) further next.0,
                subst (λ (n : ℕ). slice_get typed.procedures n ≡ Some other) further next.1,
              ))
              code.3,
        )

    main_pushes :
        (start : ℕ) (is_there : Bool) (list : List Item) (code : IsCodeOfMain tree called start is_there list)
        → MainPushes tree called start typed.main is_there list code
    main_pushes start true list code = pushes.main called start list code
    main_pushes start false list code = tt

-- the items of the code of an object module
has_items : (tree : TreeModule) (object : ObjectModule) → IsGenerated tree object → HasItems tree object
has_items tree object is = record {
  start = is.start_label;
  code = is.code;
  bytes = is.code_bytes;
  to = is.to;
  written = is.code_is;
  segment = is.code_segment;
}

bodies_push :
    (tree : TreeModule) (typed : TypedModule) (object : ObjectModule)
    → length tree.procedures.items ≡ length typed.procedures
    → PushesWithinCharges typed tree
    → (items : HasItems tree object)
    → BodiesPushWithinCharges tree typed object items
bodies_push tree typed object same pushes items =
    let own = items.written.own_is in
    record {
      procedures =
          procedures_push tree typed items.written.called pushes 0 tree.procedures.items
          typed.procedures own.procedures
          same
          (λ index procedure heading there stands.
          let none : 0 + index ≡ index = omega arith in (
            subst (λ (n : ℕ). slice_get tree.procedures.items n ≡ Some procedure) (sym none) there,
            subst (λ (n : ℕ). slice_get typed.procedures n ≡ Some heading) (sym none) stands,
          ))
          own.procedures_are;
      main =
          main_pushes tree typed items.written.called pushes items.start (has_main tree) own.main own.main_is;
    }

-- the code bound that is counted on the nodes of tree code is that of its module
pub tree_bound_is :
    (typed : TypedModule) (storage : Storage) (tree : TreeModule)
    → IsSoundlyTyped typed
    → IsStored typed storage
    → IsLowered typed storage tree
    → bound_of_tree tree ≡ code_bound typed
unfolding bound_of_tree code_bound
tree_bound_is typed storage tree sound is lowered =
    let constants : size_of_contents tree.constants.items ≡ constant_bytes typed =
    ap (λ (list : List Content). size_of_contents list) lowered.constants
    ∙ constants_take typed storage tree.homes.items sound.storable is in
    omega (arith, constants, weight_is typed storage tree sound.parameters lowered)

-- what is counted of the object module that is made of tree code
is_counted :
    (typed : TypedModule) (storage : Storage) (tree : TreeModule) (object : ObjectModule)
    → IsSoundlyTyped typed
    → IsStored typed storage
    → IsLowered typed storage tree
    → IsGenerated tree object
    → IsCounted tree typed object
is_counted typed storage tree object sound stored_is lowered is =
    let bound = tree_bound_is typed storage tree sound stored_is lowered in
    record {
      size =
          subst (λ (most : ℕ). length_of object Code ≤ most) (sym bound)
          (segment_is_within_its_bound typed storage tree object (sound_for_bounds typed sound) lowered is);
      bound = bound;
      items = has_items tree object is;
      pushes =
          bodies_push tree typed object lowered.procedure_count
          (pushes_within_charges typed storage tree sound.types sound.frames sound.parameters lowered);
    }

pub counted :
    (tree : TreeModule) (object : ObjectModule)
    → IsGenerated tree object
    → OfItsModule tree (IsCounted tree) object
unfolding OfItsModule
counted tree object is typed code =
    is_counted typed code.storage tree object code.sound
    (stored typed code.storage code.laid_out) code.lowered is
