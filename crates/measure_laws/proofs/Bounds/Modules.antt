-- The code of a module takes at most as many bytes as its bound, and refers only to labels that may be
-- referred to.
use Rattle.measure_laws.proofs.Prelude.{bound_after, bound_first, items_both, contents_go, ◌≡◌, ℕ, suc, ◌+◌, ◌*◌, ◌≤◌, Bool, true, false, List, [], ◌∷◌, ◌++◌, length, slice_get, sum_by, Some, refl, sym, ap, subst, ◌∙◌, arith, sum_by-cons, HasParameters, BodyIsSound, TypedModule, TypedProcedure, TypesHoldInList, TypesHoldInProcedure, Within, WithinMain, WithinProcedure, code_bound, constant_bytes, weight_of, weight_of_list, Storage, Code, ObjectModule, length_of, Hlt, Item, set_bytes, size_of_items, size_in_parts, places_length, set_length, Routine, size_of_routine, TreeModule, ProcedureKind, TreeProcedure, HasBody, IsList, IsLowered, IsProcedure, labels_numbered_in_list, nodes_of, has_frame, parameter_count, has_parameters, numbered_at, Written, has_routine, Body, Here, AreCodeOf, AreRoutines, IsCodeOf, IsCodeOfMain, IsCodeOfRoutine, IsCodeWritten, IsEndCode, IsGenerated, IsOwnCode, IsProcedureCode, all_routines, contents_items, has_main, with_targets, bytes_for, IsSound, site_of, ItemsBind, ItemsGo, Knows, BodyGround, ListFootprint, inr, holds_for_item, FRAME_LIMIT, height_of_list}
use Rattle.typed_trees.specs.Weight.{weight_of_procedure}
use Rattle.treecode.specs.declared.procedure.ProcedureKind.TheVariants as kinds
use Rattle.asm8080.specs.declared.item.Item.TheVariants as items
use Rattle.treecode_laws.proofs.Labels.{main_label_has_one_number, procedure_label_has_one_number}
use Rattle.measure_laws.specs.internal.Footprints.{anywhere}
use Rattle.measure_laws.proofs.{Bounds.Constants.{constants_fit}, Bounds.Entries.{entry_fits}, Bounds.Numbering.{numbered_size}, Bounds.Returns.{end_fits}, Bounds.Statements.{whole_list_fits}, Footprints.Parts.{knows_anywhere}, Heights.Modules.{frame_is_small, source_of}, Labels.Lists.{LabelsDiffer, none_around}}

-- the routines that are called
bytes_of_routines : List Routine → ℕ
bytes_of_routines [] = 0
bytes_of_routines (routine ∷ others) = size_of_routine routine + bytes_of_routines others

routine_within :
    (tree : TreeModule) (written : Written) (routine : Routine) (is_called : Bool) (list : List Item)
    → IsCodeOfRoutine tree written routine is_called list
    → size_of_items list ≤ size_of_routine routine
routine_within tree written routine true list is =
    let size = ap size_of_items is.list_is in omega (arith, size, is.size)
routine_within tree written routine false list is = let size = ap size_of_items is in omega (arith, size)

routines_within :
    (tree : TreeModule) (called : List Bool) (written : Written) (routines : List Routine) (list : List Item)
    → AreRoutines tree called written routines list
    → size_of_items list ≤ bytes_of_routines routines
unfolding bytes_of_routines
routines_within tree called written [] list are = let size = ap size_of_items are in omega (arith, size)
routines_within tree called written (routine ∷ others) list are =
    let size = ap size_of_items are.4 in
    omega (
      arith,
      size,
      size_in_parts are.0 are.1,
      routine_within tree written routine (has_routine called routine) are.0 are.2,
      routines_within tree called written others are.1 are.3,
    )

-- all of them take 274 bytes
few_routines : bytes_of_routines all_routines ≤ 274
unfolding bytes_of_routines
few_routines = omega arith

-- a procedure has few parameters
module _
    (typed : TypedModule) (storage : Storage) (tree : TreeModule) (called : List Bool) (sound : IsSound typed)
    (number : ℕ) (procedure : TreeProcedure) (heading : TypedProcedure)
    (found : slice_get typed.procedures number ≡ Some heading)
    (is : IsProcedure typed (nodes_of tree) storage number procedure heading)
  where
    has : HasParameters typed number heading
    has = has_parameters typed number heading sound.parameters found

    as_many : length procedure.parameters.items ≡ length heading.parameters
    as_many =
        parameter_count typed number heading (nodes_of tree).homes procedure.parameters.items has
        is.has_body.parameters

    few_in_frame :
        (list : List Item) (code : IsProcedureCode tree called number procedure list) (kind : ProcedureKind)
        → procedure.kind ≡ kind
        → code.body.frame.now.parameter_count ≤ length procedure.parameters.items
    few_in_frame list code kinds.Reentrant same =
        let plan =
        code.frame.planned same
        (has_frame typed (nodes_of tree) storage number procedure heading sound.parameters
        sound.frames found is) in
        omega (arith, plan.parameter_count)
    few_in_frame list code kinds.Static same =
        let none = code.frame.empty (λ other. let never : ⊥ = cc in never) in
        omega (arith, none.parameter_count)
    few_in_frame list code (kinds.External name) same =
        let none = code.frame.empty (λ other. let never : ⊥ = cc in never) in
        omega (arith, none.parameter_count)

    pub few_parameters :
        (list : List Item) (code : IsProcedureCode tree called number procedure list)
        → code.body.frame.now.parameter_count ≤ 16
    few_parameters list code =
        let few = few_in_frame list code procedure.kind refl in omega (arith, few, as_many, has.count)

-- no label of a body has two numbers
body_differs :
    (typed : TypedModule) (procedure : TypedProcedure) (index : ℕ)
    → IsSound typed
    → slice_get typed.procedures index ≡ Some procedure
    → LabelsDiffer (labels_numbered_in_list procedure.body)
body_differs typed procedure index sound there =
    procedure_label_has_one_number typed index procedure sound.jumps
    (holds_for_item (λ (given : TypedProcedure). BodyIsSound given.body) typed.procedures index procedure
    sound.jumps.procedures there).stands there

-- code takes at most `most` bytes, and refers only to these labels
pub record CodeMeasured (ok : ℕ → Type 0) (list : List Item) (most : ℕ) : Type 0 where
  pub small : size_of_items list ≤ most
  pub goes : ItemsGo ok list

no_code : (ok : ℕ → Type 0) (list : List Item) (most : ℕ) → list ≡ [] → CodeMeasured ok list most
no_code ok list most is =
    subst (λ (items : List Item). CodeMeasured ok items most) (sym is)
    (record { small = omega arith; goes = tt })

module _
    (typed : TypedModule) (storage : Storage) (tree : TreeModule) (called : List Bool) (sound : IsSound typed)
    (lowered : IsLowered typed storage tree) (ok : ℕ → Type 0)
    (knows : (body : Body) → body.tree.now ≡ tree → Knows ok (site_of body) called)
  where
    abbrev Own : List Item → Type 0
    Own list = (label : ℕ) → ItemsBind label list → ok label

    -- the ground of a body where bytes and labels count
    abbrev ground_of : (body : Body) → body.tree.now ≡ tree → Within → (level : ℕ) → BodyGround
    ground_of body tree_is within level = record {
      body = body;
      called = called;
      source = source_of typed storage body.tree.now sound.parameters
          (subst (λ (one : TreeModule). IsLowered typed storage one) (sym tree_is) lowered) within;
      level = level;
      ok = ok;
      counts = Unit {0};
      pushes = ⊥;
      knows = λ c. knows body tree_is;
    }

    -- the statements of a body
    body_fits :
        (body : Body) (within : Within) (procedure : TreeProcedure) (heading : TypedProcedure)
        → (tree_is : body.tree.now ≡ tree)
        → body.frame.now.parameter_count ≤ 16
        → body.frame.now.variable_bytes ≤ FRAME_LIMIT
        → HasBody (nodes_of tree) storage procedure heading
        → TypesHoldInList typed within heading.body
        → BodyIsSound heading.body
        → LabelsDiffer (labels_numbered_in_list heading.body)
        → ListFootprint (ground_of body tree_is within (2 + 2 * height_of_list heading.body))
        procedure.body heading.body
    body_fits body within procedure heading tree_is few small has types jumps differ =
        let labels = labels_numbered_in_list heading.body in
        let at = ground_of body tree_is within (2 + 2 * height_of_list heading.body) in
        whole_list_fits at (λ c. few) small labels (λ c. differ) procedure.body []
        (subst (λ (one : TreeModule). IsList (nodes_of one) storage labels
        (length (nodes_of tree).statements) procedure.body
        heading.body) (sym tree_is) has.body)
        types (λ c. jumps.stands) (λ c. jumps.closed) (none_around at labels) (omega arith)

    -- the main program
    main_measured :
        (start : ℕ) (is_there : Bool) (list : List Item)
        → IsCodeOfMain tree called start is_there list
        → Own list
        → CodeMeasured ok list (4 + bytes_for (weight_of_list typed.main.body))
    main_measured start false list is own = no_code ok list _ is
    main_measured start true list is own =
        let size = ap size_of_items is.list_is in
        let statements =
        (body_fits is.body WithinMain tree.main typed.main is.tree_is
        (omega (arith, is.frame.parameter_count))
        (omega (arith, is.frame.variable_bytes)) lowered.main sound.types.main sound.jumps.main
        (main_label_has_one_number typed sound.jumps)).fits is.written
        (λ label bound c. own label
        (subst (λ given. ItemsBind label given) (sym is.list_is)
        (inr (inr (bound_first label is.statements (items.Plain Hlt ∷ []) bound))))) in
        record {
          small = omega
              (arith, size, size_in_parts is.statements (items.Plain Hlt ∷ []), statements.small tt);
          goes = subst (λ given. ItemsGo ok given) (sym is.list_is)
              (tt, (tt, items_both ok is.statements (items.Plain Hlt ∷ []) (statements.goes tt) (tt, tt)));
        }

    -- a procedure
    end_measured :
        (body : Body) (here : Here) (is_reached : Bool) (list : List Item)
        (tree_is : body.tree.now ≡ tree) (within : Within)
        → body.frame.now.variable_bytes ≤ FRAME_LIMIT
        → IsEndCode body called here is_reached list
        → Own list
        → CodeMeasured ok list (33 + 3 * body.frame.now.parameter_count)
    end_measured body here true list tree_is within small is own =
        let ends =
        (end_fits (ground_of body tree_is within 0) small).fits is.1 (λ label bound c. own label bound) in
        record { small = ends.small tt; goes = ends.goes tt }
    end_measured body here false list tree_is within small is own = no_code ok list _ is

    module _
        (number : ℕ) (procedure : TreeProcedure) (heading : TypedProcedure)
        (found : slice_get typed.procedures number ≡ Some heading)
        (is : IsProcedure typed (nodes_of tree) storage number procedure heading)
      where
        own_measured :
            (list : List Item)
            → IsProcedureCode tree called number procedure list
            → Own list
            → CodeMeasured ok list (bytes_for (weight_of_procedure heading))
        own_measured list code own =
            let few =
            few_in_frame typed storage tree called sound number procedure heading found is list code
            procedure.kind refl in
            let many = as_many typed storage tree called sound number procedure heading found is in
            let size = ap size_of_items code.list_is in
            let after = code.statements ++ code.ending in
            let inside : (label : ℕ) → ItemsBind label (code.beginning ++ after) → ok label =
            λ label bound. own label
            (subst (λ given. ItemsBind label given) (sym code.list_is) (inr bound)) in
            let within = WithinProcedure number heading.result in
            let begins =
            (entry_fits {at = ground_of code.body code.tree_is within 0} (λ none. none) code.first).fits
            code.begins
            (λ label bound c. inside label (bound_first label code.beginning after bound)) in
            let given = ap (λ (one : TreeProcedure). length one.parameters.items) code.procedure_is in
            let small =
            frame_is_small typed storage tree number procedure heading code.body sound.frames
            sound.parameters found is
            code.frame in
            let statements =
            (body_fits code.body within procedure heading code.tree_is
            (few_parameters typed storage tree called sound number procedure heading found is list code)
            small is.has_body
            (numbered_at (TypesHoldInProcedure typed) typed.procedures number heading
            sound.types.procedures found)
            (holds_for_item (λ (one : TypedProcedure). BodyIsSound one.body) typed.procedures number heading
            sound.jumps.procedures found) (body_differs typed heading number sound found)).fits code.written
            (λ label bound c. inside label
            (bound_after label code.beginning after (bound_first label code.statements code.ending bound))) in
            let ends =
            end_measured code.body code.last procedure.reaches_its_end code.ending code.tree_is
            within small code.ends
            (λ label bound. inside label
            (bound_after label code.beginning after (bound_after label code.statements code.ending bound))) in
            record {
              small = omega (
                arith,
                size,
                size_in_parts code.beginning after,
                size_in_parts code.statements code.ending,
                begins.small tt,
                given,
                statements.small tt,
                ends.small,
                few,
                many,
              );
              goes = subst (λ given. ItemsGo ok given) (sym code.list_is) (
                tt,
                items_both ok code.beginning after (begins.goes tt)
                    (items_both ok code.statements code.ending (statements.goes tt) ends.goes),
              );
            }

        code_measured :
            (kind : ProcedureKind) (list : List Item)
            → IsCodeOf tree called number procedure kind list
            → Own list
            → CodeMeasured ok list (bytes_for (weight_of_procedure heading))
        code_measured kinds.Reentrant list code own = own_measured list code own
        code_measured kinds.Static list code own = own_measured list code own
        code_measured (kinds.External name) list none own = no_code ok list _ none

    -- procedures one after another
    procedures_measured :
        (number : ℕ) (procedures : List TreeProcedure) (headings : List TypedProcedure) (list : List Item)
        → length procedures ≡ length headings
        → ((index : ℕ) (procedure : TreeProcedure) (heading : TypedProcedure)
        → slice_get procedures index ≡ Some procedure
        → slice_get headings index ≡ Some heading
        → (slice_get tree.procedures.items (number + index) ≡ Some procedure)
        × (slice_get typed.procedures (number + index) ≡ Some heading))
        → AreCodeOf tree called number procedures list
        → Own list
        → CodeMeasured ok list (bytes_for (sum_by weight_of_procedure headings))
    procedures_measured number [] headings list same there are own = no_code ok list _ are
    procedures_measured number (procedure ∷ procedures) [] list same there are own =
        absurd (omega (arith, same))
    procedures_measured number (procedure ∷ procedures) (heading ∷ headings) list same there are own =
        let size = ap size_of_items are.4 in
        let inside : (label : ℕ) → ItemsBind label (are.0 ++ are.1) → ok label =
        λ label bound. own label (subst (λ given. ItemsBind label given) (sym are.4) bound) in
        let here = there 0 procedure heading refl refl in
        let at : number + 0 ≡ number = omega arith in
        let tree_there =
        subst (λ (n : ℕ). slice_get tree.procedures.items n ≡ Some procedure) at here.0 in
        let typed_there = subst (λ (n : ℕ). slice_get typed.procedures n ≡ Some heading) at here.1 in
        let one =
        code_measured number procedure heading typed_there
        (lowered.procedures number procedure heading tree_there typed_there)
        procedure.kind are.0 are.2 (λ label bound. inside label (bound_first label are.0 are.1 bound)) in
        let rest =
        procedures_measured (suc number) procedures headings are.1 (omega (arith, same))
        (λ index one other one_there other_there.
        let next = there (suc index) one other one_there other_there in
        let further : number + suc index ≡ suc number + index = omega arith in (
          subst (λ (n : ℕ). slice_get tree.procedures.items n ≡ Some one) further next.0,
          subst (λ (n : ℕ). slice_get typed.procedures n ≡ Some other) further next.1,
        ))
        are.3 (λ label bound. inside label (bound_after label are.0 are.1 bound)) in
        record {
          small = omega (
            arith,
            size,
            size_in_parts are.0 are.1,
            one.small,
            rest.small,
            sum_by-cons weight_of_procedure heading headings,
          );
          goes = subst (λ given. ItemsGo ok given) (sym are.4) (items_both ok are.0 are.1 one.goes rest.goes);
        }

    -- the constants, the main program and the procedures
    pub own_code_measured :
        (start : ℕ) (list : List Item)
        → IsOwnCode tree called start list
        → Own list
        → CodeMeasured ok list (constant_bytes typed + 4 + bytes_for (weight_of typed))
    unfolding weight_of
    own_code_measured start list is own =
        let size = ap size_of_items is.list_is in
        let constant_items = contents_items tree.constants.items in
        let inside : (label : ℕ) → ItemsBind label (constant_items ++ (is.main ++ is.procedures)) → ok label =
        λ label bound. own label (subst (λ given. ItemsBind label given) (sym is.list_is) bound) in
        let constants : size_of_items constant_items ≤ constant_bytes typed =
        subst (λ (n : ℕ). n ≤ constant_bytes typed)
        (ap (λ given. size_of_items (contents_items given)) (sym lowered.constants))
        (constants_fit typed tree.homes.items sound.storable) in
        let main =
        main_measured start (has_main tree) is.main is.main_is
        (λ label bound. inside label
        (bound_after label constant_items (is.main ++ is.procedures)
        (bound_first label is.main is.procedures bound))) in
        let procedures =
        procedures_measured 0 tree.procedures.items typed.procedures is.procedures lowered.procedure_count
        (λ index procedure heading tree_there typed_there.
        let none : 0 + index ≡ index = omega arith in (
          subst (λ (n : ℕ). slice_get tree.procedures.items n ≡ Some procedure) (sym none) tree_there,
          subst (λ (n : ℕ). slice_get typed.procedures n ≡ Some heading) (sym none) typed_there,
        ))
        is.procedures_are
        (λ label bound. inside label
        (bound_after label constant_items (is.main ++ is.procedures)
        (bound_after label is.main is.procedures bound))) in
        record {
          small = omega (
            arith,
            size,
            size_in_parts constant_items (is.main ++ is.procedures),
            size_in_parts is.main is.procedures,
            constants,
            main.small,
            procedures.small,
          );
          goes = subst (λ given. ItemsGo ok given) (sym is.list_is)
              (items_both ok constant_items (is.main ++ is.procedures) (contents_go ok tree.constants.items)
              (items_both ok is.main is.procedures main.goes procedures.goes));
        }

-- the code of a module as it was written
pub module_fits :
    (typed : TypedModule) (storage : Storage) (tree : TreeModule) (start : ℕ) (written : Written)
    → IsSound typed
    → IsLowered typed storage tree
    → IsCodeWritten tree start written
    → size_of_items written.code.items ≤ code_bound typed
unfolding code_bound
module_fits typed storage tree start written sound lowered is =
    let size = ap size_of_items is.items_are in
    let own =
    (own_code_measured typed storage tree is.called sound lowered anywhere
    (λ body tree_is. knows_anywhere (site_of body) is.called) start is.own is.own_is
    (λ label bound. tt)).small in
    let listed = routines_within tree is.called written all_routines is.listed is.listed_are in
    omega (
      arith,
      size,
      size_in_parts is.made is.listed,
      numbered_size written is.own is.made is.same,
      own,
      listed,
      few_routines,
    )

-- the code as a segment of its object module
pub code_segment_fits :
    (typed : TypedModule) (storage : Storage) (tree : TreeModule) (object : ObjectModule)
    → IsSound typed
    → IsLowered typed storage tree
    → IsGenerated tree object
    → length_of object Code ≤ code_bound typed
code_segment_fits typed storage tree object sound lowered is =
    let segment = is.code_segment in
    let moved = with_targets is.to is.code_bytes in
    let places : length object.code.places ≡ length is.code_bytes.bytes =
    ap (λ given. length given) segment.same
    ∙ places_length moved.fixes 0 (set_bytes is.code_bytes.bytes is.code_bytes.is_set)
    ∙ set_length is.code_bytes.bytes is.code_bytes.is_set in
    omega (
      arith,
      places,
      segment.assembles.size,
      module_fits typed storage tree is.start_label is.code sound lowered is.code_is,
    )
