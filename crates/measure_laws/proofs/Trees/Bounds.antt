-- The weight and the code bound of tree code are those of its module.
use Rattle.measure_laws.proofs.Prelude.{◌≡◌, ℕ, suc, List, [], ◌∷◌, length, slice_get, Some, Ok, refl, ap, ◌∙◌, arith, sum_by, sum_by-cons, ParametersFit, IsStorable, TypedModule, TypedProcedure, code_bound, constant_bytes, weight_of, Storage, storage_of, Content, TreeModule, TreeProcedure, IsLowered, labels_numbered_in_list, nodes_of, stored, parameter_count, has_parameters, bound_of_tree, size_of_contents, weight_of_procedure, weight_of_tree}
use Rattle.typed_trees.specs.Weight as typed_weight
use Rattle.measure_laws.proofs.{Trees.Constants.{constants_take}, Trees.Statements.{body_weighs}}

module _
    (typed : TypedModule) (storage : Storage) (tree : TreeModule) (parameters : ParametersFit typed)
    (lowered : IsLowered typed storage tree)
  where
    procedure_weighs :
        (number : ℕ) (procedure : TreeProcedure) (heading : TypedProcedure)
        → slice_get tree.procedures.items number ≡ Some procedure
        → slice_get typed.procedures number ≡ Some heading
        → weight_of_procedure (nodes_of tree) procedure ≡ typed_weight.weight_of_procedure heading
    procedure_weighs number procedure heading there stands =
        let is = lowered.procedures number procedure heading there stands in
        omega (
          arith,
          parameter_count typed number heading (nodes_of tree).homes procedure.parameters.items
              (has_parameters typed number heading parameters stands) is.has_body.parameters,
          body_weighs (nodes_of tree) storage (labels_numbered_in_list heading.body)
              procedure.body heading.body
              is.has_body.body,
        )

    -- procedures one after another
    procedures_weigh :
        (procedures : List TreeProcedure) (headings : List TypedProcedure)
        → length procedures ≡ length headings
        → ((index : ℕ) (procedure : TreeProcedure) (heading : TypedProcedure)
        → slice_get procedures index ≡ Some procedure
        → slice_get headings index ≡ Some heading
        → weight_of_procedure (nodes_of tree) procedure ≡ typed_weight.weight_of_procedure heading)
        → sum_by (weight_of_procedure (nodes_of tree)) procedures
        ≡ sum_by typed_weight.weight_of_procedure headings
    procedures_weigh [] [] same weigh = refl
    procedures_weigh [] (heading ∷ headings) same weigh = absurd (omega (arith, same))
    procedures_weigh (procedure ∷ procedures) [] same weigh = absurd (omega (arith, same))
    procedures_weigh (procedure ∷ procedures) (heading ∷ headings) same weigh =
        omega (
          arith,
          weigh 0 procedure heading refl refl,
          procedures_weigh procedures headings (omega (arith, same))
              (λ index one other there stands. weigh (suc index) one other there stands),
          sum_by-cons (weight_of_procedure (nodes_of tree)) procedure procedures,
          sum_by-cons typed_weight.weight_of_procedure heading headings,
        )

-- the weight of tree code is that of its module
pub weight_is :
    (typed : TypedModule) (storage : Storage) (tree : TreeModule)
    → ParametersFit typed
    → IsLowered typed storage tree
    → weight_of_tree tree ≡ weight_of typed
unfolding weight_of_tree weight_of
weight_is typed storage tree parameters lowered =
    omega (
      arith,
      procedures_weigh typed storage tree parameters lowered tree.procedures.items typed.procedures
          lowered.procedure_count (procedure_weighs typed storage tree parameters lowered),
      body_weighs (nodes_of tree) storage (labels_numbered_in_list typed.main.body)
          tree.main.body typed.main.body
          lowered.main.body,
    )

-- its code bound is that of its module
pub bound_is :
    (typed : TypedModule) (storage : Storage) (tree : TreeModule)
    → ParametersFit typed
    → IsStorable typed
    → storage_of typed ≡ Ok storage
    → IsLowered typed storage tree
    → bound_of_tree tree ≡ code_bound typed
unfolding bound_of_tree code_bound
bound_is typed storage tree parameters storable stored_is lowered =
    let constants : size_of_contents tree.constants.items ≡ constant_bytes typed =
    ap (λ (list : List Content). size_of_contents list) lowered.constants
    ∙ constants_take typed storage tree.homes.items storable (stored typed storage stored_is) in
    omega (arith, constants, weight_is typed storage tree parameters lowered)
