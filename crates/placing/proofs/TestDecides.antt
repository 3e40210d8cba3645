-- The test of a placement decides whether it is lawful.
use Rattle.placing.proofs.Prelude.{◌≡◌, Bool, true, false, not, List, length, nat_eq, Option, None, Some, refl, ap, sym, ◌∙◌, ◌↔◌, IsTrue, zip, option_map_or, eqb-true, eq-eqb, All-from_recursion, recursion_from_All, TypedModule, Placement, pieces_of, HasAddresses, LiesWhereAtSays, IsLawful, claim_modules, modules_fit, unclaimed, ends_in_memory, ranges_meet, ranges_fit, all_fit, is_lawful}
use Rattle.placing.proofs.Claiming.{ends_in_memory_holds, ends_true, each_of_three, all_three}
use Rattle.placing.proofs.PieceOrder.{modules_order, ModulesFit, modules_parts, modules_from}
use Rattle.placing.proofs.PiecesLawful.{LieLawfully, lie_lawfully, ranges_apart, apart_true}
use Rattle.placing.proofs.ClaimsSucceed.{Succeed, succeed}

some_table :
    (test : List Bool → Bool) (found : Option (List Bool))
    → option_map_or test found false ≡ true
    → (table : List Bool) × (found ≡ Some table) × (test table ≡ true)
some_table test None is = absurd (cc)
some_table test (Some table) is = (table, refl, is)

module _ (modules : List TypedModule) (placement : Placement) where
  abbrev counted : Bool
  counted = nat_eq (length placement.modules) (length modules)

  parts :
      is_lawful modules placement ≡ true
      → (counted ≡ true)
      × (ranges_fit placement.code placement.stack ≡ true)
      × (all_fit placement.code placement.stack modules placement.modules ≡ true)
  unfolding is_lawful
  parts is =
      each_of_three counted (ranges_fit placement.code placement.stack)
      (all_fit placement.code placement.stack modules placement.modules) is

  range_parts :
      ranges_fit placement.code placement.stack ≡ true
      → (ends_in_memory placement.code ≡ true)
      × (ends_in_memory placement.stack ≡ true)
      × (not (ranges_meet placement.code placement.stack) ≡ true)
  unfolding ranges_fit
  range_parts is =
      each_of_three (ends_in_memory placement.code) (ends_in_memory placement.stack)
      (not (ranges_meet placement.code placement.stack)) is

  fit_parts :
      all_fit placement.code placement.stack modules placement.modules ≡ true
      → (table : List Bool)
      × (claim_modules placement.code placement.stack modules placement.modules unclaimed ≡ Some table)
      × (modules_fit placement.code placement.stack table modules placement.modules ≡ true)
  unfolding all_fit
  fit_parts is =
      some_table (λ table. modules_fit placement.code placement.stack table modules placement.modules)
      (claim_modules placement.code placement.stack modules placement.modules unclaimed) is

  sound : is_lawful modules placement ≡ true → IsLawful modules placement
  sound is =
      let all = parts is in
      let ranges = range_parts all.1 in
      let found = fit_parts all.2 in
      let fit : ModulesFit placement.code placement.stack found.0 modules placement.modules =
      modules_parts placement.code placement.stack found.0 modules placement.modules found.2 in
      let lie : LieLawfully placement.code placement.stack (pieces_of modules placement) =
      lie_lawfully placement.code placement.stack (pieces_of modules placement) found.0
      (sym (modules_order placement.code placement.stack modules placement.modules unclaimed) ∙ found.1)
      fit.may in
      record {
        for_each_module = eqb-true (length placement.modules) (length modules) all.0;
        complete = All-from_recursion HasAddresses (zip modules placement.modules) fit.has;
        in_memory = lie.in_memory;
        code_in_memory = ends_in_memory_holds placement.code ranges.0;
        stack_in_memory = ends_in_memory_holds placement.stack ranges.1;
        disjoint = lie.disjoint;
        where_at_says = All-from_recursion LiesWhereAtSays (zip modules placement.modules) fit.lie;
        constants_in_code = lie.constants_in_code;
        code_apart_from_stack =
            λ meets. ranges_apart placement.code placement.stack ranges.2 meets.0 meets.1 meets.2;
        not_in_code = λ a writable. lie.not_in_code a writable.declared writable.variable;
        not_in_stack = λ a writable. lie.not_in_stack a writable.declared writable.variable;
      }

  fits_from :
      (table : List Bool)
      → claim_modules placement.code placement.stack modules placement.modules unclaimed ≡ Some table
      → modules_fit placement.code placement.stack table modules placement.modules ≡ true
      → all_fit placement.code placement.stack modules placement.modules ≡ true
  unfolding all_fit
  fits_from table is fit =
      ap (λ found. option_map_or (λ table. modules_fit placement.code placement.stack table modules
      placement.modules) found false) is
      ∙ fit

  ranges_from : IsLawful modules placement → ranges_fit placement.code placement.stack ≡ true
  unfolding ranges_fit
  ranges_from lawful =
      all_three (ends_in_memory placement.code) (ends_in_memory placement.stack)
      (not (ranges_meet placement.code placement.stack))
      (ends_true placement.code lawful.code_in_memory)
      (ends_true placement.stack lawful.stack_in_memory)
      (apart_true placement.code placement.stack
      (λ a in_code in_stack. lawful.code_apart_from_stack (a, in_code, in_stack)))

  lies : IsLawful modules placement → LieLawfully placement.code placement.stack (pieces_of modules placement)
  lies lawful = record {
    in_memory = lawful.in_memory;
    disjoint = lawful.disjoint;
    constants_in_code = lawful.constants_in_code;
    not_in_code = λ a one variable. lawful.not_in_code a (record { declared = one; variable = variable });
    not_in_stack = λ a one variable. lawful.not_in_stack a (record { declared = one; variable = variable });
  }

  all_from :
      IsLawful modules placement
      → all_fit placement.code placement.stack modules placement.modules ≡ true
  all_from lawful =
      let found : Succeed placement.code placement.stack (pieces_of modules placement) =
      succeed placement.code placement.stack (pieces_of modules placement)
      lawful.code_apart_from_stack (lies lawful) in
      let fit : ModulesFit placement.code placement.stack found.table modules placement.modules = record {
        has = recursion_from_All HasAddresses (zip modules placement.modules) lawful.complete;
        lie = recursion_from_All LiesWhereAtSays (zip modules placement.modules) lawful.where_at_says;
        may = found.at_may_lie;
      } in
      fits_from found.table
      (modules_order placement.code placement.stack modules placement.modules unclaimed ∙ found.claims)
      (modules_from placement.code placement.stack found.table modules placement.modules fit)

  complete : IsLawful modules placement → is_lawful modules placement ≡ true
  unfolding is_lawful
  complete lawful =
      all_three counted (ranges_fit placement.code placement.stack)
      (all_fit placement.code placement.stack modules placement.modules)
      (eq-eqb (length placement.modules) (length modules) lawful.for_each_module)
      (ranges_from lawful) (all_from lawful)

  pub decides :
      (result : Bool)
      → result ≡ is_lawful modules placement
      → IsTrue result ↔ IsLawful modules placement
  decides result is = ((λ accepted. sound (sym is ∙ accepted)), (λ lawful. is ∙ complete lawful))
