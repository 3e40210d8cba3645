-- Where the room is as much as each chain of calls is charged, no run goes outside for the stack.
use Rattle.stack_need.proofs.Prelude.{◌≡◌, ◌≢◌, ℕ, zero, suc, ◌+◌, ◌-◌, ◌<◌, ◌≤◌, Bool, true, false, List, [], ◌∷◌, Option, Some, None, option_map, cond, find, slice_get, Contains, nat_lt, ltb-true, arith, refl, sym, ap, subst, AllByRecursion, option_map_or, ScalarType, charge_of, TypedProcedure, TypedModule, InProgram, is_main, starting_memory, Stack, Surroundings, place_of, write_scalar, Later, called, charged, done_list, entered, frame_of, later_by, parameters_set, procedure_at, Program, State, Outside, Outcome, Gave, Stopped, Flow, Onward, main_done, number_of_main, run_of, source_run, calls_in_list, Body, IsChain, body_of, call_graph, callees_of, charge_in, charges_of_chain, number_of_body, procedure_called, Holds, HoldsAll, HoldsCall, IsNotStack, LaterStays, StaysWithin}
use Rattle.stack_need.specs.StackNeed.{IsEnough}
use Rattle.stack_need.proofs.Elements.{all_made}
use Rattle.stack_need.proofs.Bodies.{stands}
use Rattle.stack_need.proofs.Within.{changes_scalar, then_do_stays, takes_one}
use Rattle.stack_need.proofs.WithinStatements.{list_stays, rest_stays, turn_stays}

pub sets_parameters : (scalars : List ScalarType) (parameters arguments : List ℕ) (around : Surroundings)
    (s : State) → StaysWithin (parameters_set around scalars parameters arguments s)
sets_parameters [] parameters arguments around s = tt
sets_parameters (scalar ∷ scalars) [] arguments around s = tt
sets_parameters (scalar ∷ scalars) (parameter ∷ parameters) [] around s = tt
sets_parameters (scalar ∷ scalars) (parameter ∷ parameters) (argument ∷ arguments) around s =
    then_do_stays (write_scalar around.program scalar (place_of around parameter) argument s) _
    (changes_scalar around.program scalar (place_of around parameter) argument s)
    (λ done t. sets_parameters scalars parameters arguments around t)

-- what holds of each element holds of what follows from it
all_follow : {A : Type 0} (P Q : A → Type 0) → ((one : A) → P one → Q one) → (items : List A)
    → AllByRecursion P items → AllByRecursion Q items
all_follow P Q follows [] all = tt
all_follow P Q follows (item ∷ others) all = (follows item all.0, all_follow P Q follows others all.1)

-- the room is as much as each chain from a body on is charged
abbrev LeavesRoom : List Body → (number room : ℕ) → Type 0
LeavesRoom graph number room =
    (others : List ℕ) → IsChain graph number others → charges_of_chain graph number others ≤ room

-- the room that is left is enough for what a body calls
module _ (program : Program) (number number_of_module room : ℕ) (procedure : TypedProcedure)
    (found : slice_get (call_graph program.modules) number
    ≡ Some (body_of program.modules number_of_module procedure))
    (leaves : LeavesRoom (call_graph program.modules) number room) where
  abbrev graph : List Body
  graph = call_graph program.modules

  abbrev within : Surroundings
  within =
      record { program = program; number_of_module = number_of_module; room = room - charge_of procedure }

  charged_so : charge_in graph number ≡ charge_of procedure
  charged_so = ap (λ (one : Option Body). option_map_or (λ (body : Body). body.charge) one 0) found

  calls_so : callees_of graph number ≡ (body_of program.modules number_of_module procedure).callees
  calls_so = ap (λ (one : Option Body). option_map_or (λ (body : Body). body.callees) one []) found

  pub is_charged : charge_of procedure ≤ room
  is_charged = subst (λ charge. charge ≤ room) charged_so (leaves [] tt)

  callee_leaves : (callee : ℕ) → Contains (body_of program.modules number_of_module procedure).callees callee
      → LeavesRoom graph callee (room - charge_of procedure)
  callee_leaves callee called others chain =
      let called' : Contains (callees_of graph number) callee =
      subst (λ all. Contains all callee) (sym calls_so) called in
      let sum : charge_in graph number + charges_of_chain graph callee others ≤ room =
      leaves (callee ∷ others) (called', chain) in
      omega (arith, sum, charged_so)

  pub calls_hold : HoldsAll within (calls_in_list procedure.body)
  calls_hold =
      all_follow
      (λ from. (to : ℕ) → option_map (number_of_body program.modules)
      (procedure_called program.modules number_of_module from) ≡ Some to
      → LeavesRoom graph to (room - charge_of procedure))
      (HoldsCall within)
      (λ from holds at same. holds (number_of_body program.modules at)
      (ap (option_map (number_of_body program.modules)) same))
      (calls_in_list procedure.body)
      (all_made (λ called. option_map (number_of_body program.modules)
      (procedure_called program.modules number_of_module called))
      (λ from to. LeavesRoom graph to (room - charge_of procedure))
      (calls_in_list procedure.body) (λ from to same called. callee_leaves to called))

module _ (later : Later) (stays : LaterStays later) where
  enters : (typed : TypedModule) (at : ℕ) (procedure : TypedProcedure) (arguments : List ℕ)
      (around : Surroundings) (s : State) → HoldsAll around (calls_in_list procedure.body)
      → StaysWithin (entered later typed at procedure arguments around s)
  enters typed at procedure arguments around s holds =
      then_do_stays
      (parameters_set around procedure.parameter_types procedure.parameters arguments
      (record s { frame = frame_of at typed })) _
      (sets_parameters procedure.parameter_types procedure.parameters arguments around
      (record s { frame = frame_of at typed }))
      (λ done t. then_do_stays (done_list later around procedure.body t) _
      (list_stays later stays procedure.body around t holds) (λ flow u. tt))

  -- where the charge is not more than the room
  charged_within : {A : Type 0} (charge : ℕ) (around : Surroundings) (s : State)
      (go : Surroundings → State → Outcome A) → charge ≤ around.room
      → StaysWithin (go (record around { room = around.room - charge }) s)
      → StaysWithin (charged charge around s go)
  charged_within charge around s go enough stays = by (nat_lt around.room charge) refl
    where
      by : (test : Bool) → nat_lt around.room charge ≡ test
          → StaysWithin
          (cond test (Stopped (Outside Stack) s) (go (record around { room = around.room - charge }) s))
      by true less =
          absurd (let below : around.room < charge = ltb-true around.room charge less in omega (arith, below, enough))
      by false less = stays

  finds : (found : Option (TypedModule × TypedProcedure)) (at : InProgram) (arguments : List ℕ)
      (around : Surroundings) (s : State) → procedure_at around.program.modules at ≡ found → Holds around at
      → StaysWithin
      (option_map_or
      (λ (one : TypedModule × TypedProcedure).
      charged (charge_of one.1) (record around { number_of_module = at.number_of_module }) s
      (λ within u. entered later one.0 at.number one.1 arguments within u))
      found (Gave 0 s))
  finds None at arguments around s is holds = tt
  finds (Some one) at arguments around s is holds =
      let body : slice_get (call_graph around.program.modules) (number_of_body around.program.modules at)
      ≡ Some (body_of around.program.modules at.number_of_module one.1) =
      stands around.program.modules at one is in
      charged_within (charge_of one.1) (record around { number_of_module = at.number_of_module }) s
      (λ inner u. entered later one.0 at.number one.1 arguments inner u)
      (is_charged around.program (number_of_body around.program.modules at) at.number_of_module
      around.room one.1 body holds)
      (enters one.0 at.number one.1 arguments
      (record around { number_of_module = at.number_of_module; room = around.room - charge_of one.1 }) s
      (calls_hold around.program (number_of_body around.program.modules at) at.number_of_module
      around.room one.1 body holds))

  pub call_stays : (at : InProgram) (arguments : List ℕ) (around : Surroundings) (s : State) → Holds around at
      → StaysWithin (called later at arguments around s)
  call_stays at arguments around s holds =
      takes_one s _ (λ t. finds (procedure_at around.program.modules at) at arguments around t refl holds)

pub later_stays : (number : ℕ) → LaterStays (later_by number)
later_stays zero = record {
  call = λ at arguments around s holds. tt;
  again = λ turn around s holds. tt;
  onto = λ list rest around s holds in_rest. tt;
}
later_stays (suc number) = record {
  call = λ at arguments around s holds. call_stays (later_by number) (later_stays number) at
      arguments around s holds;
  again = λ turn around s holds. turn_stays (later_by number) (later_stays number) turn around s holds;
  onto = λ list rest around s holds in_rest. rest_stays (later_by number) (later_stays number) list rest
      around s holds in_rest;
}

-- the body of the main module
main_stays : (found : Option TypedModule) (budget : ℕ) (program : Program) (room : ℕ) (s t : State)
    → find is_main program.modules ≡ found → LeavesRoom (call_graph program.modules) 0 room
    → StaysWithin
    (option_map_or (λ (typed : TypedModule). main_done budget typed
    (record { program = program; number_of_module = number_of_main program.modules; room = room }) s)
    found (Gave Onward t))
unfolding call_graph
main_stays None budget program room s t is leaves = tt
main_stays (Some typed) budget program room s t is leaves =
    let body : slice_get (call_graph program.modules) 0
    ≡ Some (body_of program.modules (number_of_main program.modules) typed.main) =
    ap (λ (one : Option TypedModule). Some
    (option_map_or (λ (typed : TypedModule). body_of program.modules (number_of_main program.modules)
    typed.main) one (record { charge = 0; callees = [] }))) is in
    charged_within (later_by (suc budget)) (later_stays (suc budget)) (charge_of typed.main)
    (record { program = program; number_of_module = number_of_main program.modules; room = room }) s
    (λ inner u. done_list (later_by (suc budget)) inner typed.main.body u)
    (is_charged program 0 (number_of_main program.modules) room typed.main body leaves)
    (list_stays (later_by (suc budget)) (later_stays (suc budget)) typed.main.body
    (record { program = program; number_of_module = number_of_main program.modules; room = room - charge_of typed.main }) s
    (calls_hold program 0 (number_of_main program.modules) room typed.main body leaves))

not_stack : (outcome : Outcome Flow) → StaysWithin outcome → (run_of outcome).end ≢ Outside Stack
not_stack (Gave flow s) stays same = let bad : ⊥ = cc in bad
not_stack (Stopped why s) stays same = subst IsNotStack same stays

-- A room that is as much as each chain of calls from the main module is charged is enough.
pub is_enough : (modules : List TypedModule) (need : ℕ) → LeavesRoom (call_graph modules) 0 need
    → IsEnough modules need
unfolding source_run
is_enough modules need leaves placement room memory script events budget least =
    not_stack _
    (main_stays (find is_main modules) budget
    (record { modules = modules; placement = placement; script = script }) room
    (record { memory = starting_memory modules placement memory; frame = []; events = events; budget = budget })
    (record { memory = starting_memory modules placement memory; frame = []; events = events; budget = budget }) refl
    (λ others chain. let sum : charges_of_chain (call_graph
    modules) 0 others ≤ need = leaves others chain in omega (arith, sum, least)))
