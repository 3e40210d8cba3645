-- No case of the meaning that is there for trees that no source has is taken in a program.
use Rattle.meaning_laws.proofs.Prelude.{◌≡◌, ℕ, ◌<◌, List, [], length, replicate, Some, slice_get, refl, sym, subst, All, length-replicate, All-weaker, recursion_from_All, MEMORY_SIZE, Address, ListStands, IsStorable, TypedStatements, TypedList, ListOf, TypedModule, Within, IsSoundlyTyped, Placement, StartsAs, starting_memory, starts_as, Surroundings, rest_from, Program, State, later_is_meant, rest_at, HasBytes, IsWhole, IsPlaceable, at_place}
use Rattle.meaning_laws.specs.internal.Defaults.{BeginsWith, BeginsWithAll, FindsBytes, KeepsBytes, TakesNoDefault, TakesNoDefaultIn}
use Rattle.meaning_laws.proofs.WritableBytes.{callee_has_bytes, counter_is_there, jump_takes_one, list_leaves_bytes, location_leaves_bytes, main_has_bytes, parameters_leave_bytes, scalar_is_there, statement_leaves_bytes, store_leaves_bytes, value_leaves_bytes, values_leave_bytes, variable_is_there}
use Rattle.meaning_laws.proofs.Calls.{location_is_in_memory, values_are_counted}
use Rattle.meaning_laws.proofs.Declared.{declared_in_memory}
use Rattle.meaning_laws.proofs.Leaving.{main_is_left, procedure_is_left}
use Rattle.meaning_laws.proofs.Mains.{main_is_there}
use Rattle.meaning_laws.proofs.Named.{names_are_meant}
use Rattle.meaning_laws.proofs.Places.{locations_lie, objects_lie}

-- the rest of a list from a label on begins with the label
begins_with : (list : TypedList) (label : ℕ) (rest : TypedStatements) → ListStands list
    → rest_from label list ≡ Some rest → BeginsWith label rest
begins_with (ListOf first places statements) label rest stands is =
    let at = rest_at first label places statements rest stands.0 is in
    subst (λ (found : TypedStatements). BeginsWith label found) (sym at.begins) refl

module _ (around : Surroundings) (typed : TypedModule)
    (here : slice_get around.program.modules around.number_of_module ≡ Some typed) where
  keeps_bytes : (within : Within) (number : ℕ) (s : State) → s.budget < number → HasBytes typed within s
      → KeepsBytes around typed within number s
  keeps_bytes within number s below has = record {
    values = values_leave_bytes number around typed within s below has;
    value = value_leaves_bytes number around typed within s below has;
    place = location_leaves_bytes number around typed within s below has;
    store = store_leaves_bytes number around typed within s below has;
    statement = statement_leaves_bytes number around typed within s below has;
    jump = jump_takes_one number around typed within s below has;
    list = list_leaves_bytes number around typed within s below has;
    parameters = λ scalars parameters arguments.
        parameters_leave_bytes around typed within scalars parameters arguments s has;
  }

  finds_bytes : (within : Within) (number : ℕ) (s : State) → s.budget < number → HasBytes typed within s
      → FindsBytes around typed within number s
  finds_bytes within number s below has = record {
    scalar = λ scalar reference refers.
        scalar_is_there number around typed within scalar reference s here refers below has;
    base = λ object found is is_scalar lies.
        variable_is_there around typed within here Address object found s is is_scalar lies has;
    counter = λ head counts. counter_is_there around typed within here head s counts has;
  }

  in_module : IsWhole around.program → All IsPlaceable around.program.modules → TakesNoDefaultIn around typed
  in_module whole placeable =
      let sound : IsSoundlyTyped typed =
      at_place IsSoundlyTyped around.program.modules around.number_of_module typed
      (recursion_from_All IsSoundlyTyped around.program.modules whole.sound) here in
      record {
        types = sound.types;
        jumps = sound.jumps;
        named = names_are_meant around whole typed here;
        objects = objects_lie around.program whole placeable around.number_of_module typed here;
        locations = locations_lie around.program whole placeable around.number_of_module typed here;
        addresses = λ later within reference s refers.
            location_is_in_memory later around typed within reference s here refers;
        counted = λ later arguments s. values_are_counted later around arguments s;
        left = λ number count procedure s is.
            procedure_is_left typed number procedure count around s sound.jumps is;
        main_left = λ count s. main_is_left typed count around s sound.jumps sound.types;
        main_begins = λ given s size is. main_has_bytes around.program whole given size typed s is;
        callee_begins = λ heading at procedure s callee is_module size.
            callee_has_bytes around heading at typed procedure s callee is_module size;
        kept = keeps_bytes;
        there = finds_bytes;
      }

begins_with_all : (program : Program) → IsWhole program → BeginsWithAll program
begins_with_all program whole =
    let starts : (given : List ℕ) → length given ≡ MEMORY_SIZE
    → StartsAs program.modules program.placement given
    (starting_memory program.modules program.placement given) =
    λ given size.
    starts_as program.modules program.placement given whole.lawful
    (All-weaker IsSoundlyTyped IsStorable (λ typed sound. sound.storable) program.modules whole.sound) size in
    record {
      for_each_module = (whole.lawful).for_each_module;
      complete = (whole.lawful).complete;
      in_memory = λ contents among address covers.
          declared_in_memory program.modules program.placement address whole.lawful
          ((starts (replicate MEMORY_SIZE 0) (length-replicate {A = ℕ} MEMORY_SIZE 0)).declared
          contents among address
          covers);
      starts = starts;
    }

-- in a program that is joined of soundly typed modules and lies lawfully, where PUBLIC objects of the modules
-- and what INITIAL and DATA locate may be placed
pub takes_no_default : (program : Program) → IsWhole program → All IsPlaceable program.modules
    → TakesNoDefault program
takes_no_default program whole placeable = record {
  main = main_is_there program whole;
  begins = begins_with_all program whole;
  later = later_is_meant;
  labels = begins_with;
  modules = λ number room typed is.
      in_module (record { program = program; number_of_module = number; room = room })
      typed is whole placeable;
}

-- worked: a program without modules takes one
without_modules : (placement : Placement) (script : List (List ℕ))
    → TakesNoDefault (record { modules = []; placement = placement; script = script })
    → ⊥
without_modules placement script none = none.main
