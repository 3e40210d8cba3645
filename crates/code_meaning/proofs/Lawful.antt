-- The properties of an activation that follow from a lawful placement.
use Rattle.code_meaning.proofs.Prelude.{◌≡◌, ℕ, ◌+◌, ◌<◌, ◌≤◌, Bool, true, false, List, refl, sym, ◌∙◌, arith, MEMORY_SIZE, Program, PlacementLies}
use Rattle.layout.specs.Lawful.{IsLawful}
use Rattle.layout.proofs.Declared.{declared_not_in_stack, writable_not_in_code}

pub placement_lies :
    (program : Program)
    → IsLawful program.modules program.placement
    → PlacementLies program
placement_lies program lawful = record {
  stack_free = λ address declared low high.
      declared_not_in_stack program.modules program.placement address lawful declared (low, high);
  code_free = λ address variable low high.
      writable_not_in_code program.modules program.placement address lawful variable.0 variable.1 (low, high);
  apart = λ address low high above below. lawful.code_apart_from_stack (address, (low, high), (above, below));
  code_in_memory = lawful.code_in_memory;
  stack_in_memory = lawful.stack_in_memory;
}
