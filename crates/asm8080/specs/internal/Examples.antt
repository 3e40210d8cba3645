-- The worked program at one place. The memory has as many bytes as it needs.
use Rattle.std.specs.Prelude.{◌≡◌, ℕ, List, [], ◌∷◌, replicate}
use Rattle.object_modules.specs.declared.segment.Target.{Target}
use Rattle.object_modules.specs.declared.segment.Target.TheVariants.{InSegment}
use Rattle.object_modules.specs.declared.segment.Segment.TheVariants.{Stack}
use Rattle.isa8080.specs.declared.registers.Status.TheVariants.{Halted}
use Rattle.isa8080.specs.State.{State}
use Rattle.isa8080.specs.Step.{initial_state, state_after}
use Rattle.asm8080.specs.Assembled.{layout_at}
use Rattle.asm8080.specs.Items.{Stands}
use Rattle.asm8080.specs.internal.Example.{counting, counting_code}

-- code at 0, and a stack that ends before 32
abbrev pub addresses : Target → ℕ
addresses (InSegment Stack) = 32
addresses target = 0

abbrev pub memory_of_counting : List ℕ
memory_of_counting =
    0x31 ∷ 0x20 ∷ 0x00 ∷ 0x06 ∷ 0x03 ∷ 0xCD ∷ 0x0D ∷ 0x00 ∷ 0x05 ∷ 0xC2 ∷ 0x05 ∷ 0x00 ∷ 0x76 ∷ 0x3C ∷ 0xC9
    ∷ replicate 17 0

abbrev pub after_counting : State
after_counting = state_after [] 18 (initial_state memory_of_counting [] 0)

-- the program stands there, and halts after 18 steps with 3 in A
pub record Counts : Type 0 where
  pub stands :
      Stands
      (layout_at addresses counting_code)
      memory_of_counting
      counting
      0
      15
  pub halted : after_counting.status ≡ Halted
  pub counted : after_counting.registers.a ≡ 3
