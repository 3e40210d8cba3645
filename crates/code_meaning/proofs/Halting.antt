-- HLT where the source ends.
use Rattle.code_meaning.proofs.Prelude.{ℕ, List, ◌∷◌, refl, SourceState, Ended, Stopped, Registers, State, Hlt, Item, Plain, Activation, IsReady, IsThere, LiesWell, Does, IsHalted, at_place}
use Rattle.code_meaning.specs.internal.Activations.{loaded_of}
use Rattle.code_meaning.proofs.Landing.{after_step, landed}
use Rattle.code_meaning.proofs.FirstItems.{plain_step}

-- The machine halts as the source ends, with its memory: however much is pushed, and in whatever call.
pub halts :
    {A : Type 0} (activation : Activation) (items : List Item) (from to top : ℕ) (base : List ℕ)
    (s : SourceState) (r : Registers) (memory : List ℕ) {Good : A → SourceState → State → Type 0}
    → LiesWell activation
    → IsThere activation (Plain Hlt ∷ items) from to
    → IsReady activation top base s.memory s.frame r memory
    → Does (loaded_of activation) s.budget 0 (at_place from r memory s.events) (Stopped Ended s) Good
halts activation items from to top base s r memory lies there ready =
    after_step
    (plain_step activation.around.program.script activation Hlt items from to r memory s.events lies
    ready.shares.code there)
    (record {
      told = landed activation.around.program.script s.budget _ (IsHalted (loaded_of activation) s)
          (record { left = record { status_is = refl; events_are = refl }; shares = ready.shares });
    })
