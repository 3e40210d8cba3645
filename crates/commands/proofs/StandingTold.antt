-- The modules of a program and their sources.
use Rattle.commands.proofs.Prelude.{◌≡◌, ◌∙◌, ℕ, ◌<◌, List, [], ◌∷◌, length, length-map, None, Some, arith, subst, sym, Joined, TypedModule, IsJoined, IsProgramOf, module_view, modules_of, program_modules, texts_of}
use Rattle.layout.specs.Joined.{JoinRefusal, join_refusal}
use Rattle.listings.proofs.ViewsMade.{same_count}
use Rattle.sources.specs.declared.sources.Source.{Source}

-- there are as many
pub source_of_each : (sources : List Source) (program : Joined)
    → IsProgramOf (texts_of sources) (program_modules program)
    → length sources ≡ length (modules_of program)
source_of_each sources program is =
    sym (length-map sources (λ (source : Source). source.text.now))
    ∙ same_count (texts_of sources) (program_modules program) is.sources
    ∙ length-map (modules_of program) module_view

-- and there is one
some_joined : (modules : List TypedModule) → IsJoined modules → 0 < length modules
unfolding join_refusal
some_joined [] joined = absurd (none_is joined)
  where
    none_is : {refusal : JoinRefusal} → Some refusal ≡ None → ⊥
    none_is same = cc
some_joined (first ∷ others) joined = omega arith

pub some_module : (sources : List Source) (program : Joined)
    → IsProgramOf (texts_of sources) (program_modules program) → 0 < length (modules_of program)
some_module sources program is =
    subst (λ (count : ℕ). 0 < count) (length-map (modules_of program) module_view)
    (some_joined (program_modules program) is.joined)
