-- Every module that a source text is is soundly typed, and so are those of a program.
use Rattle.sources.proofs.Prelude.{ℕ, List, All-cons, All-nil, All-weaker, ListsGlobals, TypedModule, IsSourceOf, AreSourcesOf, HasTyping, IsSoundlyTyped}
use Rattle.std.specs.Prelude.{[], ◌∷◌, All}
use Rattle.typing_rules.proofs.ModulesTyped.{module_is}
use Rattle.typed_laws.specs.GlobalNames.{GlobalNamesDiffer}
use Rattle.typed_laws.proofs.{Formed.{derived_is_soundly_typed}, GlobalNames.{global_names_differ}}

pub typed_text_is_soundly_typed : (text : List ℕ) (typed : TypedModule) → HasTyping text typed
    → IsSoundlyTyped typed
typed_text_is_soundly_typed text typed has =
    derived_is_soundly_typed has.read.output has.tree typed has.read.derived (module_is has.typing)

pub typed_text_has_names_that_differ : (text : List ℕ) (typed : TypedModule) → HasTyping text typed
    → GlobalNamesDiffer typed
typed_text_has_names_that_differ text typed has = global_names_differ has.tree typed (module_is has.typing)

pub source_is_soundly_typed : (text : List ℕ) (typed : TypedModule) → IsSourceOf text typed → IsSoundlyTyped typed
source_is_soundly_typed text typed source = typed_text_is_soundly_typed text typed source.typing

pub sources_are_soundly_typed : (texts : List (List ℕ)) (modules : List TypedModule)
    → AreSourcesOf texts modules
    → All IsSoundlyTyped modules
sources_are_soundly_typed [] [] are = All-nil IsSoundlyTyped
sources_are_soundly_typed [] (typed ∷ modules) are = absurd are
sources_are_soundly_typed (text ∷ texts) [] are = absurd are
sources_are_soundly_typed (text ∷ texts) (typed ∷ modules) are =
    All-cons IsSoundlyTyped typed modules (source_is_soundly_typed text typed are.0)
    (sources_are_soundly_typed texts modules are.1)

-- and all their globals are listed
pub sources_list_globals : (texts : List (List ℕ)) (modules : List TypedModule) → AreSourcesOf texts modules
    → All ListsGlobals modules
sources_list_globals texts modules are =
    All-weaker IsSoundlyTyped ListsGlobals (λ typed sound. sound.globals) modules
    (sources_are_soundly_typed texts modules are)
