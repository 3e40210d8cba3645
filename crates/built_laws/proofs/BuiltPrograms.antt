-- What is true of each program that is built, and of each whose sources are read.
use Rattle.built_laws.proofs.Prelude.{ℕ, List, [], ◌∷◌, All, All-cons, All-nil, TypedModule, IsSourceOf, AreSourcesOf, IsProgramOf, program_modules, Construction, IsConstruction}
use Rattle.typing_rules.proofs.ModulesTyped.{module_is}
use Rattle.typed_laws.specs.internal.Limits.{ChargesFit}
use Rattle.typed_laws.proofs.Charges.{derived_charges_fit}
use Rattle.meaning_laws.specs.{internal.Defaults.{TakesNoDefault}, internal.Meant.{IsWhole}, internal.Places.{IsPlaceable}, internal.Publics.{HasTree}}
use Rattle.meaning_laws.proofs.{Defaults.{takes_no_default}, Publics.{all_placeable}}
use Rattle.built_laws.specs.internal.BuiltPrograms.{program_of}

-- A program that is built is joined of soundly typed modules and lies lawfully, as the laws of `meaning_laws`
-- ask.
pub built_is_whole : (built : Construction) (script : List (List ℕ)) → IsConstruction built
    → IsWhole (program_of built script)
built_is_whole built script is = record {
  joined = is.joined;
  sound = is.sound;
  lawful = is.lawful;
}

-- modules of which texts are the sources have typings
sources_have_trees : (texts : List (List ℕ)) (modules : List TypedModule) → AreSourcesOf texts modules
    → All HasTree modules
sources_have_trees [] [] are = All-nil HasTree
sources_have_trees (text ∷ texts) (typed ∷ modules) are =
    let typing = (are.0).typing in
    All-cons HasTree typed modules (record { tree = typing.tree; is = module_is typing.typing })
    (sources_have_trees texts modules are.1)
sources_have_trees [] (typed ∷ modules) are = absurd are
sources_have_trees (text ∷ texts) [] are = absurd are

-- So PUBLIC objects of a program of sources, and what INITIAL and DATA locate, may be placed.
pub program_is_placeable : (texts : List (List ℕ)) (modules : List TypedModule) → IsProgramOf texts modules
    → All IsPlaceable modules
program_is_placeable texts modules is = all_placeable modules (sources_have_trees texts modules is.sources)

-- No run of a program that is built of texts takes a case that the meaning has for trees that no source has.
-- Both premises are clauses of `build`, which says them of each program that it gives.
pub built_takes_no_default : (texts : List (List ℕ)) (built : Construction) (script : List (List ℕ))
    → IsProgramOf texts (program_modules built.program) → IsConstruction built
    → TakesNoDefault (program_of built script)
built_takes_no_default texts built script sources is =
    takes_no_default (program_of built script) (built_is_whole built script is)
    (program_is_placeable texts (program_modules built.program) sources)

-- neither a procedure nor the main program of a source is charged more than the limit
pub source_charges_fit : (text : List ℕ) (typed : TypedModule) → IsSourceOf text typed → ChargesFit typed
source_charges_fit text typed is =
    let typing = is.typing in
    derived_charges_fit typing.read.output typing.tree typed typing.read.derived (module_is typing.typing)

all_charges_fit : (texts : List (List ℕ)) (modules : List TypedModule) → AreSourcesOf texts modules
    → All ChargesFit modules
all_charges_fit [] [] are = All-nil ChargesFit
all_charges_fit (text ∷ texts) (typed ∷ modules) are =
    All-cons ChargesFit typed modules (source_charges_fit text typed are.0)
    (all_charges_fit texts modules are.1)
all_charges_fit [] (typed ∷ modules) are = absurd are
all_charges_fit (text ∷ texts) [] are = absurd are

-- and so it is of those of a program
pub program_charges_fit : (texts : List (List ℕ)) (modules : List TypedModule) → IsProgramOf texts modules
    → All ChargesFit modules
program_charges_fit texts modules is = all_charges_fit texts modules is.sources
