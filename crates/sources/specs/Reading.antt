-- The module that a source text is.
use Rattle.std.specs.Prelude.{◌≡◌, ℕ, ◌≤◌, List, length, Ok}
use Rattle.words.specs.declared.limits.TheConstants.{LONGEST_SOURCE}
use Rattle.words.specs.Spelling.{Lexeme, Spells}
use Rattle.literally.specs.Expansion.{Expands}
use Rattle.grammar.specs.Derivation.{Derives}
use Rattle.trees.specs.Trees.{ModuleTree}
use Rattle.typed_trees.specs.TypedTrees.{TypedModule}
use Rattle.typing_rules.specs.Modules.{ModuleTyping}
use Rattle.layout.specs.Storage.{storage_of, storage_with}

-- a text that is not too long spells these words
pub record IsSpellingOf (text : List ℕ) (words : List Lexeme) : Type 0 where
  pub short : length text ≤ LONGEST_SOURCE
  pub spelled : Spells text words

-- a text spells words that expand to these
pub record IsExpansionOf (text : List ℕ) (output : List Lexeme) : Type 0 where
  pub words : List Lexeme
  pub spelling : IsSpellingOf text words
  pub expanded : Expands words output

-- a text spells words that expand to such as derive this module
pub record IsText (text : List ℕ) (tree : ModuleTree) : Type 0 where
  pub output : List Lexeme
  pub expansion : IsExpansionOf text output
  pub derived : Derives output tree

-- a text is a module with this typing by the rules
pub record HasTyping (text : List ℕ) (typed : TypedModule) : Type 0 where
  pub tree : ModuleTree
  pub read : IsText text tree
  pub typing : ModuleTyping tree typed

-- a text is the source of this module, whose objects and constants have a place each in its segments
pub record IsSourceOf (text : List ℕ) (typed : TypedModule) : Type 0 where
  pub typing : HasTyping text typed
  pub storage : storage_of typed ≡ Ok (storage_with typed)

-- a text is the source of a module
pub record IsSource (text : List ℕ) : Type 0 where
  pub typed : TypedModule
  pub source : IsSourceOf text typed
