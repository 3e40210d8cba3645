-- Why a source text is refused.
use Rattle.std.specs.Prelude.{◌≡◌, ℕ, ◌≤◌, ◌<◌, List, length, Err}
use Rattle.words.specs.declared.fault.Fault as words_fault
use Rattle.words.specs.declared.limits.TheConstants.{LONGEST_SOURCE}
use Rattle.words.specs.Spelling.{Lexeme, IsFirstFault}
use Rattle.literally.specs.declared.fault.Fault as expansion_fault
use Rattle.literally.specs.Expansion.{IsFault}
use Rattle.syntax.specs.declared.fault.Fault as syntax_fault
use Rattle.syntax.specs.Faults.{IsOfDepth, IsOfEndName, IsWrongWith}
use Rattle.grammar.specs.Derivation.{Derives, DerivesModule, DerivesButForDepth, DerivesButForEndName}
use Rattle.grammar.specs.Symbols.{symbols_of}
use Rattle.trees.specs.Trees.{ModuleTree}
use Rattle.typed_trees.specs.TypedTrees.{TypedModule}
use Rattle.typing.specs.declared.fault.Fault as typing_fault
use Rattle.typing_rules.specs.ModuleFaults.{ModuleFault}
use Rattle.layout.specs.declared.fault.Fault as storage_fault
use Rattle.layout.specs.Storage.{storage_of}
use Rattle.sources.specs.declared.read.ReadFault.{ReadFault}
use Rattle.sources.specs.declared.read.ReadFault.TheVariants.{TooLong, Words, Expansion, Syntax, Typing, Storage}
use Rattle.sources.specs.Reading.{HasTyping, IsExpansionOf, IsSpellingOf, IsText}

-- a text that is not too long has this first fault of its words
pub record HasWordsFault (text : List ℕ) (fault : words_fault.Fault) : Type 0 where
  pub short : length text ≤ LONGEST_SOURCE
  pub first : IsFirstFault text fault

-- a text spells words that have this fault in their expansion
pub record HasExpansionFault (text : List ℕ) (fault : expansion_fault.Fault) : Type 0 where
  pub words : List Lexeme
  pub spelling : IsSpellingOf text words
  pub wrong : IsFault words fault

-- Words derive no module. If they would but for the depth, or but for a name after END, the fault says so, and if
-- the grammar has a tree of them, the fault says what is wrong with it.
pub record IsSyntaxFault (words : List Lexeme) (fault : syntax_fault.Fault) : Type 0 where
  pub wrong : (tree : ModuleTree) → Derives words tree → ⊥
  pub of_tree : (tree : ModuleTree) → DerivesModule (symbols_of words) tree → IsWrongWith fault tree
  pub depth : DerivesButForDepth words → IsOfDepth fault
  pub end_name : DerivesButForEndName words → IsOfEndName fault

-- a text spells words whose expansion derives no module, with this fault
pub record HasSyntaxFault (text : List ℕ) (fault : syntax_fault.Fault) : Type 0 where
  pub output : List Lexeme
  pub expansion : IsExpansionOf text output
  pub wrong : IsSyntaxFault output fault

-- a text is a module that has no typing, with this fault by the rules
pub record HasTypingFault (text : List ℕ) (fault : typing_fault.Fault) : Type 0 where
  pub tree : ModuleTree
  pub read : IsText text tree
  pub wrong : ModuleFault tree fault

-- a text is a module that has no storage, with this fault
pub record HasStorageFault (text : List ℕ) (fault : storage_fault.Fault) : Type 0 where
  pub typed : TypedModule
  pub typing : HasTyping text typed
  pub wrong : storage_of typed ≡ Err fault

-- the cause of a refusal is in the text
abbrev pub HasReadCause : ReadFault → List ℕ → Type 0
HasReadCause TooLong text = LONGEST_SOURCE < length text
HasReadCause (Words fault) text = HasWordsFault text fault
HasReadCause (Expansion fault) text = HasExpansionFault text fault
HasReadCause (Syntax fault) text = HasSyntaxFault text fault
HasReadCause (Typing fault) text = HasTypingFault text fault
HasReadCause (Storage fault) text = HasStorageFault text fault
