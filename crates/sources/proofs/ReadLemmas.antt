-- What a text is, from its steps.
use Rattle.sources.proofs.Prelude.{◌≡◌, ℕ, ◌≤◌, Bool, true, false, List, length, Ok, Err, if◌then◌else◌, nat_le, ap, ◌∙◌, TypedModule, DataTooLarge, ConstantsTooLarge, SEGMENT_LIMIT, Storage, constants_fit, data_bytes, storage_of, storage_with, IsText, HasTyping, IsSourceOf}
use Rattle.words.specs.{declared.limits.TheConstants.{LONGEST_SOURCE}, Spelling.{Lexeme, Spells}}
use Rattle.literally.specs.Expansion.{Expands}
use Rattle.grammar.specs.Derivation.{Derives}
use Rattle.trees.specs.Trees.{ModuleTree}
use Rattle.typing_rules.specs.Modules.{ModuleTyping}

pub is_text : (text : List ℕ) (words output : List Lexeme) (tree : ModuleTree) → length text ≤ LONGEST_SOURCE
    → Spells text words → Expands words output → Derives output tree → IsText text tree
is_text text words output tree short spelled expanded derived = record {
  output = output;
  expansion =
      record { words = words; spelling = record { short = short; spelled = spelled }; expanded = expanded };
  derived = derived;
}

-- what is given where two tests hold
given : (data_fits constants_fit : Bool) (storage found : Storage)
    → (if data_fits then (if constants_fit then Ok storage else Err ConstantsTooLarge) else Err DataTooLarge)
    ≡ Ok found → found ≡ storage
given true true storage found is = cc
given true false storage found is = absurd (cc)
given false constants_fit storage found is = absurd (cc)

pub stored : (typed : TypedModule) (found : Storage) → storage_of typed ≡ Ok found
    → found ≡ storage_with typed
unfolding storage_of
stored typed found is =
    given (nat_le (data_bytes typed.objects) SEGMENT_LIMIT) (constants_fit typed)
    (storage_with typed) found is

pub has_typing : (text : List ℕ) (tree : ModuleTree) (typed : TypedModule) → IsText text tree
    → ModuleTyping tree typed → HasTyping text typed
has_typing text tree typed read typing = record { tree = tree; read = read; typing = typing }

pub is_source : (text : List ℕ) (typed : TypedModule) (found : Storage) → HasTyping text typed
    → storage_of typed ≡ Ok found → IsSourceOf text typed
is_source text typed found typing storage =
    record { typing = typing; storage = storage ∙ ap Ok (stored typed found storage) }
