-- What was read of words, in terms of what they derive.
use Rattle.syntax.proofs.Prelude.{◌≡◌, true, List, Result, Ok, Err, subst, IfOk, Lexeme, Module, NESTING_LIMIT, Derives, DerivesButForDepth, DerivesButForEndName, DerivesModule, Symbol, symbols_of, ModuleTree, module_tree, IfFault, Failure, Fault, Fails, Makes, Cause, TooDeep, OtherEndName, whole_module}
use Rattle.failure.specs.declared.Failure.TheVariants as failures
use Rattle.syntax.specs.declared.fault.Fault.TheVariants.{Word, End, Depth, EndName}
use Rattle.syntax.specs.Faults.{IsOfDepth, IsOfEndName, IsRefused, IsWrongWith}
use Rattle.syntax.proofs.ParserLaws.{module_read-derives, module_derives-reads, module_deep-reads, module_end_name-reads, module_fails-cause}

-- what was made of these words
abbrev MadeOf : List Lexeme → Result Module (Failure Fault) → Type 0
MadeOf words parsed = Makes module_tree parsed (whole_module true NESTING_LIMIT (symbols_of words))

pub parsed-derives : (words : List Lexeme) (parsed : Result Module (Failure Fault)) → MadeOf words parsed
    → IfOk parsed (λ found. Derives words (module_tree found))
parsed-derives words (Ok found) made = module_read-derives words (module_tree found) made
parsed-derives words (Err failure) made = tt

-- where there is a tree, no fault keeps it back
none_kept_back : (read : Result ModuleTree Cause) (tree : ModuleTree) (fault : Fault)
    → read ≡ Ok tree → Fails (failures.Fault fault) read → ⊥
none_kept_back read tree (Word place) whole fails = absurd cc
none_kept_back read tree (End place) whole fails = absurd cc
none_kept_back read tree (Depth place) whole fails = absurd cc
none_kept_back read tree (EndName place) whole fails = absurd cc

pub refused-derives_none : (words : List Lexeme) (parsed : Result Module (Failure Fault))
    → MadeOf words parsed
    → IfFault parsed (λ fault. (tree : ModuleTree) → Derives words tree → ⊥)
refused-derives_none words (Ok found) made = tt
refused-derives_none words (Err (failures.Fault fault)) made =
    λ tree derived. none_kept_back _ tree fault (module_derives-reads words tree derived) made
refused-derives_none words (Err failures.Memory) made = tt

pub refused-wrong : (words : List Lexeme) (parsed : Result Module (Failure Fault))
    → MadeOf words parsed
    → IfFault parsed
    (λ fault. (tree : ModuleTree) → DerivesModule (symbols_of words) tree → IsWrongWith fault tree)
refused-wrong words (Ok found) made = tt
refused-wrong words (Err (failures.Fault (Word place))) made =
    λ tree derived. module_fails-cause words tree _ derived made
refused-wrong words (Err (failures.Fault (End place))) made =
    λ tree derived. module_fails-cause words tree _ derived made
refused-wrong words (Err (failures.Fault (Depth place))) made =
    λ tree derived. module_fails-cause words tree _ derived made
refused-wrong words (Err (failures.Fault (EndName place))) made =
    λ tree derived. module_fails-cause words tree _ derived made
refused-wrong words (Err failures.Memory) made = tt

-- the fault of too many levels
deep_fault : (read : Result ModuleTree Cause) (fault : Fault)
    → read ≡ Err TooDeep → Fails (failures.Fault fault) read → IsOfDepth fault
deep_fault read (Word place) deep fails = absurd cc
deep_fault read (End place) deep fails = absurd cc
deep_fault read (Depth place) deep fails = tt
deep_fault read (EndName place) deep fails = absurd cc

pub deep-refused : (words : List Lexeme) (parsed : Result Module (Failure Fault)) → MadeOf words parsed
    → DerivesButForDepth words → IsRefused parsed IsOfDepth
deep-refused words (Ok found) made deep = let read = module_deep-reads words deep in absurd cc
deep-refused words (Err (failures.Fault fault)) made deep =
    deep_fault _ fault (module_deep-reads words deep) made
deep-refused words (Err failures.Memory) made deep = tt

-- the fault of another name after END
end_name_fault : (read : Result ModuleTree Cause) (fault : Fault)
    → read ≡ Err OtherEndName → Fails (failures.Fault fault) read → IsOfEndName fault
end_name_fault read (Word place) other fails = absurd cc
end_name_fault read (End place) other fails = absurd cc
end_name_fault read (Depth place) other fails = absurd cc
end_name_fault read (EndName place) other fails = tt

pub end_name-refused : (words : List Lexeme) (parsed : Result Module (Failure Fault)) → MadeOf words parsed
    → DerivesButForEndName words → IsRefused parsed IsOfEndName
end_name-refused words (Ok found) made other = let read = module_end_name-reads words other in absurd cc
end_name-refused words (Err (failures.Fault fault)) made other =
    end_name_fault _ fault (module_end_name-reads words other) made
end_name-refused words (Err failures.Memory) made other = tt

-- what was made of symbols, where they are those of words
pub made_of_words : (words : List Lexeme) (parsed : Result Module (Failure Fault)) (symbols : List Symbol)
    → symbols ≡ symbols_of words
    → Makes module_tree parsed (whole_module true NESTING_LIMIT symbols)
    → MadeOf words parsed
made_of_words words parsed symbols same made =
    subst (λ s. Makes module_tree parsed (whole_module true NESTING_LIMIT s)) same made
