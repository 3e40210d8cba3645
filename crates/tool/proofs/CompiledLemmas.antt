-- Sources that are compiled, one by one.
use Rattle.tool.proofs.Prelude.{◌≡◌, Err, Ok, ℕ, ◌+◌, ◌<◌, ◌≤◌, List, [], ◌∷◌, ◌++◌, length, drop, get_or, arith, refl, sym, ap, ◌∙◌, subst, add-one, append-nil, append_assoc, ⊎_elim, drop_of_length-le, drop-cons, cases_lt, get_or-map, length-map, IsErrAnd, Result, TypedModule, ObjectModule, Storage, storage_with, Plan, HasReadCause, IsSourceOf, IsSoundTreeCode, MakesNone, OfItsModule, IsSoundlyMade, IsSoundlyTyped, text_of, texts_of, Compiled, ToolFault, TooManySources, Source, Code, Program, Link, Locate, IsCompiledTo, AreWithoutFault, HasCause, IsInOrder, HasNoObject, IsRefusedAlone, IsWithoutFault, AreCompiled, HasCompileCause, HasGenerationCause, HasSource, HasSourceCause, IsCompiled, IsNotCompiled, failure_of_code, keeps_contract, module_in}
use Rattle.failure.specs.{Failure.{IfFault}, declared.Failure.{Failure, TheVariants.{Fault, Memory}}}
use Rattle.treecode.specs.{declared.module.TreeModule.{TreeModule}, internal.Lowered.{IsLowered}}
use Rattle.codegen8080.specs.internal.Names.{IsLinkable}
use Rattle.codegen8080.specs.declared.fault.Fault as code_fault
use Rattle.codegen8080.specs.declared.module.Generated.{Generated}
unfoldable use Rattle.generation.specs.internal.TreeCode.{KeepsNames}
use Rattle.sources.specs.GlobalNames.{GlobalNamesDiffer}
use Rattle.sources.specs.declared.sources.Source as declared_source
use Rattle.codegen8080.specs.declared.module.CodeMarks.{CodeMarks}
use Rattle.generation.specs.ModuleMarks.{LieInModule}

pub has_source : (text : List ℕ) (typed : TypedModule) → IsSourceOf text typed → HasSource typed
has_source text typed source = record { text = text; source = source }

-- tree code of a module that has a source is that of one that is soundly typed
pub sound_tree_code :
    (typed : TypedModule) (storage : Storage) (tree : TreeModule)
    → IsSoundlyTyped typed
    → HasSource typed
    → storage ≡ storage_with typed
    → IsLowered typed storage tree
    → IsSoundTreeCode typed tree
sound_tree_code typed storage tree sound has is lowered = record {
  sound = sound;
  storage = storage;
  laid_out = has.source.storage ∙ ap Ok (sym is);
  lowered = lowered;
}

-- and it can have an object module, since the names of the module differ
pub linkable : (typed : TypedModule) (tree : TreeModule)
    → KeepsNames typed tree
    → GlobalNamesDiffer typed
    → IsSoundlyTyped typed
    → IsLinkable tree
unfolding KeepsNames
linkable typed tree keeps differ sound = keeps differ sound.storable

-- its object module is made of it
pub made_of : (typed : TypedModule) (tree : TreeModule) (object : ObjectModule)
    → IsSoundTreeCode typed tree
    → OfItsModule tree IsSoundlyMade object
    → IsSoundlyMade typed object
unfolding OfItsModule
made_of typed tree object code made = made typed code

-- and has its marks
pub marks_of_module : (typed : TypedModule) (tree : TreeModule) (object : ObjectModule) (marks : CodeMarks)
    → IsSoundTreeCode typed tree
    → OfItsModule tree (LieInModule marks) object
    → LieInModule marks typed object
unfolding OfItsModule
marks_of_module typed tree object marks code lie = lie typed code

-- a failure of its code has its cause
pub generation_refused : (file : ℕ) (typed : TypedModule) (tree : TreeModule)
    (failure : Failure code_fault.Fault)
    → IsSoundTreeCode typed tree
    → IfFault {A = Generated} (Err failure) (MakesNone tree)
    → IfFault {A = Generated} (Err (failure_of_code file failure)) (HasGenerationCause file typed)
generation_refused file typed tree (Fault fault) code none = (refl, none typed code)
generation_refused file typed tree Memory code none = tt

-- what one text is compiled to
pub compiled_to : (text : List ℕ) (one : Compiled) → IsCompiled text one → IsCompiledTo text one.object
compiled_to text one is = record {
  typed = module_in one;
  source = is.source;
  contract = keeps_contract (module_in one) one.object is.made;
}

-- texts without a fault
pub none_without_fault : (texts : List (List ℕ)) → AreWithoutFault 0 texts
none_without_fault texts = record { each = λ file below. absurd (omega (arith, below)) }

one_more : (texts : List (List ℕ)) (count : ℕ) → AreWithoutFault count texts
    → IsWithoutFault (text_of texts count)
    → (file : ℕ) → file < count + 1 → IsWithoutFault (text_of texts file)
one_more texts count before last file below =
    ⊎_elim
    (λ (lt : file < count). before.each file lt)
    (λ (le : count ≤ file). let same : count ≡ file = omega (arith, below, le) in subst (λ k. IsWithoutFault
    (text_of texts k)) same last)
    (cases_lt file count)

without_fault : (text : List ℕ) (one : Compiled) → IsCompiled text one → IsWithoutFault text
without_fault text one is = record { object = one.object; compiled = compiled_to text one is }

pub one_more_without_fault : (texts : List (List ℕ)) (count : ℕ) (text : List ℕ) (one : Compiled)
    → AreWithoutFault count texts
    → text ≡ text_of texts count → IsCompiled text one → AreWithoutFault (count + 1) texts
one_more_without_fault texts count text one before at is =
    record { each = one_more texts count before (subst IsWithoutFault at (without_fault text one is)) }

pub text_at : (sources : List declared_source.Source) (file : ℕ) (d : declared_source.Source)
    → file < length sources → (get_or sources file d).text.now ≡ text_of (texts_of sources) file
text_at sources file d below =
    sym (get_or-map (λ (source : declared_source.Source). source.text.now) sources file d [] below)

pub within_texts : (sources : List declared_source.Source) (file : ℕ) → file < length sources
    → file < length (texts_of sources)
within_texts sources file below = simp length-map below

pub past_texts : (sources : List declared_source.Source) (file : ℕ) → length sources ≤ file
    → length (texts_of sources) ≤ file
past_texts sources file past = simp length-map past

-- what is compiled of the texts that are left stands after what was compiled
abbrev pub GoesOn : List (List ℕ) → (file : ℕ) → List Compiled → Type 0
GoesOn texts file made =
    (rest : List Compiled) → AreCompiled (drop file texts) rest → AreCompiled texts (made ++ rest)

pub goes_on : (texts : List (List ℕ)) (file : ℕ) (text : List ℕ) (made : List Compiled) (one : Compiled)
    → GoesOn texts file made
    → file < length texts → text ≡ text_of texts file → IsCompiled text one
    → GoesOn texts (file + 1) (made ++ one ∷ [])
goes_on texts file text made one before below at is rest are =
    let split : drop file texts ≡ text_of texts file ∷ drop (file + 1) texts =
    drop-cons texts file [] below ∙ ap (λ n. text_of texts file ∷ drop n texts) (sym (add-one file)) in
    let here : AreCompiled (text_of texts file ∷ drop (file + 1) texts) (one ∷ rest) =
    (subst (λ t. IsCompiled t one) at is, are) in
    let all : AreCompiled texts (made ++ (one ∷ rest)) =
    before (one ∷ rest) (subst (λ ts. AreCompiled ts (one ∷ rest)) (sym split) here) in
    subst (AreCompiled texts) (sym (append_assoc made (one ∷ []) rest)) all

pub all_compiled : (texts : List (List ℕ)) (file : ℕ) (made : List Compiled) → GoesOn texts file made
    → length texts ≤ file → AreCompiled texts made
all_compiled texts file made before past =
    subst (AreCompiled texts) (append-nil made)
    (before [] (subst (λ ts. AreCompiled ts []) (sym (drop_of_length-le texts past)) tt))

-- the causes of one source
pub source_cause : (fault : ToolFault) (place : ℕ) (text : List ℕ) → HasSourceCause place text fault
    → HasCompileCause fault place text
source_cause (Source file fault) place text cause = cause
source_cause TooManySources place text cause = absurd cause
source_cause (Code file fault) place text cause = absurd cause
source_cause (Program fault) place text cause = absurd cause
source_cause (Link fault) place text cause = absurd cause
source_cause (Locate fault) place text cause = absurd cause

pub generation_cause : (fault : ToolFault) (place : ℕ) (text : List ℕ) (typed : TypedModule)
    → IsSourceOf text typed → HasGenerationCause place typed fault → HasCompileCause fault place text
generation_cause (Code file fault) place text typed is cause =
    (cause.0, record { typed = typed; source = is; none = cause.1 })
generation_cause (Source file fault) place text typed is cause = absurd cause
generation_cause TooManySources place text typed is cause = absurd cause
generation_cause (Program fault) place text typed is cause = absurd cause
generation_cause (Link fault) place text typed is cause = absurd cause
generation_cause (Locate fault) place text typed is cause = absurd cause

-- a text of which no object module is made has none
has_no_object : (fault : code_fault.Fault) (text : List ℕ) → IsNotCompiled fault text → HasNoObject fault text
has_no_object fault text is = record { typed = is.typed; source = is.source; passes = is.none.passes }

-- the fault of source 0 is that of a text alone
pub cause_alone : (fault : ToolFault) (text : List ℕ) → HasCompileCause fault 0 text
    → IsRefusedAlone text fault
cause_alone (Source file fault) text cause = cause
cause_alone (Code file fault) text cause = (cause.0, has_no_object fault text cause.1)
cause_alone TooManySources text cause = absurd cause
cause_alone (Program fault) text cause = absurd cause
cause_alone (Link fault) text cause = absurd cause
cause_alone (Locate fault) text cause = absurd cause

-- the fault of a source alone is one of the sources
pub cause_of_one : (fault : ToolFault) (file : ℕ) (texts : List (List ℕ)) (plan : Plan) → file < length texts
    → HasCompileCause fault file (text_of texts file) → HasCause fault texts plan
cause_of_one TooManySources file texts plan below cause = absurd cause
cause_of_one (Source place fault) file texts plan below cause =
    subst (λ k. (k < length texts) × HasReadCause fault (text_of texts k)) (sym cause.0) (below, cause.1)
cause_of_one (Code place fault) file texts plan below cause =
    subst (λ k. (k < length texts) × HasNoObject fault (text_of texts k)) (sym cause.0)
    (below, has_no_object fault (text_of texts file) cause.1)
cause_of_one (Program fault) file texts plan below cause = absurd cause
cause_of_one (Link fault) file texts plan below cause = absurd cause
cause_of_one (Locate fault) file texts plan below cause = absurd cause

-- and those before it have none
pub order_of_one : (fault : ToolFault) (file : ℕ) (text : List ℕ) (texts : List (List ℕ))
    → HasCompileCause fault file text → AreWithoutFault file texts → IsInOrder fault texts
order_of_one TooManySources file text texts cause before = absurd cause
order_of_one (Source place fault) file text texts cause before =
    subst (λ k. AreWithoutFault k texts) (sym cause.0) before
order_of_one (Code place fault) file text texts cause before =
    subst (λ k. AreWithoutFault k texts) (sym cause.0) before
order_of_one (Program fault) file text texts cause before = absurd cause
order_of_one (Link fault) file text texts cause before = absurd cause
order_of_one (Locate fault) file text texts cause before = absurd cause

-- a failure that is handed on
pub passed : {A F : Type 0} (result : Result A F) (failure : F) → IsErrAnd result (λ given. given ≡ failure)
    → result ≡ Err failure
passed (Ok value) failure is = absurd is
passed (Err given) failure is = ap Err is

-- what is said of the fault of a failure that is handed on
pub handed_on : {B : Type 0} (P : ToolFault → Type 0) (failure : Failure ToolFault)
    (result : Result B (Failure ToolFault)) → result ≡ Err failure
    → IfFault {A = Compiled} (Err failure) P → IfFault result P
handed_on {B} P (Fault fault) result is given =
    subst (λ (r : Result B (Failure ToolFault)). IfFault r P) (sym is) given
handed_on {B} P Memory result is given = subst (λ (r : Result B (Failure ToolFault)). IfFault r P) (sym is) tt

-- the failure of one source is that of all
pub cause_of_all : {A : Type 0} (texts : List (List ℕ)) (plan : Plan) (file : ℕ) (text : List ℕ)
    (result : Result A (Failure ToolFault)) (failure : Failure ToolFault) → result ≡ Err failure
    → file < length texts
    → text ≡ text_of texts file → IfFault {A = Compiled} (Err failure)
    (λ fault. HasCompileCause fault file text) → IfFault result (λ fault. HasCause fault texts plan)
cause_of_all {A} texts plan file text result (Fault fault) is below at has =
    subst (λ (r : Result A (Failure ToolFault)). IfFault r (λ other. HasCause other texts plan)) (sym is)
    (cause_of_one fault file texts plan below (subst (λ given. HasCompileCause fault file given) at has))
cause_of_all {A} texts plan file text result Memory is below at has =
    subst (λ (r : Result A (Failure ToolFault)). IfFault r (λ other. HasCause other texts plan)) (sym is) tt

-- and in order where those before it have none
pub order_of_all : {A : Type 0} (texts : List (List ℕ)) (file : ℕ) (text : List ℕ)
    (result : Result A (Failure ToolFault)) (failure : Failure ToolFault) → result ≡ Err failure
    → IfFault {A = Compiled} (Err failure) (λ fault. HasCompileCause fault file text)
    → AreWithoutFault file texts → IfFault result (λ fault. IsInOrder fault texts)
order_of_all {A} texts file text result (Fault fault) is has before =
    subst (λ (r : Result A (Failure ToolFault)). IfFault r (λ other. IsInOrder other texts)) (sym is)
    (order_of_one fault file text texts has before)
order_of_all {A} texts file text result Memory is has before =
    subst (λ (r : Result A (Failure ToolFault)). IfFault r (λ other. IsInOrder other texts)) (sym is) tt
