-- Sources that are read one by one, and the need of their program.
use Rattle.commands.proofs.Prelude.{◌≡◌, Err, ℕ, ◌+◌, ◌<◌, ◌≤◌, List, [], ◌∷◌, ◌++◌, Option, length, drop, map, arith, sym, ap, ◌∙◌, subst, add-one, append-nil, append_assoc, refl, ⊎_elim, Result, drop_of_length-le, drop-cons, cases_lt, length-map, IfFault, Failure, Fault, Memory, TypedModule, Typed, module_view, IsJoined, IsSourceOf, MOST_SOURCES, AreSourcesOf, texts_of, NeedFault, HasCause, IsNeedOf, IsNeedText, IsReadable, need_line, TellsNeed, Join, IsFirstFault, IsOfJoining, IsOfSource, IsUnread}
use Rattle.sources.specs.Programs.{text_of}
use Rattle.commands.specs.declared.needs.fault.NeedFault.TheVariants.{TooManySources, Source}
use Rattle.sources.specs.declared.sources.Source as declared_source

-- the texts before this place are sources of modules
abbrev pub AreRead : List (List ℕ) → (file : ℕ) → Type 0
AreRead texts file = (other : ℕ) → other < file → IsReadable (text_of texts other)

pub none_read : (texts : List (List ℕ)) → AreRead texts 0
none_read texts other below = absurd (omega (arith, below))

pub one_more_read : (texts : List (List ℕ)) (file : ℕ) (text : List ℕ) (typed : TypedModule) → AreRead texts file → text ≡ text_of texts file → IsSourceOf text typed → AreRead texts (file + 1)
one_more_read texts file text typed before at is other below =
    ⊎_elim
    (λ (lt : other < file). before other lt)
    (λ (le : file ≤ other).
    let same : file ≡ other = omega (arith, below, le) in
    subst (λ k. IsReadable (text_of texts k)) same (record { typed = typed; source = subst (λ t. IsSourceOf t typed) at is }))
    (cases_lt other file)

-- the modules of the texts that are left stand after those that were read
abbrev pub GoesOn : List (List ℕ) → (file : ℕ) → List TypedModule → Type 0
GoesOn texts file made = (rest : List TypedModule) → AreSourcesOf (drop file texts) rest → AreSourcesOf texts (made ++ rest)

goes_on : (texts : List (List ℕ)) (file : ℕ) (text : List ℕ) (made : List TypedModule) (one : TypedModule) → GoesOn texts file made → file < length texts → text ≡ text_of texts file → IsSourceOf text one
    → GoesOn texts (file + 1) (made ++ one ∷ [])
goes_on texts file text made one before below at is rest are =
    let split : drop file texts ≡ text_of texts file ∷ drop (file + 1) texts = drop-cons texts file [] below ∙ ap (λ n. text_of texts file ∷ drop n texts) (sym (add-one file)) in
    let here : AreSourcesOf (text_of texts file ∷ drop (file + 1) texts) (one ∷ rest) = (subst (λ t. IsSourceOf t one) at is, are) in
    let all : AreSourcesOf texts (made ++ (one ∷ rest)) = before (one ∷ rest) (subst (λ ts. AreSourcesOf ts (one ∷ rest)) (sym split) here) in
    subst (AreSourcesOf texts) (sym (append_assoc made (one ∷ []) rest)) all

view_last : (made : List Typed) (one : Typed) → map module_view (made ++ one ∷ []) ≡ map module_view made ++ module_view one ∷ []
view_last [] one = refl
view_last (first ∷ others) one = ap (λ rest. module_view first ∷ rest) (view_last others one)

pub views_go_on : (texts : List (List ℕ)) (file : ℕ) (text : List ℕ) (made : List Typed) (one : Typed) → GoesOn texts file (map module_view made) → file < length texts → text ≡ text_of texts file
    → IsSourceOf text (module_view one) → GoesOn texts (file + 1) (map module_view (made ++ one ∷ []))
views_go_on texts file text made one before below at is =
    subst (GoesOn texts (file + 1)) (sym (view_last made one)) (goes_on texts file text (map module_view made) (module_view one) before below at is)

pub all_read : (texts : List (List ℕ)) (file : ℕ) (made : List TypedModule) → GoesOn texts file made → length texts ≤ file → AreSourcesOf texts made
all_read texts file made before past =
    subst (AreSourcesOf texts) (append-nil made)
    (before [] (subst (λ ts. AreSourcesOf ts []) (sym (drop_of_length-le texts past)) tt))

-- the fault of one source is the first of all, where those before it have none
first_of_one : (fault : NeedFault) (file : ℕ) (texts : List (List ℕ)) → file < length texts → IsOfSource file (text_of texts file) fault → AreRead texts file → IsFirstFault texts fault
first_of_one TooManySources file texts below is before = absurd is
first_of_one (Source place fault) file texts below is before =
    subst (λ k. IsUnread texts k fault) (sym is.0) (record { before = before; below = below; cause = is.1 })
first_of_one (Join fault) file texts below is before = absurd is

pub first_of_all : {A : Type 0} (texts : List (List ℕ)) (file : ℕ) (text : List ℕ) (result : Result A (Failure NeedFault)) (failure : Failure NeedFault) → result ≡ Err failure → file < length texts
    → text ≡ text_of texts file → IfFault {A = Typed} (Err failure) (IsOfSource file text) → AreRead texts file → IfFault result (IsFirstFault texts)
first_of_all {A} texts file text result (Fault fault) is below at has before =
    subst (λ (r : Result A (Failure NeedFault)). IfFault r (IsFirstFault texts)) (sym is)
    (first_of_one fault file texts below (subst (λ given. IsOfSource file given fault) at has) before)
first_of_all {A} texts file text result Memory is below at has before =
    subst (λ (r : Result A (Failure NeedFault)). IfFault r (IsFirstFault texts)) (sym is) tt

-- as many texts as sources
few_texts : (sources : List declared_source.Source) → length sources ≤ MOST_SOURCES → length (texts_of sources) ≤ MOST_SOURCES
few_texts sources few = simp length-map few

pub source_cause : (fault : NeedFault) (sources : List declared_source.Source) → length sources ≤ MOST_SOURCES → IsFirstFault (texts_of sources) fault → HasCause fault (texts_of sources)
source_cause TooManySources sources few is = absurd is
source_cause (Source file fault) sources few is = record { few = few_texts sources few; before = is.before; below = is.below; cause = is.cause }
source_cause (Join fault) sources few is = absurd is

pub join_cause : (fault : NeedFault) (sources : List declared_source.Source) (modules : List TypedModule) → length sources ≤ MOST_SOURCES → AreSourcesOf (texts_of sources) modules
    → IsOfJoining modules fault → HasCause fault (texts_of sources)
join_cause TooManySources sources modules few are is = absurd is
join_cause (Source file fault) sources modules few are is = absurd is
join_cause (Join fault) sources modules few are is = record { few = few_texts sources few; modules = modules; sources = are; cause = is }

pub is_need : (sources : List declared_source.Source) (modules : List Typed) (joined : List Typed) (told : Option ℕ) → length sources ≤ MOST_SOURCES → AreSourcesOf (texts_of sources) (map module_view modules)
    → IsJoined (map module_view modules) → joined ≡ modules → TellsNeed (map module_view joined) told → IsNeedOf (texts_of sources) told
is_need sources modules joined told few are is same tells =
    record { few = few_texts sources few; modules = map module_view modules; program = record { sources = are; joined = is }; need = subst (λ ms. TellsNeed (map module_view ms) told) same tells }

pub is_need_text : (texts : List (List ℕ)) (told : Option ℕ) (line : List ℕ) → IsNeedOf texts told → line ≡ need_line told → IsNeedText texts line
is_need_text texts told line need is = record { told = told; need = need; line_is = is }
