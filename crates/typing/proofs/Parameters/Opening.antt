-- Headings of procedures: where their bodies begin, and what is known of their parameters there.
use Rattle.typing.proofs.Prelude.{◌≡◌, ℕ, zero, suc, ◌≤◌, Bool, true, false, ◌||◌, List, [], ◌∷◌, ◌++◌, length, take, drop, refl, ap, sym, subst, ◌∙◌, arith, if◌then◌else◌, not, AllByRecursion, bytes_eq, insert_key, Identifier, DeclarationTrees, HeadingTree, Here, into_body, is_among, is_declared_again, is_parameter_again, with_parameter, with_procedure, PARAMETER_LIMIT, DeclaredTwice, require, Block, Progress, is_external, is_reentrant, check_reentrant, check_visibility, declare_parameters, no_more_parameters, open_procedure, place_of, bytes_eq-Decides, not-true, or_assoc, or_parts}
use Rattle.typing.proofs.Kept.{Gives, gives_after, gives_fault, gives_ok, in_turn, required, then_more}
use Rattle.typing.proofs.Types.TypesOfDeclarations.{heading_procedure}
use Rattle.typing.proofs.Parameters.Grown.{all_more}
use Rattle.typing.proofs.Parameters.Parameters.{Differ}

among_both : (names more : List (List ℕ)) (name : List ℕ)
    → is_among (names ++ more) name ≡ (is_among names name || is_among more name)
among_both [] more name = refl
among_both (first ∷ names) more name =
    ap (λ (rest : Bool). bytes_eq name first || rest) (among_both names more name)
    ∙ sym (or_assoc (bytes_eq name first) (is_among names name) (is_among more name))

not_inserted : (names : List (List ℕ)) (name other : List ℕ)
    → is_among names name ≡ false
    → is_among (insert_key bytes_eq names name) other ≡ false
    → (name ≡ other → ⊥) × (is_among names other ≡ false)
not_inserted names name other new is =
    let inserted : insert_key bytes_eq names name ≡ names ++ (name ∷ []) =
    ap (λ (test : Bool). if test then names else names ++ (name ∷ [])) new in
    let split : (is_among names other || (bytes_eq other name || false)) ≡ false =
    sym (ap (λ (all : List (List ℕ)). is_among all other) inserted ∙ among_both names (name ∷ []) other)
    ∙ is in
    let both = or_parts (is_among names other) (bytes_eq other name || false) split in (
      λ same.
          let equal : bytes_eq other name ≡ true = (bytes_eq-Decides other name).1 (sym same) in
          let bad : true ≡ false =
          sym equal ∙ (or_parts (bytes_eq other name) false both.1).0 in
          absurd cc,
      both.0,
    )

-- parameters that are declared
pub record Differing (parameters : List Identifier) (here after : Here) : Type 0 where
  pub differ : Differ parameters
  pub new : AllByRecursion (λ (one : Identifier). is_among here.body.declared one.name ≡ false) parameters
  pub block : after.body.block ≡ here.body.block
  pub around : after.outer_bodies ≡ here.outer_bodies
  pub count : after.objects ≡ here.objects

pub parameters_differ : (parameters : List Identifier) (here : Here)
    → Gives (Differing parameters here) (declare_parameters parameters here)
parameters_differ [] here =
    gives_ok (record { differ = tt; new = tt; block = refl; around = refl; count = refl })
parameters_differ (parameter ∷ others) here =
    in_turn (required (not (is_parameter_again here parameter.name)) DeclaredTwice (place_of parameter))
    λ _ once.
    then_more (parameters_differ others (with_parameter parameter.name here)) λ after is.
    let new : is_among here.body.declared parameter.name ≡ false =
    not-true (is_among here.body.declared parameter.name) once in
    record {
      differ = (
        all_more (λ (one : Identifier).
            is_among (insert_key bytes_eq here.body.declared parameter.name) one.name ≡ false)
            (λ (one : Identifier). parameter.name ≡ one.name → ⊥) others
            (λ one later. (not_inserted here.body.declared parameter.name one.name new later).0) is.new,
        is.differ,
      );
      new = (
        new,
        all_more (λ (one : Identifier).
            is_among (insert_key bytes_eq here.body.declared parameter.name) one.name ≡ false)
            (λ (one : Identifier). is_among here.body.declared one.name ≡ false) others
            (λ one later. (not_inserted here.body.declared parameter.name one.name new later).1) is.new,
      );
      block = is.block;
      around = is.around;
      count = is.count;
    }

none_left : (parameters : List Identifier) → Gives (λ _. parameters ≡ []) (no_more_parameters parameters)
none_left [] = gives_ok refl
none_left (parameter ∷ others) = gives_fault

all_taken : {X : Type 0} (n : ℕ) (all : List X) → drop n all ≡ [] → (take n all ≡ all) × (length all ≤ n)
all_taken zero [] is = (refl, omega arith)
all_taken zero (first ∷ all) is = let bad : first ∷ all ≡ [] = is in absurd cc
all_taken (suc n) [] is = (refl, omega arith)
all_taken (suc n) (first ∷ all) is =
    let rest = all_taken n all is in
    let few = rest.1 in
    (ap (λ others. first ∷ others) rest.0, omega (arith, few))

-- at its heading a procedure is added at the end of the table, and its body begins
pub record Opened (heading : HeadingTree) (declared : DeclarationTrees)
    (before after : Progress) : Type 0 where
  pub objects : after.known.objects ≡ before.known.objects
  pub procedures : after.known.procedures ≡ before.known.procedures ++ heading_procedure heading declared ∷ []
  pub block : after.known.here.body.block ≡ []
  pub around : after.known.here.outer_bodies
      ≡ (with_procedure heading.name.name before.known.here).body ∷ before.known.here.outer_bodies
  pub count : after.known.here.objects ≡ before.known.here.objects
  pub differ : Differ heading.parameters
  pub few : length heading.parameters ≤ PARAMETER_LIMIT
  pub new : not (is_declared_again before.known.here heading.name.name) ≡ true

pub opens_procedure : (block : Block) (heading : HeadingTree) (declared : DeclarationTrees)
    (progress : Progress)
    → Gives (Opened heading declared progress) (open_procedure block heading declared progress)
opens_procedure block heading declared progress =
    in_turn (required (not (is_declared_again progress.known.here heading.name.name)) DeclaredTwice
    (place_of heading.name)) λ _ once.
    gives_after (require (not (is_reentrant block.owner || is_external block.owner)) _ _) λ plain.
    in_turn
    (parameters_differ (take PARAMETER_LIMIT heading.parameters)
    (into_body (with_procedure heading.name.name progress.known.here))) λ here is.
    in_turn (none_left (drop PARAMETER_LIMIT heading.parameters)) λ _ none.
    gives_after (check_visibility block heading.linkage) λ visible.
    gives_after (check_reentrant heading.linkage heading.reentrant) λ reentrant.
    let all = all_taken PARAMETER_LIMIT heading.parameters none in
    gives_ok (record {
      objects = refl;
      procedures = refl;
      block = is.block;
      around = is.around;
      count = is.count;
      differ = subst Differ all.0 is.differ;
      few = all.1;
      new = once;
    })
