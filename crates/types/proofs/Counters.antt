-- The variable of an iterative DO.
use Rattle.types.proofs.Prelude.{◌≡◌, ℕ, ◌&&◌, Option, is_none, Ok, Err, ap, sym, refl, ◌∙◌, subst, ScalarType, Identifier, Object, NoCounter, Fault, Checked, ◌>>=◌, require, place_of, FailsBy, fails_more}
use Rattle.names.specs.declared.entity.Binding.TheVariants.{Declared}
use Rattle.typed_trees.specs.TypedTrees.{TypedObject}
use Rattle.typing.specs.{Items.{is_not_based}, References.{Known, scalar_of}, internal.Checks.{found}, internal.ReferenceChecks.{is_writable, object_of}, internal.StatementChecks.{Counter, counter_bound}}
use Rattle.types.specs.internal.Walking.{counter_type}

-- three checks, the last of which gives something
in_four : {S Q : Type 0} (a b : Checked (Unit {0})) (c : Checked S) (next : S → Checked Q)
    → (a >>= (λ _. b >>= (λ _. c >>= next))) ≡ ((a >>= (λ _. b >>= (λ _. c))) >>= next)
in_four (Err x) b c next = refl
in_four (Ok _) (Err x) c next = refl
in_four (Ok _) (Ok _) c next = refl

pub counter_fails : (known : Known) (number : ℕ) (name : Identifier) (object : TypedObject)
    (fault : Option Fault)
    → object_of known name number ≡ Ok object → FailsBy fault (counter_type object name)
    → FailsBy fault (counter_bound known (Declared (Object number)) name)
counter_fails known number name object fault is fails =
    let counter : ScalarType → Checked Counter = λ scalar. Ok (record { object = number; scalar = scalar }) in
    let fits : TypedObject → Checked (Unit {0}) =
    λ one. require (is_none one.dimension && is_not_based one.home) NoCounter (place_of name) in
    let scalar : TypedObject → Checked ScalarType =
    λ one. found (scalar_of one.object_type) NoCounter (place_of name) in
    subst (FailsBy fault)
    (sym (ap (λ (given : Checked TypedObject). given
    >>= (λ one. is_writable one name >>= (λ _. fits one >>= (λ _. scalar one >>= counter)))) is
    ∙ in_four (is_writable object name) (fits object) (scalar object) counter))
    (fails_more fault (counter_type object name) counter fails)
