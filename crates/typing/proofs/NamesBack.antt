-- What names in the text are bound to, as against the names in the tables.
use Rattle.typing.proofs.Prelude.{◌≡◌, ℕ, List, [], Option, Some, None, refl, unwrap_or, slice_get, codes, option_or, option_map, Identifier, Binding, Declared, BuiltInName, BuiltIn, Entity, Object, Procedure, binding_of, built_in_of, built_ins, Here, entity_of, TypedObject, TypedModule, UnknownName, Known, place_of, bound, object_of, procedure_of, members_of, Agrees, procedure_name, object_name, members_of_object, function_name}
use Rattle.names.specs.declared.entity.BuiltIn.TheVariants as built_in_names
use Rattle.typing.proofs.Kept.{Gives, then_more, is_found}
use Rattle.typing.proofs.Tables.{names_known}

-- the names of built-in procedures
abbrev pub spelled : BuiltIn → List ℕ
spelled built_in_names.Input = codes "INPUT"
spelled built_in_names.Output = codes "OUTPUT"
spelled (built_in_names.Unary function) = function_name function
spelled built_in_names.Length = codes "LENGTH"
spelled built_in_names.Last = codes "LAST"
spelled built_in_names.Size = codes "SIZE"
spelled built_in_names.ShiftLeft = codes "SHL"
spelled built_in_names.ShiftRight = codes "SHR"
spelled built_in_names.RotateLeft = codes "ROL"
spelled built_in_names.RotateRight = codes "ROR"
spelled built_in_names.Move = codes "MOVE"

built_in_spelled : (name : List ℕ) (built_in : BuiltIn) → built_in_of name ≡ Some built_in
    → name ≡ spelled built_in
unfolding built_in_of
built_in_spelled name built_in e =
    names_known (λ it key. key ≡ spelled it) built_ins name built_in
    (refl, (refl, (refl, (refl, (refl, (refl, (refl, (refl, (refl, (refl, (refl, (refl, (refl, tt)))))))))))))
    e

-- a name is bound to a declaration, or else to a built-in procedure
declared_entity : (found : Option Entity) (built_in : Option BuiltIn) (entity : Entity)
    → option_or (option_map Declared found) (option_map BuiltInName built_in) ≡ Some (Declared entity)
    → found ≡ Some entity
declared_entity None None entity e = absurd cc
declared_entity None (Some built_in) entity e = absurd cc
declared_entity (Some found) built_in entity e = cc

named_built_in : (found : Option Entity) (built_in : Option BuiltIn) (binding : BuiltIn)
    → option_or (option_map Declared found) (option_map BuiltInName built_in) ≡ Some (BuiltInName binding)
    → built_in ≡ Some binding
named_built_in None None binding e = absurd cc
named_built_in None (Some built_in) binding e = cc
named_built_in (Some found) built_in binding e = absurd cc

pub bound_entity : (here : Here) (name : List ℕ) (entity : Entity)
    → binding_of here name ≡ Some (Declared entity)
    → entity_of here name ≡ Some entity
bound_entity here name entity e = declared_entity (entity_of here name) (built_in_of name) entity e

pub bound_spelled : (here : Here) (name : List ℕ) (built_in : BuiltIn)
    → binding_of here name ≡ Some (BuiltInName built_in)
    → name ≡ spelled built_in
bound_spelled here name built_in e =
    built_in_spelled name built_in (named_built_in (entity_of here name) (built_in_of name) built_in e)

-- what the tables say of an object that a name stands for
pub record StandsFor (known : Known) (name : List ℕ) (number : ℕ) (object : TypedObject) : Type 0 where
  pub in_tables : (tables : TypedModule) → Agrees tables known
      → (object_name tables number ≡ name)
      × (members_of_object tables number ≡ unwrap_or (members_of object.object_type) [])

abbrev pub Binds : Known → Identifier → Binding → Type 0
Binds known name binding = binding_of known.here name.name ≡ Some binding

pub is_bound : (known : Known) (name : Identifier) → Gives (Binds known name) (bound known name)
is_bound known name = is_found (binding_of known.here name.name) UnknownName (place_of name)

-- an object that a name is bound to
pub is_object : (known : Known) (name : Identifier) (number : ℕ)
    → Binds known name (Declared (Object number))
    → Gives (StandsFor known name.name number) (object_of known name number)
is_object known name number e =
    then_more (is_found (slice_get known.objects number) _ _) (λ object entry. record {
      in_tables = λ tables agrees.
          agrees.0 name.name number object (bound_entity known.here name.name (Object number) e) entry;
    })

-- a procedure that a name is bound to
pub is_procedure : (known : Known) (name : Identifier) (number : ℕ)
    → Binds known name (Declared (Procedure number))
    → Gives (λ procedure. (tables : TypedModule) → Agrees tables known
    → procedure_name tables number ≡ name.name)
    (procedure_of known name number)
is_procedure known name number e =
    then_more (is_found (slice_get known.procedures number) _ _) (λ procedure entry tables agrees.
    agrees.1 name.name number procedure (bound_entity known.here name.name (Procedure number) e) entry)
