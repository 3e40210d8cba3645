-- Expressions whose values are known mean them, wherever the object module of their module lies.
use Rattle.program_laws.proofs.Prelude.{ℕ, List, ap, sym, subst, ◌∙◌, ObjectModule, TypedModule, address_of_location, Storage, Gave, place_at, ExternalName, Home, homes_of, known_value, nodes_of, HaveOperands, location_of_place, known_gives, have_operands, around_in, address_for, module_layout, IsSoundlyMade}
use Rattle.program_laws.specs.internal.KnownValues.{ValuesAreKnown}
use Rattle.program_laws.proofs.Resolving.{lists_counted, place_lies, resolves}

pub values_are_known :
    (typed : TypedModule) (object : ObjectModule)
    → IsSoundlyMade typed object
    → ValuesAreKnown typed object
values_are_known typed object sound program number address_of address_of_name memory room later within
    expression place s lies types known =
    known_gives (around_in program number room) (nodes_of sound.made.tree) storage
    (place_at
    (module_layout address_of address_of_name sound.made.generated.to sound.made.generated.code
    sound.made.tree.externals.items))
    (resolves program number typed object address_of address_of_name memory sound lies room)
    later expression place
    (subst (λ (lists : ℕ). HaveOperands lists expression)
    (sym (lists_counted typed storage sound.made.laid.stored))
    (have_operands typed within expression types))
    (ap (λ (homes : List Home). known_value homes storage expression) sound.made.lowered.homes
    ∙ ap (λ (storage : Storage). known_value (homes_of typed storage) storage expression)
    sound.made.laid.stored.storage_is
    ∙ known)
    s
    ∙ ap (λ (given : ℕ). Gave given s)
    (place_lies program number typed object address_of address_of_name memory sound lies room place
    ∙ ap (λ (names : List ExternalName).
    address_of_location (address_for address_of address_of_name) (location_of_place names place))
    sound.made.lowered.externals)
  where
    storage : Storage
    storage = sound.made.storage
