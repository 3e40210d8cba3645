-- What names and numbers mean where a part of a program stands.
use Rattle.resolving.proofs.Prelude.{◌≡◌, ℕ, Option, None, Some, refl, ap, sym, ◌∙◌, option_and_then, option_map_or, slice_get, TypedModule, InProgram, address_in, meant_in}
use Rattle.meaning.specs.Access.{Surroundings, address_of}
use Rattle.resolving.specs.internal.Sites.{meant_at}

-- where an object of the module lies that may be there
abbrev address_meant : Surroundings → (object : ℕ) → TypedModule → ℕ
address_meant around object typed =
    option_map_or (address_in around.program.placement)
    (meant_in around.program.modules around.number_of_module object typed) 0

address_by :
    (around : Surroundings) (object : ℕ) (found : Option TypedModule)
    → option_map_or (address_meant around object) found 0
    ≡ option_map_or (address_in around.program.placement)
    (option_and_then
    (λ (typed : TypedModule). meant_in around.program.modules around.number_of_module object typed) found)
    0
address_by around object None = refl
address_by around object (Some typed) = refl

pub address_found :
    (around : Surroundings) (object : ℕ) (found : InProgram)
    → Some found ≡ meant_at around object
    → address_in around.program.placement found ≡ address_of around object
address_found around object found is =
    ap (λ one. option_map_or (address_in around.program.placement) one 0) is
    ∙ sym (address_by around object (slice_get around.program.modules around.number_of_module))

pub no_address :
    (around : Surroundings) (object : ℕ)
    → None ≡ meant_at around object
    → 0 ≡ address_of around object
no_address around object is =
    ap (λ one. option_map_or (address_in around.program.placement) one 0) is
    ∙ sym (address_by around object (slice_get around.program.modules around.number_of_module))
