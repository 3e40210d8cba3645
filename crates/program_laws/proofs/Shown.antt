-- PUBLIC procedures among the publics of an object module.
use Rattle.program_laws.proofs.Prelude.{◌≡◌, ℕ, zero, suc, List, [], ◌∷◌, Some, refl, ap, ◌∙◌, subst, slice_get, none-some, same_Some, ObjectModule, Public, TypedModule, Assembled, PublicName, Procedure, Written, place_of_label, ArePublicsOf, IsPublicOf, ShowsProcedures, IsSoundlyMade}
use Rattle.program_laws.proofs.Shared.{public_in}

-- the public that a PUBLIC name is
record PublicFound (written : Written) (bytes : Assembled) (name : PublicName)
    (publics : List Public) : Type 0 where
  at : ℕ
  public : Public
  found : slice_get publics at ≡ Some public
  is : IsPublicOf written bytes name.name name.place public

public_found :
    (written : Written) (bytes : Assembled) (names : List PublicName) (publics : List Public) (index : ℕ)
    (name : PublicName)
    → ArePublicsOf written bytes names publics
    → slice_get names index ≡ Some name
    → PublicFound written bytes name publics
public_found written bytes [] publics index name are found = absurd (none-some name found)
public_found written bytes (one ∷ names) [] index name are found = absurd are
public_found written bytes (one ∷ names) (public ∷ publics) zero name are found =
    let same : one ≡ name = same_Some one name found in
    record {
      at = 0;
      public = public;
      found = refl;
      is = subst (λ (given : PublicName). IsPublicOf written bytes given.name given.place public) same are.0;
    }
public_found written bytes (one ∷ names) (public ∷ publics) (suc index) name are found =
    let rest = public_found written bytes names publics index name are.1 found in
    record { at = suc rest.at; public = rest.public; found = rest.found; is = rest.is }

-- The object module of a module shows where each PUBLIC procedure begins: at its label.
pub shows_procedures :
    (typed : TypedModule) (object : ObjectModule) (sound : IsSoundlyMade typed object)
    → ShowsProcedures typed object (place_of_label sound.made.generated.code sound.made.generated.code_bytes)
shows_procedures typed object sound index found there visible =
    let is = sound.made.generated in
    let name : PublicName = record { name = found.name; place = Procedure index } in
    let named =
    public_in typed sound.made.tree.homes.items index found sound.made.laid.globals there visible in
    let in_tree : slice_get sound.made.tree.publics.items named.index ≡ Some name =
    ap (λ (names : List PublicName). slice_get names named.index) sound.made.lowered.publics ∙ named.found in
    let one =
    public_found is.code is.code_bytes sound.made.tree.publics.items object.publics named.index name
    is.publics in_tree in
    record { place = one.at; public = one.public; found = one.found; is = one.is }
