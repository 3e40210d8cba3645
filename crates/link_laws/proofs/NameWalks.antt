-- Names that walks hand out one after another.
use Rattle.link_laws.proofs.Prelude.{◌≡◌, ℕ, ◌+◌, Bool, true, false, cond, not, nat_lt, Bor, List, [], ◌∷◌, ◌++◌, length, map, Option, None, Some, option_map, Result, Err, refl, ap, sym, subst, ◌∙◌, list_all, and_parts, position, position_or_len, bytes_eq, length-map, LinkRefusal, DuplicatePublic, Public, is_among, Walking, module_by, ContentsFit, gathered, missing_in, public_name}
use Rattle.std.specs.Prelude.{IfSome}
use Rattle.symbols.specs.Names.{is_name}
use Rattle.object_modules.specs.internal.Views.{public_view}
use Rattle.object_modules.specs.internal.Walks.{HandsOut}
use Rattle.object_modules.specs.declared.public.PublicName.{PublicName}

-- a public more
module _ (known : List (List ℕ)) (total : Result (List (List ℕ)) LinkRefusal) (publics left : List Public)
    (public : Public) (is_new : Bool) (rest : gathered known (map public_name publics) ≡ total)
    (next : publics ≡ public ∷ left) (tells : is_new ≡ not (is_among public.name known)) where
  one_name :
      (found : Bool) → is_among public.name known ≡ found
      → cond found (Err (DuplicatePublic public.name))
      (gathered (known ++ public.name ∷ []) (map public_name left)) ≡ total
  one_name found is =
      ap (λ b.
      cond b (Err (DuplicatePublic public.name))
      (gathered (known ++ public.name ∷ []) (map public_name left)))
      (sym is)
      ∙ ap (λ p. gathered known (map public_name p)) (sym next)
      ∙ rest

  known_by : (b : Bool) → is_new ≡ not b → is_among public.name known ≡ b
  known_by b h = flip (is_among public.name known) b (sym tells ∙ h)
    where
      flip : (x y : Bool) → not x ≡ not y → x ≡ y
      flip true true e = refl
      flip true false e = absurd (let bad : false ≡ true = e in cc)
      flip false true e = absurd (let bad : true ≡ false = e in cc)
      flip false false e = refl

  pub name_repeated : is_new ≡ false → total ≡ Err (DuplicatePublic public.name)
  name_repeated old = sym (one_name true (known_by true old))

  pub name_added :
      (new : List (List ℕ)) → is_new ≡ true → new ≡ cond is_new (known ++ public.name ∷ []) known
      → gathered new (map public_name left) ≡ total
  name_added new fresh now =
      ap (λ names. gathered names (map public_name left))
      (now ∙ ap (λ b. cond b (known ++ public.name ∷ []) known) fresh)
      ∙ one_name false (known_by false fresh)

-- an external name more
module _ (known : List (List ℕ)) (total : Option (List ℕ)) (names left : List (List ℕ)) (name : List ℕ)
    (rest : missing_in known names ≡ total) (next : names ≡ name ∷ left) where
  one_missing :
      (found : Bool) → is_among name known ≡ found
      → cond (not found) (Some name) (missing_in known left) ≡ total
  one_missing found is =
      ap (λ b. cond (not b) (Some name) (missing_in known left)) (sym is)
      ∙ ap (missing_in known) (sym next) ∙ rest

  pub missing_found : is_among name known ≡ false → Some name ≡ total
  missing_found absent = one_missing false absent

  pub missing_passed : is_among name known ≡ true → missing_in known left ≡ total
  missing_passed there = one_missing true there

-- names of valid modules, one after another
pub names_left :
    (old new : List (List ℕ)) (first : Option (List ℕ)) → HandsOut old new first → list_all is_name old ≡ true
    → list_all is_name new ≡ true
names_left old new (Some name) out valid =
    (and_parts (is_name name) (list_all is_name new) (sym (ap (list_all is_name) out) ∙ valid)).1
names_left old new None out valid = ap (list_all is_name) out.1

pub publics_left :
    (old new : List Public) (first : Option Public) → HandsOut old new first
    → list_all is_name (map public_name old) ≡ true → list_all is_name (map public_name new) ≡ true
publics_left old new (Some public) out valid =
    (and_parts (is_name public.name) (list_all is_name (map public_name new))
    (sym (ap (λ p. list_all is_name (map public_name p)) out) ∙ valid)).1
publics_left old new None out valid = ap (λ p. list_all is_name (map public_name p)) out.1

pub name_handed :
    (old new : List (List ℕ)) (first : Option (Bor (List ℕ)))
    → HandsOut old new (option_map (λ (name : Bor (List ℕ)). name.now) first) → list_all is_name old ≡ true
    → IfSome first (λ name. is_name name.now ≡ true)
name_handed old new (Some name) out valid =
    (and_parts (is_name name.now) (list_all is_name new) (sym (ap (list_all is_name) out) ∙ valid)).0
name_handed old new None out valid = tt

pub public_handed :
    (old new : List Public) (first : Option PublicName) → HandsOut old new (option_map public_view first)
    → list_all is_name (map public_name old) ≡ true
    → IfSome first (λ public. is_name (public.name).now ≡ true)
public_handed old new (Some public) out valid =
    (and_parts (is_name (public.name).now) (list_all is_name (map public_name new))
    (sym (ap (λ p. list_all is_name (map public_name p)) out) ∙ valid)).0
public_handed old new None out valid = tt

-- what a walk hands out, its module does
pub externals_handed :
    (old new : Walking) (first : Option (List ℕ)) → HandsOut old.externals new.externals first
    → HandsOut (module_by old).externals (module_by new).externals first
unfolding module_by
externals_handed old new first out = out

pub publics_handed :
    (old new : Walking) (first : Option Public) → HandsOut old.publics new.publics first
    → HandsOut (module_by old).publics (module_by new).publics first
unfolding module_by
publics_handed old new first out = out

-- and its contents stay
pub fits_without_externals :
    (old new : Walking) (externals : List (List ℕ))
    → new ≡ record old { externals = externals } → ContentsFit old
    → ContentsFit new
fits_without_externals old new externals is fits =
    subst ContentsFit (sym is) (record { code = fits.code; data_bytes = fits.data_bytes })

pub fits_without_publics :
    (old new : Walking) (publics : List Public) → new ≡ record old { publics = publics } → ContentsFit old
    → ContentsFit new
fits_without_publics old new publics is fits =
    subst ContentsFit (sym is) (record { code = fits.code; data_bytes = fits.data_bytes })

-- the place of a name among those that are borrowed
place_borrowed :
    (name : List ℕ) (keys : List (Bor (List ℕ)))
    → position_or_len (λ (key : Bor (List ℕ)). bytes_eq name key.now) keys
    ≡ position_or_len (bytes_eq name) (map (λ (key : Bor (List ℕ)). key.now) keys)
place_borrowed name [] = refl
place_borrowed name (key ∷ keys) =
    ap (λ n. cond (not (bytes_eq name key.now)) (1 + n) 0) (place_borrowed name keys)

pub position_borrowed :
    (name : List ℕ) (keys : List (Bor (List ℕ)))
    → position (λ (key : Bor (List ℕ)). bytes_eq name key.now) keys
    ≡ position (bytes_eq name) (map (λ (key : Bor (List ℕ)). key.now) keys)
position_borrowed name keys =
    let place : ℕ = position_or_len (bytes_eq name) (map (λ (key : Bor (List ℕ)). key.now) keys) in
    ap (λ (p : ℕ). cond (nat_lt p (length keys)) (Some p) None) (place_borrowed name keys)
    ∙ ap (λ (n : ℕ). cond (nat_lt place n) (Some place) None)
    (sym (length-map keys (λ (key : Bor (List ℕ)). key.now)))
