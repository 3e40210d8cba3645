-- Which refusal it is, by what each pass over the modules found.
use Rattle.link_laws.proofs.Prelude.{◌≡◌, ℕ, Bool, true, false, cond, not, ◌||◌, ◌==◌, List, [], ◌∷◌, ◌++◌, length, Option, None, Some, option_map, Result, Ok, Err, refl, ap, sym, ◌∙◌, list_any, option_or, bytes_eq, append_assoc, append-nil, linked_modules, all_publics, LinkRefusal, DuplicatePublic, UnresolvedExternal, SegmentTooLong, NotOneMain, HighByteMoves, main_modules, repeated_after, public_names, unresolved, some_segment_is_too_long, some_high_byte_moves, link_refusal, ObjectModule, is_among, Alike, any_moved, gathered, externals_of, missing_in}
use Rattle.omf80.specs.Records.{first_that_holds}

-- what the first name that is repeated makes of names that are gathered
abbrev pub gathered_with : (known names : List (List ℕ)) → Option (List ℕ)
    → Result (List (List ℕ)) LinkRefusal
gathered_with known names None = Ok (known ++ names)
gathered_with known names (Some name) = Err (DuplicatePublic name)

one_moved :
    (known others : List (List ℕ)) (name : List ℕ) (repeated : Option (List ℕ))
    → gathered_with (known ++ name ∷ []) others repeated ≡ gathered_with known (name ∷ others) repeated
one_moved known others name None = ap Ok (append_assoc known (name ∷ []) others)
one_moved known others name (Some other) = refl

alike_pushed :
    (known reversed : List (List ℕ)) (name : List ℕ) → Alike known reversed
    → Alike (known ++ name ∷ []) (name ∷ reversed)
alike_pushed known reversed name same other =
    any_moved (bytes_eq other) known name []
    ∙ ap (λ k. bytes_eq other name || list_any (bytes_eq other) k) (append-nil known)
    ∙ ap (λ t. bytes_eq other name || t) (same other)

gathered_after :
    (known reversed names : List (List ℕ)) → Alike known reversed
    → gathered known names ≡ gathered_with known names (repeated_after reversed names)
gathered_after known reversed [] same = ap Ok (sym (append-nil known))
gathered_after known reversed (name ∷ others) same =
    go (is_among name known) (is_among name reversed) (same name)
    (gathered_after (known ++ name ∷ []) (name ∷ reversed) others (alike_pushed known reversed name same)
    ∙ one_moved known others name (repeated_after (name ∷ reversed) others))
  where
    go : (b c : Bool) → b ≡ c
        → gathered (known ++ name ∷ []) others
        ≡ gathered_with known (name ∷ others) (repeated_after (name ∷ reversed) others)
        → cond b (Err (DuplicatePublic name)) (gathered (known ++ name ∷ []) others)
        ≡ gathered_with known (name ∷ others) (cond c (Some name) (repeated_after (name ∷ reversed) others))
    go true true e later = refl
    go true false e later = absurd (let bad : true ≡ false = e in cc)
    go false true e later = absurd (let bad : false ≡ true = e in cc)
    go false false e later = later

pub gathered_is :
    (names : List (List ℕ)) → gathered [] names ≡ gathered_with [] names (repeated_after [] names)
gathered_is names = gathered_after [] [] names (λ name. refl)

-- what was gathered
pub record IsGathered (names all : List (List ℕ)) : Type 0 where
  pub all_is : all ≡ names
  pub new : repeated_after [] names ≡ None

by_repeated :
    (names all : List (List ℕ)) (repeated : Option (List ℕ)) → repeated_after [] names ≡ repeated
    → gathered_with [] names repeated ≡ Ok all → IsGathered names all
by_repeated names all None e h = record { all_is = sym (ap taken h); new = e }
  where
    taken : Result (List (List ℕ)) LinkRefusal → List (List ℕ)
    taken (Ok found) = found
    taken (Err refusal) = names
by_repeated names all (Some name) e h = absurd (let bad : Err (DuplicatePublic name) ≡ Ok all = h in cc)

pub all_gathered : (names all : List (List ℕ)) → gathered [] names ≡ Ok all → IsGathered names all
all_gathered names all h = by_repeated names all (repeated_after [] names) refl (sym (gathered_is names) ∙ h)

refusal_by :
    (names : List (List ℕ)) (refusal : LinkRefusal) (repeated : Option (List ℕ))
    → gathered_with [] names repeated ≡ Err refusal → option_map DuplicatePublic repeated ≡ Some refusal
refusal_by names refusal None h = absurd (let bad : Ok names ≡ Err refusal = h in cc)
refusal_by names refusal (Some name) h = ap told h
  where
    told : Result (List (List ℕ)) LinkRefusal → Option LinkRefusal
    told (Ok found) = None
    told (Err other) = Some other

-- The refusals in their order.
module _ (objects : List ObjectModule) where
  abbrev pub long : Bool
  long = some_segment_is_too_long objects (linked_modules objects)

  abbrev pub other_mains : Bool
  other_mains = not (length (main_modules (linked_modules objects)) == 1)

  abbrev pub high : Bool
  high = list_any (some_high_byte_moves (all_publics (linked_modules objects))) (linked_modules objects)

  abbrev pub by_passes : (repeated missing : Option (List ℕ)) → (a b c : Bool) → Option LinkRefusal
  by_passes repeated missing a b c =
      option_or (option_map DuplicatePublic repeated)
      (option_or (option_map UnresolvedExternal missing)
      (first_that_holds ((a, SegmentTooLong) ∷ (b, NotOneMain) ∷ (c, HighByteMoves) ∷ [])))

  refusal_is :
      link_refusal objects
      ≡ by_passes (repeated_after [] (public_names objects)) (unresolved objects) long other_mains high
  unfolding link_refusal
  refusal_is = refl

  pub refused_duplicate :
      (refusal : LinkRefusal) → gathered [] (public_names objects) ≡ Err refusal
      → link_refusal objects ≡ Some refusal
  refused_duplicate refusal h =
      refusal_is
      ∙ ap (λ r.
      option_or r
      (option_or (option_map UnresolvedExternal (unresolved objects))
      (first_that_holds ((long, SegmentTooLong) ∷ (other_mains, NotOneMain) ∷ (high, HighByteMoves) ∷ []))))
      (refusal_by (public_names objects) refusal (repeated_after [] (public_names objects))
      (sym (gathered_is (public_names objects)) ∙ h))

  module _ (names : List (List ℕ)) (known : gathered [] (public_names objects) ≡ Ok names) where
    no_repeat : link_refusal objects ≡ by_passes None (unresolved objects) long other_mains high
    no_repeat =
        refusal_is
        ∙ ap (λ r. by_passes r (unresolved objects) long other_mains high)
        (all_gathered (public_names objects) names known).new

    resolved : missing_in names (externals_of objects) ≡ unresolved objects
    resolved =
        ap (λ n. missing_in n (externals_of objects)) (all_gathered (public_names objects) names known).all_is

    pub refused_unresolved :
        (name : List ℕ) → Some name ≡ missing_in names (externals_of objects)
        → link_refusal objects ≡ Some (UnresolvedExternal name)
    refused_unresolved name h =
        no_repeat ∙ ap (λ m. by_passes None m long other_mains high) (sym (h ∙ resolved))

    module _ (all_resolved : None ≡ missing_in names (externals_of objects)) where
      after_names : link_refusal objects ≡ by_passes None None long other_mains high
      after_names =
          no_repeat ∙ ap (λ m. by_passes None m long other_mains high) (sym (all_resolved ∙ resolved))

      pub refused_long : long ≡ true → link_refusal objects ≡ Some SegmentTooLong
      refused_long h = after_names ∙ ap (λ t. by_passes None None t other_mains high) h

      pub refused_mains : long ≡ false → other_mains ≡ true → link_refusal objects ≡ Some NotOneMain
      refused_mains h k =
          after_names ∙ ap (λ t. by_passes None None t other_mains high) h
          ∙ ap (λ t. by_passes None None false t high) k

      pub refused_high : long ≡ false → other_mains ≡ false → high ≡ true
          → link_refusal objects ≡ Some HighByteMoves
      refused_high h k j =
          after_names ∙ ap (λ t. by_passes None None t other_mains high) h
          ∙ ap (λ t. by_passes None None false t high) k
          ∙ ap (by_passes None None false false) j

      pub allowed : long ≡ false → other_mains ≡ false → high ≡ false → link_refusal objects ≡ None
      allowed h k j =
          after_names ∙ ap (λ t. by_passes None None t other_mains high) h
          ∙ ap (λ t. by_passes None None false t high) k
          ∙ ap (by_passes None None false false) j
