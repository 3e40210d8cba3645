-- Why modules make no program, from the table of their PUBLICs.
use Rattle.join.proofs.Prelude.{◌≡◌, ℕ, ◌==◌, Bool, List, [], Option, None, Some, option_map, count_by, if◌then◌else◌, refl, ap, sym, ◌∙◌, find, option_or, TypedModule, Global, globals_of, publics_of, externals_of, first_repeated, lacks_public, differs_from_public, is_main, JoinRefusal, NoPublic, PublicTwice, DeclarationsDiffer, NotOneMain, without_public, public_twice, declared_otherwise, not_one_main, join_refusal, Shared, Publics, globals_view, first_external, PublicTable, publics_view, no_publics, with_publics, lacks_in, differs_in}
use Rattle.join.proofs.PublicTables.{lacks_is, differs_is, table_repeats}

-- a refusal by the name of what is found
by_name : (refused : List ℕ → JoinRefusal) (found : Option Global)
    → option_map (λ (global : Global). refused global.name) found
    ≡ option_map refused (option_map (λ (global : Global). global.name) found)
by_name refused None = refl
by_name refused (Some global) = refl

abbrev table_of : List TypedModule → PublicTable
table_of modules = with_publics no_publics (globals_of modules)

without_is : (modules : List TypedModule)
    → without_public modules ≡ option_map NoPublic
    (first_external (lacks_in (table_of modules)) (globals_of modules))
without_is modules =
    by_name NoPublic (find (lacks_public (publics_of modules)) (externals_of modules))
    ∙ ap (λ test. option_map NoPublic (first_external test (globals_of modules)))
    (sym (lacks_is (globals_of modules)))

twice_is : (modules : List TypedModule)
    → public_twice modules ≡ option_map PublicTwice (table_of modules).repeated
twice_is modules =
    by_name PublicTwice (first_repeated [] (publics_of modules))
    ∙ ap (option_map PublicTwice) (sym (table_repeats (globals_of modules)))

otherwise_is : (modules : List TypedModule)
    → declared_otherwise modules ≡ option_map DeclarationsDiffer
    (first_external (differs_in (table_of modules)) (globals_of modules))
otherwise_is modules =
    by_name DeclarationsDiffer (find (differs_from_public (publics_of modules)) (externals_of modules))
    ∙ ap (λ test. option_map DeclarationsDiffer (first_external test (globals_of modules)))
    (sym (differs_is (globals_of modules)))

-- the refusal by what is found in turn
abbrev in_turn : (without twice otherwise : Option (List ℕ)) → (one : Bool) → Option JoinRefusal
in_turn without twice otherwise one =
    option_or (option_map NoPublic without)
    (option_or (option_map PublicTwice twice)
    (option_or (option_map DeclarationsDiffer otherwise) (if one then None else Some NotOneMain)))

refusal_is : (modules : List TypedModule)
    → join_refusal modules
    ≡ in_turn (first_external (lacks_in (table_of modules)) (globals_of modules)) (table_of modules).repeated
    (first_external (differs_in (table_of modules)) (globals_of modules)) (count_by is_main modules == 1)
unfolding join_refusal
refusal_is modules =
    (λ i. option_or (without_is modules i)
    (option_or (twice_is modules i) (option_or (otherwise_is modules i) (not_one_main modules))))

module _ (modules : List TypedModule) (globals : List Shared) (publics : Publics)
    (globals_are : globals_view globals ≡ globals_of modules)
    (publics_are : publics_view publics ≡ with_publics no_publics (globals_view globals)) where
  table_is : publics_view publics ≡ table_of modules
  table_is = publics_are ∙ ap (with_publics no_publics) globals_are

  refusal_by : join_refusal modules ≡ in_turn
      (first_external (lacks_in (publics_view publics)) (globals_view globals)) publics.repeated
      (first_external (differs_in (publics_view publics)) (globals_view globals))
      (count_by is_main modules == 1)
  refusal_by =
      refusal_is modules
      ∙ (λ i. in_turn (first_external (lacks_in (sym table_is i)) (sym globals_are i))
      ((sym table_is i).repeated) (first_external (differs_in (sym table_is i)) (sym globals_are i))
      (count_by is_main modules == 1))

  -- what was found in turn
  pub refused : (without twice otherwise : Option (List ℕ)) (one : Bool)
      → without ≡ first_external (lacks_in (publics_view publics)) (globals_view globals)
      → publics.repeated ≡ twice
      → otherwise ≡ first_external (differs_in (publics_view publics)) (globals_view globals)
      → one ≡ (count_by is_main modules == 1)
      → join_refusal modules ≡ in_turn without twice otherwise one
  refused without twice otherwise one w t o m =
      refusal_by ∙ (λ i. in_turn (sym w i) (t i) (sym o i) (sym m i))

  pub without_found : (name : List ℕ) (found : Option (List ℕ))
      → found ≡ first_external (lacks_in (publics_view publics)) (globals_view globals) → found ≡ Some name
      → join_refusal modules ≡ Some (NoPublic name)
  without_found name found is some = refused (Some name) publics.repeated _ _ (sym some ∙ is) refl refl refl

  pub twice_found : (name : List ℕ) (without : Option (List ℕ))
      → without ≡ first_external (lacks_in (publics_view publics)) (globals_view globals) → without ≡ None
      → publics.repeated ≡ Some name
      → join_refusal modules ≡ Some (PublicTwice name)
  twice_found name without is none some = refused None (Some name) _ _ (sym none ∙ is) some refl refl

  pub otherwise_found : (name : List ℕ) (without otherwise : Option (List ℕ))
      → without ≡ first_external (lacks_in (publics_view publics)) (globals_view globals) → without ≡ None
      → publics.repeated ≡ None
      → otherwise ≡ first_external (differs_in (publics_view publics)) (globals_view globals)
      → otherwise ≡ Some name
      → join_refusal modules ≡ Some (DeclarationsDiffer name)
  otherwise_found name without otherwise is none once differs some =
      refused None None (Some name) _ (sym none ∙ is) once (sym some ∙ differs) refl

  pub nothing_found : (without otherwise : Option (List ℕ)) (one : Bool)
      → without ≡ first_external (lacks_in (publics_view publics)) (globals_view globals) → without ≡ None
      → publics.repeated ≡ None
      → otherwise ≡ first_external (differs_in (publics_view publics)) (globals_view globals)
      → otherwise ≡ None → one ≡ (count_by is_main modules == 1)
      → join_refusal modules ≡ (if one then None else Some NotOneMain)
  nothing_found without otherwise one is none once differs alike main = refused None None None one (sym none ∙ is) once (sym alike ∙ differs) main
