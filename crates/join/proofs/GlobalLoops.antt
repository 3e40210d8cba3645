-- Loops over modules, and over what they share.
use Rattle.join.proofs.Prelude.{◌≡◌, ℕ, ◌+◌, ◌<◌, ◌≤◌, Bool, true, false, List, ◌++◌, map, length, drop, get_or, Option, None, Some, if◌then◌else◌, refl, ap, sym, ◌∙◌, arith, filter_map, common_steps, append_assoc, append-nil, Typed, module_view, Global, global_of, globals_of, Shared, global_view, globals_view, first_external, at_drop_all, drop_item}

-- the first EXTERNAL that passes a test
module _ (test : Global → Bool) (items : List Shared) (i : ℕ) (total : Option (List ℕ))
    (rest : first_external test (globals_view (drop i items)) ≡ total) where
  abbrev externals : List Shared → Option (List ℕ)
  externals left = first_external test (globals_view left)

  external_step : (public passes : Bool) (item : Shared) → i < length items → item ≡ get_or items i item
      → (global_view item).is_public ≡ public → test (global_view item) ≡ passes
      → (if public then externals (drop (i + 1) items) else if passes then Some
      (global_view item).name else externals (drop (i + 1) items)) ≡ total
  external_step true passes item within is public does =
      sym (sym rest ∙ drop_item externals items i item within is ∙ grind (arith, common_steps))
  external_step false true item within is public does =
      sym (sym rest ∙ drop_item externals items i item within is ∙ grind (arith, common_steps))
  external_step false false item within is public does =
      sym (sym rest ∙ drop_item externals items i item within is ∙ grind (arith, common_steps))

  pub external_found : (item : Shared) → i < length items → item ≡ get_or items i item
      → (global_view item).is_public ≡ false → test (global_view item) ≡ true
      → Some (global_view item).name ≡ total
  external_found item within is public does = external_step false true item within is public does

  pub external_passed : (item : Shared) → i < length items → item ≡ get_or items i item
      → (global_view item).is_public ≡ false → test (global_view item) ≡ false
      → first_external test (globals_view (drop (i + 1) items)) ≡ total
  external_passed item within is public does = external_step false false item within is public does

  pub public_passed : (item : Shared) → i < length items → item ≡ get_or items i item
      → (global_view item).is_public ≡ true → first_external test (globals_view (drop (i + 1) items)) ≡ total
  public_passed item within is public =
      external_step true (test (global_view item)) item within is public refl

  pub no_external : length items ≤ i → None ≡ total
  no_external past = sym (sym rest ∙ at_drop_all externals items i past)

-- what modules share
module _ (total : List Global) (made : List Global) (modules : List Typed) (i : ℕ)
    (rest : made ++ globals_of (map module_view (drop i modules)) ≡ total) where
  pub module_pushed : (typed : Typed) (now : List Global) → i < length modules
      → typed ≡ get_or modules i typed → now
      ≡ made ++ filter_map (global_of (module_view typed)) typed.globals.items
      → now ++ globals_of (map module_view (drop (i + 1) modules)) ≡ total
  module_pushed typed now within is given =
      ap (λ globals. globals ++ globals_of (map module_view (drop (i + 1) modules))) given
      ∙ append_assoc made (filter_map (global_of (module_view typed)) typed.globals.items)
      (globals_of (map module_view (drop (i + 1) modules)))
      ∙ sym (drop_item (λ left. made ++ globals_of (map module_view left)) modules i typed within is)
      ∙ rest

  pub modules_ended : length modules ≤ i → made ≡ total
  modules_ended past =
      sym (append-nil made) ∙ sym (at_drop_all (λ left. made ++ globals_of (map module_view left)) modules i past) ∙ rest
