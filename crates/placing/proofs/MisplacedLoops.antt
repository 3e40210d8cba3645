-- The first misplaced object: among those of a module, and of all modules.
use Rattle.placing.proofs.Prelude.{◌≡◌, ℕ, ◌+◌, ◌<◌, ◌≤◌, List, ◌++◌, length, drop, get_or, map, Option, None, Some, option_map, refl, ap, sym, ◌∙◌, flat_map, slice_get, zip, find, option_or, drop_of_length-le, flat_map-cons, find-append, Range, Typed, TypedObject, TypedModule, module_view, object_view, ModulePlacement, is_misplaced, placed_objects, view_first, CodeModulePlacement, module_placement_view, name_of_misplaced, drop_past}
use Rattle.placing.proofs.Passes.{found_first, zip_nothing}

abbrev name_of : TypedObject × ℕ → List ℕ
name_of placed = (placed.0).name

-- of objects and others, the first of the objects if there is one
map_or : {A B : Type 0} (f : A → B) (left right : Option A)
    → option_map f (option_or left right) ≡ option_or (option_map f left) (option_map f right)
map_or f None right = refl
map_or f (Some value) right = refl

named_append :
    (code stack : Range) (left right : List (TypedObject × ℕ))
    → name_of_misplaced code stack (left ++ right)
    ≡ option_or (name_of_misplaced code stack left) (name_of_misplaced code stack right)
named_append code stack left right =
    ap (option_map name_of) (find-append (is_misplaced code stack) left right)
    ∙ map_or name_of (find (is_misplaced code stack) left) (find (is_misplaced code stack) right)

abbrev objects_of : TypedModule × ModulePlacement → List (TypedObject × ℕ)
objects_of placed = zip (placed.0).objects (placed.1).objects

abbrev pub first_left : (code stack : Range) → List Typed → List CodeModulePlacement
    → (index number : ℕ) → Option (List ℕ)
first_left code stack modules placements index number =
    name_of_misplaced code stack
    (placed_objects (map module_view (drop index modules))
    (map module_placement_view (drop number placements)))

module _ (code stack : Range) (modules : List Typed) (placements : List CodeModulePlacement)
    (index number : ℕ) (total : Option (List ℕ))
    (rest : first_left code stack modules placements index number ≡ total) where
  module_step :
      (found : Option (List ℕ)) (typed : Typed) (placed : CodeModulePlacement)
      → index < length modules
      → typed ≡ get_or modules index typed
      → slice_get placements number ≡ Some placed
      → found ≡ name_of_misplaced code stack (zip (map object_view typed.objects.items) placed.objects.items)
      → option_or found (first_left code stack modules placements (index + 1) (number + 1)) ≡ total
  module_step found typed placed within is there given =
      ap (λ one. option_or one (first_left code stack modules placements (index + 1) (number + 1))) given
      ∙ sym (named_append code stack (zip (map object_view typed.objects.items) placed.objects.items)
      (placed_objects (map module_view (drop (index + 1) modules))
      (map module_placement_view (drop (number + 1) placements))))
      ∙ sym (ap (name_of_misplaced code stack)
      (flat_map-cons objects_of (module_view typed, module_placement_view placed)
      (zip (map module_view (drop (index + 1) modules))
      (map module_placement_view (drop (number + 1) placements)))))
      ∙ sym (λ i. name_of_misplaced code stack
      (placed_objects (view_first module_view modules index typed within is i)
      (ap (map module_placement_view) (found_first placements number placed there) i)))
      ∙ rest

  pub module_found :
      (found : Option (List ℕ)) (name : List ℕ) (typed : Typed) (placed : CodeModulePlacement)
      → index < length modules
      → typed ≡ get_or modules index typed
      → slice_get placements number ≡ Some placed
      → found ≡ name_of_misplaced code stack (zip (map object_view typed.objects.items) placed.objects.items)
      → found ≡ Some name
      → Some name ≡ total
  module_found found name typed placed within is there given some =
      module_step (Some name) typed placed within is there (sym some ∙ given)

  pub module_passed :
      (found : Option (List ℕ)) (typed : Typed) (placed : CodeModulePlacement)
      → index < length modules
      → typed ≡ get_or modules index typed
      → slice_get placements number ≡ Some placed
      → found ≡ name_of_misplaced code stack (zip (map object_view typed.objects.items) placed.objects.items)
      → found ≡ None
      → first_left code stack modules placements (index + 1) (number + 1) ≡ total
  module_passed found typed placed within is there given none =
      module_step None typed placed within is there (sym none ∙ given)

  pub modules_ended : length modules ≤ index → None ≡ total
  modules_ended past =
      sym (ap (λ left. name_of_misplaced code stack
      (placed_objects (map module_view left) (map module_placement_view (drop number placements))))
      (drop_of_length-le modules past))
      ∙ rest

  pub placements_ended : slice_get placements number ≡ None → None ≡ total
  placements_ended none =
      sym (ap (λ left. name_of_misplaced code stack (flat_map objects_of left))
      (ap (λ left. zip (map module_view (drop index modules)) (map module_placement_view left))
      (drop_past placements number none)
      ∙ zip_nothing (map module_view (drop index modules))))
      ∙ rest
