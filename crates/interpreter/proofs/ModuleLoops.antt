-- One pass over the modules of a program.
use Rattle.interpreter.proofs.Prelude.{◌≡◌, ℕ, ◌+◌, ◌≤◌, List, [], ◌∷◌, ◌++◌, length, drop, map, zip, flat_map, Option, None, Some, option_map, vec_items, length-drop, refl, ap, sym, ◌∙◌, arith, slice_get, enumerate_from, option_map_or, drop_of_length-le, slice_get-map, Typed, TypedModule, module_view, object_view, ModulePlacement, Contents, address_of_object, contents_of_list, contents_of_module, contents_of_object, starting_memory, CodePlacement, module_placement_view, Program, Surroundings, address_of, Site, site_view, contents_at, contents_from, module_in, with_all, drop_past, at_drop_all}
use Rattle.placing.proofs.Passes.{found_first, zip_nothing}
use Rattle.interpreter.proofs.WrittenContents.{all_after}

-- the objects of a module and then its lists are its contents
abbrev contents_with : Surroundings → ModulePlacement → Option TypedModule → List Contents
contents_with around placed found =
    option_map_or
    (λ (typed : TypedModule).
    contents_of_module around.program.modules around.program.placement around.number_of_module typed placed)
    found []

abbrev addresses_with : Surroundings → Option TypedModule → ℕ → ℕ
addresses_with around found object =
    option_map_or
    (λ (typed : TypedModule).
    address_of_object around.program.modules around.program.placement around.number_of_module typed object)
    found 0

parts_with :
    (around : Surroundings) (placed : ModulePlacement) (typed : TypedModule) (found : Option TypedModule)
    → found ≡ Some typed
    → map (contents_of_object (addresses_with around found)) (zip typed.objects placed.objects)
    ++ map contents_of_list (zip typed.constants.lists placed.lists)
    ≡ contents_with around placed found
parts_with around placed typed found is =
    ap
    (λ one. map (contents_of_object (addresses_with around one)) (zip typed.objects placed.objects)
    ++ map contents_of_list (zip typed.constants.lists placed.lists)) is
    ∙ sym (ap (contents_with around placed) is)

pub module_put :
    (site : Site) (placed : ModulePlacement) (typed : Typed) (memory between new : List ℕ)
    → slice_get site.program.now.modules.now site.number_of_module ≡ Some typed
    → between
    ≡ with_all memory
    (map (contents_of_object (address_of (site_view site)))
    (zip (map object_view typed.objects.items) placed.objects))
    → new ≡ with_all between (map contents_of_list (zip (map vec_items typed.lists.items) placed.lists))
    → new ≡ with_all memory (contents_at (site_view site) placed)
module_put site placed typed memory between new found objects lists =
    lists
    ∙ ap (λ one. with_all one (map contents_of_list (zip (map vec_items typed.lists.items) placed.lists)))
    objects
    ∙ sym (all_after memory (map (contents_of_object (address_of (site_view site)))
    (zip (map object_view typed.objects.items) placed.objects))
    (map contents_of_list (zip (map vec_items typed.lists.items) placed.lists)))
    ∙ ap (with_all memory)
    (parts_with (site_view site) placed (module_view typed)
    (slice_get (map module_view site.program.now.modules.now) site.number_of_module)
    (slice_get-map module_view site.program.now.modules.now site.number_of_module
    ∙ ap (option_map module_view) found))

pub no_module_put :
    (site : Site) (placed : ModulePlacement) (memory : List ℕ)
    → slice_get site.program.now.modules.now site.number_of_module ≡ None
    → memory ≡ with_all memory (contents_at (site_view site) placed)
no_module_put site placed memory none =
    sym (ap (λ found. with_all memory (contents_with (site_view site) placed found))
    (slice_get-map module_view site.program.now.modules.now site.number_of_module
    ∙ ap (option_map module_view) none))

-- the contents of the modules one after another are those of the program
abbrev contents_of_numbered : Program → ℕ × (TypedModule × ModulePlacement) → List Contents
contents_of_numbered program numbered =
    contents_of_module program.modules program.placement numbered.0 (numbered.1).0 (numbered.1).1

abbrev contents_left : Program → (number_of_module : ℕ) → List TypedModule
    → List ModulePlacement → List Contents
contents_left program number_of_module modules placed =
    flat_map (contents_of_numbered program) (enumerate_from number_of_module (zip modules placed))

contents_are :
    (program : Program) (number : ℕ) (placed : List ModulePlacement)
    → contents_from program number placed ≡ contents_left program number (drop number program.modules) placed
contents_are program number [] =
    sym (ap (λ pairs. flat_map (contents_of_numbered program) (enumerate_from number pairs))
    (zip_nothing (drop number program.modules)))
contents_are program number (first ∷ others) =
    by (slice_get program.modules number) refl (contents_are program (number + 1) others)
  where
    by :
        (found : Option TypedModule)
        → slice_get program.modules number ≡ found
        → contents_from program (number + 1) others
        ≡ contents_left program (number + 1) (drop (number + 1) program.modules) others
        → contents_at (module_in program number) first ++ contents_from program (number + 1) others
        ≡ contents_left program number (drop number program.modules) (first ∷ others)
    by None none later =
        ap (λ found. contents_with (module_in program number) first found
        ++ contents_from program (number + 1) others) none
        ∙ later
        ∙ ap (λ left. contents_left program (number + 1) left others)
        (drop_of_length-le program.modules
        (omega (arith, simp length-drop at (ap length (drop_past program.modules number none)))))
        ∙ sym (ap (λ left. contents_left program number left (first ∷ others))
        (drop_past program.modules number none))
    by (Some typed) is later =
        ap (λ found. contents_with (module_in program number) first found
        ++ contents_from program (number + 1) others) is
        ∙ ap (λ left. contents_of_numbered program (number, (typed, first)) ++ left) later
        ∙ sym (ap (λ left. contents_left program number left (first ∷ others))
        (found_first program.modules number typed is))

pub modules_put :
    (program : Program) (placed : List CodePlacement) (memory now : List ℕ) (i : ℕ)
    → map module_placement_view placed ≡ program.placement.modules
    → with_all now (contents_from program i (map module_placement_view (drop i placed)))
    ≡ with_all memory (contents_from program 0 (map module_placement_view placed))
    → length placed ≤ i
    → now ≡ starting_memory program.modules program.placement memory
unfolding starting_memory
modules_put program placed memory now i is rest past =
    sym (at_drop_all (λ left. with_all now (contents_from program i (map module_placement_view left))) placed
    i past)
    ∙ rest
    ∙ ap (λ one. with_all memory (contents_from program 0 one)) is
    ∙ ap (with_all memory) (contents_are program 0 program.placement.modules)
