-- Object modules that are made of the modules of a program are what linking, placing and loading want of
-- them.
use Rattle.program_laws.proofs.Prelude.{◌≡◌, ℕ, zero, suc, ◌≤◌, List, [], ◌∷◌, length, Some, None, Ok, zip, refl, ap, subst, arith, All, slice_get, AllByRecursion, All-from_recursion, none-some, same_Some, MEMORY_SIZE, IsLoaded, Image, image_of, merge_of, IsObjectModule, ObjectModule, ListsGlobals, IsStorable, TypedModule, constant_bytes, HoldConstants, constants_length, IsJoined, IsLawful, PlacingPlan, placing_refusal, constant_places, AreObjectsOf, code_lengths_of, plan_of, HaveSegments, IsInMemory, placement_of, HaveImage, HaveNames, program_has_image, AreMadeOf, IsMadeOf, begin_length}
use Rattle.program_laws.proofs.Names.{has_names}
use Rattle.program_laws.proofs.Objects.{is_object_of}
use Rattle.program_laws.proofs.Segments.{has_segments}

-- They have the segments of the modules.
pub have_segments :
    (modules : List TypedModule) (objects : List ObjectModule)
    → AreMadeOf modules objects
    → HaveSegments modules objects
have_segments [] [] made = tt
have_segments [] (object ∷ objects) made = absurd made
have_segments (typed ∷ modules) [] made = absurd made
have_segments (typed ∷ modules) (object ∷ objects) made =
    let is = made.0 in (
      has_segments typed is.storage is.tree object is.laid is.lowered is.valid is.generated,
      have_segments modules objects made.1,
    )

-- They are objects of the modules.
pub are_objects_of :
    (modules : List TypedModule) (objects : List ObjectModule)
    → AreMadeOf modules objects
    → AreObjectsOf modules objects
are_objects_of [] [] made = tt
are_objects_of [] (object ∷ objects) made = absurd made
are_objects_of (typed ∷ modules) [] made = absurd made
are_objects_of (typed ∷ modules) (object ∷ objects) made =
    let is = made.0 in (
      is_object_of typed is.storage is.tree object is.laid is.lowered is.valid is.generated,
      are_objects_of modules objects made.1,
    )

-- They have the names of the modules.
pub have_names :
    (modules : List TypedModule) (objects : List ObjectModule)
    → AreMadeOf modules objects
    → HaveNames modules objects
have_names [] [] made = tt
have_names [] (object ∷ objects) made = absurd made
have_names (typed ∷ modules) [] made = absurd made
have_names (typed ∷ modules) (object ∷ objects) made =
    let is = made.0 in (
      has_names typed is.storage is.tree object is.laid is.lowered is.generated,
      have_names modules objects made.1,
    )

-- So those of a program have a merge, which has an image at each plan that the program is not refused for.
pub have_image :
    (plan : PlacingPlan) (modules : List TypedModule) (objects : List ObjectModule)
    → IsJoined modules
    → AreMadeOf modules objects
    → placing_refusal plan modules (code_lengths_of objects) ≡ None
    → HaveImage plan objects
have_image plan modules objects joined made may_lie =
    program_has_image plan modules objects joined (are_objects_of modules objects made)
    (have_names modules objects made) may_lie

-- What such an object module is, by the number of its module.
pub record MadeAt (objects : List ObjectModule) (number : ℕ) (typed : TypedModule) : Type 0 where
  pub object : ObjectModule
  pub found : slice_get objects number ≡ Some object
  pub made : IsMadeOf typed object

pub made_at :
    (modules : List TypedModule) (objects : List ObjectModule) (number : ℕ) (typed : TypedModule)
    → AreMadeOf modules objects
    → slice_get modules number ≡ Some typed
    → MadeAt objects number typed
made_at [] objects number typed made found = absurd (none-some typed found)
made_at (first ∷ modules) [] number typed made found = absurd made
made_at (first ∷ modules) (object ∷ objects) zero typed made found = record {
  object = object;
  found = refl;
  made = subst (λ (typed : TypedModule). IsMadeOf typed object) (same_Some first typed found) made.0;
}
made_at (first ∷ modules) (object ∷ objects) (suc number) typed made found =
    let at = made_at modules objects number typed made.1 found in
    record { object = at.object; found = at.found; made = at.made }

-- Each module of theirs is laid out, and each is valid.
all_list :
    (modules : List TypedModule) (objects : List ObjectModule)
    → AreMadeOf modules objects
    → AllByRecursion ListsGlobals modules
all_list [] [] made = tt
all_list [] (object ∷ objects) made = absurd made
all_list (typed ∷ modules) [] made = absurd made
all_list (typed ∷ modules) (object ∷ objects) made =
    (made.0.laid.globals, all_list modules objects made.1)

all_storable :
    (modules : List TypedModule) (objects : List ObjectModule)
    → AreMadeOf modules objects
    → AllByRecursion IsStorable modules
all_storable [] [] made = tt
all_storable [] (object ∷ objects) made = absurd made
all_storable (typed ∷ modules) [] made = absurd made
all_storable (typed ∷ modules) (object ∷ objects) made =
    (made.0.laid.storable, all_storable modules objects made.1)

all_valid :
    (modules : List TypedModule) (objects : List ObjectModule)
    → AreMadeOf modules objects
    → AllByRecursion IsObjectModule objects
all_valid [] [] made = tt
all_valid [] (object ∷ objects) made = absurd made
all_valid (typed ∷ modules) [] made = absurd made
all_valid (typed ∷ modules) (object ∷ objects) made = (made.0.valid, all_valid modules objects made.1)

-- So where they are merged, placed by a plan of the program and loaded, the program is in memory.
pub is_in_memory :
    (plan : PlacingPlan) (modules : List TypedModule) (objects : List ObjectModule) (merged : ObjectModule)
    (image : Image) (before after : List ℕ)
    → IsJoined modules
    → AreMadeOf modules objects
    → IsLawful modules (placement_of plan modules objects)
    → merge_of objects ≡ Ok merged
    → image_of (plan_of plan) merged ≡ Ok image
    → IsLoaded image.byte_at before after
    → length before ≡ MEMORY_SIZE
    → IsInMemory plan modules objects merged image before after
is_in_memory plan modules objects merged image before after joined made lawful merge placed loaded size =
    record {
      joined = joined;
      globals = All-from_recursion ListsGlobals modules (all_list modules objects made);
      storable = All-from_recursion IsStorable modules (all_storable modules objects made);
      lawful = lawful;
      made = are_objects_of modules objects made;
      segments = have_segments modules objects made;
      placed = record {
        valid = All-from_recursion IsObjectModule objects (all_valid modules objects made);
        merge = merge;
        placed = placed;
        loaded = loaded;
      };
      size = size;
    }

pub hold_constants :
    (modules : List TypedModule) (objects : List ObjectModule)
    → AreMadeOf modules objects
    → HoldConstants modules (code_lengths_of objects)
hold_constants [] [] made = tt
hold_constants [] (object ∷ objects) made = absurd made
hold_constants (typed ∷ modules) [] made = absurd made
hold_constants (typed ∷ modules) (object ∷ objects) made =
    let is = made.0 in
    let segments = has_segments typed is.storage is.tree object is.laid is.lowered is.valid is.generated in
    let within = begin_length object (constant_places typed) object.code.places segments.code in
    let size = constants_length typed is.laid.storable in (
      omega (arith, within, size),
      hold_constants modules objects made.1,
    )

-- the same of each module with its length, as the placement of a program asks it
holds_each :
    (modules : List TypedModule) (objects : List ObjectModule)
    → AreMadeOf modules objects
    → AllByRecursion (λ (segment : TypedModule × ℕ). constant_bytes segment.0 ≤ segment.1)
    (zip modules (code_lengths_of objects))
holds_each [] [] made = tt
holds_each [] (object ∷ objects) made = absurd made
holds_each (typed ∷ modules) [] made = absurd made
holds_each (typed ∷ modules) (object ∷ objects) made =
    ((hold_constants (typed ∷ modules) (object ∷ objects) made).0, holds_each modules objects made.1)

pub each_holds_constants :
    (modules : List TypedModule) (objects : List ObjectModule)
    → AreMadeOf modules objects
    → All (λ (segment : TypedModule × ℕ). constant_bytes segment.0 ≤ segment.1)
    (zip modules (code_lengths_of objects))
each_holds_constants modules objects made =
    All-from_recursion (λ (segment : TypedModule × ℕ). constant_bytes segment.0 ≤ segment.1)
    (zip modules (code_lengths_of objects)) (holds_each modules objects made)

-- there are as many lengths as modules
pub as_many_lengths :
    (modules : List TypedModule) (objects : List ObjectModule)
    → AreMadeOf modules objects
    → length (code_lengths_of objects) ≡ length modules
as_many_lengths [] [] made = refl
as_many_lengths [] (object ∷ objects) made = absurd made
as_many_lengths (typed ∷ modules) [] made = absurd made
as_many_lengths (typed ∷ modules) (object ∷ objects) made =
    ap (λ n. suc n) (as_many_lengths modules objects made.1)

-- and all modules have a place for their objects and constants
pub are_storable :
    (modules : List TypedModule) (objects : List ObjectModule) → AreMadeOf modules objects
    → All IsStorable modules
are_storable modules objects made = All-from_recursion IsStorable modules (all_storable modules objects made)
