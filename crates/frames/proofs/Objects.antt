-- The stack that a procedure of tree code takes, and the places of its objects there, in terms of the typed
-- module that it is lowered from.
use Rattle.frames.proofs.Prelude.{◌≡◌, ℕ, ◌+◌, ◌<◌, ◌≤◌, Bool, min, if◌then◌else◌, List, length, slice_get, Option, Some, None, IsSomeAnd, refl, ap, sym, ◌∙◌, subst, arith, option_map, option_map_or, lt-ltb, same_Some, slice_get-map, slice_get_within, InFrame, TypedObject, TypedProcedure, TypedModule, size_of_object, FramesFit, ParametersFit, Storage, TreeModule, FrameVariable, TreeProcedure, frame_number, frame_position, frame_variable, frame_variables, IsProcedure, IsLowered, Nodes, nodes_of, FramePlan, IsChargedAs, bytes_of_call, distance_of, return_of, size_in, IsPlanOf, LiesApart, TakeBytes}
use Rattle.frames.proofs.Places.{frame_lies_apart}
use Rattle.frames.specs.internal.Calls.{call_bytes}
use Rattle.frames.specs.internal.Objects.{HasByte, place_of_byte, ObjectsLie, IsFramedAs}
use Rattle.frames.proofs.Entries.{entries, stands_at}
use Rattle.frames.proofs.Parameters.{has_parameters, frame_fits}
use Rattle.frames.proofs.FrameBytes.{object_fits}
use Rattle.frames.proofs.Frames.{parameter_count, has_frame, is_charged, same_charge}
use Rattle.frames.proofs.Short.{position_small}

-- the number of an object in the frame is the number of those before it there
number_is :
    (typed : TypedModule) (procedure : ℕ) (heading : TypedProcedure) (number : ℕ) (object : TypedObject)
    → TakeBytes typed
    → ParametersFit typed
    → FramesFit typed
    → slice_get typed.procedures procedure ≡ Some heading
    → slice_get typed.objects number ≡ Some object
    → object.home ≡ InFrame procedure
    → frame_number typed procedure number ≡ frame_position typed procedure number
number_is typed procedure heading number object sized fit frames_fit stands found home =
    ap (λ (is_one : Bool). if is_one then min (frame_position typed procedure number) 65535 else 0)
    (lt-ltb procedure (length typed.procedures) (slice_get_within typed.procedures procedure heading stands))
    ∙ omega (
      arith,
      position_small typed procedure heading number object sized
          (has_parameters typed procedure heading fit stands)
          (frame_fits typed procedure heading frames_fit stands) found home,
    )

-- the entry with that number is the object, with its size
pub entry_is :
    (typed : TypedModule) (procedure : ℕ) (heading : TypedProcedure) (number : ℕ) (object : TypedObject)
    → TakeBytes typed
    → ParametersFit typed
    → FramesFit typed
    → slice_get typed.procedures procedure ≡ Some heading
    → slice_get typed.objects number ≡ Some object
    → object.home ≡ InFrame procedure
    → slice_get (entries procedure 0 typed.objects) (frame_number typed procedure number)
    ≡ Some (number, object)
entry_is typed procedure heading number object sized fit frames_fit stands found home =
    ap (λ (place : ℕ). slice_get (entries procedure 0 typed.objects) place)
    (number_is typed procedure heading number object sized fit frames_fit stands found home)
    ∙ stands_at procedure 0 typed.objects number object found home
    ∙ ap (λ (number : ℕ). Some (number, object)) from_zero
  where
    from_zero : 0 + number ≡ number
    from_zero = omega arith

pub size_is :
    (typed : TypedModule) (procedure : ℕ) (heading : TypedProcedure) (number : ℕ) (object : TypedObject)
    → TakeBytes typed
    → ParametersFit typed
    → FramesFit typed
    → slice_get typed.procedures procedure ≡ Some heading
    → slice_get typed.objects number ≡ Some object
    → object.home ≡ InFrame procedure
    → size_in (frame_variables typed procedure) (frame_number typed procedure number) ≡ size_of_object object
size_is typed procedure heading number object sized fit frames_fit stands found home =
    ap (λ (variable : Option FrameVariable).
    option_map_or (λ (variable : FrameVariable). variable.size) variable 0)
    (slice_get-map (frame_variable typed) (entries procedure 0 typed.objects)
    (frame_number typed procedure number)
    ∙ ap (λ (entry : Option (ℕ × TypedObject)). option_map (frame_variable typed) entry)
    (entry_is typed procedure heading number object sized fit frames_fit stands found home))
    ∙ capped
  where
    capped : min (size_of_object object) 65535 ≡ size_of_object object
    capped =
        omega (
          arith,
          object_fits typed procedure heading number object
              (has_parameters typed procedure heading fit stands)
              (frame_fits typed procedure heading frames_fit stands) found home,
        )

-- a byte of an object, with the object
record IsByteOf (typed : TypedModule) (procedure number offset : ℕ) : Type 0 where
  object : TypedObject
  found : slice_get typed.objects number ≡ Some object
  home : object.home ≡ InFrame procedure
  within : offset < size_of_object object

byte_of :
    (typed : TypedModule) (procedure number offset : ℕ)
    → HasByte typed procedure number offset
    → IsByteOf typed procedure number offset
byte_of typed procedure number offset byte = by_object (slice_get typed.objects number) refl byte
  where
    by_object :
        (object : Option TypedObject)
        → slice_get typed.objects number ≡ object
        → IsSomeAnd object
        (λ (found : TypedObject). (found.home ≡ InFrame procedure) × (offset < size_of_object found))
        → IsByteOf typed procedure number offset
    by_object None found holds = absurd holds
    by_object (Some object) found holds =
        record { object = object; found = found; home = holds.0; within = holds.1 }

-- Each object in the frame of a procedure is among the bytes of its call, outside the return address, and
-- does not overlap any other.
objects_lie :
    (typed : TypedModule) (nodes : Nodes) (storage : Storage) (number : ℕ) (procedure : TreeProcedure)
    (heading : TypedProcedure) (plan : FramePlan)
    → TakeBytes typed
    → ParametersFit typed
    → FramesFit typed
    → slice_get typed.procedures number ≡ Some heading
    → IsProcedure typed nodes storage number procedure heading
    → IsPlanOf procedure plan
    → ObjectsLie typed number heading plan
objects_lie typed nodes storage number procedure heading plan sized fit frames_fit stands is planned =
    record {
      within = λ object offset byte.
          subst (λ (bytes : ℕ). place_of_byte typed plan number object offset < bytes) call_is
          (lies.within (frame_number typed number object) offset
          (in_entry object offset (byte_of typed number object offset byte)));
      return_within =
          subst (λ (bytes : ℕ). (return_of plan).start + 2 ≤ bytes) call_is lies.return_within;
      off_return = λ object offset byte.
          lies.off_return (frame_number typed number object) offset
          (in_entry object offset (byte_of typed number object offset byte));
      apart = λ object offset other other_offset byte other_byte same.
          same_byte object offset other other_offset (byte_of typed number object offset byte)
          (byte_of typed number other other_offset other_byte) same;
    }
  where
    lies : LiesApart procedure plan
    lies = frame_lies_apart procedure plan
        (has_frame typed nodes storage number procedure heading fit frames_fit stands is) planned

    call_is : bytes_of_call procedure ≡ call_bytes heading
    call_is =
        omega (
          arith,
          is.frame_bytes,
          parameter_count typed number heading nodes.homes procedure.parameters.items
              (has_parameters typed number heading fit stands) is.has_body.parameters,
        )

    in_entry :
        (object offset : ℕ)
        → IsByteOf typed number object offset
        → offset < size_in procedure.frame.items (frame_number typed number object)
    in_entry object offset byte =
        subst (λ (size : ℕ). offset < size)
        (sym (ap (λ (frame : List FrameVariable). size_in frame (frame_number typed number object)) is.frame
        ∙ size_is typed number heading object byte.object sized fit frames_fit stands byte.found byte.home))
        byte.within

    same_object :
        (object offset other other_offset : ℕ)
        → IsByteOf typed number object offset
        → IsByteOf typed number other other_offset
        → frame_number typed number object ≡ frame_number typed number other
        → object ≡ other
    same_object object offset other other_offset byte other_byte same =
        ap (λ (entry : ℕ × TypedObject). entry.0)
        (same_Some (object, byte.object) (other, other_byte.object)
        (sym (entry_is typed number heading object byte.object sized fit frames_fit stands byte.found
        byte.home)
        ∙ ap (λ (place : ℕ). slice_get (entries number 0 typed.objects) place) same
        ∙ entry_is typed number heading other other_byte.object sized fit frames_fit stands other_byte.found
        other_byte.home))

    same_byte :
        (object offset other other_offset : ℕ)
        → IsByteOf typed number object offset
        → IsByteOf typed number other other_offset
        → place_of_byte typed plan number object offset ≡ place_of_byte typed plan number other other_offset
        → (object ≡ other) × (offset ≡ other_offset)
    same_byte object offset other other_offset byte other_byte same =
        of_number (lies.apart (frame_number typed number object) offset (frame_number typed number other)
        other_offset (in_entry object offset byte) (in_entry other other_offset other_byte) same)
      where
        of_number :
            frame_number typed number object ≡ frame_number typed number other
            → (object ≡ other) × (offset ≡ other_offset)
        of_number number_same = (
          same_object object offset other other_offset byte other_byte number_same,
          omega (arith, same, ap (λ (number : ℕ). distance_of plan number) number_same),
        )

-- a procedure of tree code takes the same stack as its typed procedure
pub framed_as :
    (typed : TypedModule) (nodes : Nodes) (storage : Storage) (number : ℕ) (procedure : TreeProcedure)
    (heading : TypedProcedure)
    → TakeBytes typed
    → ParametersFit typed
    → FramesFit typed
    → slice_get typed.procedures number ≡ Some heading
    → IsProcedure typed nodes storage number procedure heading
    → IsFramedAs typed number procedure heading
framed_as typed nodes storage number procedure heading sized fit frames_fit stands is = record {
  charged = charged;
  charge = same_charge procedure heading charged;
  frame = has_frame typed nodes storage number procedure heading fit frames_fit stands is;
  objects = λ plan planned.
      objects_lie typed nodes storage number procedure heading plan sized fit frames_fit stands is planned;
}
  where
    charged : IsChargedAs procedure heading
    charged = is_charged typed nodes storage number procedure heading fit stands is

-- the same for each procedure of tree code that is lowered from a module
pub lowered_framed :
    (typed : TypedModule) (storage : Storage) (tree : TreeModule) (number : ℕ) (procedure : TreeProcedure)
    (heading : TypedProcedure)
    → TakeBytes typed
    → ParametersFit typed
    → FramesFit typed
    → IsLowered typed storage tree
    → slice_get tree.procedures.items number ≡ Some procedure
    → slice_get typed.procedures number ≡ Some heading
    → IsFramedAs typed number procedure heading
lowered_framed typed storage tree number procedure heading sized fit frames_fit lowered found stands =
    framed_as typed (nodes_of tree) storage number procedure heading sized fit frames_fit stands
    (lowered.procedures number procedure heading found stands)
