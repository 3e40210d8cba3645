-- Where the variables and the parameters in the frame of a procedure lie by the plan of its frame.
use Rattle.procedure_laws.proofs.Prelude.{◌≡◌, ℕ, ◌+◌, ◌-◌, ◌%◌, ◌<◌, ◌≤◌, min, false, List, length, take, slice_get, Option, Some, None, refl, ap, sym, ◌∙◌, subst, arith, mod-eq_of_lt, option_map, true≢false, slice_get-map, slice_get_within, ScalarType, FramesFit, HasParameters, ParametersFit, IsScalar, size_of_object, size_of_scalar, InFrame, TypedModule, TypedObject, TypedProcedure, Storage, FrameVariable, TreeProcedure, frame_number, frame_variable, parameter_number, IsProcedure, Nodes, FramePlan, IsPlanOf, bytes_by_parameter, distance_by_parameter, distance_in, distance_of, parameter_distance, variable_bytes, TakeBytes, bytes_are, object_fits, scalar_size, entries, parameter_count, entry_is, frame_fits, framed, has_parameters, none_found, same_number, ends_within}

module _ (typed : TypedModule) (nodes : Nodes) (storage : Storage) (index : ℕ) (procedure : TreeProcedure)
    (heading : TypedProcedure) (plan : FramePlan) (sized : TakeBytes typed) (fit : ParametersFit typed)
    (frames_fit : FramesFit typed) (stands : slice_get typed.procedures index ≡ Some heading)
    (is : IsProcedure typed nodes storage index procedure heading) (planned : IsPlanOf procedure plan) where
  abbrev has : HasParameters typed index heading
  has = has_parameters typed index heading fit stands

  -- an object in the frame stands at its number there
  stands_there :
      (object : ℕ) (found : TypedObject)
      → slice_get typed.objects object ≡ Some found
      → found.home ≡ InFrame index
      → slice_get procedure.frame.items (frame_number typed index object)
      ≡ Some (frame_variable typed (object, found))
  stands_there object found there home =
      ap (λ (frame : List FrameVariable). slice_get frame (frame_number typed index object)) is.frame
      ∙ slice_get-map (frame_variable typed) (entries index 0 typed.objects) (frame_number typed index object)
      ∙ ap (λ (entry : Option (ℕ × TypedObject)). option_map (frame_variable typed) entry)
      (entry_is typed index heading object found sized fit frames_fit stands there home)

  distance_there :
      (object : ℕ) (found : TypedObject)
      → slice_get typed.objects object ≡ Some found
      → found.home ≡ InFrame index
      → distance_of plan (frame_number typed index object)
      ≡ distance_in procedure.frame.items (length procedure.parameters.items)
      (frame_number typed index object)
      (frame_variable typed (object, found))
  distance_there object found there home =
      planned.distances (frame_number typed index object) (frame_variable typed (object, found))
      (stands_there object found there home)

  size_there :
      (object : ℕ) (found : TypedObject)
      → slice_get typed.objects object ≡ Some found
      → found.home ≡ InFrame index
      → min (size_of_object found) 65535 ≡ size_of_object found
  size_there object found there home =
      let small =
      object_fits typed index heading object found has
      (frame_fits typed index heading frames_fit stands) there home in
      omega (arith, small)

  all_bytes : variable_bytes procedure.frame.items ≡ heading.frame_bytes
  all_bytes = ap variable_bytes is.frame ∙ bytes_are typed index heading fit frames_fit stands

  -- the bytes of a variable that is no parameter are among the first ones
  pub variable_lies :
      (object offset : ℕ) (found : TypedObject)
      → slice_get typed.objects object ≡ Some found
      → found.home ≡ InFrame index
      → found.is_parameter ≡ false
      → offset < size_of_object found
      → distance_of plan (frame_number typed index object) + offset < heading.frame_bytes
  variable_lies object offset found there home named within =
      by_search (parameter_number typed.procedures object) refl (distance_there object found there home)
      (ends_within procedure.frame.items (frame_number typed index object)
      (frame_variable typed (object, found))
      (stands_there object found there home))
    where
      by_search : (search : Option ℕ)
          → parameter_number typed.procedures object ≡ search
          → distance_of plan (frame_number typed index object)
          ≡ distance_by_parameter procedure.frame.items (length procedure.parameters.items)
          (frame_number typed index object) (min (size_of_object found) 65535)
          (option_map (λ (index : ℕ). index % 65536) (parameter_number typed.procedures object))
          → variable_bytes (take (frame_number typed index object) procedure.frame.items)
          + bytes_by_parameter (min (size_of_object found) 65535)
          (option_map (λ (index : ℕ). index % 65536) (parameter_number typed.procedures object))
          ≤ variable_bytes procedure.frame.items
          → distance_of plan (frame_number typed index object) + offset < heading.frame_bytes
      by_search (Some other) search distance ends =
          let its = framed typed index heading object found other fit stands there home search in
          absurd (true≢false (sym its.named ∙ named))
      by_search None search distance ends =
          let begins : distance_of plan (frame_number typed index object)
          ≡ variable_bytes (take (frame_number typed index object) procedure.frame.items)
          = distance
          ∙ ap (λ (search : Option ℕ).
          distance_by_parameter procedure.frame.items (length procedure.parameters.items)
          (frame_number typed index object) (min (size_of_object found) 65535)
          (option_map (λ (index : ℕ). index % 65536) search)) search in
          let within_all : variable_bytes (take (frame_number typed index object) procedure.frame.items)
          + min (size_of_object found) 65535 ≤ variable_bytes procedure.frame.items
          = subst (λ (search : Option ℕ).
          variable_bytes (take (frame_number typed index object) procedure.frame.items)
          + bytes_by_parameter (min (size_of_object found) 65535)
          (option_map (λ (index : ℕ). index % 65536) search)
          ≤ variable_bytes procedure.frame.items) search ends in
          omega (arith, begins, within_all, within, size_there object found there home, all_bytes)

  -- a parameter lies in its word
  pub parameter_lies :
      (object place : ℕ) (scalar : ScalarType) (found : TypedObject)
      → slice_get typed.objects object ≡ Some found
      → found.home ≡ InFrame index
      → IsScalar scalar found
      → slice_get heading.parameters place ≡ Some object
      → distance_of plan (frame_number typed index object)
      ≡ parameter_distance heading.frame_bytes (length heading.parameters - place - 1) (size_of_scalar scalar)
  parameter_lies object place scalar found there home scalar_is listed =
      by_search (parameter_number typed.procedures object) refl
    where
      of_place : (search : ℕ) → slice_get heading.parameters search ≡ Some object → search % 65536 ≡ place
      of_place search found_there =
          let few : length heading.parameters ≤ 16 = has.count in
          let within = slice_get_within heading.parameters search object found_there in
          mod-eq_of_lt (omega (arith, few, within))
          ∙ same_number heading.parameters search place object has.differ found_there listed

      by_search : (search : Option ℕ)
          → parameter_number typed.procedures object ≡ search
          → distance_of plan (frame_number typed index object)
          ≡ parameter_distance heading.frame_bytes (length heading.parameters - place - 1)
          (size_of_scalar scalar)
      by_search None search =
          absurd (none_found typed.procedures object index place heading search stands listed)
      by_search (Some other) search =
          let its = framed typed index heading object found other fit stands there home search in
          distance_there object found there home
          ∙ ap (λ (search : Option ℕ).
          distance_by_parameter procedure.frame.items (length procedure.parameters.items)
          (frame_number typed index object) (min (size_of_object found) 65535)
          (option_map (λ (index : ℕ). index % 65536) search)) search
          ∙ ap (λ (place : ℕ).
          parameter_distance (variable_bytes procedure.frame.items)
          (length procedure.parameters.items - place - 1)
          (min (size_of_object found) 65535)) (of_place other its.stands)
          ∙ ap (λ (bytes : ℕ).
          parameter_distance bytes (length procedure.parameters.items - place - 1)
          (min (size_of_object found) 65535))
          all_bytes
          ∙ ap (λ (count : ℕ).
          parameter_distance heading.frame_bytes (count - place - 1) (min (size_of_object found) 65535))
          (parameter_count typed index heading nodes.homes procedure.parameters.items has
          is.has_body.parameters)
          ∙ ap (λ (size : ℕ).
          parameter_distance heading.frame_bytes (length heading.parameters - place - 1) size)
          (size_there object found there home ∙ scalar_size found scalar scalar_is)
