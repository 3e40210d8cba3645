-- A procedure of tree code has the frame and the charge of the typed procedure.
use Rattle.frames.proofs.Prelude.{◌≡◌, ℕ, ◌+◌, ◌*◌, ◌%◌, ◌<◌, ◌≤◌, min, List, length, zip, slice_get, Option, Some, None, refl, ap, sym, ◌∙◌, subst, mod-eq_of_lt, arith, option_map, length-map, none-some, same_Some, slice_get-map, slice_get_within, ScalarType, Byte, Address, charge_of, height_of_list, InFrame, TypedObject, TypedProcedure, TypedModule, size_of_scalar, size_of_object, home_of_parameters, FramesFit, HasParameters, ParametersFit, Storage, FrameVariable, Parameter, TreeProcedure, frame_position, frame_variable, frame_variables, parameter_at, parameter_number, parameters_of, HasBody, IsProcedure, Nodes, charge_in, IsChargedAs, variable_bytes, HasSize, HasFrame}
use Rattle.mem80.specs.declared.memory.TheConstants.{MEMORY_SIZE}
use Rattle.treecode.specs.declared.place.Home.{Home}
use Rattle.frames.proofs.Entries.{entries, entry_at, IsEntry}
use Rattle.frames.proofs.Parameters.{as_many, has_parameters, frame_fits, IsFramed, framed}
use Rattle.frames.proofs.FrameBytes.{scalar_size, bytes_are}

-- the object of a variable of a frame
record IsVariable (typed : TypedModule) (procedure position : ℕ) (variable : FrameVariable) : Type 0 where
  number : ℕ
  object : TypedObject
  found : slice_get typed.objects number ≡ Some object
  home : object.home ≡ InFrame procedure
  place : position ≡ frame_position typed procedure number
  is : frame_variable typed (number, object) ≡ variable

variable_at :
    (typed : TypedModule) (procedure position : ℕ) (variable : FrameVariable) (frame : List FrameVariable)
    → frame ≡ frame_variables typed procedure
    → slice_get frame position ≡ Some variable
    → IsVariable typed procedure position variable
variable_at typed procedure position variable frame is found =
    by_entry (slice_get (entries procedure 0 typed.objects) position) refl
    (sym (slice_get-map (frame_variable typed) (entries procedure 0 typed.objects) position)
    ∙ ap (λ (frame : List FrameVariable). slice_get frame position) (sym is)
    ∙ found)
  where
    of_entry :
        (entry : ℕ × TypedObject)
        → IsEntry procedure 0 typed.objects position entry
        → frame_variable typed entry ≡ variable
        → IsVariable typed procedure position variable
    of_entry entry stands same = record {
      number = stands.index;
      object = entry.1;
      found = stands.found;
      home = stands.home;
      place = stands.place;
      is = ap (λ (number : ℕ). frame_variable typed (number, entry.1)) index_is ∙ same;
    }
      where
        index_is : stands.index ≡ entry.0
        index_is = omega (arith, stands.number)

    by_entry :
        (entry : Option (ℕ × TypedObject))
        → slice_get (entries procedure 0 typed.objects) position ≡ entry
        → option_map (frame_variable typed) entry ≡ Some variable
        → IsVariable typed procedure position variable
    by_entry None stands same = absurd (none-some variable same)
    by_entry (Some entry) stands same =
        of_entry entry (entry_at procedure 0 typed.objects position entry stands)
        (same_Some (frame_variable typed entry) variable same)

-- a variable that is a parameter
parameter_at_place :
    (typed : TypedModule) (procedure : ℕ) (heading : TypedProcedure) (number : ℕ) (object : TypedObject)
    (index : ℕ)
    → ParametersFit typed
    → slice_get typed.procedures procedure ≡ Some heading
    → slice_get typed.objects number ≡ Some object
    → object.home ≡ InFrame procedure
    → option_map (λ (index : ℕ). index % 65536) (parameter_number typed.procedures number) ≡ Some index
    → IsFramed typed heading object number index
parameter_at_place typed procedure heading number object index fit stands found home is =
    by_search (parameter_number typed.procedures number) refl is
  where
    of_framed :
        (search : ℕ)
        → IsFramed typed heading object number search
        → search % 65536 ≡ index
        → IsFramed typed heading object number index
    of_framed search parameter same =
        subst (λ (index : ℕ). IsFramed typed heading object number index)
        (sym (mod-eq_of_lt small) ∙ same) parameter
      where
        within : search < length heading.parameters
        within = slice_get_within heading.parameters search number parameter.stands

        few : length heading.parameters ≤ 16
        few = (has_parameters typed procedure heading fit stands).count

        small : search < 65536
        small = omega (arith, within, few)

    by_search :
        (search : Option ℕ)
        → parameter_number typed.procedures number ≡ search
        → option_map (λ (index : ℕ). index % 65536) search ≡ Some index
        → IsFramed typed heading object number index
    by_search None search same = absurd (none-some index same)
    by_search (Some other) search same =
        of_framed other (framed typed procedure heading number object other fit stands found home search)
        (same_Some (other % 65536) index same)

-- its size is that of its type, by its index among the parameters
capped_size : (scalar : ScalarType) → min (size_of_scalar scalar) 65535 ≡ size_of_scalar scalar
capped_size Byte = refl
capped_size Address = refl

has_size :
    (typed : TypedModule) (starts : List Home) (heading : TypedProcedure) (object : TypedObject)
    (number index : ℕ) (parameters : List Parameter)
    → parameters ≡ parameters_of starts heading
    → IsFramed typed heading object number index
    → HasSize (min (size_of_object object) 65535) (slice_get parameters index)
has_size typed starts heading object number index parameters are parameter =
    subst (λ (found : Option Parameter). HasSize (min (size_of_object object) 65535) found)
    (sym (ap (λ (parameters : List Parameter). slice_get parameters index) are
    ∙ slice_get-map (parameter_at starts) (zip heading.parameter_types heading.parameters) index
    ∙ ap (λ (pair : Option (ScalarType × ℕ)). option_map (parameter_at starts) pair) parameter.paired))
    (ap (λ (size : ℕ). min size 65535) (scalar_size object parameter.scalar parameter.scalar_is)
    ∙ capped_size parameter.scalar)

-- as many parameters as those of the typed procedure
pub parameter_count :
    (typed : TypedModule) (number : ℕ) (heading : TypedProcedure) (starts : List Home)
    (parameters : List Parameter)
    → HasParameters typed number heading
    → parameters ≡ parameters_of starts heading
    → length parameters ≡ length heading.parameters
parameter_count typed number heading starts parameters has are =
    ap (λ (parameters : List Parameter). length parameters) are
    ∙ length-map (zip heading.parameter_types heading.parameters) (parameter_at starts)
    ∙ as_many typed (home_of_parameters number heading.is_reentrant heading.visibility)
    heading.parameter_types heading.parameters has.objects

pub has_frame :
    (typed : TypedModule) (nodes : Nodes) (storage : Storage) (number : ℕ) (procedure : TreeProcedure)
    (heading : TypedProcedure)
    → ParametersFit typed
    → FramesFit typed
    → slice_get typed.procedures number ≡ Some heading
    → IsProcedure typed nodes storage number procedure heading
    → HasFrame procedure
has_frame typed nodes storage number procedure heading fit frames_fit stands is = record {
  parameters = λ place index variable found parameter.
      sized index variable (variable_at typed number place variable procedure.frame.items is.frame found)
      parameter;
  once = λ place other index variable same found found_other parameter parameter_other.
      one_place place other index variable same
      (variable_at typed number place variable procedure.frame.items is.frame found)
      (variable_at typed number other same procedure.frame.items is.frame found_other)
      parameter parameter_other;
  bytes =
      is.frame_bytes ∙ sym (bytes_are typed number heading fit frames_fit stands)
      ∙ ap variable_bytes (sym is.frame);
  in_memory = call_fits;
}
  where
    has : HasParameters typed number heading
    has = has_parameters typed number heading fit stands

    few : length heading.parameters ≤ 16
    few = has.count

    small : heading.frame_bytes ≤ 1024
    small = (frame_fits typed number heading frames_fit stands).bytes

    call_fits : 2 + 2 * length procedure.parameters.items + procedure.frame_bytes < 65536
    call_fits =
        omega (
          arith,
          few,
          small,
          is.frame_bytes,
          parameter_count typed number heading nodes.homes procedure.parameters.items has
              is.has_body.parameters,
        )

    of_variable :
        {place : ℕ} (index : ℕ) (variable : FrameVariable)
        → (entry : IsVariable typed number place variable)
        → variable.parameter ≡ Some index
        → IsFramed typed heading entry.object entry.number index
    of_variable index variable entry parameter =
        parameter_at_place typed number heading entry.number entry.object index fit stands entry.found
        entry.home (ap (λ (variable : FrameVariable). variable.parameter) entry.is ∙ parameter)

    sized :
        {place : ℕ} (index : ℕ) (variable : FrameVariable)
        → IsVariable typed number place variable
        → variable.parameter ≡ Some index
        → HasSize variable.size (slice_get procedure.parameters.items index)
    sized index variable entry parameter =
        subst (λ (size : ℕ). HasSize size (slice_get procedure.parameters.items index))
        (ap (λ (variable : FrameVariable). variable.size) entry.is)
        (has_size typed nodes.homes heading entry.object entry.number index procedure.parameters.items
        is.has_body.parameters (of_variable index variable entry parameter))

    one_place :
        (place other index : ℕ) (variable same : FrameVariable)
        → IsVariable typed number place variable
        → IsVariable typed number other same
        → variable.parameter ≡ Some index
        → same.parameter ≡ Some index
        → place ≡ other
    one_place place other index variable same entry entry_other parameter parameter_other =
        entry.place
        ∙ ap (λ (object : ℕ). frame_position typed number object)
        (same_Some entry.number entry_other.number
        (sym (of_variable index variable entry parameter).stands
        ∙ (of_variable index same entry_other parameter_other).stands))
        ∙ sym entry_other.place

-- a body is charged as its procedure, if it has as many parameters and as large a frame
pub charged_as :
    (nodes : Nodes) (storage : Storage) (procedure : TreeProcedure) (heading : TypedProcedure)
    → length procedure.parameters.items ≡ length heading.parameters
    → procedure.frame_bytes ≡ heading.frame_bytes
    → HasBody nodes storage procedure heading
    → IsChargedAs procedure heading
charged_as nodes storage procedure heading count bytes body =
    record { parameters = count; frame_bytes = bytes; height = body.height }

pub is_charged :
    (typed : TypedModule) (nodes : Nodes) (storage : Storage) (number : ℕ) (procedure : TreeProcedure)
    (heading : TypedProcedure)
    → ParametersFit typed
    → slice_get typed.procedures number ≡ Some heading
    → IsProcedure typed nodes storage number procedure heading
    → IsChargedAs procedure heading
is_charged typed nodes storage number procedure heading fit stands is =
    charged_as nodes storage procedure heading
    (parameter_count typed number heading nodes.homes procedure.parameters.items
    (has_parameters typed number heading fit stands) is.has_body.parameters)
    is.frame_bytes is.has_body

-- the main program has no parameters; without a frame it is charged as the typed one
pub main_is_charged :
    (typed : TypedModule) (nodes : Nodes) (storage : Storage) (procedure : TreeProcedure)
    → ParametersFit typed
    → FramesFit typed
    → procedure.frame_bytes ≡ 0
    → HasBody nodes storage procedure typed.main
    → IsChargedAs procedure typed.main
main_is_charged typed nodes storage procedure fit frames_fit none body =
    charged_as nodes storage procedure typed.main
    (ap (λ (parameters : List Parameter). length parameters) body.parameters
    ∙ length-map (zip typed.main.parameter_types typed.main.parameters) (parameter_at nodes.homes)
    ∙ ap (λ (types : List ScalarType). length (zip types typed.main.parameters)) fit.main.0
    ∙ sym (ap (λ (parameters : List ℕ). length parameters) fit.main.1))
    (none ∙ sym frames_fit.main) body

-- the charge, up to the size of memory
pub same_charge :
    (procedure : TreeProcedure) (heading : TypedProcedure)
    → IsChargedAs procedure heading
    → min (charge_in procedure) MEMORY_SIZE ≡ min (charge_of heading) MEMORY_SIZE
unfolding charge_of
same_charge procedure heading is = in_numbers
  where
    in_numbers :
        min (10 + 2 * length procedure.parameters.items + procedure.frame_bytes + 2 * procedure.height) 65536
        ≡ min (10 + 2 * length heading.parameters + heading.frame_bytes + 2 * height_of_list heading.body)
        65536
    in_numbers = omega (arith, is.parameters, is.frame_bytes, is.height)
