-- The code of scalars and of parts of objects by what the objects are found by.
use Rattle.stack_compiler.proofs.Prelude.{◌≡◌, ℕ, ◌%◌, ◌<◌, true, false, List, ◌++◌, ◌∷◌, [], Option, refl, ap, sym, ◌∙◌, true≢false, arith, ScalarType, TypedReference, PartOf, Home, InData, InConstants, Placed, BasedOn, Elsewhere, Nowhere, InFrame, Subscript, NoSubscript, At, address_of, home_of, Instruction, FrameParameter, Parameter, Site, Purpose, surroundings_at, instruction_at, instruction_after, instruction_of_frame, whole_in_frame, scalar_code, variable_code, parameter_code, part_at, part_code, index_code, reference_code, Storage, Frame, Base, Memory, storage_by}
use Rattle.mem80.specs.declared.memory.TheConstants.{MEMORY_SIZE}
use Rattle.stack_compiler.specs.internal.ObjectParts.{bytes_code, framed_code, based_code, placed_code, lacks_subscripts}

-- a scalar by what it is found by
abbrev scalar_by : Site → Purpose → Storage → (object : ℕ) → Instruction
scalar_by site purpose Frame object = instruction_of_frame purpose (whole_in_frame object)
scalar_by site purpose (Base base) object =
    instruction_at purpose (address_of (surroundings_at site) object % MEMORY_SIZE)
scalar_by site purpose Memory object =
    instruction_at purpose (address_of (surroundings_at site) object % MEMORY_SIZE)

scalar_is : (site : Site) (purpose : Purpose) (home : Home) (object : ℕ)
    → scalar_by site purpose (storage_by home) object ≡ scalar_code site purpose home object
scalar_is site purpose (InData values) object = refl
scalar_is site purpose (InConstants values) object = refl
scalar_is site purpose (Placed address) object = refl
scalar_is site purpose (BasedOn base) object = refl
scalar_is site purpose Elsewhere object = refl
scalar_is site purpose Nowhere object = refl
scalar_is site purpose (InFrame procedure) object = refl

variable_by : (site : Site) (purpose : Purpose) (object : ℕ) (storage : Storage)
    → storage ≡ storage_by (home_of (surroundings_at site) object)
    → scalar_by site purpose storage object ≡ variable_code site purpose object
variable_by site purpose object storage is =
    ap (λ one. scalar_by site purpose one object) is
    ∙ scalar_is site purpose (home_of (surroundings_at site) object) object

within : (n : ℕ) → n < MEMORY_SIZE → n ≡ n % MEMORY_SIZE
within n small = omega arith

pub variable_in_frame : (site : Site) (purpose : Purpose) (object : ℕ)
    → Frame ≡ storage_by (home_of (surroundings_at site) object)
    → instruction_of_frame purpose (whole_in_frame object) ≡ variable_code site purpose object
variable_in_frame site purpose object is = variable_by site purpose object Frame is

pub variable_with_base : (site : Site) (purpose : Purpose) (object base address : ℕ)
    → Base base ≡ storage_by (home_of (surroundings_at site) object)
    → address < 65536 → address ≡ address_of (surroundings_at site) object
    → instruction_at purpose address ≡ variable_code site purpose object
variable_with_base site purpose object base address is small found =
    ap (instruction_at purpose) (within address small ∙ ap (λ one. one % MEMORY_SIZE) found)
    ∙ variable_by site purpose object (Base base) is

pub variable_in_memory : (site : Site) (purpose : Purpose) (object address : ℕ)
    → Memory ≡ storage_by (home_of (surroundings_at site) object)
    → address < 65536 → address ≡ address_of (surroundings_at site) object
    → instruction_at purpose address ≡ variable_code site purpose object
variable_in_memory site purpose object address is small found =
    ap (instruction_at purpose) (within address small ∙ ap (λ one. one % MEMORY_SIZE) found)
    ∙ variable_by site purpose object Memory is

-- a part of an object by what the object is found by
abbrev reference_by : Site → Purpose → Storage → TypedReference → List Instruction
reference_by site purpose Frame reference = framed_code site purpose reference
reference_by site purpose (Base base) reference = based_code site purpose base reference
reference_by site purpose Memory reference = placed_code site purpose reference

part_is : (site : Site) (purpose : Purpose) (home : Home) (object : ℕ) (member : Option ℕ) (offset : ℕ)
    (first second : Subscript)
    → reference_by site purpose (storage_by home) (PartOf object first member offset second)
    ≡ part_code site purpose home object offset first second (index_code site first ++ index_code site second)
    (bytes_code site first second)
part_is site purpose (InData values) object member offset first second = refl
part_is site purpose (InConstants values) object member offset first second = refl
part_is site purpose (Placed address) object member offset first second = refl
part_is site purpose (BasedOn base) object member offset first second = refl
part_is site purpose Elsewhere object member offset first second = refl
part_is site purpose Nowhere object member offset first second = refl
part_is site purpose (InFrame procedure) object member offset first second = refl

reference_is : (site : Site) (purpose : Purpose) (object : ℕ) (member : Option ℕ) (offset : ℕ)
    (first second : Subscript) (storage : Storage)
    → storage ≡ storage_by (home_of (surroundings_at site) object)
    → reference_by site purpose storage (PartOf object first member offset second)
    ≡ reference_code site purpose (PartOf object first member offset second)
reference_is site purpose object member offset first second storage is =
    ap (λ one. reference_by site purpose one (PartOf object first member offset second)) is
    ∙ part_is site purpose (home_of (surroundings_at site) object) object member offset first second

module _ (site : Site) (purpose : Purpose) (object : ℕ) (member : Option ℕ) (offset : ℕ)
    (first second : Subscript) (old new : List Instruction) where
  pub reference_in_frame : Frame ≡ storage_by (home_of (surroundings_at site) object)
      → new ≡ old ++ framed_code site purpose (PartOf object first member offset second)
      → new ≡ old ++ reference_code site purpose (PartOf object first member offset second)
  reference_in_frame is made =
      made ∙ ap (λ code. old ++ code) (reference_is site purpose object member offset first second Frame is)

  pub reference_with_base : (base : ℕ) → Base base ≡ storage_by (home_of (surroundings_at site) object)
      → new ≡ old ++ based_code site purpose base (PartOf object first member offset second)
      → new ≡ old ++ reference_code site purpose (PartOf object first member offset second)
  reference_with_base base is made =
      made ∙ ap (λ code. old ++ code)
      (reference_is site purpose object member offset first second (Base base) is)

  pub reference_in_memory : Memory ≡ storage_by (home_of (surroundings_at site) object)
      → new ≡ old ++ placed_code site purpose (PartOf object first member offset second)
      → new ≡ old ++ reference_code site purpose (PartOf object first member offset second)
  reference_in_memory is made =
      made ∙ ap (λ code. old ++ code) (reference_is site purpose object member offset first second Memory is)

-- whether there are subscripts decides how a part in memory is reached
pub part_without_subscript : (purpose : Purpose) (address : ℕ) (first second : Subscript)
    (bytes : List Instruction) → lacks_subscripts first second ≡ true
    → instruction_at purpose address ∷ [] ≡ part_at purpose address first second bytes
part_without_subscript purpose address NoSubscript NoSubscript bytes is = refl
part_without_subscript purpose address NoSubscript (At stride count index) bytes is =
    absurd (true≢false (sym is))
part_without_subscript purpose address (At stride count index) NoSubscript bytes is =
    absurd (true≢false (sym is))
part_without_subscript purpose address (At stride count index) (At one other more) bytes is =
    absurd (true≢false (sym is))

pub part_with_subscript : (purpose : Purpose) (address : ℕ) (first second : Subscript)
    (bytes : List Instruction) → lacks_subscripts first second ≡ false
    → bytes ++ (instruction_after purpose address ∷ []) ≡ part_at purpose address first second bytes
part_with_subscript purpose address NoSubscript NoSubscript bytes is = absurd (true≢false is)
part_with_subscript purpose address NoSubscript (At stride count index) bytes is = refl
part_with_subscript purpose address (At stride count index) NoSubscript bytes is = refl
part_with_subscript purpose address (At stride count index) (At one other more) bytes is = refl

-- a parameter by what it is found by
abbrev parameter_by : Site → Storage → (index : ℕ) → ScalarType → (object : ℕ) → Instruction
parameter_by site Frame index scalar object = FrameParameter index scalar object
parameter_by site (Base base) index scalar object =
    Parameter index scalar (address_of (surroundings_at site) object % MEMORY_SIZE)
parameter_by site Memory index scalar object =
    Parameter index scalar (address_of (surroundings_at site) object % MEMORY_SIZE)

parameter_is : (site : Site) (home : Home) (index : ℕ) (scalar : ScalarType) (object : ℕ)
    → parameter_by site (storage_by home) index scalar object ≡ parameter_code site home index scalar object
parameter_is site (InData values) index scalar object = refl
parameter_is site (InConstants values) index scalar object = refl
parameter_is site (Placed address) index scalar object = refl
parameter_is site (BasedOn base) index scalar object = refl
parameter_is site Elsewhere index scalar object = refl
parameter_is site Nowhere index scalar object = refl
parameter_is site (InFrame procedure) index scalar object = refl

module _ (site : Site) (index : ℕ) (scalar : ScalarType) (object : ℕ) where
  parameter_of : (storage : Storage) → storage ≡ storage_by (home_of (surroundings_at site) object)
      → parameter_by site storage index scalar object
      ≡ parameter_code site (home_of (surroundings_at site) object) index scalar object
  parameter_of storage is =
      ap (λ one. parameter_by site one index scalar object) is
      ∙ parameter_is site (home_of (surroundings_at site) object) index scalar object

  pub parameter_in_frame : Frame ≡ storage_by (home_of (surroundings_at site) object)
      → FrameParameter index scalar object
      ≡ parameter_code site (home_of (surroundings_at site) object) index scalar object
  parameter_in_frame is = parameter_of Frame is

  pub parameter_with_base : (base address : ℕ)
      → Base base ≡ storage_by (home_of (surroundings_at site) object) → address < 65536
      → address ≡ address_of (surroundings_at site) object
      → Parameter index scalar address ≡ parameter_code site
      (home_of (surroundings_at site) object) index scalar object
  parameter_with_base base address is small found =
      ap (λ one. Parameter index scalar one) (within address small ∙ ap (λ one. one % MEMORY_SIZE) found)
      ∙ parameter_of (Base base) is

  pub parameter_in_memory : (address : ℕ) → Memory ≡ storage_by (home_of (surroundings_at site) object)
      → address < 65536 → address ≡ address_of (surroundings_at site) object
      → Parameter index scalar address ≡ parameter_code site
      (home_of (surroundings_at site) object) index scalar object
  parameter_in_memory address is small found =
      ap (λ one. Parameter index scalar one) (within address small ∙ ap (λ one. one % MEMORY_SIZE) found) ∙ parameter_of Memory is
