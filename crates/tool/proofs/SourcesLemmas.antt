-- Programs of sources that are compiled.
use Rattle.tool.proofs.Prelude.{◌≡◌, ℕ, zero, suc, ◌<◌, ◌≤◌, ◌⊎◌, inl, inr, List, [], ◌∷◌, length, map, Some, None, Result, Ok, Err, All, arith, refl, sym, ap, ◌∙◌, subst, ⊎_elim, cases_lt, All-cons, All-from_recursion, All-nil, AllByRecursion, AllZip, TypedModule, Typed, JumpsAreSound, module_view, Layout, IsJoined, IsLawful, IsSoundlyTyped, Placement, placement_by, placing_refusal, storage_with, layout_view, IsObjectModule, ObjectModule, length_of, Plan, HaveStorage, ReadFault, HasReadCause, Absolute, files_give_the_image, KeepsContract, AreSoundlyMade, make_the_program, numbers_fit, HaveImage, Placed, AreSourcesOf, IsPlacedBy, IsProgramOf, program_modules, text_of, Compiled, ToolFault, TooManySources, Source, Code, Program, Link, Locate, DoesWhatItSays, EndsWithItsMemory, IsImageOfFiles, IsImageOfObjects, StartsAsItsSource, code_lengths, GivesImageOfObjects, AreWithoutFault, HasCause, IsInOrder, IsWithoutFault, sources_before, AreCompiled, HasBuildCause, IsBuiltFrom, module_in}
use Rattle.std.specs.Prelude.{IfOk}
use Rattle.failure.specs.{Failure.{IfFault}, declared.Failure.{Failure, TheVariants.{Fault, Memory}}}
use Rattle.words.specs.declared.limits.TheConstants.{LONGEST_SOURCE}
use Rattle.object_modules.specs.declared.segment.Segment.TheVariants as segments
use Rattle.codegen8080.specs.declared.module.CodeMarks.{CodeMarks}
use Rattle.locate.specs.Locating as of_locating
use Rattle.placing.specs.Views as of_placement
use Rattle.sources.specs.declared.read.ReadFault.TheVariants as read_faults
use Rattle.sources.specs.declared.fault.ProgramFault.TheVariants as program_faults
use Rattle.tool.specs.{Construction.{Construction, IsTyped}, Marks.{LieInEach}, Refusals.{IsRefusal, IsRefusedBy}, internal.Inside.{IsMadeConstruction, construction_with}}
use Rattle.tool.proofs.Headline.{declared_bytes_start, does_what_it_says, ends_with_its_memory}

length_mapped : {A B : Type 0} (f : A → B) (items : List A) → length (map f items) ≡ length items
length_mapped f [] = refl
length_mapped f (item ∷ items) = omega (arith, length_mapped f items)

abbrev typed_in : Compiled → Typed
typed_in one = one.source.typed

abbrev code_length_in : Compiled → ℕ
code_length_in one = length_of one.object segments.Code

abbrev modules_in : List Compiled → List TypedModule
modules_in compiled = map module_view (map typed_in compiled)

sources_are : (texts : List (List ℕ)) (compiled : List Compiled) → AreCompiled texts compiled
    → AreSourcesOf texts (modules_in compiled)
sources_are [] [] are = tt
sources_are [] (one ∷ others) are = absurd are
sources_are (text ∷ texts) [] are = absurd are
sources_are (text ∷ texts) (one ∷ others) are = (are.0.source, sources_are texts others are.1)

storages_are : (texts : List (List ℕ)) (compiled : List Compiled) → AreCompiled texts compiled
    → map layout_view (map (λ (one : Compiled). one.source.storage) compiled)
    ≡ map (λ (typed : Typed). storage_with (module_view typed)) (map typed_in compiled)
storages_are [] [] are = refl
storages_are [] (one ∷ others) are = absurd are
storages_are (text ∷ texts) [] are = absurd are
storages_are (text ∷ texts) (one ∷ others) are =
    rw are.0.storage (ap (λ rest. storage_with (module_in one) ∷ rest) (storages_are texts others are.1))

pub storages_fit : (texts : List (List ℕ)) (compiled : List Compiled) (modules : List Typed)
    (storages : List Layout) → AreCompiled texts compiled → modules ≡ map typed_in compiled
    → storages ≡ map (λ (one : Compiled). one.source.storage) compiled
    → map layout_view storages ≡ map (λ (typed : Typed). storage_with (module_view typed)) modules
storages_fit texts compiled modules storages are is its =
    ap (map layout_view) its ∙ storages_are texts compiled are
    ∙ ap (map (λ (typed : Typed). storage_with (module_view typed))) (sym is)

-- the lengths of code segments are those of the object modules, one for each module
lengths_are : (compiled : List Compiled)
    → map code_length_in compiled ≡ code_lengths (map (λ (one : Compiled). one.object) compiled)
lengths_are [] = refl
lengths_are (one ∷ others) = ap (λ rest. code_length_in one ∷ rest) (lengths_are others)

pub lengths_fit : (compiled : List Compiled) (objects : List ObjectModule) (lengths : List ℕ)
    → objects ≡ map (λ (one : Compiled). one.object) compiled → lengths ≡ map code_length_in compiled
    → lengths ≡ code_lengths objects
lengths_fit compiled objects lengths is its = its ∙ lengths_are compiled ∙ ap code_lengths (sym is)

-- object modules are made of the modules
made_each : (texts : List (List ℕ)) (compiled : List Compiled) → AreCompiled texts compiled
    → AreSoundlyMade (modules_in compiled) (map (λ (one : Compiled). one.object) compiled)
made_each [] [] are = tt
made_each [] (one ∷ others) are = absurd are
made_each (text ∷ texts) [] are = absurd are
made_each (text ∷ texts) (one ∷ others) are = (are.0.made, made_each texts others are.1)

pub made_all : (texts : List (List ℕ)) (compiled : List Compiled) (modules : List Typed)
    (objects : List ObjectModule) → AreCompiled texts compiled → modules ≡ map typed_in compiled
    → objects ≡ map (λ (one : Compiled). one.object) compiled
    → AreSoundlyMade (map module_view modules) objects
made_all texts compiled modules objects are is its =
    subst (λ ms. AreSoundlyMade (map module_view ms) objects) (sym is)
    (subst (AreSoundlyMade (modules_in compiled)) (sym its) (made_each texts compiled are))

-- the marks of each lie in its code
lie_in_each : (texts : List (List ℕ)) (compiled : List Compiled) → AreCompiled texts compiled
    → LieInEach (modules_in compiled) (map (λ (one : Compiled). one.object) compiled)
    (map (λ (one : Compiled). one.marks) compiled)
lie_in_each [] [] are = tt
lie_in_each [] (one ∷ others) are = absurd are
lie_in_each (text ∷ texts) [] are = absurd are
lie_in_each (text ∷ texts) (one ∷ others) are = (are.0.marked, lie_in_each texts others are.1)

pub marked_all : (texts : List (List ℕ)) (compiled : List Compiled) (modules : List Typed)
    (objects : List ObjectModule) (marks : List CodeMarks) → AreCompiled texts compiled
    → modules ≡ map typed_in compiled
    → objects ≡ map (λ (one : Compiled). one.object) compiled
    → marks ≡ map (λ (one : Compiled). one.marks) compiled
    → LieInEach (map module_view modules) objects marks
marked_all texts compiled modules objects marks are is its these =
    subst (λ ms. LieInEach (map module_view ms) objects marks) (sym is)
    (subst (λ (given : List ObjectModule). LieInEach (modules_in compiled) given marks) (sym its)
    (subst (LieInEach (modules_in compiled) (map (λ (one : Compiled). one.object) compiled)) (sym these)
    (lie_in_each texts compiled are)))

-- what is true of modules of which object modules are made
jumps_each : (modules : List TypedModule) (objects : List ObjectModule) → AreSoundlyMade modules objects
    → AllByRecursion JumpsAreSound modules
jumps_each [] [] made = tt
jumps_each [] (object ∷ objects) made = absurd made
jumps_each (typed ∷ modules) [] made = absurd made
jumps_each (typed ∷ modules) (object ∷ objects) made = (made.0.facts.jumps, jumps_each modules objects made.1)

sound_each : (modules : List TypedModule) (objects : List ObjectModule) → AreSoundlyMade modules objects
    → AllByRecursion IsSoundlyTyped modules
sound_each [] [] made = tt
sound_each [] (object ∷ objects) made = absurd made
sound_each (typed ∷ modules) [] made = absurd made
sound_each (typed ∷ modules) (object ∷ objects) made = (made.0.facts, sound_each modules objects made.1)

types_each : (modules : List TypedModule) (objects : List ObjectModule) → AreSoundlyMade modules objects
    → AllByRecursion IsTyped modules
types_each [] [] made = tt
types_each [] (object ∷ objects) made = absurd made
types_each (typed ∷ modules) [] made = absurd made
types_each (typed ∷ modules) (object ∷ objects) made = (
  (made.0.facts.types, numbers_fit typed object made.0, made.0.made.laid.globals, made.0.facts.frames),
  types_each modules objects made.1,
)

-- they have storage, and their code holds their constants
pub have_storage : (modules : List TypedModule) (objects : List ObjectModule) (lengths : List ℕ)
    → AreSoundlyMade modules objects → lengths ≡ code_lengths objects
    → HaveStorage modules lengths
have_storage modules objects lengths made its =
    subst (HaveStorage modules) (sym its)
    (record {
      storable = (make_the_program modules objects made).storable;
      constants = (make_the_program modules objects made).constants;
    })

pub count_fits : (modules : List TypedModule) (objects : List ObjectModule) (lengths : List ℕ)
    → AreSoundlyMade modules objects → lengths ≡ code_lengths objects
    → length lengths ≡ length modules
count_fits modules objects lengths made its = ap length its ∙ (make_the_program modules objects made).lengths

-- they can be linked and placed where the program was placed
pub placed_has_image : (plan : Plan) (modules : List TypedModule) (objects : List ObjectModule)
    (lengths : List ℕ) (placed : Placed) → AreSoundlyMade modules objects
    → lengths ≡ code_lengths objects → IsPlacedBy modules lengths plan placed
    → HaveImage (of_placement.plan_view plan) objects
placed_has_image plan modules objects lengths placed made its is =
    (make_the_program modules objects made).linked (of_placement.plan_view plan) is.joined
    (subst (λ (given : List ℕ). placing_refusal (of_placement.plan_view plan) modules given ≡ None) its
    is.may_lie)

pub program_built : (texts : List (List ℕ)) (compiled : List Compiled) (modules : List Typed) (plan : Plan)
    (built : Construction) → AreCompiled texts compiled → modules ≡ map typed_in compiled
    → IsBuiltFrom (map module_view modules) plan built
    → IsProgramOf texts (program_modules built.program)
program_built texts compiled modules plan built are is from =
    subst (IsProgramOf texts) (sym from.program)
    (record { sources = subst (λ ms. AreSourcesOf texts (map module_view ms)) (sym is) (sources_are texts compiled are); joined = from.joined })

program_is : (texts : List (List ℕ)) (compiled : List Compiled) (modules : List Typed)
    → AreCompiled texts compiled → modules ≡ map typed_in compiled → IsJoined (map module_view modules)
    → IsProgramOf texts (map module_view modules)
program_is texts compiled modules are is joined =
    record { sources = subst (λ ms. AreSourcesOf texts (map module_view ms)) (sym is) (sources_are texts compiled are); joined = joined }

pub build_cause : (fault : ToolFault) (texts : List (List ℕ)) (compiled : List Compiled)
    (modules : List Typed) (objects : List ObjectModule) (lengths : List ℕ) (plan : Plan)
    → AreCompiled texts compiled → modules ≡ map typed_in compiled
    → objects ≡ map (λ (one : Compiled). one.object) compiled → lengths ≡ map code_length_in compiled
    → HasBuildCause fault (map module_view modules) lengths plan → HasCause fault texts plan
build_cause TooManySources texts compiled modules objects lengths plan are is its long cause = absurd cause
build_cause (Source file fault) texts compiled modules objects lengths plan are is its long cause =
    absurd cause
build_cause (Code file fault) texts compiled modules objects lengths plan are is its long cause = absurd cause
build_cause (Program (program_faults.Join fault)) texts compiled modules objects lengths plan
    are is its long cause =
    record { modules = map module_view modules; sources = subst (λ ms. AreSourcesOf texts (map module_view ms)) (sym is) (sources_are texts compiled are); cause = cause }
build_cause (Program (program_faults.Placement fault)) texts compiled modules objects lengths plan
    are is its long cause =
    record {
      modules = map module_view modules;
      objects = objects;
      program = program_is texts compiled modules are is cause.0;
      contracts =
          let made = made_all texts compiled modules objects are is its in
          (make_the_program (map module_view modules) objects made).contracts;
      cause = subst
          (λ (given : List ℕ). placing_refusal (of_placement.plan_view plan) (map module_view modules) given
          ≡ Some (of_placement.refusal_of fault))
          (lengths_fit compiled objects lengths its long) cause.1;
    }
build_cause (Link fault) texts compiled modules objects lengths plan are is its long cause = absurd cause
build_cause (Locate fault) texts compiled modules objects lengths plan are is its long cause = absurd cause

pub build_order : (fault : ToolFault) (texts : List (List ℕ)) (modules : List TypedModule) (lengths : List ℕ)
    (plan : Plan) → HasBuildCause fault modules lengths plan → AreWithoutFault (length texts) texts
    → IsInOrder fault texts
build_order TooManySources texts modules lengths plan cause before = absurd cause
build_order (Source file fault) texts modules lengths plan cause before = absurd cause
build_order (Code file fault) texts modules lengths plan cause before = absurd cause
build_order (Program fault) texts modules lengths plan cause before = before
build_order (Link fault) texts modules lengths plan cause before = before
build_order (Locate fault) texts modules lengths plan cause before = before

-- object modules that are made of modules are valid
all_valid : (modules : List TypedModule) (objects : List ObjectModule) → AreSoundlyMade modules objects
    → All IsObjectModule objects
all_valid [] [] made = All-nil IsObjectModule
all_valid (typed ∷ modules) (object ∷ objects) made =
    All-cons IsObjectModule object objects made.0.made.valid (all_valid modules objects made.1)
all_valid [] (object ∷ objects) made = absurd made
all_valid (typed ∷ modules) [] made = absurd made

-- written to files, linked, read and placed, they give the image
is_image_of_files : (plan : Plan) (modules : List TypedModule) (objects : List ObjectModule)
    (image : Absolute) → AreSoundlyMade modules objects → IsImageOfObjects plan objects image
    → IsImageOfFiles plan objects image
is_image_of_files plan modules objects image made linked =
    let given =
    files_give_the_image objects linked.merged (of_locating.plan_view plan) image
    (all_valid modules objects made) linked.merge linked.placed in
    record { merged = linked.merged; merge = linked.merge; linked = given.0; placed = given.1 }

-- a program that was placed, with object modules that are made of its modules and the image of these
pub is_construction : (plan : Plan) (modules : List TypedModule) (lengths : List ℕ) (placed : Placed)
    (objects : List ObjectModule) (image : Absolute) → IsPlacedBy modules lengths plan placed
    → lengths ≡ code_lengths objects
    → AreSoundlyMade modules objects → IsImageOfObjects plan objects image
    → GivesImageOfObjects plan objects image
    → IsMadeConstruction (construction_with placed plan objects image)
is_construction plan modules lengths placed objects image is its made linked gives =
    let as_planned : of_placement.placement_view placed.placement
    ≡ placement_by (of_placement.plan_view plan) modules (code_lengths objects) =
    is.as_planned ∙ ap (λ (given : List ℕ). placement_by (of_placement.plan_view plan) modules given) its in
    let lies = subst (λ (placement : Placement). IsLawful modules placement) as_planned is.lawful in
    let does : DoesWhatItSays modules (of_placement.placement_view placed.placement) plan.stack_size image =
    subst (λ (placement : Placement). DoesWhatItSays modules placement plan.stack_size image) (sym as_planned)
    (does_what_it_says plan modules objects image is.joined made lies linked gives) in
    let memory : EndsWithItsMemory modules (of_placement.placement_view placed.placement) plan.stack_size
    image =
    subst (λ (placement : Placement). EndsWithItsMemory modules placement plan.stack_size image)
    (sym as_planned) (ends_with_its_memory plan modules objects image is.joined made lies linked gives) in
    let starts : StartsAsItsSource modules (of_placement.placement_view placed.placement) image =
    subst (λ (placement : Placement). StartsAsItsSource modules placement image) (sym as_planned)
    (declared_bytes_start plan modules objects image is.joined made lies linked gives) in (
      record {
        starts =
            subst (λ ms. StartsAsItsSource ms (of_placement.placement_view placed.placement) image)
            (sym is.program) starts;
        headline =
            subst (λ ms. DoesWhatItSays ms (of_placement.placement_view placed.placement) plan.stack_size
            image) (sym is.program) does;
        memory =
            subst (λ ms. EndsWithItsMemory ms (of_placement.placement_view placed.placement) plan.stack_size
            image) (sym is.program) memory;
        linked = linked;
        files = is_image_of_files plan modules objects image made linked;
        joined = subst IsJoined (sym is.program) is.joined;
        sound = subst (All IsSoundlyTyped) (sym is.program)
            (All-from_recursion IsSoundlyTyped modules (sound_each modules objects made));
        jumps = subst (All JumpsAreSound) (sym is.program)
            (All-from_recursion JumpsAreSound modules (jumps_each modules objects made));
        types = subst (All IsTyped) (sym is.program)
            (All-from_recursion IsTyped modules (types_each modules objects made));
        storable = rw is.program (make_the_program modules objects made).storable;
        contracts =
            subst (λ ms. AllZip KeepsContract ms objects) (sym is.program)
            (make_the_program modules objects made).contracts;
        objects = sym (length_mapped (λ (object : ObjectModule). length_of object segments.Code) objects)
            ∙ (make_the_program modules objects made).lengths ∙ sym (ap length is.program);
        may_lie = rw (is.program, sym its) is.may_lie;
        lawful = rw is.program is.lawful;
        as_planned = rw is.program as_planned;
      },
      subst (λ ms. AreSoundlyMade ms objects) (sym is.program) made,
    )

-- a text without a fault is not too long
short_without_fault : (text : List ℕ) → IsWithoutFault text → LONGEST_SOURCE < length text → ⊥
short_without_fault text is long =
    absurd (omega (arith, is.compiled.source.typing.read.expansion.spelling.short, long))

-- one that is too long has no other fault
only_too_long : (fault : ReadFault) (text : List ℕ) → HasReadCause fault text → LONGEST_SOURCE < length text
    → fault ≡ read_faults.TooLong
only_too_long read_faults.TooLong text cause long = refl
only_too_long (read_faults.Words fault) text cause long = absurd (omega (arith, cause.short, long))
only_too_long (read_faults.Expansion fault) text cause long =
    absurd (omega (arith, cause.spelling.short, long))
only_too_long (read_faults.Syntax fault) text cause long =
    absurd (omega (arith, cause.expansion.spelling.short, long))
only_too_long (read_faults.Typing fault) text cause long =
    absurd (omega (arith, cause.read.expansion.spelling.short, long))
only_too_long (read_faults.Storage fault) text cause long =
    absurd (omega (arith, cause.typing.read.expansion.spelling.short, long))

-- a fault at one source, where those before it have none
at_source : (other : ℕ) (fault : ReadFault) (texts : List (List ℕ)) (file : ℕ)
    → LONGEST_SOURCE < length (text_of texts file) → HasReadCause fault (text_of texts other)
    → AreWithoutFault other texts
    → (other < file) ⊎ ((other ≡ file) × (fault ≡ read_faults.TooLong))
at_source other fault texts file long cause before =
    ⊎_elim
    (λ (lt : other < file). inl lt)
    (λ (le : file ≤ other).
    ⊎_elim
    (λ (lt : file < other). absurd (short_without_fault (text_of texts file) (before.each file lt) long))
    (λ (ge : other ≤ file).
    let same : other ≡ file = omega (arith, le, ge) in
    inr (same, only_too_long fault (text_of texts file) (subst (λ k. HasReadCause fault (text_of texts k)) same cause) long))
    (cases_lt file other))
    (cases_lt other file)

-- a fault after all sources
after_all : (texts : List (List ℕ)) (file : ℕ) → file < length texts
    → LONGEST_SOURCE < length (text_of texts file) → AreWithoutFault (length texts) texts → ⊥
after_all texts file below long before =
    short_without_fault (text_of texts file) (before.each file below) long

-- a fault that a source has which is not too long, where those before it have none
at_readable : (other : ℕ) (texts : List (List ℕ)) (file : ℕ) → LONGEST_SOURCE < length (text_of texts file)
    → length (text_of texts other) ≤ LONGEST_SOURCE → AreWithoutFault other texts → other < file
at_readable other texts file long short before =
    ⊎_elim
    (λ (lt : other < file). lt)
    (λ (le : file ≤ other).
    ⊎_elim
    (λ (lt : file < other). absurd (short_without_fault (text_of texts file) (before.each file lt) long))
    (λ (ge : other ≤ file).
    let same : other ≡ file = omega (arith, le, ge) in
    absurd (omega (arith, long, subst (λ k. length (text_of texts k) ≤ LONGEST_SOURCE) same short)))
    (cases_lt file other))
    (cases_lt other file)

refused_by : (fault : ToolFault) (texts : List (List ℕ)) (plan : Plan) (file : ℕ) → file < length texts
    → LONGEST_SOURCE < length (text_of texts file) → HasCause fault texts plan
    → AreWithoutFault (sources_before fault (length texts)) texts → IsRefusal file fault
refused_by TooManySources texts plan file below long cause before = tt
refused_by (Source other fault) texts plan file below long cause before =
    at_source other fault texts file long cause.1 before
refused_by (Code other fault) texts plan file below long cause before =
    at_readable other texts file long cause.1.source.typing.read.expansion.spelling.short before
refused_by (Program fault) texts plan file below long cause before =
    absurd (after_all texts file below long before)
refused_by (Link fault) texts plan file below long cause before = absurd cause
refused_by (Locate fault) texts plan file below long cause before = absurd cause

-- a text among the sources of a program is not too long
short_source : (texts : List (List ℕ)) (modules : List TypedModule) (file : ℕ) → AreSourcesOf texts modules
    → file < length texts → LONGEST_SOURCE < length (text_of texts file) → ⊥
short_source [] modules file are below long = absurd (omega (arith, below))
short_source (text ∷ texts) [] file are below long = absurd are
short_source (text ∷ texts) (first ∷ others) zero are below long =
    absurd (omega (arith, are.0.typing.read.expansion.spelling.short, long))
short_source (text ∷ texts) (first ∷ others) (suc file) are below long =
    short_source texts others file are.1 (omega (arith, below)) long

-- sources of which one is too long are refused for it, or memory runs out
pub too_long : (result : Result Construction (Failure ToolFault)) (texts : List (List ℕ)) (plan : Plan) (file : ℕ)
    → IfOk result (λ built. IsProgramOf texts (program_modules built.program))
    → IfFault result (λ fault. HasCause fault texts plan) → IfFault result (λ fault. IsInOrder fault texts)
    → file < length texts → LONGEST_SOURCE < length (text_of texts file) → IsRefusedBy file result
too_long (Ok built) texts plan file is cause before below long =
    absurd (short_source texts (program_modules built.program) file is.sources below long)
too_long (Err (Fault fault)) texts plan file is cause before below long =
    refused_by fault texts plan file below long cause before
too_long (Err Memory) texts plan file is cause before below long = tt
