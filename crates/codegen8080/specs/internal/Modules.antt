-- The object module of a module: the items of its code and of its data, the bytes of its segments, and its
-- names.
use Rattle.std.specs.Prelude.{◌≡◌, ◌≤◌, ℕ, suc, nat_lt, Bool, true, false, if◌then◌else◌, List, [], ◌∷◌, ◌++◌, flat_map, length, Option, Some, None, slice_get}
use Rattle.isa8080.specs.declared.instr.Instr.TheVariants.{Hlt}
use Rattle.isa8080.specs.declared.instr.Pair.TheVariants.{Sp}
use Rattle.object_modules.specs.declared.segment.Alignment.TheVariants.{Byte as OnByte}
use Rattle.object_modules.specs.declared.segment.Segment.{Segment}
use Rattle.object_modules.specs.declared.segment.Segment.TheVariants as segments
use Rattle.object_modules.specs.declared.segment.Target.{Target}
use Rattle.object_modules.specs.declared.segment.Target.TheVariants.{InSegment, External}
use Rattle.object_modules.specs.Module.{ObjectModule, Places, Public, is_movable}
use Rattle.asm8080.specs.declared.item.Item.{Item}
use Rattle.asm8080.specs.declared.item.Item.TheVariants as items
use Rattle.asm8080.specs.declared.item.WordForm.TheVariants.{LoadPair}
use Rattle.asm8080.specs.Assembled.{Assembled, Assembles, places_of}
use Rattle.asm8080.specs.Items.{IsAssembly, size_of_items}
use Rattle.runtime8080.specs.declared.routine.Routine.{Routine}
use Rattle.runtime8080.specs.declared.routine.Routine.TheVariants as routines
use Rattle.runtime8080.specs.internal.Routines.{IsRoutine, size_of_routine}
use Rattle.treecode.specs.declared.module.Content.{Content}
use Rattle.treecode.specs.declared.module.Content.TheVariants as contents
use Rattle.treecode.specs.declared.module.ExternalName.{ExternalName}
use Rattle.treecode.specs.declared.module.PublicName.{PublicName}
use Rattle.treecode.specs.declared.module.PublicPlace.{PublicPlace}
use Rattle.treecode.specs.declared.module.PublicPlace.TheVariants.{Object, Procedure}
use Rattle.treecode.specs.declared.module.TreeModule.{TreeModule}
use Rattle.treecode.specs.declared.place.Place.{Place}
use Rattle.treecode.specs.declared.place.Place.TheVariants as places
use Rattle.treecode.specs.declared.procedure.ProcedureKind.{ProcedureKind}
use Rattle.treecode.specs.declared.procedure.ProcedureKind.TheVariants as kinds
use Rattle.treecode.specs.declared.procedure.TreeProcedure.{TreeProcedure}
use Rattle.frames.specs.declared.frame_plan.FramePlan.{FramePlan}
use Rattle.frames.specs.internal.Frames.{HasFrame, HasNothing, IsPlanOf, LiesApart}
use Rattle.steps8080.specs.internal.Externals.{Extends, entry}
use Rattle.steps8080.specs.internal.Facts.{no_facts}
use Rattle.steps8080.specs.internal.Step.{label_after, label_of}
use Rattle.steps8080.specs.internal.Writer.{Written, address_items, numbered, place_of_label, stack_end_item, use_name}
use Rattle.exprgen8080.specs.internal.Emission.{call_routine, first_label, has_routine, module_label_of_routine}
use Rattle.statements8080.specs.declared.body.Body.{Body}
use Rattle.codegen8080.specs.declared.meeting.Here.{Here}
use Rattle.codegen8080.specs.internal.Generated.{AreCarriedOut, IsListCarriedOut}
use Rattle.codegen8080.specs.internal.Labelled.{AreStepsLabelled, IsListLabelled}
use Rattle.codegen8080.specs.internal.Procedures.{end_steps, entry_labels, entry_steps}
use Rattle.codegen8080.specs.internal.Targets.{with_targets}

-- the items of a piece of a segment
abbrev pub content_items : Content → List Item
content_items (contents.Byte value) = items.Byte value ∷ []
content_items (contents.Word place) = address_items place
content_items (contents.Gap count) = items.Gap count ∷ []

-- the items of the contents of a segment
abbrev pub contents_items : List Content → List Item
contents_items contents = flat_map content_items contents

-- how many bytes the constants of a module take
abbrev pub constant_size : TreeModule → ℕ
constant_size tree = size_of_items (contents_items tree.constants.items)

-- a module has a main program: a statement at its outer level
abbrev pub has_main : TreeModule → Bool
has_main tree = nat_lt 0 tree.main.body.count

-- The code of a main program, from its label on: it sets the stack pointer to the end of the stack, carries
-- out its statements, and halts.
pub record IsMainCode (tree : TreeModule) (called : List Bool) (start : ℕ) (list : List Item) : Type 0 where
  pub body : Body
  pub tree_is : body.tree.now ≡ tree
  pub procedure_is : body.procedure.now ≡ tree.main
  pub frame : HasNothing body.frame.now
  pub statements : List Item
  pub last : Here
  pub written : IsListCarriedOut body called no_facts tree.main.body statements last
  pub list_is :
      list
      ≡ items.Mark start ∷ stack_end_item (LoadPair Sp) ∷ (statements ++ (items.Plain Hlt ∷ []))

-- the same, if there is a main program
abbrev pub IsCodeOfMain :
    TreeModule → (called : List Bool) → (start : ℕ) → (is_there : Bool) → List Item → Type 0
IsCodeOfMain tree called start true list = IsMainCode tree called start list
IsCodeOfMain tree called start false list = list ≡ []

-- the plan of the frame with which the code of a procedure is generated
pub record IsFrameOf (procedure : TreeProcedure) (plan : FramePlan) : Type 0 where
  pub planned : procedure.kind ≡ kinds.Reentrant → HasFrame procedure → IsPlanOf procedure plan
  pub apart : procedure.kind ≡ kinds.Reentrant → HasFrame procedure → LiesApart procedure plan
  pub empty : (procedure.kind ≡ kinds.Reentrant → ⊥) → HasNothing plan

-- the code of the end of a procedure, if it can be reached
abbrev pub IsEndCode : Body → (called : List Bool) → Here → (is_reached : Bool) → List Item → Type 0
IsEndCode body called here true list =
    (last : Here) × AreCarriedOut body called here None (end_steps body) list last
IsEndCode body called here false list = list ≡ []

-- The code of a procedure, from its label on: its entry, its statements, and its end.
pub record IsProcedureCode
    (tree : TreeModule) (called : List Bool) (number : ℕ) (procedure : TreeProcedure) (list : List Item) :
    Type 0 where
  pub body : Body
  pub tree_is : body.tree.now ≡ tree
  pub procedure_is : body.procedure.now ≡ procedure
  pub frame : IsFrameOf procedure body.frame.now
  pub first : ℕ
  pub beginning : List Item
  pub statements : List Item
  pub ending : List Item
  pub entered : Here
  pub last : Here
  pub begins :
      AreCarriedOut body called (record { facts = no_facts; goes_on = true }) None (entry_steps body first)
      beginning entered
  pub written : IsListCarriedOut body called entered.facts procedure.body statements last
  pub ends : IsEndCode body called last procedure.reaches_its_end ending
  pub list_is : list ≡ items.Mark number ∷ (beginning ++ (statements ++ ending))

-- the code of any procedure; an EXTERNAL one has none
abbrev pub IsCodeOf :
    TreeModule → (called : List Bool) → (number : ℕ) → TreeProcedure → ProcedureKind → List Item → Type 0
IsCodeOf tree called number procedure (kinds.External name) list = list ≡ []
IsCodeOf tree called number procedure kind list = IsProcedureCode tree called number procedure list

-- the code of procedures one after another, numbered from `number` on
abbrev pub AreCodeOf :
    TreeModule → (called : List Bool) → (number : ℕ) → List TreeProcedure → List Item → Type 0
AreCodeOf tree called number [] list = list ≡ []
AreCodeOf tree called number (procedure ∷ others) list =
    (first : List Item)
    × (more : List Item)
    × IsCodeOf tree called number procedure procedure.kind first
    × AreCodeOf tree called (suc number) others more
    × (list ≡ first ++ more)

-- the start of a code segment: the constants, the main program and the procedures
pub record IsOwnCode (tree : TreeModule) (called : List Bool) (start : ℕ) (list : List Item) : Type 0 where
  pub main : List Item
  pub procedures : List Item
  pub main_is : IsCodeOfMain tree called start (has_main tree) main
  pub procedures_are : AreCodeOf tree called 0 tree.procedures.items procedures
  pub list_is : list ≡ contents_items tree.constants.items ++ (main ++ procedures)

-- the labels of the end of a procedure, if it can be reached
abbrev pub IsEndLabelled :
    (body : Body) (called : List Bool) (here : Here) (is_reached : Bool) (items : List Item)
    → IsEndCode body called here is_reached items → (label next : ℕ) → Type 0
IsEndLabelled body called here true items code label next = AreStepsLabelled code.1 label next
IsEndLabelled body called here false items code label next = next ≡ label

-- The labels of a main program: those that its source declares, and then those of its statements.
pub record IsMainLabelled
    {tree : TreeModule} {called : List Bool} {start : ℕ} {items : List Item}
    (code : IsMainCode tree called start items) (label next : ℕ) : Type 0 where
  pub named : code.body.first_label ≡ label_of label
  pub written : IsListLabelled code.written (label_after label tree.main.label_count) next

-- the same, if there is a main program
abbrev pub IsCodeOfMainLabelled :
    (tree : TreeModule) (called : List Bool) (start : ℕ) (is_there : Bool) (items : List Item)
    → IsCodeOfMain tree called start is_there items → (label next : ℕ) → Type 0
IsCodeOfMainLabelled tree called start true items code label next = IsMainLabelled code label next
IsCodeOfMainLabelled tree called start false items code label next = next ≡ label

-- The labels of a procedure: those that its source declares, and then those of its entry, its statements and
-- its end.
pub record IsProcedureLabelled
    {tree : TreeModule} {called : List Bool} {number : ℕ} {procedure : TreeProcedure} {items : List Item}
    (code : IsProcedureCode tree called number procedure items) (label next : ℕ) : Type 0 where
  pub begun : ℕ
  pub ended : ℕ
  pub named : code.body.first_label ≡ label_of label
  pub first : code.first ≡ label_after label procedure.label_count
  pub begins : AreStepsLabelled code.begins (label_after code.first (entry_labels code.body)) begun
  pub written : IsListLabelled code.written begun ended
  pub ends :
      IsEndLabelled code.body called code.last procedure.reaches_its_end code.ending code.ends ended next

-- the labels of any procedure: an EXTERNAL one has no code, and takes no label
abbrev pub IsCodeLabelled :
    (tree : TreeModule) (called : List Bool) (number : ℕ) (procedure : TreeProcedure) (kind : ProcedureKind)
    (items : List Item)
    → IsCodeOf tree called number procedure kind items → (label next : ℕ) → Type 0
IsCodeLabelled tree called number procedure (kinds.External name) items code label next = next ≡ label
IsCodeLabelled tree called number procedure kinds.Static items code label next = IsProcedureLabelled code label next
IsCodeLabelled tree called number procedure kinds.Reentrant items code label next = IsProcedureLabelled code label next

-- the labels of procedures one after another
abbrev pub AreProceduresLabelled :
    (tree : TreeModule) (called : List Bool) (number : ℕ) (procedures : List TreeProcedure) (items : List Item)
    → AreCodeOf tree called number procedures items → (label next : ℕ) → Type 0
AreProceduresLabelled tree called number [] items code label next = next ≡ label
AreProceduresLabelled tree called number (procedure ∷ others) items code label next =
    (middle : ℕ)
    × IsCodeLabelled tree called number procedure procedure.kind code.0 code.2 label middle
    × AreProceduresLabelled tree called (suc number) others code.1 code.3 middle next

-- The labels of a module's own code: of its main program, and then of its procedures. The labels before them
-- are those of the entries of the procedures, of the routines, and of the main program's entry.
pub record IsOwnLabelled
    {tree : TreeModule} {called : List Bool} {start : ℕ} {items : List Item}
    (code : IsOwnCode tree called start items) (next : ℕ) : Type 0 where
  pub begun : ℕ
  pub start_is : start ≡ first_label tree
  pub main : IsCodeOfMainLabelled tree called start (has_main tree) code.main code.main_is (label_after start 1) begun
  pub procedures :
      AreProceduresLabelled tree called 0 tree.procedures.items code.procedures code.procedures_are begun next

-- the routines in the order of their code
abbrev pub all_routines : List Routine
all_routines =
    routines.Multiply
    ∷ routines.Divide
    ∷ routines.ShiftLeftByte
    ∷ routines.ShiftRightByte
    ∷ routines.ShiftLeftAddress
    ∷ routines.ShiftRightAddress
    ∷ routines.RotateLeft
    ∷ routines.RotateRight
    ∷ routines.Move
    ∷ []

-- A routine that is called, after its label, for which the code has a number of its own. No other code refers
-- to the labels of its listing.
pub record IsRoutineCode
    (tree : TreeModule) (written : Written) (routine : Routine) (list : List Item) : Type 0 where
  pub label : ℕ
  pub known : entry written.labels (module_label_of_routine tree routine).index ≡ Some label
  pub listing : List Item
  pub is_routine : IsRoutine routine listing
  pub size : size_of_items listing ≡ size_of_routine routine
  pub list_is : list ≡ items.Mark label ∷ listing

-- the same, if it is called
abbrev pub IsCodeOfRoutine :
    TreeModule → Written → Routine → (is_called : Bool) → List Item → Type 0
IsCodeOfRoutine tree written routine true list = IsRoutineCode tree written routine list
IsCodeOfRoutine tree written routine false list = list ≡ []

-- routines one after another; only those that are called have code
abbrev pub AreRoutines :
    TreeModule → (called : List Bool) → Written → List Routine → List Item → Type 0
AreRoutines tree called written [] list = list ≡ []
AreRoutines tree called written (routine ∷ others) list =
    (first : List Item)
    × (more : List Item)
    × IsCodeOfRoutine tree written routine (has_routine called routine) first
    × AreRoutines tree called written others more
    × (list ≡ first ++ more)

-- Code as it was written: its items are those of the module, with the code's numbers for labels and names,
-- and those of the routines that are called. The labels of the module's items are counted in their order.
-- Items of the module refer to each name that has a number, and call each of the routines. The table of names
-- has no entry past the EXTERNAL names of the module.
pub record IsCodeWritten (tree : TreeModule) (start : ℕ) (written : Written) : Type 0 where
  pub called : List Bool
  pub own : List Item
  pub made : List Item
  pub listed : List Item
  pub own_is : IsOwnCode tree called start own
  pub next_label : ℕ
  pub labels : IsOwnLabelled own_is next_label
  pub same : numbered written own ≡ Some made
  pub listed_are : AreRoutines tree called written all_routines listed
  pub items_are : written.code.items ≡ made ++ listed
  pub within : length written.externals ≤ length tree.externals.items
  pub names : (name number : ℕ) → entry written.externals name ≡ Some number → use_name name own ≡ true
  pub calls : (routine : Routine) → has_routine called routine ≡ true → call_routine tree routine own ≡ true

-- the same, with the table that marks the routines that are called
pub record IsWrittenWith (tree : TreeModule) (start : ℕ) (called : List Bool) (written : Written) : Type 0 where
  pub code : IsCodeWritten tree start written
  pub called_is : code.called ≡ called

-- The code that was written is a segment of an object module, with these targets of its fixes. For code, its
-- resolved bytes are the items at their places from the address of the code segment on, wherever that is. For
-- data, which are placed elsewhere, this gives the bytes before they are resolved, and the fixes.
pub record IsSegmentOf
    (written : Written) (bytes : Assembled) (to : Target → Target) (segment : Places) : Type 0 where
  pub assembles : Assembles written.code bytes
  pub is_assembly : IsAssembly written.code
  pub same : segment.places ≡ places_of (with_targets to bytes)
  pub alignment : segment.alignment ≡ OnByte

-- The EXTERNAL name with a number in the code is one of the external names of an object module, and the
-- target of that number.
pub record IsNamed
    (externals : List ExternalName) (listed : List (List ℕ)) (to : Target → Target) (index number : ℕ) :
    Type 0 where
  pub external : ExternalName
  pub place : ℕ
  pub name : slice_get externals index ≡ Some external
  pub target : to (External number) ≡ External place
  pub found : slice_get listed place ≡ Some external.name

-- targets in an object module: its segments, and external names by their places among them
pub record AreTargets
    (externals : List ExternalName) (numbers : List (Option ℕ)) (listed : List (List ℕ))
    (to : Target → Target) : Type 0 where
  pub starts : (segment : Segment) → is_movable segment ≡ true → to (InSegment segment) ≡ InSegment segment
  pub names :
      (index number : ℕ)
      → entry numbers index ≡ Some number
      → IsNamed externals listed to index number

-- the names that code has numbers for, in their order
abbrev pub used_names : (numbers : List (Option ℕ)) → List ExternalName → List (List ℕ)
used_names [] externals = []
used_names numbers [] = []
used_names (None ∷ numbers) (external ∷ externals) = used_names numbers externals
used_names (Some number ∷ numbers) (external ∷ externals) = external.name ∷ used_names numbers externals

-- a public of an object of the module has the place of that object
abbrev pub IsAtPlace : (name : List ℕ) → Place → Public → Type 0
IsAtPlace name (places.Number number) public =
    public ≡ record { segment = segments.Absolute; offset = number; name = name }
IsAtPlace name (places.Code offset) public =
    public ≡ record { segment = segments.Code; offset = offset; name = name }
IsAtPlace name (places.Data offset) public =
    public ≡ record { segment = segments.Data; offset = offset; name = name }
IsAtPlace name (places.External offset index) public = ⊥

-- a public of a procedure has the place at which its code begins
abbrev pub IsPublicOf : Written → Assembled → (name : List ℕ) → PublicPlace → Public → Type 0
IsPublicOf written bytes name (Object place) public = IsAtPlace name place public
IsPublicOf written bytes name (Procedure number) public =
    public ≡ record { segment = segments.Code; offset = place_of_label written bytes number; name = name }

-- the publics of an object module are the PUBLIC names of a module, one by one
abbrev pub ArePublicsOf : Written → Assembled → List PublicName → List Public → Type 0
ArePublicsOf written bytes [] [] = Unit {0}
ArePublicsOf written bytes (name ∷ names) (public ∷ publics) =
    IsPublicOf written bytes name.name name.place public × ArePublicsOf written bytes names publics
ArePublicsOf written bytes names publics = ⊥

-- The object module of a module.
pub record IsGenerated (tree : TreeModule) (object : ObjectModule) : Type 0 where
  -- its name is that of the module
  pub name : object.name ≡ tree.name
  -- the label of the main program, the code as it was written, and its bytes
  pub start_label : ℕ
  pub code : Written
  pub code_bytes : Assembled
  pub code_is : IsCodeWritten tree start_label code
  -- the data as they were written, and their bytes
  pub variables : Written
  pub variable_bytes : Assembled
  pub variables_are : numbered variables (contents_items tree.variables.items) ≡ Some variables.code.items
  -- code and data refer to the same names, by the same numbers
  pub grown : Extends code.externals variables.externals
  -- the external names are those that code or data refer to, in the order of the text
  pub externals : object.externals ≡ used_names variables.externals tree.externals.items
  pub used :
      (name number : ℕ)
      → entry variables.externals name ≡ Some number
      → use_name name (code_is.own ++ contents_items tree.variables.items) ≡ true
  pub to : Target → Target
  pub targets : AreTargets tree.externals.items variables.externals object.externals to
  -- the segments
  pub code_segment : IsSegmentOf code code_bytes to object.code
  pub data_segment : IsSegmentOf variables variable_bytes to object.data_places
  pub stack : object.stack_length ≡ 0
  -- the PUBLIC names, in the order of the text
  pub publics : ArePublicsOf code code_bytes tree.publics.items object.publics
  -- a module with a main program starts at its entry
  pub start : object.start
      ≡ (if has_main tree then Some (place_of_label code code_bytes start_label) else None)
