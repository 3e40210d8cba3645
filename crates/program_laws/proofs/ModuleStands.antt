-- The main program, the procedures and the routines of a module stand where its labels lie.
use Rattle.program_laws.proofs.Prelude.{◌≡◌, ◌≢◌, ℕ, zero, suc, ◌+◌, ◌≤◌, Bool, true, List, [], ◌∷◌, ◌++◌, length, Some, refl, sym, ◌∙◌, subst, arith, slice_get, none-some, same_Some, Target, InSegment, ObjectModule, TypedModule, Program, Hlt, Sp, Item, LoadPair, Layout, Stands, stands_size, ProcedureKind, TreeProcedure, HasFrame, Activation, IsThere, both_there, Written, stack_end_item, AreCodeOf, AreRoutines, IsCodeOf, IsCodeOfMain, IsCodeOfRoutine, IsMainCode, IsProcedureCode, IsRoutineCode, all_routines, contents_items, has_main, RoutineIsAt, MainStands, ModuleCode, ProcedureStands, bare, LiesInMemory, module_layout, written_layout, IsSoundlyMade, zero-add}
use Rattle.object_modules.specs.declared.segment.Segment.TheVariants as segments
use Rattle.asm8080.specs.declared.item.Item.TheVariants as items
use Rattle.runtime8080.specs.{declared.routine.Routine.{Routine}, internal.Routines.{size_of_routine}}
use Rattle.runtime8080.specs.declared.routine.Routine.TheVariants as routines
use Rattle.treecode.specs.declared.procedure.ProcedureKind.TheVariants as kinds
use Rattle.exprgen8080.specs.internal.Emission.{has_routine, index_of_routine, module_label_of_routine}
use Rattle.program_laws.proofs.CodeLies.{all_stand, lays_out, lies_within}
use Rattle.program_laws.proofs.Renumbered.{LaysOut, stands_so}

-- after a label that lies where the items do
after_label :
    {activation : Activation} (label : ℕ) (others : List Item) (from to : ℕ)
    → IsThere activation (items.Mark label ∷ others) from to
    → (activation.layout.place_of label ≡ from) × IsThere activation others from to
after_label label others from to there =
    (there.stands.0, record { stands = there.stands.1; low = there.low; high = there.high })

-- it is not EXTERNAL
abbrev pub IsOwn : ProcedureKind → Type 0
IsOwn kind = (name : ℕ) → kind ≢ kinds.External name

module _ (code : ModuleCode) where
  -- a procedure stands at its label
  procedure_stands :
      (number : ℕ) (procedure : TreeProcedure) (list : List Item) (from to : ℕ)
      → HasFrame procedure
      → IsProcedureCode code.tree.now code.called number procedure list
      → IsThere (bare code) list from to
      → ProcedureStands code procedure (code.layout.place_of number)
  procedure_stands number procedure list from to framed is there =
      let parts = after_label number (is.beginning ++ (is.statements ++ is.ending)) from to
      (subst (λ one. IsThere (bare code) one from to) is.list_is there) in
      record {
        body = is.body;
        tree = is.tree_is;
        is_procedure = is.procedure_is;
        frame = λ reentrant. is.frame.planned reentrant framed;
        first = is.first;
        begins = is.beginning;
        begun = is.entered;
        entry_written = is.begins;
        statements = is.statements;
        last = is.last;
        list_written = is.written;
        ends = is.ending;
        end_written = is.ends;
        to = to;
        there = subst (λ at. IsThere (bare code) (is.beginning ++ (is.statements ++ is.ending)) at to)
            (sym parts.0) parts.1;
      }

  by_kind :
      (number : ℕ) (procedure : TreeProcedure) (kind : ProcedureKind) (list : List Item) (from to : ℕ)
      → HasFrame procedure
      → IsOwn kind
      → IsCodeOf code.tree.now code.called number procedure kind list
      → IsThere (bare code) list from to
      → ProcedureStands code procedure (code.layout.place_of number)
  by_kind number procedure (kinds.External name) list from to framed own is there = absurd (own name refl)
  by_kind number procedure kinds.Static list from to framed own is there =
      procedure_stands number procedure list from to framed is there
  by_kind number procedure kinds.Reentrant list from to framed own is there =
      procedure_stands number procedure list from to framed is there

  -- each of the procedures that are numbered from one on does
  procedures_stand :
      (first index : ℕ) (all : List TreeProcedure) (procedure : TreeProcedure)
      (list : List Item) (from to : ℕ)
      → AreCodeOf code.tree.now code.called first all list
      → IsThere (bare code) list from to
      → slice_get all index ≡ Some procedure
      → HasFrame procedure
      → IsOwn procedure.kind
      → ProcedureStands code procedure (code.layout.place_of (first + index))
  procedures_stand first index [] procedure list from to are there found framed own =
      absurd (none-some procedure found)
  procedures_stand first zero (one ∷ others) procedure list from to are there found framed own =
      let parts = both_there are.0 are.1 (subst (λ one. IsThere (bare code) one from to) are.4 there) in
      let same : one ≡ procedure = same_Some one procedure found in
      let here : first + 0 ≡ first = omega arith in
      subst (λ number. ProcedureStands code procedure (code.layout.place_of number)) (sym here)
      (subst (λ (given : TreeProcedure). ProcedureStands code given (code.layout.place_of first)) same
      (by_kind first one one.kind are.0 from parts.middle
      (subst HasFrame (sym same) framed)
      (subst (λ (given : TreeProcedure). IsOwn given.kind) (sym same) own) are.2 parts.first))
  procedures_stand first (suc index) (one ∷ others) procedure list from to are there found framed own =
      let parts = both_there are.0 are.1 (subst (λ one. IsThere (bare code) one from to) are.4 there) in
      let more : first + suc index ≡ suc first + index = omega arith in
      subst (λ number. ProcedureStands code procedure (code.layout.place_of number)) (sym more)
      (procedures_stand (suc first) index others procedure are.1 parts.middle to are.3
      parts.second found framed own)

  -- the main program stands at its label
  main_stands :
      (start : ℕ) (list : List Item) (from to : ℕ)
      → IsMainCode code.tree.now code.called start list
      → IsThere (bare code) list from to
      → MainStands code (code.layout.place_of start)
  main_stands start list from to is there =
      let rest : List Item = stack_end_item (LoadPair Sp) ∷ (is.statements ++ (items.Plain Hlt ∷ [])) in
      let parts =
      after_label start rest from to (subst (λ one. IsThere (bare code) one from to) is.list_is there) in
      record {
        body = is.body;
        tree = is.tree_is;
        is_main = is.procedure_is;
        frame = is.frame;
        statements = is.statements;
        last = is.last;
        list_written = is.written;
        to = to;
        there = subst (λ at. IsThere (bare code) rest at to) (sym parts.0) parts.1;
      }

-- each routine has bytes
has_bytes : (routine : Routine) → 1 ≤ size_of_routine routine
has_bytes routines.Multiply = omega arith
has_bytes routines.Divide = omega arith
has_bytes routines.ShiftLeftByte = omega arith
has_bytes routines.ShiftRightByte = omega arith
has_bytes routines.ShiftLeftAddress = omega arith
has_bytes routines.ShiftRightAddress = omega arith
has_bytes routines.RotateLeft = omega arith
has_bytes routines.RotateRight = omega arith
has_bytes routines.Move = omega arith

among_routines : (routine : Routine) → slice_get all_routines (index_of_routine routine) ≡ Some routine
among_routines routines.Multiply = refl
among_routines routines.Divide = refl
among_routines routines.ShiftLeftByte = refl
among_routines routines.ShiftRightByte = refl
among_routines routines.ShiftLeftAddress = refl
among_routines routines.ShiftRightAddress = refl
among_routines routines.RotateLeft = refl
among_routines routines.RotateRight = refl
among_routines routines.Move = refl

module _
    (code : ModuleCode) (written : Written) (of_code : Layout) (lays : LaysOut written code.layout of_code)
  where
    abbrev InCode : (list : List Item) (from to : ℕ) → Type 0
    InCode list from to = IsThere (record (bare code) { layout = of_code }) list from to

    routine_stands :
        (routine : Routine) (list : List Item) (from to : ℕ)
        → IsRoutineCode code.tree.now written routine list
        → InCode list from to
        → RoutineIsAt (bare code) routine
        (code.layout.place_of (module_label_of_routine code.tree.now routine).index)
    routine_stands routine list from to is there =
        let parts =
        after_label is.label is.listing from to (subst (λ one. InCode one from to) is.list_is there) in
        let entry : ℕ = code.layout.place_of (module_label_of_routine code.tree.now routine).index in
        let at : entry ≡ from =
        lays.labels (module_label_of_routine code.tree.now routine).index is.label is.known ∙ parts.0 in
        let long = stands_size of_code code.image is.listing from to parts.1.stands in
        let low = parts.1.low in
        let size = is.size in
        let some = has_bytes routine in
        record {
          layout = of_code;
          items = is.listing;
          to = to;
          stands = subst (λ place. Stands of_code code.image is.listing place to) (sym at) parts.1.stands;
          has_bytes = omega (arith, at, long, size, some);
          low = omega (arith, at, low);
          high = parts.1.high;
          is_routine = is.is_routine;
        }

    routines_stand :
        (all : List Routine) (index : ℕ) (routine : Routine) (list : List Item) (from to : ℕ)
        → AreRoutines code.tree.now code.called written all list
        → InCode list from to
        → slice_get all index ≡ Some routine
        → has_routine code.called routine ≡ true
        → RoutineIsAt (bare code) routine
        (code.layout.place_of (module_label_of_routine code.tree.now routine).index)
    routines_stand [] index routine list from to are there found called = absurd (none-some routine found)
    routines_stand (one ∷ others) zero routine list from to are there found called =
        let parts = both_there are.0 are.1 (subst (λ one. InCode one from to) are.4 there) in
        let same : one ≡ routine = same_Some one routine found in
        routine_stands routine are.0 from parts.middle
        (subst (λ (is_called : Bool). IsCodeOfRoutine code.tree.now written routine is_called are.0) called
        (subst (λ (given : Routine). IsCodeOfRoutine code.tree.now written given
        (has_routine code.called given) are.0) same are.2))
        parts.first
    routines_stand (one ∷ others) (suc index) routine list from to are there found called =
        let parts = both_there are.0 are.1 (subst (λ one. InCode one from to) are.4 there) in
        routines_stand others index routine are.1 parts.middle to are.3 parts.second found called

-- what of a module stands
pub record PartsStand (code : ModuleCode) (start : ℕ) : Type 0 where
  pub main : has_main code.tree.now ≡ true → MainStands code (code.layout.place_of start)
  pub procedures :
      (number : ℕ) (procedure : TreeProcedure)
      → slice_get code.tree.now.procedures.items number ≡ Some procedure
      → HasFrame procedure
      → IsOwn procedure.kind
      → ProcedureStands code procedure (code.layout.place_of number)
  pub routines :
      (routine : Routine) → has_routine code.called routine ≡ true
      → RoutineIsAt (bare code) routine
      (code.layout.place_of (module_label_of_routine code.tree.now routine).index)

module _
    (program : Program) (number : ℕ) (typed : TypedModule) (object : ObjectModule)
    (address_of : Target → ℕ) (address_of_name : (name : List ℕ) → ℕ) (memory : List ℕ)
    (sound : IsSoundlyMade typed object)
    (lies : LiesInMemory program number typed object address_of address_of_name memory)
  where
    abbrev written : Written
    written = sound.made.generated.code

    abbrev of_code : Layout
    of_code = written_layout address_of sound.made.generated.to written

    -- the module, and where its code lies
    abbrev pub code_of : ModuleCode
    code_of = record {
      program = program;
      image = memory;
      number = number;
      typed = typed;
      storage = sound.made.storage;
      tree = record { ref_ptr = (0, 0); now = sound.made.tree };
      called = sound.made.generated.code_is.called;
      layout =
          module_layout address_of address_of_name sound.made.generated.to written
          sound.made.tree.externals.items;
    }

    lays : LaysOut written code_of.layout of_code
    lays = lays_out program number typed object address_of address_of_name memory sound lies

    pub parts_stand : PartsStand code_of sound.made.generated.start_label
    parts_stand =
        let base : ℕ = address_of (InSegment segments.Code) in
        let size : ℕ = length sound.made.generated.code_bytes.bytes in
        let of = sound.made.generated.code_is in
        let own = of.own_is in
        let within = lies_within program number typed object address_of address_of_name memory sound lies in
        let all : InCode code_of written of_code lays (of.made ++ of.listed) base (base + size) = record {
          stands =
              subst (λ list. Stands of_code memory list base (base + size)) of.items_are
              (all_stand program number typed object address_of address_of_name memory sound lies);
          low = within.0;
          high = within.1;
        } in
        let halves = both_there of.made of.listed all in
        let named : IsThere (bare code_of) of.own base halves.middle = record {
          stands =
              stands_so written code_of.layout of_code lays memory of.own of.made base halves.middle of.same
              halves.first.stands;
          low = halves.first.low;
          high = halves.first.high;
        } in
        let contents =
        both_there (contents_items sound.made.tree.constants.items) (own.main ++ own.procedures)
        (subst (λ list. IsThere (bare code_of) list base halves.middle) own.list_is named) in
        let parts = both_there own.main own.procedures contents.second in
        record {
          main = λ has.
              main_stands code_of sound.made.generated.start_label own.main contents.middle parts.middle
              (subst (λ (there : Bool). IsCodeOfMain sound.made.tree of.called
              sound.made.generated.start_label there own.main) has own.main_is)
              parts.first;
          procedures = λ procedure_number procedure found framed is_own.
              subst (λ at. ProcedureStands code_of procedure (code_of.layout.place_of at))
              (zero-add procedure_number)
              (procedures_stand code_of 0 procedure_number sound.made.tree.procedures.items
              procedure own.procedures
              parts.middle halves.middle own.procedures_are parts.second found framed is_own);
          routines = λ routine called.
              routines_stand code_of written of_code lays all_routines
              (index_of_routine routine) routine of.listed
              halves.middle (base + size) of.listed_are halves.second (among_routines routine) called;
        }
