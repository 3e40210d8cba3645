-- The object module of a module does on the machine what the module says, wherever it lies, by what calls do.
use Rattle.program_laws.proofs.Prelude.{◌≡◌, ℕ, suc, ◌+◌, Bool, true, List, [], Option, Some, None, refl, sym, ap, subst, ◌∙◌, arith, length, nat_lt, if◌then◌else◌, option_map_or, lt-ltb, Target, InSegment, ObjectModule, TypedModule, TypedList, TypedStatements, ListOf, NoStatements, MoreStatements, has_statement, is_main, Storage, Program, main_done, at_place, Range, TreeModule, AreMoreStatements, AreNoStatements, AreStatements, HasBody, IsList, IsListOf, labels_numbered_in_list, nodes_of, place_of_label, has_main, numbers_of_lowered, Entries, EndsAs, ModuleCode, AllCallsAreKnown, ModuleDoes, OtherCallsAreKnown, around_in, does_by_others, module_does, AreEntered, DoesWhereItLies, LiesInMemory, start_place, IsSoundlyMade}
use Rattle.object_modules.specs.declared.segment.Segment.TheVariants as segments
use Rattle.program_laws.proofs.Labels.{start_lies}
use Rattle.program_laws.proofs.ModuleLies.{module_lies}
use Rattle.program_laws.proofs.ModuleStands.{code_of, parts_stand}
use Rattle.program_laws.proofs.Shown.{shows_procedures}

statement_there : (first : ℕ) (places : List ℕ) (trees : TypedStatements)
    → has_statement (ListOf first places trees) ≡ true
    → has_statement (ListOf 0 [] trees) ≡ true
statement_there first places NoStatements some = some
statement_there first places (MoreStatements one others) some = refl

-- tree code of a main module has a main program
main_has : (tree : TreeModule) (typed : TypedModule) (storage : Storage)
    → HasBody (nodes_of tree) storage tree.main typed.main
    → is_main typed ≡ true
    → has_main tree ≡ true
main_has tree typed storage has is = by typed.main.body tree.main.body has.body is
  where
    by_count : (bound first count : ℕ) (trees : TypedStatements)
        → AreStatements (nodes_of tree) storage (labels_numbered_in_list typed.main.body)
        bound first count trees
        → has_statement (ListOf 0 [] trees) ≡ true
        → nat_lt 0 count ≡ true
    by_count bound first _ _ AreNoStatements some = let bad : ⊥ = cc in absurd bad
    by_count bound first _ _ (AreMoreStatements {count = count} found one others) some =
        lt-ltb 0 (suc count) (omega arith)

    by : (list : TypedList) (range : Range)
        → IsList (nodes_of tree) storage (labels_numbered_in_list typed.main.body)
        (length (nodes_of tree).statements) range list
        → has_statement list ≡ true
        → nat_lt 0 range.count ≡ true
    by _ range (IsListOf {first_label = first} {places = places} {trees = trees} are) some =
        by_count (length (nodes_of tree).statements) range.first range.count trees are
        (statement_there first places trees some)

module _
    (typed : TypedModule) (object : ObjectModule) (sound : IsSoundlyMade typed object)
  where
    -- the object module of a main module has a start
    main_is_there : is_main typed ≡ true → has_main sound.made.tree ≡ true
    main_is_there is = main_has sound.made.tree typed sound.made.storage sound.made.lowered.main is

    pub started :
        is_main typed ≡ true
        → object.start
        ≡ Some (place_of_label sound.made.generated.code sound.made.generated.code_bytes
        sound.made.generated.start_label)
    started is =
        sound.made.generated.start
        ∙ ap (λ (test : Bool).
        if test then Some
        (place_of_label sound.made.generated.code sound.made.generated.code_bytes
        sound.made.generated.start_label) else None)
        (main_is_there is)

module _
    (program : Program) (number : ℕ) (typed : TypedModule) (object : ObjectModule)
    (address_of : Target → ℕ) (address_of_name : (name : List ℕ) → ℕ) (memory : List ℕ)
    (sound : IsSoundlyMade typed object)
    (lies : LiesInMemory program number typed object address_of address_of_name memory)
    (entries : Entries)
    (entered :
    AreEntered program number typed (place_of_label sound.made.generated.code sound.made.generated.code_bytes)
    address_of
    address_of_name entries)
  where
    abbrev code : ModuleCode
    code = code_of program number typed object address_of address_of_name memory sound lies

    abbrev place : ℕ
    place = code.layout.place_of sound.made.generated.start_label

    start_is : is_main typed ≡ true → start_place address_of object ≡ place
    start_is is =
        ap (λ (start : Option ℕ). option_map_or
        (λ offset. address_of (InSegment segments.Code) + offset) start 0)
        (started typed object sound is)
        ∙ start_lies typed object sound address_of address_of_name (main_is_there typed object sound is)

    at_label : ModuleDoes program memory entries number typed place (AllCallsAreKnown program memory entries)
    at_label =
        module_does code entries place
        (module_lies program number typed object address_of address_of_name memory sound lies
        entries entered) lies.types
        (λ is. (parts_stand program number typed object address_of address_of_name memory sound lies).main
        (main_is_there typed object sound is))

    -- The object module of a module, wherever it lies: each step of calls from those of all procedures, and
    -- the run of the main program.
    pub object_does :
        ModuleDoes program memory entries number typed (start_place address_of object)
        (AllCallsAreKnown program memory entries)
    object_does = record {
      calls = at_label.calls;
      main = λ budget room s r rest is known same no_frame enough shares bytes.
          subst (λ (start : ℕ).
          EndsAs (record { program = program; image = memory }) budget (at_place start r rest s.events)
          (main_done budget typed (around_in program number room) s)) (sym (start_is is))
          (at_label.main budget room s r rest is known same no_frame enough shares bytes);
    }

    -- And so, by induction on the budget, where calls of the procedures of other modules alone are known.
    object_does_by_others :
        ModuleDoes program memory entries number typed (start_place address_of object)
        (OtherCallsAreKnown program memory entries number)
    object_does_by_others =
        does_by_others program memory entries number typed lies.is_module
        (start_place address_of object) object_does

-- Code that was generated for a module does, wherever it lies, what the module says.
pub generated_does :
    (typed : TypedModule) (object : ObjectModule)
    → IsSoundlyMade typed object
    → DoesWhereItLies typed object
generated_does typed object sound = record {
  begins = place_of_label sound.made.generated.code sound.made.generated.code_bytes;
  shown = shows_procedures typed object sound;
  numbers =
      numbers_of_lowered typed sound.made.storage sound.made.tree sound.made.lowered sound.words.numbers;
  by_calls = λ program number address_of address_of_name memory entries lies entered.
      object_does program number typed object address_of address_of_name memory sound lies entries entered;
  by_other_calls = λ program number address_of address_of_name memory entries lies entered.
      object_does_by_others program number typed object address_of address_of_name memory sound
      lies entries entered;
}
