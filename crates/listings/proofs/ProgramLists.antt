-- The listing of a program.
use Rattle.listings.proofs.{Prelude.{◌≡◌, inl, inr, ℕ, ◌+◌, ◌-◌, ◌<◌, ◌≤◌, List, [], ◌∷◌, ◌++◌, All, drop, flat_map, get_or, length, nil_from_length, map, take, zip, refl, arith, ap, sym, subst, ◌∙◌, All-from_recursion, AllByRecursion, ModulePlacement, Piece, Symbol, range_at, ObjectModule, fixes_in, Code, program_modules, Construction, TypedModule, constant_bytes, ListsModule, AreNamesOf, IsCodeName, IsCodeNameAmong, module_symbols, procedure_symbols, public_symbols, AreListed, ListsProgram, next_module, no_module, Named, ModuleView, Adds, IsBegun, AreViews, Follow, HasNames, IsListingOf, IsNameAmong, ListsView, ListsViews, code_size, data_size, next_view, no_view, object_names, object_of, pair_of, placed_of, public_names, text_of, typed_of, named_view}, Adding.{text_ended, gone_on, split_first}}

-- one module more
pub view_listed : (names : List Symbol) (pieces : List Piece) (all left : List ModuleView)
    (view d : ModuleView) (old now new : List ℕ) → 1 ≤ length left → view ≡ get_or left 0 d
    → IsBegun (ListsViews names pieces) all left old now → Adds (ListsView names pieces view) now new
    → IsBegun (ListsViews names pieces) all (take (length left - 1) (drop 1 left)) old new
view_listed names pieces all left view d old now new some is so_far adds =
    let more : List ModuleView = take (length left - 1) (drop 1 left) in
    gone_on (ListsViews names pieces) all left more old now new adds.text so_far adds.added
    (λ (text : List ℕ) others. subst (λ (views : List ModuleView). ListsViews names pieces views
    (adds.text ++ text)) (sym (split_first left view d some is))
    (next_view view more adds.text text adds.holds others))

-- all modules
pub views_listed : (names : List Named) (pieces : List Piece) (all left : List ModuleView) (lines : List ℕ)
    → HasNames all (map named_view names)
    → IsBegun (ListsViews (map named_view names) pieces) all left [] lines → length left < 1
    → IsListingOf pieces all lines
views_listed names pieces all left lines each so_far none =
    let whole = text_ended (ListsViews (map named_view names) pieces) all left [] lines so_far
    (subst (λ (views : List ModuleView). ListsViews (map named_view names) pieces views [])
    (sym (nil_from_length left (omega (arith, none)))) no_view) in
    record {
      names = map named_view names;
      each = each;
      listed = subst (ListsViews (map named_view names) pieces all) (sym whole.added) whole.holds;
    }

pub views_whole : (names kept : List Named) (pieces image : List Piece) (all left : List ModuleView)
    (old lines : List ℕ) → pieces ≡ image → names ≡ kept → old ≡ []
    → HasNames all (map named_view kept)
    → IsBegun (ListsViews (map named_view names) pieces) all left old lines → length left < 1
    → IsListingOf image all lines
views_whole names kept pieces image all left old lines is same none each so_far empty =
    subst (λ (p : List Piece). IsListingOf p all lines) is
    (views_listed kept pieces all left lines each
    (subst (λ (n : List Named). IsBegun (ListsViews (map named_view n) pieces) all left [] lines) same
    (subst (λ (o : List ℕ). IsBegun (ListsViews (map named_view names) pieces) all left o lines) none so_far))
    empty)

-- names of modules are names of the program
objects_named : (views : List ModuleView)
    → object_names views ≡ flat_map module_symbols (zip (map typed_of views) (map placed_of views))
objects_named [] = refl
objects_named (view ∷ views) =
    ap (λ (others : List Symbol). module_symbols (pair_of view) ++ others) (objects_named views)

procedures_named : (code_base data_base code_end data_end : ℕ) (views : List ModuleView)
    → Follow code_base data_base views code_end data_end
    → public_names views ≡ procedure_symbols code_base (map typed_of views) (map object_of views)
procedures_named code_base data_base code_end data_end [] follow = refl
procedures_named code_base data_base code_end data_end (view ∷ views) follow =
    ap (λ (others : List Symbol). public_symbols view.code_base (typed_of view) (object_of view) ++ others)
    (procedures_named (code_base + code_size view) (data_base + data_size view) code_end
    data_end views follow.2)
    ∙ ap (λ (a : ℕ). public_symbols a (typed_of view) (object_of view)
    ++ procedure_symbols (code_base + code_size view) (map typed_of views) (map object_of views)) follow.0

among : (code_base data_base code_end data_end : ℕ) (views : List ModuleView) (symbol : Symbol)
    → Follow code_base data_base views code_end data_end → IsNameAmong views symbol
    → IsCodeNameAmong code_base (map typed_of views) (map object_of views) symbol
among code_base data_base code_end data_end [] symbol follow is = absurd is
among code_base data_base code_end data_end (view ∷ views) symbol follow (inl here) =
    inl (subst (λ (a : ℕ). IsCodeName a (typed_of view) (object_of view) symbol) follow.0 here)
among code_base data_base code_end data_end (view ∷ views) symbol follow (inr later) =
    inr (among (code_base + code_size view) (data_base + data_size view) code_end data_end views
    symbol follow.2 later)

all_among : (code_base data_base code_end data_end : ℕ) (views : List ModuleView) (symbols : List Symbol)
    → Follow code_base data_base views code_end data_end → AllByRecursion (IsNameAmong views) symbols
    → AllByRecursion (IsCodeNameAmong code_base (map typed_of views) (map object_of views)) symbols
all_among code_base data_base code_end data_end views [] follow each = tt
all_among code_base data_base code_end data_end views (symbol ∷ symbols) follow each =
    (among code_base data_base code_end data_end views symbol follow each.0, all_among code_base data_base code_end data_end views symbols follow each.1)

-- The names of modules of a program.
record Tells (code_base : ℕ) (modules : List TypedModule) (objects : List ObjectModule)
    (placed : List ModulePlacement) (names : List Symbol) : Type 0 where
  others : List Symbol
  names_are : names ≡ flat_map module_symbols (zip modules placed)
      ++ procedure_symbols code_base modules objects ++ others
  each : All (IsCodeNameAmong code_base modules objects) others

told : (code_base data_base code_end data_end : ℕ) (views : List ModuleView) (names : List Symbol)
    → Follow code_base data_base views code_end data_end → HasNames views names
    → Tells code_base (map typed_of views) (map object_of views) (map placed_of views) names
told code_base data_base code_end data_end views names follow has = record {
  others = has.others;
  names_are =
      has.names_are
      ∙ ap (λ (l : List Symbol). (l ++ public_names views) ++ has.others) (objects_named views)
      ∙ ap (λ (l : List Symbol). (flat_map module_symbols (zip (map typed_of views) (map placed_of views))
      ++ l) ++ has.others)
      (procedures_named code_base data_base code_end data_end views follow);
  each = All-from_recursion (IsCodeNameAmong code_base (map typed_of views) (map object_of views)) has.others
      (all_among code_base data_base code_end data_end views has.others follow has.each);
}

in_program : (texts : List (List ℕ)) (built : Construction) (views : List ModuleView) (names : List Symbol)
    → AreViews texts built views → HasNames views names → AreNamesOf built names
in_program texts built views names are has =
    let tells : Tells built.plan.code (program_modules built.program) built.objects
    built.placement.modules names =
    subst (λ (modules : List TypedModule). Tells built.plan.code modules built.objects built.placement.modules
    names) are.typed_of_each
    (subst (λ (objects : List ObjectModule). Tells built.plan.code (map typed_of views) objects
    built.placement.modules names) are.object_of_each
    (subst (λ (placed : List ModulePlacement). Tells built.plan.code (map typed_of views)
    (map object_of views) placed names) are.placed_of_each
    (told built.plan.code built.plan.data_base are.code_end are.data_end views names are.follow has))) in
    record { others = tells.others; names_are = tells.names_are; each = tells.each }

-- modules whose segments follow one another
all_listed : (names : List Symbol) (pieces : List Piece) (code_base data_base code_end data_end : ℕ)
    (views : List ModuleView) (text : List ℕ)
    → Follow code_base data_base views code_end data_end → ListsViews names pieces views text
    → AreListed names pieces code_base data_base (map text_of views) (map typed_of views)
    (map object_of views) text
all_listed names pieces code_base data_base code_end data_end views text follow no_view = no_module
all_listed names pieces code_base data_base code_end data_end views text follow
    (next_view view others first more here later) =
    next_module
    (subst (λ (a : ℕ). ListsModule names pieces (range_at a (code_size view)) (constant_bytes (typed_of view))
    (fixes_in (object_of view) Code) (range_at data_base (data_size view)) (typed_of view).name
    (text_of view) first) follow.0
    (subst (λ (a : ℕ). ListsModule names pieces (range_at view.code_base (code_size view))
    (constant_bytes (typed_of view)) (fixes_in (object_of view) Code) (range_at a (data_size view))
    (typed_of view).name (text_of view) first) follow.1
    here))
    (all_listed names pieces (code_base + code_size view) (data_base + data_size view) code_end data_end
    others more follow.2 later)

-- the program
pub program_listed : (texts : List (List ℕ)) (built : Construction) (pieces : List Piece)
    (views : List ModuleView) (text : List ℕ) → AreViews texts built views → pieces ≡ built.image.pieces
    → IsListingOf pieces views text → ListsProgram texts built text
program_listed texts built pieces views text are is listing =
    let names = listing.names in
    let whole =
    all_listed names pieces built.plan.code built.plan.data_base are.code_end are.data_end views text
    are.follow listing.listed in
    record {
      names = names;
      each_name = in_program texts built views names are listing.each;
      listed =
          subst (λ (all : List Piece). AreListed names all built.plan.code built.plan.data_base texts
          (program_modules built.program) built.objects text) is
          (subst (λ (sources : List (List ℕ)). AreListed names pieces built.plan.code built.plan.data_base
          sources (program_modules built.program) built.objects text) are.text_of_each
          (subst (λ (modules : List TypedModule). AreListed names pieces built.plan.code built.plan.data_base
          (map text_of views) modules built.objects text) are.typed_of_each
          (subst (λ (objects : List ObjectModule). AreListed names pieces built.plan.code built.plan.data_base
          (map text_of views) (map typed_of views) objects text) are.object_of_each whole)));
    }
