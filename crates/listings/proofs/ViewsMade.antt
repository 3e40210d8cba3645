-- The modules of a program, one after another.
use Rattle.std.{specs.Prelude.{◌*◌, option_map}, proofs.lemmas.{List.{get_or-map}, Option.{get_or_from_slice_get, slice_get-get_or, slice_get-map, slice_get_read, slice_get_within}}}
use Rattle.typed_trees.specs.TypedTrees.{TypedModule}
use Rattle.typed_trees.specs.declared.module.Typed.{Typed}
use Rattle.typed_trees.specs.Views.{module_view}
use Rattle.placing.specs.Views.{module_placement_view}
use Rattle.placing.specs.declared.placement.ModulePlacement.{ModulePlacement as CodePlacement}
use Rattle.sources.specs.{Programs.{AreSourcesOf, IsProgramOf}, Reading.{IsSource}}
use Rattle.listings.proofs.Prelude.{◌≡◌, ℕ, zero, suc, ◌+◌, ◌<◌, ◌≤◌, List, [], ◌∷◌, ◌++◌, length, map, get_or, slice_get, take, Some, refl, ap, sym, subst, ◌∙◌, arith, All, AllByRecursion, All-from_recursion, length-map, take_all, none-some, same_Some, program_modules, texts_of, Source, Construction, IsConstruction, ModuleView, ObjectModule, AreFirstViews, AreViews, Follow, IsViewAt, code_size, data_size, object_of, placed_of, text_of, typed_of, map_push}

-- the first elements of a list, and the one after them
taken : {A : Type 0} (xs : List A) (n : ℕ) (x : A) → slice_get xs n ≡ Some x
    → take n xs ++ x ∷ [] ≡ take (suc n) xs
taken [] n x e = absurd (none-some x e)
taken (y ∷ xs) zero x e = ap (λ first. first ∷ []) (sym (same_Some y x e))
taken (y ∷ xs) (suc n) x e = ap (λ others. y ∷ others) (taken xs n x e)

mapped : {A B : Type 0} (f : A → B) (seen : List A) (x : A) (all : List B) (n : ℕ) → map f seen ≡ take n all
    → slice_get all n ≡ Some (f x) → map f (seen ++ x ∷ []) ≡ take (suc n) all
mapped f seen x all n are at =
    map_push f seen x ∙ ap (λ others. others ++ f x ∷ []) are ∙ taken all n (f x) at

-- one module more
follow_more : (code_base data_base : ℕ) (views : List ModuleView) (view : ModuleView)
    (code next_data code_end data_end : ℕ) → Follow code_base data_base views code next_data
    → view.code_base ≡ code → view.data_base ≡ next_data → code_end ≡ code + code_size view
    → data_end ≡ next_data + data_size view
    → Follow code_base data_base (views ++ view ∷ []) code_end data_end
follow_more code_base data_base [] view code next_data code_end data_end are code_at data_at code_is data_is = (
  code_at ∙ sym are.0,
  data_at ∙ sym are.1,
  (ap (λ (n : ℕ). n + code_size view) are.0 ∙ sym code_is, ap (λ (n : ℕ). n + data_size view) are.1 ∙ sym data_is),
)
follow_more code_base data_base (first ∷ views) view code next_data code_end data_end are code_at
    data_at code_is data_is = (
      are.0,
      are.1,
      follow_more (code_base + code_size first) (data_base + data_size first) views view code next_data code_end
          data_end are.2 code_at data_at code_is data_is,
    )

pub no_views : (texts : List (List ℕ)) (built : Construction) (code next_data : ℕ)
    → code ≡ built.plan.code → next_data ≡ built.plan.data_base
    → code ≤ 65535 → next_data ≤ 65535
    → AreFirstViews texts built 0 code next_data []
no_views texts built code next_data code_is data_is code_low data_low = record {
  text_of_each = refl;
  typed_of_each = refl;
  object_of_each = refl;
  placed_of_each = refl;
  follow = (sym code_is, sym data_is);
  code_within = omega (arith, code_low);
  data_within = omega (arith, data_low);
}

pub view_added : (texts : List (List ℕ)) (built : Construction)
    (count next code next_data code_end data_end : ℕ) (now new : List ModuleView) (view : ModuleView)
    → AreFirstViews texts built count code next_data now
    → IsViewAt texts built count code next_data view
    → code_end ≡ code + code_size view → data_end ≡ next_data + data_size view
    → code_size view ≤ 65535 → data_size view ≤ 65535
    → new ≡ now ++ view ∷ [] → next ≡ count + 1
    → AreFirstViews texts built next code_end data_end new
view_added texts built count next code next_data code_end data_end now new view so_far here
    code_is data_is code_small data_small is counted =
    let after : next ≡ suc count = omega (arith, counted) in
    rw (is, after) (record {
      text_of_each = mapped text_of now view texts count so_far.text_of_each here.text;
      typed_of_each =
          mapped typed_of now view (program_modules built.program) count so_far.typed_of_each here.typed;
      object_of_each = mapped object_of now view built.objects count so_far.object_of_each here.object;
      placed_of_each =
          mapped placed_of now view built.placement.modules count so_far.placed_of_each here.placed;
      follow = follow_more built.plan.code built.plan.data_base now view code next_data code_end data_end
          so_far.follow here.code here.data_at code_is data_is;
      code_within = within code (code_size view) code_end so_far.code_within code_small code_is;
      data_within = within next_data (data_size view) data_end so_far.data_within data_small data_is;
    })
  where
    within : (from size end : ℕ) → from ≤ 65535 * suc count → size ≤ 65535 → end ≡ from + size
        → end ≤ 65535 * suc (suc count)
    within from size end low small e = omega (arith, low, small, e)

-- all modules
pub all_views : (sources : List Source) (built : Construction) (count code next_data : ℕ)
    (views : List ModuleView) → AreFirstViews (texts_of sources) built count code next_data views
    → IsConstruction built
    → length sources ≡ count → count ≡ length built.objects → AreViews (texts_of sources) built views
all_views sources built count code next_data views are construction given counted =
    let texts : length (texts_of sources) ≤ count =
    omega (arith, length-map sources (λ (source : Source). source.text.now), given) in
    let modules : length (program_modules built.program) ≤ count =
    omega (arith, construction.objects, counted) in
    let objects : length built.objects ≤ count = omega (arith, counted) in
    let placed : length built.placement.modules ≤ count =
    omega (arith, construction.lawful.for_each_module, construction.objects, counted) in
    record {
      code_end = code;
      data_end = next_data;
      text_of_each = are.text_of_each ∙ take_all count (texts_of sources) texts;
      typed_of_each = are.typed_of_each ∙ take_all count (program_modules built.program) modules;
      object_of_each = are.object_of_each ∙ take_all count built.objects objects;
      placed_of_each = are.placed_of_each ∙ take_all count built.placement.modules placed;
      follow = are.follow;
    }

-- the sources of a program
are_sources : (texts : List (List ℕ)) (modules : List TypedModule) → AreSourcesOf texts modules
    → AllByRecursion IsSource texts
are_sources [] [] are = tt
are_sources [] (typed ∷ modules) are = absurd are
are_sources (text ∷ texts) [] are = absurd are
are_sources (text ∷ texts) (typed ∷ modules) are =
    (record { typed = typed; source = are.0 }, are_sources texts modules are.1)

pub program_sources : (texts : List (List ℕ)) (modules : List TypedModule) → IsProgramOf texts modules
    → All IsSource texts
program_sources texts modules program =
    All-from_recursion IsSource texts (are_sources texts modules program.sources)

pub source_at : (sources : List Source) (index : ℕ) (d : Source) → All IsSource (texts_of sources)
    → index < length sources
    → IsSource (get_or sources index d).text.now
source_at sources index d each below =
    subst IsSource (get_or-map (λ (source : Source). source.text.now) sources index d [] below)
    (each index [] (simp length-map below))

pub source_there : (sources : List Source) (number : ℕ) (source : Source) → All IsSource (texts_of sources)
    → slice_get sources number ≡ Some source → IsSource source.text.now
source_there sources number source each found =
    subst (λ (s : Source). IsSource s.text.now) (get_or_from_slice_get sources number source source found)
    (source_at sources number source each (slice_get_within sources number source found))

-- there are as many as the program has modules, and object modules
pub same_count : (texts : List (List ℕ)) (modules : List TypedModule) → AreSourcesOf texts modules
    → length texts ≡ length modules
same_count [] [] are = refl
same_count [] (typed ∷ modules) are = absurd are
same_count (text ∷ texts) [] are = absurd are
same_count (text ∷ texts) (typed ∷ modules) are = ap suc (same_count texts modules are.1)

pub as_many : (sources : List Source) (built : Construction)
    → IsProgramOf (texts_of sources) (program_modules built.program) → IsConstruction built
    → length sources ≡ length built.objects
as_many sources built program construction =
    sym (length-map sources (λ (s : Source). s.text.now))
    ∙ same_count (texts_of sources) (program_modules built.program) program.sources
    ∙ sym construction.objects

-- what lists have at a number, where they are views of the items of others
viewed_at : {A B : Type 0} (f : A → B) (list : List A) (all : List B) (number : ℕ) (one : A)
    → map f list ≡ all → number < length all → one ≡ get_or list number one → slice_get all number ≡ Some (f one)
viewed_at f list all number one same below is =
    let within : number < length list = omega (arith, length-map list f, ap length same, below) in
    ap (λ (items : List _). slice_get items number) (sym same) ∙ slice_get-map f list number
    ∙ ap (option_map f) (slice_get_read list (length list) number one refl within is)

pub text_at : (sources : List Source) (number : ℕ) (d : Source) → number < length sources
    → slice_get (texts_of sources) number ≡ Some (get_or sources number d).text.now
text_at sources number d below =
    slice_get-map (λ (source : Source). source.text.now) sources number
    ∙ ap (option_map (λ (source : Source). source.text.now)) (slice_get-get_or sources number d below)

pub module_at : (built : Construction) (list : List Typed) (number : ℕ) (one : Typed) → IsConstruction built
    → map module_view list ≡ program_modules built.program → number < length built.objects
    → one ≡ get_or list number one → slice_get (program_modules built.program) number ≡ Some (module_view one)
module_at built list number one construction same below is =
    viewed_at module_view list (program_modules built.program) number one same
    (omega (arith, below, construction.objects)) is

pub object_at : (built : Construction) (list : List ObjectModule) (number : ℕ) (one : ObjectModule)
    → list ≡ built.objects → number < length built.objects → one ≡ get_or list number one
    → slice_get built.objects number ≡ Some one
object_at built list number one same below is =
    let within : number < length list = omega (arith, below, ap length same) in
    ap (λ (items : List ObjectModule). slice_get items number) (sym same)
    ∙ slice_get_read list (length list) number one refl within is

pub placed_at : (built : Construction) (list : List CodePlacement) (number : ℕ) (one : CodePlacement)
    → IsConstruction built → map module_placement_view list ≡ built.placement.modules
    → number < length built.objects → one ≡ get_or list number one
    → slice_get built.placement.modules number ≡ Some (module_placement_view one)
placed_at built list number one construction same below is =
    viewed_at module_placement_view list built.placement.modules number one same
    (omega (arith, below, construction.objects, construction.lawful.for_each_module)) is
