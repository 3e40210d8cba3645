-- The parts that are put together of a walk are those of the module that it tells.
use Rattle.objmod.proofs.Prelude.{◌≡◌, ℕ, true, List, ◌++◌, filter, map, ap, sym, subst, ◌∙◌, list_all, and_parts, list_all-append, ModuleParts, Alignment, Segment, Code, Data, is_name, ObjectModule, IsObjectModule, Public, FixedContent, StoredSegment, IsStored, places_stored, AreKept, module_of_parts, Walking, module_by, places_by, ContentsFit, SegmentFits, is_in, kept_in, kept_segment, nothing_opened, put_together, runs_kept}
use Rattle.objmod.specs.internal.Told.{IsPutTogether}
use Rattle.objmod.proofs.Kept.{kept_places}
use Rattle.objmod.proofs.KeptStored.{kept_stored}
use Rattle.objmod.proofs.Opened.{fixes_put_together, runs_put_together}

both_all :
    (xs ys : List (List ℕ)) → list_all is_name (xs ++ ys) ≡ true
    → (list_all is_name xs ≡ true) × (list_all is_name ys ≡ true)
both_all xs ys h =
    and_parts (list_all is_name xs) (list_all is_name ys) (sym (list_all-append is_name xs ys) ∙ h)

put_together_is :
    (size : ℕ) (alignment : Alignment) (segment : Segment) (contents : List FixedContent)
    → put_together size alignment segment contents ≡ kept_segment size alignment segment contents
put_together_is size alignment segment contents =
    ap (λ runs. record {
      size = size;
      alignment = alignment;
      runs = runs;
      fixes = (kept_in segment nothing_opened contents).fixes;
    })
    (runs_put_together segment contents)
    ∙ ap (λ fixes. record {
      size = size;
      alignment = alignment;
      runs = runs_kept (filter (is_in segment) contents);
      fixes = fixes;
    })
    (fixes_put_together segment contents)

segment_kept :
    (size : ℕ) (alignment : Alignment) (segment : Segment) (contents : List FixedContent)
    (stored : StoredSegment)
    → SegmentFits size segment contents → stored ≡ put_together size alignment segment contents
    → IsStored segment stored
segment_kept size alignment segment contents stored fits is =
    subst (IsStored segment) (sym (is ∙ put_together_is size alignment segment contents))
    (kept_stored size alignment segment contents fits.placed fits.fit)

segment_places :
    (size : ℕ) (alignment : Alignment) (segment : Segment) (contents : List FixedContent)
    (stored : StoredSegment)
    → SegmentFits size segment contents → stored ≡ put_together size alignment segment contents
    → places_stored segment stored ≡ places_by contents segment alignment size
segment_places size alignment segment contents stored fits is =
    ap (places_stored segment) (is ∙ put_together_is size alignment segment contents)
    ∙ sym (kept_places size alignment segment contents fits.placed)

is_told :
    (walking : Walking) (parts : ModuleParts) → ContentsFit walking → IsPutTogether walking parts
    → module_of_parts parts ≡ module_by walking
unfolding module_by
is_told walking parts fits is =
    let code =
    segment_places walking.code_length walking.code_alignment Code walking.contents parts.code
    fits.code is.code in
    let data_places =
    segment_places walking.data_length walking.data_alignment Data walking.contents parts.data_bytes
    fits.data_bytes is.data_bytes in
    let own : ObjectModule = module_of_parts parts in
    ap (λ name. record own { name = name }) is.name
    ∙ ap (λ code. record own { name = walking.name; code = code }) code
    ∙ ap (λ places. record own {
      name = walking.name;
      code = places_by walking.contents Code walking.code_alignment walking.code_length;
      data_places = places;
    }) data_places
    ∙ ap (λ size. record own {
      name = walking.name;
      code = places_by walking.contents Code walking.code_alignment walking.code_length;
      data_places = places_by walking.contents Data walking.data_alignment walking.data_length;
      stack_length = size;
    }) is.stack
    ∙ ap (λ publics. record own {
      name = walking.name;
      code = places_by walking.contents Code walking.code_alignment walking.code_length;
      data_places = places_by walking.contents Data walking.data_alignment walking.data_length;
      stack_length = walking.stack_length;
      publics = publics;
    }) is.publics
    ∙ ap (λ externals. record own {
      name = walking.name;
      code = places_by walking.contents Code walking.code_alignment walking.code_length;
      data_places = places_by walking.contents Data walking.data_alignment walking.data_length;
      stack_length = walking.stack_length;
      publics = walking.publics;
      externals = externals;
    }) is.externals
    ∙ ap (λ start. record own {
      name = walking.name;
      code = places_by walking.contents Code walking.code_alignment walking.code_length;
      data_places = places_by walking.contents Data walking.data_alignment walking.data_length;
      stack_length = walking.stack_length;
      publics = walking.publics;
      externals = walking.externals;
      start = start;
    }) is.start

pub are_kept :
    (walking : Walking) (parts : ModuleParts) → IsObjectModule (module_by walking) → ContentsFit walking
    → IsPutTogether walking parts → AreKept parts
are_kept walking parts object fits is = record {
  code =
      segment_kept walking.code_length walking.code_alignment Code walking.contents
      parts.code fits.code is.code;
  data_places =
      segment_kept walking.data_length walking.data_alignment Data walking.contents parts.data_bytes
      fits.data_bytes is.data_bytes;
  object = subst IsObjectModule (sym (is_told walking parts fits is)) object;
}

pub module_told :
    (walking : Walking) (parts : ModuleParts) (object : ObjectModule) → ContentsFit walking
    → IsPutTogether walking parts → object ≡ module_of_parts parts → object ≡ module_by walking
module_told walking parts object fits is made = made ∙ is_told walking parts fits is

-- the names of a module that is valid
pub name_told :
    (walking : Walking) → IsObjectModule (module_by walking) → is_name walking.name ≡ true
unfolding module_by
name_told walking object = object.name

pub externals_told :
    (walking : Walking) → IsObjectModule (module_by walking) → list_all is_name walking.externals ≡ true
unfolding module_by
externals_told walking object =
    (both_all walking.externals (map (λ (public : Public). public.name) walking.publics) object.names).0

pub publics_told :
    (walking : Walking) → IsObjectModule (module_by walking)
    → list_all is_name (map (λ (public : Public). public.name) walking.publics) ≡ true
unfolding module_by
publics_told walking object =
    (both_all walking.externals (map (λ (public : Public). public.name) walking.publics) object.names).1
