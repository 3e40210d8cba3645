-- The object module of a module is an object of it: its data segment holds the variables, neither segment
-- asks for a page, no high byte is fixed alone, and it asks for no stack.
use Rattle.program_laws.proofs.Prelude.{◌≡◌, ℕ, ◌+◌, List, [], ◌∷◌, length, replicate, Option, Some, None, option_map, sym, ap, subst, ◌∙◌, arith, length-append, length-replicate, none-some, same_Some, Target, InSegment, External, IsObjectModule, ObjectModule, ObjectPlaces, NoHighs, assembled_highs, no_high_targets, TypedModule, SegmentByte, Storage, Item, AtTarget, Assembled, size_of_items, Content, ExternalName, TreeModule, IsLowered, entry, high, low, Written, in_front, numbered, IsGenerated, IsSegmentOf, contents_items, places_of_contents, IsLaidOut, data_length_is, IsObjectOf}
use Rattle.object_modules.specs.declared.segment.Segment.TheVariants as object_segments
use Rattle.asm8080.specs.declared.item.Item.TheVariants as items
use Rattle.treecode.specs.declared.module.Content.TheVariants as contents
use Rattle.treecode.specs.declared.place.Place.TheVariants as places
use Rattle.program_laws.proofs.Contents.{in_front_of}
use Rattle.program_laws.proofs.Placed.{places_length}
use Rattle.program_laws.proofs.Segments.{data_keep}

-- Contents take as many bytes as items as they have places.
contents_size :
    (written : Written) (names : List ExternalName) (list : List Content) (made : List Item)
    → numbered written (contents_items list) ≡ Some made
    → size_of_items made ≡ length (places_of_contents names list)
contents_size written names [] made same = ap size_of_items (sym (same_Some [] made same))
contents_size written names (contents.Byte value ∷ others) made same =
    in_front_of (items.Byte value) (numbered written (contents_items others)) made
    (λ made. size_of_items made ≡ length (places_of_contents names (contents.Byte value ∷ others))) same
    (λ rest is. let later = contents_size written names others rest is in omega (arith, later))
contents_size written names (contents.Gap count ∷ others) made same =
    in_front_of (items.Gap count) (numbered written (contents_items others)) made
    (λ made. size_of_items made ≡ length (places_of_contents names (contents.Gap count ∷ others))) same
    (λ rest is.
    ap (λ n. count + n) (contents_size written names others rest is)
    ∙ ap (λ n. n + length (places_of_contents names others))
    (sym (length-replicate {A = Option SegmentByte} count None))
    ∙ sym (length-append (replicate count None) (places_of_contents names others)))
contents_size written names (contents.Word (places.Number number) ∷ others) made same =
    in_front_of (items.Byte (low number))
    (in_front (Some (items.Byte (high number))) (numbered written (contents_items others))) made
    (λ made.
    size_of_items made ≡ length (places_of_contents names (contents.Word (places.Number number) ∷ others)))
    same
    (λ rest is.
    in_front_of (items.Byte (high number)) (numbered written (contents_items others)) rest
    (λ rest.
    size_of_items (items.Byte (low number) ∷ rest)
    ≡ length (places_of_contents names (contents.Word (places.Number number) ∷ others))) is
    (λ last are. let later = contents_size written names others last are in omega (arith, later)))
contents_size written names (contents.Word (places.Code offset) ∷ others) made same =
    in_front_of (items.Address (AtTarget (InSegment object_segments.Code) offset))
    (numbered written (contents_items others)) made
    (λ made. size_of_items made ≡ length
    (places_of_contents names (contents.Word (places.Code offset) ∷ others))) same
    (λ rest is. let later = contents_size written names others rest is in omega (arith, later))
contents_size written names (contents.Word (places.Data offset) ∷ others) made same =
    in_front_of (items.Address (AtTarget (InSegment object_segments.Data) offset))
    (numbered written (contents_items others)) made
    (λ made. size_of_items made ≡ length
    (places_of_contents names (contents.Word (places.Data offset) ∷ others))) same
    (λ rest is. let later = contents_size written names others rest is in omega (arith, later))
contents_size written names (contents.Word (places.External offset index) ∷ others) made same =
    by (entry written.externals index) same (λ rest is. contents_size written names others rest is)
  where
    by : (number : Option ℕ)
        → in_front
        (option_map items.Address (option_map (λ number. AtTarget (External number) offset) number))
        (numbered written (contents_items others))
        ≡ Some made
        → ((rest : List Item)
        → numbered written (contents_items others) ≡ Some rest
        → size_of_items rest ≡ length (places_of_contents names others))
        → size_of_items made
        ≡ length (places_of_contents names (contents.Word (places.External offset index) ∷ others))
    by None is later = absurd (none-some made is)
    by (Some number) is later =
        in_front_of (items.Address (AtTarget (External number) offset))
        (numbered written (contents_items others)) made
        (λ made.
        size_of_items made
        ≡ length (places_of_contents names (contents.Word (places.External offset index) ∷ others)))
        is (λ rest are. let rest_is = later rest are in omega (arith, rest_is))

-- no high byte is fixed alone in a segment
no_highs :
    (written : Written) (bytes : Assembled) (to : Target → Target) (segment : ObjectPlaces)
    → IsSegmentOf written bytes to segment
    → NoHighs segment.places
no_highs written bytes to segment is =
    subst NoHighs (sym is.same) (assembled_highs to written.code bytes is.assembles)

-- The object module of a module is an object of it.
pub is_object_of :
    (typed : TypedModule) (storage : Storage) (tree : TreeModule) (object : ObjectModule)
    → IsLaidOut typed storage
    → IsLowered typed storage tree
    → IsObjectModule object
    → IsGenerated tree object
    → IsObjectOf typed object
is_object_of typed storage tree object laid lowered valid is = record {
  code_alignment = is.code_segment.alignment;
  data_alignment = is.data_segment.alignment;
  data_size =
      places_length is.variables is.variable_bytes is.to object.data_places is.data_segment
      ∙ is.data_segment.assembles.size
      ∙ contents_size is.variables tree.externals.items tree.variables.items
      is.variables.code.items is.variables_are
      ∙ data_length_is typed storage tree laid
      (data_keep typed storage tree object laid lowered valid is) lowered;
  highs =
      no_high_targets object (no_highs is.code is.code_bytes is.to object.code is.code_segment)
      (no_highs is.variables is.variable_bytes is.to object.data_places is.data_segment);
  stack = is.stack;
}
