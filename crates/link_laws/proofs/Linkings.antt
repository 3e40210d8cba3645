-- What a linker answers, by what each of its steps gave.
use Rattle.link_laws.proofs.Prelude.{◌≡◌, ℕ, Bool, true, false, not, ◌==◌, List, [], ◌∷◌, All, length, map, slice_get, sum_by, Option, None, Some, option_map, Result, Ok, Err, refl, ap, sym, subst, ◌∙◌, list_any, option_map_or, ModuleParts, OwnedPublic, Code, Data, Linked, linked_modules, all_publics, LinkRefusal, UnresolvedExternal, SegmentTooLong, NotOneMain, HighByteMoves, main_modules, joined, public_names, some_segment_is_too_long, some_high_byte_moves, unless_refused, link_refusal, merge_of, Public, ObjectModule, IsObjectModule, AreKept, module_of_parts, owned_public_view, AreMerged, parts_merged, merged_kept, names_from, AreJoined, stored_joined, externals_of, gathered, missing_in, name_of}
use Rattle.failure.specs.{Failure.{IfFault}, declared.Failure.{Failure, TheVariants.{Fault, Memory}}}
use Rattle.object_laws.proofs.Files.Accepted.{public_name}
use Rattle.link_laws.proofs.NameLoops.{views_named}
use Rattle.link_laws.proofs.Refusals.{all_gathered, refused_duplicate, refused_unresolved, refused_long, refused_mains, refused_high, allowed}
use Rattle.link_laws.proofs.SegmentsMerged.{code_merged, data_merged}

-- a refusal is what the merge is refused for
pub is_refused :
    (objects : List ObjectModule) (refusal : LinkRefusal) → link_refusal objects ≡ Some refusal
    → merge_of objects ≡ Err refusal
unfolding merge_of
is_refused objects refusal h = ap (unless_refused (joined objects (linked_modules objects))) h

-- names that were gathered are those of the publics of the merge
pub names_same :
    (objects : List ObjectModule) (names : List (List ℕ)) (publics : List OwnedPublic)
    → gathered [] (public_names objects) ≡ Ok names
    → map owned_public_view publics ≡ all_publics (linked_modules objects) → names ≡ map name_of publics
names_same objects names publics known views =
    (all_gathered (public_names objects) names known).all_is
    ∙ sym (names_from 0 0 objects)
    ∙ ap (map public_name) (sym views)
    ∙ sym (views_named publics)

-- where there is no first main module, there is not one
no_first :
    (mains : List (List ℕ × ℕ)) → None ≡ slice_get mains 0 → not (length mains == 1) ≡ true
no_first [] h = refl
no_first (main ∷ others) h = absurd (let bad : None ≡ Some main = h in cc)

pub no_main :
    (objects : List ObjectModule) → None ≡ slice_get (main_modules (linked_modules objects)) 0
    → not (length (main_modules (linked_modules objects)) == 1) ≡ true
no_main objects h = no_first (main_modules (linked_modules objects)) h

-- parts that are joined are those of the merge
pub joined_merged :
    (objects : List ObjectModule) (publics : List Public) (linked : List Linked)
    (stack : ℕ) (main : List ℕ × ℕ)
    (parts : ModuleParts)
    → AreJoined publics linked stack main parts → linked ≡ linked_modules objects
    → publics ≡ all_publics (linked_modules objects)
    → stack ≡ sum_by (λ (object : ObjectModule). object.stack_length) objects
    → Some main ≡ slice_get (main_modules (linked_modules objects)) 0 → All IsObjectModule objects
    → AreMerged objects parts
joined_merged objects publics linked stack main parts made these named deep first valid = record {
  name =
      made.name ∙ ap (λ (m : Option (List ℕ × ℕ)). option_map_or (λ (main : List ℕ × ℕ). main.0) m []) first;
  code =
      made.code ∙ ap (λ p. stored_joined p Code linked) named
      ∙ ap (stored_joined (all_publics (linked_modules objects)) Code) these ∙ code_merged objects valid;
  data_bytes =
      made.data_bytes ∙ ap (λ p. stored_joined p Data linked) named
      ∙ ap (stored_joined (all_publics (linked_modules objects)) Data) these ∙ data_merged objects valid;
  stack_length = made.stack_length ∙ deep;
  publics = made.publics ∙ named;
  externals = made.externals;
  start = made.start ∙ ap (λ (m : Option (List ℕ × ℕ)). option_map (λ (main : List ℕ × ℕ). main.1) m) first;
}

-- The answers in their order.
pub by_names :
    (objects : List ObjectModule) (refusal : LinkRefusal) → gathered [] (public_names objects) ≡ Err refusal
    → merge_of objects ≡ Err refusal
by_names objects refusal h = is_refused objects refusal (refused_duplicate objects refusal h)

module _ (objects : List ObjectModule) (names : List (List ℕ))
    (known : gathered [] (public_names objects) ≡ Ok names) where
  pub by_externals :
      (name : List ℕ) → Some name ≡ missing_in names (externals_of objects)
      → merge_of objects ≡ Err (UnresolvedExternal name)
  by_externals name h =
      is_refused objects (UnresolvedExternal name) (refused_unresolved objects names known name h)

  module _ (resolved : None ≡ missing_in names (externals_of objects)) where
    pub by_lengths :
        (refusal : LinkRefusal) → refusal ≡ SegmentTooLong
        → some_segment_is_too_long objects (linked_modules objects) ≡ true → merge_of objects ≡ Err refusal
    by_lengths refusal is long =
        is_refused objects SegmentTooLong (refused_long objects names known resolved long) ∙ ap Err (sym is)

    module _ (fits : some_segment_is_too_long objects (linked_modules objects) ≡ false) where
      pub by_mains :
          (length (main_modules (linked_modules objects)) == 1) ≡ false → merge_of objects ≡ Err NotOneMain
      by_mains none =
          is_refused objects NotOneMain (refused_mains objects names known resolved fits (ap not none))

      pub by_no_main :
          None ≡ slice_get (main_modules (linked_modules objects)) 0 → merge_of objects ≡ Err NotOneMain
      by_no_main none =
          is_refused objects NotOneMain
          (refused_mains objects names known resolved fits (no_main objects none))

      module _ (main : (length (main_modules (linked_modules objects)) == 1) ≡ true) where
        single : not (length (main_modules (linked_modules objects)) == 1) ≡ false
        single = ap not main

        module _ (publics : List Public) (linked : List Linked) (high : Bool)
            (these : linked ≡ linked_modules objects) (named : publics ≡ all_publics (linked_modules objects))
            (is_high : high ≡ list_any (some_high_byte_moves publics) linked) where
          same_high :
              list_any (some_high_byte_moves (all_publics (linked_modules objects))) (linked_modules objects)
              ≡ high
          same_high =
              sym (is_high ∙ ap (λ p. list_any (some_high_byte_moves p) linked) named
              ∙ ap (list_any (some_high_byte_moves (all_publics (linked_modules objects)))) these)

          pub by_highs : high ≡ true → merge_of objects ≡ Err HighByteMoves
          by_highs moves =
              is_refused objects HighByteMoves
              (refused_high objects names known resolved fits single (same_high ∙ moves))

          pub none_refused : high ≡ false → link_refusal objects ≡ None
          none_refused stays = allowed objects names known resolved fits single (same_high ∙ stays)

pub made_kept :
    (objects : List ObjectModule) (parts : ModuleParts) → link_refusal objects ≡ None
    → AreMerged objects parts
    → All IsObjectModule objects → AreKept parts
made_kept objects parts free made valid = merged_kept objects parts valid free made

pub made_merged :
    (objects : List ObjectModule) (parts : ModuleParts) (object : ObjectModule) → link_refusal objects ≡ None
    → AreMerged objects parts → object ≡ module_of_parts parts → merge_of objects ≡ Ok object
made_merged objects parts object free made is = parts_merged objects parts free made ∙ ap Ok (sym is)

-- a fault that a call hands on
pub handed_on :
    {A B F : Type 0} (result : Result A (Failure F)) (given : Result B (Failure F)) (failure : Failure F)
    (P R Q : F → Type 0)
    → result ≡ Err failure → given ≡ Err failure → ((fault : F) → P fault → R fault → Q fault)
    → IfFault given P → IfFault given R → IfFault result Q
handed_on {A} {B} {F} result given failure P R Q is was more h k =
    subst (λ r. IfFault r Q) (sym is)
    (go failure (subst (λ g. IfFault g P) was h) (subst (λ g. IfFault g R) was k))
  where
    go : (f : Failure F) → IfFault {A = B} (Err f) P → IfFault {A = B} (Err f) R → IfFault {A = A} (Err f) Q
    go (Fault fault) p r = more fault p r
    go Memory p r = tt
