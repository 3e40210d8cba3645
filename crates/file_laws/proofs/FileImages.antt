-- Files that were written of modules are linked, read and placed as the modules are.
use Rattle.file_laws.proofs.Prelude.{◌≡◌, ℕ, List, [], ◌∷◌, ◌++◌, map, All, Option, Some, None, Result, Ok, Err, refl, ap, sym, subst, ◌∙◌, IsPermutation, Appends, AllByRecursion, AllZip, IsPermutation-sym, IsPermutation-map, Fault, Plan, Image, image_at, symbol_at, placed, placement_refusal, image_of, LinkRefusal, link_number, joined, unless_refused, link_refusal, merge_of, linked_modules, ObjectModule, IsObjectModule, Spells, text_of, with_publics_in_order, AreLongestRuns, text_spells, written_read, written_not_refused, unless_ok, by_recursion, merge_is_object, Absolute, IsPlaced}
use Rattle.failure.specs.Writing.{AppendsBeginning}
use Rattle.link.specs.Streams.{Merges, IsFirstFaulty, IsRefused}
use Rattle.file_laws.specs.FileImages.{files_of, LinkTo, IsSameImage, PlacesAs, FilesGiveTheImage, FilesAreRefused, FilesAreNotPlaced}
use Rattle.file_laws.proofs.PublicsInOrder.{in_order, text_in_order, ordered_permutes}
use Rattle.file_laws.proofs.Merges.{number_of, refused_again, merged_again, unless_err, refusal_is}
use Rattle.file_laws.proofs.Runs.{one_image}

-- What the files spell.
each_spelled :
    (objects : List ObjectModule) → AllByRecursion IsObjectModule objects
    → AllZip Spells (files_of objects) (map with_publics_in_order objects)
each_spelled [] all = tt
each_spelled (object ∷ others) all = (text_spells object all.0, each_spelled others all.1)

no_others :
    (objects read : List ObjectModule) → AllByRecursion IsObjectModule objects
    → AllZip Spells (files_of objects) read → read ≡ map with_publics_in_order objects
no_others [] [] all spelled = refl
no_others [] (first ∷ more) all spelled = absurd spelled
no_others (object ∷ others) [] all spelled = absurd spelled
no_others (object ∷ others) (first ∷ more) all spelled =
    ap (λ one. one ∷ more) (written_read (text_of object) first object spelled.0 all.0 refl)
    ∙ ap (λ rest. with_publics_in_order object ∷ rest) (no_others others more all.1 spelled.1)

-- No file has a fault.
record SpellsOne (file : List ℕ) : Type 0 where
  object : ObjectModule
  spelled : Spells file object

all_spell :
    (objects : List ObjectModule) → AllByRecursion IsObjectModule objects
    → AllByRecursion SpellsOne (files_of objects)
all_spell [] all = tt
all_spell (object ∷ others) all =
    (record { object = with_publics_in_order object; spelled = text_spells object all.0 }, all_spell others all.1)

one_of_all :
    (before : List (List ℕ)) (file : List ℕ) (after : List (List ℕ))
    → AllByRecursion SpellsOne (before ++ file ∷ after) → SpellsOne file
one_of_all [] file after all = all.0
one_of_all (first ∷ before) file after all = one_of_all before file after all.1

none_faulty :
    (objects : List ObjectModule) → All IsObjectModule objects → (file : ℕ) (fault : Fault)
    → IsFirstFaulty (files_of objects) file fault → ⊥
none_faulty objects valid file fault faulty =
    let one = one_of_all faulty.before faulty.bytes faulty.after
    (subst (AllByRecursion SpellsOne) faulty.split
    (all_spell objects (by_recursion IsObjectModule objects valid))) in
    faulty.none one.object one.spelled

-- What the commands say of the merge.
merge_read :
    (objects : List ObjectModule) (linked : ObjectModule) → All IsObjectModule objects
    → Merges (files_of objects) linked → merge_of (map with_publics_in_order objects) ≡ Ok linked
merge_read objects linked valid merges =
    ap merge_of
    (sym (no_others objects merges.objects (by_recursion IsObjectModule objects valid) merges.spelled))
    ∙ merges.merged

refusal_read :
    (objects : List ObjectModule) (refusal : LinkRefusal) → All IsObjectModule objects
    → IsRefused (files_of objects) refusal → merge_of (map with_publics_in_order objects) ≡ Err refusal
refusal_read objects refusal valid is =
    ap merge_of (sym (no_others objects is.objects (by_recursion IsObjectModule objects valid) is.spelled))
    ∙ is.refused

not_both :
    {A R : Type 0} (result : Result A R) (value : A) (refusal : R) → result ≡ Ok value
    → result ≡ Err refusal → ⊥
not_both {A} {R} result value refusal ok err =
    let bad : ◌≡◌ {A = Result A R} (Ok value) (Err refusal) = sym ok ∙ err in
    cc

one_value :
    {A R : Type 0} (result : Result A R) (left right : A) → result ≡ Ok left
    → result ≡ Ok right → left ≡ right
one_value {A} {R} result left right one other = ap given (sym one ∙ other)
  where
    given : Result A R → A
    given (Ok value) = value
    given (Err refusal) = left

-- The file that is written for the merge.
text_again :
    (objects : List ObjectModule) (merged : ObjectModule) → All IsObjectModule objects
    → merge_of objects ≡ Ok merged
    → (linked : ObjectModule) → merge_of (map with_publics_in_order objects) ≡ Ok linked
    → text_of linked ≡ text_of merged
text_again objects merged valid made linked linking =
    let merge = merged_again objects merged valid made in
    ap text_of
    (one_value (merge_of (map with_publics_in_order objects)) linked merge.again linking merge.merge)
    ∙ sym (text_in_order merge.again) ∙ ap text_of merge.same ∙ text_in_order merged

link_to :
    (objects : List ObjectModule) (merged : ObjectModule) → All IsObjectModule objects
    → merge_of objects ≡ Ok merged
    → LinkTo (files_of objects) (text_of merged)
link_to objects merged valid made =
    let merge = merged_again objects merged valid made in
    let all = by_recursion IsObjectModule objects valid in
    let same : (object : ObjectModule) → Merges (files_of objects) object → text_of object ≡ text_of merged =
    λ object merges. text_again objects merged valid made object (merge_read objects object valid merges) in
    record {
      linked = merge.again;
      merges = record {
        objects = map with_publics_in_order objects;
        spelled = each_spelled objects all;
        merged = merge.merge;
      };
      same = same;
      written =
          λ old new writes.
          subst (λ text. Appends old new text) (same writes.object writes.merges) writes.written;
      begun =
          λ old new begins.
          subst (λ text. AppendsBeginning old new text) (same begins.object begins.merges) begins.written;
      no_fault = none_faulty objects valid;
      no_refusal =
          λ refusal refused.
          not_both (merge_of (map with_publics_in_order objects)) merge.again refusal merge.merge
          (refusal_read objects refusal valid refused);
    }

-- Placing does not hang on the order of publics.
same_refusal :
    (plan : Plan) (object : ObjectModule)
    → placement_refusal plan (with_publics_in_order object) ≡ placement_refusal plan object
unfolding placement_refusal
same_refusal plan object = refl

same_bytes :
    (plan : Plan) (object : ObjectModule)
    → image_at plan (with_publics_in_order object) ≡ image_at plan object
unfolding image_at
same_bytes plan object = refl

-- what is placed, by its module
record IsPlacedSo (plan : Plan) (object : ObjectModule) (absolute : Absolute) : Type 0 where
  allowed : placement_refusal plan object ≡ None
  pieces : AreLongestRuns absolute.pieces (image_at plan object)
  start : absolute.start ≡ (placed plan object).start
  symbols : absolute.symbols ≡ map (symbol_at plan) object.publics

placed_so :
    (plan : Plan) (object : ObjectModule) (absolute : Absolute) → IsPlaced plan object absolute
    → IsPlacedSo plan object absolute
placed_so plan object absolute is =
    let ok = unless_ok (placed plan object) (placement_refusal plan object) is.image is.found in
    record {
      allowed = ok.1;
      pieces = subst (λ (image : Image). AreLongestRuns absolute.pieces image.byte_at) (sym ok.0) is.pieces;
      start = is.start ∙ sym (ap (λ (image : Image). image.start) ok.0);
      symbols = is.symbols ∙ sym (ap (λ (image : Image). image.symbols) ok.0);
    }

-- what is read of the text of a valid module
read_again :
    (merged object : ObjectModule) → IsObjectModule merged → Spells (text_of merged) object
    → object ≡ with_publics_in_order merged
read_again merged object valid spelled = written_read (text_of merged) object merged spelled valid refl

same_image :
    (plan : Plan) (merged object : ObjectModule) (image other : Absolute) → IsObjectModule merged
    → object ≡ with_publics_in_order merged → IsPlaced plan merged image → IsPlaced plan object other
    → IsSameImage other image
same_image plan merged object image other valid is here there =
    let left = placed_so plan object other there in
    let right = placed_so plan merged image here in
    let bytes : image_at plan object ≡ image_at plan merged =
    ap (image_at plan) is ∙ same_bytes plan merged in
    let symbols : other.symbols ≡ map (symbol_at plan) (in_order merged.publics) =
    left.symbols ∙ ap (λ (one : ObjectModule). map (symbol_at plan) one.publics) is in
    let moved : IsPermutation (map (symbol_at plan) (in_order merged.publics))
    (map (symbol_at plan) merged.publics) =
    IsPermutation-map (symbol_at plan) (in_order merged.publics) merged.publics
    (IsPermutation-sym merged.publics (in_order merged.publics)
    (ordered_permutes merged.publics valid.publics)) in
    record {
      pieces =
          one_image other.pieces image.pieces (image_at plan merged)
          (subst (AreLongestRuns other.pieces) bytes left.pieces) right.pieces;
      start = left.start ∙ ap (λ one. (placed plan one).start) is ∙ sym right.start;
      symbols =
          subst (λ these. IsPermutation these image.symbols) (sym symbols)
          (subst (λ these. IsPermutation (map (symbol_at plan) (in_order merged.publics)) these)
          (sym right.symbols) moved);
    }

places_as :
    (merged : ObjectModule) (plan : Plan) (image : Absolute) → IsObjectModule merged
    → IsPlaced plan merged image
    → PlacesAs plan (text_of merged) image
places_as merged plan image valid is =
    let read : ObjectModule = with_publics_in_order merged in
    let so = placed_so plan merged image is in
    let allowed : placement_refusal plan read ≡ None = same_refusal plan merged ∙ so.allowed in
    record {
      read = read;
      spelled = text_spells merged valid;
      placed = record {
        pieces = image.pieces;
        start = image.start;
        symbols = map (symbol_at plan) read.publics;
      };
      is_placed = record {
        image = placed plan read;
        found = ap (unless_refused (placed plan read)) allowed;
        pieces = subst (AreLongestRuns image.pieces) (sym (same_bytes plan merged)) so.pieces;
        start = so.start;
        symbols = refl;
      };
      same =
          λ object other spelled there.
          same_image plan merged object image other valid (read_again merged object valid spelled) is there;
      no_fault = λ fault has. written_not_refused (text_of merged) fault merged has valid refl;
      no_refusal =
          λ object refusal spelled refused.
          not_both (image_of plan object) (placed plan object) refusal
          (ap (unless_refused (placed plan object))
          (ap (placement_refusal plan) (read_again merged object valid spelled) ∙ allowed)) refused;
    }

-- Files that were written of modules give the image of the modules' merge.
pub files_give_the_image : FilesGiveTheImage
files_give_the_image objects merged plan image valid made is = (
  link_to objects merged valid made,
  places_as merged plan image (merge_is_object objects merged valid made) is,
)

-- Refusals.
record IsNumbered (refusal : Option LinkRefusal) (number : List ℕ) : Type 0 where
  one : LinkRefusal
  found : refusal ≡ Some one
  numbered : link_number one ≡ number

numbered :
    (refusal : Option LinkRefusal) (number : List ℕ) → number_of refusal ≡ Some number
    → IsNumbered refusal number
numbered None number h = absurd (let bad : None ≡ Some number = h in cc)
numbered (Some refusal) number h = record { one = refusal; found = refl; numbered = ap given h }
  where
    given : Option (List ℕ) → List ℕ
    given None = number
    given (Some found) = found

pub files_are_refused : FilesAreRefused
unfolding merge_of
files_are_refused objects refusal valid refused =
    let those : List ObjectModule = map with_publics_in_order objects in
    let all = by_recursion IsObjectModule objects valid in
    let number : number_of (link_refusal those) ≡ Some (link_number refusal) =
    refused_again objects valid ∙ ap number_of (refusal_is objects refusal refused) in
    let again = numbered (link_refusal those) (link_number refusal) number in
    let no : merge_of those ≡ Err again.one =
    ap (unless_refused (joined those (linked_modules those))) again.found in
    record {
      refusal = again.one;
      refused = record { objects = those; spelled = each_spelled objects all; refused = no };
      same =
          λ other is.
          one_number other (link_number refusal)
          (ap number_of (sym (refusal_is those other (refusal_read objects other valid is))) ∙ number);
      no_fault = none_faulty objects valid;
      no_merge =
          λ linked merges.
          not_both (merge_of those) linked again.one (merge_read objects linked valid merges) no;
    }
  where
    one_number : (other : LinkRefusal) (number : List ℕ) → number_of (Some other) ≡ Some number
        → link_number other ≡ number
    one_number other number h = ap given h
      where
        given : Option (List ℕ) → List ℕ
        given None = number
        given (Some found) = found

pub files_are_not_placed : FilesAreNotPlaced
files_are_not_placed merged object plan refusal valid refused spelled =
    let is = unless_err (placed plan merged) (placement_refusal plan merged) refusal refused in
    ap (unless_refused (placed plan object))
    (ap (placement_refusal plan) (read_again merged object valid spelled) ∙ same_refusal plan merged ∙ is)
