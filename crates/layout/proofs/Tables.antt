-- Tables of offsets, and that they tell the offsets of the storage.
use Rattle.layout.proofs.Prelude.{◌≡◌, ℕ, zero, suc, ◌+◌, ◌<◌, ◌≤◌, List, [], ◌∷◌, length, get_or, Option, Some, None, Bool, true, false, cond, eqb, ap, sym, subst, refl, ◌∙◌, one-add, arith, sum_by, take, take_while, not, slice_set, replicate, prefix_len, eqb-zero-suc, eqb-suc-zero, eqb-suc-suc, length-replicate, sum_by-cons, ConstantObject, ConstantList, ConstantItem, TypedModule, size_of_constant, constant_bytes, is_object, is_list, constants_before, OffsetTables, or_first, put_first, put, put_all, offset_or, offset_in, add_assoc}

-- what the first offset of a number does to a table
pub put_first_at :
    (table : List (Option ℕ)) (number offset : ℕ) (d : Option ℕ)
    → number < length table
    → get_or table number d ≡ None
    → put_first table number offset ≡ slice_set table number (Some offset)
put_first_at [] number offset d within none = absurd (omega arith)
put_first_at (found ∷ others) zero offset d within none = ap (λ first. or_first first offset ∷ others) none
put_first_at (found ∷ others) (suc number) offset d within none =
    ap (λ rest. found ∷ rest) (put_first_at others number offset d (omega arith) none)

pub put_first_past :
    (table : List (Option ℕ)) (number offset : ℕ) → length table ≤ number
    → put_first table number offset ≡ table
put_first_past [] number offset past = refl
put_first_past (found ∷ others) zero offset past = absurd (omega arith)
put_first_past (found ∷ others) (suc number) offset past =
    ap (λ rest. found ∷ rest) (put_first_past others number offset (omega arith))

pub put_first_kept :
    (table : List (Option ℕ)) (number offset known : ℕ) (d : Option ℕ)
    → number < length table
    → get_or table number d ≡ Some known
    → put_first table number offset ≡ table
put_first_kept [] number offset known d within is = absurd (omega arith)
put_first_kept (found ∷ others) zero offset known d within is =
    ap (λ first. or_first first offset ∷ others) is ∙ ap (λ first. first ∷ others) (sym is)
put_first_kept (found ∷ others) (suc number) offset known d within is =
    ap (λ rest. found ∷ rest) (put_first_kept others number offset known d (omega arith) is)

-- what a table tells of a number after another was put in
offset_after :
    (table : List (Option ℕ)) (number offset wanted otherwise : ℕ)
    → wanted < length table
    → offset_in (put_first table number offset) wanted otherwise
    ≡ offset_in table wanted (cond (eqb number wanted) offset otherwise)
offset_after [] number offset wanted otherwise within = absurd (omega arith)
offset_after (None ∷ others) zero offset zero otherwise within = refl
offset_after (Some known ∷ others) zero offset zero otherwise within = refl
offset_after (found ∷ others) zero offset (suc wanted) otherwise within =
    ap (λ is. offset_in others wanted (cond is offset otherwise)) (sym (eqb-zero-suc wanted))
offset_after (found ∷ others) (suc number) offset zero otherwise within =
    ap (λ is. offset_or (Some found) (cond is offset otherwise)) (sym (eqb-suc-zero number))
offset_after (found ∷ others) (suc number) offset (suc wanted) otherwise within =
    offset_after others number offset wanted otherwise (omega arith)
    ∙ ap (λ is. offset_in others wanted (cond is offset otherwise)) (sym (eqb-suc-suc number wanted))

length-put_first :
    (table : List (Option ℕ)) (number offset : ℕ) → length (put_first table number offset) ≡ length table
length-put_first [] number offset = refl
length-put_first (found ∷ others) zero offset = refl
length-put_first (found ∷ others) (suc number) offset = ap suc (length-put_first others number offset)

-- the bytes before the first item that is wanted
bytes_before : (size : ConstantItem → ℕ) (wanted : ConstantItem → Bool) → List ConstantItem → ℕ
bytes_before size wanted items = sum_by size (take_while (λ (item : ConstantItem). not (wanted item)) items)

before_by :
    (size : ConstantItem → ℕ) (item : ConstantItem) (others : List ConstantItem)
    (so_far passed : ℕ) (is : Bool)
    → so_far + sum_by size (take (cond (not is) (1 + passed) 0) (item ∷ others))
    ≡ cond is so_far (so_far + size item + sum_by size (take passed others))
before_by size item others so_far passed true = omega arith
before_by size item others so_far passed false =
    ap (λ n. so_far + sum_by size (take n (item ∷ others))) (one-add passed)
    ∙ ap (λ n. so_far + n) (sum_by-cons size item (take passed others))
    ∙ sym (add_assoc so_far (size item) (sum_by size (take passed others)))

before_more :
    (size : ConstantItem → ℕ) (wanted : ConstantItem → Bool) (so_far : ℕ) (item : ConstantItem)
    (others : List ConstantItem)
    → so_far + bytes_before size wanted (item ∷ others)
    ≡ cond (wanted item) so_far (so_far + size item + bytes_before size wanted others)
unfolding bytes_before
before_more size wanted so_far item others =
    before_by size item others so_far (prefix_len (λ (item : ConstantItem). not (wanted item)) others)
    (wanted item)

all_more :
    (size : ConstantItem → ℕ) (so_far : ℕ) (item : ConstantItem) (others : List ConstantItem)
    → so_far + sum_by size (item ∷ others) ≡ so_far + size item + sum_by size others
all_more size so_far item others =
    ap (λ n. so_far + n) (sum_by-cons size item others)
    ∙ sym (add_assoc so_far (size item) (sum_by size others))

-- once all constants are met, a table tells what stands before each number
told_object :
    (typed : TypedModule) (so_far : ℕ) (items : List ConstantItem) (tables : OffsetTables) (number : ℕ)
    → number < length tables.objects
    → offset_in (put_all typed so_far items tables).objects number
    (so_far + sum_by (size_of_constant typed) items)
    ≡ offset_in tables.objects number
    (so_far + bytes_before (size_of_constant typed) (is_object number) items)
unfolding bytes_before
told_object typed so_far [] tables number within = refl
told_object typed so_far (ConstantObject other ∷ others) tables number within =
    ap (offset_in (put_all typed so_far (ConstantObject other ∷ others) tables).objects number)
    (all_more (size_of_constant typed) so_far (ConstantObject other) others)
    ∙ told_object typed (so_far + size_of_constant typed (ConstantObject other)) others
    (put tables (ConstantObject other) so_far) number
    (subst (λ n. number < n) (sym (length-put_first tables.objects other so_far)) within)
    ∙ offset_after tables.objects other so_far number
    (so_far + size_of_constant typed (ConstantObject other)
    + bytes_before (size_of_constant typed) (is_object number) others) within
    ∙ ap (offset_in tables.objects number)
    (sym (before_more (size_of_constant typed) (is_object number) so_far (ConstantObject other) others))
told_object typed so_far (ConstantList list ∷ others) tables number within =
    ap (offset_in (put_all typed so_far (ConstantList list ∷ others) tables).objects number)
    (all_more (size_of_constant typed) so_far (ConstantList list) others)
    ∙ told_object typed (so_far + size_of_constant typed (ConstantList list)) others
    (put tables (ConstantList list) so_far) number within
    ∙ ap (offset_in tables.objects number)
    (sym (before_more (size_of_constant typed) (is_object number) so_far (ConstantList list) others))

told_list :
    (typed : TypedModule) (so_far : ℕ) (items : List ConstantItem) (tables : OffsetTables) (number : ℕ)
    → number < length tables.lists
    → offset_in (put_all typed so_far items tables).lists number
    (so_far + sum_by (size_of_constant typed) items)
    ≡ offset_in tables.lists number (so_far + bytes_before (size_of_constant typed) (is_list number) items)
unfolding bytes_before
told_list typed so_far [] tables number within = refl
told_list typed so_far (ConstantList other ∷ others) tables number within =
    ap (offset_in (put_all typed so_far (ConstantList other ∷ others) tables).lists number)
    (all_more (size_of_constant typed) so_far (ConstantList other) others)
    ∙ told_list typed (so_far + size_of_constant typed (ConstantList other)) others
    (put tables (ConstantList other) so_far) number
    (subst (λ n. number < n) (sym (length-put_first tables.lists other so_far)) within)
    ∙ offset_after tables.lists other so_far number
    (so_far + size_of_constant typed (ConstantList other)
    + bytes_before (size_of_constant typed) (is_list number) others) within
    ∙ ap (offset_in tables.lists number)
    (sym (before_more (size_of_constant typed) (is_list number) so_far (ConstantList other) others))
told_list typed so_far (ConstantObject object ∷ others) tables number within =
    ap (offset_in (put_all typed so_far (ConstantObject object ∷ others) tables).lists number)
    (all_more (size_of_constant typed) so_far (ConstantObject object) others)
    ∙ told_list typed (so_far + size_of_constant typed (ConstantObject object)) others
    (put tables (ConstantObject object) so_far) number within
    ∙ ap (offset_in tables.lists number)
    (sym (before_more (size_of_constant typed) (is_list number) so_far (ConstantObject object) others))

-- tables in which no offset is known
offset_unknown :
    (count number otherwise : ℕ) → offset_in (replicate count None) number otherwise ≡ otherwise
offset_unknown zero number otherwise = refl
offset_unknown (suc count) zero otherwise = refl
offset_unknown (suc count) (suc number) otherwise = offset_unknown count number otherwise

-- the tables of a module once all of its constants are met
abbrev pub unknown_offsets : TypedModule → OffsetTables
unknown_offsets typed = record {
  objects = replicate (length typed.objects) None;
  lists = replicate (length typed.constants.lists) None;
}

abbrev pub offsets_of_module : TypedModule → OffsetTables
offsets_of_module typed = put_all typed 0 typed.constants.items (unknown_offsets typed)

within_replicate :
    (count number : ℕ) (unknown : Option ℕ)
    → number < count
    → number < length (replicate count unknown)
within_replicate count number unknown within =
    subst (λ n. number < n) (sym (length-replicate count unknown)) within

from_zero : (n : ℕ) → n ≡ 0 + n
from_zero n = omega arith

-- they tell what stands before each object and each list
pub object_offset :
    (typed : TypedModule) (number : ℕ)
    → number < length typed.objects
    → offset_in (offsets_of_module typed).objects number (constant_bytes typed)
    ≡ constants_before typed (is_object number)
unfolding bytes_before
object_offset typed number within =
    ap (offset_in (offsets_of_module typed).objects number) (from_zero (constant_bytes typed))
    ∙ told_object typed 0 typed.constants.items (unknown_offsets typed) number
    (within_replicate (length typed.objects) number None within)
    ∙ offset_unknown (length typed.objects) number
    (0 + bytes_before (size_of_constant typed) (is_object number) typed.constants.items)
    ∙ sym (from_zero (constants_before typed (is_object number)))

pub list_offset :
    (typed : TypedModule) (number : ℕ)
    → number < length typed.constants.lists
    → offset_in (offsets_of_module typed).lists number (constant_bytes typed)
    ≡ constants_before typed (is_list number)
unfolding bytes_before
list_offset typed number within =
    ap (offset_in (offsets_of_module typed).lists number) (from_zero (constant_bytes typed))
    ∙ told_list typed 0 typed.constants.items (unknown_offsets typed) number
    (within_replicate (length typed.constants.lists) number None within)
    ∙ offset_unknown (length typed.constants.lists) number
    (0 + bytes_before (size_of_constant typed) (is_list number) typed.constants.items)
    ∙ sym (from_zero (constants_before typed (is_list number)))
