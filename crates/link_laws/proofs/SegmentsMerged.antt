-- The segments of a merge are those that are joined of pieces.
use Rattle.link_laws.proofs.Prelude.{◌≡◌, ℕ, Bool, cond, ◌||◌, List, [], ◌∷◌, All, map, refl, ap, sym, list_any, AllByRecursion, recursion_from_All, Byte, Page, Code, Data, Linked, code_end, data_end, linked_after, linked_from, linked_modules, all_publics, Places, ObjectModule, IsObjectModule, is_page, merged_code, merged_data, stored_of, alignment_joined, begins_a_page, stored_joined, later_start}
use Rattle.link_laws.proofs.FixesWithin.{whole_places}
use Rattle.link_laws.proofs.SegmentLaws.{Follow, all_runs, all_fixes, all_length}

code_follows :
    (code data_before : ℕ) (objects : List ObjectModule) → AllByRecursion IsObjectModule objects
    → Follow Code code (linked_from code data_before objects)
code_follows code data_before [] all = tt
code_follows code data_before (object ∷ others) all =
    let one : Linked = linked_after code data_before object in
    (whole_places object Code all.0, later_start code object.code.alignment, code_follows (code_end one) (data_end one) others all.1)

data_follows :
    (code data_before : ℕ) (objects : List ObjectModule) → AllByRecursion IsObjectModule objects
    → Follow Data data_before (linked_from code data_before objects)
data_follows code data_before [] all = tt
data_follows code data_before (object ∷ others) all =
    let one : Linked = linked_after code data_before object in (
      whole_places object Data all.0,
      later_start data_before object.data_places.alignment,
      data_follows (code_end one) (data_end one) others all.1,
    )

abbrev any_page : List Places → Bool
any_page segments = list_any (λ (segment : Places). is_page segment.alignment) segments

code_pages :
    (code data_before : ℕ) (objects : List ObjectModule)
    → any_page (map (λ (object : ObjectModule). object.code) objects)
    ≡ list_any (begins_a_page Code) (linked_from code data_before objects)
code_pages code data_before [] = refl
code_pages code data_before (object ∷ others) =
    let one : Linked = linked_after code data_before object in
    ap (λ b. is_page object.code.alignment || b) (code_pages (code_end one) (data_end one) others)

data_pages :
    (code data_before : ℕ) (objects : List ObjectModule)
    → any_page (map (λ (object : ObjectModule). object.data_places) objects)
    ≡ list_any (begins_a_page Data) (linked_from code data_before objects)
data_pages code data_before [] = refl
data_pages code data_before (object ∷ others) =
    let one : Linked = linked_after code data_before object in
    ap (λ b. is_page object.data_places.alignment || b) (data_pages (code_end one) (data_end one) others)

pub code_merged :
    (objects : List ObjectModule) → All IsObjectModule objects
    → stored_joined (all_publics (linked_modules objects)) Code (linked_modules objects)
    ≡ stored_of (merged_code objects).alignment (merged_code objects).places
code_merged objects valid =
    let linked : List Linked = linked_modules objects in
    let follow : Follow Code 0 linked =
    code_follows 0 0 objects (recursion_from_All IsObjectModule objects valid) in
    let size = sym (all_length (all_publics linked) Code [] linked follow) in
    let runs = sym (all_runs (all_publics linked) Code [] linked follow) in
    let fixes = sym (all_fixes (all_publics linked) Code [] linked follow) in
    let alignment : alignment_joined Code linked ≡ (merged_code objects).alignment =
    ap (λ (b : Bool). cond b Page Byte) (sym (code_pages 0 0 objects)) in
    λ i. record { size = size i; alignment = alignment i; runs = runs i; fixes = fixes i }

pub data_merged :
    (objects : List ObjectModule) → All IsObjectModule objects
    → stored_joined (all_publics (linked_modules objects)) Data (linked_modules objects)
    ≡ stored_of (merged_data objects).alignment (merged_data objects).places
data_merged objects valid =
    let linked : List Linked = linked_modules objects in
    let follow : Follow Data 0 linked =
    data_follows 0 0 objects (recursion_from_All IsObjectModule objects valid) in
    let size = sym (all_length (all_publics linked) Data [] linked follow) in
    let runs = sym (all_runs (all_publics linked) Data [] linked follow) in
    let fixes = sym (all_fixes (all_publics linked) Data [] linked follow) in
    let alignment : alignment_joined Data linked ≡ (merged_data objects).alignment =
    ap (λ (b : Bool). cond b Page Byte) (sym (data_pages 0 0 objects)) in
    λ i. record { size = size i; alignment = alignment i; runs = runs i; fixes = fixes i }
