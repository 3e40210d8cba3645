-- Publics in the order in which they are written: of each segment there are the same, in the same order.
use Rattle.file_laws.proofs.Prelude.{◌≡◌, ◌-◌, Bool, true, false, cond, nat_lt, List, [], ◌∷◌, ◌++◌, length, map, flat_map, refl, ap, sym, ◌∙◌, filter, IsPermutation, list_all, and_parts, append-nil, filter-append, IsPermutation-refl, IsPermutation-cons, IsPermutation-trans, IsPermutation-sym, IsPermutation-append, IsPermutation-middle, BODY_LIMIT, Segment, Code, Data, Stack, same_segment, Linked, public_moved, Public, ObjectModule, is_valid_public, may_have_publics, Definition, Part, PublicsPart, ModuleEndPart, EndOfFilePart, definition_bytes, part_bytes, header_for, external_parts, publics_in_segment, definition_of, public_parts, segment_parts, written_parts, text_of, with_publics_in_order, packed}
use Rattle.object_modules.specs.declared.segment.Segment.TheVariants.{Absolute}

-- of each segment the same publics, in the same order
abbrev pub SameBySegment : (left right : List Public) → Type 0
SameBySegment left right =
    (segment : Segment) → publics_in_segment segment left ≡ publics_in_segment segment right

-- publics in the order in which they are written
abbrev pub in_order : List Public → List Public
in_order publics =
    flat_map (λ segment. publics_in_segment segment publics) (Absolute ∷ Code ∷ Data ∷ [])

-- what there is of a segment, where a public of a segment comes before the others
abbrev pub with_first : Public → (own : Segment) → (others : List Public) → Segment → List Public
with_first public own others segment =
    cond (same_segment own segment) (public ∷ publics_in_segment segment others)
    (publics_in_segment segment others)

-- What is kept of what is kept of a segment.
abbrev IsIn : Segment → Public → Bool
IsIn segment public = same_segment public.segment segment

kept_twice :
    {A : Type 0} (test : A → Bool) (xs : List A) → filter test (filter test xs) ≡ filter test xs
kept_twice test [] = refl
kept_twice {A} test (x ∷ xs) = go (test x) refl (kept_twice test xs)
  where
    go : (b : Bool) → test x ≡ b → filter test (filter test xs) ≡ filter test xs
        → filter test (cond b (x ∷ filter test xs) (filter test xs))
        ≡ cond b (x ∷ filter test xs) (filter test xs)
    go true e same =
        ap (λ t. cond t (x ∷ filter test (filter test xs)) (filter test (filter test xs))) e
        ∙ ap (λ ys. x ∷ ys) same
    go false e same = same

none_kept :
    {A : Type 0} (test other : A → Bool) → ((x : A) → other x ≡ true → test x ≡ false) → (xs : List A)
    → filter test (filter other xs) ≡ []
none_kept test other apart [] = refl
none_kept {A} test other apart (x ∷ xs) = go (other x) refl (none_kept test other apart xs)
  where
    go : (b : Bool) → other x ≡ b → filter test (filter other xs) ≡ []
        → filter test (cond b (x ∷ filter other xs) (filter other xs)) ≡ []
    go true e none =
        ap (λ t. cond t (x ∷ filter test (filter other xs)) (filter test (filter other xs))) (apart x e)
        ∙ none
    go false e none = none

-- two segments are one, or have nothing in common
apart :
    (segment other : Segment) → same_segment segment other ≡ false → (public : Public)
    → IsIn other public ≡ true → IsIn segment public ≡ false
apart segment other differ public h = go segment other public.segment differ h
  where
    no : {P : Type 0} → true ≡ false → P
    no bad = absurd (let given : true ≡ false = bad in cc)

    go : (left right own : Segment) → same_segment left right ≡ false → same_segment own right ≡ true
        → same_segment own left ≡ false
    go Absolute Absolute own d e = no d
    go Code Code own d e = no d
    go Data Data own d e = no d
    go Stack Stack own d e = no d
    go left Absolute Code d e = no (sym e)
    go left Absolute Data d e = no (sym e)
    go left Absolute Stack d e = no (sym e)
    go left Code Absolute d e = no (sym e)
    go left Code Data d e = no (sym e)
    go left Code Stack d e = no (sym e)
    go left Data Absolute d e = no (sym e)
    go left Data Code d e = no (sym e)
    go left Data Stack d e = no (sym e)
    go left Stack Absolute d e = no (sym e)
    go left Stack Code d e = no (sym e)
    go left Stack Data d e = no (sym e)
    go Code Absolute Absolute d e = refl
    go Data Absolute Absolute d e = refl
    go Stack Absolute Absolute d e = refl
    go Absolute Code Code d e = refl
    go Data Code Code d e = refl
    go Stack Code Code d e = refl
    go Absolute Data Data d e = refl
    go Code Data Data d e = refl
    go Stack Data Data d e = refl
    go Absolute Stack Stack d e = refl
    go Code Stack Stack d e = refl
    go Data Stack Stack d e = refl

-- what is in the order has of a segment what each of three parts has of it
three_parts :
    (segment : Segment) (publics : List Public)
    → publics_in_segment segment (in_order publics)
    ≡ publics_in_segment segment (publics_in_segment Absolute publics)
    ++ (publics_in_segment segment (publics_in_segment Code publics)
    ++ (publics_in_segment segment (publics_in_segment Data publics) ++ []))
three_parts segment publics =
    let A : List Public = publics_in_segment Absolute publics in
    let C : List Public = publics_in_segment Code publics in
    let D : List Public = publics_in_segment Data publics in
    filter-append (IsIn segment) A (C ++ (D ++ []))
    ∙ ap (λ ys. publics_in_segment segment A ++ ys)
    (filter-append (IsIn segment) C (D ++ [])
    ∙ ap (λ ys. publics_in_segment segment C ++ ys) (filter-append (IsIn segment) D []))

joined_three :
    {A : Type 0} (a b c x y z : List A) → a ≡ x → b ≡ y → c ≡ z
    → a ++ (b ++ (c ++ [])) ≡ x ++ (y ++ (z ++ []))
joined_three a b c x y z one two three =
    ap (λ these. these ++ (b ++ (c ++ []))) one ∙ ap (λ these. x ++ (these ++ (c ++ []))) two
    ∙ ap (λ these. x ++ (y ++ (these ++ []))) three

-- each segment that may have publics
absolute_again :
    (publics : List Public) → publics_in_segment Absolute (in_order publics)
    ≡ publics_in_segment Absolute publics
absolute_again publics =
    let own : List Public = publics_in_segment Absolute publics in
    three_parts Absolute publics
    ∙ joined_three (publics_in_segment Absolute own)
    (publics_in_segment Absolute (publics_in_segment Code publics))
    (publics_in_segment Absolute (publics_in_segment Data publics)) own [] []
    (kept_twice (IsIn Absolute) publics)
    (none_kept (IsIn Absolute) (IsIn Code) (apart Absolute Code refl) publics)
    (none_kept (IsIn Absolute) (IsIn Data) (apart Absolute Data refl) publics)
    ∙ append-nil own

code_again :
    (publics : List Public) → publics_in_segment Code (in_order publics) ≡ publics_in_segment Code publics
code_again publics =
    let own : List Public = publics_in_segment Code publics in
    three_parts Code publics
    ∙ joined_three (publics_in_segment Code (publics_in_segment Absolute publics))
    (publics_in_segment Code own)
    (publics_in_segment Code (publics_in_segment Data publics)) [] own []
    (none_kept (IsIn Code) (IsIn Absolute) (apart Code Absolute refl) publics)
    (kept_twice (IsIn Code) publics)
    (none_kept (IsIn Code) (IsIn Data) (apart Code Data refl) publics)
    ∙ append-nil own

data_again :
    (publics : List Public) → publics_in_segment Data (in_order publics) ≡ publics_in_segment Data publics
data_again publics =
    let own : List Public = publics_in_segment Data publics in
    three_parts Data publics
    ∙ joined_three (publics_in_segment Data (publics_in_segment Absolute publics))
    (publics_in_segment Data (publics_in_segment Code publics)) (publics_in_segment Data own) [] [] own
    (none_kept (IsIn Data) (IsIn Absolute) (apart Data Absolute refl) publics)
    (none_kept (IsIn Data) (IsIn Code) (apart Data Code refl) publics)
    (kept_twice (IsIn Data) publics)
    ∙ append-nil own

-- the stack has none
no_stack_ordered : (publics : List Public) → publics_in_segment Stack (in_order publics) ≡ []
no_stack_ordered publics =
    three_parts Stack publics
    ∙ joined_three (publics_in_segment Stack (publics_in_segment Absolute publics))
    (publics_in_segment Stack (publics_in_segment Code publics))
    (publics_in_segment Stack (publics_in_segment Data publics)) [] [] []
    (none_kept (IsIn Stack) (IsIn Absolute) (apart Stack Absolute refl) publics)
    (none_kept (IsIn Stack) (IsIn Code) (apart Stack Code refl) publics)
    (none_kept (IsIn Stack) (IsIn Data) (apart Stack Data refl) publics)

not_in_stack : (segment : Segment) → may_have_publics segment ≡ true → same_segment segment Stack ≡ false
not_in_stack Absolute h = refl
not_in_stack Code h = refl
not_in_stack Data h = refl
not_in_stack Stack h = absurd (let bad : false ≡ true = h in cc)

no_stack :
    (publics : List Public) → list_all is_valid_public publics ≡ true → publics_in_segment Stack publics ≡ []
no_stack [] h = refl
no_stack (public ∷ others) h =
    let cut = and_parts (is_valid_public public) (list_all is_valid_public others) h in
    let here = and_parts (may_have_publics public.segment) (nat_lt public.offset 65536) cut.0 in
    let later : List Public = publics_in_segment Stack others in
    ap (λ b. cond b (public ∷ later) later) (not_in_stack public.segment here.0) ∙ no_stack others cut.1

-- valid publics in the order in which they are written
pub ordered_same :
    (publics : List Public) → list_all is_valid_public publics ≡ true
    → SameBySegment (in_order publics) publics
ordered_same publics h Absolute = absolute_again publics
ordered_same publics h Code = code_again publics
ordered_same publics h Data = data_again publics
ordered_same publics h Stack = no_stack_ordered publics ∙ sym (no_stack publics h)

-- they are the publics, if in another order
to_code :
    (public : Public) (publics absolutes others : List Public) → IsPermutation publics (absolutes ++ others)
    → IsPermutation (public ∷ publics) (absolutes ++ public ∷ others)
to_code public publics absolutes others moved =
    IsPermutation-trans (public ∷ publics) (public ∷ (absolutes ++ others)) (absolutes ++ public ∷ others)
    (IsPermutation-cons public publics (absolutes ++ others) moved)
    (IsPermutation-sym (absolutes ++ public ∷ others) (public ∷ (absolutes ++ others))
    (IsPermutation-middle absolutes public others))

to_data :
    (public : Public) (publics absolutes codes others : List Public)
    → IsPermutation publics (absolutes ++ (codes ++ others))
    → IsPermutation (public ∷ publics) (absolutes ++ (codes ++ public ∷ others))
to_data public publics absolutes codes others moved =
    IsPermutation-trans (public ∷ publics) (absolutes ++ public ∷ (codes ++ others))
    (absolutes ++ (codes ++ public ∷ others)) (to_code public publics absolutes (codes ++ others) moved)
    (IsPermutation-append absolutes absolutes (public ∷ (codes ++ others)) (codes ++ public ∷ others)
    (IsPermutation-refl absolutes)
    (IsPermutation-sym (codes ++ public ∷ others) (public ∷ (codes ++ others))
    (IsPermutation-middle codes public others)))

pub ordered_permutes :
    (publics : List Public) → list_all is_valid_public publics ≡ true
    → IsPermutation publics (in_order publics)
ordered_permutes [] h = IsPermutation-refl []
ordered_permutes (public ∷ others) h =
    let cut = and_parts (is_valid_public public) (list_all is_valid_public others) h in
    let here = and_parts (may_have_publics public.segment) (nat_lt public.offset 65536) cut.0 in
    go public.segment here.0 (ordered_permutes others cut.1)
  where
    go : (segment : Segment) → may_have_publics segment ≡ true
        → IsPermutation others (in_order others)
        → IsPermutation (public ∷ others)
        (with_first public segment others Absolute
        ++ (with_first public segment others Code ++ (with_first public segment others Data ++ [])))
    go Absolute may moved = IsPermutation-cons public others (in_order others) moved
    go Code may moved =
        to_code public others (publics_in_segment Absolute others)
        (publics_in_segment Code others ++ (publics_in_segment Data others ++ [])) moved
    go Data may moved =
        to_data public others (publics_in_segment Absolute others) (publics_in_segment Code others)
        (publics_in_segment Data others ++ []) moved
    go Stack may moved = absurd (let bad : false ≡ true = may in cc)

-- publics that move stay in their segment
moved_in_segment :
    (linked : Linked) (segment : Segment) (publics : List Public)
    → publics_in_segment segment (map (public_moved linked) publics)
    ≡ map (public_moved linked) (publics_in_segment segment publics)
moved_in_segment linked segment [] = refl
moved_in_segment linked segment (public ∷ others) =
    go (same_segment public.segment segment) (moved_in_segment linked segment others)
  where
    go : (b : Bool)
        → publics_in_segment segment (map (public_moved linked) others)
        ≡ map (public_moved linked) (publics_in_segment segment others)
        → cond b (public_moved linked public ∷ publics_in_segment segment (map (public_moved linked) others))
        (publics_in_segment segment (map (public_moved linked) others))
        ≡ map (public_moved linked)
        (cond b (public ∷ publics_in_segment segment others) (publics_in_segment segment others))
    go true same = ap (λ ys. public_moved linked public ∷ ys) same
    go false same = same

pub moved_same :
    (linked : Linked) (left right : List Public) → SameBySegment left right
    → SameBySegment (map (public_moved linked) left) (map (public_moved linked) right)
moved_same linked left right same segment =
    moved_in_segment linked segment left ∙ ap (map (public_moved linked)) (same segment)
    ∙ sym (moved_in_segment linked segment right)

pub joined_same :
    (left right others more : List Public) → SameBySegment left right → SameBySegment others more
    → SameBySegment (left ++ others) (right ++ more)
joined_same left right others more same later segment =
    filter-append (IsIn segment) left others
    ∙ ap (λ ys. ys ++ publics_in_segment segment others) (same segment)
    ∙ ap (λ ys. publics_in_segment segment right ++ ys) (later segment)
    ∙ sym (filter-append (IsIn segment) right more)

-- the order is that of the segments
pub order_same : (left right : List Public) → SameBySegment left right → in_order left ≡ in_order right
order_same left right same =
    joined_three (publics_in_segment Absolute left) (publics_in_segment Code left)
    (publics_in_segment Data left)
    (publics_in_segment Absolute right) (publics_in_segment Code right) (publics_in_segment Data right)
    (same Absolute) (same Code) (same Data)

-- what is written of publics does not hang on their order
segment_written :
    (left right : List Public) (segment : Segment)
    → publics_in_segment segment left ≡ publics_in_segment segment right
    → public_parts left segment ≡ public_parts right segment
segment_written left right segment same =
    ap (λ (publics : List Public).
    map (PublicsPart segment)
    (packed (λ (definition : Definition). length (definition_bytes definition)) (BODY_LIMIT - 1)
    (map definition_of publics))) same

publics_written :
    (publics : List Public)
    → flat_map (public_parts (in_order publics)) (Absolute ∷ Code ∷ Data ∷ [])
    ≡ flat_map (public_parts publics) (Absolute ∷ Code ∷ Data ∷ [])
publics_written publics =
    let ordered : List Public = in_order publics in
    ap (λ ps. ps ++ (public_parts ordered Code ++ (public_parts ordered Data ++ [])))
    (segment_written ordered publics Absolute (absolute_again publics))
    ∙ ap (λ ps. public_parts publics Absolute ++ (ps ++ (public_parts ordered Data ++ [])))
    (segment_written ordered publics Code (code_again publics))
    ∙ ap (λ ps. public_parts publics Absolute ++ (public_parts publics Code ++ (ps ++ [])))
    (segment_written ordered publics Data (data_again publics))

pub text_in_order : (object : ObjectModule) → text_of (with_publics_in_order object) ≡ text_of object
unfolding written_parts
text_in_order object =
    ap (λ (middle : List Part).
    flat_map part_bytes
    (header_for object
    ∷ external_parts object.externals
    ++ middle
    ++ flat_map (segment_parts object) (Code ∷ Data ∷ [])
    ++ ModuleEndPart object.start
    ∷ EndOfFilePart
    ∷ [])) (publics_written object.publics)
