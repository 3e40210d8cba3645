-- Names, by how often each stands in a list: whether one is repeated, and which public it finds.
use Rattle.file_laws.proofs.Prelude.{◌≡◌, ℕ, ◌+◌, ◌≤◌, Bool, true, false, cond, ◌||◌, nat_lt, List, [], ◌∷◌, map, Option, Some, None, refl, ap, sym, ◌∙◌, arith, option_or, bytes_eq, lt-ltb, bytes_eq-Decides, Segment, Code, Data, Stack, same_segment, public_named, repeated_after, Public, is_among, publics_in_segment, public_name}
use Rattle.object_modules.specs.declared.segment.Segment.TheVariants.{Absolute}
use Rattle.file_laws.proofs.PublicsInOrder.{SameBySegment, with_first}

-- how often a name stands among names
abbrev pub times : (name : List ℕ) → List (List ℕ) → ℕ
times name [] = 0
times name (other ∷ others) = cond (bytes_eq name other) 1 0 + times name others

-- names stand as often in one list as in another
abbrev pub SameNames : (left right : List (List ℕ)) → Type 0
SameNames left right = (name : List ℕ) → times name left ≡ times name right

-- a name is among those in which it stands
among_by_times : (name : List ℕ) (names : List (List ℕ)) → is_among name names ≡ nat_lt 0 (times name names)
among_by_times name [] = refl
among_by_times name (other ∷ others) = go (bytes_eq name other) (among_by_times name others)
  where
    go : (b : Bool) → is_among name others ≡ nat_lt 0 (times name others)
        → (b || is_among name others) ≡ nat_lt 0 (cond b 1 0 + times name others)
    go true h = sym (lt-ltb 0 (1 + times name others) (omega arith))
    go false h =
        let same : times name others ≡ 0 + times name others = omega arith in
        h ∙ ap (nat_lt 0) same

pub among_same :
    (left right : List (List ℕ)) → SameNames left right → (name : List ℕ)
    → is_among name left ≡ is_among name right
among_same left right same name =
    among_by_times name left ∙ ap (nat_lt 0) (same name) ∙ sym (among_by_times name right)

-- Names of which none is repeated stand once each, those that were known before counted once.
abbrev StandOnce : (known names : List (List ℕ)) → Type 0
StandOnce known names = (name : List ℕ) → cond (is_among name known) 1 0 + times name names ≤ 1

once : (known names : List (List ℕ)) → repeated_after known names ≡ None → StandOnce known names
once known [] h name = go (is_among name known)
  where
    go : (b : Bool) → cond b 1 0 + 0 ≤ 1
    go true = omega arith
    go false = omega arith
once known (first ∷ others) h name = go (is_among first known) refl (once (first ∷ known) others) h
  where
    count : (b d : Bool) → (b ≡ true → d ≡ false) → cond (b || d) 1 0 + times name others ≤ 1
        → cond d 1 0 + (cond b 1 0 + times name others) ≤ 1
    count true true apart low = absurd (let bad : true ≡ false = apart refl in cc)
    count true false apart low = omega (arith, low)
    count false true apart low = omega (arith, low)
    count false false apart low = omega (arith, low)

    go : (b : Bool) → is_among first known ≡ b
        → (repeated_after (first ∷ known) others ≡ None → StandOnce (first ∷ known) others)
        → cond b (Some first) (repeated_after (first ∷ known) others) ≡ None
        → cond (is_among name known) 1 0 + times name (first ∷ others) ≤ 1
    go true e later none = absurd (let bad : Some first ≡ None = none in cc)
    go false e later none =
        count (bytes_eq name first) (is_among name known)
        (λ is. ap (λ other. is_among other known) ((bytes_eq-Decides name first).0 is) ∙ e)
        (later none name)

none_repeated : (known names : List (List ℕ)) → StandOnce known names → repeated_after known names ≡ None
none_repeated known [] h = refl
none_repeated known (first ∷ others) h =
    go (is_among first known)
    (bytes_eq first first) ((bytes_eq-Decides first first).1 refl) (h first)
    (none_repeated (first ∷ known) others
    (λ name. later name (bytes_eq name first) (is_among name known) (h name)))
  where
    later : (name : List ℕ) (b d : Bool) → cond d 1 0 + (cond b 1 0 + times name others) ≤ 1
        → cond (b || d) 1 0 + times name others ≤ 1
    later name true true low = absurd (omega (arith, low))
    later name true false low = omega (arith, low)
    later name false true low = omega (arith, low)
    later name false false low = omega (arith, low)

    go : (b same : Bool) → same ≡ true → cond b 1 0 + (cond same 1 0 + times first others) ≤ 1
        → repeated_after (first ∷ known) others ≡ None
        → cond b (Some first) (repeated_after (first ∷ known) others) ≡ None
    go true true is low none = absurd (omega (arith, low))
    go true false is low none = absurd (let bad : false ≡ true = is in cc)
    go false same is low none = none

pub never_more :
    (names : List (List ℕ)) → repeated_after [] names ≡ None → (name : List ℕ) → times name names ≤ 1
never_more names h name =
    let low : 0 + times name names ≤ 1 = once [] names h name in
    omega (arith, low)

-- so where names stand as often, one of them is repeated in both or in none
pub none_repeated_there :
    (left right : List (List ℕ)) → SameNames left right → repeated_after [] left ≡ None
    → repeated_after [] right ≡ None
none_repeated_there left right same h =
    none_repeated [] right
    (λ name.
    let low : times name left ≤ 1 = never_more left h name in
    let equal : times name left ≡ times name right = same name in
    omega (arith, low, equal))

-- Names of publics.
abbrev pub times_in : (name : List ℕ) → List Public → ℕ
times_in name publics = times name (map public_name publics)

-- how often they stand, by segments
by_four :
    (name : List ℕ) (publics : List Public)
    → times_in name publics
    ≡ times_in name (publics_in_segment Absolute publics)
    + (times_in name (publics_in_segment Code publics)
    + (times_in name (publics_in_segment Data publics) + times_in name (publics_in_segment Stack publics)))
by_four name [] = refl
by_four name (public ∷ others) = go public.segment (by_four name others)
  where
    go : (segment : Segment)
        → times_in name others
        ≡ times_in name (publics_in_segment Absolute others)
        + (times_in name (publics_in_segment Code others)
        + (times_in name (publics_in_segment Data others) + times_in name (publics_in_segment Stack others)))
        → cond (bytes_eq name public.name) 1 0 + times_in name others
        ≡ times_in name (with_first public segment others Absolute)
        + (times_in name (with_first public segment others Code)
        + (times_in name (with_first public segment others Data)
        + times_in name (with_first public segment others Stack)))
    go Absolute h = omega (arith, h)
    go Code h = omega (arith, h)
    go Data h = omega (arith, h)
    go Stack h = omega (arith, h)

pub names_same :
    (left right : List Public) → SameBySegment left right
    → SameNames (map public_name left) (map public_name right)
names_same left right same name =
    let absolutes = ap (times_in name) (same Absolute) in
    let codes = ap (times_in name) (same Code) in
    let datas = ap (times_in name) (same Data) in
    let stacks = ap (times_in name) (same Stack) in
    let one = by_four name left in
    let other = by_four name right in
    omega (arith, absolutes, codes, datas, stacks, one, other)

-- a name that doesn't stand there finds nothing
not_found : (name : List ℕ) (publics : List Public) → times_in name publics ≡ 0
    → public_named publics name ≡ None
not_found name [] h = refl
not_found name (public ∷ others) h = go (bytes_eq name public.name) h (not_found name others)
  where
    go : (b : Bool) → cond b 1 0 + times_in name others ≡ 0
        → (times_in name others ≡ 0 → public_named others name ≡ None)
        → cond b (Some public) (public_named others name) ≡ None
    go true none later = absurd (omega (arith, none))
    go false none later = later (omega (arith, none))

-- what a name finds of a list, or of that with a public before it that has the name or not
abbrev chosen : Public → (own named : Bool) → Option Public → Option Public
chosen public own named found = cond own (cond named (Some public) found) found

first_chosen :
    (name : List ℕ) (public : Public) (own named : Bool) (publics : List Public)
    → bytes_eq name public.name ≡ named
    → public_named (cond own (public ∷ publics) publics) name
    ≡ chosen public own named (public_named publics name)
first_chosen name public true named publics e = ap (λ b. cond b (Some public) (public_named publics name)) e
first_chosen name public false named publics e = refl

-- the first of four
abbrev first_of_four : (absolutes codes datas stacks : Option Public) → Option Public
first_of_four absolutes codes datas stacks = option_or absolutes (option_or codes (option_or datas stacks))

record FindNothing (absolutes codes datas : Option Public) : Type 0 where
  no_absolute : absolutes ≡ None
  no_code : codes ≡ None
  no_data : datas ≡ None

chosen_first :
    (public : Public) (segment : Segment) (named : Bool) (absolutes codes datas stacks found : Option Public)
    → (named ≡ true → FindNothing absolutes codes datas)
    → found ≡ first_of_four absolutes codes datas stacks
    → cond named (Some public) found
    ≡ first_of_four (chosen public (same_segment segment Absolute) named absolutes)
    (chosen public (same_segment segment Code) named codes)
    (chosen public (same_segment segment Data) named datas)
    (chosen public (same_segment segment Stack) named stacks)
chosen_first public Absolute false absolutes codes datas stacks found none h = h
chosen_first public Code false absolutes codes datas stacks found none h = h
chosen_first public Data false absolutes codes datas stacks found none h = h
chosen_first public Stack false absolutes codes datas stacks found none h = h
chosen_first public Absolute true absolutes codes datas stacks found none h = refl
chosen_first public Code true absolutes codes datas stacks found none h =
    let nothing = none refl in
    sym (ap (λ o. option_or o (Some public)) nothing.no_absolute)
chosen_first public Data true absolutes codes datas stacks found none h =
    let nothing = none refl in
    sym (ap (λ o. option_or o (option_or codes (Some public))) nothing.no_absolute
    ∙ ap (λ o. option_or o (Some public)) nothing.no_code)
chosen_first public Stack true absolutes codes datas stacks found none h =
    let nothing = none refl in
    sym (ap (λ o. option_or o (option_or codes (option_or datas (Some public)))) nothing.no_absolute
    ∙ ap (λ o. option_or o (option_or datas (Some public))) nothing.no_code
    ∙ ap (λ o. option_or o (Some public)) nothing.no_data)

abbrev found_in : (name : List ℕ) → List Public → Segment → Option Public
found_in name publics segment = public_named (publics_in_segment segment publics) name

abbrev found_by_segments : (name : List ℕ) → List Public → Option Public
found_by_segments name publics =
    first_of_four (found_in name publics Absolute) (found_in name publics Code) (found_in name publics Data)
    (found_in name publics Stack)

same_four :
    (a b c d w x y z : Option Public) → a ≡ w → b ≡ x → c ≡ y → d ≡ z
    → first_of_four a b c d ≡ first_of_four w x y z
same_four a b c d w x y z one two three four =
    ap (λ o. first_of_four o b c d) one ∙ ap (λ o. first_of_four w o c d) two
    ∙ ap (λ o. first_of_four w x o d) three ∙ ap (λ o. first_of_four w x y o) four

-- a name that stands once finds its public in the one segment that has it
found_there :
    (name : List ℕ) (publics : List Public) → times_in name publics ≤ 1
    → public_named publics name ≡ found_by_segments name publics
found_there name [] h = refl
found_there name (public ∷ others) h =
    let named : Bool = bytes_eq name public.name in
    chosen_first public public.segment named (found_in name others Absolute) (found_in name others Code)
    (found_in name others Data) (found_in name others Stack) (public_named others name)
    (λ is. nothing (bytes_eq name public.name) is h)
    (found_there name others (fewer (bytes_eq name public.name) h))
    ∙ sym (same_four
    (public_named (with_first public public.segment others Absolute) name)
    (public_named (with_first public public.segment others Code) name)
    (public_named (with_first public public.segment others Data) name)
    (public_named (with_first public public.segment others Stack) name)
    (chosen public (same_segment public.segment Absolute) named (found_in name others Absolute))
    (chosen public (same_segment public.segment Code) named (found_in name others Code))
    (chosen public (same_segment public.segment Data) named (found_in name others Data))
    (chosen public (same_segment public.segment Stack) named (found_in name others Stack))
    (first_chosen name public (same_segment public.segment Absolute) named
    (publics_in_segment Absolute others) refl)
    (first_chosen name public (same_segment public.segment Code) named (publics_in_segment Code others) refl)
    (first_chosen name public (same_segment public.segment Data) named (publics_in_segment Data others) refl)
    (first_chosen name public (same_segment public.segment Stack) named
    (publics_in_segment Stack others) refl))
  where
    fewer : (b : Bool) → cond b 1 0 + times_in name others ≤ 1 → times_in name others ≤ 1
    fewer true low = omega (arith, low)
    fewer false low = omega (arith, low)

    nothing : (b : Bool) → b ≡ true → cond b 1 0 + times_in name others ≤ 1
        → FindNothing (found_in name others Absolute) (found_in name others Code) (found_in name others Data)
    nothing false is low = absurd (let bad : false ≡ true = is in cc)
    nothing true is low =
        let four = by_four name others in
        record {
          no_absolute = not_found name (publics_in_segment Absolute others) (omega (arith, four, low));
          no_code = not_found name (publics_in_segment Code others) (omega (arith, four, low));
          no_data = not_found name (publics_in_segment Data others) (omega (arith, four, low));
        }

-- so it finds the same public in publics that are the same segment by segment
pub finds_same :
    (left right : List Public) → SameBySegment left right → repeated_after [] (map public_name left) ≡ None
    → (name : List ℕ) → public_named left name ≡ public_named right name
finds_same left right same h name =
    let low : times_in name left ≤ 1 = never_more (map public_name left) h name in
    let equal : times_in name left ≡ times_in name right = names_same left right same name in
    let find : List Public → Option Public = λ publics. public_named publics name in
    found_there name left low
    ∙ same_four (found_in name left Absolute) (found_in name left Code) (found_in name left Data)
    (found_in name left Stack) (found_in name right Absolute) (found_in name right Code)
    (found_in name right Data)
    (found_in name right Stack) (ap find (same Absolute)) (ap find (same Code)) (ap find (same Data))
    (ap find (same Stack))
    ∙ sym (found_there name right (omega (arith, low, equal)))
