-- What is read as a restricted expression, a type, a dimension or a member is spelled so, and what is spelled
-- so is read.
use Rattle.syntax.proofs.Prelude.{◌≡◌, inl, inr, ℕ, zero, suc, ◌+◌, ◌≤◌, false, List, [], ◌∷◌, drop, length, Option, Some, None, Ok, Err, refl, sym, ◌∙◌, ap, arith, Dimension, Count, Implied, Member, ScalarType, Byte, Address, Sign, Plus, Minus, Number, optional, constant_symbols, origin_symbols, sign_symbol, offsets_symbols, restricted_symbols, scalar_symbols, count_symbols, dimension_symbols, member_symbols, Symbol, NameSymbol, NumberSymbol, MarkSymbol, ConstantTree, NumberConstant, StringConstant, OriginTree, ConstantOrigin, LocationOrigin, OffsetTree, RestrictedTree, origin, next_sign, offset_then, offsets, all_offsets, restricted, next_scalar, scalar_of, scalar, result_of, result_type, count, dimension_inside, dimension, member, Parser, Reading, ◌>>=◌, at_mark, at_word, mark, name, number, constant}
use Rattle.words.specs.declared.vocabulary.Mark.TheVariants as marks
use Rattle.words.specs.declared.vocabulary.ReservedWord.TheVariants as words
use Rattle.syntax.proofs.ReaderLemmas.{if_false, if_cases, bind_ok, bind_at, read, same_reading, at_mark-is, at_word-is, mark-ok, name-ok, number-ok, constant-ok, constant-at}
use Rattle.syntax.proofs.ExpressionSound.{constant-long}

-- what is read is spelled so
abbrev pub Spelled : {A : Type 0} → (Parser A) → (A → List Symbol → List Symbol) → Type 0
Spelled {A} read_one spell = (s r : List Symbol) (a : A) → read_one s ≡ Ok (a, r) → s ≡ spell a r

-- the same reading is spelled the same
pub respelled : {A : Type 0} (spell : A → List Symbol → List Symbol) (s : List Symbol) (a b : A)
    (r t : List Symbol)
    → read a r ≡ read b t
    → s ≡ spell a r
    → s ≡ spell b t
respelled spell s a b r t e h =
    let same = same_reading a b r t e in
    h ∙ ap (λ k. spell k r) same.0 ∙ ap (spell b) same.1

pub origin-spelled : Spelled origin origin_symbols
origin-spelled s r o e = elim (if_cases (at_mark marks.Period s) _ _ _ e) [
  | inl h ↦
      let a = bind_ok (name (drop 1 s)) _ _ h.1 in
      let n = name-ok (drop 1 s) a.0.1 a.0.0 a.1 in
      respelled origin_symbols s (LocationOrigin a.0.0) o a.0.1 r a.2
      (at_mark-is marks.Period s h.0 ∙ ap (λ k. MarkSymbol marks.Period ∷ k) n)
  | inr h ↦
      let a = bind_ok (constant s) _ _ h.1 in
      respelled origin_symbols s (ConstantOrigin a.0.0) o a.0.1 r a.2 (constant-ok s a.0.1 a.0.0 a.1)
]

pub origin-reads : (o : OriginTree) (r : List Symbol) → origin (origin_symbols o r) ≡ Ok (o, r)
origin-reads (ConstantOrigin (NumberConstant c)) r = refl
origin-reads (ConstantOrigin (StringConstant c)) r = refl
origin-reads (LocationOrigin n) r = refl

-- the next symbol is that of the sign that is seen
pub next_sign-is : (s : List Symbol) (g : Sign) → next_sign s ≡ Some g → s ≡ sign_symbol g ∷ drop 1 s
next_sign-is s g e = elim (if_cases (at_mark marks.PlusSign s) _ _ _ e) [
  | inl h ↦ at_mark-is marks.PlusSign s h.0 ∙ ap (λ k. sign_symbol k ∷ drop 1 s) {x = Plus} {y = g} (cc h.1)
  | inr h ↦ elim (if_cases (at_mark marks.MinusSign s) _ _ _ h.1) [
    | inl k ↦ at_mark-is marks.MinusSign s k.0
        ∙ ap (λ k. sign_symbol k ∷ drop 1 s) {x = Minus} {y = g} (cc k.1)
    | inr k ↦ absurd (cc k.1)
  ]
]

pub next_sign-at : (g : Sign) (r : List Symbol) → next_sign (sign_symbol g ∷ r) ≡ Some g
next_sign-at Plus r = refl
next_sign-at Minus r = refl

offset_then-spelled : (again : Parser (List OffsetTree))
    → Spelled again offsets_symbols
    → (g : Option Sign) (s : List Symbol)
    → next_sign s ≡ g
    → (r : List Symbol) (os : List OffsetTree)
    → offset_then again g s ≡ Ok (os, r)
    → s ≡ offsets_symbols os r
offset_then-spelled again spelled None s is r os e = respelled offsets_symbols s [] os s r e refl
offset_then-spelled again spelled (Some g) s is r os e =
    let a = bind_ok (constant (drop 1 s)) _ _ e in
    let b = bind_ok (again a.0.1) _ _ a.2 in
    let c = constant-ok (drop 1 s) a.0.1 a.0.0 a.1 in
    let others = spelled a.0.1 b.0.1 b.0.0 b.1 in
    respelled offsets_symbols s (record { sign = g; constant = a.0.0 } ∷ b.0.0) os b.0.1 r b.2
    (next_sign-is s g is ∙ ap (λ k. sign_symbol g ∷ k) (c ∙ ap (constant_symbols a.0.0) others))

offsets-spelled : (count : ℕ) → Spelled (offsets count) offsets_symbols
offsets-spelled zero s r os e = respelled offsets_symbols s [] os s r e refl
offsets-spelled (suc count) s r os e =
    offset_then-spelled (offsets count) (offsets-spelled count) (next_sign s) s refl r os e

pub all_offsets-spelled : Spelled all_offsets offsets_symbols
unfolding all_offsets
all_offsets-spelled s r os e = offsets-spelled (length s) s r os e

-- what is spelled lies after its own symbols
abbrev pub Lengthens : {A : Type 0} → (A → List Symbol → List Symbol) → Type 0
Lengthens {A} spell = (a : A) (r : List Symbol) → length r ≤ length (spell a r)

pub offsets-lengthens : (os : List OffsetTree) (r : List Symbol)
    → length r + length os ≤ length (offsets_symbols os r)
offsets-lengthens [] r = omega arith
offsets-lengthens (o ∷ os) r =
    omega (arith, constant-long o.constant (offsets_symbols os r), offsets-lengthens os r)

-- offsets matter only after a constant
offset_then-same : (again other : Parser (List OffsetTree)) (g : Option Sign) (s : List Symbol)
    → ((r : List Symbol) (c : ConstantTree) → constant (drop 1 s) ≡ Ok (c, r) → again r ≡ other r)
    → offset_then again g s ≡ offset_then other g s
offset_then-same again other None s same = refl
offset_then-same again other (Some g) s same = go (constant (drop 1 s)) same
  where
    with_first : ConstantTree → Reading (List OffsetTree) → Reading (List OffsetTree)
    with_first c found =
        found >>= λ (others : List OffsetTree × List Symbol).
        read (record { sign = g; constant = c } ∷ others.0) others.1

    later : Parser (List OffsetTree) → Reading ConstantTree → Reading (List OffsetTree)
    later again found = found >>= λ (first : ConstantTree × List Symbol). with_first first.0 (again first.1)

    go : (found : Reading ConstantTree)
        → ((r : List Symbol) (c : ConstantTree) → found ≡ Ok (c, r) → again r ≡ other r)
        → later again found ≡ later other found
    go (Ok found) h = ap (with_first found.0) (h found.1 found.0 refl)
    go (Err cause) h = refl

-- any count that is enough gives the same
offsets-enough : (count more : ℕ) (s : List Symbol)
    → length s ≤ count
    → length s ≤ more
    → offsets count s ≡ offsets more s
offsets-enough zero zero s l h = refl
offsets-enough zero (suc more) [] l h = refl
offsets-enough zero (suc more) (x ∷ s) l h = absurd (omega arith)
offsets-enough (suc count) zero [] l h = refl
offsets-enough (suc count) zero (x ∷ s) l h = absurd (omega arith)
offsets-enough (suc count) (suc more) [] l h = refl
offsets-enough (suc count) (suc more) (x ∷ s) l h =
    offset_then-same (offsets count) (offsets more) (next_sign (x ∷ s)) (x ∷ s)
    (λ r c e.
    let short : length (constant_symbols c r) ≡ length s = sym (ap length (constant-ok s r c e)) in
    offsets-enough count more r (omega (arith, short, constant-long c r))
    (omega (arith, short, constant-long c r)))

-- {(`+` | `-`) constant}, without a count
pub all_offsets-step : (s : List Symbol) → all_offsets s ≡ offset_then all_offsets (next_sign s) s
unfolding all_offsets
all_offsets-step [] = refl
all_offsets-step (x ∷ s) =
    offset_then-same (offsets (length s)) all_offsets (next_sign (x ∷ s)) (x ∷ s)
    (λ r c e.
    let short : length (constant_symbols c r) ≡ length s = sym (ap length (constant-ok s r c e)) in
    offsets-enough (length s) (length r) r (omega (arith, short, constant-long c r)) (omega arith))

pub all_offsets-reads : (os : List OffsetTree) (r : List Symbol)
    → next_sign r ≡ None
    → all_offsets (offsets_symbols os r) ≡ Ok (os, r)
all_offsets-reads [] r ends = all_offsets-step r ∙ ap (λ g. offset_then all_offsets g r) ends
all_offsets-reads (o ∷ os) r ends =
    all_offsets-step _
    ∙ ap (λ g. offset_then all_offsets g (offsets_symbols (o ∷ os) r)) (next_sign-at o.sign _)
    ∙ bind_at (constant (constant_symbols o.constant (offsets_symbols os r))) _ _
    (constant-at o.constant (offsets_symbols os r))
    ∙ bind_at (all_offsets (offsets_symbols os r)) _ _ (all_offsets-reads os r ends)

pub restricted-spelled : Spelled restricted restricted_symbols
unfolding restricted
restricted-spelled s r t e =
    let a = bind_ok (origin s) _ _ e in
    let b = bind_ok (all_offsets a.0.1) _ _ a.2 in
    respelled restricted_symbols s (record { origin = a.0.0; offsets = b.0.0 }) t b.0.1 r b.2
    (origin-spelled s a.0.1 a.0.0 a.1 ∙ ap (origin_symbols a.0.0) (all_offsets-spelled a.0.1 b.0.1 b.0.0 b.1))

pub restricted-reads : (t : RestrictedTree) (r : List Symbol)
    → next_sign r ≡ None
    → restricted (restricted_symbols t r) ≡ Ok (t, r)
unfolding restricted
restricted-reads t r ends =
    bind_at (origin (restricted_symbols t r)) _ _ (origin-reads t.origin (offsets_symbols t.offsets r))
    ∙ bind_at (all_offsets (offsets_symbols t.offsets r)) _ _ (all_offsets-reads t.offsets r ends)

pub next_scalar-is : (s : List Symbol) (t : ScalarType)
    → next_scalar s ≡ Some t
    → s ≡ scalar_symbols t (drop 1 s)
next_scalar-is s t e = elim (if_cases (at_word words.Byte s) _ _ _ e) [
  | inl h ↦ at_word-is words.Byte s h.0 ∙ ap (λ k. scalar_symbols k (drop 1 s)) {x = Byte} {y = t} (cc h.1)
  | inr h ↦ elim (if_cases (at_word words.Address s) _ _ _ h.1) [
    | inl k ↦ at_word-is words.Address s k.0
        ∙ ap (λ k. scalar_symbols k (drop 1 s)) {x = Address} {y = t} (cc k.1)
    | inr k ↦ absurd (cc k.1)
  ]
]

scalar_of-spelled : (found : Option ScalarType) (s : List Symbol)
    → next_scalar s ≡ found
    → (r : List Symbol) (t : ScalarType)
    → scalar_of found s ≡ Ok (t, r)
    → s ≡ scalar_symbols t r
scalar_of-spelled None s is r t e = absurd (cc e)
scalar_of-spelled (Some u) s is r t e = respelled scalar_symbols s u t (drop 1 s) r e (next_scalar-is s u is)

pub scalar-spelled : Spelled scalar scalar_symbols
scalar-spelled s r t e = scalar_of-spelled (next_scalar s) s refl r t e

pub scalar-reads : (t : ScalarType) (r : List Symbol) → scalar (scalar_symbols t r) ≡ Ok (t, r)
scalar-reads Byte r = refl
scalar-reads Address r = refl

result_of-spelled : (found : Option ScalarType) (s : List Symbol)
    → next_scalar s ≡ found
    → (r : List Symbol) (t : Option ScalarType)
    → result_of found s ≡ Ok (t, r)
    → s ≡ optional scalar_symbols t r
result_of-spelled None s is r t e = respelled (optional scalar_symbols) s None t s r e refl
result_of-spelled (Some u) s is r t e =
    respelled (optional scalar_symbols) s (Some u) t (drop 1 s) r e (next_scalar-is s u is)

pub result_type-spelled : Spelled result_type (optional scalar_symbols)
result_type-spelled s r t e = result_of-spelled (next_scalar s) s refl r t e

pub result_type-reads : (t : Option ScalarType) (r : List Symbol)
    → next_scalar r ≡ None
    → result_type (optional scalar_symbols t r) ≡ Ok (t, r)
result_type-reads None r ends = ap (λ g. result_of g r) ends
result_type-reads (Some Byte) r ends = refl
result_type-reads (Some Address) r ends = refl

pub count-spelled : Spelled count (optional count_symbols)
count-spelled s r n e = elim (if_cases (at_mark marks.LeftParenthesis s) _ _ _ e) [
  | inl h ↦
      let a = bind_ok (number (drop 1 s)) _ _ h.1 in
      let b = bind_ok (mark marks.RightParenthesis a.0.1) _ _ a.2 in
      respelled (optional count_symbols) s (Some (a.0.0)) n b.0 r b.2
      (at_mark-is marks.LeftParenthesis s h.0
      ∙ ap (λ k. MarkSymbol marks.LeftParenthesis ∷ k)
      (number-ok (drop 1 s) a.0.1 a.0.0 a.1
      ∙ ap (λ k. NumberSymbol a.0.0 ∷ k) (mark-ok marks.RightParenthesis a.0.1 b.0 b.1)))
  | inr h ↦ respelled (optional count_symbols) s None n s r h.1 refl
]

pub count-reads : (n : Option Number) (r : List Symbol)
    → at_mark marks.LeftParenthesis r ≡ false
    → count (optional count_symbols n r) ≡ Ok (n, r)
count-reads None r ends = if_false (at_mark marks.LeftParenthesis r) _ _ ends
count-reads (Some n) r ends = refl

dimension_inside-spelled : (s r : List Symbol) (d : Dimension)
    → dimension_inside s ≡ Ok (d, MarkSymbol marks.RightParenthesis ∷ r)
    → MarkSymbol marks.LeftParenthesis ∷ s ≡ dimension_symbols d r
dimension_inside-spelled s r d e = elim (if_cases (at_mark marks.Asterisk s) _ _ _ e) [
  | inl h ↦
      let same = same_reading Implied d (drop 1 s) (MarkSymbol marks.RightParenthesis ∷ r) h.1 in
      ap (λ k. MarkSymbol marks.LeftParenthesis ∷ k)
      (at_mark-is marks.Asterisk s h.0 ∙ ap (λ k. MarkSymbol marks.Asterisk ∷ k) same.1)
      ∙ ap (λ k. dimension_symbols k r) same.0
  | inr h ↦
      let a = bind_ok (number s) _ _ h.1 in
      let same = same_reading (Count a.0.0) d a.0.1 (MarkSymbol marks.RightParenthesis ∷ r) a.2 in
      ap (λ k. MarkSymbol marks.LeftParenthesis ∷ k)
      (number-ok s a.0.1 a.0.0 a.1 ∙ ap (λ k. NumberSymbol a.0.0 ∷ k) same.1)
      ∙ ap (λ k. dimension_symbols k r) same.0
]

pub dimension-spelled : Spelled dimension (optional dimension_symbols)
dimension-spelled s r d e = elim (if_cases (at_mark marks.LeftParenthesis s) _ _ _ e) [
  | inl h ↦
      let a = bind_ok (dimension_inside (drop 1 s)) _ _ h.1 in
      let b = bind_ok (mark marks.RightParenthesis a.0.1) _ _ a.2 in
      let inside : dimension_inside (drop 1 s) ≡ Ok (a.0.0, MarkSymbol marks.RightParenthesis ∷ b.0) =
      a.1 ∙ ap (λ k. read a.0.0 k) (mark-ok marks.RightParenthesis a.0.1 b.0 b.1) in
      respelled (optional dimension_symbols) s (Some (a.0.0)) d b.0 r b.2
      (at_mark-is marks.LeftParenthesis s h.0 ∙ dimension_inside-spelled (drop 1 s) b.0 a.0.0 inside)
  | inr h ↦ respelled (optional dimension_symbols) s None d s r h.1 refl
]

pub dimension-reads : (d : Option Dimension) (r : List Symbol)
    → at_mark marks.LeftParenthesis r ≡ false
    → dimension (optional dimension_symbols d r) ≡ Ok (d, r)
dimension-reads None r ends = if_false (at_mark marks.LeftParenthesis r) _ _ ends
dimension-reads (Some (Count n)) r ends = refl
dimension-reads (Some Implied) r ends = refl

pub member-spelled : Spelled member member_symbols
unfolding member
member-spelled s r m e =
    let a = bind_ok (name s) _ _ e in
    let b = bind_ok (count a.0.1) _ _ a.2 in
    let c = bind_ok (scalar b.0.1) _ _ b.2 in
    respelled member_symbols s (record { name = a.0.0; dimension = b.0.0; scalar = c.0.0 }) m c.0.1 r c.2
    (name-ok s a.0.1 a.0.0 a.1
    ∙ ap (λ k. NameSymbol a.0.0 ∷ k)
    (count-spelled a.0.1 b.0.1 b.0.0 b.1
    ∙ ap (optional count_symbols b.0.0) (scalar-spelled b.0.1 c.0.1 c.0.0 c.1)))

no_parenthesis-scalar : (t : ScalarType) (r : List Symbol)
    → at_mark marks.LeftParenthesis (scalar_symbols t r) ≡ false
no_parenthesis-scalar Byte r = refl
no_parenthesis-scalar Address r = refl

pub member-reads : (m : Member) (r : List Symbol) → member (member_symbols m r) ≡ Ok (m, r)
unfolding member
member-reads m r =
    bind_at (count (optional count_symbols m.dimension (scalar_symbols m.scalar r))) _ _
    (count-reads m.dimension (scalar_symbols m.scalar r) (no_parenthesis-scalar m.scalar r))
    ∙ bind_at (scalar (scalar_symbols m.scalar r)) _ _ (scalar-reads m.scalar r)
