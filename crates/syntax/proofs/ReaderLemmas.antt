-- What the looks at symbols tell.
use Rattle.syntax.proofs.Prelude.{◌≡◌, ◌≢◌, ◌⊎◌, inl, inr, ℕ, Bool, true, false, ◌==◌, List, [], ◌∷◌, drop, get_or, Option, Some, None, Result, Ok, Err, if◌then◌else◌, refl, sym, ◌∙◌, ap, eqb-true, eq-eqb, false_from_ne_true, Mark, ReservedWord, BinaryOperator, Or, Xor, And, Equal, Less, Greater, LessOrEqual, GreaterOrEqual, Unequal, Add, Subtract, Multiply, Divide, Modulo, Identifier, Number, Place, binary_symbol, constant_symbols, Symbol, NameSymbol, NumberSymbol, StringSymbol, ReservedSymbol, PlacedSymbol, MarkSymbol, SemicolonSymbol, StringTree, ConstantTree, NumberConstant, StringConstant, operator_of, next_operator, Parser, Cause, Unexpected, ◌>>=◌, mark_number, word_number, at_mark, at_word, place_of_word, next_semicolon, next_name, next_constant, mark, word, taken, semicolon, name, constant, number, string}
use Rattle.words.specs.declared.vocabulary.Mark.TheVariants as marks
use Rattle.words.specs.declared.vocabulary.ReservedWord.TheVariants as words

-- the marks in the order of their numbers
marks_in_order : List Mark
marks_in_order =
    marks.EqualSign ∷ marks.LessSign ∷ marks.GreaterSign ∷ marks.LessEqualSign ∷ marks.GreaterEqualSign
    ∷ marks.UnequalSign ∷ marks.PlusSign
    ∷ marks.MinusSign ∷ marks.Asterisk ∷ marks.Slash ∷ marks.LeftParenthesis ∷ marks.RightParenthesis
    ∷ marks.Comma ∷ marks.Semicolon ∷ marks.Colon
    ∷ marks.Period ∷ marks.AssignSign ∷ []

mark_at : ℕ → Mark
unfolding marks_in_order
mark_at n = get_or marks_in_order n marks.Comma

mark_at-number : (m : Mark) → mark_at (mark_number m) ≡ m
unfolding mark_at
mark_at-number marks.EqualSign = refl
mark_at-number mark = refl

-- marks with the same number are the same
pub mark_number-same : (m other : Mark) → mark_number m ≡ mark_number other → m ≡ other
mark_number-same m other e = sym (mark_at-number m) ∙ ap mark_at e ∙ mark_at-number other

-- the reserved words in the order of their numbers
words_in_order : List ReservedWord
words_in_order =
    words.Address ∷ words.And ∷ words.At ∷ words.Based ∷ words.By ∷ words.Byte ∷ words.Call ∷ words.Case
    ∷ words.Data ∷ words.Declare ∷ words.Disable
    ∷ words.Do ∷ words.Else ∷ words.Enable ∷ words.End ∷ words.Eof ∷ words.External ∷ words.Go ∷ words.Goto
    ∷ words.Halt ∷ words.If ∷ words.Initial
    ∷ words.Interrupt ∷ words.Label ∷ words.Literally ∷ words.Minus ∷ words.Mod ∷ words.Not ∷ words.Or
    ∷ words.Plus ∷ words.Procedure ∷ words.Public
    ∷ words.Reentrant ∷ words.Return ∷ words.Structure ∷ words.Then ∷ words.To ∷ words.While ∷ words.Xor ∷ []

word_at : ℕ → ReservedWord
unfolding words_in_order
word_at n = get_or words_in_order n words.And

word_at-number : (w : ReservedWord) → word_at (word_number w) ≡ w
unfolding word_at
word_at-number words.Address = refl
word_at-number word = refl

-- reserved words with the same number are the same
pub word_number-same : (w other : ReservedWord) → word_number w ≡ word_number other → w ≡ other
word_number-same w other e = sym (word_at-number w) ∙ ap word_at e ∙ word_at-number other

-- equal numbers of marks and words, as tests
pub equal_marks : (m other : Mark) → (mark_number m == mark_number other) ≡ true → m ≡ other
equal_marks m other e = mark_number-same m other (eqb-true _ _ e)

pub equal_words : (w other : ReservedWord) → (word_number w == word_number other) ≡ true → w ≡ other
equal_words w other e = word_number-same w other (eqb-true _ _ e)

pub other_marks : (m other : Mark) → m ≢ other → (mark_number m == mark_number other) ≡ false
other_marks m other differ = false_from_ne_true _ (λ e. differ (equal_marks m other e))

pub other_words : (w other : ReservedWord) → w ≢ other → (word_number w == word_number other) ≡ false
other_words w other differ = false_from_ne_true _ (λ e. differ (equal_words w other e))

pub same_mark : (m : Mark) → (mark_number m == mark_number m) ≡ true
same_mark m = eq-eqb _ _ refl

pub same_word : (w : ReservedWord) → (word_number w == word_number w) ≡ true
same_word w = eq-eqb _ _ refl

-- a test that holds, and one that does not
pub if_true : {A : Type 0} (b : Bool) (x y : A) → b ≡ true → (if b then x else y) ≡ x
if_true b x y e = ap (λ t. if t then x else y) e

pub if_false : {A : Type 0} (b : Bool) (x y : A) → b ≡ false → (if b then x else y) ≡ y
if_false b x y e = ap (λ t. if t then x else y) e

-- which way a test went
pub if_cases : {A : Type 0} (b : Bool) (x y z : A)
    → (if b then x else y) ≡ z
    → ((b ≡ true) × (x ≡ z)) ⊎ ((b ≡ false) × (y ≡ z))
if_cases true x y z e = inl (refl, e)
if_cases false x y z e = inr (refl, e)

-- what is read only where a test holds
pub guarded_ok : {A : Type 0} (b : Bool) (r : Result A Cause) (c : Cause) (y : A)
    → (if b then r else Err c) ≡ Ok y
    → (b ≡ true) × (r ≡ Ok y)
guarded_ok true r c y e = (refl, e)
guarded_ok false r c y e = absurd cc

-- what is read one thing after another
pub bind_ok : {A B : Type 0} (r : Result A Cause) (f : A → Result B Cause) (y : B)
    → (r >>= f) ≡ Ok y
    → (x : A) × (r ≡ Ok x) × (f x ≡ Ok y)
bind_ok (Ok x) f y e = (x, refl, e)
bind_ok (Err c) f y e = absurd cc

-- what goes on the same way after what is read
pub bind_same : {A B : Type 0} (r : Result A Cause) (f g : A → Result B Cause)
    → ((x : A) → r ≡ Ok x → f x ≡ g x)
    → (r >>= f) ≡ (r >>= g)
bind_same (Ok x) f g same = same x refl
bind_same (Err c) f g same = refl

abbrev pair_of : {A : Type 0} → A → List Symbol → A × List Symbol
pair_of a r = (a, r)

-- what was read, with the symbols after it
abbrev pub read : {A : Type 0} → A → Parser A
read a r = Ok (a, r)

-- the same reading gives the same value and the same symbols
pub same_reading : {A : Type 0} (a b : A) (r s : List Symbol) → read a r ≡ read b s → (a ≡ b) × (r ≡ s)
same_reading {A} a b r s e =
    let pair : pair_of a r ≡ pair_of b s = cc in
    (ap (λ (t : A × List Symbol). t.0) pair, ap (λ (t : A × List Symbol). t.1) pair)

-- what goes on after what is read, and what fails with it
pub bind_at : {A B : Type 0} (r : Result A Cause) (f : A → Result B Cause) (x : A)
    → r ≡ Ok x
    → (r >>= f) ≡ f x
bind_at r f x e = ap (λ t. t >>= f) e

pub bind_fails : {A B : Type 0} (r : Result A Cause) (f : A → Result B Cause) (c : Cause)
    → r ≡ Err c
    → (r >>= f) ≡ Err c
bind_fails r f c e = ap (λ t. t >>= f) e

-- the symbol that is looked at
pub at_mark-is : (m : Mark) (s : List Symbol) → at_mark m s ≡ true → s ≡ MarkSymbol m ∷ drop 1 s
at_mark-is m [] e = absurd cc
at_mark-is m (MarkSymbol found ∷ rest) e = ap (λ k. MarkSymbol k ∷ rest) (equal_marks found m e)
at_mark-is m (other ∷ rest) e = absurd cc

pub at_word-is : (w : ReservedWord) (s : List Symbol) → at_word w s ≡ true → s ≡ ReservedSymbol w ∷ drop 1 s
at_word-is w [] e = absurd cc
at_word-is w (ReservedSymbol found ∷ rest) e = ap (λ k. ReservedSymbol k ∷ rest) (equal_words found w e)
at_word-is w (other ∷ rest) e = absurd cc

-- a value that is there only where a test holds
some_where : {A : Type 0} (b : Bool) (x y : A) → (if b then Some x else None) ≡ Some y → (b ≡ true) × (x ≡ y)
some_where true x y e = (refl, cc)
some_where false x y e = absurd cc

pub place_of_word-is : (w : ReservedWord) (s : List Symbol) (p : Place)
    → place_of_word w s ≡ Some p
    → s ≡ PlacedSymbol w p ∷ drop 1 s
place_of_word-is w [] p e = absurd cc
place_of_word-is w (PlacedSymbol found q ∷ rest) p e =
    let parts = some_where (word_number found == word_number w) q p e in
    let same : found ≡ w = equal_words found w parts.0 in
    let place : q ≡ p = parts.1 in
    cc
place_of_word-is w (other ∷ rest) p e = absurd cc

-- the symbol of this word, with its place, is seen
pub place_of_word-at : (w : ReservedWord) (p : Place) (r : List Symbol)
    → place_of_word w (PlacedSymbol w p ∷ r) ≡ Some p
place_of_word-at w p r = if_true (word_number w == word_number w) (Some p) None (same_word w)

pub next_semicolon-is : (s : List Symbol) (p : Place)
    → next_semicolon s ≡ Some p
    → s ≡ SemicolonSymbol p ∷ drop 1 s
next_semicolon-is [] p e = absurd cc
next_semicolon-is (SemicolonSymbol found ∷ rest) p e = cc
next_semicolon-is (other ∷ rest) p e = absurd cc

pub next_name-is : (s : List Symbol) (n : Identifier) → next_name s ≡ Some n → s ≡ NameSymbol n ∷ drop 1 s
next_name-is [] n e = absurd cc
next_name-is (NameSymbol found ∷ rest) n e = cc
next_name-is (other ∷ rest) n e = absurd cc

pub next_constant-is : (s : List Symbol) (c : ConstantTree)
    → next_constant s ≡ Some c
    → s ≡ constant_symbols c (drop 1 s)
next_constant-is [] c e = absurd cc
next_constant-is (NumberSymbol k ∷ rest) c e =
    ap (λ t. constant_symbols t rest) {x = NumberConstant k} {y = c} cc
next_constant-is (StringSymbol t ∷ rest) c e =
    ap (λ t. constant_symbols t rest) {x = StringConstant t} {y = c} cc
next_constant-is (other ∷ rest) c e = absurd cc

pub next_constant-at : (c : ConstantTree) (r : List Symbol) → next_constant (constant_symbols c r) ≡ Some c
next_constant-at (NumberConstant k) r = refl
next_constant-at (StringConstant t) r = refl

pub at_mark-at : (m : Mark) (r : List Symbol) → at_mark m (MarkSymbol m ∷ r) ≡ true
at_mark-at m r = same_mark m

pub at_word-at : (w : ReservedWord) (r : List Symbol) → at_word w (ReservedSymbol w ∷ r) ≡ true
at_word-at w r = same_word w

-- the symbol of an operator
operator_of-is : (symbol : Symbol) (o : BinaryOperator)
    → operator_of symbol ≡ Some o
    → symbol ≡ binary_symbol o
operator_of-is (ReservedSymbol words.Or) o e = ap binary_symbol {x = Or} {y = o} cc
operator_of-is (ReservedSymbol words.Xor) o e = ap binary_symbol {x = Xor} {y = o} cc
operator_of-is (ReservedSymbol words.And) o e = ap binary_symbol {x = And} {y = o} cc
operator_of-is (ReservedSymbol words.Mod) o e = ap binary_symbol {x = Modulo} {y = o} cc
operator_of-is (MarkSymbol marks.EqualSign) o e = ap binary_symbol {x = Equal} {y = o} cc
operator_of-is (MarkSymbol marks.LessSign) o e = ap binary_symbol {x = Less} {y = o} cc
operator_of-is (MarkSymbol marks.GreaterSign) o e = ap binary_symbol {x = Greater} {y = o} cc
operator_of-is (MarkSymbol marks.LessEqualSign) o e = ap binary_symbol {x = LessOrEqual} {y = o} cc
operator_of-is (MarkSymbol marks.GreaterEqualSign) o e = ap binary_symbol {x = GreaterOrEqual} {y = o} cc
operator_of-is (MarkSymbol marks.UnequalSign) o e = ap binary_symbol {x = Unequal} {y = o} cc
operator_of-is (MarkSymbol marks.PlusSign) o e = ap binary_symbol {x = Add} {y = o} cc
operator_of-is (MarkSymbol marks.MinusSign) o e = ap binary_symbol {x = Subtract} {y = o} cc
operator_of-is (MarkSymbol marks.Asterisk) o e = ap binary_symbol {x = Multiply} {y = o} cc
operator_of-is (MarkSymbol marks.Slash) o e = ap binary_symbol {x = Divide} {y = o} cc
operator_of-is symbol o e = absurd cc

pub operator_of-symbol : (o : BinaryOperator) → operator_of (binary_symbol o) ≡ Some o
operator_of-symbol Or = refl
operator_of-symbol operator = refl

pub next_operator-is : (s : List Symbol) (o : BinaryOperator)
    → next_operator s ≡ Some o
    → s ≡ binary_symbol o ∷ drop 1 s
next_operator-is [] o e = absurd cc
next_operator-is (symbol ∷ rest) o e = ap (λ k. k ∷ rest) (operator_of-is symbol o e)

pub next_operator-at : (o : BinaryOperator) (r : List Symbol) → next_operator (binary_symbol o ∷ r) ≡ Some o
next_operator-at o r = operator_of-symbol o

-- what was read as a mark, a word, a name, a constant, a number and a string
pub mark-ok : (m : Mark) (s r : List Symbol) → mark m s ≡ Ok r → s ≡ MarkSymbol m ∷ r
mark-ok m s r e =
    let parts = guarded_ok (at_mark m s) (Ok (drop 1 s)) Unexpected r e in
    let rest : drop 1 s ≡ r = cc parts.1 in
    at_mark-is m s parts.0 ∙ ap (λ k. MarkSymbol m ∷ k) rest

pub word-ok : (w : ReservedWord) (s r : List Symbol) → word w s ≡ Ok r → s ≡ ReservedSymbol w ∷ r
word-ok w s r e =
    let parts = guarded_ok (at_word w s) (Ok (drop 1 s)) Unexpected r e in
    let rest : drop 1 s ≡ r = cc parts.1 in
    at_word-is w s parts.0 ∙ ap (λ k. ReservedSymbol w ∷ k) rest

pub mark-at : (m : Mark) (r : List Symbol) → mark m (MarkSymbol m ∷ r) ≡ Ok r
mark-at m r = if_true (at_mark m (MarkSymbol m ∷ r)) (Ok r) (Err Unexpected) (at_mark-at m r)

pub word-at : (w : ReservedWord) (r : List Symbol) → word w (ReservedSymbol w ∷ r) ≡ Ok r
word-at w r = if_true (at_word w (ReservedSymbol w ∷ r)) (Ok r) (Err Unexpected) (at_word-at w r)

pub taken-ok : {A : Type 0} (found : Option A) (s r : List Symbol) (a : A)
    → taken found s ≡ Ok (a, r)
    → (found ≡ Some a) × (drop 1 s ≡ r)
taken-ok (Some x) s r a e =
    let same = same_reading x a (drop 1 s) r e in
    (ap Some same.0, same.1)
taken-ok None s r a e = absurd cc

pub name-ok : (s r : List Symbol) (n : Identifier) → name s ≡ Ok (n, r) → s ≡ NameSymbol n ∷ r
name-ok s r n e =
    let parts = taken-ok (next_name s) s r n e in
    next_name-is s n parts.0 ∙ ap (λ k. NameSymbol n ∷ k) parts.1

pub semicolon-ok : (s r : List Symbol) (p : Place) → semicolon s ≡ Ok (p, r) → s ≡ SemicolonSymbol p ∷ r
semicolon-ok s r p e =
    let parts = taken-ok (next_semicolon s) s r p e in
    next_semicolon-is s p parts.0 ∙ ap (λ k. SemicolonSymbol p ∷ k) parts.1

pub constant-ok : (s r : List Symbol) (c : ConstantTree) → constant s ≡ Ok (c, r) → s ≡ constant_symbols c r
constant-ok s r c e =
    let parts = taken-ok (next_constant s) s r c e in
    next_constant-is s c parts.0 ∙ ap (constant_symbols c) parts.1

pub constant-at : (c : ConstantTree) (r : List Symbol) → constant (constant_symbols c r) ≡ Ok (c, r)
constant-at (NumberConstant k) r = refl
constant-at (StringConstant t) r = refl

pub number-ok : (s r : List Symbol) (n : Number) → number s ≡ Ok (n, r) → s ≡ NumberSymbol n ∷ r
number-ok [] r n e = absurd cc
number-ok (NumberSymbol k ∷ rest) r n e =
    let same = same_reading k n rest r e in
    let number : k ≡ n = same.0 in
    let later : rest ≡ r = same.1 in
    cc
number-ok (other ∷ rest) r n e = absurd cc

pub string-ok : (s r : List Symbol) (t : StringTree) → string s ≡ Ok (t, r) → s ≡ StringSymbol t ∷ r
string-ok [] r t e = absurd cc
string-ok (StringSymbol k ∷ rest) r t e =
    let same = same_reading k t rest r e in
    let string : k ≡ t = same.0 in
    let later : rest ≡ r = same.1 in
    cc
string-ok (other ∷ rest) r t e = absurd cc
