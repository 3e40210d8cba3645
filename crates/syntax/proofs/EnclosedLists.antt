-- What is read between parentheses, and what is made of it.
use Rattle.syntax.proofs.Prelude.{List, Option, Some, None, Result, Ok, Err, ◌≡◌, drop, refl, LeftParenthesis, RightParenthesis, Member, Storage, Symbol, ItemTypeTree, StructureItem, RestrictedTree, ValueListTree, member, structure, restricted, next_storage, values_of, value_list, items, in_parentheses, Parser, Reading, Cause, ◌>>=◌, mark}
use Rattle.syntax.proofs.DeclarationItems.{member-keeps, restricted-keeps}

-- no item adds symbols
pub ruleset member_list = (member-keeps)

pub ruleset value_items = (restricted-keeps)

-- what is made of what was read
abbrev pub made_of : {A B : Type 0} → (A → B) → Reading A → Reading B
made_of make (Ok found) = Ok (make found.0, found.1)
made_of make (Err cause) = Err cause

after_close : {A B : Type 0} (make : A → B) (a : A) (close : Result (List Symbol) Cause)
    → (close >>= λ (r : List Symbol). Ok (make a, r))
    ≡ made_of make (close >>= λ (r : List Symbol). Ok (a, r))
after_close make a (Ok r) = refl
after_close make a (Err cause) = refl

after_inner : {A B : Type 0} (make : A → B) (found : Reading A)
    → (found >>= λ (f : A × List Symbol). mark RightParenthesis f.1 >>= λ (r : List Symbol). Ok (make f.0, r))
    ≡ made_of make
    (found >>= λ (f : A × List Symbol). mark RightParenthesis f.1 >>= λ (r : List Symbol). Ok (f.0, r))
after_inner make (Ok f) = after_close make f.0 (mark RightParenthesis f.1)
after_inner make (Err cause) = refl

after_open : {A B : Type 0} (make : A → B) (inner : Parser A) (first : Result (List Symbol) Cause)
    → (first >>= λ (l : List Symbol). inner l >>= λ (f : A × List Symbol). mark RightParenthesis f.1
    >>= λ (r : List Symbol). Ok (make f.0, r))
    ≡ made_of make
    (first >>= λ (l : List Symbol). inner l >>= λ (f : A × List Symbol). mark RightParenthesis f.1
    >>= λ (r : List Symbol). Ok (f.0, r))
after_open make inner (Ok l) = after_inner make (inner l)
after_open make inner (Err cause) = refl

-- the members of a structure
pub structure_is : (s : List Symbol)
    → structure s ≡ made_of StructureItem (in_parentheses (items member) s)
structure_is s = after_open StructureItem (items member) (mark LeftParenthesis s)

-- the values of an item
abbrev values : Storage → List RestrictedTree → Option ValueListTree
values storage found = Some (record { storage = storage; values = found })

abbrev pub values_after : Option Storage → Parser (Option ValueListTree)
values_after None symbols = Ok (None, symbols)
values_after (Some storage) symbols =
    made_of (values storage) (in_parentheses (items restricted) (drop 1 symbols))

pub value_list_is : (s : List Symbol) → value_list s ≡ values_after (next_storage s) s
unfolding value_list
value_list_is s = go (next_storage s)
  where
    go : (storage : Option Storage) → values_of storage s ≡ values_after storage s
    go None = refl
    go (Some storage) =
        after_open (values storage) (items restricted) (mark LeftParenthesis (drop 1 s))
