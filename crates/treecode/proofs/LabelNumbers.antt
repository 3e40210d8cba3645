-- The numbers that the labels of a body get; each label in the body has one.
use Rattle.treecode.proofs.Prelude.{◌≡◌, ◌⊎◌, ℕ, zero, suc, ◌+◌, ◌<◌, ◌≤◌, List, [], ◌∷◌, ◌++◌, length, Option, Some, slice_get, slice_index_or, inl, inr, refl, sym, ap, ◌∙◌, subst, arith, Any, append_assoc, append-nil, LabelsOf, IsAmongLabels, LabelsStand, IsNoLabel, ListsStand, ListsStandInStatements, ListsStandInCases, labels_of_list, TypedStatement, LabelStatement, TypedStatements, NoStatements, MoreStatements, numbers_from, number_in, with_number, Walk, numbered, with_label, any_later, got_first}
use Rattle.treecode.proofs.AddedExpressions.{one_more}
use Rattle.treecode.proofs.Grown.{holds_with_more}

-- the number for an index in a table with one more
pub same_number : (entries : List (Option ℕ)) (index number : ℕ)
    → number_in (with_number entries index number) index ≡ Some number
same_number [] zero number = refl
same_number [] (suc index) number = same_number [] index number
same_number (entry ∷ entries) zero number = refl
same_number (entry ∷ entries) (suc index) number = same_number entries index number

pub same_or_other : (entries : List (Option ℕ)) (index number other : ℕ)
    → (index ≡ other) ⊎ (number_in (with_number entries index number) other ≡ number_in entries other)
same_or_other [] zero number zero = inl refl
same_or_other [] zero number (suc other) = inr refl
same_or_other [] (suc index) number zero = inr refl
same_or_other [] (suc index) number (suc other) =
    elim (same_or_other [] index number other) [ inl e ↦ inl (ap suc e) | inr e ↦ inr e ]
same_or_other (entry ∷ entries) zero number zero = inl refl
same_or_other (entry ∷ entries) zero number (suc other) = inr refl
same_or_other (entry ∷ entries) (suc index) number zero = inr refl
same_or_other (entry ∷ entries) (suc index) number (suc other) =
    elim (same_or_other entries index number other) [ inl e ↦ inl (ap suc e) | inr e ↦ inr e ]

-- a label has a number, which is its position among the labels of the body
pub record HasNumber (labels : List (Option ℕ)) (known : List ℕ) (label : ℕ) : Type 0 where
  pub number : ℕ
  pub is : number_in labels label ≡ Some number
  pub at : slice_get known number ≡ Some label

-- the label with the new number
own_label : (labels : List (Option ℕ)) (known : List ℕ) (first count label : ℕ) → count ≡ length known
    → first ≡ label → HasNumber (with_number labels first count) (known ++ first ∷ []) label
own_label labels known first count label counted e = record {
  number = count;
  is = ap (λ (one : ℕ). number_in (with_number labels first count) one) (sym e)
      ∙ same_number labels first count;
  at = ap (λ (one : ℕ). slice_get (known ++ first ∷ []) one) counted ∙ got_first known first [] ∙ ap Some e;
}

-- one more label
one_label : (labels : List (Option ℕ)) (known : List ℕ) (first count label : ℕ) → count ≡ length known
    → (first ≡ label) ⊎ HasNumber labels known label
    → HasNumber (with_number labels first count) (known ++ first ∷ []) label
one_label labels known first count label counted (inl e) = own_label labels known first count label counted e
one_label labels known first count label counted (inr has) =
    elim (same_or_other labels first count label) [
      | inl e ↦ own_label labels known first count label counted e
      | inr e ↦ record {
        number = has.number;
        is = e ∙ has.is;
        at = holds_with_more known (first ∷ []) has.number label has.at;
      }
    ]

pub at_or_after : (first label : ℕ) → first ≤ label → (first ≡ label) ⊎ (suc first ≤ label)
at_or_after zero zero within = inl refl
at_or_after zero (suc label) within = inr (omega arith)
at_or_after (suc first) zero within = absurd (omega arith)
at_or_after (suc first) (suc label) within =
    elim (at_or_after first label (omega arith)) [ inl e ↦ inl (ap suc e) | inr e ↦ inr (omega arith) ]

-- the labels of a list have numbers, and those that had one before have one
pub record AreNumbered (walk after : Walk) (known all : List ℕ) (first count : ℕ) : Type 0 where
  pub nodes : after.nodes ≡ walk.nodes
  pub height : after.height ≡ walk.height
  pub counted : after.label_count ≡ length all
  pub before : (label : ℕ) → HasNumber walk.labels known label → HasNumber after.labels all label
  pub own : (label : ℕ) → first ≤ label → label < first + count → HasNumber after.labels all label

label_and_more : (walk after : Walk) (known more : List ℕ) (first count : ℕ) → walk.label_count ≡ length known
    → AreNumbered (with_label walk first) after (known ++ first ∷ [])
    ((known ++ first ∷ []) ++ more) (suc first) count
    → AreNumbered walk after known (known ++ first ∷ more) first (suc count)
label_and_more walk after known more first count counted rest =
    subst (λ (all : List ℕ). AreNumbered walk after known all first (suc count))
    (append_assoc known (first ∷ []) more)
    (record {
      nodes = rest.nodes;
      height = rest.height;
      counted = rest.counted;
      before =
          λ label has. rest.before label
          (one_label walk.labels known first walk.label_count label counted (inr has));
      own = own;
    })
  where
    own : (label : ℕ) → first ≤ label → label < first + suc count
        → HasNumber after.labels ((known ++ first ∷ []) ++ more) label
    own label from below =
        elim (at_or_after first label from) [
          | inl e ↦ rest.before label (own_label walk.labels known first walk.label_count label counted e)
          | inr past ↦ rest.own label past (omega arith)
        ]

pub labels_numbered_from : (walk : Walk) (known : List ℕ) (first : ℕ) (places : List ℕ)
    → walk.label_count ≡ length known
    → AreNumbered walk (numbered walk first (length places)) known (known ++ numbers_from first places) first
    (length places)
labels_numbered_from walk known first [] counted =
    subst (λ (all : List ℕ). AreNumbered walk walk known all first 0) (sym (append-nil known))
    (record {
      nodes = refl;
      height = refl;
      counted = counted;
      before = λ label has. has;
      own = λ label from below. absurd (omega arith);
    })
labels_numbered_from walk known first (place ∷ places) counted =
    label_and_more walk (numbered walk first (suc (length places))) known
    (numbers_from (suc first) places) first
    (length places) counted
    (labels_numbered_from (with_label walk first) (known ++ first ∷ []) (suc first) places
    (ap suc counted ∙ sym (one_more known first)))

-- one of a list with another before it
pub first_or_later : {A : Type 0} {P : A → Type 0} (first : A) (others : List A) → Any P (first ∷ others)
    → P first ⊎ Any P others
first_or_later {P = P} first others any = by_index any.0 any.1 any.2 any.3 any.4
  where
    by_index : (index : ℕ) (x : _) → index < length (first ∷ others)
        → slice_index_or (first ∷ others) index x ≡ x → P x
        → P first ⊎ Any P others
    by_index zero x below is holds = inl (subst P (sym is) holds)
    by_index (suc index) x below is holds = inr (index, x, omega arith, is, holds)

-- the labels of the lists around have numbers
pub record Knows (labels : List (Option ℕ)) (count : ℕ) (known : List ℕ)
    (around : List LabelsOf) : Type 0 where
  pub counted : count ≡ length known
  pub found : (label : ℕ) → Any (IsAmongLabels label) around → HasNumber labels known label

-- at the start of a list, its own labels have numbers too
pub knows_list : (walk : Walk) (known : List ℕ) (around : List LabelsOf) (first : ℕ) (places : List ℕ)
    → Knows walk.labels walk.label_count known around
    → Knows (numbered walk first (length places)).labels (numbered walk first (length places)).label_count
    (known ++ numbers_from first places) (labels_of_list first places ∷ around)
knows_list walk known around first places knows = record {
  counted = are.counted;
  found = λ label any.
      elim (first_or_later (labels_of_list first places) around any) [
        | inl own ↦ are.own label own.0 own.1
        | inr other ↦ are.before label (knows.found label other)
      ];
}
  where
    are : AreNumbered walk (numbered walk first (length places)) known
        (known ++ numbers_from first places) first
        (length places)
    are = labels_numbered_from walk known first places knows.counted

-- after a list those around it have their numbers
pub knows_after : (labels : List (Option ℕ)) (count : ℕ) (known : List ℕ) (first : LabelsOf)
    (around : List LabelsOf)
    → Knows labels count known (first ∷ around) → Knows labels count known around
knows_after labels count known first around knows = record {
  counted = knows.counted;
  found = λ label any. knows.found label (any_later first around any);
}

-- a label statement has a label of one of the lists around
abbrev pub LabelIsAround : List LabelsOf → TypedStatement → Type 0
LabelIsAround around (LabelStatement label) = Any (IsAmongLabels label) around
LabelIsAround around statement = Unit {0}

pub no_label_around : (around : List LabelsOf) (tree : TypedStatement) → IsNoLabel tree
    → LabelIsAround around tree
no_label_around around (LabelStatement label) none = absurd none
no_label_around around tree none = tt

-- the same for each of statements in a row, and for the lists in them
abbrev pub StandAround : List LabelsOf → TypedStatements → Type 0
StandAround around NoStatements = Unit {0}
StandAround around (MoreStatements first others) =
    LabelIsAround around first × ListsStand first × StandAround around others

pub cases_stand : (around : List LabelsOf) (trees : TypedStatements) → ListsStandInCases trees
    → StandAround around trees
cases_stand around NoStatements stand = tt
cases_stand around (MoreStatements first others) stand =
    (no_label_around around first stand.0, stand.1, cases_stand around others stand.2)

module _ (around : List LabelsOf) (from : ℕ) (all : List ℕ) where
  pub labels_stand : (label place : ℕ) (places : List ℕ) (trees : TypedStatements)
      → LabelsStand label place places trees → ListsStandInStatements trees
      → from ≤ label → label + length places ≡ from + length all
      → StandAround (labels_of_list from all ∷ around) trees
  labels_stand label place places NoStatements stand lists above sum = tt
  labels_stand label place [] (MoreStatements (LabelStatement number) others) stand lists above sum =
      absurd stand
  labels_stand label place (first ∷ places) (MoreStatements (LabelStatement number) others)
      stand lists above sum = (
        (0, labels_of_list from all, omega arith, refl, (is_above number stand.0, is_below number stand.0)),
        lists.0,
        labels_stand (label + 1) (place + 1) places others stand.2 lists.1 (omega arith) (omega arith),
      )
    where
      is_above : (number : ℕ) → number ≡ label → from ≤ number
      is_above number e = omega arith

      is_below : (number : ℕ) → number ≡ label → number < from + length all
      is_below number e = omega arith
  labels_stand label place [] (MoreStatements statement others) stand lists above sum =
      (tt, lists.0, labels_stand label (place + 1) [] others stand lists.1 above sum)
  labels_stand label place (first ∷ places) (MoreStatements statement others) stand lists above sum =
      (tt, lists.0, labels_stand label (place + 1) (first ∷ places) others stand lists.1 above sum)
