-- What a statement after its labels adds to a list.
use Rattle.types.proofs.Prelude.{◌≡◌, ℕ, ◌+◌, suc, List, [], ◌∷◌, ◌++◌, length, ap, refl, sym, ◌∙◌, append_assoc, arith, length-append, append-nil, Identifier, StatementTree, StatementTrees, MoreTrees, Statement, Label, TypedStatements, NoStatements, MoreStatements, statement_view, statements_view, after_labels, labels_before, places_of, places_from, Listing, with_label, with_labels, with_statement, statements_before}

pub before_more : (made : List Statement) (statement : Statement) (rest : TypedStatements)
    → statements_before (made ++ statement ∷ []) rest
    ≡ statements_before made (MoreStatements (statement_view statement) rest)
before_more [] statement rest = refl
before_more (first ∷ others) statement rest =
    ap (MoreStatements (statement_view first)) (before_more others statement rest)

pub before_none : (made : List Statement) → statements_before made NoStatements ≡ statements_view made
before_none [] = refl
before_none (first ∷ others) = ap (MoreStatements (statement_view first)) (before_none others)

labels_add : (n k : ℕ) → (n + 1) + k ≡ n + suc k
labels_add n k = omega arith

pub label_after : (labels : List Identifier) (listing : Listing)
    → (with_labels labels listing).label ≡ listing.label + length labels
label_after [] listing = omega arith
label_after (label ∷ others) listing =
    label_after others (with_label listing) ∙ labels_add listing.label (length others)

pub count_after : (labels : List Identifier) (listing : Listing)
    → length (with_labels labels listing).statements ≡ length listing.statements + length labels
count_after [] listing = omega arith
count_after (label ∷ others) listing =
    count_after others (with_label listing)
    ∙ ap (λ n. n + length others) (length-append listing.statements (Label listing.label ∷ []))
    ∙ labels_add (length listing.statements) (length others)

places_after : (labels : List Identifier) (listing : Listing)
    → (with_labels labels listing).places ≡ listing.places ++ places_of (length listing.statements) labels
places_after [] listing = sym (append-nil listing.places)
places_after (label ∷ others) listing =
    places_after others (with_label listing)
    ∙ ap (λ n. (listing.places ++ length listing.statements ∷ []) ++ places_of n others)
    (length-append listing.statements (Label listing.label ∷ []))
    ∙ append_assoc listing.places (length listing.statements ∷ [])
    (places_of (length listing.statements + 1) others)

labels_in_front : (labels : List Identifier) (listing : Listing) (rest : TypedStatements)
    → statements_before (with_labels labels listing).statements rest
    ≡ statements_before listing.statements (after_labels listing.label labels rest)
labels_in_front [] listing rest = refl
labels_in_front (label ∷ others) listing rest =
    labels_in_front others (with_label listing) rest
    ∙ before_more listing.statements (Label listing.label) (after_labels (listing.label + 1) others rest)

pub statement_in_front : (labels : List Identifier) (statement : Statement) (listing : Listing)
    (rest : TypedStatements)
    → statements_before (with_statement labels statement listing).statements rest
    ≡ statements_before listing.statements
    (after_labels listing.label labels (MoreStatements (statement_view statement) rest))
statement_in_front labels statement listing rest =
    before_more (with_labels labels listing).statements statement rest
    ∙ labels_in_front labels listing (MoreStatements (statement_view statement) rest)

-- where the labels of all statements stand
pub places_on : (tree : StatementTree) (others : StatementTrees) (statement : Statement) (listing : Listing)
    → (with_statement (labels_before tree) statement listing).places
    ++ places_from (length (with_statement (labels_before tree) statement listing).statements) others
    ≡ listing.places ++ places_from (length listing.statements) (MoreTrees tree others)
places_on tree others statement listing =
    let labels : List Identifier = labels_before tree in
    ap (λ places. places ++ places_from (length (with_statement labels statement listing).statements) others)
    (places_after labels listing)
    ∙ ap (λ n. (listing.places ++ places_of (length listing.statements) labels) ++ places_from n others)
    (length-append (with_labels labels listing).statements (statement ∷ [])
    ∙ ap (λ n. n + 1) (count_after labels listing))
    ∙ append_assoc listing.places (places_of (length listing.statements) labels) (places_from (length listing.statements + length labels + 1) others)
