-- Items with the code's numbers for labels and names: numbers that were given before stay.
use Rattle.steps8080.proofs.Prelude.{◌≡◌, ℕ, zero, suc, ◌+◌, ◌<◌, ◌≤◌, ◌==◌, ◌⊎◌, inl, inr, Bool, true, false, ◌||◌, List, [], ◌∷◌, ◌++◌, length, max, min, replicate, set, arith, refl, ap, sym, subst, ◌∙◌, append_assoc, append-nil, Option, Some, None, option_map, unwrap_or, cases_lt, eq-eqb, list_any-append, InSegment, External, Item, Plain, WithWord, Byte, Address, Gap, Mark, Reference, AtLabel, AtTarget, AtNumber, Assembly, BoundOnce, is_bound, marks, AreWritable, CountsNamed, CountsOne, GrowsFor, KeepsMarks, MarksOnly, NumbersNames, Written, Writes, in_front, is_marked, jump_item, name_label, names_label, numbered, numbered_item, numbered_reference, use_name, uses_name}
use Rattle.asm8080.specs.declared.item.WordForm.{WordForm}
use Rattle.steps8080.specs.declared.step.LabelNumber.{LabelNumber}
use Rattle.steps8080.specs.internal.Externals.{AddsOnly, AreDifferent, Extends, IsNumbering, entries, entry}

-- a value that is found stays found
map_stays :
    {A B : Type 0} (f : A → B) (before after : Option A) (made : B)
    → ((found : A) → before ≡ Some found → after ≡ Some found)
    → option_map f before ≡ Some made
    → option_map f after ≡ Some made
map_stays f None after made stays given = let bad : None ≡ Some made = given in cc
map_stays f (Some found) after made stays given = ap (option_map f) (stays found refl) ∙ given

reference_stays :
    (before after : Written) (reference made : Reference)
    → Extends before.labels after.labels
    → Extends before.externals after.externals
    → numbered_reference before reference ≡ Some made
    → numbered_reference after reference ≡ Some made
reference_stays before after (AtLabel label) made labels externals given =
    map_stays AtLabel (entry before.labels label) (entry after.labels label) made (labels label) given
reference_stays before after (AtTarget (External name) offset) made labels externals given =
    map_stays
    (λ (number : ℕ). AtTarget (External number) offset)
    (entry before.externals name)
    (entry after.externals name)
    made
    (externals name)
    given
reference_stays before after (AtTarget (InSegment segment) offset) made labels externals given = given
reference_stays before after (AtNumber number) made labels externals given = given

item_stays :
    (before after : Written) (item made : Item)
    → Extends before.labels after.labels
    → Extends before.externals after.externals
    → numbered_item before item ≡ Some made
    → numbered_item after item ≡ Some made
item_stays before after (WithWord form reference) made labels externals given =
    map_stays
    (WithWord form)
    (numbered_reference before reference)
    (numbered_reference after reference)
    made
    (λ found is. reference_stays before after reference found labels externals is)
    given
item_stays before after (Address reference) made labels externals given =
    map_stays
    Address
    (numbered_reference before reference)
    (numbered_reference after reference)
    made
    (λ found is. reference_stays before after reference found labels externals is)
    given
item_stays before after (Mark label) made labels externals given =
    map_stays Mark (entry before.labels label) (entry after.labels label) made (labels label) given
item_stays before after (Plain instruction) made labels externals given = given
item_stays before after (Byte value) made labels externals given = given
item_stays before after (Gap count) made labels externals given = given

front_stays :
    (item later_item : Option Item) (others later : Option (List Item)) (made : List Item)
    → ((found : Item) → item ≡ Some found → later_item ≡ Some found)
    → ((found : List Item) → others ≡ Some found → later ≡ Some found)
    → in_front item others ≡ Some made
    → in_front later_item later ≡ Some made
front_stays (Some item) later_item (Some others) later made stays others_stay given =
    ap (λ front. in_front front later) (stays item refl)
    ∙ ap (in_front (Some item)) (others_stay others refl)
    ∙ given
front_stays (Some item) later_item None later made stays others_stay given =
    let bad : None ≡ Some made = given in cc
front_stays None later_item (Some others) later made stays others_stay given =
    let bad : None ≡ Some made = given in cc
front_stays None later_item None later made stays others_stay given =
    let bad : None ≡ Some made = given in cc

pub items_stay :
    (before after : Written) (items made : List Item)
    → Extends before.labels after.labels
    → Extends before.externals after.externals
    → numbered before items ≡ Some made
    → numbered after items ≡ Some made
items_stay before after [] made labels externals given = given
items_stay before after (item ∷ others) made labels externals given =
    front_stays
    (numbered_item before item)
    (numbered_item after item)
    (numbered before others)
    (numbered after others)
    made
    (λ found is. item_stays before after item found labels externals is)
    (λ found is. items_stay before after others found labels externals is)
    given

-- items after others
front_followed :
    (item : Option Item) (others all : Option (List Item)) (made more : List Item)
    → in_front item others ≡ Some made
    → ((found : List Item) → others ≡ Some found → all ≡ Some (found ++ more))
    → in_front item all ≡ Some (made ++ more)
front_followed (Some item) (Some others) all made more given followed =
    ap (in_front (Some item)) (followed others refl)
    ∙ ap (λ list. Some (list ++ more)) (ap (λ found. unwrap_or found []) given)
front_followed (Some item) None all made more given followed = let bad : None ≡ Some made = given in cc
front_followed None (Some others) all made more given followed = let bad : None ≡ Some made = given in cc
front_followed None None all made more given followed = let bad : None ≡ Some made = given in cc

items_followed :
    (written : Written) (items later made more : List Item)
    → numbered written items ≡ Some made
    → numbered written later ≡ Some more
    → numbered written (items ++ later) ≡ Some (made ++ more)
items_followed written [] later made more given followed =
    followed ∙ ap (λ list. Some (list ++ more)) (ap (λ found. unwrap_or found []) given)
items_followed written (item ∷ others) later made more given followed =
    front_followed
    (numbered_item written item)
    (numbered written others)
    (numbered written (others ++ later))
    made
    more
    given
    (λ found is. items_followed written others later found more is followed)

-- a table with one more number
pub entry_of_set : (table : List (Option ℕ)) (index added number found : ℕ)
    → entry (set table index (Some added)) number ≡ Some found
    → (entry table number ≡ Some found) ⊎ ((number ≡ index) × (found ≡ added))
entry_of_set [] index added number found given = inl given
entry_of_set (first ∷ others) zero added zero found given =
    inr (refl, ap (λ one. unwrap_or one found) (sym given))
entry_of_set (first ∷ others) zero added (suc number) found given = inl given
entry_of_set (first ∷ others) (suc index) added zero found given = inl given
entry_of_set (first ∷ others) (suc index) added (suc number) found given =
    elim (entry_of_set others index added number found given) [
      | inl old ↦ inl old
      | inr new ↦ inr (ap suc new.0, new.1)
    ]

-- it is not in the table twice
pub different_set : (table : List (Option ℕ)) (index added : ℕ)
    → AreDifferent table
    → ((number : ℕ) → entry table number ≡ Some added → ⊥)
    → AreDifferent (set table index (Some added))
different_set table index added different new number other found given also =
    apart (entry_of_set table index added number found given)
    (entry_of_set table index added other found also)
  where
    At : (number : ℕ) → Type 0
    At number = (entry table number ≡ Some found) ⊎ ((number ≡ index) × (found ≡ added))

    not_new : (number : ℕ) → entry table number ≡ Some found → found ≡ added → ⊥
    not_new number old same = new number (old ∙ ap (λ one. Some one) same)

    apart : At number → At other → number ≡ other
    apart (inl old) (inl too) = different number other found old too
    apart (inl old) (inr added) = absurd (not_new number old added.1)
    apart (inr added) (inl old) = absurd (not_new other old added.1)
    apart (inr added) (inr too) = added.0 ∙ sym too.0

-- it has one entry more
entries_set : (table : List (Option ℕ)) (name number : ℕ)
    → name < length table
    → ((found : ℕ) → entry table name ≡ Some found → ⊥)
    → entries (set table name (Some number)) ≡ suc (entries table)
entries_set [] name number low none = absurd (omega (arith, low))
entries_set (None ∷ others) zero number low none = refl
entries_set (Some found ∷ others) zero number low none = absurd (none found refl)
entries_set (None ∷ others) (suc name) number low none =
    entries_set others name number (omega (arith, low)) none
entries_set (Some found ∷ others) (suc name) number low none =
    ap suc (entries_set others name number (omega (arith, low)) none)

pub nothing_there : (count name number : ℕ) → entry (replicate count None) name ≡ Some number → ⊥
nothing_there zero name number given = let bad : None ≡ Some number = given in cc
nothing_there (suc count) zero number given = let bad : None ≡ Some number = given in cc
nothing_there (suc count) (suc name) number given = nothing_there count name number given

pub no_numbering : (table : List (Option ℕ)) → table ≡ [] → IsNumbering 0 table
no_numbering table same = subst (IsNumbering 0) (sym same) (record {
  counted = refl;
  below = λ name number given. let bad : None ≡ Some number = given in cc;
  different = λ name other number given also. let bad : None ≡ Some number = given in cc;
})

-- one more name has a number, as long as there is one
pub numbering_more : (table after : List (Option ℕ)) (used more name number : ℕ)
    → (used < 65536 → IsNumbering used table)
    → name < length table
    → ((found : ℕ) → entry table name ≡ Some found → ⊥)
    → number ≡ min used 65535
    → more ≡ min (used + 1) 4294967295
    → after ≡ set table name (Some number)
    → more < 65536
    → IsNumbering more after
numbering_more table after used more name number numbering low none number_is more_is same few =
    subst (IsNumbering more) (sym same) (record {
      counted =
          entries_set table name number low none ∙ ap suc old.counted ∙ one_more;
      below = λ other found given. elim (entry_of_set table name number other found given) [
        | inl kept ↦ let under : found < used = old.below other found kept in omega (arith, under, one_more)
        | inr new ↦ let is : found ≡ number = new.1 in omega (arith, is, is_used, one_more)
      ];
      different = different_set table name number old.different (λ other kept.
          let under : number < used = old.below other number kept in omega (arith, under, is_used));
    })
  where
    one_more : suc used ≡ more
    one_more = omega (arith, more_is, few)

    is_used : number ≡ used
    is_used = omega (arith, number_is, more_is, few)

    old : IsNumbering used table
    old = numbering (omega (arith, more_is, few))

-- no name gets a number
pub same_names : (name : ℕ) (table : List (Option ℕ)) → AddsOnly name table table
same_names name table = λ other found given. inl given

-- one name gets a number, which had none
pub one_name_more :
    (name number : ℕ) (before after : List (Option ℕ))
    → after ≡ set before name (Some number)
    → AddsOnly name before after
one_name_more name number before after same = subst (AddsOnly name before) (sym same) (added before name)
  where
    added : (table : List (Option ℕ)) (name : ℕ) → AddsOnly name table (set table name (Some number))
    added [] name other found given = inl given
    added (first ∷ others) zero zero found given = inr refl
    added (first ∷ others) zero (suc other) found given = inl given
    added (first ∷ others) (suc name) zero found given = inl given
    added (first ∷ others) (suc name) (suc other) found given =
        elim (added others name other found given) [ inl kept ↦ inl kept | inr same ↦ inr (ap suc same) ]

pub either_true : (one other : Bool) → (one ≡ true) ⊎ (other ≡ true) → (one || other) ≡ true
either_true true other found = refl
either_true false other (inl bad) = let no : false ≡ true = bad in cc
either_true false other (inr found) = found

-- a name is itself
pub is_itself : (name : ℕ) → ((name == name) || false) ≡ true
is_itself name = either_true (name == name) false (inl (eq-eqb name name refl))

-- if one of two lists of items refers to a name, both together do
pub use_either : (name : ℕ) (items later : List Item)
    → (use_name name items ≡ true) ⊎ (use_name name later ≡ true)
    → use_name name (items ++ later) ≡ true
use_either name items later found =
    list_any-append (uses_name name) items later
    ∙ either_true (use_name name items) (use_name name later) found

-- names that are numbered for items one after another
pub names_then : (before between after : List (Option ℕ)) (items later : List Item)
    → NumbersNames before between items
    → NumbersNames between after later
    → NumbersNames before after (items ++ later)
names_then before between after items later first second = λ name number given.
    elim (second name number given) [
      | inl known ↦ elim (first name number known) [
        | inl old ↦ inl old
        | inr used ↦ inr (use_either name items later (inl used))
      ]
      | inr used ↦ inr (use_either name items later (inr used))
    ]

-- names with the same numbers
names_same : (before after : List (Option ℕ)) (items : List Item) → after ≡ before
    → NumbersNames before after items
names_same before after items same =
    λ name number given. inl (sym (ap (λ table. entry table name) same) ∙ given)

-- a table of names that stays as it is
pub grows_same : (before after : List (Option ℕ)) (items : List Item) → after ≡ before
    → GrowsFor before after items
grows_same before after items same =
    let equal : length after ≡ length before = ap (λ table. length table) same in
    record {
      longer = omega (arith, equal);
      within = λ count named low. omega (arith, equal, low);
    }

-- one that is to hold a name that items refer to
grows_named : (name : ℕ) (before after : List (Option ℕ)) (items : List Item)
    → length before ≤ length after
    → length after ≤ max (length before) (name + 1)
    → use_name name items ≡ true
    → GrowsFor before after items
grows_named name before after items longer most used = record {
  longer = longer;
  within = λ count named low. let below : name < count = named.below name used in omega (arith, below, most, low);
}

-- one that grows for items one after another
grows_then : (before between after : List (Option ℕ)) (items later : List Item)
    → GrowsFor before between items
    → GrowsFor between after later
    → GrowsFor before after (items ++ later)
grows_then before between after items later first second = record {
  longer =
      let one : length before ≤ length between = first.longer in
      let other : length between ≤ length after = second.longer in omega (arith, one, other);
  within = λ count named low.
      second.within count
      (record { below = λ name used. named.below name (use_either name items later (inr used)) })
      (first.within count
      (record { below = λ name used. named.below name (use_either name items later (inl used)) }) low);
}

-- a name that an item refers to
name_used : (added : ℕ) (before after : List (Option ℕ)) (items : List Item)
    → AddsOnly added before after
    → use_name added items ≡ true
    → NumbersNames before after items
name_used added before after items only used = λ name number given.
    elim (only name number given) [
      | inl old ↦ inl old
      | inr same ↦ inr (ap (λ (one : ℕ). use_name one items) same ∙ used)
    ]

-- of two lists of items, the first binds a label, or the second does
pub bind_either : (label : ℕ) (items later : List Item)
    → (is_bound label items ≡ true) ⊎ (is_bound label later ≡ true)
    → is_bound label (items ++ later) ≡ true
bind_either label items later found =
    list_any-append (marks label) items later
    ∙ either_true (is_bound label items) (is_bound label later) found

-- what is not true is false
pub false_by : (test : Bool) → (test ≡ true → ⊥) → test ≡ false
false_by true never = absurd (never refl)
false_by false never = refl

pub not_both : (test : Bool) → test ≡ true → test ≡ false → ⊥
not_both test is never = let bad : true ≡ false = sym is ∙ never in cc

-- labels that items bind once are bound once by the first of them, and by the others
once_first : (items later : List Item) → BoundOnce (items ++ later) → BoundOnce items
once_first [] later once = tt
once_first (item ∷ others) later once = (
  λ label binds. false_by (is_bound label others) (λ bound.
      not_both (is_bound label (others ++ later))
      (bind_either label others later (inl bound)) (once.0 label binds)),
  once_first others later once.1,
)

once_later : (items later : List Item) → BoundOnce (items ++ later) → BoundOnce later
once_later [] later once = once
once_later (item ∷ others) later once = once_later others later once.1

once_apart : (items later : List Item) (label : ℕ)
    → BoundOnce (items ++ later)
    → is_bound label items ≡ true
    → is_bound label later ≡ true
    → ⊥
once_apart [] later label once first second = let bad : false ≡ true = first in cc
once_apart (item ∷ others) later label once first second =
    by (marks label item) refl (λ found. once_apart others later label once.1 found second)
  where
    by : (test : Bool) → marks label item ≡ test → (is_bound label others ≡ true → ⊥) → ⊥
    by true binds rest =
        not_both (is_bound label (others ++ later)) (bind_either label others later (inr second))
        (once.0 label binds)
    by false none rest = rest (sym (ap (λ (test : Bool). test || is_bound label others) none) ∙ first)

-- items one after another that are writable
writable_first : (before : Written) (items later : List Item)
    → AreWritable before (items ++ later)
    → AreWritable before items
writable_first before items later are = record {
  once = once_first items later are.once;
  new = λ label bound. are.new label (bind_either label items later (inl bound));
}

writable_later : (before between : Written) (items later : List Item)
    → AreWritable before (items ++ later)
    → MarksOnly before.marked between.marked items
    → AreWritable between later
writable_later before between items later are only = record {
  once = once_later items later are.once;
  new = λ label bound. false_by (is_marked between.marked label) (λ marked.
      elim (only label marked) [
        | inl old ↦ not_both (is_marked before.marked label) old
            (are.new label (bind_either label items later (inr bound)))
        | inr new ↦ once_apart items later label are.once new bound
      ]);
}

-- labels that get their places by items one after another
marks_then : (before between after : List Bool) (items later : List Item)
    → MarksOnly before between items
    → MarksOnly between after later
    → MarksOnly before after (items ++ later)
marks_then before between after items later first second = λ label given.
    elim (second label given) [
      | inl known ↦ elim (first label known) [
        | inl old ↦ inl old
        | inr bound ↦ inr (bind_either label items later (inl bound))
      ]
      | inr bound ↦ inr (bind_either label items later (inr bound))
    ]

-- the same labels have their places
marks_same : (before after : List Bool) (items : List Item) → after ≡ before → MarksOnly before after items
marks_same before after items same =
    λ label given. inl (ap (λ table. is_marked table label) (sym same) ∙ given)

-- if one of two lists of items names a label, both together do
name_either : (number : ℕ) (items later : List Item)
    → (name_label number items ≡ true) ⊎ (name_label number later ≡ true)
    → name_label number (items ++ later) ≡ true
name_either number items later found =
    list_any-append (names_label number) items later
    ∙ either_true (name_label number items) (name_label number later) found

-- labels of code that items one after another name
counts_then : (before between after : Written) (items later : List Item)
    → CountsNamed before between items
    → CountsNamed between after later
    → Extends between.labels after.labels
    → CountsNamed before after (items ++ later)
counts_then before between after items later first second labels = λ label low.
    elim (second label low) [
      | inl known ↦ elim (first label known) [
        | inl old ↦ inl old
        | inr named ↦ inr
            (named.0, labels named.0 label named.1, name_either named.0 items later (inl named.2))
      ]
      | inr named ↦ inr (named.0, named.1, name_either named.0 items later (inr named.2))
    ]

-- no label more
counts_none : (before after : Written) (items : List Item) → after.code.labels ≡ before.code.labels
    → CountsNamed before after items
counts_none before after items same = λ label low. inl (omega (arith, low, same))

-- the label of a number that an item names
counts_item : (number : ℕ) (before after : Written) (items : List Item)
    → CountsOne number before after
    → name_label number items ≡ true
    → CountsNamed before after items
counts_item number before after items counted named = λ label low.
    elim (counted label low) [
      | inl old ↦ inl old
      | inr is ↦ inr (number, is, named)
    ]

-- nothing is added
pub writes_nothing : (written : Written) → Writes written written []
writes_nothing written = record {
  made = [];
  added = sym (append-nil written.code.items);
  same = λ are. refl;
  labels = λ number found given. given;
  counted = λ label low. inl low;
  marked = λ label given. inl given;
  externals = λ number found given. given;
  names = λ name number given. inl given;
  grown = grows_same written.externals written.externals [] refl;
}

-- items are added one after another
pub writes_then :
    (before between after : Written) (items later : List Item)
    → Writes before between items
    → Writes between after later
    → Writes before after (items ++ later)
writes_then before between after items later first second = record {
  made = first.made ++ second.made;
  added =
      second.added
      ∙ ap (λ list. list ++ second.made) first.added
      ∙ append_assoc before.code.items first.made second.made;
  same = λ are.
      items_followed after items later first.made second.made
      (items_stay between after items first.made second.labels second.externals
      (first.same (writable_first before items later are)))
      (second.same (writable_later before between items later are first.marked));
  labels = λ number found given. second.labels number found (first.labels number found given);
  counted = counts_then before between after items later first.counted second.counted second.labels;
  marked = marks_then before.marked between.marked after.marked items later first.marked second.marked;
  externals = λ number found given. second.externals number found (first.externals number found given);
  names =
      names_then before.externals between.externals after.externals items later first.names second.names;
  grown = grows_then before.externals between.externals after.externals items later first.grown second.grown;
}

-- one item is added, and the numbers of labels and names may change
pub writes_one :
    (inside before after : Written) (item made : Item)
    → inside ≡ before
    → after.code.items ≡ inside.code.items ++ made ∷ []
    → Extends inside.labels after.labels
    → CountsNamed inside after (item ∷ [])
    → MarksOnly inside.marked after.marked (item ∷ [])
    → Extends inside.externals after.externals
    → NumbersNames inside.externals after.externals (item ∷ [])
    → GrowsFor inside.externals after.externals (item ∷ [])
    → numbered_item after item ≡ Some made
    → Writes before after (item ∷ [])
writes_one inside before after item made same added labels counted marked externals names grown named =
    subst (λ old. Writes old after (item ∷ [])) same (record {
      made = made ∷ [];
      added = added;
      same = λ are. ap (λ front. in_front front (Some [])) named;
      labels = labels;
      counted = counted;
      marked = marked;
      externals = externals;
      names = names;
      grown = grown;
    })

-- one item is added, and they do not change
pub writes_known :
    (inside before after : Written) (item made : Item)
    → inside ≡ before
    → after.code ≡ record (inside.code) { items = inside.code.items ++ made ∷ [] }
    → after.labels ≡ inside.labels
    → after.marked ≡ inside.marked
    → after.externals ≡ inside.externals
    → numbered_item after item ≡ Some made
    → Writes before after (item ∷ [])
writes_known inside before after item made same added labels marked externals named =
    writes_one inside before after item made same
    (ap (λ (code : Assembly). code.items) added)
    (λ number found given. ap (λ table. entry table number) labels ∙ given)
    (counts_none inside after (item ∷ []) (ap (λ (code : Assembly). code.labels) added))
    (marks_same inside.marked after.marked (item ∷ []) marked)
    (λ number found given. ap (λ table. entry table number) externals ∙ given)
    (names_same inside.externals after.externals (item ∷ []) externals)
    (grows_same inside.externals after.externals (item ∷ []) externals)
    named

-- one item is added, and a name gets a number
pub writes_named :
    (inside before after : Written) (item made : Item) (name : ℕ)
    → inside ≡ before
    → after.code ≡ record (inside.code) { items = inside.code.items ++ made ∷ [] }
    → after.labels ≡ inside.labels
    → after.marked ≡ inside.marked
    → Extends inside.externals after.externals
    → AddsOnly name inside.externals after.externals
    → length inside.externals ≤ length after.externals
    → length after.externals ≤ max (length inside.externals) (name + 1)
    → use_name name (item ∷ []) ≡ true
    → numbered_item after item ≡ Some made
    → Writes before after (item ∷ [])
writes_named inside before after item made name same added labels marked externals only longer most used named =
    writes_one inside before after item made same
    (ap (λ (code : Assembly). code.items) added)
    (λ number found given. ap (λ table. entry table number) labels ∙ given)
    (counts_none inside after (item ∷ []) (ap (λ (code : Assembly). code.labels) added))
    (marks_same inside.marked after.marked (item ∷ []) marked)
    externals
    (name_used name inside.externals after.externals (item ∷ []) only used)
    (grows_named name inside.externals after.externals (item ∷ []) longer most used)
    named

-- a jump to a label, or another instruction with its place, once the label has its number
pub writes_jump :
    (before between inside : Written) (code : Assembly) (form : WordForm) (number : LabelNumber) (label : ℕ)
    → inside ≡ between
    → between.code.items ≡ before.code.items
    → Extends before.labels between.labels
    → CountsOne number.index before between
    → KeepsMarks before.marked between.marked
    → between.externals ≡ before.externals
    → entry between.labels number.index ≡ Some label
    → code ≡ record (inside.code) { items = inside.code.items ++ WithWord form (AtLabel label) ∷ [] }
    → Writes before (record inside { code = code }) (jump_item form number ∷ [])
writes_jump before between inside code form number label is items labels counted marked externals found more =
    subst (λ (made : Assembly). Writes before (record inside { code = made }) (jump_item form number ∷ []))
    (sym more)
    (subst (λ (old : Written). Writes before
    (record old {
      code = record (old.code) { items = old.code.items ++ WithWord form (AtLabel label) ∷ [] };
    })
    (jump_item form number ∷ []))
    (sym is)
    (writes_one before before _ (WithWord form (AtLabel number.index)) (WithWord form (AtLabel label)) refl
    (ap (λ list. list ++ WithWord form (AtLabel label) ∷ []) items)
    labels
    (counts_item number.index before between (jump_item form number ∷ []) counted (is_itself number.index))
    (λ other given. inl (marked other given))
    (λ name given other. ap (λ table. entry table name) externals ∙ other)
    (names_same before.externals between.externals (jump_item form number ∷ []) externals)
    (grows_same before.externals between.externals (jump_item form number ∷ []) externals)
    (ap (λ (one : Option ℕ). option_map (WithWord form) (option_map AtLabel one)) found)))

-- a label gets its place, once it has its number
pub writes_mark :
    (before between inside : Written) (code : Assembly) (marked : List Bool) (number label : ℕ)
    → inside ≡ between
    → between.code.items ≡ before.code.items
    → Extends before.labels between.labels
    → CountsOne number before between
    → ((other : ℕ) → is_marked marked other ≡ true → (is_marked before.marked other ≡ true) ⊎ (other ≡ number))
    → between.externals ≡ before.externals
    → entry between.labels number ≡ Some label
    → code ≡ record (inside.code) { items = inside.code.items ++ Mark label ∷ [] }
    → Writes before (record inside { code = code; marked = marked }) (Mark number ∷ [])
writes_mark before between inside code marked number label is items labels counted marks_one externals found more =
    subst (λ (made : Assembly). Writes before (record inside { code = made; marked = marked }) (Mark number ∷ []))
    (sym more)
    (subst (λ (old : Written). Writes before
    (record old {
      code = record (old.code) { items = old.code.items ++ Mark label ∷ [] };
      marked = marked;
    })
    (Mark number ∷ []))
    (sym is)
    (writes_one before before _ (Mark number) (Mark label) refl
    (ap (λ list. list ++ Mark label ∷ []) items)
    labels
    (counts_item number before between (Mark number ∷ []) counted (is_itself number))
    (λ other given. elim (marks_one other given) [
      | inl old ↦ inl old
      | inr same ↦ inr (ap (λ (one : ℕ). is_bound one (Mark number ∷ [])) same ∙ is_itself number)
    ])
    (λ name given other. ap (λ table. entry table name) externals ∙ other)
    (names_same before.externals between.externals (Mark number ∷ []) externals)
    (grows_same before.externals between.externals (Mark number ∷ []) externals)
    (ap (option_map Mark) found)))

-- a label that has its place gets none
pub writes_no_mark :
    (inside before after : Written) (number : ℕ)
    → inside ≡ before
    → after.code.items ≡ inside.code.items
    → Extends inside.labels after.labels
    → CountsOne number inside after
    → KeepsMarks inside.marked after.marked
    → after.externals ≡ inside.externals
    → is_marked after.marked number ≡ true
    → Writes before after (Mark number ∷ [])
writes_no_mark inside before after number same added labels counted marked externals has =
    subst (λ old. Writes old after (Mark number ∷ [])) same (record {
      made = [];
      added = added ∙ sym (append-nil inside.code.items);
      same = λ are. absurd (not_both (is_marked inside.marked number) (marked number has)
          (are.new number (is_itself number)));
      labels = labels;
      counted = counts_item number inside after (Mark number ∷ []) counted (is_itself number);
      marked = λ other given. inl (marked other given);
      externals = λ name found given. ap (λ table. entry table name) externals ∙ given;
      names = names_same inside.externals after.externals (Mark number ∷ []) externals;
      grown = grows_same inside.externals after.externals (Mark number ∷ []) externals;
    })
