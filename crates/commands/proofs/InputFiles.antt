-- Files of an input that were read after others.
use Rattle.commands.proofs.Prelude.{◌≡◌, ℕ, ◌<◌, ◌≤◌, length, get_or, drop, append-nil, arith, List, [], ◌∷◌, ◌++◌, Bor, Option, inl, inr, map, refl, sym, ap, subst, ◌∙◌, append_assoc, texts, CountsFailure, Err, Failure, Fault, IfFault, Memory, Directory, HasFiles, KeepsFiles, StopsAt, TellsRefusal, Values, RefusesFor, stops_before, was_there, HasInput, input_names, with_texts, FileFault}

-- files that are there after files stayed were there before
all_there : (old new : Option Directory) (names read : List (List ℕ)) → KeepsFiles old new → HasFiles new names read → HasFiles old names read
all_there old new [] [] kept there = tt
all_there old new [] (t ∷ read) kept there = absurd there
all_there old new (n ∷ names) [] kept there = absurd there
all_there old new (n ∷ names) (t ∷ read) kept there = (was_there old new n t kept there.0, all_there old new names read kept there.1)

pub input_there : (old new : Option Directory) (values full : Values) → KeepsFiles old new → HasInput new values full → HasInput old values full
input_there old new values full kept input =
    record { texts = input.texts; read = all_there old new (input_names values) input.texts kept input.read; full_is = input.full_is }

-- the files of some names, and then those of others
both_there : (files : Option Directory) (names more read others : List (List ℕ)) → HasFiles files names read → HasFiles files more others → HasFiles files (names ++ more) (read ++ others)
both_there files [] more [] others first second = second
both_there files [] more (t ∷ read) others first second = absurd first
both_there files (n ∷ names) more [] others first second = absurd first
both_there files (n ∷ names) more (t ∷ read) others first second = (first.0, both_there files names more read others first.1 second)

stops_after : (old new : Option Directory) (names more read : List (List ℕ)) (name : List ℕ) → KeepsFiles old new → HasFiles old names read → StopsAt new more name → StopsAt old (names ++ more) name
stops_after old new names more read name kept first stopped = record {
  before = names ++ stopped.before;
  rest = stopped.rest;
  texts = read ++ stopped.texts;
  names_are = ap (λ (l : List (List ℕ)). names ++ l) stopped.names_are ∙ sym (append_assoc names stopped.before (name ∷ stopped.rest));
  read = both_there old names stopped.before read stopped.texts first (all_there old new stopped.before stopped.texts kept stopped.read);
}

-- a refusal at one of the first files is one at one of all
pub told_before : (files : Option Directory) (names more : List (List ℕ)) (before after : ℕ) (old new : Option (List ℕ)) → TellsRefusal files names before after old new
    → TellsRefusal files (names ++ more) before after old new
unfolding TellsRefusal
told_before files names more before after old new (inl (counted, (name, stopped, told))) = inl (counted, (name, stops_before files names more name stopped, told))
told_before files names more before after old new (inr other) = inr other

-- a refusal after files were read, where no call failed
module _ (files mid : Option Directory) (names more read : List (List ℕ)) (before now after : ℕ) (kept : KeepsFiles files mid) (there : HasFiles files names read) (same : now ≡ before) where
  pub told_after : (old new : Option (List ℕ)) → TellsRefusal mid more now after old new → TellsRefusal files (names ++ more) before after old new
  unfolding TellsRefusal
  told_after old new (inl (counted, (name, stopped, told))) =
      inl (subst (λ (n : ℕ). CountsFailure n after) same counted, (name, stops_after files mid names more read name kept there stopped, told))
  told_after old new (inr (count, other)) = inr (count ∙ same, other)

  pub refused_after : (reason other : Type 0) (old new out ended : Option (List ℕ)) → (reason → other) → RefusesFor reason mid more now after old new out ended
      → RefusesFor other files (names ++ more) before after old new out ended
  unfolding RefusesFor
  refused_after reason other old new out ended so (inl (kept_out, tells)) = inl (
    kept_out,
    record {
      counted = subst (λ (n : ℕ). CountsFailure n after) same tells.counted;
      name = tells.name;
      stopped = stops_after files mid names more read tells.name kept there tells.stopped;
      told = tells.told;
    },
  )
  refused_after reason other old new out ended so (inr (inl memory)) = inr (inl (record { count = memory.count ∙ same; told = memory.told; nothing = memory.nothing }))
  refused_after reason other old new out ended so (inr (inr (count, why))) = inr (inr (count ∙ same, so why))

-- the names of an order are those of its files
pub files_of_order : (names order : List (Bor (List ℕ))) (files : Option Directory) (read : List (List ℕ)) → names ≡ order → HasFiles files (map (λ n. n.now) names) read → HasFiles files (texts order) read
files_of_order names order files read same there = subst (λ (l : List (Bor (List ℕ))). HasFiles files (map (λ n. n.now) l) read) same there

-- one item more, and none left, where what was made and what the items that are left make is all
module _ {B C : Type 0} (h : B → C) (total made new : List C) where
  pub item_put : (ys : List B) (y : B) → 1 ≤ length ys → y ≡ get_or ys 0 y → made ++ map h ys ≡ total → new ≡ made ++ h y ∷ [] → new ++ map h (drop 1 ys) ≡ total
  item_put [] y some is rest added = absurd (omega arith)
  item_put (one ∷ ys) y some is rest added =
      ap (λ (n : List C). n ++ map h ys) (rw (sym is) added) ∙ append_assoc made (h one ∷ []) (map h ys) ∙ rest

  pub items_put : (ys : List B) → length ys < 1 → made ++ map h ys ≡ total → made ≡ total
  items_put [] none rest = sym (append-nil made) ∙ rest
  items_put (y ∷ ys) none rest = absurd (omega arith)

-- the same of items that are seen
module _ {A B C : Type 0} (see : A → B) (h : B → C) (total made new : List C) where
  pub seen_put : (xs : List A) (x : A) → 1 ≤ length xs → x ≡ get_or xs 0 x → made ++ map h (map see xs) ≡ total → new ≡ made ++ h (see x) ∷ []
      → new ++ map h (map see (drop 1 xs)) ≡ total
  seen_put [] x some is rest added = absurd (omega arith)
  seen_put (one ∷ xs) x some is rest added =
      ap (λ (n : List C). n ++ map h (map see xs)) (rw (sym is) added) ∙ append_assoc made (h (see one) ∷ []) (map h (map see xs)) ∙ rest

  pub all_put : (xs : List A) → length xs < 1 → made ++ map h (map see xs) ≡ total → made ≡ total
  all_put [] none rest = sym (append-nil made) ∙ rest
  all_put (x ∷ xs) none rest = absurd (omega arith)

-- the same of names
map_more : (made : List (Bor (List ℕ))) (x : Bor (List ℕ)) → texts (made ++ x ∷ []) ≡ texts made ++ x.now ∷ []
map_more [] x = refl
map_more (n ∷ made) x = ap (λ (l : List (List ℕ)). n.now ∷ l) (map_more made x)

pub name_put : {A B : Type 0} (see : A → B) (h : B → List ℕ) (total : List (List ℕ)) (made new : List (Bor (List ℕ))) (name : Bor (List ℕ)) (xs : List A) (x : A) → 1 ≤ length xs → x ≡ get_or xs 0 x
    → name.now ≡ h (see x) → texts made ++ map h (map see xs) ≡ total → new ≡ made ++ name ∷ [] → texts new ++ map h (map see (drop 1 xs)) ≡ total
name_put see h total made new name xs x some is same rest added =
    seen_put see h total (texts made) (texts new) xs x some is rest
    (ap texts added ∙ map_more made name ∙ ap (λ (n : List ℕ). texts made ++ n ∷ []) same)

-- the names of the files of an input are those that its texts write
pub told_by_names : (files : Option Directory) (first held written : List (List ℕ)) (before after : ℕ) (old new : Option (List ℕ)) → held ≡ written → TellsRefusal files (first ++ held) before after old new
    → TellsRefusal files (first ++ written) before after old new
told_by_names files first held written before after old new same told = subst (λ (l : List (List ℕ)). TellsRefusal files (first ++ l) before after old new) same told

-- the same list of texts
pub same_texts : {A : Type 0} (see : A → List ℕ) (used read : List A) → used ≡ read → map see used ≡ map see read
same_texts {A} see used read same = ap (λ (l : List A). map see l) same

-- the names that were read are those of the files of the input
module _ (files : Option Directory) (values : Values) (held names : List (Bor (List ℕ))) (same : held ≡ names) (of_files : texts names ≡ input_names values) where
  names_are : map (λ n. n.now) held ≡ input_names values
  names_are = ap (λ (l : List (Bor (List ℕ))). map (λ n. n.now) l) same ∙ of_files

  pub has_input : (full : Values) (read used : List (List ℕ)) → HasFiles files (map (λ n. n.now) held) read → used ≡ read → full ≡ with_texts values used → HasInput files values full
  has_input full read used there are is = record {
    texts = read;
    read = subst (λ (l : List (List ℕ)). HasFiles files l read) names_are there;
    full_is = subst (λ (l : List (List ℕ)). full ≡ with_texts values l) are is;
  }

  pub input_stops : (failure : Failure (FileFault × Bor (List ℕ))) → IfFault {A = Unit {0}} (Err failure) (λ fault. StopsAt files (map (λ n. n.now) held) fault.1.now)
      → IfFault {A = Unit {0}} (Err failure) (λ fault. StopsAt files (input_names values) fault.1.now)
  input_stops (Fault fault) stops = subst (λ (l : List (List ℕ)). StopsAt files l fault.1.now) names_are stops
  input_stops Memory stops = tt
