-- Files that are read one after another.
use Rattle.host.proofs.Prelude.{◌≡◌, ℕ, ◌-◌, ◌≤◌, ◌<◌, List, [], ◌∷◌, ◌++◌, Option, None, Some, Bor, length, drop, take, get_or, map, refl, sym, ap, subst, ◌∙◌, arith, take-length, append-nil, append_assoc, Directory, HasFile, KeepsFiles, HasFiles, StopsAt}

pub files_stay : (files : Option Directory) → KeepsFiles files files
files_stay None = tt
files_stay (Some files) = λ name. refl

pub stays_on : (first second third : Option Directory) → KeepsFiles first second → KeepsFiles second third
    → KeepsFiles first third
stays_on None second third before after = tt
stays_on (Some first) None third before after = absurd before
stays_on (Some first) (Some second) None before after = absurd after
stays_on (Some first) (Some second) (Some third) before after = λ name. after name ∙ before name

-- a file that is there after files stayed was there before
pub was_there : (old new : Option Directory) (name bytes : List ℕ) → KeepsFiles old new
    → HasFile new name bytes → HasFile old name bytes
was_there None new name bytes kept there = tt
was_there (Some old) None name bytes kept there = absurd kept
was_there (Some old) (Some new) name bytes kept there = sym (kept name) ∙ there

-- what was read is what the names before those that are left have
pub record ReadSoFar (files : Option Directory) (whole rest made : List (List ℕ)) : Type 0 where
  pub before : List (List ℕ)
  pub names_are : whole ≡ before ++ rest
  pub read : HasFiles files before made

pub none_read : (files : Option Directory) (whole : List (List ℕ)) → ReadSoFar files whole whole []
none_read files whole = record { before = []; names_are = refl; read = tt }

pub map_more : {A : Type 0} (f : A → List ℕ) (made : List A) (v : A)
    → map f (made ++ v ∷ []) ≡ map f made ++ f v ∷ []
map_more f [] v = refl
map_more f (x ∷ made) v = ap (λ (l : List (List ℕ)). f x ∷ l) (map_more f made v)

-- one file more
read_more : (files : Option Directory) (before made : List (List ℕ)) (name text : List ℕ)
    → HasFiles files before made → HasFile files name text
    → HasFiles files (before ++ name ∷ []) (made ++ text ∷ [])
read_more files [] [] name text read there = (there, tt)
read_more files [] (t ∷ made) name text read there = absurd read
read_more files (n ∷ before) [] name text read there = absurd read
read_more files (n ∷ before) (t ∷ made) name text read there =
    (read.0, read_more files before made name text read.1 there)

-- a step over a file
read_step : {A : Type 0} (f : A → List ℕ) (files : Option Directory) (whole : List (List ℕ)) (made : List A)
    (v : A) (name : List ℕ) (d : Bor (List ℕ))
    (rest : List (Bor (List ℕ))) → 1 ≤ length rest → name ≡ (get_or rest 0 d).now → HasFile files name (f v)
    → ReadSoFar files whole (map (λ n. n.now) rest) (map f made)
    → ReadSoFar files whole (map (λ n. n.now) (take (length rest - 1) (drop 1 rest))) (map f (made ++ v ∷ []))
read_step f files whole made v name d [] one is there so_far = absurd (omega arith)
read_step f files whole made v name d (n ∷ more) one is there so_far =
    let count : length (n ∷ more) - 1 ≡ length more = omega arith in
    let all : take (length (n ∷ more) - 1) more ≡ more =
    ap (λ (k : ℕ). take k more) count ∙ take-length more in
    subst (λ (l : List (Bor (List ℕ))). ReadSoFar files whole (map (λ n. n.now) l) (map f (made ++ v ∷ [])))
    (sym all)
    (record {
      before = so_far.before ++ n.now ∷ [];
      names_are = so_far.names_are ∙ sym (append_assoc so_far.before (n.now ∷ []) (map (λ n. n.now) more));
      read = subst (HasFiles files (so_far.before ++ n.now ∷ [])) (sym (map_more f made v))
          (read_more files so_far.before (map f made) n.now (f v) so_far.read
          (subst (λ (x : List ℕ). HasFile files x (f v)) is there));
    })

-- the same of a list that grew by what was read
pub read_on : {A : Type 0} (f : A → List ℕ) (files : Option Directory) (whole : List (List ℕ))
    (made all : List A) (v : A) (name : List ℕ) (d : Bor (List ℕ))
    (rest : List (Bor (List ℕ))) → 1 ≤ length rest → name ≡ (get_or rest 0 d).now → HasFile files name (f v)
    → all ≡ made ++ v ∷ []
    → ReadSoFar files whole (map (λ n. n.now) rest) (map f made)
    → ReadSoFar files whole (map (λ n. n.now) (take (length rest - 1) (drop 1 rest))) (map f all)
read_on {A} f files whole made all v name d rest one is there grown before =
    subst (λ (l : List A). ReadSoFar files whole (map (λ n. n.now) (take (length rest - 1) (drop 1 rest)))
    (map f l)) (sym grown)
    (read_step f files whole made v name d rest one is there before)

-- where no file is left, all were read
pub all_read : (files : Option Directory) (whole made : List (List ℕ)) (rest : List (Bor (List ℕ)))
    → length rest < 1 → ReadSoFar files whole (map (λ n. n.now) rest) made → HasFiles files whole made
all_read files whole made [] none so_far =
    subst (λ (l : List (List ℕ)). HasFiles files l made)
    (sym (so_far.names_are ∙ append-nil so_far.before)) so_far.read
all_read files whole made (n ∷ more) none so_far = absurd (omega arith)

-- the next name, where its file can't be read
pub stops_next : (files : Option Directory) (whole made : List (List ℕ)) (name : List ℕ) (d : Bor (List ℕ))
    (rest : List (Bor (List ℕ))) → 1 ≤ length rest → name ≡ (get_or rest 0 d).now
    → ReadSoFar files whole (map (λ n. n.now) rest) made → StopsAt files whole name
stops_next files whole made name d [] one is so_far = absurd (omega arith)
stops_next files whole made name d (n ∷ more) one is so_far =
    subst (StopsAt files whole) (sym is)
    (record { before = so_far.before; rest = map (λ n. n.now) more; texts = made; names_are = so_far.names_are; read = so_far.read })

-- the only name, the last of several of which all before it were read, and one with more names after it
pub stops_alone : (files : Option Directory) (name : List ℕ) → StopsAt files (name ∷ []) name
stops_alone files name = record { before = []; rest = []; texts = []; names_are = refl; read = tt }

pub stops_last : (files : Option Directory) (names texts : List (List ℕ)) (name : List ℕ)
    → HasFiles files names texts → StopsAt files (names ++ name ∷ []) name
stops_last files names texts name read =
    record { before = names; rest = []; texts = texts; names_are = refl; read = read }

pub stops_before : (files : Option Directory) (names more : List (List ℕ)) (name : List ℕ)
    → StopsAt files names name → StopsAt files (names ++ more) name
stops_before files names more name stopped = record {
  before = stopped.before;
  rest = stopped.rest ++ more;
  texts = stopped.texts;
  names_are =
      ap (λ (l : List (List ℕ)). l ++ more) stopped.names_are
      ∙ append_assoc stopped.before (name ∷ stopped.rest) more;
  read = stopped.read;
}

-- a name that is another's
pub stops_as : (files : Option Directory) (names : List (List ℕ)) (name was : Bor (List ℕ)) → name ≡ was
    → StopsAt files names was.now → StopsAt files names name.now
stops_as files names name was e stopped = subst (λ (x : Bor (List ℕ)). StopsAt files names x.now) (sym e) stopped
