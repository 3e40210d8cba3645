-- The files of ports that texts write.
use Rattle.command_line.proofs.Prelude.{◌≡◌, ◌∙◌, ◌<◌, ◌≤◌, List, [], ◌∷◌, ◌++◌, Option, Some, None, Bool, true, false, Bor, Err, Ok, length, refl, sym, ap, arith, if◌then◌else◌, append-nil, append_assoc, lt-ltb, nat_lt, Text, texts, nat_tests, ◌||◌, after_first, before_first, position_or_len, NamedPort, file_names, found_in, has_file, has_input, is_colon, names_if, names_in, port_file, port_files_after, port_files_read, port_of_digits, ◌>>=◌, InputByte}

-- what stands before and after the first colon of a text
pub colon_there : (text digits name : Text) → digits ≡ before_first is_colon text
    → name ≡ after_first is_colon text → position_or_len is_colon text < length text
    → port_of_digits digits name ≡ port_file text
colon_there text digits name first after within =
    rw (first, after, lt-ltb (position_or_len is_colon text) (length text) within) refl

pub no_colon : (text : Text) → position_or_len is_colon text ≡ length text → None ≡ port_file text
no_colon text all =
    let out : nat_lt (length text) (length text) ≡ false = grind (arith, nat_tests) in
    rw (all, out) refl

-- the names of the files that texts write
name_more : (files : List NamedPort) (file : NamedPort)
    → file_names (files ++ file ∷ []) ≡ file_names files ++ file.name ∷ []
name_more [] file = refl
name_more (one ∷ files) file = ap (λ (l : List Text). one.name ∷ l) (name_more files file)

-- a text that writes a file, and then others
names_step : (input : List InputByte) (files all : List NamedPort) (text : Text) (more : List Text)
    → ((one : NamedPort) → port_files_after input (files ++ one ∷ []) more ≡ Ok all
    → file_names all ≡ file_names (files ++ one ∷ []) ++ names_in more)
    → (found : Option NamedPort)
    → ((found_in text found >>= (λ (file : NamedPort). if has_input input file.port
    || has_file files file.port then Err text else Ok file))
    >>= (λ (one : NamedPort). port_files_after input (files ++ one ∷ []) more)) ≡ Ok all
    → file_names all ≡ file_names files ++ (names_if found ++ names_in more)
names_step input files all text more others None f = cc
names_step input files all text more others (Some file) f =
    by (has_input input file.port || has_file files file.port) f
  where
    by : (t : Bool)
        → ((if t then Err text else Ok file)
        >>= (λ (one : NamedPort). port_files_after input (files ++ one ∷ []) more)) ≡ Ok all
        → file_names all ≡ file_names files ++ (file.name ∷ names_in more)
    by true g = cc
    by false g =
        others file g ∙ ap (λ (l : List Text). l ++ names_in more) (name_more files file)
        ∙ append_assoc (file_names files) (file.name ∷ []) (names_in more)

names_after : (input : List InputByte) (files all : List NamedPort) (words : List Text)
    → port_files_after input files words ≡ Ok all → file_names all ≡ file_names files ++ names_in words
names_after input files all [] e =
    let same : files ≡ all = cc in
    ap file_names (sym same) ∙ sym (append-nil (file_names files))
names_after input files all (text ∷ more) e =
    names_step input files all text more
    (λ one f. names_after input (files ++ one ∷ []) all more f) (port_file text) e

pub names_read : (input : List InputByte) (all : List NamedPort) (words : List Text)
    → port_files_read input words ≡ Ok all → file_names all ≡ names_in words
names_read input all words e = names_after input [] all words e

-- where no text is left, these are the files
pub files_end : (input : List InputByte) (files : List NamedPort) (rest : List (Bor Text)) → length rest < 1
    → port_files_after input files (texts rest) ≡ Ok files
files_end input files [] none = refl
files_end input files (t ∷ rest) some = absurd (omega arith)

-- a text that is left is one of the texts
pub none_left : (rest words : List (Bor Text)) → 1 ≤ length rest → length rest ≤ length words → words ≡ [] → ⊥
none_left rest words some fits none =
    let empty : length words ≡ 0 = ap length none in
    absurd (omega arith)
