-- The files to which the bytes of ports go, as texts write them.
use Rattle.command_line.proofs.Prelude.{◌≡◌, ◌∙◌, ◌<◌, List, [], ◌∷◌, ◌++◌, Option, Some, None, Bool, true, false, Bor, Err, Ok, length, refl, sym, ap, arith, if◌then◌else◌, append-nil, append_assoc, lt-ltb, nat_lt, Text, texts, nat_tests, ◌||◌, after_first, before_first, position_or_len, NamedPort, file_names, found_in, has_file, has_name, is_colon, names_if, output_file, output_files_after, output_files_read, output_of_digits, outputs_in, ◌>>=◌}

-- what stands before and after the first colon of a text
pub colon_there : (text digits name : Text) → digits ≡ before_first is_colon text
    → name ≡ after_first is_colon text → position_or_len is_colon text < length text
    → output_of_digits digits name ≡ output_file text
colon_there text digits name first after within =
    rw (first, after, lt-ltb (position_or_len is_colon text) (length text) within) refl

pub no_colon : (text : Text) → position_or_len is_colon text ≡ length text → None ≡ output_file text
no_colon text all =
    let out : nat_lt (length text) (length text) ≡ false = grind (arith, nat_tests) in
    rw (all, out) refl

-- the names of the files that texts write
name_more : (files : List NamedPort) (file : NamedPort)
    → file_names (files ++ file ∷ []) ≡ file_names files ++ file.name ∷ []
name_more [] file = refl
name_more (one ∷ files) file = ap (λ (l : List Text). one.name ∷ l) (name_more files file)

-- a text that writes a file, and then others
names_step : (files all : List NamedPort) (text : Text) (more : List Text)
    → ((one : NamedPort) → output_files_after (files ++ one ∷ []) more ≡ Ok all
    → file_names all ≡ file_names (files ++ one ∷ []) ++ outputs_in more)
    → (found : Option NamedPort)
    → ((found_in text found >>= (λ (file : NamedPort). if has_file files file.port
    || has_name files file.name then Err text else Ok file))
    >>= (λ (one : NamedPort). output_files_after (files ++ one ∷ []) more)) ≡ Ok all
    → file_names all ≡ file_names files ++ (names_if found ++ outputs_in more)
names_step files all text more others None f = cc
names_step files all text more others (Some file) f =
    by (has_file files file.port || has_name files file.name) f
  where
    by : (t : Bool)
        → ((if t then Err text else Ok file)
        >>= (λ (one : NamedPort). output_files_after (files ++ one ∷ []) more)) ≡ Ok all
        → file_names all ≡ file_names files ++ (file.name ∷ outputs_in more)
    by true g = cc
    by false g =
        others file g ∙ ap (λ (l : List Text). l ++ outputs_in more) (name_more files file)
        ∙ append_assoc (file_names files) (file.name ∷ []) (outputs_in more)

names_after : (files all : List NamedPort) (words : List Text) → output_files_after files words ≡ Ok all
    → file_names all ≡ file_names files ++ outputs_in words
names_after files all [] e =
    let same : files ≡ all = cc in
    ap file_names (sym same) ∙ sym (append-nil (file_names files))
names_after files all (text ∷ more) e =
    names_step files all text more (λ one f. names_after (files ++ one ∷ []) all more f) (output_file text) e

pub names_read : (all : List NamedPort) (words : List Text) → output_files_read words ≡ Ok all
    → file_names all ≡ outputs_in words
names_read all words e = names_after [] all words e

-- where no text is left, these are the files
pub files_end : (files : List NamedPort) (rest : List (Bor Text)) → length rest < 1
    → output_files_after files (texts rest) ≡ Ok files
files_end files [] none = refl
files_end files (t ∷ rest) some = absurd (omega arith)
