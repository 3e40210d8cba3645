-- Files that are read one after another.
use Rattle.link.proofs.Prelude.{◌≡◌, ℕ, suc, ◌+◌, ◌<◌, List, [], ◌∷◌, ◌++◌, Bor, length, get_or, take, drop, drop-cons, map, sym, ap, subst, ◌∙◌, AllZip, map-append, map_more, take-append-drop, all_zipped_more, AllZip-long, ObjectModule, Spells}
use Rattle.link.specs.declared.StreamFault.{StreamFault}
use Rattle.link.specs.declared.StreamFault.TheVariants as stream
use Rattle.link.specs.internal.Causes.{HasNoMerge, IsFaultyAt}

-- the bytes of files, each
abbrev pub bytes_of : List (Bor (List ℕ)) → List (List ℕ)
bytes_of files = map (λ file. file.now) files

-- a file more, and its module
pub one_more :
    (files : List (Bor (List ℕ))) (objects : List ObjectModule) (i : ℕ) (d : Bor (List ℕ))
    (object : ObjectModule)
    → i < length files → AllZip Spells (bytes_of (take i files)) objects
    → Spells (get_or files i d).now object
    → AllZip Spells (bytes_of (take (i + 1) files)) (objects ++ object ∷ [])
one_more files objects i d object within before spelled =
    subst (λ read. AllZip Spells read (objects ++ object ∷ []))
    (sym (map_more (λ (file : Bor (List ℕ)). file.now) files i d within))
    (all_zipped_more Spells (bytes_of (take i files)) objects (get_or files i d).now object before spelled)

-- files are those before one, this, and those after it
pub parted :
    (files : List (Bor (List ℕ))) (i : ℕ) (d : Bor (List ℕ)) → i < length files
    → bytes_of files ≡ bytes_of (take i files) ++ (get_or files i d).now ∷ bytes_of (drop (suc i) files)
parted files i d within =
    ap bytes_of (sym (take-append-drop i files))
    ∙ map-append (λ (file : Bor (List ℕ)). file.now) (take i files) (drop i files)
    ∙ ap (λ rest. bytes_of (take i files) ++ bytes_of rest) (drop-cons files i d within)

-- the first file that spells no module
pub first_faulty :
    (files : List (Bor (List ℕ))) (objects : List ObjectModule) (i : ℕ) (d : Bor (List ℕ))
    (fault : StreamFault)
    → i < length files → AllZip Spells (bytes_of (take i files)) objects
    → IsFaultyAt (length objects) (get_or files i d).now fault → HasNoMerge (bytes_of files) fault
first_faulty files objects i d (stream.Object file fault) within before faulty = record {
  before = bytes_of (take i files);
  bytes = (get_or files i d).now;
  after = bytes_of (drop (suc i) files);
  objects = objects;
  split = parted files i d within;
  number = faulty.0 ∙ AllZip-long Spells (bytes_of (take i files)) objects before;
  spelled = before;
  faulty = faulty.1;
  none = faulty.2;
}
first_faulty files objects i d (stream.Link fault) within before faulty = absurd faulty
first_faulty files objects i d stream.Write within before faulty = absurd faulty
