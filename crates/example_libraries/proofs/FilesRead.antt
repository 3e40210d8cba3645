-- Files that are read one after another.
use Rattle.example_libraries.proofs.Prelude.{ℕ, suc, ◌<◌, List, Bor, length, get_or, take, drop, AllZip, Fault, ObjectModule, HasFirstFault, Spells, bytes_of, parted, FirstIsFaulty}

-- the first file that spells no module
pub first_faulty :
    (files : List (Bor (List ℕ))) (objects : List ObjectModule) (i : ℕ) (d : Bor (List ℕ)) (fault : Fault)
    → i < length files → AllZip Spells (bytes_of (take i files)) objects
    → HasFirstFault (get_or files i d).now fault
    → FirstIsFaulty (bytes_of files) fault
first_faulty files objects i d fault within before faulty = record {
  before = bytes_of (take i files);
  bytes = (get_or files i d).now;
  after = bytes_of (drop (suc i) files);
  objects = objects;
  split = parted files i d within;
  spelled = before;
  faulty = faulty;
}
