-- The modules of a program, one after another, lie apart.
use Rattle.placing.proofs.Prelude.{◌≡◌, ℕ, ◌+◌, ◌<◌, ◌≤◌, true, List, [], ◌∷◌, length, map, sym, subst, arith, zip, filter, flat_map, sum, sum_by, AllByRecursion, false≢true, sum_by-cons, filter-append, Range, Meets, TypedModule, IsStorable, data_bytes, storage_with, ModulePlacement, PieceKind, StaticPiece, ConstantPiece, AtPiece, PlacedPiece, range_of, pieces_of_module, has_own_place, HasAddresses, LiesWhereAtSays, AreDisjoint, Bases, bases_from, module_placement_by, placed_objects, HoldsConstants, all_append, all_weaker, first_below}
use Rattle.placing.proofs.LawLists.{EachPair, each_filter, each_between, each_first, each_second, pairs_append}
use Rattle.placing.proofs.LawStorage.{Apart, apart_swap}
use Rattle.placing.proofs.LawPieces.{LiesWithin, LiesByKind, InPlace, never_meet}
use Rattle.placing.proofs.LawPlacement.{Lies, NotMisplaced, module_lies}

-- what holds of all modules with their placements, in parts of CODE and of DATA
pub record AllLie (code_part data_part code stack : Range)
    (placed : List (TypedModule × ModulePlacement)) : Type 0 where
  pub complete : AllByRecursion HasAddresses placed
  pub where_at_says : AllByRecursion LiesWhereAtSays placed
  pub in_place : AllByRecursion (InPlace code_part data_part code stack) (flat_map pieces_of_module placed)
  pub disjoint : EachPair AreDisjoint (filter has_own_place (flat_map pieces_of_module placed))

-- what has a place of its own lies in a part of CODE or of DATA
abbrev OwnByKind : (code_part data_part : Range) → Range → PieceKind → Type 0
OwnByKind code_part data_part range StaticPiece = LiesWithin data_part range
OwnByKind code_part data_part range ConstantPiece = LiesWithin code_part range
OwnByKind code_part data_part range AtPiece = ⊥

abbrev Own : (code_part data_part : Range) → PlacedPiece → Type 0
Own code_part data_part piece = OwnByKind code_part data_part piece.range piece.kind

own_by_kind :
    (code_part data_part code stack range : Range) (kind : PieceKind)
    → has_own_place (record { kind = kind; range = range }) ≡ true
    → LiesByKind code_part data_part code stack range kind
    → OwnByKind code_part data_part range kind
own_by_kind code_part data_part code stack range StaticPiece own lies = lies
own_by_kind code_part data_part code stack range ConstantPiece own lies = lies
own_by_kind code_part data_part code stack range AtPiece own lies = false≢true own

own_pieces_lie :
    (code_part data_part code stack : Range) (pieces : List PlacedPiece)
    → AllByRecursion (InPlace code_part data_part code stack) pieces
    → AllByRecursion (Own code_part data_part) (filter has_own_place pieces)
own_pieces_lie code_part data_part code stack pieces lie =
    each_filter (InPlace code_part data_part code stack) (Own code_part data_part) has_own_place
    (λ piece own lies. own_by_kind code_part data_part code stack piece.range piece.kind own lies.lies) pieces
    lie

-- two pieces that lie in parts that are apart
apart_by_kind :
    (code_part data_part code_part' data_part' range range' : Range) (kind kind' : PieceKind)
    → Apart code_part.start code_part.len code_part'.start code_part'.len
    → Apart data_part.start data_part.len data_part'.start data_part'.len
    → Apart code_part.start code_part.len data_part'.start data_part'.len
    → Apart data_part.start data_part.len code_part'.start code_part'.len
    → OwnByKind code_part data_part range kind
    → OwnByKind code_part' data_part' range' kind'
    → ¬ Meets range range'
apart_by_kind code_part data_part code_part' data_part' range range' ConstantPiece ConstantPiece codes datas
    code_data data_code one other =
    never_meet code_part code_part' range range' codes one other
apart_by_kind code_part data_part code_part' data_part' range range' StaticPiece StaticPiece codes datas
    code_data data_code one other =
    never_meet data_part data_part' range range' datas one other
apart_by_kind code_part data_part code_part' data_part' range range' ConstantPiece StaticPiece codes datas
    code_data data_code one other =
    never_meet code_part data_part' range range' code_data one other
apart_by_kind code_part data_part code_part' data_part' range range' StaticPiece ConstantPiece codes datas
    code_data data_code one other =
    never_meet data_part code_part' range range' data_code one other
apart_by_kind code_part data_part code_part' data_part' range range' AtPiece kind' codes datas code_data
    data_code one other =
    absurd one
apart_by_kind code_part data_part code_part' data_part' range range' ConstantPiece AtPiece codes datas
    code_data data_code one other =
    absurd other
apart_by_kind code_part data_part code_part' data_part' range range' StaticPiece AtPiece codes datas code_data
    data_code one other =
    absurd other

-- a part of a greater part
first_part : (base one rest all : ℕ) → one + rest ≡ all → LiesWithin (range_of base all) (range_of base one)
first_part base one rest all is = λ x is_in. (is_in.0, below base one rest all x is is_in.1)
  where
    below : (base one rest all x : ℕ) → one + rest ≡ all → x < base + one → x < base + all
    below base one rest all x is before = omega arith

later_part : (base one rest all : ℕ) → one + rest ≡ all
    → LiesWithin (range_of base all) (range_of (base + one) rest)
later_part base one rest all is = λ x is_in.
    (first_below base one x is_in.0, below base one rest all x is is_in.1)
  where
    below : (base one rest all x : ℕ) → one + rest ≡ all → x < base + one + rest → x < base + all
    below base one rest all x is before = omega arith

wider_by_kind :
    (code_part data_part wider_code wider_data code stack range : Range) (kind : PieceKind)
    → LiesWithin wider_code code_part
    → LiesWithin wider_data data_part
    → LiesByKind code_part data_part code stack range kind
    → LiesByKind wider_code wider_data code stack range kind
wider_by_kind code_part data_part wider_code wider_data code stack range StaticPiece codes datas lies =
    λ x is_in. datas x (lies x is_in)
wider_by_kind code_part data_part wider_code wider_data code stack range ConstantPiece codes datas lies =
    λ x is_in. codes x (lies x is_in)
wider_by_kind code_part data_part wider_code wider_data code stack range AtPiece codes datas lies = lies

wider :
    (code_part data_part wider_code wider_data code stack : Range)
    → LiesWithin wider_code code_part
    → LiesWithin wider_data data_part
    → (pieces : List PlacedPiece)
    → AllByRecursion (InPlace code_part data_part code stack) pieces
    → AllByRecursion (InPlace wider_code wider_data code stack) pieces
wider code_part data_part wider_code wider_data code stack codes datas pieces lie =
    all_weaker (InPlace code_part data_part code stack) (InPlace wider_code wider_data code stack)
    (λ piece lies. record {
      ends = lies.ends;
      lies = wider_by_kind code_part data_part wider_code wider_data code stack piece.range piece.kind codes
          datas lies.lies;
    })
    pieces lie

-- parts that are apart
follow_apart : (base one rest : ℕ) → Apart base one (base + one) rest
follow_apart base one rest = λ x after before after' before'. omega arith

pub parts_apart :
    (one other part part' : Range)
    → Apart one.start one.len other.start other.len
    → LiesWithin one part
    → LiesWithin other part'
    → Apart part.start part.len part'.start part'.len
parts_apart one other part part' apart within within' = λ x after before after' before'.
    apart x (within x (after, before)).0 (within x (after, before)).1 (within' x (after', before')).0
    (within' x (after', before')).1

-- a module and those after it
one_more :
    (code_base data_base one_code code_rest one_data data_rest all_code all_data : ℕ) (code stack : Range)
    (first : TypedModule × ModulePlacement) (others : List (TypedModule × ModulePlacement))
    → one_code + code_rest ≡ all_code
    → one_data + data_rest ≡ all_data
    → Apart code_base all_code data_base all_data
    → Lies (range_of code_base one_code) (range_of data_base one_data) code stack first
    → AllLie (range_of (code_base + one_code) code_rest)
    (range_of (data_base + one_data) data_rest) code stack
    others
    → AllLie (range_of code_base all_code) (range_of data_base all_data) code stack (first ∷ others)
one_more code_base data_base one_code code_rest one_data data_rest all_code all_data code stack first others
    code_is data_is apart lies rest =
    let c : Range = range_of code_base one_code in
    let cs : Range = range_of (code_base + one_code) code_rest in
    let d : Range = range_of data_base one_data in
    let ds : Range = range_of (data_base + one_data) data_rest in
    let all_c : Range = range_of code_base all_code in
    let all_d : Range = range_of data_base all_data in
    let c_in : LiesWithin all_c c = first_part code_base one_code code_rest all_code code_is in
    let cs_in : LiesWithin all_c cs = later_part code_base one_code code_rest all_code code_is in
    let d_in : LiesWithin all_d d = first_part data_base one_data data_rest all_data data_is in
    let ds_in : LiesWithin all_d ds = later_part data_base one_data data_rest all_data data_is in
    record {
      complete = (lies.complete, rest.complete);
      where_at_says = (lies.where_at_says, rest.where_at_says);
      in_place =
          all_append (InPlace all_c all_d code stack) (pieces_of_module first)
          (flat_map pieces_of_module others)
          (wider c d all_c all_d code stack c_in d_in (pieces_of_module first) lies.in_place)
          (wider cs ds all_c all_d code stack cs_in ds_in (flat_map pieces_of_module others) rest.in_place);
      disjoint =
          subst (EachPair AreDisjoint)
          (sym (filter-append has_own_place (pieces_of_module first) (flat_map pieces_of_module others)))
          (pairs_append AreDisjoint (filter has_own_place (pieces_of_module first))
          (filter has_own_place (flat_map pieces_of_module others)) lies.disjoint rest.disjoint
          (each_between (Own c d) (Own cs ds) AreDisjoint
          (λ one other own own'.
          apart_by_kind c d cs ds one.range other.range one.kind other.kind
          (follow_apart code_base one_code code_rest) (follow_apart data_base one_data data_rest)
          (parts_apart all_c all_d c ds apart c_in ds_in)
          (parts_apart all_d all_c d cs (apart_swap code_base all_code data_base all_data apart) d_in cs_in)
          own
          own')
          (filter has_own_place (pieces_of_module first))
          (filter has_own_place (flat_map pieces_of_module others))
          (own_pieces_lie c d code stack (pieces_of_module first) lies.in_place)
          (own_pieces_lie cs ds code stack (flat_map pieces_of_module others) rest.in_place)));
    }

-- the modules of a program by a plan
abbrev pub module_by : TypedModule × Bases → ModulePlacement
module_by based = module_placement_by based.1 based.0 (storage_with based.0)

abbrev pub all_data : List TypedModule → ℕ
all_data modules = sum_by (λ (typed : TypedModule). data_bytes typed.objects) modules

within_first : (base one rest all : ℕ) → one + rest ≡ all → base + all ≤ 65536 → base + one ≤ 65536
within_first base one rest all is within = omega arith

within_later : (base one rest all : ℕ) → one + rest ≡ all → base + all ≤ 65536 → base + one + rest ≤ 65536
within_later base one rest all is within = omega arith

pub modules_lie :
    (code stack : Range) (code_base data_base : ℕ) (modules : List TypedModule) (lengths : List ℕ)
    → AllByRecursion IsStorable modules
    → AllByRecursion HoldsConstants (zip modules lengths)
    → code_base + sum lengths ≤ 65536
    → data_base + all_data modules ≤ 65536
    → Apart code_base (sum lengths) data_base (all_data modules)
    → AllByRecursion (NotMisplaced code stack)
    (placed_objects modules (map module_by (zip modules (bases_from code_base data_base modules lengths))))
    → AllLie (range_of code_base (sum lengths)) (range_of data_base (all_data modules)) code stack
    (zip modules (map module_by (zip modules (bases_from code_base data_base modules lengths))))
modules_lie code stack code_base data_base [] lengths storable hold code_within data_within apart fine =
    record { complete = tt; where_at_says = tt; in_place = tt; disjoint = tt }
modules_lie code stack code_base data_base (typed ∷ others) [] storable hold code_within
    data_within apart fine =
    record { complete = tt; where_at_says = tt; in_place = tt; disjoint = tt }
modules_lie code stack code_base data_base (typed ∷ others) (length ∷ lengths) storable hold code_within
    data_within apart fine =
    let bases : Bases = record { code_base = code_base; data_base = data_base } in
    let bytes : ℕ = data_bytes typed.objects in
    let code_is : length + sum lengths ≡ sum (length ∷ lengths) =
    sym (sum_by-cons (λ (n : ℕ). n) length lengths) in
    let data_is : bytes + all_data others ≡ all_data (typed ∷ others) =
    sym (sum_by-cons (λ (typed : TypedModule). data_bytes typed.objects) typed others) in
    let all_c : Range = range_of code_base (sum (length ∷ lengths)) in
    let all_d : Range = range_of data_base (all_data (typed ∷ others)) in
    let later : List Bases = bases_from (code_base + length) (data_base + bytes) others lengths in
    one_more code_base data_base length (sum lengths) bytes (all_data others) (sum (length ∷ lengths))
    (all_data (typed ∷ others)) code stack (typed, module_by (typed, bases))
    (zip others (map module_by (zip others later))) code_is data_is apart
    (module_lies length code stack bases typed storable.0 hold.0
    (within_first code_base length (sum lengths) (sum (length ∷ lengths)) code_is code_within)
    (within_first data_base bytes (all_data others) (all_data (typed ∷ others)) data_is data_within)
    (parts_apart all_c all_d (range_of code_base length) (range_of data_base bytes) apart
    (first_part code_base length (sum lengths) (sum (length ∷ lengths)) code_is)
    (first_part data_base bytes (all_data others) (all_data (typed ∷ others)) data_is))
    (each_first (NotMisplaced code stack) (zip typed.objects (module_by (typed, bases)).objects)
    (placed_objects others (map module_by (zip others later))) fine))
    (modules_lie code stack (code_base + length) (data_base + bytes) others lengths storable.1 hold.1
    (within_later code_base length (sum lengths) (sum (length ∷ lengths)) code_is code_within)
    (within_later data_base bytes (all_data others) (all_data (typed ∷ others)) data_is data_within)
    (parts_apart all_c all_d (range_of (code_base + length) (sum lengths))
    (range_of (data_base + bytes) (all_data others)) apart
    (later_part code_base length (sum lengths) (sum (length ∷ lengths)) code_is)
    (later_part data_base bytes (all_data others) (all_data (typed ∷ others)) data_is))
    (each_second (NotMisplaced code stack) (zip typed.objects (module_by (typed, bases)).objects)
    (placed_objects others (map module_by (zip others later))) fine))
