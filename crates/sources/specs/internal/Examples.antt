-- Worked values: storage, joining and starting memory.
use Rattle.std.specs.Prelude.{◌≡◌, ℕ, List, [], ◌∷◌, map, filter_map, replicate, Option, None, Some, Result, Ok, Err, codes, refl}
use Rattle.std.specs.List.{enumerate_from}
use Rattle.trees.specs.declared.declaration.Linkage.{Linkage}
use Rattle.trees.specs.declared.declaration.Linkage.TheVariants.{Public, External}
use Rattle.trees.specs.declared.declaration.ScalarType.{ScalarType}
use Rattle.trees.specs.declared.declaration.ScalarType.TheVariants.{Byte, Address}
use Rattle.trees.specs.declared.declaration.Sign.TheVariants.{Plus}
use Rattle.trees.specs.declared.declaration.Storage.TheVariants.{Initial}
use Rattle.trees.specs.Trees.{ListLeaf, LocationOrigin, RestrictedTree, ScalarItem, ElementTree, ItemElement, HeadingTree, CallStatement as Call, DoStatement, DeclarationTree, DeclareTree, ModuleTree}
use Rattle.names.specs.BuiltIns.{built_in_of}
use Rattle.typed_trees.specs.declared.parts.AtAddress.TheVariants.{AtObject}
use Rattle.typed_trees.specs.TypedTrees.{TypedProcedure, TypedModule}
use Rattle.typing.specs.internal.Checks.{Checked}
use Rattle.typing.specs.internal.Typing.{typing_of}
use Rattle.typing.specs.internal.Samples.{on_line, name_on, number_on, string_on, a_number, plain, arguments_of, item_with, scalar_item, data_item, array_item, alone, unlabelled, assigns, statements_of, declarations_of, heading_on, procedure_of, value_of, module_of}
use Rattle.typing.specs.internal.Measures.{structures, sends}
use Rattle.layout.specs.declared.fault.Fault.TheVariants.{DataTooLarge}
use Rattle.layout.specs.declared.slot.Segment.TheVariants.{Code, Data}
use Rattle.layout.specs.Storage.{Storage, storage_of}
use Rattle.layout.specs.Joined.{NoPublic, PublicTwice, DeclarationsDiffer, NotOneMain, join_refusal, InProgram, procedure_meant}
use Rattle.layout.specs.Placement.{ModulePlacement, Placement, StaticPiece, ConstantPiece, AtPiece, range_of, address_at, pieces_of}
use Rattle.layout.specs.StartingMemory.{starting_memory}

-- the modules among trees that have a typing
abbrev pub typed_or_none : Checked TypedModule → Option TypedModule
typed_or_none (Ok typed) = Some typed
typed_or_none (Err fault) = None

abbrev pub typed : List ModuleTree → List TypedModule
typed trees = filter_map (λ tree. typed_or_none (typing_of tree)) trees

abbrev pub storages : List TypedModule → List (Option Storage)
storages [] = []
storages (first ∷ others) = stored (storage_of first) ∷ storages others
  where
    stored : {E : Type 0} → Result Storage E → Option Storage
    stored (Ok storage) = Some storage
    stored (Err fault) = None

-- DECLARE S(2) STRUCTURE (A BYTE, B(2) ADDRESS), X BYTE AT (.S + 8);: X has no place in a segment
pub structure_storage :
    storages (typed (module_of (structures ∷ []) [] ∷ []))
    ≡ Some (record {
      objects = Some (record { segment = Data; offset = 0; size = 10 }) ∷ None ∷ [];
      lists = [];
      data_size = 10;
      constant_size = 0;
    }) ∷ []
unfolding typing_of built_in_of storage_of
structure_storage = refl

-- DECLARE A BYTE, K BYTE DATA (3), W ADDRESS; W = .(1, 300); DO; DECLARE L BYTE DATA (4); W = .('AB'); END;
-- the constants are in the order of the text, K, a list of three bytes, L, and a list of two
abbrev pub constants_module : ModuleTree
constants_module = module_of
    (DeclareTree (
    scalar_item 2 (codes "A") Byte
    ∷ data_item 2 (codes "K") Byte (alone (number_on 2 3) ∷ [])
    ∷ scalar_item 2 (codes "W") Address
    ∷ []) ∷ [])
    (assigns (plain 3 (codes "W") ∷ []) (ListLeaf (number_on 3 1 ∷ number_on 3 300 ∷ []))
    ∷ unlabelled (DoStatement (on_line 4)
    (declarations_of (DeclareTree (data_item 4 (codes "L") Byte (alone (number_on 4 4) ∷ []) ∷ []) ∷ []))
    (statements_of (assigns (plain 5 (codes "W") ∷ []) (ListLeaf (string_on 5 (codes "AB") ∷ [])) ∷ [])))
    ∷ [])

pub constants_storage :
    storages (typed (constants_module ∷ []))
    ≡ Some (record {
      objects =
          Some (record { segment = Data; offset = 0; size = 1 })
          ∷ Some (record { segment = Code; offset = 0; size = 1 })
          ∷ Some (record { segment = Data; offset = 1; size = 2 })
          ∷ Some (record { segment = Code; offset = 4; size = 1 })
          ∷ [];
      lists =
          record { segment = Code; offset = 1; size = 3 }
          ∷ record { segment = Code; offset = 5; size = 2 }
          ∷ [];
      data_size = 3;
      constant_size = 7;
    }) ∷ []
unfolding typing_of built_in_of storage_of
constants_storage = refl

-- DECLARE A(65534) BYTE, B BYTE; and with one more: data segments of 65535 and of 65536 bytes
abbrev pub data_module : (last : ScalarType) → List ModuleTree
data_module last = module_of
    (DeclareTree (
    array_item 2 (codes "A") 65534 (ScalarItem Byte)
    ∷ scalar_item 2 (codes "B") last
    ∷ []) ∷ []) [] ∷ []

pub data_of_a_segment :
    storages (typed (data_module Byte))
    ≡ Some (record {
      objects =
          Some (record { segment = Data; offset = 0; size = 65534 })
          ∷ Some (record { segment = Data; offset = 65534; size = 1 })
          ∷ [];
      lists = [];
      data_size = 65535;
      constant_size = 0;
    }) ∷ []
unfolding typing_of built_in_of storage_of
data_of_a_segment = refl

pub data_too_large : map storage_of (typed (data_module Address)) ≡ Err DataTooLarge ∷ []
unfolding typing_of built_in_of storage_of
data_too_large = refl

-- SHOW: PROCEDURE(X) EXTERNAL; DECLARE X BYTE; END SHOW; CALL SHOW(7);
abbrev pub show_heading : Linkage → HeadingTree
show_heading linkage =
    record (heading_on 2 (codes "SHOW") (name_on 2 (codes "X") ∷ []) None) { linkage = Some linkage }

abbrev pub its_parameter : ScalarType → DeclarationTree
its_parameter scalar = DeclareTree (scalar_item 2 (codes "X") scalar ∷ [])

abbrev pub caller : ModuleTree
caller = module_of (procedure_of (show_heading (External (on_line 2))) (its_parameter Byte ∷ []) [] ∷ [])
    (unlabelled (Call (on_line 3) (name_on 3 (codes "SHOW")) (arguments_of (a_number 3 7 ∷ []))) ∷ [])

-- SHOW: PROCEDURE(X) PUBLIC; DECLARE X ..; OUTPUT(4) = X; END SHOW;
abbrev pub shower : ScalarType → ModuleTree
shower scalar = module_of
    (procedure_of (show_heading (Public (on_line 2))) (its_parameter scalar ∷ [])
    (sends 3 4 (value_of (plain 3 (codes "X"))) ∷ []) ∷ []) []

-- the procedures that the procedures of each module stand for
abbrev pub procedures_called : List TypedModule → List (List (Option InProgram))
procedures_called modules = map (λ (numbered : ℕ × TypedModule). called modules numbered.0 numbered.1)
    (enumerate_from 0 modules)
  where
    called : List TypedModule → (number_of_module : ℕ) → TypedModule → List (Option InProgram)
    called modules number_of_module typed = map
        (λ (numbered : ℕ × TypedProcedure).
        procedure_meant modules (record { number_of_module = number_of_module; number = numbered.0 })
        numbered.1 (numbered.1).visibility)
        (enumerate_from 0 typed.procedures)

pub joined : join_refusal (typed (caller ∷ shower Byte ∷ [])) ≡ None
unfolding typing_of built_in_of join_refusal
joined = refl

pub joined_in_either_order : join_refusal (typed (shower Byte ∷ caller ∷ [])) ≡ None
unfolding typing_of built_in_of join_refusal
joined_in_either_order = refl

pub no_public : join_refusal (typed (caller ∷ [])) ≡ Some (NoPublic (codes "SHOW"))
unfolding typing_of built_in_of join_refusal
no_public = refl

pub public_twice :
    join_refusal (typed (caller ∷ shower Byte ∷ shower Byte ∷ [])) ≡ Some (PublicTwice (codes "SHOW"))
unfolding typing_of built_in_of join_refusal
public_twice = refl

pub other_parameter :
    join_refusal (typed (caller ∷ shower Address ∷ [])) ≡ Some (DeclarationsDiffer (codes "SHOW"))
unfolding typing_of built_in_of join_refusal
other_parameter = refl

pub no_main : join_refusal (typed (shower Byte ∷ [])) ≡ Some NotOneMain
unfolding typing_of built_in_of join_refusal
no_main = refl

pub two_mains : join_refusal (typed (caller ∷ caller ∷ shower Byte ∷ [])) ≡ Some NotOneMain
unfolding typing_of built_in_of join_refusal
two_mains = refl

-- the call of SHOW in the first module is one of the only procedure of the second
pub show_called :
    procedures_called (typed (caller ∷ shower Byte ∷ []))
    ≡ (Some (record { number_of_module = 1; number = 0 }) ∷ [])
    ∷ (Some (record { number_of_module = 1; number = 0 }) ∷ [])
    ∷ []
unfolding typing_of built_in_of
show_called = refl

-- DECLARE A BYTE INITIAL (7), W ADDRESS INITIAL (.A + 1), K BYTE DATA (9); W = .(1); with A at 2, W at 3, K
-- at 6 and the list at 7
abbrev pub initial_item : (line : ℕ) → List ℕ → ScalarType → RestrictedTree → ElementTree
initial_item line text scalar value =
    ItemElement (record (item_with line text (ScalarItem scalar)) {
      value_list = Some (record { storage = Initial (on_line line); values = value ∷ [] });
    })

abbrev pub one_after_a : RestrictedTree
one_after_a = record {
  origin = LocationOrigin (name_on 2 (codes "A"));
  offsets = record { sign = Plus; constant = number_on 2 1 } ∷ [];
}

abbrev pub filled_module : ModuleTree
filled_module = module_of
    (DeclareTree (
    initial_item 2 (codes "A") Byte (alone (number_on 2 7))
    ∷ initial_item 2 (codes "W") Address one_after_a
    ∷ data_item 2 (codes "K") Byte (alone (number_on 2 9) ∷ [])
    ∷ []) ∷ [])
    (assigns (plain 3 (codes "W") ∷ []) (ListLeaf (number_on 3 1 ∷ [])) ∷ [])

abbrev pub filled_placement : Placement
filled_placement = record {
  modules = record { objects = 2 ∷ 3 ∷ 6 ∷ []; lists = 7 ∷ [] } ∷ [];
  code = range_of 6 2;
  stack = range_of 8 2;
}

pub filled :
    starting_memory (typed (filled_module ∷ [])) filled_placement (replicate 9 255)
    ≡ 255 ∷ 255 ∷ 7 ∷ 3 ∷ 0 ∷ 255 ∷ 9 ∷ 1 ∷ 255 ∷ []
unfolding typing_of built_in_of starting_memory
filled = refl

-- the pieces and their places: the static objects, the object with DATA and the constant list
pub pieces :
    pieces_of (typed (filled_module ∷ [])) filled_placement
    ≡ record { kind = StaticPiece; range = range_of 2 1 }
    ∷ record { kind = StaticPiece; range = range_of 3 2 }
    ∷ record { kind = ConstantPiece; range = range_of 6 1 }
    ∷ record { kind = ConstantPiece; range = range_of 7 1 }
    ∷ []
unfolding typing_of built_in_of
pieces = refl

-- DECLARE S(2) STRUCTURE (A BYTE, B(2) ADDRESS), X BYTE AT (.S + 8);: with S at 20, X lies at 28
abbrev pub structures_placed : ModulePlacement
structures_placed = record { objects = 20 ∷ 28 ∷ []; lists = [] }

pub pieces_with_at :
    pieces_of (typed (module_of (structures ∷ []) [] ∷ []))
    (record { modules = structures_placed ∷ []; code = range_of 0 0; stack = range_of 0 0 })
    ≡ record { kind = StaticPiece; range = range_of 20 10 }
    ∷ record { kind = AtPiece; range = range_of 28 1 }
    ∷ []
unfolding typing_of built_in_of
pieces_with_at = refl

pub address_of_x : address_at structures_placed.objects (AtObject 0 8) ≡ 28
address_of_x = refl
