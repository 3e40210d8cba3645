-- DECLARE in a block: what its elements add to the tables and, where the block is that of a procedure, to its
-- names.
use Rattle.typing.proofs.Prelude.{◌≡◌, ℕ, ◌+◌, ◌<◌, inr, Bool, true, false, ◌||◌, List, [], ◌∷◌, ◌++◌, length, Option, Some, None, Ok, nat_le, refl, ap, sym, subst, ◌∙◌, append-nil, arith, not, AllByRecursion, list_any, option_or, ScalarType, Identifier, ElementTree, ItemElement, ItemTree, LiterallyElement, Definition, is_declared_again, with_definition, declared_by, OBJECT_LIMIT, InFrame, TypedObject, DeclaredTwice, ExternalContents, TooLarge, require, Block, OfProcedure, Owner, Progress, TheModule, declares_parameter, is_external, TypedItem, declare_definition, declare_element, declare_elements, declare_item, declare_names, place_of_item, names_parameter, object_named, size_of_item, typed_item, with_objects, scalar_in_element, scalar_in_elements, scalar_of_type, Known, place_of, and_parts, or_right}
use Rattle.typing.proofs.Types.FramesSummed.{HomeFits, typed_item_home}
use Rattle.typing.proofs.Kept.{Gives, anything, gives_after, gives_ok, in_turn, required, then_more}
use Rattle.typing.proofs.Types.TypesOfDeclarations.{made, with_objects-make}
use Rattle.typing.proofs.Parameters.Grown.{Grown, IsNew, OwnerStands, Standing, all_more, grown_same, grown_then, standing_after}
use Rattle.typing.proofs.Parameters.ParameterItems.{May, Owned, declare_names-own, fitting_by, not_again, owned_other, owned_scan, owns, plain_scalar, scan_names, scanned}
use Rattle.typing.proofs.Parameters.OwnBlock.{Scan, is_parameter}
use Rattle.typing.proofs.Options.{nothing_more}

-- who may have more parameters is a procedure so far
pub may_below : (block : Block) (progress : Progress) → Standing block.owner progress
    → (number : ℕ) → May block number → number < length progress.known.procedures
may_below block progress stands number may = by block.owner stands.own may.1
  where
    by : (owner : Owner) → OwnerStands owner (length progress.known.procedures) → owns owner number
        → number < length progress.known.procedures
    by TheModule own is = absurd is
    by (OfProcedure its heading) own is = omega (arith, own, is)

-- the names of an item fit it
any_each : {X : Type 0} (p : X → Bool) (all : List X)
    → AllByRecursion (λ (one : X). p one ≡ true → list_any p all ≡ true) all
any_each p [] = tt
any_each p (first ∷ all) = (
  λ is. ap (λ (test : Bool). test || list_any p all) is,
  all_more (λ (one : _). p one ≡ true → list_any p all ≡ true)
      (λ (one : _). p one ≡ true → list_any p (first ∷ all) ≡ true) all
      (λ one rest is. or_right (p first) (list_any p all) (rest is)) (any_each p all),
)

abbrev block_of : Owner → Bool → Block
block_of owner is_own = record { owner = owner; is_own = is_own }

all_unit : (names : List Identifier) → AllByRecursion (λ (name : Identifier). Unit {0}) names
all_unit [] = tt
all_unit (name ∷ names) = (tt, all_unit names)

item_fits : (owner : Owner) (is_own : Bool) (known : Known) (item : ItemTree) (typed : TypedItem)
    → typed_item known (block_of owner is_own) item ≡ Ok typed
    → AllByRecursion
    (λ (name : Identifier).
    fitting_by owner is_own name.name (scalar_of_type item.item_type)
    (object_named (block_of owner is_own) typed name.name)) (declared_by item.subject)
item_fits TheModule is_own known item typed is = all_unit (declared_by item.subject)
item_fits (OfProcedure number heading) false known item typed is = all_unit (declared_by item.subject)
item_fits (OfProcedure number heading) true known item typed is =
    all_more
    (λ (name : Identifier).
    is_parameter heading name.name ≡ true
    → names_parameter (block_of (OfProcedure number heading) true) item.subject ≡ true)
    (λ (name : Identifier).
    fitting_by (OfProcedure number heading) true name.name (scalar_of_type item.item_type)
    (object_named (block_of (OfProcedure number heading) true) typed name.name))
    (declared_by item.subject)
    (λ name names.
    record {
      name_is = refl;
      parameter = λ parameter.
          let plain = (plain_scalar known number heading item (names parameter)).holds typed is in
          ((plain.0, plain.1), plain.2, parameter);
      other = λ parameter. parameter;
    })
    (any_each (λ (name : Identifier). declares_parameter
    (block_of (OfProcedure number heading) true) name.name)
    (declared_by item.subject))

-- a parameter in a frame is one of the block's own procedure
made_new : (block : Block) (typed : TypedItem) (low high : ℕ) (names : List Identifier)
    → HomeFits block.owner typed.home
    → AllByRecursion (IsNew (May block) low high) (made block typed names)
made_new block typed low high [] home = tt
made_new block typed low high (name ∷ names) home = (
  λ number parameter.
      inr (
        (and_parts block.is_own _ parameter.1).0,
        by block.owner number (subst (HomeFits block.owner) parameter.0 home),
      ),
  made_new block typed low high names home,
)
  where
    by : (owner : Owner) (number : ℕ) → HomeFits owner (InFrame number) → owns owner number
    by TheModule number fits = absurd fits
    by (OfProcedure own heading) number fits = fits.0

-- a part of a block: what it adds, and the block after it
abbrev pub GoesOn : Block → Progress → Scan → Progress → Type 0
GoesOn block before scan after =
    Grown (May block) before after × Owned block scan after.known.objects after.known.here.body.block

pub declare_item-goes : (block : Block) (item : ItemTree) (progress : Progress) (scan : Scan)
    → Standing block.owner progress
    → Owned block scan progress.known.objects progress.known.here.body.block
    → Gives
    (GoesOn block progress (λ name. option_or (scan name) (scalar_in_element (ItemElement item) name)))
    (declare_item block item progress)
declare_item-goes block item progress scan stands owned =
    let names : List Identifier = declared_by item.subject in
    let scalar : ScalarType = scalar_of_type item.item_type in
    in_turn (anything (declare_names block names progress.known.here)) λ here named.
    in_turn (anything (typed_item progress.known block item)) λ typed typed_as.
    gives_after (require (nat_le (size_of_item typed) OBJECT_LIMIT) TooLarge (place_of_item item)) λ small.
    in_turn (anything (with_objects block typed names progress)) λ declared declared_as.
    let is = (with_objects-make block typed names progress).holds declared declared_as in
    let own =
    (declare_names-own block typed scalar names progress.known.here scan
    progress.known.objects owned stands.count
    (item_fits block.owner block.is_own progress.known item typed typed_as)).holds here named in
    let home = (typed_item_home progress.known block item).holds typed typed_as in
    gives_ok (
      record {
        objects = made block typed names;
        grows = is.objects;
        procedures = [];
        adds = is.procedures ∙ sym (append-nil progress.known.procedures);
        new = made_new block typed (length progress.known.procedures)
            (length progress.known.procedures + 0) names home;
        around = own.2;
        count = λ _. own.1 ∙ ap (λ (all : List TypedObject). length all) (sym is.objects);
        fit = λ tables rest same apart. tt;
      },
      subst
          (λ (all : List TypedObject).
          Owned block (λ name. option_or (scan name) (scalar_in_element (ItemElement item) name))
          all here.body.block)
          (sym is.objects)
          (owned_scan block.owner block.is_own (scan_names scan scalar names)
          (λ name. option_or (scan name) (scalar_in_element (ItemElement item) name))
          (progress.known.objects ++ made block typed names) here.body.block
          (λ name. scanned names scan scalar name) own.0),
    )

pub both_more : (one two three : Option ScalarType)
    → option_or (option_or one two) three ≡ option_or one (option_or two three)
both_more None two three = refl
both_more (Some scalar) two three = refl

declare_definition-goes : (block : Block) (name : Identifier) (progress : Progress) (scan : Scan)
    → Standing block.owner progress
    → Owned block scan progress.known.objects progress.known.here.body.block
    → Gives (GoesOn block progress scan) (declare_definition block name progress)
declare_definition-goes block name progress scan stands owned =
    in_turn (required (not (is_declared_again progress.known.here name.name)) DeclaredTwice (place_of name))
    λ _ once.
    gives_after (require (not (is_external block.owner)) ExternalContents (place_of name)) λ placed.
    gives_ok (
      grown_same progress (record progress {
        known = record progress.known { here = with_definition name.name progress.known.here };
      }) refl refl refl refl,
      owned_other block.owner block.is_own scan progress.known.objects progress.known.here.body.block
          name.name Definition
          (λ place same. absurd cc) (not_again progress.known.here name.name once) owned,
    )

pub owned_as : (block : Block) (one other : Scan) (before after : Progress)
    → ((name : List ℕ) → one name ≡ other name)
    → GoesOn block before one after → GoesOn block before other after
owned_as block one other before after same goes = (
  goes.0,
  owned_scan block.owner block.is_own one other after.known.objects after.known.here.body.block same goes.1,
)

declare_element-goes : (block : Block) (element : ElementTree) (progress : Progress) (scan : Scan)
    → Standing block.owner progress
    → Owned block scan progress.known.objects progress.known.here.body.block
    → Gives (GoesOn block progress (λ name. option_or (scan name) (scalar_in_element element name)))
    (declare_element block element progress)
declare_element-goes block (LiterallyElement name text) progress scan stands owned =
    then_more (declare_definition-goes block name progress scan stands owned) λ after goes.
    owned_as block scan (λ each. option_or (scan each) None) progress after
    (λ each. nothing_more (scan each)) goes
declare_element-goes block (ItemElement item) progress scan stands owned =
    declare_item-goes block item progress scan stands owned

-- one part after another
pub goes_then : (block : Block) (before between after : Progress) (one other : Scan)
    → Standing block.owner before
    → GoesOn block before one between
    → GoesOn block between other after
    → GoesOn block before other after
goes_then block before between after one other stands first second =
    (grown_then (may_below block before stands) first.0 second.0, second.1)

pub declare_elements-go : (block : Block) (elements : List ElementTree) (progress : Progress) (scan : Scan)
    → Standing block.owner progress
    → Owned block scan progress.known.objects progress.known.here.body.block
    → Gives (GoesOn block progress (λ name. option_or (scan name) (scalar_in_elements elements name)))
    (declare_elements block elements progress)
declare_elements-go block [] progress scan stands owned =
    gives_ok
    (owned_as block scan (λ each. option_or (scan each) None) progress progress
    (λ each. nothing_more (scan each))
    (grown_same progress progress refl refl refl refl, owned))
declare_elements-go block (element ∷ others) progress scan stands owned =
    in_turn (declare_element-goes block element progress scan stands owned) λ between first.
    then_more
    (declare_elements-go block others between (λ name. option_or (scan name) (scalar_in_element element name))
    (standing_after (may_below block progress stands) stands first.0) first.1) λ after second.
    owned_as block
    (λ name. option_or (option_or (scan name) (scalar_in_element element name))
    (scalar_in_elements others name))
    (λ name. option_or (scan name) (option_or (scalar_in_element element name)
    (scalar_in_elements others name)))
    progress after
    (λ name. both_more (scan name) (scalar_in_element element name) (scalar_in_elements others name))
    (goes_then block progress between after (λ name. option_or (scan name) (scalar_in_element element name))
    (λ name. option_or (option_or (scan name) (scalar_in_element element name))
    (scalar_in_elements others name))
    stands first second)
