-- An item that is PUBLIC has a place.
use Rattle.meaning_laws.proofs.Prelude.{◌≡◌, ℕ, Bool, true, false, List, Option, Some, None, cond, refl, is_none, ◌&&◌, option_map_or, Linkage, Public, External, Identifier, ItemTree, SubjectTree, AtAddress, InitialValue, HasPlace, BasedOn, Elsewhere, Placed, Block, Owner, OfProcedure, TheModule, is_external_linkage, is_module, is_module_level, is_public_linkage, TypedItem, base_of, check_linkage, extents_of, home_with_values, is_data, typed_at, typed_base, typed_contents, typed_item, typed_type, Known, Gives, gives_after, gives_ok, in_turn, required, then_more, and_parts}

-- where what is shared may stand: in the module itself, and without BASED
record MayBeShared (owner : Owner) (base : Option Identifier) : Type 0 where
  in_module : is_module owner ≡ true
  no_base : is_none base ≡ true

linkage_stands :
    (block : Block) (item : ItemTree) (linkage : Option Linkage)
    → Gives (λ _. is_public_linkage linkage ≡ true → MayBeShared block.owner (base_of item.subject))
    (check_linkage block item linkage)
linkage_stands block item None = gives_ok (λ public. absurd cc)
linkage_stands block item (Some linkage) =
    then_more (required (is_module_level block && is_none (base_of item.subject)) _ _) λ _ is public.
    let level = and_parts (is_module_level block) (is_none (base_of item.subject)) is in
    record { in_module = (and_parts (is_module block.owner) block.is_own level.0).0; no_base = level.1 }

-- what is BASED on nothing
base_is : (known : Known) (block : Block) (subject : SubjectTree) (base : Option Identifier)
    → Gives (λ (found : Option ℕ). is_none base ≡ true → found ≡ None) (typed_base known block subject base)
base_is known block subject None = gives_ok (λ none. refl)
base_is known block subject (Some name) = record { holds = λ found e none. absurd cc }

home_has_place :
    (owner : Owner) (linkage : Option Linkage) (base : Option ℕ) (at : Option AtAddress) (has_data : Bool)
    (values : List InitialValue)
    → is_public_linkage linkage ≡ true
    → is_module owner ≡ true
    → base ≡ None
    → HasPlace
    (option_map_or BasedOn base
    (cond (is_external_linkage linkage) Elsewhere
    (option_map_or Placed at (home_with_values owner has_data values))))
home_has_place TheModule (Some (Public place)) None (Some address) has_data values public inside free = tt
home_has_place TheModule (Some (Public place)) None None true values public inside free = tt
home_has_place TheModule (Some (Public place)) None None false values public inside free = tt
home_has_place (OfProcedure number heading) linkage base at has_data values public inside free = absurd cc
home_has_place TheModule None base at has_data values public inside free = absurd cc
home_has_place TheModule (Some (External place)) base at has_data values public inside free = absurd cc
home_has_place TheModule linkage (Some base) at has_data values public inside free = absurd cc

-- an item that is PUBLIC
abbrev pub ItemLies : TypedItem → Type 0
ItemLies item = is_public_linkage item.linkage ≡ true → HasPlace item.home

pub typed_item_lies : (known : Known) (block : Block) (item : ItemTree)
    → Gives ItemLies (typed_item known block item)
typed_item_lies known block item =
    in_turn (base_is known block item.subject (base_of item.subject)) λ base free.
    gives_after (extents_of block item item.dimension) λ extents.
    gives_after (typed_type block item item.item_type) λ object_type.
    in_turn (linkage_stands block item item.linkage) λ _ stands.
    gives_after (typed_at known block item item.at) λ at.
    gives_after (typed_contents known block item object_type extents item.value_list) λ filled.
    gives_ok (λ public.
    home_has_place block.owner item.linkage base at (is_data item.value_list) filled.values public
    (stands public).in_module (free (stands public).no_base))
