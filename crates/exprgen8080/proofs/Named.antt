-- The EXTERNAL names that the code of steps refers to are those of the module.
use Rattle.exprgen8080.proofs.Prelude.{◌≡◌, ◌<◌, inl, inr, ℕ, Bool, true, false, if◌then◌else◌, List, [], ◌∷◌, Option, Some, None, slice_get, refl, subst, arith, Item, Facts, Part, Step, Site, AreWritten, IsWritten, NoneWritten, PlainWritten, WordWritten, JumpWritten, MarkWritten, RoutineWritten, CallWritten, TestWritten, HoldsWritten, ChangeWritten, PartWritten, Planned, call_items, knowing, test_items, NumbersRise, nodes_of, TreeModule}
use Rattle.std.proofs.lemmas.Bool.{eqb-true}
use Rattle.asm8080.specs.declared.item.Item.TheVariants as items
use Rattle.asm8080.specs.declared.item.WordForm.{WordForm}
use Rattle.treecode.specs.declared.place.Place.{Place}
use Rattle.treecode.specs.declared.place.Place.TheVariants as places
use Rattle.treecode.specs.declared.procedure.ProcedureKind.{ProcedureKind}
use Rattle.treecode.specs.declared.procedure.ProcedureKind.TheVariants as kinds
use Rattle.treecode.specs.declared.procedure.TreeProcedure.{TreeProcedure}
use Rattle.treecode.specs.internal.Named.{KindIsNamed, NamesItsOwn, PlaceIsNamed, name_count}
use Rattle.steps8080.proofs.{Binding.{named_both, true_of}, Numbered.{not_both}}
use Rattle.steps8080.specs.internal.Writer.{AreNamed, use_name, uses_name, word_item}
use Rattle.exprgen8080.specs.internal.Emission.{items_of_call, test_of_a}
use Rattle.exprgen8080.specs.internal.Named.{PlacesAreNamed}
use Rattle.exprgen8080.proofs.Ranks.Tasks.{parts_named}

-- an item before others
pub item_first :
    (count : ℕ) (item : Item) (list : List Item)
    → ((name : ℕ) → uses_name name item ≡ true → name < count)
    → AreNamed count list
    → AreNamed count (item ∷ list)
item_first count item list is are = record {
  below = λ name used. elim (true_of (uses_name name item) (use_name name list) used) [
    | inl here ↦ is name here
    | inr there ↦ are.below name there
  ];
}

-- one without a name
pub no_name_first :
    (count : ℕ) (item : Item) (list : List Item)
    → ((name : ℕ) → uses_name name item ≡ false)
    → AreNamed count list
    → AreNamed count (item ∷ list)
no_name_first count item list none are =
    item_first count item list (λ name used. absurd (not_both (uses_name name item) used (none name))) are

pub nothing_named : (count : ℕ) → AreNamed count []
nothing_named count = record { below = λ name used. absurd (not_both false used refl) }

-- the word of a place
pub word_named : (count : ℕ) (form : WordForm) (place : Place) (name : ℕ)
    → PlaceIsNamed count place
    → uses_name name (word_item form place) ≡ true
    → name < count
word_named count form (places.External offset other) name is used =
    let same : name ≡ other = eqb-true name other used in omega (arith, same, is)
word_named count form (places.Number number) name is used = absurd (not_both false used refl)
word_named count form (places.Code offset) name is used = absurd (not_both false used refl)
word_named count form (places.Data offset) name is used = absurd (not_both false used refl)

-- a call
call_named : (count procedure : ℕ) (kind : ProcedureKind) → KindIsNamed count kind
    → AreNamed count (items_of_call procedure kind)
call_named count procedure (kinds.External other) is =
    item_first count _ [] (λ name used. let same : name ≡ other = eqb-true name other used in omega (arith, same, is))
    (nothing_named count)
call_named count procedure kinds.Static is = no_name_first count _ [] (λ name. refl) (nothing_named count)
call_named count procedure kinds.Reentrant is = no_name_first count _ [] (λ name. refl) (nothing_named count)

calls_named : (tree : TreeModule) (site : Site) (procedure : ℕ) → site.tree.now ≡ tree → NamesItsOwn tree
    → AreNamed (name_count tree) (call_items site procedure)
calls_named tree site procedure same own =
    by (slice_get site.tree.now.procedures.items procedure)
    (λ found there. own.kinds procedure found
    (subst (λ (one : TreeModule). slice_get one.procedures.items procedure ≡ Some found) same there))
  where
    by : (found : Option TreeProcedure)
        → ((one : TreeProcedure) → found ≡ Some one → KindIsNamed (name_count tree) one.kind)
        → AreNamed (name_count tree) (elim found [ Some one ↦ items_of_call procedure one.kind | None ↦ [] ])
    by (Some one) is = call_named (name_count tree) procedure one.kind (is one refl)
    by None is = nothing_named (name_count tree)

test_named : (count : ℕ) (facts : Facts) → AreNamed count (test_items facts)
test_named count facts = by facts.zero_shows_a
  where
    by : (shown : Bool) → AreNamed count (if shown then [] else items.Plain test_of_a ∷ [])
    by true = nothing_named count
    by false = no_name_first count (items.Plain test_of_a) [] (λ name. refl) (nothing_named count)

mutual
  pub steps_named :
      {site : Site} {called : List Bool} {facts last : Facts} {planned : List Step} {list : List Item}
      (written : AreWritten site called facts planned list last)
      → NumbersRise (nodes_of site.tree.now)
      → NamesItsOwn site.tree.now
      → PlacesAreNamed site.tree.now planned
      → AreNamed (name_count site.tree.now) list
  steps_named {site = site} NoneWritten rise own are = nothing_named (name_count site.tree.now)
  steps_named {site = site} (PlainWritten others) rise own are =
      no_name_first (name_count site.tree.now) _ _ (λ name. refl) (steps_named others rise own are)
  steps_named {site = site} (WordWritten {form = form} {place = place} others) rise own are =
      item_first (name_count site.tree.now) _ _
      (λ name used. word_named (name_count site.tree.now) form place name are.0 used)
      (steps_named others rise own are.1)
  steps_named {site = site} (JumpWritten others) rise own are =
      no_name_first (name_count site.tree.now) _ _ (λ name. refl) (steps_named others rise own are)
  steps_named {site = site} (MarkWritten others) rise own are =
      no_name_first (name_count site.tree.now) _ _ (λ name. refl) (steps_named others rise own are)
  steps_named {site = site} (RoutineWritten is_called others) rise own are =
      no_name_first (name_count site.tree.now) _ _ (λ name. refl) (steps_named others rise own are)
  steps_named {site = site} (CallWritten {procedure = procedure} others) rise own are =
      named_both (name_count site.tree.now) (call_items site procedure) _
      (calls_named site.tree.now site procedure refl own) (steps_named others rise own are)
  steps_named {site = site} (TestWritten {facts = facts} others) rise own are =
      named_both (name_count site.tree.now) (test_items facts) _ (test_named (name_count site.tree.now) facts)
      (steps_named others rise own are)
  steps_named (HoldsWritten others) rise own are = steps_named others rise own are
  steps_named (ChangeWritten others) rise own are = steps_named others rise own are
  steps_named {site = site} (PartWritten {first = first} {more = more} part others) rise own are =
      named_both (name_count site.tree.now) first more (part_named part rise own) (steps_named others rise own are)

  pub part_named :
      {site : Site} {called : List Bool} {facts last : Facts} {part : Part} {list : List Item}
      (written : IsWritten site called facts part list last)
      → NumbersRise (nodes_of site.tree.now)
      → NamesItsOwn site.tree.now
      → AreNamed (name_count site.tree.now) list
  part_named {site = site} {facts = facts} {part = part} (Planned at steps) rise own =
      steps_named steps rise own (parts_named (knowing site facts) part at rise own)
