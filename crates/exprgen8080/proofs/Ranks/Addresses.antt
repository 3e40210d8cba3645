-- Addresses of objects and their parts, and values in memory.
use Rattle.exprgen8080.proofs.Prelude.{◌≡◌, ◌+◌, ◌*◌, ◌%◌, ◌<◌, ◌==◌, ◌∷◌, [], Base, BinaryOperator, Dcx, Expression, ExpressionForm, ExpressionNumber, Hl, IfSome, Inx, LoadA, LoadHl, Location, None, Number, NumbersRise, Option, Place, Reference, Site, Some, Split, Subscript, TreeModule, addition_steps, address_steps, base_added_steps, base_after, base_of, base_steps, before, byte_for_l, byte_from_hl, byte_in_memory_steps, byte_to_l_steps, distance, expression, extended_byte_in_memory_steps, frame_byte_steps, frame_byte_to_l_steps, frame_word_steps, home, is_at, keeps, located, located_at, located_steps, location_address_steps, location_after, location_byte_steps, location_of, location_word_steps, nat_le, negated, new_address_steps, nodes_of, number, number_added_steps, option_and_then, place_number, reference_bound, refl, second_steps, split, split_computed, split_form, split_sum, split_whole, unknown, unwrap_or, word_in_memory_steps, ℕ}
use Rattle.trees.specs.declared.expression.BinaryOperator.TheVariants.{Add, Subtract}
use Rattle.trees.specs.declared.declaration.ScalarType.TheVariants as scalars
use Rattle.treecode.specs.declared.expression.ExpressionForm.TheVariants as forms
use Rattle.treecode.specs.declared.place.Location.TheVariants as locations
use Rattle.steps8080.specs.declared.step.Step.TheVariants as steps
use Rattle.steps8080.specs.declared.sites.queries.Base.TheVariants as bases
use Rattle.steps8080.proofs.SiteNames.{IsOwn, IsOwnBase, IsOwnLocation, base_is_own, frame_is_own, location_is_own, number_is_own, place_is_own, place_of_base, pointer_of_base, static_is_own}
use Rattle.exprgen8080.proofs.Ranks.{Joining.{Falls, IsPlaced, IsUnder, after_plain, by_finding, by_test, falls, joined, of_found, repeated, weak}, Trees.{HasParts, IndexIs, has_parts, subscripts_are}, Chains.{product_fall}}

number_added_fall :
    {site : Site} {limit : ℕ} (number : ℕ)
    → Falls site limit (number_added_steps number)
number_added_fall number =
    by_test (nat_le number 3) (repeated (Inx Hl) number)
    (by_test (nat_le (negated number) 3) (repeated (Dcx Hl) (negated number)) (falls tt))

pub addition_fall :
    {site : Site} {limit : ℕ} (place : Place)
    → IsOwn site.tree.now place
    → Falls site limit (addition_steps place)
addition_fall place own =
    by_finding (place_number place) (λ number is. number_added_fall number) (λ none. falls (own, tt))

new_address_fall :
    {now : Site} {limit : ℕ} (site : Site) (location : Location)
    (pushed : ℕ)
    → IsOwnLocation now.tree.now location
    → Falls now limit (new_address_steps site location pushed)
new_address_fall site (locations.Static place) pushed own = falls (place_is_own own, tt)
new_address_fall site (locations.Frame variable offset) pushed own = falls tt

pub location_address_fall :
    {now : Site} {limit : ℕ} (site : Site) (location : Location)
    (pushed : ℕ)
    → IsOwnLocation now.tree.now location
    → Falls now limit (location_address_steps site location pushed)
location_address_fall site location pushed own =
    by_test (is_at site.facts.address_in_hl location) (falls tt)
    (by_test (is_at site.facts.address_in_hl (before location)) (falls tt)
    (by_test (is_at site.facts.address_in_hl (location_after location 1)) (falls tt)
    (joined (new_address_fall site location pushed own) (falls tt))))

frame_word_fall :
    {now : Site} {limit : ℕ} (site : Site) (location : Location)
    (away pushed : ℕ)
    → IsOwnLocation now.tree.now location
    → Falls now limit (frame_word_steps site location away pushed)
frame_word_fall site location away pushed own =
    by_test (away == 0) (falls tt)
    (by_test (away == 2) (falls tt)
    (joined (joined (location_address_fall site location pushed own) (falls tt)) (falls tt)))

location_fits_by :
    {now : Site} {limit : ℕ} (site : Site) (location : Location)
    (pushed : ℕ)
    → IsOwnLocation now.tree.now location
    → Falls now limit (elim location [
      | locations.Static place ↦ steps.Word LoadHl place ∷ []
      | locations.Frame variable offset ↦
          frame_word_steps site (locations.Frame variable offset)
          (distance site variable offset pushed) pushed
    ])
location_fits_by site (locations.Static place) pushed own = falls (place_is_own own, tt)
location_fits_by site (locations.Frame variable offset) pushed own =
    frame_word_fall site (locations.Frame variable offset) (distance site variable offset pushed) pushed own

-- code that is planned at one site fits at another site of the same tree
pub location_word_fall :
    {now : Site} {limit : ℕ} (site : Site) (location : Location)
    (pushed : ℕ)
    → IsOwnLocation now.tree.now location
    → Falls now limit (location_word_steps site location pushed)
location_word_fall site location pushed own =
    by_test (is_at site.facts.word_in_hl location) (falls tt) (location_fits_by site location pushed own)

base_fall :
    {site : Site} {limit : ℕ} (base : Base) (pushed : ℕ)
    → IsOwnBase site.tree.now base
    → Falls site limit (base_steps site base pushed)
base_fall {site = site} (bases.Static place) pushed own =
    location_address_fall site (locations.Static place) pushed (static_is_own (place_of_base own))
base_fall {site = site} (bases.Frame variable offset) pushed own =
    location_address_fall site (locations.Frame variable offset) pushed frame_is_own
base_fall {site = site} (bases.Based pointer offset) pushed own =
    joined (location_word_fall site pointer pushed (pointer_of_base own)) (addition_fall (Number offset) number_is_own)

base_added_fall :
    {site : Site} {limit : ℕ} (base : Base) (pushed : ℕ)
    → IsOwnBase site.tree.now base
    → Falls site limit (base_added_steps site base pushed)
base_added_fall (bases.Static place) pushed own = addition_fall place (place_of_base own)
base_added_fall (bases.Frame variable offset) pushed own = falls tt
base_added_fall {site = site} (bases.Based pointer offset) pushed own =
    after_plain
    (joined (location_word_fall (unknown site) pointer pushed (pointer_of_base own))
    (after_plain (addition_fall (Number offset) number_is_own)))

second_fall :
    {site : Site} {limit : ℕ} (second : Subscript) (pushed : ℕ)
    → IsUnder site.tree.now limit second.index
    → Falls site limit (second_steps site second pushed)
second_fall {site = site} {limit = limit} second pushed is =
    by_test (keeps site second.index).de
    (after_plain (joined (product_fall second.index second.stride pushed is) (falls tt)))
    (after_plain (joined (product_fall second.index second.stride ((pushed + 2) % 65536) is) (falls tt)))

abbrev computed_in : Split → Option Subscript
computed_in parts = parts.computed

-- a subscript that is computed
abbrev pub IsIndex : (tree : TreeModule) → (limit : ℕ) → Subscript → Type 0
IsIndex tree limit subscript = IsUnder tree limit subscript.index

split_sum_is :
    (tree : TreeModule) (limit : ℕ) (subscript : Subscript) (operator : BinaryOperator)
    (left : ExpressionNumber) (found : Option ℕ)
    → IsUnder tree limit left
    → IsUnder tree limit subscript.index
    → IfSome
    (unwrap_or (option_and_then (λ value. split_sum subscript operator value left) found)
    (split_whole subscript)).computed
    (IsIndex tree limit)
split_sum_is tree limit subscript Add left (Some value) one is = one
split_sum_is tree limit subscript Subtract left (Some value) one is = one
split_sum_is tree limit subscript operator left (Some value) one is = is
split_sum_is tree limit subscript operator left None one is = is

split_form_is :
    (site : Site) (limit : ℕ) (subscript : Subscript) (form : ExpressionForm)
    → IsUnder site.tree.now limit subscript.index
    → HasParts site.tree.now limit form
    → IfSome (split_form site subscript form).computed (IsIndex site.tree.now limit)
split_form_is site limit subscript (forms.Binary scalars.Address operator left right) is has =
    split_sum_is site.tree.now limit subscript operator left (number site right) has.0 is
split_form_is site limit subscript form is has = is

split_computed_is :
    (site : Site) (limit : ℕ) (subscript : Subscript)
    → IsUnder site.tree.now limit subscript.index
    → IfSome (split_computed site subscript).computed (IsIndex site.tree.now limit)
unfolding split_computed
split_computed_is site limit subscript is = by (expression site subscript.index) refl
  where
    by : (found : Option Expression) → expression site subscript.index ≡ found
        → IfSome
        (computed_in
        (elim found [ Some one ↦ split_form site subscript one.form | None ↦ split_whole subscript ]))
        (IsIndex site.tree.now limit)
    by (Some one) there = split_form_is site limit subscript one.form is (has_parts site (weak is) there)
    by None there = is

split_is :
    (site : Site) (limit : ℕ) (index : Option Subscript)
    → IndexIs site.tree.now limit index
    → IfSome (split site index).computed (IsIndex site.tree.now limit)
unfolding split
split_is site limit None is = tt
split_is site limit (Some subscript) is = by (number site subscript.index)
  where
    by : (found : Option ℕ)
        → IfSome
        (computed_in (elim found [
          | Some index ↦ record { computed = None; offset = (index * subscript.stride) % 65536 }
          | None ↦ split_computed site subscript
        ]))
        (IsIndex site.tree.now limit)
    by (Some index) = tt
    by None = split_computed_is site limit subscript is

located_fall :
    {site : Site} {limit : ℕ} (base : Base)
    (first second : Option Subscript)
    (pushed : ℕ)
    → IfSome first (IsIndex site.tree.now limit)
    → IfSome second (IsIndex site.tree.now limit)
    → IsOwnBase site.tree.now base
    → Falls site limit (located_steps site (located_at base first second) pushed)
located_fall base None None pushed one two own = base_fall base pushed own
located_fall base (Some first) None pushed one two own =
    joined (product_fall first.index first.stride pushed one) (base_added_fall base pushed own)
located_fall base None (Some second) pushed one two own =
    joined (product_fall second.index second.stride pushed two) (base_added_fall base pushed own)
located_fall base (Some first) (Some second) pushed one two own =
    joined (joined (product_fall first.index first.stride pushed one) (second_fall second pushed two))
    (base_added_fall base pushed own)

-- the address of a part of an object
pub address_fall :
    {site : Site} {limit : ℕ} (reference : Reference) (pushed : ℕ)
    → NumbersRise (nodes_of site.tree.now)
    → reference_bound reference * 16 + 4 < limit
    → Falls site limit (address_steps site reference pushed)
unfolding located
address_fall {site = site} {limit = limit} reference pushed rises small =
    let both = subscripts_are site.tree.now {limit = limit} reference rises small in
    located_fall
    (base_after
    (base_after (base_after (base_of (home site.tree.now reference.object)) reference.offset)
    (split site reference.subscript).offset)
    (split site reference.member_subscript).offset)
    (split site reference.subscript).computed
    (split site reference.member_subscript).computed
    pushed
    (split_is site limit reference.subscript both.0)
    (split_is site limit reference.member_subscript both.1)
    (base_is_own site reference (split site reference.subscript).offset (split site reference.member_subscript).offset)

frame_byte_fall :
    {site : Site} {limit : ℕ} (location : Location) (away pushed : ℕ)
    → IsOwnLocation site.tree.now location
    → Falls site limit (frame_byte_steps site location away pushed)
frame_byte_fall {site = site} location away pushed own =
    by_test (away == 0) (falls tt)
    (by_test (away == 1) (falls tt)
    (joined (location_address_fall site location pushed own) (falls tt)))

location_byte_by :
    {site : Site} {limit : ℕ} (location : Location) (pushed : ℕ)
    → IsOwnLocation site.tree.now location
    → Falls site limit (elim location [
      | locations.Static place ↦ steps.Word LoadA place ∷ []
      | locations.Frame variable offset ↦
          frame_byte_steps site (locations.Frame variable offset)
          (distance site variable offset pushed) pushed
    ])
location_byte_by (locations.Static place) pushed own = falls (place_is_own own, tt)
location_byte_by {site = site} (locations.Frame variable offset) pushed own =
    frame_byte_fall (locations.Frame variable offset) (distance site variable offset pushed) pushed own

location_byte_fall :
    {site : Site} {limit : ℕ} (location : Location) (pushed : ℕ)
    → IsOwnLocation site.tree.now location
    → Falls site limit (location_byte_steps site location pushed)
location_byte_fall {site = site} location pushed own =
    by_test (is_at site.facts.byte_in_a location) (falls tt)
    (by_finding (byte_from_hl site.facts location)
    (λ instruction is. falls tt)
    (λ none. location_byte_by location pushed own))

-- puts the byte of a part of memory into A
pub byte_in_memory_fall :
    {site : Site} {limit : ℕ} (reference : Reference) (pushed : ℕ)
    → IsPlaced site.tree.now limit reference
    → Falls site limit (byte_in_memory_steps site reference pushed)
byte_in_memory_fall {site = site} reference pushed is =
    by_finding (location_of site reference)
    (λ location there. location_byte_fall location pushed
    (of_found (IsOwnLocation site.tree.now) (location_is_own site reference) there))
    (λ none. falls (is, tt))

frame_byte_to_l_fall :
    {site : Site} {limit : ℕ} (location : Location) (away pushed : ℕ)
    → IsOwnLocation site.tree.now location
    → Falls site limit (frame_byte_to_l_steps site location away pushed)
frame_byte_to_l_fall {site = site} location away pushed own =
    by_test (away == 0) (falls tt)
    (by_test (away == 1) (falls tt)
    (joined (location_address_fall site location pushed own) (falls tt)))

byte_to_l_by :
    {site : Site} {limit : ℕ} (location : Location) (pushed : ℕ)
    → IsOwnLocation site.tree.now location
    → Falls site limit (elim location [
      | locations.Static place ↦ steps.Word LoadHl place ∷ []
      | locations.Frame variable offset ↦
          frame_byte_to_l_steps site (locations.Frame variable offset)
          (distance site variable offset pushed) pushed
    ])
byte_to_l_by (locations.Static place) pushed own = falls (place_is_own own, tt)
byte_to_l_by {site = site} (locations.Frame variable offset) pushed own =
    frame_byte_to_l_fall (locations.Frame variable offset) (distance site variable offset pushed) pushed own

byte_to_l_fall :
    {site : Site} {limit : ℕ} (location : Location) (pushed : ℕ)
    → IsOwnLocation site.tree.now location
    → Falls site limit (byte_to_l_steps site location pushed)
byte_to_l_fall {site = site} location pushed own =
    by_test (is_at site.facts.word_in_hl location) (falls tt)
    (by_finding (byte_for_l site.facts location)
    (λ instruction is. falls tt)
    (λ none. byte_to_l_by location pushed own))

-- puts it into HL, zero-extended
pub extended_byte_in_memory_fall :
    {site : Site} {limit : ℕ} (reference : Reference) (pushed : ℕ)
    → IsPlaced site.tree.now limit reference
    → Falls site limit (extended_byte_in_memory_steps site reference pushed)
extended_byte_in_memory_fall {site = site} reference pushed is =
    by_finding (location_of site reference)
    (λ location there. joined (byte_to_l_fall location pushed
    (of_found (IsOwnLocation site.tree.now) (location_is_own site reference) there)) (falls tt))
    (λ none. falls (is, tt))

-- puts the word of a part of memory into HL
pub word_in_memory_fall :
    {site : Site} {limit : ℕ} (reference : Reference) (pushed : ℕ)
    → IsPlaced site.tree.now limit reference
    → Falls site limit (word_in_memory_steps site reference pushed)
word_in_memory_fall {site = site} reference pushed is =
    by_finding (location_of site reference)
    (λ location there. location_word_fall site location pushed
    (of_found (IsOwnLocation site.tree.now) (location_is_own site reference) there))
    (λ none. falls (is, tt))
