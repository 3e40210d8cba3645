-- Addresses of objects and their parts, and values in memory.
use Rattle.measure_laws.proofs.Prelude.{Bool, IfSome, None, Option, Some, [], arith, false, if◌then◌else◌, nat_le, option_and_then, refl, true, unwrap_or, ℕ, ◌%◌, ◌*◌, ◌++◌, ◌+◌, ◌-◌, ◌==◌, ◌∷◌, ◌≡◌, ◌≤◌, leb-true, BinaryOperator, Instr, Dad, Dcx, Inx, Lxi, Pop, De, Hl, A, H, L, StackDe, size_of_instruction, LoadA, LoadHl, location_after, nodes_of, home, place_number, Expression, ExpressionForm, ExpressionNumber, Location, Place, Number, Reference, Subscript, before, byte_for_l, byte_from_hl, is_at, copy, load, base_after, base_of, located_at, split_form, split_sum, split_whole, unknown, Facts, Base, Split, Site, keeps, located, location_of, number, split, split_computed, distance, expression, addition_steps, address_steps, base_added_steps, base_steps, frame_word_steps, located_steps, location_address_steps, location_word_steps, negated, new_address_steps, number_added_steps, second_steps, byte_in_memory_steps, byte_to_l_steps, extended_byte_in_memory_steps, frame_byte_steps, frame_byte_to_l_steps, location_byte_steps, word_in_memory_steps, product_steps, keeps_stack, weight_of_index, beside_at, beside, indices}
use Rattle.trees.specs.declared.expression.BinaryOperator.TheVariants.{Add, Subtract}
use Rattle.trees.specs.declared.declaration.ScalarType.TheVariants as scalars
use Rattle.treecode.specs.declared.expression.ExpressionForm.TheVariants as forms
use Rattle.treecode.specs.declared.place.Location.TheVariants as locations
use Rattle.steps8080.specs.declared.step.Step.TheVariants as steps
use Rattle.steps8080.specs.declared.sites.queries.Base.TheVariants as bases
use Rattle.measure_laws.specs.internal.Footprints.{Footprint, Ground, HasParts, IsBelow, IsPlaced}
use Rattle.measure_laws.proofs.{Footprints.Chains.{product_footprint}, Footprints.Found.{of_found}, Footprints.Joining.{after_plain, by_asking, by_finding, by_test, counted, joined, lowered, repeated, restored, two_free, operand_from_below, within}, Footprints.Trees.{IndexIs, has_parts, subscripts_are}}

pub instruction_small : (i : Instr) → size_of_instruction i ≤ 3
instruction_small (Lxi pair word) = omega arith
instruction_small i = omega arith

-- an instruction that copies a byte that the facts give keeps the stack pointer
copied_keeps :
    (one two three : Bool) (first second third : Instr)
    → keeps_stack first ≡ true → keeps_stack second ≡ true → keeps_stack third ≡ true
    → IfSome (if one then Some first else if two then Some second else if three then Some third else None)
    (λ (i : Instr). keeps_stack i ≡ true)
copied_keeps true two three first second third is then_is else_is = is
copied_keeps false true three first second third is then_is else_is = then_is
copied_keeps false false true first second third is then_is else_is = else_is
copied_keeps false false false first second third is then_is else_is = tt

from_hl_keeps :
    (facts : Facts) (location : Location)
    → IfSome (byte_from_hl facts location) (λ (i : Instr). keeps_stack i ≡ true)
from_hl_keeps facts location =
    copied_keeps (is_at facts.word_in_hl location) (is_at facts.word_in_hl (before location))
    (is_at facts.address_in_hl location) (copy A L) (copy A H) (load A) refl refl refl

for_l_keeps :
    (facts : Facts) (location : Location)
    → IfSome (byte_for_l facts location) (λ (i : Instr). keeps_stack i ≡ true)
for_l_keeps facts location =
    copied_keeps (is_at facts.byte_in_a location) (is_at facts.word_in_hl (before location))
    (is_at facts.address_in_hl location) (copy L A) (copy L H) (load L) refl refl refl

number_added_footprint :
    {at : Ground} {free : ℕ} (number : ℕ)
    → Footprint at free (number_added_steps number) free 4
number_added_footprint number =
    by_asking (nat_le number 3)
    (λ is. within number (repeated (Inx Hl) number refl refl) (omega (arith, leb-true number 3 is)))
    (λ not_few. by_asking (nat_le (negated number) 3)
    (λ is. within (negated number) (repeated (Dcx Hl) (negated number) refl refl)
    (omega (arith, leb-true (negated number) 3 is))) (λ not_less. counted refl (omega arith)))

pub addition_footprint :
    {at : Ground} {free : ℕ} (place : Place)
    → Footprint at free (addition_steps place) free 4
addition_footprint place =
    by_finding (place_number place) (λ number is. number_added_footprint number)
    (λ none. counted refl (omega arith))

new_address_footprint :
    {at : Ground} {free : ℕ} (site : Site) (location : Location) (pushed : ℕ)
    → Footprint at free (new_address_steps site location pushed) free 4
new_address_footprint site (locations.Static place) pushed = counted refl (omega arith)
new_address_footprint site (locations.Frame variable offset) pushed = counted refl (omega arith)

pub location_address_footprint :
    {at : Ground} {free : ℕ} (site : Site) (location : Location) (pushed : ℕ)
    → Footprint at free (location_address_steps site location pushed) free 4
location_address_footprint site location pushed =
    by_test (is_at site.facts.address_in_hl location) (counted refl (omega arith))
    (by_test (is_at site.facts.address_in_hl (before location)) (counted refl (omega arith))
    (by_test (is_at site.facts.address_in_hl (location_after location 1)) (counted refl (omega arith))
    (joined 4 0 (new_address_footprint site location pushed) (counted refl (omega arith)) (omega arith))))

frame_word_footprint :
    {at : Ground} {free : ℕ} (site : Site) (location : Location) (away pushed : ℕ)
    → Footprint at free (frame_word_steps site location away pushed) free 8
frame_word_footprint site location away pushed =
    by_test (away == 0) (counted (omega arith, omega arith) (omega arith))
    (by_test (away == 2) (counted (omega arith, (omega arith, omega arith)) (omega arith))
    (joined 8 0
    (joined 4 4 (location_address_footprint site location pushed) (counted refl (omega arith)) (omega arith))
    (counted refl (omega arith)) (omega arith)))

location_fits_by :
    {at : Ground} {free : ℕ} (site : Site) (location : Location) (pushed : ℕ)
    → Footprint at free (elim location [
      | locations.Static place ↦ steps.Word LoadHl place ∷ []
      | locations.Frame variable offset ↦
          frame_word_steps site (locations.Frame variable offset)
          (distance site variable offset pushed) pushed
    ]) free 8
location_fits_by site (locations.Static place) pushed = counted refl (omega arith)
location_fits_by site (locations.Frame variable offset) pushed =
    frame_word_footprint site (locations.Frame variable offset) (distance site variable offset pushed) pushed

-- code that is planned at one site fits at another site of the same tree
pub location_word_footprint :
    {at : Ground} {free : ℕ} (site : Site) (location : Location) (pushed : ℕ)
    → Footprint at free (location_word_steps site location pushed) free 8
location_word_footprint site location pushed =
    by_test (is_at site.facts.word_in_hl location) (counted refl (omega arith))
    (location_fits_by site location pushed)

base_footprint :
    {at : Ground} {free : ℕ} (base : Base) (pushed : ℕ)
    → Footprint at free (base_steps at.site base pushed) free 12
base_footprint {at = at} (bases.Static place) pushed =
    within 4 (location_address_footprint at.site (locations.Static place) pushed) (omega arith)
base_footprint {at = at} (bases.Frame variable offset) pushed =
    within 4 (location_address_footprint at.site (locations.Frame variable offset) pushed) (omega arith)
base_footprint {at = at} (bases.Based pointer offset) pushed =
    joined 8 4 (location_word_footprint at.site pointer pushed) (addition_footprint (Number offset))
    (omega arith)

base_added_footprint :
    {at : Ground} {free : ℕ} (base : Base) (pushed : ℕ)
    → Footprint at free (base_added_steps at.site base pushed) free 14
base_added_footprint (bases.Static place) pushed = within 4 (addition_footprint place) (omega arith)
base_added_footprint (bases.Frame variable offset) pushed = counted refl (omega arith)
base_added_footprint {at = at} (bases.Based pointer offset) pushed =
    after_plain 13 refl
    (joined 8 5 (location_word_footprint (unknown at.site) pointer pushed)
    (after_plain 4 refl (addition_footprint (Number offset)) (omega arith)) (omega arith)) (omega arith)

second_footprint :
    {at : Ground} {free : ℕ} (second : Subscript) (pushed : ℕ)
    → IsBelow at free second.index
    → Footprint at free (second_steps at.site second pushed) free (116 + 128 * beside at.site second.index)
second_footprint {at = at} {free = free} second pushed is =
    by_test (keeps at.site second.index).de
    (after_plain (114 + 128 * beside at.site second.index) refl
    (joined (113 + 128 * beside at.site second.index) 1
    (product_footprint second.index second.stride pushed (operand_from_below is))
    (counted refl (omega arith)) (omega arith))
    (omega arith))
    (counted (two_free is, kept.go) (omega (arith, kept.small)))
  where
    kept : Footprint at (free - 2)
        (product_steps second.index second.stride ((pushed + 2) % 65536)
        ++ (steps.Plain (Pop StackDe) ∷ steps.Plain (Dad De) ∷ []))
        free (115 + 128 * beside at.site second.index)
    kept =
        joined (113 + 128 * beside at.site second.index) 2
        (product_footprint second.index second.stride ((pushed + 2) % 65536) (lowered is))
        (counted (restored is) (omega arith)) (omega arith)

-- a subscript with at most this weight
pub record IsIndexOf (at : Ground) (free : ℕ) (limit : ℕ) (subscript : Subscript) : Type 0 where
  pub one : IsBelow at free subscript.index
  pub small : 1 + beside at.site subscript.index ≤ limit

whole_is :
    {at : Ground} {free : ℕ} (subscript : Subscript)
    → IsBelow at free subscript.index
    → IsIndexOf at free (1 + beside at.site subscript.index) subscript
whole_is subscript is = record { one = is; small = omega arith }

abbrev computed_in : Split → Option Subscript
computed_in parts = parts.computed

split_sum_is :
    (at : Ground) (free : ℕ) (subscript : Subscript) (operator : BinaryOperator)
    (left : ExpressionNumber) (found : Option ℕ)
    → IsIndexOf at free (1 + beside at.site subscript.index)
    (record { index = left; stride = subscript.stride })
    → IsBelow at free subscript.index
    → IfSome
    (unwrap_or (option_and_then (λ value. split_sum subscript operator value left) found)
    (split_whole subscript)).computed
    (IsIndexOf at free (1 + beside at.site subscript.index))
split_sum_is at free subscript Add left (Some value) one is = one
split_sum_is at free subscript Subtract left (Some value) one is = one
split_sum_is at free subscript operator left (Some value) one is = whole_is subscript is
split_sum_is at free subscript operator left None one is = whole_is subscript is

split_form_is :
    (at : Ground) (free : ℕ) (subscript : Subscript) (form : ExpressionForm)
    → IsBelow at free subscript.index
    → HasParts at free subscript.index form
    → IfSome (split_form at.site subscript form).computed
    (IsIndexOf at free (1 + beside at.site subscript.index))
split_form_is at free subscript (forms.Binary scalars.Address operator left right) is has =
    split_sum_is at free subscript operator left (number at.site right)
    (record { one = has.one; small = omega (arith, has.same) }) is
split_form_is at free subscript form is has = whole_is subscript is

split_computed_is :
    (at : Ground) (free : ℕ) (subscript : Subscript)
    → IsBelow at free subscript.index
    → IfSome (split_computed at.site subscript).computed
    (IsIndexOf at free (1 + beside at.site subscript.index))
unfolding split_computed
split_computed_is at free subscript is = by (expression at.site subscript.index) refl
  where
    by : (found : Option Expression) → expression at.site subscript.index ≡ found
        → IfSome
        (computed_in
        (elim found [ Some one ↦ split_form at.site subscript one.form | None ↦ split_whole subscript ]))
        (IsIndexOf at free (1 + beside at.site subscript.index))
    by (Some one) there =
        split_form_is at free subscript one.form is (has_parts at (operand_from_below is) there)
    by None there = whole_is subscript is

split_is :
    (at : Ground) (free : ℕ) (index : Option Subscript)
    → IndexIs at free index
    → IfSome (split at.site index).computed
    (IsIndexOf at free (weight_of_index (beside_at (nodes_of at.site.tree.now)) index))
unfolding split
split_is at free None is = tt
split_is at free (Some subscript) is = by (number at.site subscript.index)
  where
    by : (found : Option ℕ)
        → IfSome
        (computed_in (elim found [
          | Some index ↦ record { computed = None; offset = (index * subscript.stride) % 65536 }
          | None ↦ split_computed at.site subscript
        ]))
        (IsIndexOf at free (1 + beside at.site subscript.index))
    by (Some index) = tt
    by None = split_computed_is at free subscript is

located_footprint :
    (at : Ground) (free : ℕ) (base : Base) (one_limit two_limit : ℕ) (first second : Option Subscript)
    (pushed : ℕ)
    → IfSome first (IsIndexOf at free one_limit) → IfSome second (IsIndexOf at free two_limit)
    → Footprint at free (located_steps at.site (located_at base first second) pushed) free
    (32 + 128 * (one_limit + two_limit))
located_footprint at free base one_limit two_limit None None pushed one two =
    within 12 (base_footprint base pushed) (omega arith)
located_footprint at free base one_limit two_limit (Some first) None pushed one two =
    joined (113 + 128 * beside at.site first.index) 14
    (product_footprint first.index first.stride pushed (operand_from_below one.one))
    (base_added_footprint base pushed)
    (omega (arith, one.small))
located_footprint at free base one_limit two_limit None (Some second) pushed one two =
    joined (113 + 128 * beside at.site second.index) 14
    (product_footprint second.index second.stride pushed (operand_from_below two.one))
    (base_added_footprint base pushed)
    (omega (arith, two.small))
located_footprint at free base one_limit two_limit (Some first) (Some second) pushed one two =
    joined (229 + 128 * beside at.site first.index + 128 * beside at.site second.index) 14
    (joined (113 + 128 * beside at.site first.index) (116 + 128 * beside at.site second.index)
    (product_footprint first.index first.stride pushed (operand_from_below one.one))
    (second_footprint second pushed two.one)
    (omega arith)) (base_added_footprint base pushed) (omega (arith, one.small, two.small))

-- the address of a part of an object
pub address_footprint :
    {at : Ground} {free : ℕ} (reference : Reference) (pushed : ℕ)
    → IsPlaced at free reference
    → Footprint at free (address_steps at.site reference pushed) free (32 + 128 * indices at.site reference)
unfolding located
address_footprint {at = at} {free = free} reference pushed is =
    let both : IndexIs at free reference.subscript × IndexIs at free reference.member_subscript =
    subscripts_are at free is.node is.types is.room in
    located_footprint at free
    (base_after
    (base_after (base_after (base_of (home at.site.tree.now reference.object)) reference.offset)
    (split at.site reference.subscript).offset)
    (split at.site reference.member_subscript).offset)
    (weight_of_index (beside_at (nodes_of at.site.tree.now)) reference.subscript)
    (weight_of_index (beside_at (nodes_of at.site.tree.now)) reference.member_subscript)
    (split at.site reference.subscript).computed
    (split at.site reference.member_subscript).computed
    pushed
    (split_is at free reference.subscript both.0)
    (split_is at free reference.member_subscript both.1)

frame_byte_footprint :
    {at : Ground} {free : ℕ} (location : Location) (away pushed : ℕ)
    → Footprint at free (frame_byte_steps at.site location away pushed) free 5
frame_byte_footprint {at = at} location away pushed =
    by_test (away == 0) (counted (omega arith, omega arith) (omega arith))
    (by_test (away == 1) (counted (omega arith, omega arith) (omega arith))
    (joined 4 1 (location_address_footprint at.site location pushed) (counted refl (omega arith))
    (omega arith)))

location_byte_by :
    {at : Ground} {free : ℕ} (location : Location) (pushed : ℕ)
    → Footprint at free (elim location [
      | locations.Static place ↦ steps.Word LoadA place ∷ []
      | locations.Frame variable offset ↦
          frame_byte_steps at.site (locations.Frame variable offset)
          (distance at.site variable offset pushed) pushed
    ]) free 5
location_byte_by (locations.Static place) pushed = counted refl (omega arith)
location_byte_by {at = at} (locations.Frame variable offset) pushed =
    frame_byte_footprint (locations.Frame variable offset) (distance at.site variable offset pushed) pushed

location_byte_footprint :
    {at : Ground} {free : ℕ} (location : Location) (pushed : ℕ)
    → Footprint at free (location_byte_steps at.site location pushed) free 5
location_byte_footprint {at = at} location pushed =
    by_test (is_at at.site.facts.byte_in_a location) (counted refl (omega arith))
    (by_finding (byte_from_hl at.site.facts location)
    (λ instruction is. after_plain 0
    (of_found (λ (i : Instr). keeps_stack i ≡ true) (from_hl_keeps at.site.facts location) is)
    (counted refl (omega arith)) (omega (arith, instruction_small instruction)))
    (λ none. location_byte_by location pushed))

-- puts the byte of a part of memory into A
pub byte_in_memory_footprint :
    {at : Ground} {free : ℕ} (reference : Reference) (pushed : ℕ)
    → IsPlaced at free reference
    → Footprint at free (byte_in_memory_steps at.site reference pushed) free
    (33 + 128 * indices at.site reference)
byte_in_memory_footprint {at = at} reference pushed is =
    by_finding (location_of at.site reference)
    (λ location there. within 5 (location_byte_footprint location pushed) (omega arith))
    (λ none. counted (is, refl) (omega arith))

frame_byte_to_l_footprint :
    {at : Ground} {free : ℕ} (location : Location) (away pushed : ℕ)
    → Footprint at free (frame_byte_to_l_steps at.site location away pushed) free 5
frame_byte_to_l_footprint {at = at} location away pushed =
    by_test (away == 0) (counted (omega arith, omega arith) (omega arith))
    (by_test (away == 1) (counted (omega arith, omega arith) (omega arith))
    (joined 4 1 (location_address_footprint at.site location pushed) (counted refl (omega arith))
    (omega arith)))

byte_to_l_by :
    {at : Ground} {free : ℕ} (location : Location) (pushed : ℕ)
    → Footprint at free (elim location [
      | locations.Static place ↦ steps.Word LoadHl place ∷ []
      | locations.Frame variable offset ↦
          frame_byte_to_l_steps at.site (locations.Frame variable offset)
          (distance at.site variable offset pushed) pushed
    ]) free 5
byte_to_l_by (locations.Static place) pushed = counted refl (omega arith)
byte_to_l_by {at = at} (locations.Frame variable offset) pushed =
    frame_byte_to_l_footprint (locations.Frame variable offset) (distance at.site variable offset pushed)
    pushed

byte_to_l_footprint :
    {at : Ground} {free : ℕ} (location : Location) (pushed : ℕ)
    → Footprint at free (byte_to_l_steps at.site location pushed) free 5
byte_to_l_footprint {at = at} location pushed =
    by_test (is_at at.site.facts.word_in_hl location) (counted refl (omega arith))
    (by_finding (byte_for_l at.site.facts location)
    (λ instruction is. after_plain 0
    (of_found (λ (i : Instr). keeps_stack i ≡ true) (for_l_keeps at.site.facts location) is)
    (counted refl (omega arith)) (omega (arith, instruction_small instruction)))
    (λ none. byte_to_l_by location pushed))

-- puts it into HL, zero-extended
pub extended_byte_in_memory_footprint :
    {at : Ground} {free : ℕ} (reference : Reference) (pushed : ℕ)
    → IsPlaced at free reference
    → Footprint at free (extended_byte_in_memory_steps at.site reference pushed) free
    (35 + 128 * indices at.site reference)
extended_byte_in_memory_footprint {at = at} reference pushed is =
    by_finding (location_of at.site reference)
    (λ location there. joined 5 2 (byte_to_l_footprint location pushed) (counted refl (omega arith))
    (omega arith)) (λ none. counted (is, refl) (omega arith))

-- puts the word of a part of memory into HL
pub word_in_memory_footprint :
    {at : Ground} {free : ℕ} (reference : Reference) (pushed : ℕ)
    → IsPlaced at free reference
    → Footprint at free (word_in_memory_steps at.site reference pushed) free
    (36 + 128 * indices at.site reference)
word_in_memory_footprint {at = at} reference pushed is =
    by_finding (location_of at.site reference)
    (λ location there. within 8 (location_word_footprint at.site location pushed) (omega arith))
    (λ none. counted (is, refl) (omega arith))
