-- The code of the address of an object or a part of it puts the address of its place into HL.
use Rattle.task_laws.proofs.Prelude.{◌≡◌, ℕ, ◌+◌, ◌*◌, ◌%◌, ◌<◌, ◌≤◌, Bool, true, false, not, ◌&&◌, ◌||◌, List, ◌++◌, Option, Some, None, is_some, max, refl, sym, ap, subst, ◌∙◌, arith, IsSomeAnd, slice_get, height_of, height_of_reference, height_of_subscript, PartOf, Subscript, TypedObject, TypedReference, IsSeen, SourcePlace, home_of, Displacement, based_place, displacement, value, SourceState, Outcome, Gave, Stopped, then_do, Registers, word, wrap, Home, Reference, IndexNode, Keeps, IsPart, home_at, home, is_static_location, keeps_of_part, keeps_of_subscript, keeps_of_sum, Does, loaded_of, at_place, Arrives, HasRoom, does_without_step, Facts, Base, base_after, base_of, keeps_of_address, located_at, address_steps, base_added_steps, located_steps, second_steps, product_steps, knowing, Context, IsSound, nodes_in, StepsStand, AddressDoes, AddressIsGiven, PartDoes, false≢true, and_parts}
use Rattle.treecode.specs.declared.place.Home.TheVariants as homes
use Rattle.steps8080.specs.internal.Queries.{located}
use Rattle.task_laws.proofs.Machine.Rules.{GoesOn, steps_split as split_steps}
use Rattle.task_laws.proofs.Places.Products.{ProductsDo, product_then}
use Rattle.task_laws.proofs.Places.Subscripts.{IsSplit, AllKnown, IsComputed, is_split}
use Rattle.task_laws.proofs.Places.SecondSubscripts.{second_then}
use Rattle.task_laws.proofs.Places.Strides.{HasStride, has_stride}
use Rattle.task_laws.proofs.Places.Bases.{IsBase, base_further, base_is, small_after}
use Rattle.task_laws.proofs.Places.BaseCode.{added_base_keeps_de, base_added_goes, base_goes, base_keeps_a}

-- the base of an object with the known parts of its subscripts
abbrev pub base_with : Context → (object offset one two : ℕ) → Base
base_with context object offset one two =
    base_after (base_after (base_after (base_of (home context.site.tree.now object)) (offset % 65536)) one)
    two

pub base_with_is :
    (context : Context) (object offset one two : ℕ)
    → IsSound context
    → IsSomeAnd (slice_get context.typed.objects object)
    (λ (found : TypedObject). IsSeen context.typed context.within found.home)
    → IsBase context object (0 + offset % 65536 + one + two) (base_with context object offset one two)
base_with_is context object offset one two sound referred =
    base_further (base_after (base_after (base_of (home context.site.tree.now object)) (offset % 65536)) one)
    two sound
    (base_further (base_after (base_of (home context.site.tree.now object)) (offset % 65536)) one sound
    (base_further (base_of (home context.site.tree.now object)) (offset % 65536) sound
    (base_is context object sound referred)))

-- the registers that the code of an address keeps are kept by its parts
home_keeps_a :
    (start : Home) (offset one two : ℕ) (first second : Option Keeps)
    → (keeps_of_part start first second).a ≡ true
    → ((keeps_of_sum first second).a ≡ true)
    × (base_keeps_a (base_after (base_after (base_after (base_of start) offset) one) two) ≡ true)
home_keeps_a (homes.Static place) offset one two first second kept = (kept, refl)
home_keeps_a (homes.Frame variable) offset one two first second kept = (kept, refl)
home_keeps_a (homes.Based pointer) offset one two first second kept = (
  (and_parts (keeps_of_sum first second).a (is_static_location pointer) kept).0,
  (and_parts (keeps_of_sum first second).a (is_static_location pointer) kept).1,
)

not_both : (test : Bool) → not test ≡ true → test ≡ true → false ≡ true
not_both true one two = one
not_both false one two = two

home_keeps_de :
    (start : Home) (offset one two : ℕ) (first second : Option Keeps)
    → (keeps_of_part start first second).de ≡ true
    → ((keeps_of_sum first second).de ≡ true)
    × ((is_some first || is_some second) ≡ true
    → added_base_keeps_de (base_after (base_after (base_after (base_of start) offset) one) two) ≡ true)
home_keeps_de (homes.Static place) offset one two first second kept = (kept, λ computed. refl)
home_keeps_de (homes.Frame variable) offset one two first second kept = (kept, λ computed. refl)
home_keeps_de (homes.Based pointer) offset one two first second kept = (
  (and_parts (keeps_of_sum first second).de (not (is_some first || is_some second)) kept).0,
  λ computed. not_both (is_some first || is_some second)
      (and_parts (keeps_of_sum first second).de (not (is_some first || is_some second)) kept).1 computed,
)

part_keeps :
    (context : Context) (reference : Reference) (first second : Option Keeps)
    → keeps_of_subscript (nodes_in context) reference.subscript ≡ first
    → keeps_of_subscript (nodes_in context) reference.member_subscript ≡ second
    → keeps_of_address context.site reference
    ≡ keeps_of_part (home_at context.site.tree.now.homes.items reference.object) first second
unfolding keeps_of_address
part_keeps context reference first second one two =
    ap (λ (kept : Option Keeps). keeps_of_part
    (home_at context.site.tree.now.homes.items reference.object) kept
    (keeps_of_subscript (nodes_in context) reference.member_subscript)) one
    ∙ ap (λ (kept : Option Keeps). keeps_of_part
    (home_at context.site.tree.now.homes.items reference.object) first kept) two

-- a value that is changed, and passed on
changed_first :
    {A B C : Type 0} (outcome : Outcome A) (change : A → B) (go : B → SourceState → Outcome C)
    → then_do (then_do outcome (λ found t. Gave (change found) t)) go
    ≡ then_do outcome (λ found t. go (change found) t)
changed_first (Gave found t) change go = refl
changed_first (Stopped why t) change go = refl

pub all_known : (one offset two one_known two_known : ℕ) → wrap one ≡ wrap one_known
    → wrap two ≡ wrap two_known
    → wrap (one + offset + two) ≡ wrap (0 + offset % 65536 + one_known + two_known)
all_known one offset two one_known two_known is other = omega (arith, is, other)

first_computed : (one offset two one_known two_known product hl : ℕ)
    → wrap one ≡ wrap (product + one_known) → wrap two ≡ wrap two_known → hl ≡ product % 65536
    → wrap (one + offset + two) ≡ wrap (hl + (0 + offset % 65536 + one_known + two_known))
first_computed one offset two one_known two_known product hl is other in_hl = omega (arith, is, other, in_hl)

second_computed : (one offset two one_known two_known product hl : ℕ)
    → wrap one ≡ wrap one_known → wrap two ≡ wrap (product + two_known) → hl ≡ product % 65536
    → wrap (one + offset + two) ≡ wrap (hl + (0 + offset % 65536 + one_known + two_known))
second_computed one offset two one_known two_known product hl is other in_hl = omega (arith, is, other, in_hl)

both_computed : (one offset two one_known two_known product product_too first hl : ℕ)
    → wrap one ≡ wrap (product + one_known) → wrap two ≡ wrap (product_too + two_known)
    → first ≡ product % 65536 → hl ≡ wrap (first + product_too)
    → wrap (one + offset + two) ≡ wrap (hl + (0 + offset % 65536 + one_known + two_known))
both_computed one offset two one_known two_known product product_too first hl is other in_first in_hl =
    omega (arith, is, other, in_first, in_hl)

low_enough : (inner one two : ℕ) → inner ≤ one → 2 * inner ≤ 2 * (1 + max one two)
low_enough inner one two less = omega (arith, less)

low_enough_too : (inner one two : ℕ) → inner ≤ two → 2 + 2 * inner ≤ 2 * (1 + max one two)
low_enough_too inner one two less = omega (arith, less)

lower : (inner one two : ℕ) → inner ≤ two → 2 * inner ≤ 2 * (1 + max one two)
lower inner one two less = omega (arith, less)

-- the meaning of locating a part of an object
abbrev pub located_in : Context → TypedReference → SourceState → Outcome SourcePlace
located_in context tree s =
    Rattle.meaning.specs.Meaning.located context.later context.activation.around tree s

-- the code of an address, by how its subscripts are taken apart
located_goes :
    {context : Context} {facts last : Facts} {pushed from to top : ℕ} {base : List ℕ}
    (object offset : ℕ) (first second : Option IndexNode)
    (subscript member_subscript : Subscript) (member : Option ℕ)
    (one_index two_index : Option IndexNode) (one_known two_known : ℕ) (s : SourceState)
    (r : Registers) (memory : List ℕ)
    → ProductsDo context
    → HasStride one_index
    → HasStride two_index
    → IsSound context
    → IsSomeAnd (slice_get context.typed.objects object)
    (λ (found : TypedObject). IsSeen context.typed context.within found.home)
    → s.budget < context.number
    → HasRoom context.activation top pushed
    (2 * height_of_reference (PartOf object subscript member offset member_subscript))
    → IsSplit context first subscript one_index one_known
    → IsSplit context second member_subscript two_index two_known
    → StepsStand context (PartDoes context) facts from
    (located_steps (knowing context.site facts)
    (located_at (base_with context object offset one_known two_known) one_index two_index) pushed) last to
    → GoesOn context facts top base s.memory s.frame r memory
    → Does (loaded_of context.activation) s.budget 0 (at_place from r memory s.events)
    (located_in context (PartOf object subscript member offset member_subscript) s)
    (Arrives context.activation top base to
    (AddressIsGiven context last
    (record { object = object; subscript = first; offset = offset % 65536; member_subscript = second }) r
    memory))
located_goes {context = context} {facts = facts} {last = last} {from = from} {to = to} {top = top}
    {base = base} object offset first second tree_one member_subscript member _ _ one_known two_known s r
    memory products small small_too sound referred less room
    (AllKnown shift means bytes kept_none) (AllKnown shift_too means_too bytes_too kept_none_too) stand on =
    let reference : Reference =
    record { object = object; subscript = first; offset = offset % 65536; member_subscript = second } in
    let start : Home = home_at context.site.tree.now.homes.items object in
    let whole = part_keeps context reference None None kept_none kept_none_too in
    subst (λ (outcome : Outcome Displacement).
    Does (loaded_of context.activation) s.budget 0 (at_place from r memory s.events)
    (then_do outcome (λ one t. then_do (displacement context.later
    context.activation.around member_subscript t)
    (λ two u. based_place (home_of context.activation.around object) context.activation.around object
    (one.bytes + offset + two.bytes) (one.is_inside && two.is_inside) u)))
    (Arrives context.activation top base to (AddressIsGiven context last reference r memory)))
    (sym (means s))
    (subst (λ (outcome : Outcome Displacement).
    Does (loaded_of context.activation) s.budget 0 (at_place from r memory s.events)
    (then_do outcome (λ two u. based_place (home_of context.activation.around object)
    context.activation.around object
    (shift.bytes + offset + two.bytes) (shift.is_inside && two.is_inside) u))
    (Arrives context.activation top base to (AddressIsGiven context last reference r memory)))
    (sym (means_too s))
    (base_goes facts (base_with context object offset one_known two_known)
    (shift.bytes + offset + shift_too.bytes)
    (shift.is_inside && shift_too.is_inside) s r sound room
    (small_after context (base_after (base_after (base_of (home context.site.tree.now object))
    (offset % 65536)) one_known) two_known sound)
    (base_with_is context object offset one_known two_known sound referred)
    (all_known shift.bytes offset shift_too.bytes one_known two_known bytes bytes_too) on.known stand on
    (λ now found beside on_now. does_without_step (record {
      r = now;
      memory = memory;
      is_at = refl;
      ready = on_now.ready;
      holds = record {
        hl = beside.hl;
        known = on_now.known;
        a = λ kept. beside.a
            (home_keeps_a start (offset % 65536) one_known two_known None None
            (ap (λ (of : Keeps). of.a) (sym whole) ∙ kept)).1;
        d = λ kept. beside.d refl;
        e = λ kept. beside.e refl;
      };
    }))))
located_goes {context = context} {facts = facts} {last = last} {pushed = pushed} {from = from} {to = to}
    {top = top} {base = base} object offset first second tree_one member_subscript member _ _ one_known
    two_known s r memory products small small_too sound referred less room
    (IsComputed {index = index} of bound inner shift is types address high means bytes kept_of keeps_less)
    (AllKnown shift_too means_too bytes_too kept_none_too) stand on =
    let reference : Reference =
    record { object = object; subscript = first; offset = offset % 65536; member_subscript = second } in
    let start : Home = home_at context.site.tree.now.homes.items object in
    let whole = part_keeps context reference (Some of) None kept_of kept_none_too in
    let parts = split_steps (product_steps index.index index.stride pushed)
    (base_added_steps (knowing context.site facts)
    (base_with context object offset one_known two_known) pushed) stand in
    let go : Displacement → SourceState → Outcome SourcePlace
    = λ one t. then_do (displacement context.later context.activation.around member_subscript t)
    (λ two u. based_place (home_of context.activation.around object) context.activation.around object
    (one.bytes + offset + two.bytes) (one.is_inside && two.is_inside) u) in
    subst (λ (outcome : Outcome SourcePlace).
    Does (loaded_of context.activation) s.budget 0 (at_place from r memory s.events) outcome
    (Arrives context.activation top base to (AddressIsGiven context last reference r memory)))
    (sym (ap (λ (outcome : Outcome Displacement). then_do outcome go) (means s)
    ∙ changed_first (value context.later context.activation.around inner s) shift go))
    (product_then from s r memory
    (products facts parts.found index.index index.stride pushed from parts.middle small parts.first)
    is types address less room
    (low_enough (height_of inner) (height_of_subscript tree_one)
    (height_of_subscript member_subscript) high) on
    (λ n t there ended fewer on_there given.
    subst (λ (outcome : Outcome Displacement).
    Does (loaded_of context.activation) t.budget 0 (at_place parts.middle there ended t.events)
    (then_do outcome (λ two u. based_place (home_of context.activation.around object)
    context.activation.around object
    ((shift n).bytes + offset + two.bytes) ((shift n).is_inside && two.is_inside) u))
    (Arrives context.activation top base to (AddressIsGiven context last reference r memory)))
    (sym (means_too t))
    (base_added_goes facts (base_with context object offset one_known two_known)
    ((shift n).bytes + offset + shift_too.bytes)
    ((shift n).is_inside && shift_too.is_inside) t there sound room
    (small_after context (base_after (base_after (base_of (home context.site.tree.now object))
    (offset % 65536)) one_known) two_known sound)
    (base_with_is context object offset one_known two_known sound referred)
    (first_computed (shift n).bytes offset shift_too.bytes one_known two_known (n * index.stride)
    (word there.h there.l) (bytes n) bytes_too given.hl)
    parts.second on_there
    (λ now found beside on_now. does_without_step (record {
      r = now;
      memory = ended;
      is_at = refl;
      ready = on_now.ready;
      holds = record {
        hl = beside.hl;
        known = on_now.known;
        a = λ kept.
            let both =
            home_keeps_a start (offset % 65536) one_known two_known (Some of) None
            (ap (λ (of : Keeps). of.a) (sym whole) ∙ kept) in
            beside.a both.1 ∙ given.a (keeps_less.a both.0);
        d = λ kept.
            let both =
            home_keeps_de start (offset % 65536) one_known two_known (Some of) None
            (ap (λ (of : Keeps). of.de) (sym whole) ∙ kept) in
            beside.d (both.1 refl) ∙ given.d (keeps_less.de both.0);
        e = λ kept.
            let both =
            home_keeps_de start (offset % 65536) one_known two_known (Some of) None
            (ap (λ (of : Keeps). of.de) (sym whole) ∙ kept) in
            beside.e (both.1 refl) ∙ given.e (keeps_less.de both.0);
      };
    })))))
located_goes {context = context} {facts = facts} {last = last} {pushed = pushed} {from = from} {to = to}
    {top = top} {base = base} object offset first second tree_one member_subscript member _ _ one_known
    two_known s r memory products small small_too sound referred less room
    (AllKnown shift means bytes kept_none)
    (IsComputed {index = index} of bound inner shift_too is types address high means_too bytes_too kept_of
    keeps_less) stand on =
    let reference : Reference =
    record { object = object; subscript = first; offset = offset % 65536; member_subscript = second } in
    let start : Home = home_at context.site.tree.now.homes.items object in
    let whole = part_keeps context reference None (Some of) kept_none kept_of in
    let parts = split_steps (product_steps index.index index.stride pushed)
    (base_added_steps (knowing context.site facts)
    (base_with context object offset one_known two_known) pushed) stand in
    let go : Displacement → SourceState → Outcome SourcePlace
    = λ two u. based_place (home_of context.activation.around object) context.activation.around object
    (shift.bytes + offset + two.bytes) (shift.is_inside && two.is_inside) u in
    subst (λ (outcome : Outcome SourcePlace).
    Does (loaded_of context.activation) s.budget 0 (at_place from r memory s.events) outcome
    (Arrives context.activation top base to (AddressIsGiven context last reference r memory)))
    (sym (ap (λ (outcome : Outcome Displacement). then_do outcome
    (λ one t. then_do (displacement context.later context.activation.around member_subscript t)
    (λ two u. based_place (home_of context.activation.around object) context.activation.around object
    (one.bytes + offset + two.bytes) (one.is_inside && two.is_inside) u))) (means s)
    ∙ ap (λ (outcome : Outcome Displacement). then_do outcome go) (means_too s)
    ∙ changed_first (value context.later context.activation.around inner s) shift_too go))
    (product_then from s r memory
    (products facts parts.found index.index index.stride pushed from parts.middle small_too parts.first)
    is types address less room
    (lower (height_of inner) (height_of_subscript tree_one) (height_of_subscript member_subscript) high)
    on
    (λ n t there ended fewer on_there given.
    base_added_goes facts (base_with context object offset one_known two_known)
    (shift.bytes + offset + (shift_too n).bytes)
    (shift.is_inside && (shift_too n).is_inside) t there sound room
    (small_after context (base_after (base_after (base_of (home context.site.tree.now object))
    (offset % 65536)) one_known) two_known sound)
    (base_with_is context object offset one_known two_known sound referred)
    (second_computed shift.bytes offset (shift_too n).bytes one_known two_known (n * index.stride)
    (word there.h there.l) bytes (bytes_too n) given.hl)
    parts.second on_there
    (λ now found beside on_now. does_without_step (record {
      r = now;
      memory = ended;
      is_at = refl;
      ready = on_now.ready;
      holds = record {
        hl = beside.hl;
        known = on_now.known;
        a = λ kept.
            let both =
            home_keeps_a start (offset % 65536) one_known two_known None (Some of)
            (ap (λ (of : Keeps). of.a) (sym whole) ∙ kept) in
            beside.a both.1 ∙ given.a (keeps_less.a both.0);
        d = λ kept.
            let both =
            home_keeps_de start (offset % 65536) one_known two_known None (Some of)
            (ap (λ (of : Keeps). of.de) (sym whole) ∙ kept) in
            beside.d (both.1 refl) ∙ given.d (keeps_less.de both.0);
        e = λ kept.
            let both =
            home_keeps_de start (offset % 65536) one_known two_known None (Some of)
            (ap (λ (of : Keeps). of.de) (sym whole) ∙ kept) in
            beside.e (both.1 refl) ∙ given.e (keeps_less.de both.0);
      };
    }))))
located_goes {context = context} {facts = facts} {last = last} {pushed = pushed} {from = from} {to = to}
    {top = top} {base = base} object offset first second tree_one member_subscript member _ _ one_known
    two_known s r memory products small small_too sound referred less room
    (IsComputed {index = index} of bound inner shift is types address high means bytes kept_of keeps_less)
    (IsComputed {index = index_too} of_too bound_too inner_too shift_too is_too types_too address_too high_too
    means_too bytes_too kept_of_too keeps_less_too) stand on =
    let reference : Reference =
    record { object = object; subscript = first; offset = offset % 65536; member_subscript = second } in
    let start : Home = home_at context.site.tree.now.homes.items object in
    let whole = part_keeps context reference (Some of) (Some of_too) kept_of kept_of_too in
    let later =
    split_steps
    (product_steps index.index index.stride pushed
    ++ second_steps (knowing context.site facts) index_too pushed)
    (base_added_steps (knowing context.site facts)
    (base_with context object offset one_known two_known) pushed) stand in
    let parts = split_steps (product_steps index.index index.stride pushed)
    (second_steps (knowing context.site facts) index_too pushed) later.first in
    let go : Displacement → SourceState → Outcome SourcePlace
    = λ one t. then_do (displacement context.later context.activation.around member_subscript t)
    (λ two u. based_place (home_of context.activation.around object) context.activation.around object
    (one.bytes + offset + two.bytes) (one.is_inside && two.is_inside) u) in
    subst (λ (outcome : Outcome SourcePlace).
    Does (loaded_of context.activation) s.budget 0 (at_place from r memory s.events) outcome
    (Arrives context.activation top base to (AddressIsGiven context last reference r memory)))
    (sym (ap (λ (outcome : Outcome Displacement). then_do outcome go) (means s)
    ∙ changed_first (value context.later context.activation.around inner s) shift go))
    (product_then from s r memory
    (products facts parts.found index.index index.stride pushed from parts.middle small parts.first)
    is types address less room
    (low_enough (height_of inner) (height_of_subscript tree_one)
    (height_of_subscript member_subscript) high) on
    (λ n t there ended fewer on_there given.
    let go_on : Displacement → SourceState → Outcome SourcePlace
    = λ two u. based_place (home_of context.activation.around object) context.activation.around object
    ((shift n).bytes + offset + two.bytes) ((shift n).is_inside && two.is_inside) u in
    subst (λ (outcome : Outcome SourcePlace).
    Does (loaded_of context.activation) t.budget 0
    (at_place parts.middle there ended t.events) outcome
    (Arrives context.activation top base to (AddressIsGiven context last reference r memory)))
    (sym (ap (λ (outcome : Outcome Displacement). then_do outcome go_on) (means_too t)
    ∙ changed_first (value context.later context.activation.around inner_too t) shift_too go_on))
    (second_then facts index_too parts.middle t there ended products small_too sound is_too
    types_too address_too
    (omega (arith, less, fewer)) room
    (low_enough_too (height_of inner_too) (height_of_subscript tree_one)
    (height_of_subscript member_subscript) high_too)
    parts.second on_there
    (λ m u summed left fewer_too on_summed sum kept_a.
    base_added_goes facts (base_with context object offset one_known two_known)
    ((shift n).bytes + offset + (shift_too m).bytes)
    ((shift n).is_inside && (shift_too m).is_inside) u summed sound room
    (small_after context (base_after (base_after (base_of (home context.site.tree.now object))
    (offset % 65536)) one_known) two_known sound)
    (base_with_is context object offset one_known two_known sound referred)
    (both_computed (shift n).bytes offset (shift_too m).bytes one_known two_known (n * index.stride)
    (m * index_too.stride)
    (word there.h there.l) (word summed.h summed.l) (bytes n) (bytes_too m) given.hl sum)
    later.second on_summed
    (λ now found beside on_now. does_without_step (record {
      r = now;
      memory = left;
      is_at = refl;
      ready = on_now.ready;
      holds = record {
        hl = beside.hl;
        known = on_now.known;
        a = λ kept.
            let both =
            home_keeps_a start (offset % 65536) one_known two_known (Some of) (Some of_too)
            (ap (λ (of : Keeps). of.a) (sym whole) ∙ kept) in
            beside.a both.1
            ∙ kept_a (keeps_less_too.a (and_parts of.a of_too.a both.0).1)
            ∙ given.a (keeps_less.a (and_parts of.a of_too.a both.0).0);
        d = λ kept.
            let both =
            home_keeps_de start (offset % 65536) one_known two_known (Some of) (Some of_too)
            (ap (λ (of : Keeps). of.de) (sym whole) ∙ kept) in
            absurd (false≢true both.0);
        e = λ kept.
            let both =
            home_keeps_de start (offset % 65536) one_known two_known (Some of) (Some of_too)
            (ap (λ (of : Keeps). of.de) (sym whole) ∙ kept) in
            absurd (false≢true both.0);
      };
    }))))))

-- The code of the address of an object or a part of it.
pub address_law :
    {context : Context} {facts last : Facts} {reference : Reference} {pushed from to : ℕ}
    → ProductsDo context
    → IsSound context
    → StepsStand context (PartDoes context) facts from
    (address_steps (knowing context.site facts) reference pushed) last to
    → AddressDoes context facts reference pushed from last to
unfolding located
address_law {context = context} {facts = facts} products sound stand bound tree
    (IsPart {object = object} {offset = offset} {member = member} {first = first} {second = second}
    {subscript = subscript} {member_subscript = member_subscript} one two)
    referred types top base s r memory less room ready known asked =
    located_goes object offset first second subscript member_subscript member _ _ _ _ s r memory products
    (has_stride (knowing context.site facts) one) (has_stride (knowing context.site facts) two)
    sound referred less room
    (is_split facts sound one types.0) (is_split facts sound two types.1) stand
    (record { ready = ready; known = known })
