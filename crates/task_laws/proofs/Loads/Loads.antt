-- The code of values in memory.
use Rattle.task_laws.proofs.Prelude.{◌≡◌, ℕ, ◌&&◌, ◌+◌, ◌*◌, ◌/◌, ◌%◌, ◌<◌, Bool, true, List, ◌∷◌, Option, Some, None, refl, sym, ap, subst, ◌∙◌, arith, IsSomeAnd, slice_get, byte_at, byte_small, Address, height_of_reference, PartOf, Subscript, TypedObject, TypedReference, IsSeen, RefersToScalar, TypesHoldInReference, SourcePlace, InMemory, InTheFrame, home_of, read_scalar, Displacement, based_place, displacement, SourceState, Outcome, Gave, then_do, Registers, State, wrap, Location, Reference, IndexNode, IsPart, IsReference, home, is_static_location, Does, loaded_of, at_place, Arrives, does_without_step, IsSteady, location_at, place_at, Facts, part, Base, base_after, base_of, keeps_of_address, location_of, base_location, located_at, location_word_steps, word_at_hl_steps, word_in_memory_steps, knowing, Context, IsSound, distances_in, nodes_in, StepsStand, PartThere, Carries, IsReferred, Know, Left, Nothing, PartDoes, address_on_machine, none-some, same_Some, two_bytes_fit, given_again}
use Rattle.steps8080.specs.declared.step.Task.TheVariants as tasks
use Rattle.steps8080.specs.declared.sites.queries.Base.TheVariants as bases
use Rattle.steps8080.specs.internal.Queries.{located}
use Rattle.task_laws.proofs.Machine.Values.{then_does_where}
use Rattle.task_laws.proofs.Places.LocationWords.{location_word_goes, word_at_hl_goes}
use Rattle.task_laws.proofs.Places.Reading.{word_read}
use Rattle.task_laws.proofs.Places.Bases.{IsBase, InAFrame, InPlace, IsSmall, OnBase, small_after}
use Rattle.task_laws.proofs.Places.Subscripts.{IsSplit, AllKnown, IsComputed, is_split}
use Rattle.task_laws.proofs.Places.Located.{all_known, base_with, base_with_is, located_in}
use Rattle.task_laws.proofs.Places.Fitting.{located_fits, refers_is_referred}

-- a part of an object with a known place is at its location
pub record LiesThere (context : Context) (tree : TypedReference) (location : Location) : Type 0 where
  pub place : SourcePlace
  pub means : (s : SourceState) → located_in context tree s ≡ Gave place s
  pub is_at : address_on_machine context.activation place
      ≡ location_at context.activation (distances_in context) location

-- a base without computed subscripts
lies_at_base :
    (context : Context) (object known bytes : ℕ) (is_inside : Bool) (base : Base) (location : Location)
    → IsSmall context base
    → IsBase context object known base
    → wrap bytes ≡ wrap known
    → base_location base ≡ Some location
    → (place : SourcePlace)
    × ((s : SourceState) → based_place (home_of context.activation.around object) context.activation.around
    object bytes is_inside s ≡ Gave place s)
    × (address_on_machine context.activation place
    ≡ location_at context.activation (distances_in context) location)
lies_at_base context object known bytes is_inside (bases.Static place) location small (InPlace at) is same = (
  InMemory (wrap (place_at context.activation.layout place + 0)),
  (λ s. at bytes 0 is_inside s (omega (arith, is))),
  small_sum (place_at context.activation.layout place) small
      ∙ ap (λ (l : Location). location_at context.activation (distances_in context) l) (same_Some _ _ same),
)
  where
    small_sum : (n : ℕ) → n < 65536 → wrap (n + 0) ≡ n
    small_sum n small = omega (arith, small)
lies_at_base context object known bytes is_inside (bases.Frame variable offset) location small
    (InAFrame at is_at) is same = (
      InTheFrame object bytes is_inside,
      (λ s. at bytes is_inside s),
      is_at bytes 0 (omega (arith, is)) ∙ wrapped_twice _
          ∙ ap (λ (l : Location). location_at context.activation (distances_in context) l) (same_Some _ _ same),
    )
  where
    wrapped_twice : (n : ℕ) → wrap (wrap n + 0) ≡ wrap n
    wrapped_twice n = omega arith
lies_at_base context object known bytes is_inside (bases.Based pointer offset) location small
    (OnBase base offset_is at pointer_is fits) is same =
    absurd (none-some _ same)

-- a location where no subscript is computed
abbrev location_where : Option IndexNode → Option Location → Option Location
location_where first location = elim first [
  | Some subscript ↦ None
  | None ↦ location
]

lies_by_split :
    {context : Context} (object offset : ℕ) (first second : Option IndexNode)
    (subscript member_subscript : Subscript)
    (member : Option ℕ) (one two : Option IndexNode) (one_known two_known : ℕ) (location : Location)
    → IsSound context
    → IsSomeAnd (slice_get context.typed.objects object)
    (λ (found : TypedObject). IsSeen context.typed context.within found.home)
    → IsSplit context first subscript one one_known
    → IsSplit context second member_subscript two two_known
    → location_where (located_at (base_with context object offset one_known two_known) one two).first
    (base_location (located_at (base_with context object offset one_known two_known) one two).base)
    ≡ Some location
    → LiesThere context (PartOf object subscript member offset member_subscript) location
lies_by_split {context = context} object offset first second tree_one member_subscript member _ _ one_known
    two_known location sound referred
    (AllKnown shift means bytes kept) (AllKnown shift_too means_too bytes_too kept_too) same =
    let lies =
    lies_at_base context object (0 + offset % 65536 + one_known + two_known)
    (shift.bytes + offset + shift_too.bytes)
    (shift.is_inside && shift_too.is_inside)
    (base_with context object offset one_known two_known) location
    (small_after context (base_after (base_after (base_of (home context.site.tree.now object))
    (offset % 65536)) one_known) two_known sound)
    (base_with_is context object offset one_known two_known sound referred)
    (all_known shift.bytes offset shift_too.bytes one_known two_known bytes bytes_too) same in
    record {
      place = lies.0;
      means = λ s.
          ap (λ (outcome : Outcome Displacement). then_do outcome
          (λ one t. then_do (displacement context.later context.activation.around member_subscript t)
          (λ two u. based_place (home_of context.activation.around object) context.activation.around object
          (one.bytes + offset + two.bytes) (one.is_inside && two.is_inside) u))) (means s)
          ∙ ap (λ (outcome : Outcome Displacement). then_do outcome
          (λ two u. based_place (home_of context.activation.around object) context.activation.around object
          (shift.bytes + offset + two.bytes) (shift.is_inside && two.is_inside) u)) (means_too s)
          ∙ lies.1 s;
      is_at = lies.2;
    }
lies_by_split object offset first second tree_one member_subscript member _ _ one_known two_known
    location sound referred
    (IsComputed of bound inner shift is types address high means bytes kept less) two same =
    absurd (none-some _ same)
lies_by_split object offset first second tree_one member_subscript member _ _ one_known two_known
    location sound referred
    (AllKnown shift means bytes kept)
    (IsComputed of bound inner shift_too is types address high means_too bytes_too kept_too less) same =
    absurd (none-some _ same)

-- where tree code knows the location of a part of an object, the source has the part
pub lies_there :
    {context : Context} {bound : ℕ} {reference : Reference} {tree : TypedReference} (facts : Facts)
    (location : Location)
    → IsSound context
    → IsReference (nodes_in context) context.storage bound reference tree
    → IsReferred context tree
    → TypesHoldInReference context.typed context.within tree
    → location_of (knowing context.site facts) reference ≡ Some location
    → LiesThere context tree location
unfolding location_of located
lies_there facts location sound
    (IsPart {object = object} {offset = offset} {member = member} {first = first} {second = second}
    {subscript = subscript} {member_subscript = member_subscript} one two)
    referred types same =
    lies_by_split object offset first second subscript member_subscript member _ _ _ _ location sound referred
    (is_split facts sound one types.0) (is_split facts sound two types.1) same

-- a word of memory is in HL
pub record WordIsLoaded
    (context : Context) (before after : Facts) (reference : Reference)
    (r : Registers) (memory : List ℕ) (found : ℕ) (now : Registers) (memory_now : List ℕ) : Type 0 where
  pub h : now.h ≡ found / 256
  pub l : now.l ≡ found % 256
  pub small : found < 65536
  pub known : Know context after now memory_now
  pub a : (location : Location) → location_of (knowing context.site before) reference ≡ Some location
      → is_static_location location ≡ true → now.a ≡ r.a
  pub d : Left (keeps_of_address context.site reference).de r.d now.d
  pub e : Left (keeps_of_address context.site reference).de r.e now.e

high_is : (h low high : ℕ) → low < 256 → h ≡ high → high < 256 → h ≡ (low + 256 * high) / 256
high_is h low high one same two = omega (arith, one, same, two)

low_is : (l low high : ℕ) → low < 256 → l ≡ low → l ≡ (low + 256 * high) % 256
low_is l low high one same = omega (arith, one, same)

pub static_only : {A : Type 0} {x : Location} {y : Option Location} → y ≡ None → y ≡ Some x → A
static_only one two = absurd cc

-- the code of the word of a part of memory
pub word_in_memory_law :
    {context : Context} {facts last : Facts} {reference : Reference} {pushed from to bound : ℕ}
    {tree : TypedReference}
    → IsSound context
    → StepsStand context (PartDoes context) facts from
    (word_in_memory_steps (knowing context.site facts) reference pushed) last to
    → IsReference (nodes_in context) context.storage bound reference tree
    → RefersToScalar context.typed context.within Address tree
    → TypesHoldInReference context.typed context.within tree
    → Carries context facts pushed (2 * height_of_reference tree) 0 from to Nothing
    (λ s. then_do (located_in context tree s)
    (λ place t. read_scalar context.activation.around.program Address place t))
    (WordIsLoaded context facts last reference)
word_in_memory_law {context = context} {facts = facts} {last = last} {reference = reference} {pushed = pushed}
    {from = from} {to = to} {bound = bound} {tree = tree} sound stand is refers types top base s r memory less
    room ready known asked =
    by_location (location_of (knowing context.site facts) reference) refl stand
  where
    by_location : (found : Option Location) → location_of (knowing context.site facts) reference ≡ found
        → StepsStand context (PartDoes context) facts from
        (elim found [
          | Some location ↦ location_word_steps (knowing context.site facts) location pushed
          | None ↦ part (tasks.Address reference) pushed ∷ word_at_hl_steps
        ]) last to
        → Does (loaded_of context.activation) s.budget 0 (at_place from r memory s.events)
        (then_do (located_in context tree s)
        (λ place t. read_scalar context.activation.around.program Address place t))
        (Arrives context.activation top base to (WordIsLoaded context facts last reference r memory))
    by_location (Some location) found stand =
        let lies =
        lies_there facts location sound is (refers_is_referred context Address tree refers) types found in
        let address : ℕ = address_on_machine context.activation lies.place in
        let low : ℕ = byte_at memory address in
        let high : ℕ = byte_at memory (wrap (address + 1)) in
        let low_small = byte_small memory address ready.shares.is_memory in
        let high_small = byte_small memory (wrap (address + 1)) ready.shares.is_memory in
        subst (λ (outcome : Outcome ℕ). Does (loaded_of context.activation) s.budget 0
        (at_place from r memory s.events) outcome
        (Arrives context.activation top base to (WordIsLoaded context facts last reference r memory)))
        (given_again (read_scalar context.activation.around.program Address lies.place s)
        ∙ sym (ap (λ (outcome : Outcome SourcePlace). then_do outcome
        (λ place t. read_scalar context.activation.around.program Address place t)) (lies.means s)))
        (word_read lies.place s (λ n t. Gave n t) sound ready
        (located_fits context Address tree lies.place s s sound refers (lies.means s))
        (λ steady next.
        location_word_goes facts location r sound room
        (subst (λ (n : ℕ). IsSteady context.activation n) lies.is_at steady)
        (subst (λ (n : ℕ). IsSteady context.activation (wrap (n + 1))) lies.is_at next)
        known stand (record { ready = ready; known = known })
        (λ now loaded on. does_without_step (record {
          r = now;
          memory = memory;
          is_at = refl;
          ready = on.ready;
          holds = record {
            h = high_is now.h low high low_small
                (loaded.high ∙ ap (λ (n : ℕ). byte_at memory (wrap (n + 1))) (sym lies.is_at)) high_small;
            l = low_is now.l low high low_small (loaded.low ∙ ap (byte_at memory) (sym lies.is_at));
            small = two_bytes_fit low high low_small high_small;
            known = on.known;
            a = λ other other_is static.
                loaded.a (ap is_static_location (same_Some _ _ (sym found ∙ other_is)) ∙ static);
            d = λ kept. loaded.d;
            e = λ kept. loaded.e;
          };
        }))))
    by_location None found (PartThere {middle = middle} does stand) =
        then_does_where
        (does bound tree is (refers_is_referred context Address tree refers) types top base s r memory less
        room ready known tt)
        (λ place t end same given fewer.
        let there : Registers = given.r in
        let ended : List ℕ = given.memory in
        let address : ℕ = address_on_machine context.activation place in
        let low : ℕ = byte_at ended address in
        let high : ℕ = byte_at ended (wrap (address + 1)) in
        let low_small = byte_small ended address given.ready.shares.is_memory in
        let high_small = byte_small ended (wrap (address + 1)) given.ready.shares.is_memory in
        subst (λ (state : State). Does (loaded_of context.activation) t.budget 0 state
        (read_scalar context.activation.around.program Address place t)
        (Arrives context.activation top base to (WordIsLoaded context facts last reference r memory)))
        (sym given.is_at)
        (subst (λ (outcome : Outcome ℕ). Does (loaded_of context.activation) t.budget 0
        (at_place middle there ended t.events) outcome
        (Arrives context.activation top base to (WordIsLoaded context facts last reference r memory)))
        (given_again (read_scalar context.activation.around.program Address place t))
        (word_read place t (λ n u. Gave n u) sound given.ready
        (located_fits context Address tree place s t sound refers same)
        (λ steady next.
        word_at_hl_goes address there sound steady (given.holds).hl stand
        (record { ready = given.ready; known = (given.holds).known })
        (λ now loaded on. does_without_step (record {
          r = now;
          memory = ended;
          is_at = refl;
          ready = on.ready;
          holds = record {
            h = high_is now.h low high low_small loaded.high high_small;
            l = low_is now.l low high low_small loaded.low;
            small = two_bytes_fit low high low_small high_small;
            known = on.known;
            a = λ other other_is static. static_only found other_is;
            d = λ kept. loaded.d ∙ (given.holds).d kept;
            e = λ kept. loaded.e ∙ (given.holds).e kept;
          };
        }))))))
