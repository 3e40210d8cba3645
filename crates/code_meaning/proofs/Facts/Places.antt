-- Addresses of places and locations at a distance from others, and of equal ones.
use Rattle.code_meaning.proofs.Prelude.{◌≡◌, ℕ, ◌+◌, ◌%◌, ◌<◌, ◌==◌, true, ap, ◌∙◌, arith, eqb-true, MEMORY_SIZE, wrap, Layout, Place, Number, Code, Data, External, Location, Static, Frame, place_after, location_after, before, same_place, same_location, Activation, Distances, location_at, place_at, false≢true, and_parts}
use Rattle.object_modules.specs.declared.segment.Segment.TheVariants as segments
use Rattle.object_modules.specs.declared.segment.Target.TheVariants as targets

moved : (offset more base : ℕ) → wrap ((offset + more) % 65536 + base) ≡ wrap (wrap (offset + base) + more)
moved offset more base = omega arith

moved_on : (base offset more : ℕ) → wrap (base + (offset + more) % 65536) ≡ wrap (wrap (base + offset) + more)
moved_on base offset more = omega arith

place_after_is :
    (layout : Layout) (place : Place) (more : ℕ)
    → place_at layout (place_after place more) ≡ wrap (place_at layout place + more)
place_after_is layout (Number number) more = omega arith
place_after_is layout (Code offset) more =
    moved offset more (layout.address_of (targets.InSegment segments.Code))
place_after_is layout (Data offset) more =
    moved offset more (layout.address_of (targets.InSegment segments.Data))
place_after_is layout (External offset name) more =
    moved offset more (layout.address_of (targets.External name))

-- the address of a location `more` bytes further on
pub location_after_is :
    (activation : Activation) (distance : Distances) (location : Location) (more : ℕ)
    → location_at activation distance (location_after location more)
    ≡ wrap (location_at activation distance location + more)
location_after_is activation distance (Static place) more = place_after_is activation.layout place more
location_after_is activation distance (Frame variable offset) more =
    moved_on (activation.level + distance variable) offset more

back_and_on : (address : ℕ) → address < MEMORY_SIZE → wrap (wrap (address + 65535) + 1) ≡ address
back_and_on address small = omega (arith, small)

-- one byte after the location one byte before
pub after_before :
    (activation : Activation) (distance : Distances) (location : Location)
    → location_at activation distance location < MEMORY_SIZE
    → wrap (location_at activation distance (before location) + 1) ≡ location_at activation distance location
after_before activation distance location small =
    ap (λ n. wrap (n + 1)) (location_after_is activation distance location 65535)
    ∙ back_and_on (location_at activation distance location) small

same_places :
    (layout : Layout) (one other : Place) → same_place one other ≡ true
    → place_at layout one ≡ place_at layout other
same_places layout (Number one) (Number other) same = eqb-true one other same
same_places layout (Number one) (Code other) same = absurd (false≢true same)
same_places layout (Number one) (Data other) same = absurd (false≢true same)
same_places layout (Number one) (External other name) same = absurd (false≢true same)
same_places layout (Code one) (Number other) same = absurd (false≢true same)
same_places layout (Code one) (Code other) same =
    ap (λ n. place_at layout (Code n)) (eqb-true one other same)
same_places layout (Code one) (Data other) same = absurd (false≢true same)
same_places layout (Code one) (External other name) same = absurd (false≢true same)
same_places layout (Data one) (Number other) same = absurd (false≢true same)
same_places layout (Data one) (Code other) same = absurd (false≢true same)
same_places layout (Data one) (Data other) same =
    ap (λ n. place_at layout (Data n)) (eqb-true one other same)
same_places layout (Data one) (External other name) same = absurd (false≢true same)
same_places layout (External one name) (Number other) same = absurd (false≢true same)
same_places layout (External one name) (Code other) same = absurd (false≢true same)
same_places layout (External one name) (Data other) same = absurd (false≢true same)
same_places layout (External one name) (External other other_name) same =
    ap (λ n. place_at layout (External n name))
    (eqb-true one other (and_parts (one == other) (name == other_name) same).0)
    ∙ ap (λ n. place_at layout (External other n))
    (eqb-true name other_name (and_parts (one == other) (name == other_name) same).1)

-- equal locations have the same address
pub same_locations :
    (activation : Activation) (distance : Distances) (one other : Location)
    → same_location one other ≡ true
    → location_at activation distance one ≡ location_at activation distance other
same_locations activation distance (Static one) (Static other) same =
    same_places activation.layout one other same
same_locations activation distance (Static one) (Frame variable other) same = absurd (false≢true same)
same_locations activation distance (Frame variable one) (Static other) same = absurd (false≢true same)
same_locations activation distance (Frame variable one) (Frame other_variable other) same =
    ap (λ n. location_at activation distance (Frame n one))
    (eqb-true variable other_variable (and_parts (variable == other_variable) (one == other) same).0)
    ∙ ap (λ n. location_at activation distance (Frame other_variable n))
    (eqb-true one other (and_parts (variable == other_variable) (one == other) same).1)
