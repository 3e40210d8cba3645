-- The bytes that are steady in an activation with a sound placement, and the requirements of instructions
-- there.
use Rattle.code_meaning.proofs.Prelude.{◌≡◌, ℕ, ◌+◌, ◌<◌, ◌≤◌, true, Option, Some, None, sym, arith, MEMORY_SIZE, is_declared, word, wrap, one_below, two_below, Location, Frame, Activation, LiesWell, AddressAsks, IsSteadyByte, PushAsks, AddressHolds, Distances, IsSteady, location_at}

-- a byte that is declared
pub declared_is_steady :
    (activation : Activation) (address : ℕ)
    → LiesWell activation
    → is_declared activation.around.program address ≡ true
    → IsSteady activation address
declared_is_steady activation address lies declared =
    let above = lies.above in
    let bottom = lies.bottom in
    record {
      apart = λ low below. lies.placed.stack_free address declared (omega (arith, low, bottom))
          (omega (arith, below, above));
    }

-- a byte of an object in the frame
pub frame_byte_is_steady :
    (activation : Activation) (object offset : ℕ)
    → IsSteady activation (activation.level + activation.distance object + offset)
frame_byte_is_steady activation object offset = record { apart = λ low below. omega (arith, below) }

-- if a variable of tree code begins at the start of the object, the address of the byte in the frame is
-- steady
pub frame_location_is_steady :
    (activation : Activation) (distance : Distances) (variable object offset : ℕ)
    → LiesWell activation
    → distance variable ≡ activation.distance object
    → offset < activation.size object
    → (location_at activation distance (Frame variable offset)
    ≡ activation.level + activation.distance object + offset)
    × IsSteadyByte activation (location_at activation distance (Frame variable offset))
frame_location_is_steady activation distance variable object offset lies same within =
    let inside = lies.inside object offset within in
    let above = lies.above in
    let stack = lies.placed.stack_in_memory in
    let small : activation.level + activation.distance object + offset < MEMORY_SIZE
    = omega (arith, inside, above, stack) in
    let is : wrap (activation.level + distance variable + offset)
    ≡ activation.level + activation.distance object + offset
    = omega (arith, same, small) in
    let low : wrap (activation.level + distance variable + offset) < MEMORY_SIZE = omega arith in
    (is, (record { apart = λ start below. omega (arith, is, below) }, low))

-- no byte below the level that may be pushed is steady
pub pushed_is_not_steady :
    (activation : Activation) (top address : ℕ)
    → activation.floor ≤ address
    → address < top
    → top ≤ activation.level
    → IsSteady activation address
    → ⊥
pushed_is_not_steady activation top address low high below steady =
    steady.apart low (omega (arith, high, below))

-- so a PUSH may be carried out if there is room for it
pub push_asks :
    (activation : Activation) (sp top : ℕ)
    → LiesWell activation
    → sp ≡ wrap top
    → activation.floor + 2 ≤ top
    → top ≤ activation.level
    → PushAsks activation sp
push_asks activation sp top lies pointer room below address steady =
    let above = lies.above in
    let stack = lies.placed.stack_in_memory in
    let limit : top ≤ MEMORY_SIZE = omega (arith, above, stack, below) in
    let one = one_below sp top pointer limit (omega (arith, room)) in
    let two = two_below sp top pointer limit (omega (arith, room)) in (
      λ same. pushed_is_not_steady activation top address (omega (arith, same, one, room))
          (omega (arith, same, one, room)) below steady,
      λ same. pushed_is_not_steady activation top address (omega (arith, same, two, room))
          (omega (arith, same, two, room)) below steady,
    )

-- the byte at the address that HL is known to hold is steady if the byte at the address in HL is
pub address_asks :
    (activation : Activation) (distance : Distances) (held : Option Location) (h l : ℕ)
    → AddressHolds activation distance held h l
    → IsSteady activation (word h l)
    → AddressAsks activation distance held
address_asks activation distance None h l holds steady = tt
address_asks activation distance (Some location) h l holds steady = rw (sym holds) steady
