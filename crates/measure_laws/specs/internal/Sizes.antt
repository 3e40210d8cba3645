-- The size of the code of a part of an expression in bytes, by the weight of its typed tree.
--
-- No form exceeds 128 bytes for a weight of 1. Beside the code of their parts, the largest forms take at
-- most:
--   * an address with two computed subscripts of a BASED object: 91. The two products with numbers take 37 each,
--     3 keep the first subscript, and 14 add the base. Each subscript is an expression with code that leaves at least 48
--     of its 128 bytes free; so 32 are enough for the address itself. One without subscripts takes 12;
--   * a product with a number: 37;
--   * a jump if two ADDRESSes are equal: 18; a word shifted right by 2: 14;
--   * an operator on two ADDRESSes by halves: 10;
--   * a store at a computed address: 7;
--   * a call: 3, and 1 for each argument but the last.
use Rattle.std.specs.Prelude.{ℕ, ◌*◌}
use Rattle.typed_trees.specs.declared.limits.TheConstants.{CODE_BYTES_FOR_WEIGHT}

-- the bytes that a weight allows
abbrev pub bytes_for : (weight : ℕ) → ℕ
bytes_for weight = CODE_BYTES_FOR_WEIGHT * weight

-- the bytes of an address beside its subscripts
abbrev pub BYTES_OF_ADDRESS : ℕ
BYTES_OF_ADDRESS = 32

-- the bytes of a call beside its arguments
abbrev pub BYTES_OF_CALL : ℕ
BYTES_OF_CALL = 3
