-- Products with numbers.
use Rattle.exprgen8080.proofs.Prelude.{◌/◌, ◌%◌, ◌==◌, ◌||◌, A, Add, B, Bc, Bool, Dad, ExpressionNumber, Hl, Instr, Site, bit_steps, byte_multiple_steps, byte_product_steps, chain_from, false, has_bit, multiple_steps, power_of_two, product_steps, small_multiple_steps, suc, true, with_register, zero, ℕ}
use Rattle.steps8080.proofs.SiteNames.{number_is_own}
use Rattle.exprgen8080.proofs.Ranks.{Joining.{Falls, IsUnder, after_part, after_plain, by_finding, by_test, falls, joined, repeated}}

bit_fall :
    {site : Site} {limit : ℕ} (twice once_more : Instr)
    (is_below is_set : Bool)
    → Falls site limit (bit_steps twice once_more is_below is_set)
bit_fall twice once_more false is_set = falls tt
bit_fall twice once_more true false = falls tt
bit_fall twice once_more true true = falls tt

-- two instructions for each bit
chain_fall :
    {site : Site} {limit : ℕ} (bits number : ℕ)
    (twice once_more : Instr) (is_below : Bool)
    → Falls site limit (chain_from bits number twice once_more is_below)
unfolding chain_from
chain_fall zero number twice once_more is_below = falls tt
chain_fall (suc bit) number twice once_more is_below =
    joined (bit_fall twice once_more is_below (has_bit number bit))
    (chain_fall bit number twice once_more (is_below || has_bit number bit))

small_multiple_fall :
    {site : Site} {limit : ℕ} (number : ℕ)
    → Falls site limit (small_multiple_steps number)
small_multiple_fall number =
    by_finding (power_of_two number)
    (λ power is. (repeated (Dad Hl) power))
    (λ none. after_plain (after_plain (chain_fall 16 number (Dad Hl) (Dad Bc) false)))

pub multiple_fall :
    {site : Site} {limit : ℕ} (number : ℕ)
    → Falls site limit (multiple_steps number)
multiple_fall number =
    by_test (number % 256 == 0)
    (after_plain (after_plain (small_multiple_fall (number / 256))))
    (small_multiple_fall number)

-- the value of an expression times a number
pub product_fall :
    {site : Site} {limit : ℕ} (expression : ExpressionNumber)
    (number pushed : ℕ)
    → IsUnder site.tree.now limit expression
    → Falls site limit (product_steps expression number pushed)
product_fall expression number pushed is =
    by_test (number == 0)
    (falls (is, (number_is_own, tt)))
    (after_part is (multiple_fall number))

byte_multiple_fall :
    {site : Site} {limit : ℕ} (number : ℕ)
    → Falls site limit (byte_multiple_steps number)
byte_multiple_fall number =
    by_finding (power_of_two number)
    (λ power is. (repeated (with_register Add A) power))
    (λ none. after_plain (chain_fall 16 number (with_register Add A) (with_register Add B) false))

-- its low byte
pub byte_product_fall :
    {site : Site} {limit : ℕ} (expression : ExpressionNumber)
    (number pushed : ℕ)
    → IsUnder site.tree.now limit expression
    → Falls site limit (byte_product_steps expression number pushed)
byte_product_fall expression number pushed is =
    by_test (number == 0)
    (falls (is, tt))
    (after_part is (byte_multiple_fall number))
