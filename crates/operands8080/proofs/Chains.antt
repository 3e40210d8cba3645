-- Chains of sums, bit by bit.
use Rattle.std.proofs.Common.{◌≡◌, ℕ, suc, ◌+◌, ◌-◌, ◌<◌, ◌≤◌, Bool, ◌||◌, List, [], ◌++◌, ap, sym, ◌∙◌, append_assoc, arith}
use Rattle.std.proofs.lemmas.List.{append-nil}
use Rattle.isa8080.specs.declared.instr.Instr.{Instr}
use Rattle.steps8080.specs.declared.step.Step.{Step}
use Rattle.operands8080.specs.internal.Products.{bit_steps, chain_from, has_bit}

-- one more bit
pub bit_added :
    (made now total : List Step) (number index : ℕ) (twice once_more : Instr) (is_below is_set : Bool)
    → made ++ chain_from (16 - index) number twice once_more is_below ≡ total
    → now ≡ made ++ bit_steps twice once_more is_below is_set
    → is_set ≡ has_bit number (15 - index)
    → index < 16
    → now ++ chain_from (16 - (index + 1)) number twice once_more (is_below || is_set) ≡ total
unfolding chain_from
bit_added made now total number index twice once_more is_below is_set whole added is_bit some =
    ap (λ steps. steps ++ chain_from (16 - (index + 1)) number twice once_more (is_below || is_set)) added
    ∙ ap
    (λ bit. made ++ bit_steps twice once_more is_below is_set
    ++ chain_from bit number twice once_more (is_below || is_set))
    (next some)
    ∙ ap
    (λ bit. made ++ bit_steps twice once_more is_below bit
    ++ chain_from (15 - index) number twice once_more (is_below || bit))
    is_bit
    ∙ append_assoc made (bit_steps twice once_more is_below (has_bit number (15 - index)))
    (chain_from (15 - index) number twice once_more (is_below || has_bit number (15 - index)))
    ∙ ap (λ bits. made ++ chain_from bits number twice once_more is_below) (this some)
    ∙ whole
  where
    next : index < 16 → 16 - (index + 1) ≡ 15 - index
    next some = omega arith

    this : index < 16 → suc (15 - index) ≡ 16 - index
    this some = omega arith

-- all bits are done
pub chain_ended :
    (made total : List Step) (number index : ℕ) (twice once_more : Instr) (is_below : Bool)
    → made ++ chain_from (16 - index) number twice once_more is_below ≡ total
    → 16 ≤ index
    → made ≡ total
unfolding chain_from
chain_ended made total number index twice once_more is_below whole all =
    sym (append-nil made)
    ∙ ap (λ bits. made ++ chain_from bits number twice once_more is_below) (none all)
    ∙ whole
  where
    none : 16 ≤ index → 0 ≡ 16 - index
    none all = omega arith
