use Rattle.steps8080.proofs.Prelude.{◌≡◌, ℕ, ◌+◌, ◌*◌, ◌-◌, ◌<◌, ◌%◌, ◌^◌, suc, arith, ap, sym, ◌∙◌, pow_below, false, Option, Some, ◌==◌, if◌then◌else◌, not_equal, power_from}
use Rattle.steps8080.proofs.sites.widths.power_of_two.Goals as goal

-- a power that is not the number is passed over
passed :
    (count others power number : ℕ) (total : Option ℕ)
    → count ≡ suc others
    → (number == 2 ^ power) ≡ false
    → power_from count power number ≡ total
    → power_from others (power + 1) number ≡ total
passed count others power number total more differs given =
    sym (ap (λ is. if is then Some power else power_from others (power + 1) number) differs)
    ∙ sym (ap (λ left. power_from left power number) more)
    ∙ given

-- 1 shifted within a word
shifted_one : (power : ℕ) → power < 16 → (1 * 2 ^ power) % 65536 ≡ 2 ^ power
shifted_one power some = within (2 ^ power) (pow_below power 16 some)
  where
    within : (value : ℕ) → value < 65536 → (1 * value) % 65536 ≡ value
    within value small = omega arith

pub loop-power-preserved : goal.loop-power-preserved
loop-power-preserved c =
    passed (16 - c.loop-power.power) (16 - (c.loop-power.power + 1)) c.loop-power.power c.args.number _
    (omega arith)
    (not_equal c.args.number (2 ^ c.loop-power.power)
    (λ same. c.if-number-power.false (same ∙ sym (shifted_one c.loop-power.power (omega arith)))))
    c.loop-power.invariant
