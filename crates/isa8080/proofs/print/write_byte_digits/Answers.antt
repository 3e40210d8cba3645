use Rattle.isa8080.proofs.Prelude.{◌≡◌, ℕ, ◌^◌, ◌-◌, ◌<◌, true, Some, ap, subst, DisplaysOnOk, digits, digits_output, format_spec, styled_digits_output, hex_byte}
use Rattle.isa8080.specs.Text.{byte_digits}
use Rattle.isa8080.proofs.print.write_byte_digits.Goals as goal

-- what a hole `{:02X}` writes of a byte
hole_is : (d : _) (spec : _) (n : ℕ) → digits_output d ≡ Some (digits 16 true n)
    → spec ≡ format_spec 32 0 4 2 (2 ^ 64 - 1) → n < 256 → styled_digits_output d spec ≡ Some (byte_digits n)
hole_is d spec n shown is small = rw (is, shown) (ap Some (hex_byte true n small))

pub returns : goal.returns
returns g c =
    subst (λ text. DisplaysOnOk g.W.Write.write_str_gives c.args.f.now c.write.result text c.write.new.self)
    (hole_is c.in_radix.result c.laid_out.result c.args.byte c.in_radix.ensures
    c.laid_out.ensures c.ranges.byte.fits)
    c.write.ensures.writes
