-- The counter gives bytes.
use Rattle.std.proofs.Common.{◌≡◌, zero, suc, ◌+◌, ◌<◌, get_or, arith}
use Rattle.std.proofs.lemmas.List.FromFn.{get_or-range_with_len, length-range_with_len}
use Rattle.std.specs.List.{range_with_len}
use Rattle.ports.specs.Input.{IsScript}
use Rattle.example_libraries.specs.Counter.{counter_script}

-- each queue holds bytes
pub counter_holds_bytes : IsScript counter_script
counter_holds_bytes zero k d below = let bad : k < 0 = below in absurd (omega (arith, bad))
counter_holds_bytes (suc zero) k d below =
    let few : k < 255 = rw (length-range_with_len 0 255) below in
    let e : get_or (range_with_len 0 255) k d ≡ 0 + k = get_or-range_with_len 0 255 k d few in omega (arith, e)
counter_holds_bytes (suc (suc port)) k d below = let bad : k < 0 = below in absurd (omega (arith, bad))
