-- Form feeds that were taken away.
use Rattle.std.specs.Prelude.{ℕ, Bool, true, false}

-- how many blanks may come for a form feed
abbrev pub waiting : (fed : Bool) → ℕ
waiting true = 1
waiting false = 0
