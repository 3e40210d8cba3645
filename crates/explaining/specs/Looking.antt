-- What looking for files leaves of files and of the count of their failures.
use Rattle.std.specs.Prelude.{◌≡◌, ◌≤◌, ◌+◌, ℕ, zero, suc, min, Option}
use Rattle.host.specs.Files.{Directory, KeepsFiles}

-- At most this number of files was looked for, and none was changed. Each file that was there and could not be read is
-- one failure, and the count stays at its greatest value. If the number is 0, nothing is done.
abbrev pub Looks : ℕ → (old new : Option Directory) → (before after : ℕ) → Type 0
Looks zero old new before after = (new ≡ old) × (after ≡ before)
Looks (suc more) old new before after =
    KeepsFiles old new × (after ≤ before + suc more) × (min before 18446744073709551615 ≤ after)
