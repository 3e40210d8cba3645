-- Columns of lines.
use Rattle.std.specs.Prelude.{ℕ, ◌-◌, ◌==◌, if◌then◌else◌, List, get_or, length, take}

-- a line without the return (13) at its end
abbrev pub body : List ℕ → List ℕ
body line = if get_or line (length line - 1) 0 == 13 then take (length line - 1) line else line
