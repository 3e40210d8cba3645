-- What the devices give: the script of their ports.
use Rattle.std.specs.Prelude.{ℕ, List, [], ◌∷◌}
use Rattle.std.specs.List.{range_with_len}

-- port 0 has nothing to read; the counter, at port 1, gives 0, 1, 2 and so on, and 255 from then on
abbrev pub counter_script : List (List ℕ)
counter_script = [] ∷ range_with_len 0 255 ∷ []
