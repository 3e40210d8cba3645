-- How words end, with what an explanation adds.
use Rattle.explained_commands.proofs.Prelude.{ℕ, List, Option, Text, Directory, Ends, EndsExplained, Grows, Looks}

pub explained : (words : List Text) (tables status : ℕ) (files ended new : Option Directory)
    (before counted after : ℕ) (err_old left err_new out_old out_new : Option (List ℕ))
    → Ends words status files ended before counted err_old left out_old out_new
    → Looks tables ended new counted after → Grows left err_new
    → EndsExplained words tables status files new before after err_old err_new out_old out_new
explained words tables status files ended new before counted after err_old left err_new out_old
    out_new ends looks grows =
    record { left = left; ended = ended; counted = counted; ends = ends; looks = looks; grows = grows }
