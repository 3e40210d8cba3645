use Rattle.command_line.proofs.Prelude.{◌≡◌, map, length, is_page_of}
use Rattle.std.proofs.Common.{find}
use Rattle.command_line.proofs.explained.find_page.Given as goal

abbrev pub invariant-loop-rest : goal.invariant-loop-rest
invariant-loop-rest l =
    find (is_page_of l.number) (map (λ page. page.now) l.rest)
    ≡ find (is_page_of l.number) (map (λ page. page.now) l.initial.rest)

abbrev pub decreases-loop-rest : goal.decreases-loop-rest
decreases-loop-rest l = length l.rest
