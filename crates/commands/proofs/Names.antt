-- The names of the files of an order.
use Rattle.commands.proofs.Prelude.{◌≡◌, ℕ, List, Bor, Option, map, subst, texts, Directory, StopsAt}

pub stops_in_files : (known : Option Directory) (names files : List (Bor (List ℕ))) (name : List ℕ) → names ≡ files → StopsAt known (map (λ n. n.now) names) name → StopsAt known (texts files) name
stops_in_files known names files name e stopped = subst (λ (l : List (Bor (List ℕ))). StopsAt known (map (λ n. n.now) l) name) e stopped
