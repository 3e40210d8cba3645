-- A level of a command line without a fault: none of its parts has one.
use Rattle.command_line.proofs.Prelude.{◌≡◌, List, [], ◌∷◌, Some, None, Bool, true, false, ◌⊎◌, inl, inr, refl, find, Kinds, Rule, Shape, Text, Names, walk, walk_from, Held, finished, settled, level_fault, defaults_fault, walk_fault, check_fault, settle_fault, or_else, ErrorKind}

pub kinds_not_empty : (k : ErrorKind) (ks : Kinds) → k ∷ ks ≡ [] → ⊥
kinds_not_empty k ks e = cc

pub none_of_both : (xs ys : Kinds) → or_else xs ys ≡ [] → (xs ≡ []) × (ys ≡ [])
none_of_both [] ys e = (refl, e)
none_of_both (x ∷ xs) ys e = absurd (kinds_not_empty x xs e)

pub find_one : (p : Rule → Bool) (x : Rule) → (find p (x ∷ []) ≡ None) ⊎ (find p (x ∷ []) ≡ Some x)
find_one p x = go (p x) refl
  where
    go : (t : Bool) → p x ≡ t → (find p (x ∷ []) ≡ None) ⊎ (find p (x ∷ []) ≡ Some x)
    go true e = inr (rw e refl)
    go false e = inl (rw e refl)

-- a whole level passes
pub record LevelPasses (s : Shape) (names : Names) (h : Held) (words : List Text) (has_subcommand : Bool)
    (below : Kinds) : Type 0 where
  pub words_pass : walk_fault s names (walk_from h) words ≡ []
  pub below_passes : below ≡ []
  pub settle_passes : settle_fault s.rules s.args_override_self (walk s.rules names h words).held ≡ []
  pub check_passes : check_fault s (finished s.rules (walk s.rules names h words).held) has_subcommand ≡ []

pub level_passes_by : (s : Shape) (names : Names) (h : Held) (words : List Text)
    (has_subcommand : Bool) (below : Kinds)
    → level_fault s names h words has_subcommand below ≡ [] → LevelPasses s names h words has_subcommand below
level_passes_by s names h words has_subcommand below fine =
    let end = (walk s.rules names h words).held in
    let check = check_fault s (finished s.rules end) has_subcommand in
    let defaults = or_else (defaults_fault (settled s.rules end).rows s.rules) check in
    let rest = or_else (settle_fault s.rules s.args_override_self end) defaults in
    let first = none_of_both (walk_fault s names (walk_from h) words) (or_else below rest) fine in
    let second = none_of_both below rest first.1 in
    let third = none_of_both (settle_fault s.rules s.args_override_self end) defaults second.1 in
    record {
      words_pass = first.0;
      below_passes = second.0;
      settle_passes = third.0;
      check_passes = (none_of_both (defaults_fault (settled s.rules end).rows s.rules) check third.1).1;
    }
