-- Files that are looked for one after another.
use Rattle.explaining.proofs.Prelude.{◌≡◌, ◌≤◌, ◌<◌, ◌+◌, ◌-◌, ℕ, zero, suc, min, List, Option, length, take, drop, refl, arith, length-take, length-drop, Failure, Fault, Memory, Counts, Directory, KeepsFiles, files_stay, stays_on, Looks}

-- so many of all are left, and the others were looked for
pub record LookedSoFar (all rest : ℕ) (first now : Option Directory) (before after : ℕ) : Type 0 where
  kept : KeepsFiles first now
  same : all ≡ 0 → (now ≡ first) × (after ≡ before)
  left : rest ≤ all
  most : after + rest ≤ before + all
  least : min before 18446744073709551615 ≤ after

pub looking_begun : (all : ℕ) (files : Option Directory) (before : ℕ)
    → LookedSoFar all all files files before before
looking_begun all files before =
    record { kept = files_stay files; same = λ none. (refl, refl); left = omega arith; most = omega arith; least = omega arith }

pub one_more : {X : Type 0} (all : ℕ) (rest : List X) (first now next : Option Directory)
    (before after later : ℕ) → 1 ≤ length rest
    → LookedSoFar all (length rest) first now before after → KeepsFiles now next → later ≤ after + 1
    → min after 18446744073709551615 ≤ later
    → LookedSoFar all (length (take (length rest - 1) (drop 1 rest))) first next before later
one_more all rest first now next before after later some so_far kept most least =
    let less : length (take (length rest - 1) (drop 1 rest)) ≡ length rest - 1 =
    omega (arith, length-take (length rest - 1) (drop 1 rest), length-drop 1 rest) in
    record {
      kept = stays_on first now next so_far.kept kept;
      same = λ none. absurd (omega (arith, none, some, so_far.left));
      left = omega (arith, some, less, so_far.left);
      most = omega (arith, some, less, most, so_far.most);
      least = omega (arith, least, so_far.least);
    }

pub looking_ended : (all rest : ℕ) (first now : Option Directory) (before after : ℕ) → rest < 1
    → LookedSoFar all rest first now before after → Looks all first now before after
looking_ended zero rest first now before after none so_far = so_far.same refl
looking_ended (suc more) rest first now before after none so_far =
    (so_far.kept, omega (arith, none, so_far.most), so_far.least)

-- where none was looked for
pub looks_none : (all : ℕ) (files : Option Directory) (before : ℕ) → Looks all files files before before
looks_none zero files before = (refl, refl)
looks_none (suc more) files before = (files_stay files, omega arith, omega arith)

-- a failure counts up by one at most
pub counted_up : {F : Type 0} (failure : Failure F) (before after : ℕ) → Counts failure before after
    → after ≤ before + 1
counted_up (Fault fault) before after counted = omega (arith, counted)
counted_up Memory before after counted = omega (arith, counted)

pub not_down : {F : Type 0} (failure : Failure F) (before after : ℕ) → Counts failure before after
    → min before 18446744073709551615 ≤ after
not_down (Fault fault) before after counted = omega (arith, counted)
not_down Memory before after counted = omega (arith, counted)
