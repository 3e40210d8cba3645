-- Lines that are printed piece by piece, and what they do not begin with.
use Rattle.host.proofs.Prelude.{◌≡◌, ℕ, ◌-◌, ◌≤◌, ◌<◌, Bool, true, false, List, [], ◌∷◌, ◌++◌, Option, Bor, inl, inr, codes, decimal, length, drop, take, get_or, refl, sym, ap, subst, ◌∙◌, true≢false, arith, and_parts, take-length, append-nil, append_assoc, Directory, StopsAt, Appends-nil, ◌==◌, ◌&&◌, not, flat_map, Appends, AppendsBeginning, IsBeginning, beginning_after, CountsFailure, IsOfNoFile, Tells, TellsOther, TellsRefusal, file_line, is_fault_number, output_line, refusal_line}

-- what was written, with a beginning of the pieces that are left, is a beginning of all
abbrev pub Sent : (old now : Option (List ℕ)) (all rest : List ℕ) → Type 0
Sent old now all rest = (new : Option (List ℕ)) → AppendsBeginning now new rest → AppendsBeginning old new all

abbrev pub joined : List (Bor (List ℕ)) → List ℕ
joined pieces = flat_map (λ piece. piece.now) pieces

left_is : (p : Bor (List ℕ)) (more : List (Bor (List ℕ)))
    → take (length (p ∷ more) - 1) (drop 1 (p ∷ more)) ≡ more
left_is p more =
    let count : length (p ∷ more) - 1 ≡ length more = omega arith in
    ap (λ (k : ℕ). take k more) count ∙ take-length more

-- a piece was written whole
pub piece_sent : (old now next : Option (List ℕ)) (all piece : List ℕ) (d : Bor (List ℕ))
    (rest : List (Bor (List ℕ))) → 1 ≤ length rest → piece ≡ (get_or rest 0 d).now
    → Sent old now all (joined rest) → Appends now next piece
    → Sent old next all (joined (take (length rest - 1) (drop 1 rest)))
piece_sent old now next all piece d [] one is before sent = absurd (omega arith)
piece_sent old now next all piece d (p ∷ more) one is before sent = λ new h.
    let left : AppendsBeginning next new (joined more) =
    subst (λ (l : List (Bor (List ℕ))). AppendsBeginning next new (joined l)) (left_is p more) h in
    before new
    (beginning_after now next new p.now (joined more) (joined (p ∷ more)) []
    (ap (λ (l : List ℕ). p.now ++ l) (sym (append-nil (joined more))))
    (subst (λ (l : List ℕ). Appends now next l) is sent) left)

-- a piece was not written whole
pub piece_begun : (old now new : Option (List ℕ)) (all piece : List ℕ) (d : Bor (List ℕ))
    (rest : List (Bor (List ℕ))) → 1 ≤ length rest → piece ≡ (get_or rest 0 d).now
    → Sent old now all (joined rest) → AppendsBeginning now new piece → AppendsBeginning old new all
piece_begun old now new all piece d [] one is before begun = absurd (omega arith)
piece_begun old now new all piece d (p ∷ more) one is before (sent, (left, whole), appended) =
    let all_is : joined (p ∷ more) ≡ sent ++ (left ++ joined more) =
    ap (λ (l : List ℕ). l ++ joined more) (sym is ∙ whole) ∙ append_assoc sent left (joined more) in
    before new (sent, (left ++ joined more, all_is), appended)

-- no piece is left
pub all_sent : (old now : Option (List ℕ)) (all : List ℕ) (rest : List (Bor (List ℕ))) → length rest < 1
    → Sent old now all (joined rest) → AppendsBeginning old now all
all_sent old now all [] none before = before now ([], ([], refl), Appends-nil now)
all_sent old now all (p ∷ more) none before = absurd (omega arith)

-- a number that does not begin as that of a file
abbrev begins_other : (number : List ℕ) → Bool
begins_other [] = false
begins_other (a ∷ []) = false
begins_other (a ∷ b ∷ more) = not ((a == 85) && (b == 51))

-- the number of a fault that does not
abbrev pub is_other : (number : List ℕ) → Bool
is_other number = is_fault_number number && begins_other number

first_same : (a b c d : ℕ) (more rest : List ℕ) → a ∷ b ∷ more ≡ c ∷ d ∷ rest → a ≡ c
first_same a b c d more rest e = cc

second_same : (a b c d : ℕ) (more rest : List ℕ) → a ∷ b ∷ more ≡ c ∷ d ∷ rest → b ≡ d
second_same a b c d more rest e = cc

begins_otherwise : (number more : List ℕ) → begins_other number ≡ true → IsBeginning (codes "U3 ") (number ++ more) → ⊥
begins_otherwise [] more other begins = absurd (true≢false (sym other))
begins_otherwise (a ∷ []) more other begins = absurd (true≢false (sym other))
begins_otherwise (a ∷ b ∷ number) more other (rest, e) =
    let first : a ≡ 85 = first_same a b 85 51 (number ++ more) (32 ∷ rest) e in
    let second : b ≡ 51 = second_same a b 85 51 (number ++ more) (32 ∷ rest) e in
    let other_here : not ((85 == 85) && (51 == 51)) ≡ true =
    subst (λ (n : ℕ). not ((85 == 85) && (n == 51)) ≡ true) second
    (subst (λ (n : ℕ). not ((n == 85) && (b == 51)) ≡ true) first other) in
    absurd (true≢false (sym other_here))

-- what was printed as pieces is the line
pub line_told : (number place digits first last : List ℕ) (line : ℕ) (old new : Option (List ℕ))
    → first ≡ number → last ≡ digits → digits ≡ decimal line
    → AppendsBeginning old new (first ++ (32 ∷ (place ++ (32 ∷ (last ++ 10 ∷ [])))))
    → Tells (refusal_line number place line) old new
unfolding refusal_line
line_told number place digits first last line old new is_number is_digits is_decimal appended = record {
  printed =
      subst (λ (l : List ℕ). AppendsBeginning old new (number ++ (32 ∷ (place ++ (32 ∷ (l ++ 10 ∷ []))))))
      (is_digits ∙ is_decimal)
      (subst (λ (l : List ℕ). AppendsBeginning old new (l ++ (32 ∷ (place ++ (32 ∷ (last ++ 10 ∷ []))))))
      is_number appended);
}

other_line : (number place : List ℕ) (line : ℕ) → begins_other number ≡ true
    → IsOfNoFile (refusal_line number place line)
unfolding refusal_line
other_line number place line other = inr (begins_otherwise number _ other)

-- the line of another number
pub tells_other : (number place : List ℕ) (line : ℕ) (old new : Option (List ℕ)) → is_other number ≡ true
    → Tells (refusal_line number place line) old new → TellsOther old new
tells_other number place line old new other told = record {
  number = number;
  place = place;
  line = line;
  numbered = (and_parts (is_fault_number number) (begins_other number) other).0;
  of_no_file =
      other_line number place line (and_parts (is_fault_number number) (begins_other number) other).1;
  told = told;
}

-- a number and a line, as they are told
pub same_line : (number is place : List ℕ) (line at : ℕ) (old new : Option (List ℕ)) → number ≡ is → line ≡ at
    → Tells (refusal_line number place line) old new
    → Tells (refusal_line is place at) old new
same_line number is place line at old new is_number is_at told =
    subst (λ (k : ℕ). Tells (refusal_line is place k) old new) is_at
    (subst (λ (n : List ℕ). Tells (refusal_line n place line) old new) is_number told)

-- the line of standard output
pub tells_output : (old new : Option (List ℕ)) → Tells output_line old new → TellsOther old new
tells_output old new told = record { number = codes "U3"; place = codes "-"; line = 0; numbered = refl; of_no_file = inl refl; told = told }

-- a file whose failure was counted, after calls that did not fail
pub tells_file : (files : Option Directory) (names : List (List ℕ)) (before now after : ℕ) (name : List ℕ)
    (old new : Option (List ℕ)) → now ≡ before → CountsFailure now after
    → StopsAt files names name → Tells (file_line name) old new
    → TellsRefusal files names before after old new
unfolding TellsRefusal
tells_file files names before now after name old new same counted stopped told =
    inl (subst (λ (n : ℕ). CountsFailure n after) same counted, (name, stopped, told))

-- another fault, where no failure was counted
pub tells_no_file : (files : Option Directory) (names : List (List ℕ)) (before after : ℕ)
    (old new : Option (List ℕ)) → after ≡ before → TellsOther old new
    → TellsRefusal files names before after old new
unfolding TellsRefusal
tells_no_file files names before after old new same other = inr (same, other)
