-- The bytes of an input, one after another, and groups.
use Rattle.command_line.proofs.Prelude.{◌≡◌, ℕ, ◌<◌, List, [], ◌∷◌, ◌++◌, Option, Some, None, Bool, true, false, length, refl, ◌∙◌, ap, append_assoc, arith, ◌-◌, ◌≤◌, take, drop, get_or, map, Bor, ◌==◌, option_and_then, option_map, append-nil, take-length, Text, byte_of, bytes_for, all_groups, if_read, in_front, InputByte, group_bytes, nat_tests}

pub in_front_twice : {A : Type 0} (before bytes : List A) (found : Option (List A))
    → in_front (before ++ bytes) found ≡ in_front before (in_front bytes found)
in_front_twice before bytes None = refl
in_front_twice before bytes (Some more) = ap Some (append_assoc before bytes more)

pub one_in_front : {A : Type 0} (x : A) (found : Option (List A))
    → in_front (x ∷ []) found ≡ option_map (λ more. x ∷ more) found
one_in_front x None = refl
one_in_front x (Some more) = refl

-- a byte that was added stands in front of what is left
pub one_more : (before : List InputByte) (port byte high low : ℕ) (more : Text) → Some byte ≡ byte_of high low
    → in_front (before ++ record { port = port; byte = byte } ∷ []) (bytes_for port more)
    ≡ in_front before (bytes_for port (high ∷ low ∷ more))
one_more before port byte high low more e =
    let x : InputByte = record { port = port; byte = byte } in
    in_front_twice before (x ∷ []) (bytes_for port more)
    ∙ ap (in_front before) (one_in_front x (bytes_for port more)
    ∙ ap (option_and_then (λ (b : ℕ). option_map
    (λ (rest : List InputByte). record { port = port; byte = b } ∷ rest) (bytes_for port more))) e)

-- where two letters write no byte, nothing is read
pub no_byte : (before : List InputByte) (port high low : ℕ) (more : Text) → None ≡ byte_of high low
    → in_front before (bytes_for port (high ∷ low ∷ more)) ≡ None
no_byte before port high low more e = rw (← e) refl

-- at the end of the digits all was read, unless one is left
pub bytes_end : (before : List InputByte) (port : ℕ) (rest : Text) → length rest < 2
    → in_front before (bytes_for port rest) ≡ if_read (length rest == 0) before
bytes_end before port [] short = ap Some (append-nil before)
bytes_end before port (lone ∷ []) short = refl
bytes_end before port (high ∷ low ∷ more) short = absurd (omega arith)

-- a group of the bytes of a port has two digits and a colon (58)
pub short_group : (before : List InputByte) (group : Text) → length group < 3
    → in_front before (group_bytes group) ≡ None
short_group before [] short = refl
short_group before (a ∷ []) short = refl
short_group before (a ∷ b ∷ []) short = refl
short_group before (a ∷ b ∷ c ∷ more) short = absurd (omega arith)

pub no_colon : (before : List InputByte) (group : Text) → 3 ≤ length group → (get_or group 2 0 ≡ 58 → ⊥)
    → in_front before (group_bytes group) ≡ None
no_colon before [] long other = absurd (omega arith)
no_colon before (a ∷ []) long other = absurd (omega arith)
no_colon before (a ∷ b ∷ []) long other = absurd (omega arith)
no_colon before (a ∷ b ∷ c ∷ more) long other =
    let no : (c == 58) ≡ false = grind (arith, nat_tests) in
    rw no refl

pub group_is : (group : Text) (port : Option ℕ) → 3 ≤ length group → get_or group 2 0 ≡ 58
    → port ≡ byte_of (get_or group 0 0) (get_or group 1 0)
    → group_bytes group ≡ option_and_then (λ p. bytes_for p (take (length group - 3) (drop 3 group))) port
group_is [] port long colon is = absurd (omega arith)
group_is (a ∷ []) port long colon is = absurd (omega arith)
group_is (a ∷ b ∷ []) port long colon is = absurd (omega arith)
group_is (a ∷ b ∷ c ∷ more) port long colon is =
    let count : length (a ∷ b ∷ c ∷ more) - 3 ≡ length more = omega arith in
    rw (is, count, take-length more, colon) refl

-- a group that was added stands in front of the others
one_more_group : {A : Type 0} (written : Text → Option (List A)) (before after : List A) (group : Text)
    (others : List Text) → in_front before (written group) ≡ if_read true after
    → in_front after (all_groups written others) ≡ in_front before (all_groups written (group ∷ others))
one_more_group {A} written before after group others e = go (written group) e
  where
    go : (found : Option (List A)) → in_front before found ≡ Some after
        → in_front after (all_groups written others)
        ≡ in_front before
        (option_and_then (λ bytes. option_map (λ more. bytes ++ more) (all_groups written others)) found)
    go None f = cc
    go (Some bytes) f =
        let is : before ++ bytes ≡ after = cc in
        rw (← is) (in_front_twice before bytes (all_groups written others))

-- where a group is none, nothing is read
pub no_group : {A : Type 0} (written : Text → Option (List A)) (before after : List A) (group : Text)
    (others : List Text) → in_front before (written group) ≡ if_read false after
    → in_front before (all_groups written (group ∷ others)) ≡ None
no_group {A} written before after group others e = go (written group) e
  where
    go : (found : Option (List A)) → in_front before found ≡ None
        → in_front before
        (option_and_then (λ bytes. option_map (λ more. bytes ++ more) (all_groups written others)) found)
        ≡ None
    go None f = refl
    go (Some bytes) f = cc

-- where no group is left, all was read
pub groups_end : {A : Type 0} (written : Text → Option (List A)) (before : List A)
    → in_front before (all_groups written []) ≡ Some before
groups_end written before = ap Some (append-nil before)

-- a step over two letters that write a byte
pub pair_step : (before after : List InputByte) (port byte : ℕ) (rest : Text) → 2 ≤ length rest
    → Some byte ≡ byte_of (get_or rest 0 0) (get_or rest 1 0)
    → after ≡ before ++ record { port = port; byte = byte } ∷ []
    → in_front after (bytes_for port (take (length rest - 2) (drop 2 rest)))
    ≡ in_front before (bytes_for port rest)
pair_step before after port byte [] two e is = absurd (omega arith)
pair_step before after port byte (lone ∷ []) two e is = absurd (omega arith)
pair_step before after port byte (high ∷ low ∷ more) two e is =
    let count : length (high ∷ low ∷ more) - 2 ≡ length more = omega arith in
    rw (is, count, take-length more) (one_more before port byte high low more e)

-- a step over a group
pub group_step : {A : Type 0} (written : Text → Option (List A)) (before after : List A) (d : Bor Text)
    (group : Text) (rest : List (Bor Text)) (is_read : Bool) → 1 ≤ length rest
    → group ≡ (get_or rest 0 d).now → in_front before (written group) ≡ if_read is_read after → is_read ≡ true
    → in_front after (all_groups written (map (λ g. g.now) (take (length rest - 1) (drop 1 rest))))
    ≡ in_front before (all_groups written (map (λ g. g.now) rest))
group_step written before after d group [] is_read one is e all = absurd (omega arith)
group_step written before after d group (g ∷ more) is_read one is e all =
    let count : length (g ∷ more) - 1 ≡ length more = omega arith in
    rw (count, take-length more) (one_more_group written before after g.now (map (λ (x : Bor Text). x.now) more) (rw (is, all) at e))
