-- What the counter gives, and what a read does to its count.
use Rattle.example_libraries.proofs.Prelude.{◌≡◌, ◌≢◌, ℕ, ◌+◌, ◌<◌, ◌≤◌, ◌⊎◌, min, List, [], ◌∷◌, ◌++◌, get_or, inl, inr, arith, get_or-range_with_len, length-range_with_len, get_or_past, cases_lt, common_steps, range_with_len, Event, read_event, input_value, reads_of, counter_script}

-- the numbers from 0 on, and 255 past their end
at_most_255 : (n : ℕ) → (n < 255) ⊎ (255 ≤ n) → min n 255 ≡ get_or (range_with_len 0 255) n 255
at_most_255 n (inl below) =
    let e : get_or (range_with_len 0 255) n 255 ≡ 0 + n = get_or-range_with_len 0 255 n 255 below in
    omega (arith, e)
at_most_255 n (inr past) =
    let e : get_or (range_with_len 0 255) n 255 ≡ 255 =
    get_or_past (range_with_len 0 255) n 255 (rw length-range_with_len past) in
    omega (arith, e)

-- the counter gives the number of its reads, up to 255
pub counter_gives :
    (events : List Event) (count port : ℕ)
    → count ≡ min (reads_of events 1) 255
    → port ≡ 1
    → count ≡ input_value counter_script events port
counter_gives events count port counted is =
    rw (is, counted) (at_most_255 (reads_of events 1) (cases_lt _ _))

-- nothing else is there to read
pub other_gives :
    (events : List Event) (port : ℕ)
    → port ≢ 1
    → 255 ≡ input_value counter_script events port
other_gives events port other = grind (arith, common_steps)

-- a read of the counter counts
pub counts_read :
    (events : List Event) (count port value : ℕ)
    → count ≡ min (reads_of events 1) 255
    → port ≡ 1
    → min (count + 1) 255 ≡ min (reads_of (events ++ read_event port value ∷ []) 1) 255
counts_read events count port value counted is = grind (arith, common_steps)

-- no other read does
pub counts_no_other :
    (events : List Event) (count port value : ℕ)
    → count ≡ min (reads_of events 1) 255
    → port ≢ 1
    → count ≡ min (reads_of (events ++ read_event port value ∷ []) 1) 255
counts_no_other events count port value counted other = grind (arith, common_steps)

pub ruleset counter = (counter_gives, other_gives, counts_read, counts_no_other)
