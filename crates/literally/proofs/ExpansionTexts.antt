-- The texts that wait to be processed for a use, the innermost first.
use Rattle.literally.proofs.Prelude.{◌≡◌, ℕ, ◌+◌, ◌-◌, ◌<◌, ◌≤◌, List, [], ◌∷◌, ◌++◌, length, get_or, take, drop, map, reverse, None, Some, refl, sym, ap, ◌∙◌, subst, arith, append-nil, append_assoc, map-append, reverse-append, length-reverse, length-map, take_all, length_push, Word, Lexeme, lexeme_of, lexemes_of, Spells, DEEPEST, MOST_WORDS, Count, in_force, at_use, Becomes, no_words, stays, replaced, IsTooDeep, too_deep, deeper, later_word, ProcessesAtLeast, none_yet, word_then, text_then, count_passed, IsFaultAt}

sums : (a b c : ℕ) → a + (1 + b + c) ≡ a + 1 + b + c
sums a b c = omega arith

module _ (output : List Lexeme) (processed : ℕ) (used : Lexeme) where
  -- what the texts become, the innermost first, completes what the use becomes
  abbrev pub Finishes : List (List Lexeme) → List Lexeme → ℕ → Type 0
  Finishes [] whole count =
      (now : List Lexeme) × (more : ℕ) × Becomes output 0 (used ∷ []) now more × (whole ≡ output ++ now)
      × (count ≡ processed + more)
  Finishes (words ∷ below) whole count =
      (now : List Lexeme) (more : ℕ) → Becomes output (length below + 1) words now more
      → Finishes below (whole ++ now) (count + more)

  -- a use that is too deep in one of them is too deep in the use
  abbrev pub Deepens : List (List Lexeme) → Type 0
  Deepens [] = Unit {0}
  Deepens (words ∷ below) =
      (IsTooDeep output (length below + 1) words → IsTooDeep output 0 (used ∷ [])) × Deepens below

  -- the words that they process are counted with those that the use has processed
  abbrev pub Counts : List (List Lexeme) → ℕ → Type 0
  Counts [] count = (more : ℕ) × ProcessesAtLeast output 0 (used ∷ []) more × (count ≡ processed + more)
  Counts (words ∷ below) count =
      (more : ℕ) → ProcessesAtLeast output (length below + 1) words more → Counts below (count + more)

  pub record Waits (stack : List (List Lexeme)) (whole : List Lexeme) (count : ℕ) : Type 0 where
    pub finishes : Finishes stack whole count
    pub deepens : Deepens stack
    pub counts : Counts stack count

  finishes_along : (stack : List (List Lexeme)) (whole other : List Lexeme) (count more : ℕ)
      → whole ≡ other
      → count ≡ more
      → Finishes stack whole count
      → Finishes stack other more
  finishes_along stack whole other count more same as_many finishes =
      subst (Finishes stack other) as_many (subst (λ w. Finishes stack w count) same finishes)

  -- the use is processed, and its text waits
  pub waits_first : (text : List ℕ) (inner : List Lexeme)
      → in_force output used ≡ Some text
      → Spells text inner
      → Waits (map (at_use used) inner ∷ []) output (processed + 1)
  waits_first text inner is spells = record {
    finishes =
        λ now more becomes. (now ++ [], 1 + more + 0, replaced is spells (omega arith) becomes no_words, ap (λ w. output ++ w) (sym (append-nil now)), omega arith);
    deepens = (λ deep. deeper is spells deep, tt);
    counts = λ more takes. (1 + more + 0, text_then is spells takes none_yet, omega arith);
  }

  -- a text of which nothing is left is done
  pub waits_empty : (below : List (List Lexeme)) (whole : List Lexeme) (count : ℕ)
      → Waits ([] ∷ below) whole count
      → Waits below whole count
  waits_empty below whole count waits = record {
    finishes =
        finishes_along below (whole ++ []) whole (count + 0) count (append-nil whole) (omega arith)
        (waits.finishes [] 0 no_words);
    deepens = waits.deepens.1;
    counts = subst (Counts below) (omega arith) (waits.counts 0 none_yet);
  }

  -- the words that the use has processed
  processed_now : (stack : List (List Lexeme)) (count : ℕ)
      → Counts stack count
      → (more : ℕ) × ProcessesAtLeast output 0 (used ∷ []) more × (count ≡ processed + more)
  processed_now [] count counts = counts
  processed_now (words ∷ below) count counts =
      let same : count + 0 ≡ count = omega arith in
      processed_now below count (subst (Counts below) same (counts 0 none_yet))

  module _ (word : Lexeme) (words : List Lexeme) (below : List (List Lexeme)) (whole : List Lexeme)
      (count : ℕ) (waits : Waits ((word ∷ words) ∷ below) whole count) where
    counts_word : Counts (words ∷ below) (count + 1)
    counts_word more takes =
        let same : count + (1 + more) ≡ count + 1 + more = omega arith in
        subst (Counts below) same (waits.counts (1 + more) (word_then takes))

    -- a word that stays
    pub waits_stays : in_force output word ≡ None → Waits (words ∷ below) (whole ++ word ∷ []) (count + 1)
    waits_stays none = record {
      finishes =
          λ now more becomes. finishes_along below (whole ++ (word ∷ now)) ((whole ++ word ∷ []) ++ now)
          (count + (1 + more)) (count + 1 + more) (sym (append_assoc whole (word ∷ []) now)) (omega arith)
          (waits.finishes (word ∷ now) (1 + more) (stays none becomes));
      deepens = (λ deep. waits.deepens.0 (later_word deep), waits.deepens.1);
      counts = counts_word;
    }

    -- a word that is replaced
    pub waits_replaced : (text : List ℕ) (inner : List Lexeme)
        → in_force output word ≡ Some text
        → Spells text inner
        → length below + 1 < DEEPEST
        → Waits (map (at_use word) inner ∷ words ∷ below) whole (count + 1)
    waits_replaced text inner is spells room =
        let deep : length (words ∷ below) + 1 ≡ length below + 1 + 1 = omega arith in
        record {
          finishes =
              λ now more becomes back others rest. finishes_along below (whole ++ (now ++ back))
              ((whole ++ now) ++ back) (count + (1 + more + others)) (count + 1 + more + others)
              (sym (append_assoc whole now back)) (omega arith)
              (waits.finishes (now ++ back) (1 + more + others)
              (replaced is spells room (subst (λ d. Becomes output d (map (at_use word) inner) now more)
              deep becomes) rest));
          deepens =
              (λ too. waits.deepens.0 (deeper is spells (subst (λ d. IsTooDeep output d (map (at_use word) inner)) deep too)), (λ too. waits.deepens.0 (later_word too), waits.deepens.1));
          counts = λ more takes others rest. subst (Counts below) (sums count more others)
              (waits.counts (1 + more + others)
              (text_then is spells (subst (λ d. ProcessesAtLeast output d (map (at_use word) inner) more)
              deep takes) rest));
        }

    -- a word that would be replaced too deep
    pub too_deep_here : (text : List ℕ)
        → in_force output word ≡ Some text
        → length below + 1 ≡ DEEPEST
        → IsTooDeep output 0 (used ∷ [])
    too_deep_here text is full =
        waits.deepens.0 (subst (λ d. IsTooDeep output d (word ∷ words)) (sym full) (too_deep is))

    -- the words that are processed with this word
    pub processed_here : (more : ℕ) × ProcessesAtLeast output 0 (used ∷ []) more
        × (count + 1 ≡ processed + more)
    processed_here = processed_now (words ∷ below) (count + 1) counts_word

-- the same for texts, an output and a count that are equal to these
pub waits_along : (output : List Lexeme) (processed : ℕ) (used : Lexeme) {stack other : List (List Lexeme)}
    {whole longer : List Lexeme} {count more : ℕ}
    → stack ≡ other
    → whole ≡ longer
    → count ≡ more
    → Waits output processed used stack whole count
    → Waits output processed used other longer more
waits_along output processed used {stack} {other} {whole} {longer} {count} {more} same_stack
    same_whole same_count waits =
    subst (λ s. Waits output processed used s longer more) same_stack
    (subst (λ w. Waits output processed used stack w more) same_whole
    (subst (Waits output processed used stack whole) same_count waits))

-- a text put after the others is the first to be processed
pub stack_push : {B : Type 0} (frame : B → List Lexeme) (items longer : List B) (item : B)
    → longer ≡ items ++ item ∷ []
    → reverse (map frame longer) ≡ frame item ∷ reverse (map frame items)
stack_push frame items longer item is =
    ap (λ i. reverse (map frame i)) is ∙ ap reverse (map-append frame items (item ∷ []))
    ∙ reverse-append (map frame items) (frame item ∷ [])

-- a list without an element, and one with a first
pub no_element : {A : Type 0} (items : List A) → length items < 1 → items ≡ []
no_element [] below = refl
no_element (item ∷ items) below = absurd (omega arith)

-- with a word too many words are processed
pub count_here : (output : List Lexeme) (processed : ℕ) (used : Lexeme) (more : ℕ)
    → ProcessesAtLeast output 0 (used ∷ []) more
    → MOST_WORDS < processed + more
    → IsFaultAt output processed used (Count used.start used.line)
count_here output processed used more takes over words = count_passed takes over

-- a list from its first element on
pub first_of : {A : Type 0} (items : List A) (other : A)
    → 1 ≤ length items
    → items ≡ get_or items 0 other ∷ take (length items - 1) (drop 1 items)
first_of [] other some = absurd (omega arith)
first_of (item ∷ items) other some =
    ap (λ rest. item ∷ rest) (sym (take_all (length (item ∷ items) - 1) items (omega arith)))

pub first_is : {A : Type 0} (items : List A) (first : A)
    → 1 ≤ length items
    → first ≡ get_or items 0 first
    → items ≡ first ∷ take (length items - 1) (drop 1 items)
first_is items first some is =
    first_of items first some ∙ ap (λ f. f ∷ take (length items - 1) (drop 1 items)) (sym is)

-- the texts that wait, as the program holds them, the innermost last
module _ {B : Type 0} (now : B → List Word) (output : List Lexeme) (processed : ℕ) (used : Lexeme) where
  abbrev pub frame : B → List Lexeme
  frame text = map (at_use used) (lexemes_of (now text))

  abbrev pub stack : List B → List (List Lexeme)
  stack items = reverse (map frame items)

  -- the innermost, from its first word on
  pub waits_opened : (items popped : List B) (text : B) (word : Word) (rest : List Word)
      (whole : List Lexeme) (count : ℕ)
      → items ≡ popped ++ text ∷ []
      → now text ≡ word ∷ rest
      → Waits output processed used (stack items) whole count
      → Waits output processed used
      ((at_use used (lexeme_of word) ∷ map (at_use used) (lexemes_of rest)) ∷ stack popped) whole count
  waits_opened items popped text word rest whole count is first waits =
      waits_along output processed used
      (stack_push frame popped items text is
      ∙ ap (λ words. map (at_use used) (lexemes_of words) ∷ stack popped) first) refl refl waits

  -- there are as many as the program counts: one more than lie below the innermost
  pub length-stack : (popped pushed : List B) (text : B)
      → pushed ≡ popped ++ text ∷ []
      → length pushed ≡ length (stack popped) + 1
  length-stack popped pushed text is =
      ap length is ∙ length_push popped text
      ∙ ap (λ n. n + 1) (sym (length-reverse (map frame popped) ∙ length-map popped frame))

  -- and as many as before once another stands in place of the innermost
  pub depth_kept : (items popped pushed : List B) (text rest : B)
      → items ≡ popped ++ text ∷ []
      → pushed ≡ popped ++ rest ∷ []
      → length items ≤ DEEPEST
      → length pushed ≤ DEEPEST
  depth_kept items popped pushed text rest before after room =
      omega (arith, ap length before, length_push popped text, ap length after, length_push popped rest)

  pub depth_popped : (items popped : List B) (text : B)
      → items ≡ popped ++ text ∷ []
      → length items ≤ DEEPEST
      → length popped ≤ DEEPEST
  depth_popped items popped text before room = omega (arith, ap length before, length_push popped text)

  pub depth_pushed : (items pushed : List B) (text : B)
      → pushed ≡ items ++ text ∷ []
      → length items < DEEPEST
      → length pushed ≤ DEEPEST
  depth_pushed items pushed text after room = omega (arith, ap length after, length_push items text)
