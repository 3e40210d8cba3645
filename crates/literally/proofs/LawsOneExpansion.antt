-- What follows from the definitions: a list of words has at most one expansion, and none where it has a fault.
use Rattle.literally.proofs.Prelude.{◌≡◌, ℕ, ◌+◌, ◌<◌, ◌≤◌, List, [], ◌∷◌, ◌++◌, map, reverse, None, Some, IfSome, true, false, refl, sym, ap, ◌∙◌, subst, arith, TextFault, Lexeme, Spells, IsFirstFault, one_reading, DEEPEST, MOST_WORDS, Fault, in_force, definition_by, has_quote, at_use, Becomes, no_words, stays, replaced, IsTooDeep, too_deep, deeper, later_word, ProcessesAtLeast, none_yet, word_then, text_then, is_defined_again, IsSound, IsSoundText, ExpandsFrom, at_end, after_word, FaultFrom, defined_again, quote_in_text, bad_text, depth_passed, count_passed, fault_after_word}

module _ (output : List Lexeme) where
  -- how words with a first one become others
  data Turns (depth : ℕ) (word : Lexeme) (words now : List Lexeme) (count : ℕ) : Type 0 where
    stayed : {back : List Lexeme} {more : ℕ}
        → in_force output word ≡ None
        → Becomes output depth words back more
        → now ≡ word ∷ back
        → count ≡ 1 + more
        → Turns depth word words now count
    gone : {text : List ℕ} {inner front back : List Lexeme} {some more : ℕ}
        → in_force output word ≡ Some text
        → Spells text inner
        → depth < DEEPEST
        → Becomes output (depth + 1) (map (at_use word) inner) front some
        → Becomes output depth words back more
        → now ≡ front ++ back
        → count ≡ 1 + some + more
        → Turns depth word words now count

  turns : {depth count : ℕ} {all now : List Lexeme} (word : Lexeme) (words : List Lexeme)
      → Becomes output depth all now count
      → all ≡ word ∷ words
      → Turns depth word words now count
  turns word words no_words is = absurd (cc)
  turns word words
      (stays {depth = depth} {count = count} {word = first} {words = others} {now = now} none rest) is =
      let same : first ≡ word = cc in
      let after : others ≡ words = cc in
      stayed (subst (λ w. in_force output w ≡ None) same none)
      (subst (λ ws. Becomes output depth ws now count) after rest) (ap (λ w. w ∷ now) same) refl
  turns word words
      (replaced {depth = depth} {count = some} {more = more} {text = text} {word = first} {inner = inner}
      {words = others} {front = front} {back = back} there spells room inside rest) is =
      let same : first ≡ word = cc in
      let after : others ≡ words = cc in
      gone (subst (λ w. in_force output w ≡ Some text) same there) spells room
      (subst (λ w. Becomes output (depth + 1) (map (at_use w) inner) front some) same inside)
      (subst (λ ws. Becomes output depth ws back more) after rest) refl refl

  nothing : {depth count : ℕ} {all now : List Lexeme}
      → Becomes output depth all now count
      → all ≡ []
      → (now ≡ []) × (count ≡ 0)
  nothing no_words is = (refl, refl)
  nothing (stays none rest) is = absurd (cc)
  nothing (replaced there spells room inside rest) is = absurd (cc)

  -- a text spells one list of words
  one_text : (word : Lexeme) (text other : List ℕ) (inner others : List Lexeme)
      → in_force output word ≡ Some text
      → in_force output word ≡ Some other
      → Spells text inner
      → Spells other others
      → inner ≡ others
  one_text word text other inner others is also spells likewise =
      let same : other ≡ text = cc in
      (one_reading text).one_spelling inner others spells (subst (λ t. Spells t others) same likewise)

  -- words become just one list, with one count
  abbrev pub IsOnly : ℕ → List Lexeme → List Lexeme → ℕ → Type 0
  IsOnly depth words now count =
      (other : List Lexeme) (others : ℕ) → Becomes output depth words other others
      → (now ≡ other) × (count ≡ others)

  stays_once : (depth : ℕ) (word : Lexeme) (words now : List Lexeme) (count : ℕ)
      (other : List Lexeme) (others : ℕ)
      → in_force output word ≡ None
      → IsOnly depth words now count
      → Turns depth word words other others
      → (word ∷ now ≡ other) × (1 + count ≡ others)
  stays_once depth word words now count other others none only
      (stayed {back = back} {more = more} also rest is counted) =
      let same = only back more rest in
      (ap (λ words. word ∷ words) same.0 ∙ sym is, omega (arith, same.1))
  stays_once depth word words now count other others none only
      (gone there spells room inside rest is counted) = absurd (cc)

  gone_once : (depth : ℕ) (word : Lexeme) (words inner front back : List Lexeme) (text : List ℕ)
      (some more : ℕ) (other : List Lexeme) (others : ℕ)
      → in_force output word ≡ Some text
      → Spells text inner
      → IsOnly (depth + 1) (map (at_use word) inner) front some
      → IsOnly depth words back more
      → Turns depth word words other others
      → (front ++ back ≡ other) × (1 + some + more ≡ others)
  gone_once depth word words inner front back text some more other others there spells only_front only_back
      (stayed none rest is counted) = absurd (cc)
  gone_once depth word words inner front back text some more other others there spells only_front only_back
      (gone {text = again} {inner = likewise} {front = ahead} {back = after} {some = first} {more = second}
      also spelled room inside rest is counted) =
      let same : likewise ≡ inner = sym (one_text word text again inner likewise there also spells spelled) in
      let fronts =
      only_front ahead first
      (subst (λ words. Becomes output (depth + 1) (map (at_use word) words) ahead first) same inside) in
      let backs = only_back after second rest in
      (ap (λ words. words ++ back) fronts.0 ∙ ap (λ words. ahead ++ words) backs.0 ∙ sym is, omega (arith, fronts.1, backs.1))

  pub one_becomes : {depth count : ℕ} {words now : List Lexeme}
      → Becomes output depth words now count
      → IsOnly depth words now count
  one_becomes no_words other others second = let none = nothing second refl in (sym none.0, sym none.1)
  one_becomes (stays {depth = depth} {count = count} {word = word} {words = words} {now = now} none rest)
      other others second =
      stays_once depth word words now count other others none (one_becomes rest)
      (turns word words second refl)
  one_becomes
      (replaced {depth = depth} {count = some} {more = more} {text = text} {word = word} {inner = inner}
      {words = words} {front = front} {back = back} there spells room inside rest) other others second =
      gone_once depth word words inner front back text some more other others there spells
      (one_becomes inside) (one_becomes rest) (turns word words second refl)

  -- words with a use that is too deep become nothing
  abbrev IsNever : ℕ → List Lexeme → Type 0
  IsNever depth words = (now : List Lexeme) (count : ℕ) → Becomes output depth words now count → ⊥

  full_never : (word : Lexeme) (words now : List Lexeme) (count : ℕ) (text : List ℕ)
      → in_force output word ≡ Some text
      → Turns DEEPEST word words now count
      → ⊥
  full_never word words now count text there (stayed none rest is counted) = cc
  full_never word words now count text there (gone also spells room inside rest is counted) =
      omega (arith, room)

  deeper_never : (depth : ℕ) (word : Lexeme) (words inner now : List Lexeme) (count : ℕ) (text : List ℕ)
      → in_force output word ≡ Some text
      → Spells text inner
      → IsNever (depth + 1) (map (at_use word) inner)
      → Turns depth word words now count
      → ⊥
  deeper_never depth word words inner now count text there spells never (stayed none rest is counted) = cc
  deeper_never depth word words inner now count text there spells never
      (gone {text = again} {inner = likewise} {front = ahead} {some = first} also spelled room
      inside rest is counted) =
      let same : likewise ≡ inner = sym (one_text word text again inner likewise there also spells spelled) in
      never ahead first
      (subst (λ words. Becomes output (depth + 1) (map (at_use word) words) ahead first) same inside)

  later_never : (depth : ℕ) (word : Lexeme) (words now : List Lexeme) (count : ℕ)
      → IsNever depth words
      → Turns depth word words now count
      → ⊥
  later_never depth word words now count never (stayed {back = back} {more = more} none rest is counted) =
      never back more rest
  later_never depth word words now count never
      (gone {back = back} {more = more} also spells room inside rest is counted) = never back more rest

  never_too_deep : {depth : ℕ} {words : List Lexeme} → IsTooDeep output depth words → IsNever depth words
  never_too_deep (too_deep {text = text} {word = word} {words = words} there) now count becomes =
      full_never word words now count text there (turns word words becomes refl)
  never_too_deep
      (deeper {depth = depth} {text = text} {word = word} {inner = inner} {words = words} there spells deep)
      now count becomes =
      deeper_never depth word words inner now count text there spells (never_too_deep deep)
      (turns word words becomes refl)
  never_too_deep (later_word {depth = depth} {word = word} {words = words} deep) now count becomes =
      later_never depth word words now count (never_too_deep deep) (turns word words becomes refl)

  -- the words processed in part are no more than those of the whole
  abbrev IsWithin : ℕ → List Lexeme → ℕ → Type 0
  IsWithin depth words some =
      (now : List Lexeme) (count : ℕ) → Becomes output depth words now count → some ≤ count

  word_within : (depth : ℕ) (word : Lexeme) (words now : List Lexeme) (some count : ℕ)
      → IsWithin depth words some
      → Turns depth word words now count
      → 1 + some ≤ count
  word_within depth word words now some count within
      (stayed {back = back} {more = more} none rest is counted) = omega (arith, within back more rest)
  word_within depth word words now some count within
      (gone {back = back} {more = more} also spells room inside rest is counted) =
      omega (arith, within back more rest)

  text_within : (depth : ℕ) (word : Lexeme) (words inner now : List Lexeme)
      (some more count : ℕ) (text : List ℕ)
      → in_force output word ≡ Some text
      → Spells text inner
      → IsWithin (depth + 1) (map (at_use word) inner) some
      → IsWithin depth words more
      → Turns depth word words now count
      → 1 + some + more ≤ count
  text_within depth word words inner now some more count text there spells within others
      (stayed none rest is counted) = absurd (cc)
  text_within depth word words inner now some more count text there spells within others
      (gone {text = again} {inner = likewise} {front = ahead} {back = back} {some = first} {more = second}
      also spelled room inside rest is counted) =
      let same : likewise ≡ inner = sym (one_text word text again inner likewise there also spells spelled) in
      let front =
      within ahead first
      (subst (λ words. Becomes output (depth + 1) (map (at_use word) words) ahead first) same inside) in
      omega (arith, front, others back second rest)

  processed_within : {depth some : ℕ} {words : List Lexeme}
      → ProcessesAtLeast output depth words some
      → IsWithin depth words some
  processed_within none_yet now count becomes = omega arith
  processed_within (word_then {depth = depth} {count = some} {word = word} {words = words} takes) now count
      becomes =
      word_within depth word words now some count (processed_within takes) (turns word words becomes refl)
  processed_within
      (text_then {depth = depth} {count = some} {more = more} {text = text} {word = word} {inner = inner}
      {words = words} there spells takes others) now count becomes =
      text_within depth word words inner now some more count text there spells (processed_within takes)
      (processed_within others) (turns word words becomes refl)

-- what a first word does to an output
record Step (output : List Lexeme) (processed : ℕ) (word : Lexeme) (words whole : List Lexeme) : Type 0 where
  now : List Lexeme
  count : ℕ
  once : is_defined_again output word words ≡ false
  sound : IsSound output word
  becomes : Becomes output 0 (word ∷ []) now count
  room : processed + count ≤ MOST_WORDS
  rest : ExpandsFrom (output ++ now) (processed + count) words whole

step : {output all whole : List Lexeme} {processed : ℕ} (word : Lexeme) (words : List Lexeme)
    → ExpandsFrom output processed all whole
    → all ≡ word ∷ words
    → Step output processed word words whole
step word words at_end is = absurd (cc)
step word words
    (after_word {output = output} {words = others} {now = now} {whole = whole} {processed = processed}
    {count = count} {word = first} once sound becomes room rest) is =
    let same : first ≡ word = cc in
    let after : others ≡ words = cc in
    record {
      now = now;
      count = count;
      once = subst (λ w. is_defined_again output w words ≡ false) same
          (subst (λ ws. is_defined_again output first ws ≡ false) after once);
      sound = subst (IsSound output) same sound;
      becomes = subst (λ w. Becomes output 0 (w ∷ []) now count) same becomes;
      room = room;
      rest = subst (λ ws. ExpandsFrom (output ++ now) (processed + count) ws whole) after rest;
    }

ended : {output all whole : List Lexeme} {processed : ℕ}
    → ExpandsFrom output processed all whole
    → all ≡ []
    → whole ≡ output
ended at_end is = refl
ended (after_word once sound becomes room rest) is = absurd (cc)

-- what another step makes of the same word is the same
rest_of : (output : List Lexeme) (processed : ℕ) (word : Lexeme) (words whole now : List Lexeme) (count : ℕ)
    → Becomes output 0 (word ∷ []) now count
    → Step output processed word words whole
    → ExpandsFrom (output ++ now) (processed + count) words whole
rest_of output processed word words whole now count becomes other =
    let same = one_becomes output other.becomes now count becomes in
    subst (λ n. ExpandsFrom (output ++ now) (processed + n) words whole) same.1
    (subst (λ w. ExpandsFrom (output ++ w) (processed + other.count) words whole) same.0 other.rest)

pub one_whole : {output words one other : List Lexeme} {processed : ℕ}
    → ExpandsFrom output processed words one
    → ExpandsFrom output processed words other
    → one ≡ other
one_whole at_end second = sym (ended second refl)
one_whole {other = other}
    (after_word {output = output} {words = words} {now = now} {processed = processed} {count = count}
    {word = word} once sound becomes room rest) second =
    one_whole rest (rest_of output processed word words other now count becomes (step word words second refl))

-- a sound definition has no fault
sound_quote : (output : List Lexeme) (word : Lexeme) (name text : List ℕ)
    → definition_by word (reverse output) ≡ Some (name, text)
    → has_quote text ≡ true
    → IsSound output word
    → ⊥
sound_quote output word name text is quote sound =
    let fact = subst (λ definition. IfSome definition (λ d. IsSoundText d.1)) is sound in
    let free : has_quote text ≡ false = fact.0 in
    cc

sound_text : (output : List Lexeme) (word : Lexeme) (name text : List ℕ) (fault : TextFault)
    → definition_by word (reverse output) ≡ Some (name, text)
    → IsFirstFault text fault
    → IsSound output word
    → ⊥
sound_text output word name text fault is first sound =
    let fact = subst (λ definition. IfSome definition (λ d. IsSoundText d.1)) is sound in
    (one_reading text).not_both fact.1.0 fault fact.1.1 first

pub not_both : {output words whole : List Lexeme} {processed : ℕ} {fault : Fault}
    → FaultFrom output processed words fault
    → ExpandsFrom output processed words whole
    → ⊥
not_both (defined_again {words = words} {word = word} again) expands =
    let other = step word words expands refl in let once = other.once in cc
not_both (quote_in_text {output = output} {words = words} {word = word} {name = name} {text = text} is quote)
    expands = sound_quote output word name text is quote (step word words expands refl).sound
not_both
    (bad_text {output = output} {words = words} {word = word} {name = name} {text = text} {fault = fault} is
    free first) expands = sound_text output word name text fault is first (step word words expands refl).sound
not_both (depth_passed {output = output} {words = words} {word = word} deep) expands =
    let other = step word words expands refl in never_too_deep output deep other.now other.count other.becomes
not_both
    (count_passed {output = output} {words = words} {processed = processed} {more = more} {word = word}
    takes over) expands =
    let other = step word words expands refl in
    let within : more ≤ other.count = processed_within output takes other.now other.count other.becomes in
    omega (arith, within, over, other.room)
not_both {whole = whole}
    (fault_after_word {output = output} {words = words} {now = now} {processed = processed} {more = more}
    {word = word} once sound becomes room rest) expands =
    not_both rest (rest_of output processed word words whole now more becomes (step word words expands refl))
