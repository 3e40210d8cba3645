-- Each list of words has an expansion or a fault.
use Rattle.literally.proofs.Prelude.{◌≡◌, ℕ, zero, suc, ◌+◌, ◌<◌, ◌≤◌, ◌⊎◌, inl, inr, List, [], ◌∷◌, ◌++◌, map, reverse, Bool, true, false, cond, Option, None, Some, refl, sym, ◌∙◌, subst, arith, leb_tells, IfSome, bytes_eq, name_of, TextFault, Lexeme, Spells, IsFirstFault, one_reading, DEEPEST, MOST_WORDS, Fault, in_force, definition_by, has_quote, text_in, text_if, at_use, Becomes, no_words, stays, replaced, IsTooDeep, too_deep, deeper, later_word, ProcessesAtLeast, none_yet, word_then, text_then, is_defined_again, IsSound, IsSoundText, ExpandsFrom, at_end, after_word, FaultFrom, defined_again, quote_in_text, bad_text, depth_passed, count_passed, fault_after_word}
use Rattle.literally.proofs.LawsOneExpansion.{one_becomes}
use Rattle.literally.proofs.DefinitionsNoStrings.{becomes_no_string}
use Rattle.literally.proofs.DefinitionsInForce.{text_in_push, text_in_after, name_in_force, text_in_force}

-- each text in force is sound
abbrev AreTexts : List Lexeme → Type 0
AreTexts output = (word : Lexeme) (text : List ℕ) → in_force output word ≡ Some text → IsSoundText text

module _ (output : List Lexeme) (texts : AreTexts output) where
  abbrev Comes : ℕ → List Lexeme → Type 0
  Comes depth words =
      ((now : List Lexeme) × (count : ℕ) × Becomes output depth words now count)
      ⊎ IsTooDeep output depth words

  -- what a use is replaced by
  abbrev Gives : ℕ → Lexeme → List ℕ → Type 0
  Gives depth word text =
      ((inner : List Lexeme) × (front : List Lexeme) × (some : ℕ) × Spells text inner × (depth < DEEPEST)
      × Becomes output (depth + 1) (map (at_use word) inner) front some)
      ⊎ ((words : List Lexeme) → IsTooDeep output depth (word ∷ words))

  comes_after : (depth : ℕ) (word : Lexeme) (words : List Lexeme) (text : List ℕ)
      → in_force output word ≡ Some text
      → Gives depth word text
      → Comes depth words
      → Comes depth (word ∷ words)
  comes_after depth word words text is gives (inr deep) = inr (later_word deep)
  comes_after depth word words text is (inl front) (inl back) =
      inl (front.1 ++ back.0, 1 + front.2 + back.1, replaced is front.3 front.4 front.5 back.2)
  comes_after depth word words text is (inr deep) (inl back) = inr (deep words)

  comes_kept : (depth : ℕ) (word : Lexeme) (words : List Lexeme)
      → in_force output word ≡ None
      → Comes depth words
      → Comes depth (word ∷ words)
  comes_kept depth word words none (inl back) = inl (word ∷ back.0, 1 + back.1, stays none back.2)
  comes_kept depth word words none (inr deep) = inr (later_word deep)

  comes_word : (depth : ℕ) (word : Lexeme) (words : List Lexeme) (found : Option (List ℕ))
      → in_force output word ≡ found
      → ((text : List ℕ) → in_force output word ≡ Some text → Gives depth word text)
      → Comes depth words
      → Comes depth (word ∷ words)
  comes_word depth word words None is gives back = comes_kept depth word words is back
  comes_word depth word words (Some text) is gives back =
      comes_after depth word words text is (gives text is) back

  comes_all : (depth : ℕ)
      → ((word : Lexeme) (text : List ℕ) → in_force output word ≡ Some text → Gives depth word text)
      → (words : List Lexeme)
      → Comes depth words
  comes_all depth gives [] = inl ([], 0, no_words)
  comes_all depth gives (word ∷ words) =
      comes_word depth word words (in_force output word) refl (gives word) (comes_all depth gives words)

  gives_inside : (depth : ℕ) (word : Lexeme) (text : List ℕ) (inner : List Lexeme)
      → in_force output word ≡ Some text
      → Spells text inner
      → depth < DEEPEST
      → Comes (depth + 1) (map (at_use word) inner)
      → Gives depth word text
  gives_inside depth word text inner is spells room (inl front) =
      inl (inner, front.0, front.1, spells, room, front.2)
  gives_inside depth word text inner is spells room (inr deep) = inr (λ words. deeper is spells deep)

  -- by the depths that are left
  comes : (room depth : ℕ) → depth + room ≡ DEEPEST → (words : List Lexeme) → Comes depth words
  comes zero depth full =
      comes_all depth
      (λ word text is. inr (λ words. let same : DEEPEST ≡ depth = omega arith in subst (λ d. IsTooDeep output
      d (word ∷ words)) same (too_deep is)))
  comes (suc room) depth left =
      let inside : depth + 1 + room ≡ DEEPEST = omega arith in
      let below : depth < DEEPEST = omega arith in
      comes_all depth
      (λ word text is. let spelled = texts word text is in gives_inside depth word text spelled.1.0 is
      spelled.1.1 below (comes room (depth + 1) inside (map (at_use word) spelled.1.0)))

-- what words become is processed
processes_all : {output : List Lexeme} {depth count : ℕ} {words now : List Lexeme}
    → Becomes output depth words now count
    → ProcessesAtLeast output depth words count
processes_all no_words = none_yet
processes_all (stays none rest) = word_then (processes_all rest)
processes_all (replaced is spells room inside rest) =
    text_then is spells (processes_all inside) (processes_all rest)

-- each text that an output defines is sound
abbrev Defines : List Lexeme → Type 0
Defines output = (name text : List ℕ) → text_in name (reverse output) ≡ Some text → IsSoundText text

texts_in_force : (output : List Lexeme) → Defines output → AreTexts output
texts_in_force output defines word text is =
    defines (name_of word.text) text (text_in_force output word text is)

-- after a word that stays
defines_push : (output : List Lexeme) (word : Lexeme)
    → Defines output
    → IsSound output word
    → Defines (output ++ word ∷ [])
defines_push output word defines sound name text is =
    by (definition_by word (reverse output)) sound (sym (text_in_push name output word) ∙ is)
  where
    if_same : (b : Bool) (definition : List ℕ)
        → IsSoundText definition
        → cond b (Some definition) (text_in name (reverse output)) ≡ Some text
        → IsSoundText text
    if_same true definition fact there = let same : definition ≡ text = cc in subst IsSoundText same fact
    if_same false definition fact there = defines name text there

    by : (definition : Option (List ℕ × List ℕ))
        → IfSome definition (λ d. IsSoundText d.1)
        → text_if name definition (text_in name (reverse output)) ≡ Some text
        → IsSoundText text
    by None fact there = defines name text there
    by (Some definition) fact there = if_same (bytes_eq name definition.0) definition.1 fact there

-- after any word
defines_after : (output now : List Lexeme) (word : Lexeme) (count : ℕ) (found : Option (List ℕ))
    → in_force output word ≡ found
    → Defines output
    → IsSound output word
    → Becomes output 0 (word ∷ []) now count
    → Defines (output ++ now)
defines_after output now word count None is defines sound becomes =
    let only = one_becomes output (stays is no_words) now count becomes in
    subst (λ words. Defines (output ++ words)) only.0 (defines_push output word defines sound)
defines_after output now word count (Some text) is defines sound becomes =
    let none =
    becomes_no_string (λ w t at. (texts_in_force output defines w t at).0)
    (name_in_force output word text is, tt) becomes in
    (λ name other there. defines name other (sym (text_in_after name output now none) ∙ there))

-- the definition that a word completes is sound, or a fault
abbrev Fails : List Lexeme → ℕ → List Lexeme → Type 0
Fails output processed words = (fault : Fault) × FaultFrom output processed words fault

sound_or_fails : (output : List Lexeme) (processed : ℕ) (word : Lexeme) (words : List Lexeme)
    → IsSound output word ⊎ Fails output processed (word ∷ words)
sound_or_fails output processed word words = by (definition_by word (reverse output)) refl
  where
    sound : (definition : Option (List ℕ × List ℕ))
        → definition_by word (reverse output) ≡ definition
        → IfSome definition (λ d. IsSoundText d.1)
        → IsSound output word
    sound definition is fact = subst (λ definition. IfSome definition (λ d. IsSoundText d.1)) (sym is) fact

    reads : (name text : List ℕ)
        → definition_by word (reverse output) ≡ Some (name, text)
        → has_quote text ≡ false
        → ((inner : List Lexeme) × Spells text inner) ⊎ ((fault : TextFault) × IsFirstFault text fault)
        → IsSound output word ⊎ Fails output processed (word ∷ words)
    reads name text is free (inl spelled) = inl (sound (Some (name, text)) is (free, spelled))
    reads name text is free (inr first) = inr (_, bad_text is free first.1)

    quoted : (b : Bool) (name text : List ℕ)
        → definition_by word (reverse output) ≡ Some (name, text)
        → has_quote text ≡ b
        → IsSound output word ⊎ Fails output processed (word ∷ words)
    quoted true name text is holds = inr (_, quote_in_text is holds)
    quoted false name text is free = reads name text is free (one_reading text).some

    by : (definition : Option (List ℕ × List ℕ))
        → definition_by word (reverse output) ≡ definition
        → IsSound output word ⊎ Fails output processed (word ∷ words)
    by None is = inl (sound None is tt)
    by (Some definition) is = quoted (has_quote definition.1) definition.0 definition.1 is refl

abbrev Goes : List Lexeme → ℕ → List Lexeme → Type 0
Goes output processed words =
    ((whole : List Lexeme) × ExpandsFrom output processed words whole) ⊎ Fails output processed words

-- what a word becomes leads on, or is a fault
goes_word : (output : List Lexeme) (processed : ℕ) (word : Lexeme) (words : List Lexeme)
    → Defines output
    → ((now : List Lexeme) (count : ℕ) → Defines (output ++ now)
    → Goes (output ++ now) (processed + count) words)
    → Goes output processed (word ∷ words)
goes_word output processed word words defines rest = again (is_defined_again output word words) refl
  where
    on : (now : List Lexeme) (count : ℕ)
        → is_defined_again output word words ≡ false
        → IsSound output word
        → Becomes output 0 (word ∷ []) now count
        → processed + count ≤ MOST_WORDS
        → Goes (output ++ now) (processed + count) words
        → Goes output processed (word ∷ words)
    on now count once sound becomes room (inl whole) =
        inl (whole.0, after_word once sound becomes room whole.1)
    on now count once sound becomes room (inr fails) =
        inr (fails.0, fault_after_word once sound becomes room fails.1)

    counted : (now : List Lexeme) (count : ℕ)
        → is_defined_again output word words ≡ false
        → IsSound output word
        → Becomes output 0 (word ∷ []) now count
        → (processed + count ≤ MOST_WORDS) ⊎ (MOST_WORDS < processed + count)
        → Goes output processed (word ∷ words)
    counted now count once sound becomes (inl room) =
        on now count once sound becomes room
        (rest now count (defines_after output now word count (in_force output word) refl
        defines sound becomes))
    counted now count once sound becomes (inr over) = inr (_, count_passed (processes_all becomes) over)

    fits : (a b : ℕ) → (a ≤ b) ⊎ (b < a)
    fits a b = side (leb_tells a b)
      where
        side : {P Q : Type 0} → (P × (a ≤ b)) ⊎ (Q × (b < a)) → (a ≤ b) ⊎ (b < a)
        side (inl within) = inl within.1
        side (inr over) = inr over.1

    becomes : is_defined_again output word words ≡ false
        → IsSound output word
        → Comes output (texts_in_force output defines) 0 (word ∷ [])
        → Goes output processed (word ∷ words)
    becomes once sound (inl now) = counted now.0 now.1 once sound now.2 (fits (processed + now.1) MOST_WORDS)
    becomes once sound (inr deep) = inr (_, depth_passed deep)

    sounds : is_defined_again output word words ≡ false
        → IsSound output word ⊎ Fails output processed (word ∷ words)
        → Goes output processed (word ∷ words)
    sounds once (inl sound) =
        becomes once sound (comes output (texts_in_force output defines) DEEPEST 0 (omega arith) (word ∷ []))
    sounds once (inr fails) = inr fails

    again : (b : Bool) → is_defined_again output word words ≡ b → Goes output processed (word ∷ words)
    again true is = inr (_, defined_again is)
    again false is = sounds is (sound_or_fails output processed word words)

pub expands_or_fails : (words output : List Lexeme) (processed : ℕ) → Defines output
    → Goes output processed words
expands_or_fails [] output processed defines = inl (output, at_end)
expands_or_fails (word ∷ words) output processed defines = goes_word output processed word words defines (λ now count after. expands_or_fails words (output ++ now) (processed + count) after)
