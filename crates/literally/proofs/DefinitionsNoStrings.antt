-- A text without a quote spells no string.
use Rattle.literally.proofs.Prelude.{◌≡◌, ℕ, zero, suc, length, List, [], ◌∷◌, ◌++◌, drop, map, Bool, true, false, cond, ◌||◌, ◌&&◌, Option, None, Some, eqb, refl, ap, subst, Result, Ok, Err, option_map_or, nat_lt, ◌==◌, slice_index, take_while, is_ascii_alphabetic, is_ascii_digit, Cause, BadCharacter, BadNumber, LongName, Item, Spelled, Wrong, Name, Reserved, Number, Mark, AMark, ReservedWord, LONGEST_NAME, is_blank, is_word_byte, item_at, mark_at, mark_item, name_of, kind_of_name, name_item, reserved_of, comment_end, comment_item, Lexeme, SpellsFrom, after_blank, is_string, has_quote, in_force, at_use, Becomes, no_words, stays, replaced, or_parts}
use Rattle.words.specs.Spelling.{at_end, word_then}

-- an item that is a word is no string
abbrev IsOther : Item → Type 0
IsOther (Spelled kind taken) = is_string kind ≡ false
IsOther item = Unit {0}

record IsNoString (item : Item) : Type 0 where
  other : IsOther item

either : (b : Bool) (x y : Item)
    → (b ≡ true → IsNoString x)
    → (b ≡ false → IsNoString y)
    → IsNoString (cond b x y)
either true x y left right = left refl
either false x y left right = right refl

no_string_of_reserved : (found : Option ReservedWord) → is_string (option_map_or Reserved found Name) ≡ false
no_string_of_reserved None = refl
no_string_of_reserved (Some word) = refl

no_string_of_name : (text : List ℕ) → IsNoString (name_item text)
no_string_of_name text =
    either (nat_lt LONGEST_NAME (length (name_of text))) (Wrong LongName)
    (Spelled (kind_of_name (name_of text)) (length text)) (λ _. record { other = tt })
    (λ _. record { other = no_string_of_reserved (reserved_of (name_of text)) })

no_string_of_number : (found : Option ℕ) (taken : ℕ)
    → IsNoString (option_map_or (λ value. Spelled (Number value) taken) found (Wrong BadNumber))
no_string_of_number None taken = record { other = tt }
no_string_of_number (Some value) taken = record { other = refl }

no_string_of_comment : (end : Result ℕ Cause) → IsNoString (comment_item end)
no_string_of_comment (Ok taken) = record { other = tt }
no_string_of_comment (Err cause) = record { other = tt }

no_string_of_mark : (found : Option (List ℕ × AMark))
    → IsNoString (option_map_or (λ mark. Spelled (Mark mark.1) (length mark.0)) found (Wrong BadCharacter))
no_string_of_mark None = record { other = tt }
no_string_of_mark (Some mark) = record { other = refl }

no_quote_first : (first : ℕ) (text : List ℕ) → has_quote (first ∷ text) ≡ false → eqb first 39 ≡ true → ⊥
no_quote_first first text free quote =
    let both : has_quote (first ∷ text) ≡ true = ap (λ b. b || has_quote text) quote in
    cc

no_string_at : (text : List ℕ) → has_quote text ≡ false → IsNoString (item_at text)
no_string_at [] free = record { other = tt }
no_string_at (first ∷ text) free =
    either (is_blank first) _ _ (λ _. record { other = tt })
    (λ _. either (is_ascii_alphabetic first) _ _
    (λ _. no_string_of_name (take_while is_word_byte (first ∷ text)))
    (λ _. either (is_ascii_digit first) _ _ (λ _. no_string_of_number _ _)
    (λ _. either (eqb first 39) _ _ (λ quote. absurd (no_quote_first first text free quote))
    (λ _. either ((first == 47) && (slice_index text 0 == 42))
    (comment_item (comment_end false (drop 1 text))) (mark_item (first ∷ text))
    (λ _. no_string_of_comment (comment_end false (drop 1 text)))
    (λ _. no_string_of_mark (mark_at (first ∷ text)))))))

-- what follows a place holds no quote either
free_after : (place : ℕ) (text : List ℕ) → has_quote text ≡ false → has_quote (drop place text) ≡ false
free_after zero text free = free
free_after (suc place) [] free = refl
free_after (suc place) (first ∷ text) free =
    free_after place text (or_parts (eqb first 39) (has_quote text) free).1

-- no word of a list is a string
abbrev pub HasNoString : List Lexeme → Type 0
HasNoString [] = Unit {0}
HasNoString (word ∷ words) = (is_string word.kind ≡ false) × HasNoString words

-- a text without a quote spells no string
spells_no_string : {text : List ℕ} {place : ℕ} {words : List Lexeme}
    → has_quote text ≡ false
    → SpellsFrom text place words
    → HasNoString words
spells_no_string free (at_end here) = tt
spells_no_string free (after_blank here rest) = spells_no_string free rest
spells_no_string {text} free (word_then {place = place} {length = taken} {kind = kind} here rest) =
    let item = subst IsNoString here (no_string_at (drop place text) (free_after place text free)) in
    (item.other, spells_no_string free rest)

no_string_at_use : (used : Lexeme) (words : List Lexeme)
    → HasNoString words
    → HasNoString (map (at_use used) words)
no_string_at_use used [] none = tt
no_string_at_use used (word ∷ words) none = (none.0, no_string_at_use used words none.1)

no_string_append : (front back : List Lexeme)
    → HasNoString front
    → HasNoString back
    → HasNoString (front ++ back)
no_string_append [] back none others = others
no_string_append (word ∷ front) back none others = (none.0, no_string_append front back none.1 others)

-- what words become holds no string, if they hold none, and no text in force holds a quote
pub becomes_no_string : {output : List Lexeme} {depth count : ℕ} {words now : List Lexeme}
    → ((word : Lexeme) (text : List ℕ) → in_force output word ≡ Some text → has_quote text ≡ false)
    → HasNoString words
    → Becomes output depth words now count
    → HasNoString now
becomes_no_string free none no_words = tt
becomes_no_string free none (stays is rest) = (none.0, becomes_no_string free none.1 rest)
becomes_no_string free none
    (replaced {text = text} {word = word} {inner = inner} {front = front} {back = back} is
    spells room inside rest) =
    no_string_append front back (becomes_no_string free (no_string_at_use word inner (spells_no_string (free word text is) spells)) inside) (becomes_no_string free none.1 rest)
