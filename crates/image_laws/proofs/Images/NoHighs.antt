-- Code that was assembled fixes no high byte alone.
use Rattle.image_laws.proofs.Prelude.{◌≡◌, ℕ, ◌+◌, Bool, true, false, cond, ◌==◌, List, [], ◌∷◌, ◌++◌, find, map, filter_map, Option, Some, None, option_map, option_and_then, refl, ap, subst, sym, ◌∙◌, AllByRecursion, cons_option, filter_map-append, Fix, FixKind, Both, Target, SetByte, ObjectModule, high_target, high_targets, fixup_at, high_at, Item, Plain, WithWord, Byte, Address, Gap, Mark, Assembled, Assembles, fixed_bytes, fixes_of_items, set_bytes, target_of, with_fix, Assembly, size_of, retargeted, with_targets}
use Rattle.asm8080.specs.Assembled.{places_of}

-- no high byte is fixed alone
abbrev pub NoHighs : List (Option SetByte) → Type 0
NoHighs places = filter_map high_at places ≡ []

pub highs_append : (xs ys : List (Option SetByte)) → NoHighs xs → NoHighs ys → NoHighs (xs ++ ys)
highs_append xs ys h k =
    filter_map-append high_at xs ys ∙ ap (λ found. found ++ filter_map high_at ys) h ∙ k

-- so a module has none where neither segment has
pub no_high_targets :
    (object : ObjectModule) → NoHighs object.code.places → NoHighs object.data_places.places
    → high_targets object ≡ []
no_high_targets object h k = highs_append object.code.places object.data_places.places h k

-- Fixes of whole words.
abbrev IsWord : Fix → Type 0
IsWord fix = fix.kind ≡ Both

-- a fix of a whole word, if there is one, before others
words_with :
    (offset : ℕ) (target : Option Target) (others : List Fix) → AllByRecursion IsWord others
    → AllByRecursion IsWord (with_fix offset target others)
words_with offset None others all = all
words_with offset (Some target) others all = (refl, all)

items_words : (offset : ℕ) (items : List Item) → AllByRecursion IsWord (fixes_of_items offset items)
items_words offset [] = tt
items_words offset (Plain instruction ∷ others) = items_words (offset + size_of (Plain instruction)) others
items_words offset (WithWord form reference ∷ others) =
    words_with (offset + 1) (target_of reference) (fixes_of_items (offset + 3) others)
    (items_words (offset + 3) others)
items_words offset (Byte value ∷ others) = items_words (offset + 1) others
items_words offset (Address reference ∷ others) =
    words_with offset (target_of reference) (fixes_of_items (offset + 2) others)
    (items_words (offset + 2) others)
items_words offset (Gap count ∷ others) = items_words (offset + count) others
items_words offset (Mark label ∷ others) = items_words (offset + 0) others

retargeted_words :
    (to : Target → Target) (fixes : List Fix) → AllByRecursion IsWord fixes
    → AllByRecursion IsWord (map (retargeted to) fixes)
retargeted_words to [] all = tt
retargeted_words to (fix ∷ others) all = (all.0, retargeted_words to others all.1)

word_at :
    (fixes : List Fix) (offset : ℕ) → AllByRecursion IsWord fixes
    → option_and_then high_target (fixup_at fixes offset) ≡ None
word_at [] offset all = refl
word_at (fix ∷ others) offset all = go (fix.offset == offset) all.0 (word_at others offset all.1)
  where
    go : (here : Bool) → fix.kind ≡ Both → option_and_then high_target (fixup_at others offset) ≡ None
        → option_and_then high_target
        (option_map (λ (one : Fix). record { kind = one.kind; target = one.target })
        (cond here (Some fix) (find (λ (one : Fix). one.offset == offset) others)))
        ≡ None
    go true kind later = ap (λ (k : FixKind). high_target (record { kind = k; target = fix.target })) kind
    go false kind later = later

words_have_no_highs :
    (fixes : List Fix) (offset : ℕ) (bytes : List (Option ℕ)) → AllByRecursion IsWord fixes
    → NoHighs (fixed_bytes fixes offset bytes)
words_have_no_highs fixes offset [] all = refl
words_have_no_highs fixes offset (None ∷ others) all = words_have_no_highs fixes (offset + 1) others all
words_have_no_highs fixes offset (Some value ∷ others) all =
    ap (λ found. cons_option found (filter_map high_at (fixed_bytes fixes (offset + 1) others)))
    (word_at fixes offset all)
    ∙ words_have_no_highs fixes (offset + 1) others all

pub assembled_highs :
    (to : Target → Target) (assembly : Assembly) (code : Assembled) → Assembles assembly code
    → NoHighs (places_of (with_targets to code))
assembled_highs to assembly code assembles =
    words_have_no_highs (map (retargeted to) code.fixes) 0 (set_bytes code.bytes code.is_set)
    (retargeted_words to code.fixes
    (subst (AllByRecursion IsWord) (sym assembles.fixes) (items_words 0 assembly.items)))
