-- Operations on a word in memory, at a known place, and the word in HL.
use Rattle.task_laws.proofs.Prelude.{◌≡◌, ℕ, ◌+◌, ◌-◌, ◌/◌, ◌%◌, ◌<◌, Bool, true, false, List, [], ◌∷◌, Option, Some, None, if◌then◌else◌, refl, sym, ◌∙◌, arith, byte_at, Address, height_of, type_of, SourceState, Gave, Operation, Subtract, SubtractWithBorrow, A, H, L, Registers, ExpressionNumber, Place, place_after, keeps_none, Does, at_place, Arrives, IsSteady, place_at, Facts, Plain, Word, LoadA, copy, with_register, Site, keeps, may_exchange, direct_word, RightInHl, Operands, knowing, left_word, with_word_steps, Context, IsSound, StepsStand, PartThere, WordThere, PartDoes, WordIsGiven}
use Rattle.task_laws.proofs.Bytes.BytesAsked.{WordAtPlace, WordsAtPlaces}
use Rattle.task_laws.proofs.Words.PairedWords.{Makes, byte_instructions, difference_makes, kept_none}
use Rattle.task_laws.proofs.Relations.PlaceComparisons.{read_then}
use Rattle.task_laws.proofs.Machine.RegisterCode.{effect}
use Rattle.task_laws.proofs.Ranges.Ranges.{ready_fits, value_fits}
use Rattle.task_laws.proofs.Machine.SiteNodes.{does_exchanged, value_in}
use Rattle.task_laws.proofs.Machine.Stages.{Stage, at_end, at_instructions, at_load_a, loaded_in}
use Rattle.task_laws.proofs.Machine.Values.{HasWord, word_given, word_then}
use Rattle.task_laws.proofs.Words.WordBinaries.{LeftWordDoes}
use Rattle.task_laws.proofs.Words.WordForms.{difference_small}
use Rattle.task_laws.proofs.Words.WordSums.{less_high}
use Rattle.task_laws.proofs.Numbers.{address_is_word}

-- an operation of a word that was read and the one in HL
module _
    {context : Context} {top pushed need to : ℕ} {base : List ℕ} {last : Facts}
    (on_low on_high : Operation) (f : ℕ → ℕ → ℕ)
    (number : ExpressionNumber) (sound : IsSound context) (makes : Makes (byte_instructions on_low on_high) f)
    (none : keeps context.site number ≡ keeps_none) where
  -- from the second byte on
  second_half :
      {facts : Facts} {from n : ℕ} {place : Place} (t : SourceState) (r now : Registers)
      (memory ended : List ℕ)
      → n < 65536
      → IsSteady context.activation (place_at context.activation.layout place)
      → HasWord n (effect (with_register on_high H ∷ copy H A ∷ [])
      (record now { a = byte_at ended (place_at context.activation.layout place) }))
      → StepsStand context (PartDoes context) facts from
      (Word LoadA place ∷ Plain (with_register on_high H) ∷ Plain (copy H A) ∷ []) last to
      → Stage context top pushed need base t facts now ended
      → Does (loaded_in context) t.budget 0 (at_place from now ended t.events) (Gave n t)
      (Arrives context.activation top base to (WordIsGiven context last number Address r memory))
  second_half t r now memory ended small steady made (WordThere there stand) stage =
      at_load_a sound there steady stage
      (λ loaded.
      at_instructions (with_register on_high H ∷ copy H A ∷ []) [] sound (tt, (tt, tt)) stand loaded
      (λ middle found ends next. at_end ends next
      (λ final. word_given t small made (kept_none context number r _ none)
      (record { ready = final.ready; known = final.known }))))

  pub with_word_then :
      {facts : Facts} {from : ℕ} (place : Place) (x y : ℕ) (t : SourceState) (r now : Registers)
      (memory ended : List ℕ)
      → x < 65536
      → y < 65536
      → f x y < 65536
      → x % 256 ≡ byte_at ended (place_at context.activation.layout place)
      → x / 256 ≡ byte_at ended (place_at context.activation.layout (place_after place 1))
      → IsSteady context.activation (place_at context.activation.layout place)
      → IsSteady context.activation (place_at context.activation.layout (place_after place 1))
      → HasWord y now
      → StepsStand context (PartDoes context) facts from (with_word_steps place on_low on_high) last to
      → Stage context top pushed need base t facts now ended
      → Does (loaded_in context) t.budget 0 (at_place from now ended t.events) (Gave (f x y) t)
      (Arrives context.activation top base to (WordIsGiven context last number Address r memory))
  unfolding with_word_steps
  with_word_then place x y t r now memory ended one two small low high steady next has
      (WordThere there stand) stage =
      let lo : ℕ = byte_at ended (place_at context.activation.layout place) in
      let hi : ℕ = byte_at ended (place_at context.activation.layout (place_after place 1)) in
      let made = makes RightInHl x y (record now { d = hi; e = lo }) one two
      (record { h = has.h; l = has.l; d = sym high; e = sym low }) in
      at_load_a sound there steady stage
      (λ loaded.
      at_instructions (with_register on_low L ∷ copy L A ∷ [])
      (Word LoadA (place_after place 1) ∷ Plain (with_register on_high H) ∷ Plain (copy H A) ∷ []) sound
      (tt, (tt, tt)) stand loaded
      (λ middle found rest after. second_half t r _ memory ended small next
      (record { h = made.h; l = made.l }) rest after))

-- the left operand stays in memory only if it is a word at a known place, and may come second
left_word_is :
    (site : Site) (operands : Operands) (place : Place) → left_word site operands ≡ Some place
    → (direct_word site operands.left ≡ Some place) × (may_exchange site operands.left operands.right ≡ true)
unfolding left_word
left_word_is site operands place is =
    by (direct_word site operands.left) (may_exchange site operands.left operands.right) refl refl is
  where
    by : (found : Option Place) (may : Bool) → direct_word site operands.left ≡ found
        → may_exchange site operands.left operands.right ≡ may
        → elim found [
          | Some one ↦ if may then Some one else None
          | None ↦ None
        ] ≡ Some place
        → (direct_word site operands.left ≡ Some place)
        × (may_exchange site operands.left operands.right ≡ true)
    by (Some one) true here allowed is = (here ∙ is, allowed)
    by (Some one) false here allowed is = absurd cc
    by None may here allowed is = absurd cc

-- a difference with a word in memory on the left
pub left_words_do : (context : Context) → IsSound context → WordsAtPlaces context → LeftWordDoes context
left_words_do context sound places facts last operands number place pushed top need from to base s r memory
    first second words is none less room height (PartThere part rest) going =
    let left = left_word_is (knowing context.site facts) operands place is in
    does_exchanged facts (λ x y u. Gave ((x + (65536 - y)) % 65536) u) s sound words.one.is
    words.two.is words.one.types
    left.1
    (word_then from s r memory part words.two.is words.two.types less room
    (less_high (height_of first) (height_of second) need height) going
    (λ y t now ended same fewer going_on given.
    read_then (value_in context first t) (λ x u. Gave ((x + (65536 - y)) % 65536) u)
    (places facts operands.left place words.one.bound top first base t now ended words.one.is words.one.types
    left.0 going_on.ready)
    (λ (read : WordAtPlace context place ended t (value_in context first t)).
    with_word_then Subtract SubtractWithBorrow (λ x y. (x + (65536 - y)) % 65536) number sound
    difference_makes none
    place read.found y t r now memory ended
    (address_is_word read.found (type_of first) words.one_is
    (value_fits t sound words.one.is words.one.types (ready_fits context t going_on.ready) read.is))
    (address_is_word y (type_of second) words.two_is given.small) (difference_small read.found y)
    read.low read.high read.low_steady read.high_steady (record { h = given.h; l = given.l }) rest
    (record { below = omega (arith, less, fewer); room = room; ready = going_on.ready; known = going_on.known }))))
