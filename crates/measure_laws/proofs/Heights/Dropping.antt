-- A word that is added to the stack pointer and exceeds the bytes of a frame and of a parameter, such as
-- 65,534 to push two bytes, does not count as a drop.
use Rattle.measure_laws.proofs.Prelude.{◌≡◌, ℕ, ◌+◌, ◌<◌, ◌≤◌, ◌⊎◌, inl, inr, Bool, true, false, List, [], ◌∷◌, ◌++◌, Option, Some, None, slice_get, refl, sym, ap, subst, ◌∙◌, true≢false, arith, false≢true, FRAME_LIMIT, Instr, Hl, Sp, Item, Plain, WithWord, TreeModule, ProcedureKind, TreeProcedure, items_of_call, module_call_items, ByteDropped, BytesDropped, CallThere, FindsRoom, HaltThere, InstructionThere, PopThere, PushThere, ReturnThere, TableJumpThere, WordThere, keeps_stack}
use Rattle.isa8080.specs.declared.instr.Instr.TheVariants as instructions
use Rattle.asm8080.specs.declared.item.Reference.{Reference}
use Rattle.asm8080.specs.declared.item.WordForm.TheVariants as forms
use Rattle.treecode.specs.declared.procedure.ProcedureKind.TheVariants as kinds

-- an instruction that is counted separately, and does not keep the stack pointer
abbrev is_counted : Instr → Bool
is_counted (instructions.Push pair) = true
is_counted (instructions.Pop pair) = true
is_counted (instructions.Inx Sp) = true
is_counted instructions.Pchl = true
is_counted instructions.Ret = true
is_counted instructions.Hlt = true
is_counted instruction = false

-- the first of two lists of items that are the same
same_first :
    {one other : Instr} {first more : List Item}
    → Plain one ∷ first ≡ Plain other ∷ more
    → is_counted other ≡ false
    → is_counted one ≡ false
same_first {one = one} {other = other} same plain =
    let first : one ≡ other = cc in ap is_counted first ∙ plain

-- the items of a call are empty, or a CALL
abbrev AreOfCall : List Item → Type 0
AreOfCall list = (list ≡ []) ⊎ ((reference : Reference) × (list ≡ WithWord forms.CallTo reference ∷ []))

of_kind : (procedure : ℕ) (kind : ProcedureKind) → AreOfCall (items_of_call procedure kind)
of_kind procedure (kinds.External name) = inr (_, refl)
of_kind procedure kinds.Static = inr (_, refl)
of_kind procedure kinds.Reentrant = inr (_, refl)

of_call : (tree : TreeModule) (procedure : ℕ) → AreOfCall (module_call_items tree procedure)
of_call tree procedure = by (slice_get tree.procedures.items procedure)
  where
    by : (found : Option TreeProcedure)
        → AreOfCall (elim found as (λ (given : Option TreeProcedure). List Item) [
          | Some one ↦ items_of_call procedure one.kind
          | None ↦ []
        ])
    by (Some one) = of_kind procedure one.kind
    by None = inl refl

-- items that find room after an instruction that is counted as one that keeps the stack pointer
record IsKept (tree : TreeModule) (level : ℕ) (i : Instr) (others : List Item) (after : ℕ) : Type 0 where
  kept : keeps_stack i ≡ true
  free : ℕ
  room : FindsRoom tree level free others after

module _
    {tree : TreeModule} {level after : ℕ} {i : Instr} {others : List Item} (plain : is_counted i ≡ false)
    (great : (bytes : ℕ) → bytes ≤ FRAME_LIMIT + 2 → i ≡ instructions.Lxi Hl bytes → ⊥)
  where
    first_kept :
        {free : ℕ} {list : List Item}
        → FindsRoom tree level free list after
        → list ≡ Plain i ∷ others
        → IsKept tree level i others after
    first_kept (PushThere enough rest) same = absurd (true≢false (same_first same plain))
    first_kept (PopThere rest) same = absurd (true≢false (same_first same plain))
    first_kept (CallThere {others = more} procedure enough rest) same =
        by (of_call tree procedure) (λ others_are. first_kept rest others_are)
      where
        by : AreOfCall (module_call_items tree procedure)
            → (more ≡ Plain i ∷ others → IsKept tree level i others after)
            → IsKept tree level i others after
        by (inl none) later = later (ap (λ (call : List Item). call ++ more) (sym none) ∙ same)
        by (inr (reference, one)) later =
            let first : WithWord forms.CallTo reference ∷ more ≡ Plain i ∷ others =
            ap (λ (call : List Item). call ++ more) (sym one) ∙ same in
            absurd cc
    first_kept (ByteDropped rest) same = absurd (true≢false (same_first same plain))
    first_kept (BytesDropped {bytes = bytes} small rest) same =
        let first : i ≡ instructions.Lxi Hl bytes = cc in absurd (great bytes small first)
    first_kept (InstructionThere {free = free} {instruction = other} {others = more} kept rest) same =
        let first : other ≡ i = cc in
        let last : more ≡ others = cc in
        record {
          kept = sym (ap keeps_stack first) ∙ kept;
          free = free;
          room = subst (λ (list : List Item). FindsRoom tree level free list after) last rest;
        }
    first_kept (TableJumpThere enough rest) same = absurd (true≢false (same_first same plain))
    first_kept (ReturnThere rest) same = absurd (true≢false (same_first same plain))
    first_kept (HaltThere rest) same = absurd (true≢false (same_first same plain))
    first_kept other same = absurd cc

-- items that begin with such a sum find no room, however much is free
pub sum_finds_no_room :
    {tree : TreeModule} {level free after : ℕ} {others : List Item} (word : ℕ)
    → FRAME_LIMIT + 2 < word
    → FindsRoom tree level free
    (Plain (instructions.Lxi Hl word)
    ∷ Plain (instructions.Dad Sp)
    ∷ Plain instructions.Sphl
    ∷ others) after
    → ⊥
sum_finds_no_room word great room =
    let first =
    first_kept refl
    (λ bytes small same. let is : word ≡ bytes = cc in omega (arith, small, great, is)) room refl in
    let second = first_kept refl (λ bytes small same. cc) first.room refl in
    let third = first_kept refl (λ bytes small same. cc) second.room refl in
    false≢true third.kept

-- items that find room after HL was loaded
record IsLoaded (tree : TreeModule) (level : ℕ) (others : List Item) (after : ℕ) : Type 0 where
  free : ℕ
  room : FindsRoom tree level free others after

module _ {tree : TreeModule} {level after : ℕ} {reference : Reference} {others : List Item} where
  load_kept :
      {free : ℕ} {list : List Item}
      → FindsRoom tree level free list after
      → list ≡ WithWord (forms.LoadPair Hl) reference ∷ others
      → IsLoaded tree level others after
  load_kept (CallThere {others = more} procedure enough rest) same =
      by (of_call tree procedure) (λ others_are. load_kept rest others_are)
    where
      by : AreOfCall (module_call_items tree procedure)
          → (more ≡ WithWord (forms.LoadPair Hl) reference ∷ others → IsLoaded tree level others after)
          → IsLoaded tree level others after
      by (inl none) later = later (ap (λ (call : List Item). call ++ more) (sym none) ∙ same)
      by (inr (to, one)) later =
          let first : WithWord forms.CallTo to ∷ more ≡ WithWord (forms.LoadPair Hl) reference ∷ others =
          ap (λ (call : List Item). call ++ more) (sym one) ∙ same in
          absurd cc
  load_kept (WordThere {free = free} {others = more} kept rest) same =
      let last : more ≡ others = cc in
      record {
        free = free;
        room = subst (λ (list : List Item). FindsRoom tree level free list after) last rest;
      }
  load_kept other same = absurd cc

-- no word of an item is counted as a drop, whether it is a number or an address
pub placed_sum_finds_no_room :
    {tree : TreeModule} {level free after : ℕ} {others : List Item} (reference : Reference)
    → FindsRoom tree level free
    (WithWord (forms.LoadPair Hl) reference
    ∷ Plain (instructions.Dad Sp)
    ∷ Plain instructions.Sphl
    ∷ others) after
    → ⊥
placed_sum_finds_no_room reference room =
    let first = load_kept room refl in
    let second = first_kept refl (λ bytes small same. cc) first.room refl in
    let third = first_kept refl (λ bytes small same. cc) second.room refl in
    false≢true third.kept
