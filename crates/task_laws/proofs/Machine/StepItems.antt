-- The items of steps in the code are the steps in memory. If each task is carried out by its steps, so is
-- each part.
use Rattle.task_laws.proofs.Prelude.{◌≡◌, ℕ, ◌+◌, Bool, List, [], ◌∷◌, refl, sym, subst, ap, ◌∙◌, arith, Item, size_of, size_of_instruction, stands_size, Activation, IsThere, both_there, after_mark, mark_lies, Facts, Part, Step, word_item, Site, AreWritten, CallWritten, ChangeWritten, HoldsWritten, IsWritten, JumpWritten, MarkWritten, NoneWritten, PartWritten, PlainWritten, Planned, RoutineWritten, TestWritten, WordWritten, call_items, has_routine, knowing, test_items, task_steps, Context, PartDoes, CallThere, ChangeThere, HoldsThere, JumpThere, MarkThere, NoneThere, PartThere, PlainThere, RoutineThere, StepsStand, TestThere, WordThere}
use Rattle.asm8080.specs.declared.item.Item.TheVariants as items

-- the first item, and the others
pub record FirstThere (activation : Activation) (item : Item) (more : List Item)
    (from size to : ℕ) : Type 0 where
  pub first : IsThere activation (item ∷ []) from (from + size)
  pub rest : IsThere activation more (from + size) to

past_one : (from one size middle : ℕ) → one ≡ size → middle ≡ from + (one + 0) → middle ≡ from + size
past_one from one size middle same here = omega (arith, same, here)

pub first_there :
    (activation : Activation) (item : Item) (more : List Item) (from size to : ℕ)
    → size_of item ≡ size
    → IsThere activation (item ∷ more) from to
    → FirstThere activation item more from size to
first_there activation item more from size to same there =
    let parts = both_there (item ∷ []) more there in
    let here : parts.middle ≡ from + size =
    past_one from (size_of item) size parts.middle same
    (stands_size activation.layout activation.image (item ∷ []) from parts.middle parts.first.stands) in
    record { first = rw (sym here) parts.first; rest = rw (sym here) parts.second }

-- the law that each task is carried out by its steps
abbrev pub CarryOut : Context → Type 0
CarryOut context =
    (before after : Facts) (part : Part) (label from to : ℕ)
    → StepsStand context (PartDoes context) before from
    (task_steps (knowing context.site before) part label) after to
    → PartDoes context before part from after to

mutual
  pub steps_stand :
      (context : Context) (site : Site) (called : List Bool)
      → context.site ≡ site
      → context.called ≡ called
      → CarryOut context
      → {facts last : Facts} {steps : List Step} {list : List Item} (from to : ℕ)
      → AreWritten site called facts steps list last
      → IsThere context.activation list from to
      → StepsStand context (PartDoes context) facts from steps last to
  steps_stand context site called one_site one_table carry from to NoneWritten there =
      rw (there.stands) NoneThere
  steps_stand context site called one_site one_table carry from to
      (PlainWritten {i = i} {more = more} others) there =
      let parts =
      first_there context.activation (items.Plain i) more from (size_of_instruction i) to refl there in
      PlainThere parts.first
      (steps_stand context site called one_site one_table carry (from + size_of_instruction i)
      to others parts.rest)
  steps_stand context site called one_site one_table carry from to
      (WordWritten {form = form} {place = place} {more = more} others) there =
      let parts = first_there context.activation (word_item form place) more from 3 to refl there in
      WordThere parts.first
      (steps_stand context site called one_site one_table carry (from + 3) to others parts.rest)
  steps_stand context site called one_site one_table carry from to (JumpWritten {more = more} others) there =
      let parts = first_there context.activation _ more from 3 to refl there in
      JumpThere parts.first
      (steps_stand context site called one_site one_table carry (from + 3) to others parts.rest)
  steps_stand context site called one_site one_table carry from to (MarkWritten others) there =
      MarkThere (mark_lies there)
      (steps_stand context site called one_site one_table carry from to others (after_mark there))
  steps_stand context site called one_site one_table carry from to
      (RoutineWritten {routine = routine} {more = more} is_called others) there =
      let parts = first_there context.activation _ more from 3 to refl there in
      RoutineThere (ap (λ table. has_routine table routine) one_table ∙ is_called) (rw one_site parts.first)
      (steps_stand context site called one_site one_table carry (from + 3) to others parts.rest)
  steps_stand context site called one_site one_table carry from to
      (CallWritten {procedure = procedure} {more = more} others) there =
      let parts = both_there (call_items site procedure) more there in
      CallThere (rw one_site parts.first)
      (steps_stand context site called one_site one_table carry parts.middle to others parts.second)
  steps_stand context site called one_site one_table carry from to
      (TestWritten {facts = facts} {more = more} others) there =
      let parts = both_there (test_items facts) more there in
      TestThere parts.first
      (steps_stand context site called one_site one_table carry parts.middle to others parts.second)
  steps_stand context site called one_site one_table carry from to (HoldsWritten others) there =
      HoldsThere (steps_stand context site called one_site one_table carry from to others there)
  steps_stand context site called one_site one_table carry from to (ChangeWritten others) there =
      ChangeThere (steps_stand context site called one_site one_table carry from to others there)
  steps_stand context site called one_site one_table carry from to
      (PartWritten {part = part} {first = first} {more = more} one others) there =
      let parts = both_there first more there in
      PartThere (part_stands context site called one_site one_table carry from parts.middle one parts.first)
      (steps_stand context site called one_site one_table carry parts.middle to others parts.second)

  pub part_stands :
      (context : Context) (site : Site) (called : List Bool)
      → context.site ≡ site
      → context.called ≡ called
      → CarryOut context
      → {facts last : Facts} {part : Part} {list : List Item} (from to : ℕ)
      → IsWritten site called facts part list last
      → IsThere context.activation list from to
      → PartDoes context facts part from last to
  part_stands context site called one_site one_table carry {facts = facts} {last = last} {part = part} from to
      (Planned label written) there =
      carry facts last part label from to
      (subst (λ s. StepsStand context (PartDoes context) facts from
      (task_steps (knowing s facts) part label) last to) (sym one_site)
      (steps_stand context site called one_site one_table carry from to written there))
