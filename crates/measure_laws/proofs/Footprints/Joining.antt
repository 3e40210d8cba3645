-- Steps one after another, repeated steps, and steps that depend on a test or on an optional value.
use Rattle.measure_laws.proofs.Prelude.{◌≡◌, ℕ, zero, suc, ◌+◌, ◌-◌, ◌≤◌, Bool, true, false, if◌then◌else◌, List, [], ◌∷◌, ◌++◌, Option, Some, None, refl, sym, subst, arith, false≢true, Instr, Sp, WordForm, ExpressionNumber, size_of_instruction, Part, Step, Task, repeat_steps, keeps_stack, taken_by, Source, TreeModule, size_of_steps, GoesOn, GoesOnWithLabel, GoesOnWithWord}
use Rattle.isa8080.specs.declared.instr.Instr.TheVariants as instructions
use Rattle.asm8080.specs.declared.item.WordForm.TheVariants as word_forms
use Rattle.steps8080.specs.declared.step.Step.TheVariants as steps
use Rattle.measure_laws.specs.internal.Footprints.{Footprint, Go, Ground, IsOfTree, Needs, bytes_of_task}

pub counted :
    {at : Ground} {free after size : ℕ} {planned : List Step}
    → Go at free planned after → size_of_steps (bytes_of_task at.site.tree.now) planned ≤ size
    → Footprint at free planned after size
counted go small = record { go = go; small = small }

-- a greater bound holds too
pub within :
    {at : Ground} {free after size : ℕ} {planned : List Step} (less : ℕ)
    → Footprint at free planned after less → less ≤ size → Footprint at free planned after size
within less footprint small = record { go = footprint.go; small = omega (arith, footprint.small, small) }

-- an operand that allows a pushed word before it, without one
pub operand_from_below :
    {tree : TreeModule} {source : Source tree} {free : ℕ} {number : ExpressionNumber}
    → Needs tree source 2 free number → Needs tree source 0 free number
operand_from_below is = record {
  bound = is.bound;
  expression = is.expression;
  node = is.node;
  types = is.types;
  room = omega (arith, is.room);
  byte_small = is.byte_small;
  word_small = is.word_small;
}

-- the same with one
pub lowered :
    {tree : TreeModule} {source : Source tree} {free : ℕ} {number : ExpressionNumber}
    → Needs tree source 2 free number → Needs tree source 0 (free - 2) number
lowered is = record {
  bound = is.bound;
  expression = is.expression;
  node = is.node;
  types = is.types;
  room = omega (arith, is.room);
  byte_small = is.byte_small;
  word_small = is.word_small;
}

-- if a word may be pushed, two bytes are free
pub two_free :
    {tree : TreeModule} {source : Source tree} {free : ℕ} {number : ExpressionNumber}
    → Needs tree source 2 free number → 2 ≤ free
two_free is = omega (arith, is.room)

-- they are free again after its POP
pub restored :
    {tree : TreeModule} {source : Source tree} {free : ℕ} {number : ExpressionNumber}
    → Needs tree source 2 free number → free - 2 + 2 ≡ free
restored is = omega (arith, is.room)

-- the items after an instruction
on_plain :
    (level free : ℕ) (i : Instr) {One Other : ℕ → Type 0}
    → GoesOn level free i One → ((left : ℕ) → One left → Other left)
    → GoesOn level free i Other
on_plain level free (instructions.Push pair) is go = (is.0, go (free - 2) is.1)
on_plain level free (instructions.Pop pair) is go = go (free + 2) is
on_plain level free (instructions.Inx Sp) is go = go (free + 1) is
on_plain level free (instructions.Inx pair) is go = go free is
on_plain level free (instructions.Lxi Sp word) is go = is
on_plain level free (instructions.Lxi pair word) is go = go free is
on_plain level free (instructions.Dcx Sp) is go = is
on_plain level free (instructions.Dcx pair) is go = go free is
on_plain level free instructions.Hlt is go = go level is
on_plain level free instructions.Ret is go = go level is
on_plain level free instructions.Pchl is go = (is.0, go level is.1)
on_plain level free (instructions.ReturnIf condition) is go = is
on_plain level free (instructions.JumpIf condition word) is go = is
on_plain level free (instructions.CallIf condition word) is go = is
on_plain level free (instructions.Jmp word) is go = is
on_plain level free (instructions.Call word) is go = is
on_plain level free (instructions.Rst number) is go = is
on_plain level free instructions.Sphl is go = is
on_plain level free i is go = go free is

on_word :
    (free : ℕ) (form : WordForm) {One Other : ℕ → Type 0}
    → GoesOnWithWord free form One → ((left : ℕ) → One left → Other left)
    → GoesOnWithWord free form Other
on_word free (word_forms.LoadPair Sp) is go = is
on_word free (word_forms.LoadPair pair) is go = go free is
on_word free word_forms.Jump is go = is
on_word free (word_forms.JumpWhere condition) is go = is
on_word free word_forms.CallTo is go = is
on_word free (word_forms.CallWhere condition) is go = is
on_word free form is go = go free is

on_label :
    (level free : ℕ) (form : WordForm) {One Other : ℕ → Type 0}
    → GoesOnWithLabel level free form One → ((left : ℕ) → One left → Other left)
    → GoesOnWithLabel level free form Other
on_label level free (word_forms.LoadPair Sp) is go = is
on_label level free (word_forms.LoadPair pair) is go = go free is
on_label level free word_forms.Jump is go = (is.0, go level is.1)
on_label level free (word_forms.JumpWhere condition) is go = (is.0, go free is.1)
on_label level free word_forms.CallTo is go = is
on_label level free (word_forms.CallWhere condition) is go = is
on_label level free form is go = go free is

-- steps after others
both_go :
    (at : Ground) (first others : List Step) (free middle after : ℕ)
    → Go at free first middle → Go at middle others after → Go at free (first ++ others) after
both_go at [] others free middle after one two = subst (λ n. Go at n others after) (sym one) two
both_go at (steps.Plain i ∷ first) others free middle after one two =
    on_plain at.level free i one (λ left is. both_go at first others left middle after is two)
both_go at (steps.Word form place ∷ first) others free middle after one two =
    on_word free form one (λ left is. both_go at first others left middle after is two)
both_go at (steps.Jump form label ∷ first) others free middle after one two =
    (one.0, on_label at.level free form one.1 (λ left is. both_go at first others left middle after is two))
both_go at (steps.Mark label ∷ first) others free middle after one two =
    (one.0, both_go at first others at.level middle after one.1 two)
both_go at (steps.CallRoutine routine ∷ first) others free middle after one two =
    (one.0, both_go at first others free middle after one.1 two)
both_go at (steps.CallProcedure procedure ∷ first) others free middle after one two =
    (one.0, both_go at first others (free + taken_by at.site.tree.now procedure) middle after one.1 two)
both_go at (steps.TestA ∷ first) others free middle after one two =
    both_go at first others free middle after one two
both_go at (steps.Holds held ∷ first) others free middle after one two =
    both_go at first others free middle after one two
both_go at (steps.MemoryChanged ∷ first) others free middle after one two =
    both_go at first others free middle after one two
both_go at (steps.Part part ∷ first) others free middle after one two =
    (one.0, both_go at first others free middle after one.1 two)

sizes_joined :
    (size : Task → ℕ) (first others : List Step)
    → size_of_steps size (first ++ others) ≡ size_of_steps size first + size_of_steps size others
sizes_joined size [] others = omega arith
sizes_joined size (step ∷ first) others =
    let more : size_of_steps size (first ++ others) ≡ size_of_steps size first + size_of_steps size others =
    sizes_joined size first others in
    omega (arith, more)

pub joined :
    {at : Ground} {free middle after size : ℕ} {first others : List Step} (one two : ℕ)
    → Footprint at free first middle one → Footprint at middle others after two
    → one + two ≤ size
    → Footprint at free (first ++ others) after size
joined {at = at} {free = free} {middle = middle} {after = after} {first = first} {others = others} one two
    before last small = record {
      go = both_go at first others free middle after before.go last.go;
      small = omega
          (arith, sizes_joined (bytes_of_task at.site.tree.now) first others, before.small, last.small, small);
    }

-- steps after a part
pub after_part :
    {at : Ground} {free after size : ℕ} {part : Part} {others : List Step} (two : ℕ)
    → IsOfTree at free part.task → Footprint at free others after two
    → bytes_of_task at.site.tree.now part.task + two ≤ size
    → Footprint at free (steps.Part part ∷ others) after size
after_part two is last small = record { go = (is, last.go); small = omega (arith, last.small, small) }

-- an instruction that keeps the stack pointer
pub kept_plain :
    (level free : ℕ) (i : Instr) (Rest : ℕ → Type 0)
    → keeps_stack i ≡ true → Rest free
    → GoesOn level free i Rest
kept_plain level free (instructions.Push pair) Rest kept rest = absurd (false≢true kept)
kept_plain level free (instructions.Pop pair) Rest kept rest = absurd (false≢true kept)
kept_plain level free (instructions.Inx Sp) Rest kept rest = absurd (false≢true kept)
kept_plain level free (instructions.Inx pair) Rest kept rest = rest
kept_plain level free (instructions.Lxi Sp word) Rest kept rest = absurd (false≢true kept)
kept_plain level free (instructions.Lxi pair word) Rest kept rest = rest
kept_plain level free (instructions.Dcx Sp) Rest kept rest = absurd (false≢true kept)
kept_plain level free (instructions.Dcx pair) Rest kept rest = rest
kept_plain level free instructions.Hlt Rest kept rest = absurd (false≢true kept)
kept_plain level free instructions.Ret Rest kept rest = absurd (false≢true kept)
kept_plain level free instructions.Pchl Rest kept rest = absurd (false≢true kept)
kept_plain level free (instructions.ReturnIf condition) Rest kept rest = absurd (false≢true kept)
kept_plain level free (instructions.JumpIf condition word) Rest kept rest = absurd (false≢true kept)
kept_plain level free (instructions.CallIf condition word) Rest kept rest = absurd (false≢true kept)
kept_plain level free (instructions.Jmp word) Rest kept rest = absurd (false≢true kept)
kept_plain level free (instructions.Call word) Rest kept rest = absurd (false≢true kept)
kept_plain level free (instructions.Rst number) Rest kept rest = absurd (false≢true kept)
kept_plain level free instructions.Sphl Rest kept rest = absurd (false≢true kept)
kept_plain level free i Rest kept rest = rest

-- steps after an instruction
pub after_plain :
    {at : Ground} {free after size : ℕ} {i : Instr} {others : List Step} (two : ℕ)
    → keeps_stack i ≡ true
    → Footprint at free others after two
    → size_of_instruction i + two ≤ size
    → Footprint at free (steps.Plain i ∷ others) after size
after_plain {at = at} {free = free} {i = i} two kept last small = record {
  go = kept_plain at.level free i _ kept last.go;
  small = omega (arith, last.small, small);
}

-- an instruction of one byte, `count` times
pub repeated :
    {at : Ground} {free : ℕ} (i : Instr) (count : ℕ)
    → keeps_stack i ≡ true → size_of_instruction i ≡ 1
    → Footprint at free (repeat_steps i count) free count
repeated i zero kept one = counted refl (omega arith)
repeated i (suc count) kept one = after_plain count kept (repeated i count kept one) (omega (arith, one))

-- both branches of a test
pub by_test :
    {at : Ground} {free after size : ℕ} {first second : List Step} (b : Bool)
    → Footprint at free first after size → Footprint at free second after size
    → Footprint at free (if b then first else second) after size
by_test true one two = one
by_test false one two = two

pub by_asking :
    {at : Ground} {free after size : ℕ} {first second : List Step} (b : Bool)
    → (b ≡ true → Footprint at free first after size) → (b ≡ false → Footprint at free second after size)
    → Footprint at free (if b then first else second) after size
by_asking true one two = one refl
by_asking false one two = two refl

-- whether a value is found or not
pub by_finding :
    {A : Type 0} {at : Ground} {free after size : ℕ} {some : A → List Step}
    {none : List Step} (found : Option A)
    → ((x : A) → found ≡ Some x → Footprint at free (some x) after size)
    → (found ≡ None → Footprint at free none after size)
    → Footprint at free (elim found [ Some x ↦ some x | None ↦ none ]) after size
by_finding (Some x) one two = one x refl
by_finding None one two = two refl
