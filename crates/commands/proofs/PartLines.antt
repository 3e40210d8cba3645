-- Each part of the code of the interpreter has a line.
use Rattle.std.proofs.Common.{List, None, Option, Some, [], ap, arith, get_or, length, refl, slice_get, subst, suc, zero, ℕ, ◌<◌, ◌∷◌, ◌≡◌, ◌≤◌}
use Rattle.std.proofs.lemmas.List.Elements.{All-contains, All-from_recursion}
use Rattle.std.proofs.lemmas.Option.{none-some, same_Some, slice_get-get_or}
use Rattle.std.specs.Prelude.{Contains, IsSomeAnd}
use Rattle.typed_trees.specs.TypedTrees.{TypedModule}
use Rattle.join.specs.declared.joined.Joined.{Joined}
use Rattle.interpreter.specs.internal.Counted.{AreInModules, IsInModule, IsPartOf, numbered_module}
use Rattle.interpreter.specs.internal.Marked.{AreOfModules}
use Rattle.interpreter.specs.internal.StackMark.{StackMark}
use Rattle.interpreter.specs.internal.StackPart.{StackPart}
use Rattle.interpreter.specs.internal.StackPart.TheVariants.{Main, Procedure, Statement}
use Rattle.sources.proofs.OneSource.{same_tree}
use Rattle.sources.specs.Programs.{AreSourcesOf, IsProgramOf, program_modules, texts_of}
use Rattle.sources.specs.Reading.{IsSourceOf}
use Rattle.sources.specs.declared.sources.Source.{Source}
use Rattle.sources.specs.internal.Counted.{procedures_in, statements_in}
use Rattle.commands.specs.internal.PartLines.{HasLine}
use Rattle.commands.proofs.PartsCounted.{module_counted}

-- what is below smaller counts is below greater ones
part_within : (procedures statements more_procedures more_statements : ℕ) (part : StackPart)
    → procedures ≤ more_procedures → statements ≤ more_statements
    → IsPartOf procedures statements part → IsPartOf more_procedures more_statements part
part_within procedures statements more_procedures more_statements Main one two is = tt
part_within procedures statements more_procedures more_statements (Procedure number) one two is =
    omega (arith, one, is)
part_within procedures statements more_procedures more_statements (Statement number) one two is =
    omega (arith, two, is)

pub procedure_within : (procedures statements number : ℕ) (part : StackPart) → part ≡ Procedure number
    → IsPartOf procedures statements part → number < procedures
procedure_within procedures statements number part is within = subst (IsPartOf procedures statements) is within

pub statement_within : (procedures statements number : ℕ) (part : StackPart) → part ≡ Statement number
    → IsPartOf procedures statements part → number < statements
statement_within procedures statements number part is within = subst (IsPartOf procedures statements) is within

-- a mark is of one of the modules
pub mark_within : (count : ℕ) (marks : List StackMark) (mark : StackMark) → AreOfModules count marks
    → Contains marks mark → mark.number_of_module < count
mark_within count marks mark all there =
    All-contains (λ (one : StackMark). one.number_of_module < count) marks mark
    (All-from_recursion (λ (one : StackMark). one.number_of_module < count) marks all) there

-- a text of a program is the source of the module with its number
source_is : (sources : List Source) (modules : List TypedModule) (number : ℕ) (source : Source) (typed : TypedModule)
    → AreSourcesOf (texts_of sources) modules → slice_get sources number ≡ Some source
    → slice_get modules number ≡ Some typed → IsSourceOf source.text.now typed
source_is [] modules number source typed are found is = absurd (none-some source found)
source_is (first ∷ sources) [] number source typed are found is = absurd are
source_is (first ∷ sources) (one ∷ modules) zero source typed are found is =
    subst (λ (it : Source). IsSourceOf it.text.now typed) (same_Some first source found)
    (subst (IsSourceOf first.text.now) (same_Some one typed is) are.0)
source_is (first ∷ sources) (one ∷ modules) (suc number) source typed are found is =
    source_is sources modules number source typed are.1 found is

-- a part of a module has a line in its source
has_line : (text : List ℕ) (typed : TypedModule) (part : StackPart) → IsSourceOf text typed
    → IsPartOf (length typed.procedures) (numbered_module typed) part → HasLine text part
has_line text typed part source is = λ lines has.
    let same = same_tree text has.tree source.typing.tree has.read source.typing.read in
    let count = module_counted source.typing.typing in
    part_within (length typed.procedures) (numbered_module typed) (length lines.procedures.items)
    (length lines.statements.items) part
    (omega (arith, count.0, has.each.procedures, ap procedures_in same))
    (omega (arith, count.1, has.each.statements, ap statements_in same)) is

-- so each mark has one
mark_in_source : (sources : List Source) (program : Joined) (marks : List StackMark) (mark : StackMark)
    (source : Source)
    → IsProgramOf (texts_of sources) (program_modules program)
    → AreInModules (program_modules program) marks → Contains marks mark
    → slice_get sources mark.number_of_module ≡ Some source → HasLine source.text.now mark.part
mark_in_source sources program marks mark source is all there found =
    by (slice_get (program_modules program) mark.number_of_module) refl
    (All-contains (IsInModule (program_modules program)) marks mark
    (All-from_recursion (IsInModule (program_modules program)) marks all) there)
  where
    by : (entry : Option TypedModule) → slice_get (program_modules program) mark.number_of_module ≡ entry
        → IsSomeAnd entry
        (λ (typed : TypedModule). IsPartOf (length typed.procedures) (numbered_module typed) mark.part)
        → HasLine source.text.now mark.part
    by None at part = absurd part
    by (Some typed) at part =
        has_line source.text.now typed mark.part
        (source_is sources (program_modules program) mark.number_of_module source typed is.sources found at) part

pub mark_has_line : (sources : List Source) (program : Joined) (marks : List StackMark) (mark : StackMark)
    (d : Source)
    → IsProgramOf (texts_of sources) (program_modules program)
    → AreInModules (program_modules program) marks → Contains marks mark
    → mark.number_of_module < length sources
    → HasLine (get_or sources mark.number_of_module d).text.now mark.part
mark_has_line sources program marks mark d is all there within =
    mark_in_source sources program marks mark (get_or sources mark.number_of_module d) is all there
    (slice_get-get_or sources mark.number_of_module d within)
