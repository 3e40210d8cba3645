-- The numbers of parts: what adds marks, what completes statements, and what comes of these together.
use Rattle.std.proofs.Math.Seq.{set-append_seam}
use Rattle.std.proofs.lemmas.Option.{slice_get_within}
use Rattle.std.specs.List.{AllByRecursion}
use Rattle.std.specs.Prelude.{IsSomeAnd, if◌then◌else◌, min, slice_set, ◌^◌}
use Rattle.stack_compiler.proofs.Prelude.{Bool, None, Option, Some, false, true, ◌==◌, ◌≡◌, ℕ, ◌+◌, ◌-◌, ◌<◌, ◌≤◌, List, [], ◌∷◌, ◌++◌, length, map, drop, get_or, ap, arith, refl, subst, suc, sym, zero, ◌∙◌, slice_get, all_append, at_drop_all, drop_item, PartMark, ProgramMarks, StackMark, CodeProcedure, CodeStatement, Typed, TypedModule, TypedProcedure, list_view, module_view, procedure_view, statement_view, statements_view, main_mark, stack_mark}
use Rattle.stack_compiler.specs.declared.marking.Marks.{Marks}
use Rattle.stack_compiler.specs.declared.marking.StackPart.{StackPart}
use Rattle.stack_compiler.specs.declared.marking.StackPart.TheVariants.{Main, Procedure, Statement}
use Rattle.stack_compiler.specs.internal.Counted.{AreInModules, AreNumbered, HaveParts, IsInModule, IsPartOf, Keeps, Numbers, NumbersIn, SoFar, Takes, numbered_bodies, numbered_body, numbered_list, numbered_module, numbered_parts, numbered_statements}
use Rattle.stack_compiler.specs.internal.Marked.{later_by}

-- a mark that is added, one that gets a number, and none
pub takes_put : (before after : Marks) (part : StackPart) (place : ℕ)
    → after.list.items ≡ before.list.items ++ record { part = part; place = place } ∷ []
    → after.statements ≡ before.statements → Takes part before after
takes_put before after part place list statements = record {
  in_any = λ procedures next limit is marks. record {
    complete = subst (λ (count : ℕ). count ≤ next) (sym statements) marks.complete;
    parts =
        subst (AllByRecursion (λ (mark : PartMark). IsPartOf procedures limit mark.part)) (sym list)
        (all_append (λ (mark : PartMark). IsPartOf procedures limit mark.part) before.list.items
        (record { part = part; place = place } ∷ []) marks.parts (is, tt));
  };
}

pub takes_none : (before after : Marks) (part : StackPart)
    → after.list.items ≡ before.list.items
    → after.statements ≡ before.statements → Takes part before after
takes_none before after part list statements = record {
  in_any = λ procedures next limit is marks. record {
    complete = subst (λ (count : ℕ). count ≤ next) (sym statements) marks.complete;
    parts =
        subst (AllByRecursion (λ (mark : PartMark). IsPartOf procedures limit mark.part)) (sym list) marks.parts;
  };
}

pub keeps_same : (before after : Marks)
    → after.list.items ≡ before.list.items → after.statements ≡ before.statements → Keeps before after
keeps_same before after list statements = record {
  in_any = λ procedures next limit marks. record {
    complete = subst (λ (count : ℕ). count ≤ next) (sym statements) marks.complete;
    parts =
        subst (AllByRecursion (λ (mark : PartMark). IsPartOf procedures limit mark.part)) (sym list) marks.parts;
  };
}

-- with a change that is none before it, or after it
pub takes_later : (part : StackPart) (before middle after : Marks)
    → middle.list.items ≡ before.list.items → middle.statements ≡ before.statements
    → Takes part middle after → Takes part before after
takes_later part before middle after list statements takes = record {
  in_any = λ procedures next limit is marks.
      takes.in_any procedures next limit is ((keeps_same before middle list statements).in_any procedures next limit marks);
}

pub takes_kept : (part : StackPart) (before middle after : Marks) → Takes part before middle
    → after.list.items ≡ middle.list.items → after.statements ≡ middle.statements → Takes part before after
takes_kept part before middle after takes list statements = record {
  in_any = λ procedures next limit is marks.
      (keeps_same middle after list statements).in_any procedures next limit
      (takes.in_any procedures next limit is marks);
}

all_set : {A : Type 0} (P : A → Type 0) (items : List A) (index : ℕ) (item : A) → AllByRecursion P items → P item
    → AllByRecursion P (slice_set items index item)
all_set P [] index item all one = tt
all_set P (first ∷ others) zero item all one = (one, all.1)
all_set P (first ∷ others) (suc index) item all one = (all.0, all_set P others index item all.1 one)

pub takes_set : (before after : Marks) (index : ℕ) (part : StackPart) (place : ℕ)
    → after.list.items ≡ slice_set before.list.items index (record { part = part; place = place })
    → after.statements ≡ before.statements → Takes part before after
takes_set before after index part place list statements = record {
  in_any = λ procedures next limit is marks. record {
    complete = subst (λ (count : ℕ). count ≤ next) (sym statements) marks.complete;
    parts =
        subst (AllByRecursion (λ (mark : PartMark). IsPartOf procedures limit mark.part)) (sym list)
        (all_set (λ (mark : PartMark). IsPartOf procedures limit mark.part) before.list.items index
        (record { part = part; place = place }) marks.parts is);
  };
}

-- a statement that is complete has the next number
pub numbers_one : (before middle between after : Marks) (number : ℕ) → number ≡ before.statements
    → Takes (Statement number) before middle → Takes (Statement number) middle between
    → after.list.items ≡ between.list.items → after.statements ≤ number + 1 → Numbers 0 1 before after
numbers_one before middle between after number is one two list count = record {
  in_any = λ procedures. record {
    from = λ next limit fits marks.
        let below : number < limit = omega (arith, is, fits, marks.complete) in
        let there = two.in_any procedures next limit below (one.in_any procedures next limit below marks) in
        record {
          complete = omega (arith, is, count, marks.complete);
          parts =
              subst (AllByRecursion (λ (mark : PartMark). IsPartOf procedures limit mark.part)) (sym list) there.parts;
        };
  };
}

-- no statement, one after another, and a count that is said in another way
pub numbers_nothing : (procedures spare count : ℕ) (marks : Marks) → count ≡ 0
    → NumbersIn procedures spare count marks marks
numbers_nothing procedures spare count marks none = record {
  from = λ next limit fits is.
      subst (λ (done : ℕ). AreNumbered procedures done limit marks) (omega (arith, none)) is;
}

pub numbers_then : (procedures spare one two all : ℕ) (before middle after : Marks)
    → NumbersIn procedures 0 one before middle → NumbersIn procedures 0 two middle after → one + two ≡ all
    → NumbersIn procedures spare all before after
numbers_then procedures spare one two all before middle after first second is = record {
  from = λ next limit fits marks.
      subst (λ (done : ℕ). AreNumbered procedures done limit after) (omega (arith, is))
      (second.from (next + one) limit (omega (arith, is, fits))
      (first.from next limit (omega (arith, is, fits)) marks));
}

pub numbers_as : (procedures spare one all : ℕ) (before after : Marks)
    → NumbersIn procedures 0 one before after → one ≡ all → NumbersIn procedures spare all before after
numbers_as procedures spare one all before after first is = record {
  from = λ next limit fits marks.
      subst (λ (done : ℕ). AreNumbered procedures done limit after) (omega (arith, is))
      (first.from next limit (omega (arith, is, fits)) marks);
}

-- a statement with its parts
pub statement_numbered : (parts : ℕ) (before begun made after : Marks) → Takes (Statement 0) before begun
    → Numbers 1 parts begun made → Numbers 0 1 made after → Numbers 0 (parts + 1) before after
statement_numbered parts before begun made after begins does ends = record {
  in_any = λ procedures. record {
    from = λ next limit fits marks.
        let there = begins.in_any procedures next limit (omega (arith, fits)) marks in
        let inside = (does.in_any procedures).from next limit (omega (arith, fits)) there in
        let whole = (ends.in_any procedures).from (next + parts) limit (omega (arith, fits)) inside in
        subst (λ (done : ℕ). AreNumbered procedures done limit after) (omega arith) whole;
  };
}

-- a loop, whose code after its body has a mark
pub loop_numbered : (body : ℕ) (before made after : Marks) → Numbers 0 body before made
    → Takes (Statement 0) made after → Numbers 1 body before after
loop_numbered body before made after does ends = record {
  in_any = λ procedures. record {
    from = λ next limit fits marks.
        ends.in_any procedures (next + body) limit (omega (arith, fits))
        ((does.in_any procedures).from next limit (omega (arith, fits)) marks);
  };
}

-- IF, with ELSE and without
pub both_numbered : (one two : ℕ) (before middle after : Marks) → Numbers 0 one before middle
    → Numbers 0 two middle after → Numbers 1 (one + two) before after
both_numbered one two before middle after first second = record {
  in_any = λ procedures.
      numbers_then procedures 1 one two (one + two) before middle after (first.in_any procedures)
      (second.in_any procedures) refl;
}

pub first_numbered : (one two : ℕ) (before after : Marks) → Numbers 0 one before after → two ≡ 0
    → Numbers 1 (one + two) before after
first_numbered one two before after first none = record {
  in_any = λ procedures.
      numbers_as procedures 1 one (one + two) before after (first.in_any procedures) (omega (arith, none));
}

pub more_to_spare : (count : ℕ) (before after : Marks) → Numbers 0 count before after → Numbers 1 count before after
more_to_spare count before after first = record {
  in_any = λ procedures. numbers_as procedures 1 count count before after (first.in_any procedures) refl;
}

pub no_numbers : (count : ℕ) (marks : Marks) → count ≡ 0 → Numbers 1 count marks marks
no_numbers count marks none = record {
  in_any = λ procedures. numbers_nothing procedures 1 count marks none;
}

-- DO CASE, between two changes of the place
pub case_numbered : (count : ℕ) (before entered made after : Marks) → Keeps before entered
    → Numbers 1 count entered made → Keeps made after → Numbers 1 count before after
case_numbered count before entered made after enters does leaves = record {
  in_any = λ procedures. record {
    from = λ next limit fits marks.
        leaves.in_any procedures (next + count) limit
        ((does.in_any procedures).from next limit fits (enters.in_any procedures next limit marks));
  };
}

-- a loop over statements, before it, after one more, and at its end
pub so_far_nothing : (procedures all : ℕ) (marks : Marks) → SoFar procedures all all marks marks
so_far_nothing procedures all marks = record {
  done = 0;
  numbers = numbers_nothing procedures 0 0 marks refl;
  counted = omega arith;
}

pub so_far_more : (procedures all left one rest : ℕ) (before now after : Marks)
    → SoFar procedures all left before now → NumbersIn procedures 0 one now after → left ≡ one + rest
    → SoFar procedures all rest before after
so_far_more procedures all left one rest before now after made does is = record {
  done = made.done + one;
  numbers =
      numbers_then procedures 0 made.done one (made.done + one) before now after made.numbers does refl;
  counted = omega (arith, made.counted, is);
}

pub so_far_all : (procedures spare all left : ℕ) (before now : Marks) → SoFar procedures all left before now
    → left ≡ 0 → NumbersIn procedures spare all before now
so_far_all procedures spare all left before now made none =
    numbers_as procedures spare made.done all before now made.numbers (omega (arith, made.counted, none))

-- statements that are left, and procedures
pub statements_left : (statements : List CodeStatement) (i : ℕ) (statement : CodeStatement) → i < length statements
    → statement ≡ get_or statements i statement
    → numbered_statements (statements_view (drop i statements))
    ≡ (numbered_parts (statement_view statement) + 1)
    + numbered_statements (statements_view (drop (i + 1) statements))
statements_left statements i statement within is =
    drop_item (λ left. numbered_statements (statements_view left)) statements i statement within is

pub no_statements_left : (statements : List CodeStatement) (i : ℕ) → length statements ≤ i
    → numbered_statements (statements_view (drop i statements)) ≡ 0
no_statements_left statements i past =
    at_drop_all (λ left. numbered_statements (statements_view left)) statements i past

pub procedures_left : (procedures : List CodeProcedure) (i : ℕ) (procedure : CodeProcedure) → i < length procedures
    → procedure ≡ get_or procedures i procedure
    → numbered_bodies (map procedure_view (drop i procedures))
    ≡ numbered_body (procedure_view procedure) + numbered_bodies (map procedure_view (drop (i + 1) procedures))
procedures_left procedures i procedure within is =
    drop_item (λ left. numbered_bodies (map procedure_view left)) procedures i procedure within is

pub no_procedures_left : (procedures : List CodeProcedure) (i : ℕ) → length procedures ≤ i
    → numbered_bodies (map procedure_view (drop i procedures)) ≡ 0
no_procedures_left procedures i past =
    at_drop_all (λ left. numbered_bodies (map procedure_view left)) procedures i past

-- a procedure has a mark of its own
pub procedure_numbered : (number count : ℕ) (before begun after : Marks) → Takes (Procedure number) before begun
    → Numbers 0 count begun after
    → (procedures : ℕ) → number < procedures → NumbersIn procedures 0 count before after
procedure_numbered number count before begun after begins does procedures within = record {
  from = λ next limit fits marks.
      (does.in_any procedures).from next limit fits (begins.in_any procedures next limit within marks);
}

-- the marks of one module among those of a program
later_part : (procedures limit before whole : ℕ) (part : StackPart) → IsPartOf procedures limit part
    → before + limit ≤ whole → IsPartOf procedures whole (later_by before part)
later_part procedures limit before whole Main is fits = tt
later_part procedures limit before whole (Procedure number) is fits = is
later_part procedures limit before whole (Statement number) is fits = omega (arith, is, fits)

module _ (modules : List TypedModule) (number before limit : ℕ) (typed : TypedModule)
    (found : slice_get modules number ≡ Some typed) (fits : before + limit ≤ numbered_module typed) where
  one_in_module : (mark : PartMark) → IsPartOf (length typed.procedures) limit mark.part
      → IsInModule modules (stack_mark number before mark)
  one_in_module mark is =
      subst (λ (entry : Option TypedModule). IsSomeAnd entry
      (λ (one : TypedModule). IsPartOf (length one.procedures) (numbered_module one) (later_by before mark.part)))
      (sym found)
      (later_part (length typed.procedures) limit before (numbered_module typed) mark.part is fits)

  pub all_in_module : (marks : List PartMark)
      → AllByRecursion (λ (mark : PartMark). IsPartOf (length typed.procedures) limit mark.part) marks
      → AreInModules modules (map (stack_mark number before) marks)
  all_in_module [] all = tt
  all_in_module (mark ∷ others) all = (one_in_module mark all.0, all_in_module others all.1)

-- no marks of a module are numbered
pub nothing_numbered : (procedures limit : ℕ) (marks : Marks) → marks.list.items ≡ [] → marks.statements ≡ 0
    → AreNumbered procedures 0 limit marks
nothing_numbered procedures limit marks list statements = record {
  complete = omega (arith, statements);
  parts =
      subst (AllByRecursion (λ (mark : PartMark). IsPartOf procedures limit mark.part)) (sym list) tt;
}

-- the statements before the main program are of its module
module _ (modules : List TypedModule) (number : ℕ) (typed : TypedModule)
    (found : slice_get modules number ≡ Some typed) where
  before_kept : (main old count new : ℕ) (same : Bool) → (same ≡ true → number ≡ main)
      → count ≤ numbered_bodies typed.procedures
      → new ≡ (if same then count else old)
      → IsSomeAnd (slice_get modules main) (λ (one : TypedModule). old ≤ numbered_bodies one.procedures)
      → IsSomeAnd (slice_get modules main) (λ (one : TypedModule). new ≤ numbered_bodies one.procedures)
  before_kept main old count new true which within is held =
      let there : slice_get modules main ≡ Some typed =
      subst (λ (at : ℕ). slice_get modules at ≡ Some typed) (which refl) found in
      subst (λ (entry : Option TypedModule). IsSomeAnd entry
      (λ (one : TypedModule). new ≤ numbered_bodies one.procedures)) (sym there)
      (omega (arith, is, within))
  before_kept main old count new false which within is held =
      subst (λ (one : ℕ). IsSomeAnd (slice_get modules main)
      (λ (entry : TypedModule). one ≤ numbered_bodies entry.procedures)) (sym is) held

  pub module_has_parts : (old new : ProgramMarks) (before marks : Marks)
      → ((n m : ℕ) → (n == m) ≡ true → n ≡ m)
      → before.list.items ≡ [] → before.statements ≡ 0
      → NumbersIn (length typed.procedures) 0 (numbered_bodies typed.procedures) before marks
      → new.list.items ≡ old.list.items ++ map (stack_mark number 0) marks.list.items
      → new.main_module ≡ old.main_module
      → new.before_main ≡ (if number == old.main_module then marks.statements else old.before_main)
      → HaveParts modules old → HaveParts modules new
  module_has_parts old new before marks equal list statements numbers added main count have =
      let all = numbered_bodies typed.procedures in
      let made : AreNumbered (length typed.procedures) (0 + all) all marks =
      numbers.from 0 all (omega arith) (nothing_numbered (length typed.procedures) all before list statements) in
      let complete : marks.statements ≤ all = omega (arith, made.complete) in
      record {
        before =
            subst (λ (at : ℕ). IsSomeAnd (slice_get modules at)
            (λ (one : TypedModule). new.before_main ≤ numbered_bodies one.procedures)) (sym main)
            (before_kept old.main_module old.before_main marks.statements new.before_main
            (number == old.main_module) (equal number old.main_module) complete count have.before);
        parts =
            subst (AreInModules modules) (sym added)
            (all_append (IsInModule modules) old.list.items (map (stack_mark number 0) marks.list.items) have.parts
            (all_in_module modules number 0 all typed found (omega arith) marks.list.items made.parts));
      }

  -- and all marks of a program are of parts of its modules
  pub program_has_parts : (marks : ProgramMarks) (before main : Marks) (list : List StackMark)
      → marks.main_module ≡ number → HaveParts modules marks
      → before.list.items ≡ [] → before.statements ≡ 0
      → Numbers 0 (numbered_list typed.main.body) before main
      → list ≡ main_mark marks.main_module ∷ map (stack_mark marks.main_module marks.before_main) main.list.items
      ++ marks.list.items
      → AreInModules modules list
  program_has_parts marks before main list at have none statements numbers is =
      let here : slice_get modules marks.main_module ≡ Some typed =
      subst (λ (one : ℕ). slice_get modules one ≡ Some typed) (sym at) found in
      let count : marks.before_main ≤ numbered_bodies typed.procedures =
      subst (λ (entry : Option TypedModule). IsSomeAnd entry
      (λ (one : TypedModule). marks.before_main ≤ numbered_bodies one.procedures)) here have.before in
      let all = numbered_list typed.main.body in
      let made : AreNumbered (length typed.procedures) (0 + all) all main =
      (numbers.in_any (length typed.procedures)).from 0 all (omega arith)
      (nothing_numbered (length typed.procedures) all before none statements) in
      subst (AreInModules modules) (sym is) (
        subst (λ (entry : Option TypedModule). IsSomeAnd entry (λ (one : TypedModule). Unit {0})) (sym here) tt,
        all_append (IsInModule modules) (map (stack_mark marks.main_module marks.before_main) main.list.items)
            marks.list.items
            (all_in_module modules marks.main_module marks.before_main all typed here (omega (arith, count))
            main.list.items made.parts)
            have.parts,
      )

-- none of a program has any
pub no_parts : (modules : List TypedModule) (number : ℕ) (typed : TypedModule) (marks : ProgramMarks)
    → slice_get modules number ≡ Some typed → marks.main_module ≡ number → marks.before_main ≡ 0
    → marks.list.items ≡ [] → HaveParts modules marks
no_parts modules number typed marks found main before list = record {
  before =
      subst (λ (entry : Option TypedModule). IsSomeAnd entry
      (λ (one : TypedModule). marks.before_main ≤ numbered_bodies one.procedures))
      (sym (ap (slice_get modules) main ∙ found)) (omega (arith, before));
  parts = subst (AreInModules modules) (sym list) tt;
}
