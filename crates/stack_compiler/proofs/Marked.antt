-- The marks of the parts of code, one by one: each is of a module of the program.
use Rattle.std.proofs.lemmas.List.{length-map}
use Rattle.stack_compiler.proofs.Prelude.{◌≡◌, ℕ, ◌+◌, ◌<◌, ◌≤◌, List, [], ◌∷◌, ◌++◌, length, map, drop, get_or, ap, subst, sym, ◌∙◌, append_assoc, append-nil, all_append, PartMark, ProgramMarks, StackMark, AreMarksOf, AreOfModules, main_mark, stack_mark, drop_item, at_drop_all, Typed, module_view}

module _ (number before : ℕ) (made total : List StackMark) (marks : List PartMark) (i : ℕ)
    (rest : made ++ map (stack_mark number before) (drop i marks) ≡ total) where
  pub mark_added : (mark : PartMark) (now : List StackMark) → i < length marks → mark ≡ get_or marks i mark
      → now ≡ made ++ stack_mark number before mark ∷ []
      → now ++ map (stack_mark number before) (drop (i + 1) marks) ≡ total
  mark_added mark now within is given =
      ap (λ list. list ++ map (stack_mark number before) (drop (i + 1) marks)) given
      ∙ append_assoc made (stack_mark number before mark ∷ [])
      (map (stack_mark number before) (drop (i + 1) marks))
      ∙ sym (drop_item (λ left. made ++ map (stack_mark number before) left) marks i mark within is)
      ∙ rest

  pub marks_added : length marks ≤ i → made ≡ total
  marks_added past =
      sym (append-nil made)
      ∙ sym (at_drop_all (λ left. made ++ map (stack_mark number before) left) marks i past) ∙ rest

-- the marks of one module are of a module of the program
module _ (count number before : ℕ) (within : number < count) where
  pub of_one_module : (marks : List PartMark) → AreOfModules count (map (stack_mark number before) marks)
  of_one_module [] = tt
  of_one_module (mark ∷ others) = (within, of_one_module others)

  pub and_of_one : (list : List StackMark) (marks : List PartMark) → AreOfModules count list
      → AreOfModules count (list ++ map (stack_mark number before) marks)
  and_of_one list marks all =
      all_append (λ (mark : StackMark). mark.number_of_module < count) list
      (map (stack_mark number before) marks) all (of_one_module marks)

pub module_marked : (count number : ℕ) (old new : ProgramMarks) (marks : List PartMark) → number < count
    → AreMarksOf count old
    → new.list.items ≡ old.list.items ++ map (stack_mark number 0) marks
    → new.main_module ≡ old.main_module → AreMarksOf count new
module_marked count number old new marks within stand list main = record {
  main = subst (λ (one : ℕ). one < count) (sym main) stand.main;
  of_modules =
      subst (AreOfModules count) (sym list)
      (and_of_one count number 0 within old.list.items marks stand.of_modules);
}

-- and so are all marks of a program
pub program_marked : (count : ℕ) (marks : ProgramMarks) (main : List PartMark) (list : List StackMark)
    → AreMarksOf count marks
    → list ≡ main_mark marks.main_module ∷ map (stack_mark marks.main_module marks.before_main) main
    ++ marks.list.items
    → AreOfModules count list
program_marked count marks main list stand is =
    subst (AreOfModules count) (sym is) (
      stand.main,
      all_append (λ (mark : StackMark). mark.number_of_module < count)
          (map (stack_mark marks.main_module marks.before_main) main) marks.list.items
          (of_one_module count marks.main_module marks.before_main stand.main main) stand.of_modules,
    )

-- a program has as many modules where it lies
pub as_many_modules : (modules others : List Typed) → map module_view modules ≡ map module_view others
    → length modules ≡ length others
as_many_modules modules others same =
    sym (length-map modules module_view) ∙ ap length same ∙ length-map others module_view
