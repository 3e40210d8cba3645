use Rattle.stack_compiler.proofs.Prelude.{◌<◌, AreOfModules, Program, ap, subst, sym}
use Rattle.stack_compiler.specs.internal.Counted.{AreInModules}
use Rattle.stack_compiler.proofs.Marked.{as_many_modules}
use Rattle.stack_compiler.proofs.compiler.stack_marks.Goals as goal

pub returns-clause-of_modules : goal.returns-clause-of_modules
returns-clause-of_modules c =
    subst (λ count. AreOfModules count c.in_ok-marks.marks.items)
    (as_many_modules _ _ (ap (λ (program : Program). program.modules) c.in_ok-program.ensures.placed))
    c.in_ok-marks.ensures.of_modules

pub returns-clause-in_modules : goal.returns-clause-in_modules
returns-clause-in_modules c =
    subst (λ modules. AreInModules modules c.in_ok-marks.marks.items)
    (ap (λ (program : Program). program.modules) c.in_ok-program.ensures.placed)
    c.in_ok-marks.ensures.in_modules

pub returns-clause-begins : goal.returns-clause-begins
returns-clause-begins c = λ some.
    c.in_ok-marks.ensures.begins
    (subst (λ count. 0 < count)
    (sym (as_many_modules _ _ (ap (λ (program : Program). program.modules) c.in_ok-program.ensures.placed))) some)
