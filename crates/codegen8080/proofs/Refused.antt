-- Refusals of code and of data are those of the module.
use Rattle.codegen8080.proofs.Prelude.{◌≡◌, ℕ, Some, Result, Err, sym, subst, CodeFault, IsFinished, TreeModule, Extends, Written, numbered, IsCodeWritten, contents_items}
use Rattle.failure.specs.{declared.Failure.{Failure}, Failure.{IfFault}}
use Rattle.failure.specs.declared.Failure.TheVariants as failures
use Rattle.asm8080.specs.declared.fault.Fault.TheVariants as code_faults
use Rattle.codegen8080.specs.declared.fault.Fault.{Fault}
use Rattle.codegen8080.specs.declared.fault.Fault.TheVariants as faults
use Rattle.codegen8080.specs.internal.Refusals.{CodeIsNone, DataAreNone, IsNoSegment, MayRefuse}

-- code cannot be finished, since it is too long
pub too_long :
    (written : Written) (A : Type 0) (result : Result A (Failure CodeFault))
    → result ≡ Err (failures.Fault code_faults.TooLong)
    → IfFault result (λ (fault : CodeFault). IsFinished written.code (Err fault))
    → IsNoSegment faults.TooLong written
too_long written A result same given =
    (subst
    (λ (to : Result A (Failure CodeFault)). IfFault to
    (λ (fault : CodeFault). IsFinished written.code (Err fault)))
    same given).1

-- a property of the fault of a result holds for the fault that is passed on
handed_on :
    (A B : Type 0) (before : Result A (Failure Fault)) (result : Result B (Failure Fault))
    (failure : Failure Fault)
    (Before After : Fault → Type 0)
    → before ≡ Err failure
    → result ≡ Err failure
    → ((fault : Fault) → Before fault → After fault)
    → IfFault before Before
    → IfFault result After
handed_on A B before result failure Before After was same says given =
    subst (λ (to : Result B (Failure Fault)). IfFault to After) (sym same)
    (go failure (subst (λ (from : Result A (Failure Fault)). IfFault from Before) was given))
  where
    go : (failure : Failure Fault) → IfFault {A = A} (Err failure) Before
        → IfFault {A = B} (Err failure) After
    go (failures.Fault fault) given = says fault given
    go failures.Memory given = tt

-- the code of a module is refused
pub code_refused :
    (tree : TreeModule) (start : ℕ) (code : Written) (A B : Type 0) (before : Result A (Failure Fault))
    (result : Result B (Failure Fault)) (failure : Failure Fault)
    → before ≡ Err failure
    → result ≡ Err failure
    → IsCodeWritten tree start code
    → IfFault before (λ fault. IsNoSegment fault code)
    → IfFault result (λ fault. MayRefuse tree fault)
code_refused tree start code A B before result failure was same is none =
    handed_on A B before result failure (λ fault. IsNoSegment fault code)
    (λ fault. MayRefuse tree fault) was same
    (λ fault no. CodeIsNone start code is no) none

-- the data of a module are refused
pub data_refused :
    (tree : TreeModule) (start : ℕ) (code variables : Written) (A B : Type 0)
    (before : Result A (Failure Fault))
    (result : Result B (Failure Fault)) (failure : Failure Fault)
    → before ≡ Err failure
    → result ≡ Err failure
    → IsCodeWritten tree start code
    → numbered variables (contents_items tree.variables.items) ≡ Some variables.code.items
    → Extends code.externals variables.externals
    → IfFault before (λ fault. IsNoSegment fault variables)
    → IfFault result (λ fault. MayRefuse tree fault)
data_refused tree start code variables A B before result failure was same is are grown none =
    handed_on A B before result failure (λ fault. IsNoSegment fault variables)
    (λ fault. MayRefuse tree fault) was
    same (λ fault no. DataAreNone start code variables is are grown no) none
