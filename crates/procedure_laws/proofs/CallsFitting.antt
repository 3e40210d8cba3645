-- Calls in a module of a program give values of their types, and leave bytes.
use Rattle.procedure_laws.proofs.Prelude.{◌≡◌, ℕ, Some, slice_get, refl, TypedModule, HasTypes, IsTypedCode, has_types, calls_fit, Entries, context_in, ModuleCode, ModuleLies, CallsOfModuleFit}

-- a module whose code lies is one of tree code
pub is_typed_code : (code : ModuleCode) (entries : Entries) → ModuleLies code entries → IsTypedCode code.typed
is_typed_code code entries lies = record {
  types = lies.types;
  storage = code.storage;
  tree = code.tree.now;
  lowered = lies.lowered;
  numbers = lies.numbers;
}

pub calls_of_module_fit :
    (code : ModuleCode) (entries : Entries) (bound : ℕ)
    → ModuleLies code entries
    → HasTypes code.program
    → CallsOfModuleFit code bound
calls_of_module_fit code entries bound lies program within frame number room shape =
    calls_fit (context_in code within frame bound number room shape) bound refl program lies.is_module

-- where the code of each module of the program lies, the program has types
pub program_has_types :
    (code : ModuleCode) (entries : Entries)
    → ModuleLies code entries
    → ((number : ℕ) (typed : TypedModule) → slice_get code.program.modules number ≡ Some typed
    → IsTypedCode typed)
    → HasTypes code.program
program_has_types code entries lies each = has_types code.program lies.joined lies.globals lies.script each
