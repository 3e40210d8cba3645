-- What is said of the code of a module does not depend on where its tree code lies.
use Rattle.procedure_laws.proofs.Prelude.{◌≡◌, ℕ, sym, subst, Bor, TreeModule, TreeProcedure, Entries, MainStands, ModuleCode, ModuleLies, ProcedureStands, with_tree}

-- a procedure stands there likewise
stands_with :
    (code : ModuleCode) (place : ℕ × ℕ) (procedure : TreeProcedure) (entry : ℕ)
    → ProcedureStands code procedure entry
    → ProcedureStands (with_tree code (record { ref_ptr = place; now = code.tree.now })) procedure entry
stands_with code place procedure entry stands = record {
  body = stands.body;
  tree = stands.tree;
  is_procedure = stands.is_procedure;
  frame = stands.frame;
  first = stands.first;
  begins = stands.begins;
  begun = stands.begun;
  entry_written = stands.entry_written;
  statements = stands.statements;
  last = stands.last;
  list_written = stands.list_written;
  ends = stands.ends;
  end_written = stands.end_written;
  to = stands.to;
  there = stands.there;
}

lies_with :
    (code : ModuleCode) (entries : Entries) (place : ℕ × ℕ)
    → ModuleLies code entries
    → ModuleLies (with_tree code (record { ref_ptr = place; now = code.tree.now })) entries
lies_with code entries place lies = record {
  is_module = lies.is_module;
  joined = lies.joined;
  globals = lies.globals;
  types = lies.types;
  jumps = lies.jumps;
  frames = lies.frames;
  parameters = lies.parameters;
  reentrant = lies.reentrant;
  sized = lies.sized;
  apart = lies.apart;
  bases = lies.bases;
  lists = lies.lists;
  lowered = lies.lowered;
  numbers = lies.numbers;
  script = lies.script;
  placed = lies.placed;
  resolves = lies.resolves;
  words = lies.words;
  stack_end = lies.stack_end;
  routines = lies.routines;
  procedures = λ number procedure there own.
      stands_with code place procedure (code.layout.place_of number)
      (lies.procedures number procedure there own);
  own = lies.own;
  externals = lies.externals;
}

-- a module lies where it does, with its tree code anywhere
pub lies_anywhere :
    (code : ModuleCode) (entries : Entries) (tree : Bor TreeModule)
    → tree.now ≡ code.tree.now
    → ModuleLies code entries
    → ModuleLies (with_tree code tree) entries
lies_anywhere code entries tree same lies =
    subst (λ (now : TreeModule). ModuleLies
    (with_tree code (record { ref_ptr = tree.ref_ptr; now = now })) entries)
    (sym same) (lies_with code entries tree.ref_ptr lies)

pub stands_anywhere :
    (code : ModuleCode) (tree : Bor TreeModule) (procedure : TreeProcedure) (entry : ℕ)
    → tree.now ≡ code.tree.now
    → ProcedureStands code procedure entry
    → ProcedureStands (with_tree code tree) procedure entry
stands_anywhere code tree procedure entry same stands =
    subst (λ (now : TreeModule). ProcedureStands
    (with_tree code (record { ref_ptr = tree.ref_ptr; now = now })) procedure entry)
    (sym same) (stands_with code tree.ref_ptr procedure entry stands)

main_with :
    (code : ModuleCode) (place : ℕ × ℕ) (start : ℕ)
    → MainStands code start
    → MainStands (with_tree code (record { ref_ptr = place; now = code.tree.now })) start
main_with code place start stands = record {
  body = stands.body;
  tree = stands.tree;
  is_main = stands.is_main;
  frame = stands.frame;
  statements = stands.statements;
  last = stands.last;
  list_written = stands.list_written;
  to = stands.to;
  there = stands.there;
}

pub main_anywhere :
    (code : ModuleCode) (tree : Bor TreeModule) (start : ℕ)
    → tree.now ≡ code.tree.now
    → MainStands code start
    → MainStands (with_tree code tree) start
main_anywhere code tree start same stands =
    subst (λ (now : TreeModule). MainStands
    (with_tree code (record { ref_ptr = tree.ref_ptr; now = now })) start)
    (sym same) (main_with code tree.ref_ptr start stands)
