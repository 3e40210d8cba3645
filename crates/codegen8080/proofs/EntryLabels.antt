-- The labels of the entry of a procedure: a loop that pushes zeros takes one.
use Rattle.codegen8080.proofs.Prelude.{◌≡◌, ◌∙◌, append-nil, ℕ, ◌+◌, ◌<◌, Bool, true, false, if◌then◌else◌, List, [], ◌∷◌, ◌++◌, refl, arith, ProcedureKind, Parameter, Body, Planned, entry_labels, entry_steps, label_of}
use Rattle.std.specs.Prelude.{◌/◌, ◌%◌, nat_eq, nat_le, replicate}
use Rattle.isa8080.specs.declared.instr.Instr.TheVariants.{Push}
use Rattle.isa8080.specs.declared.instr.StackPair.TheVariants.{StackDe}
use Rattle.layout.specs.Storage.{Storage}
use Rattle.treecode.specs.internal.Nodes.{Nodes, nodes_of}
use Rattle.treecode.specs.declared.procedure.ProcedureKind.TheVariants as kinds
use Rattle.codegen8080.specs.declared.procedures.TheConstants.{PUSHED_WORDS}
unfoldable use Rattle.codegen8080.specs.internal.Procedures.{entry_labels_by, entry_steps_by, frame_entry_steps, pushes_labels, pushes_steps, zeros_labels, zeros_steps}
use Rattle.codegen8080.proofs.{FormLabels.{FormLabels, NoPartFirst, NoParts, PlanOf, TakesLabels, after_bare, after_step, bare_plan, either_plan, rising_plan}, Outlines.{Bare, bare, bare_repeated, last_argument_is_bare, odd_byte_is_bare, push_loop_shows, shows_both, static_entry_is_bare}}

module _ {nodes : Nodes} {storage : Storage} {labels : List ℕ} {bound : ℕ} {first : ℕ} where
  then_bare : {plan more : List Planned} {count : ℕ} → PlanOf nodes storage labels bound first [] plan count → Bare more → PlanOf nodes storage labels bound first [] (plan ++ more) count
  then_bare is more = record {
    shown = is.shown;
    shows = record { is = (shows_both is.shows more).is ∙ append-nil is.shown };
    differ = is.differ;
    within = is.within;
    held = is.held;
    parts = is.parts;
    some = is.some;
    apart = is.apart;
  }

  pushes_plan : (words : ℕ) → first + pushes_labels words < 4294967295
      → PlanOf nodes storage labels bound first [] (pushes_steps words first) (pushes_labels words)
  unfolding pushes_steps pushes_labels
  pushes_plan words few =
      either_plan (nat_le words PUSHED_WORDS)
      (λ less. bare_plan (bare_repeated words (Push StackDe)))
      (λ less. then_bare
      (rising_plan (push_loop_shows (words / 4 % 256) (label_of first)) (omega arith, omega arith)
      (NoPartFirst tt NoParts) (λ one is. absurd is) (λ differ. tt))
      (bare_repeated (words % 4) (Push StackDe)))
      few

  zeros_plan : (bytes : ℕ) → first + zeros_labels bytes < 4294967295
      → PlanOf nodes storage labels bound first [] (zeros_steps bytes first) (zeros_labels bytes)
  unfolding zeros_steps zeros_labels
  zeros_plan bytes few =
      either_plan (nat_eq bytes 0)
      (λ less. bare_plan (bare refl))
      (λ less. after_step refl (then_bare (pushes_plan (bytes / 2) less) (odd_byte_is_bare bytes)))
      few

  frame_entry_plan : (parameters : List Parameter) (bytes : ℕ) → first + zeros_labels bytes < 4294967295
      → PlanOf nodes storage labels bound first [] (frame_entry_steps parameters bytes first) (zeros_labels bytes)
  unfolding frame_entry_steps
  frame_entry_plan parameters bytes few =
      after_bare (last_argument_is_bare parameters) (then_bare (zeros_plan bytes few) (bare refl))

  entry_by_plan : (kind : ProcedureKind) (body : Body) → first + entry_labels_by kind body < 4294967295
      → PlanOf nodes storage labels bound first [] (entry_steps_by kind body first) (entry_labels_by kind body)
  unfolding entry_steps_by entry_labels_by
  entry_by_plan kinds.Reentrant body few =
      frame_entry_plan body.procedure.now.parameters.items body.frame.now.variable_bytes few
  entry_by_plan kinds.Static body few = bare_plan (static_entry_is_bare body.procedure.now.parameters.items)
  entry_by_plan (kinds.External name) body few =
      bare_plan (static_entry_is_bare body.procedure.now.parameters.items)

pub entry_form :
    {storage : Storage} {labels : List ℕ} {bound : ℕ} (body : Body) (first : ℕ)
    → first + entry_labels body < 4294967295
    → FormLabels body storage labels bound (entry_steps body first) first (entry_labels body) []
entry_form body first few = TakesLabels (entry_by_plan body.procedure.now.kind body few)
