use Rattle.interpreter.proofs.Prelude.{◌≡◌, ◌∙◌, Some, ap, map, option_map, sym, Typed, module_view, placement_view, found_from, found_view, begins_itself, if_ok_then}
use Rattle.join.specs.Views.{modules_in}
use Rattle.interpreter.proofs.Runs.{events_begun, either, fails_as_meant, if_err_then, kept_reached, kept_stopped, stops_as_meant, on_err, budget_spent, started, tables}
use Rattle.interpreter.proofs.program.interpret.Goals as goal

pub returns-in_default-clause-beginning : goal.returns-in_default-clause-beginning
returns-in_default-clause-beginning g c =
    started (modules_in c.args.joined.now) (placement_view c.args.placement.now) c.args.room c.args.memory
    (g.P.Ports.script c.args.ports.now) (g.P.Ports.events c.args.ports.now) c.args.budget.now

pub returns-in_default-compile-clause-beginning : goal.returns-in_default-compile-clause-beginning
returns-in_default-compile-clause-beginning g c =
    started (modules_in c.args.joined.now) (placement_view c.args.placement.now) c.args.room c.args.memory
    (g.P.Ports.script c.args.ports.now) (g.P.Ports.events c.args.ports.now) c.args.budget.now

pub returns-in_default-new-clause-beginning : goal.returns-in_default-new-clause-beginning
returns-in_default-new-clause-beginning g c =
    started (modules_in c.args.joined.now) (placement_view c.args.placement.now) c.args.room c.args.memory
    (g.P.Ports.script c.args.ports.now) (g.P.Ports.events c.args.ports.now) c.args.budget.now

pub run-requires-clause-tables : goal.run-requires-clause-tables
run-requires-clause-tables g c =
    let found : found_from 0 (modules_in c.args.joined.now)
    ≡ Some (c.in-Some.found.number, module_view c.in-Some.found.typed.now) =
    ap (λ (modules : _). found_from 0 (map module_view modules)) (sym c.modules.ensures)
    ∙ sym c.main_module.ensures ∙ ap (option_map found_view) c.in-Some.is in
    tables (modules_in c.args.joined.now) (placement_view c.args.placement.now) c.in-Some.found.number
    (module_view c.in-Some.found.typed.now) c.in-Ok-compile.program found c.in-Ok-compile.ensures

pub returns-in-Some-clause-meaning : goal.returns-in-Some-clause-meaning
returns-in-Some-clause-meaning g c =
    let found : found_from 0 (modules_in c.args.joined.now)
    ≡ Some (c.in-Some.found.number, module_view c.in-Some.found.typed.now) =
    ap (λ (modules : _). found_from 0 (map module_view modules)) (sym c.modules.ensures)
    ∙ sym c.main_module.ensures ∙ ap (option_map found_view) c.in-Some.is in
    if_ok_then _ _ c.run.result
    (λ end stops. stops_as_meant (modules_in c.args.joined.now) (placement_view c.args.placement.now)
    c.args.room c.args.memory c.put_contents.new.memory
    (g.P.Ports.script c.args.ports.now) (g.P.Ports.events c.args.ports.now) _ c.args.budget.now
    c.in-Some.found.number (module_view c.in-Some.found.typed.now)
    c.in-Ok-compile.program found c.requires.jumps c.in-Ok-compile.ensures c.in-Ok.ensures _ _ stops)
    c.run.ensures.ended

pub returns-in-Some-clause-used : goal.returns-in-Some-clause-used
returns-in-Some-clause-used g c =
    let found : found_from 0 (modules_in c.args.joined.now)
    ≡ Some (c.in-Some.found.number, module_view c.in-Some.found.typed.now) =
    ap (λ (modules : _). found_from 0 (map module_view modules)) (sym c.modules.ensures)
    ∙ sym c.main_module.ensures ∙ ap (option_map found_view) c.in-Some.is in
    if_ok_then _ _ c.run.result
    (λ end stops. budget_spent (modules_in c.args.joined.now) (placement_view c.args.placement.now)
    c.args.room c.args.memory c.put_contents.new.memory
    (g.P.Ports.script c.args.ports.now) (g.P.Ports.events c.args.ports.now) _ c.args.budget.now
    c.in-Some.found.number (module_view c.in-Some.found.typed.now)
    c.in-Ok-compile.program found c.requires.jumps c.in-Ok-compile.ensures c.in-Ok.ensures _ _ stops)
    c.run.ensures.ended

pub returns-in-Some-clause-called : goal.returns-in-Some-clause-called
returns-in-Some-clause-called g c =
    let found : found_from 0 (modules_in c.args.joined.now)
    ≡ Some (c.in-Some.found.number, module_view c.in-Some.found.typed.now) =
    ap (λ (modules : _). found_from 0 (map module_view modules)) (sym c.modules.ensures)
    ∙ sym c.main_module.ensures ∙ ap (option_map found_view) c.in-Some.is in
    if_err_then _ _ c.run.result
    (λ fault stops. fails_as_meant (modules_in c.args.joined.now) (placement_view c.args.placement.now)
    c.args.room c.args.memory c.put_contents.new.memory
    (g.P.Ports.script c.args.ports.now) (g.P.Ports.events c.args.ports.now) _ c.args.budget.now
    c.in-Some.found.number (module_view c.in-Some.found.typed.now)
    c.in-Ok-compile.program found c.requires.jumps c.in-Ok-compile.ensures c.in-Ok.ensures fault _ stops)
    c.run.ensures.called

pub returns-in-Some-clause-beginning : goal.returns-in-Some-clause-beginning
returns-in-Some-clause-beginning g c =
    let found : found_from 0 (modules_in c.args.joined.now)
    ≡ Some (c.in-Some.found.number, module_view c.in-Some.found.typed.now) =
    ap (λ (modules : _). found_from 0 (map module_view modules)) (sym c.modules.ensures)
    ∙ sym c.main_module.ensures ∙ ap (option_map found_view) c.in-Some.is in
    on_err _ _ c.run.result
    (λ reaches. events_begun (modules_in c.args.joined.now) (placement_view c.args.placement.now) c.args.room
    c.args.memory c.put_contents.new.memory
    (g.P.Ports.script c.args.ports.now) (g.P.Ports.events c.args.ports.now) _ c.args.budget.now
    c.in-Some.found.number (module_view c.in-Some.found.typed.now)
    c.in-Ok-compile.program found c.requires.jumps c.in-Ok-compile.ensures c.in-Ok.ensures reaches)
    c.run.ensures.reached

pub returns-in_default-clause-kept : goal.returns-in_default-clause-kept
returns-in_default-clause-kept g c = begins_itself (g.P.Ports.events c.args.ports.now)

pub returns-in_default-compile-clause-kept : goal.returns-in_default-compile-clause-kept
returns-in_default-compile-clause-kept g c = begins_itself (g.P.Ports.events c.args.ports.now)

pub returns-in_default-new-clause-kept : goal.returns-in_default-new-clause-kept
returns-in_default-new-clause-kept g c = begins_itself (g.P.Ports.events c.args.ports.now)

pub returns-in-None-clause-kept : goal.returns-in-None-clause-kept
returns-in-None-clause-kept g c = begins_itself (g.P.Ports.events c.args.ports.now)

pub returns-in-Some-clause-kept : goal.returns-in-Some-clause-kept
returns-in-Some-clause-kept g c =
    either _ _ _ c.run.result
    (λ end stops. kept_stopped _ (module_view c.in-Some.found.typed.now) _ _
    (g.P.Ports.events c.args.ports.now) _ c.args.budget.now _ _ stops)
    (λ reaches. kept_reached _ (module_view c.in-Some.found.typed.now) _ _
    (g.P.Ports.events c.args.ports.now) _ c.args.budget.now reaches)
    c.run.ensures.ended c.run.ensures.reached
