-- Calls, by what the tables have.
use Rattle.stack_machine.proofs.Prelude.{◌≡◌, ◌<◌, false, arith, length, rules, ◌==◌, program_in, weight_of_calls}
use Rattle.stack_machine.proofs.Entering.{call_ends, call_stops, enters, sank_by_call}
use Rattle.stack_machine.proofs.machine.StackMachine.call.Goals as goal

pub returns-in_default : goal.returns-in_default
returns-in_default c =
    let some : (c.args.self.now.budget == 0) ≡ false = search (rules, c.if-self-eq0.false) in
    record {
      performs =
          λ script events.
          call_ends (program_in c.args.loaded script) c.args.loaded.code.now c.args.loaded.tables.now events
          c.args.self.now c.args.number_of_module c.args.procedure c.args.arguments c.requires.tables some _
          c.in_default.ensures;
      sinks = tt;
    }

pub returns-then-self-entry : goal.returns-then-self-entry
returns-then-self-entry c =
    let some : (c.args.self.now.budget == 0) ≡ false = search (rules, c.if-self-eq0.false) in
    record {
      performs =
          λ script events.
          call_stops (program_in c.args.loaded script) c.args.loaded.code.now c.args.loaded.tables.now events
          c.args.self.now c.args.number_of_module c.args.procedure c.args.arguments c.requires.tables some
          c.in-Some.entry c.in-Some.ensures _ c.if-self-entry.true;
      sinks = tt;
    }

pub returns : goal.returns
returns c =
    let some : (c.args.self.now.budget == 0) ≡ false = search (rules, c.if-self-eq0.false) in
    let fits : c.args.self.now.room < 65536 = omega arith in
    rw (c.in_ok-push.ensures, c.in_ok-open_frame.ensures)
    (record {
      performs =
          λ script events.
          enters (program_in c.args.loaded script) c.args.loaded.code.now c.args.loaded.tables.now events
          c.args.self.now c.args.number_of_module c.args.procedure c.args.arguments c.requires.tables some
          c.in-Some.entry c.in-Some.ensures c.if-self-entry.false fits;
      sinks =
          sank_by_call c.args.self.now.budget (length c.args.loaded.code.now) c.args.self.now.at
          c.in-Some.entry.begin
          (weight_of_calls (length c.args.loaded.code.now) c.args.self.now.calls) some c.requires.at;
    })
