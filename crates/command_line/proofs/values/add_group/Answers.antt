use Rattle.command_line.proofs.{Prelude.{◌≡◌, IfOk, List, None, Option, Some, ap, if_read, in_front, subst, sym, InputByte}, Inputs.{group_is, no_colon, short_group}}
use Rattle.command_line.proofs.values.add_group.Goals as goal

pub returns-in_default : goal.returns-in_default
returns-in_default c = short_group c.args.input.now.items c.args.group.now c.in_default.len_below

pub returns-then-colon-ne58 : goal.returns-then-colon-ne58
returns-then-colon-ne58 c =
    no_colon c.args.input.now.items c.args.group.now c.in-len3-up.len_at_least c.if-colon-ne58.true

pub returns-in-Some : goal.returns-in-Some
returns-in-Some c =
    subst (λ (found : Option (List InputByte)). IfOk c.add_bytes.result
    (λ is_read. in_front c.args.input.now.items found ≡ if_read is_read c.add_bytes.new.input.items))
    (sym (group_is c.args.group.now (Some c.in-Some.port) c.in-len3-up.len_at_least c.if-colon-ne58.false
    c.in-Some.ensures)) c.add_bytes.ensures

pub returns-in-None : goal.returns-in-None
returns-in-None c =
    ap (in_front c.args.input.now.items)
    (group_is c.args.group.now None c.in-len3-up.len_at_least c.if-colon-ne58.false c.in-None.ensures)
