use Rattle.link_modules.proofs.Prelude.{arith, Code, Data, grown_step}
use Rattle.link_modules.proofs.contents.add_modules.Goals as goal

pub loop-one-preserved : goal.loop-one-preserved
loop-one-preserved g c = record {
  code =
      grown_step c.args.publics.now Code c.loop-one.code c.add_module.new.code _ c.args.placed.now
      c.loop-one.one-index c.one-item.result c.loop-one.invariant.code (omega arith) c.one-item.is
      c.in_ok-add_module.ensures.code;
  data_bytes =
      grown_step c.args.publics.now Data c.loop-one.data_bytes c.add_module.new.data_bytes _ c.args.placed.now
      c.loop-one.one-index c.one-item.result c.loop-one.invariant.data_bytes (omega arith) c.one-item.is
      c.in_ok-add_module.ensures.data_bytes;
}
