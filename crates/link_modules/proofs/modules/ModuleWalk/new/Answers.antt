use Rattle.link_modules.proofs.Prelude.{sym, subst, IsObjectModule, module_renamed}
use Rattle.link_modules.proofs.modules.ModuleWalk.new.Goals as goal

pub returns-clause-same : goal.returns-clause-same
returns-clause-same c = module_renamed c.args.object.now _ _ c.publics.ensures c.externals.ensures

pub returns-clause-valid : goal.returns-clause-valid
returns-clause-valid c =
    subst IsObjectModule (sym (module_renamed c.args.object.now _ _ c.publics.ensures c.externals.ensures))
    c.name.ensures.object
