-- Where a part of a program stands, as the code holds it, in the words of definitions.
use Rattle.std.specs.Prelude.{map}
use Rattle.typed_trees.specs.Views.{module_view}
use Rattle.placing.specs.Views.{placement_view}
use Rattle.stack_code.specs.internal.Code.{Site}
use Rattle.stack_compiler.specs.declared.site.Site.{Site as CodeSite}

abbrev pub site_view : CodeSite → Site
site_view site = record {
  modules = map module_view site.program.now.modules.now;
  placement = placement_view site.program.now.placement.now;
  number_of_module = site.number_of_module;
}
