use Rattle.interpreter.proofs.Prelude.{length, map, zip, vec_items, refl, ◌∙◌, slice_get_read, object_view, contents_of_list, contents_of_object, module_placement_view, address_of, site_view, with_all}
use Rattle.interpreter.proofs.ModuleLoops.{module_put}
use Rattle.interpreter.proofs.contents.modules.put_module.Goals as goal

pub returns : goal.returns
returns c =
    module_put c.args.site.now (module_placement_view c.args.placed.now) c.in-Some.typed.now c.args.memory.now
    c.put_objects.new.memory c.put_lists.new.memory
    (slice_get_read c.args.site.now.program.now.modules.now (length c.args.site.now.program.now.modules.now)
    c.args.site.now.number_of_module c.in-Some.typed.now refl c.in-Some.ensures.lookup.3.0
    c.in-Some.ensures.lookup.1)
    (c.put_objects.ensures
    ∙ (λ i. with_all c.args.memory.now
    (map (contents_of_object (address_of (site_view c.args.site.now)))
    (zip (map object_view (c.as_slice.ensures.value i)) (c.as_slice-2.ensures.value i)))))
    (c.put_lists.ensures
    ∙ (λ i. with_all c.put_objects.new.memory
    (map contents_of_list (zip (map vec_items (c.as_slice-3.ensures.value i))
    (c.as_slice-4.ensures.value i)))))
