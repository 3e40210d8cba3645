use Rattle.listings.proofs.{Prelude.{refl, typed_of, owner_text}, SymbolTexts.{addresses_ended, object_next, objects_ended}}
use Rattle.listings.proofs.symbol_lines.put_objects.Goals as goal

pub returns-in_default-addresses : goal.returns-in_default-addresses
returns-in_default-addresses c =
    addresses_ended (typed_of c.args.view.now) _ c.loop-objects.number c.loop-objects.objects.now
    c.loop-objects.addresses.now c.args.lines.now.items c.loop-objects.lines.items
    c.loop-objects.invariant
    c.in_default-addresses.len_below

pub loop-objects-preserved : goal.loop-objects-preserved
loop-objects-preserved c =
    object_next (typed_of c.args.view.now) _ c.loop-objects.number c.in_ok-number.number
    c.loop-objects.objects.now c.loop-objects.addresses.now c.object-item.result _ _ _
    (owner_text c.owner_of-owner.result) c.args.lines.now.items c.loop-objects.lines.items
    c.put_object.new.lines.items c.in-len1-up.len_at_least c.object-item.is
    c.in-len1-up-addresses.len_at_least refl c.in_ok-number.ensures.ok c.loop-objects.invariant
    c.owner_of-owner.ensures c.in_ok-put_object.ensures

pub returns : goal.returns
returns c =
    objects_ended (typed_of c.args.view.now) _ c.loop-objects.number c.loop-objects.objects.now
    c.loop-objects.addresses.now c.args.lines.now.items c.loop-objects.lines.items
    c.loop-objects.invariant
    c.in_default.len_below
