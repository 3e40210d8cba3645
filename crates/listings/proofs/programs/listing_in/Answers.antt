use Rattle.listings.proofs.{Prelude.{◌≡◌}, ProgramLists.{views_whole}}
use Rattle.listings.proofs.programs.listing_in.Goals as goal

pub returns : goal.returns
returns c =
    let pieces : c.pieces.result.now ≡ c.args.built.now.image.pieces = cc in
    views_whole c.as_slice.result.now c.in_ok-names.names.items c.pieces.result.now
    c.args.built.now.image.pieces c.args.views.now c.loop-rest.rest.now c.new-lines.result.items
    c.loop-rest.lines.items
    pieces c.as_slice.ensures.value c.new-lines.ensures.items c.in_ok-names.ensures c.loop-rest.invariant
    c.in_default.len_below
