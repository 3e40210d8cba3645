use Rattle.object_commands.proofs.{Prelude.{refl}, Listings.{shown_by}}
use Rattle.object_commands.proofs.listing.shown_at.Goals as goal

pub returns-clause-shown : goal.returns-clause-shown
returns-clause-shown c = shown_by _ _ _ _ _ _ _ refl c.instruction_in-first.ensures c.if_whole.ensures
