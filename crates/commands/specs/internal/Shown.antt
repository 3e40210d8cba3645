-- What may be shown of sources.
use Rattle.std.specs.Prelude.{Bool, true, false}
use Rattle.command_line.specs.declared.orders.PlaceAction.{PlaceAction}
use Rattle.command_line.specs.declared.orders.PlaceAction.TheVariants.{Listing, Symbols}

-- a listing, or the symbols
abbrev pub is_shown : PlaceAction → Bool
is_shown Listing = true
is_shown Symbols = true
is_shown action = false
