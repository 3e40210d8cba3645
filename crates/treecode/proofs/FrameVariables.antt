-- A variable that is added to the frame of a procedure.
use Rattle.treecode.proofs.Prelude.{◌≡◌, ℕ, ◌<◌, ◌≤◌, List, length, map, get_or, min, Option, Some, option_map, slice_get, slice_set, sym, ap, ◌∙◌, option_map_or, map-set, slice_get-get_or, slice_get-map, slice_get_past, FrameVariable, TreeProcedure, Heading, heading_of, variable_number, with_variable, with_variable_in}

module _ (all : List TreeProcedure) (number : ℕ) where
  heading_found : (old : TreeProcedure) → number < length all → old ≡ get_or all number old
      → slice_get (map heading_of all) number ≡ Some (heading_of old)
  heading_found old within is =
      slice_get-map heading_of all number
      ∙ ap (option_map heading_of) (slice_get-get_or all number old within ∙ ap Some (sym is))

  pub variable_put : (old new : TreeProcedure) (variable : FrameVariable)
      → number < length all → old ≡ get_or all number old
      → heading_of new ≡ with_variable variable (heading_of old)
      → map heading_of (slice_set all number new) ≡ with_variable_in (map heading_of all) number variable
  variable_put old new variable within is put =
      map-set heading_of all number new
      ∙ ap (slice_set (map heading_of all) number) put
      ∙ sym (ap (λ (found : Option Heading). option_map_or
      (λ (heading : Heading). slice_set (map heading_of all) number (with_variable variable heading))
      found (map heading_of all)) (heading_found old within is))

  pub variable_numbered : (old : TreeProcedure) → number < length all → old ≡ get_or all number old
      → min (length (heading_of old).frame) 65535 ≡ variable_number (map heading_of all) number
  variable_numbered old within is =
      sym (ap (λ (found : Option Heading). option_map_or
      (λ (heading : Heading). min (length heading.frame) 65535) found 0)
      (heading_found old within is))

  pub none_numbered : length all ≤ number → 0 ≡ variable_number (map heading_of all) number
  none_numbered past =
      sym (ap (λ (found : Option Heading). option_map_or
      (λ (heading : Heading). min (length heading.frame) 65535) found 0)
      (slice_get-map heading_of all number ∙ ap (option_map heading_of) (slice_get_past all number past)))
