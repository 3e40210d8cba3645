-- The names that the proofs of this crate cite, passed on from one place. Declares nothing.
pub use Rattle.std.proofs.{Common.{Bool, Contains, List, None, Option, Some, [], ap, arith, false, inl, inr, leb-false, leb-true, length, map, max, min, nat_le, option_map, refl, replicate, slice_get, slice_index_or, slice_set, subst, suc, sym, take, true, zero, ℕ, ◌++◌, ◌+◌, ◌<◌, ◌==◌, ◌∙◌, ◌∷◌, ◌≡◌, ◌≤◌, ◌⊎◌}, Math.Dec.{eqb-suc-zero}, lemmas.{List.{length-map, length-replicate, length-reverse, length-set, reverse-append}, Option.{slice_get-map, slice_get_within}}}
pub use Rattle.std.specs.{List.{AllByRecursion}, Option.{option_map_or}, Prelude.{reverse}}
pub use Rattle.mem80.proofs.Lists.{take_found}
pub use Rattle.call_graphs.specs.{Chains.{Body, HasCycle, IsChain, callees_of, charge_in, charges_of_chain, end_of_chain}, declared.{path.Visit.{Visit}, search.{Mark.{Mark, TheVariants.{Done, New, Open}}, Progress.{Progress, TheVariants.{Cyclic, Finished, Going}}}}, internal.Needs.{GreatestOf, HasNeed, NeedOf, capped, of_body, of_more, of_none}, internal.Views.{body_view}, internal.{Search.{Searched, begun, finished, graph_view, mark_of, need_shown, passed, search_view, stepped, stepped_to}, Searching.{GoesTo, HasPassed, HaveNeeds, IsOnPath, IsTrueOf, Leads, Searches, left, waiting, weight}}}
unfoldable pub use Rattle.call_graphs.specs.{internal.Needs.{Answers}, internal.Searching.{Finds}}
