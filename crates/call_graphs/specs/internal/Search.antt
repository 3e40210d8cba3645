-- A search through the bodies of a call graph, step by step.
use Rattle.std.specs.Prelude.{ℕ, ◌+◌, List, ◌∷◌, map, max, min, slice_get, slice_set, Option, Some, None, if◌then◌else◌}
use Rattle.std.specs.Option.{option_map_or}
use Rattle.call_graphs.specs.declared.path.Visit.{Visit}
use Rattle.call_graphs.specs.declared.search.Mark.{Mark}
use Rattle.call_graphs.specs.declared.search.Mark.TheVariants.{New, Open, Done}
use Rattle.call_graphs.specs.declared.search.Progress.{Progress}
use Rattle.call_graphs.specs.declared.search.Progress.TheVariants.{Going, Finished, Cyclic}
use Rattle.call_graphs.specs.declared.search.Search.{Search}
use Rattle.call_graphs.specs.internal.Path.{is_ended}
use Rattle.call_graphs.specs.Chains.{Body, callees_of, charge_in}
use Rattle.call_graphs.specs.internal.Views.{body_view}

-- what is known of a body; one that is not there calls nothing
abbrev pub mark_of : List Mark → (body : ℕ) → Mark
mark_of marks body = option_map_or (λ (mark : Mark). mark) (slice_get marks body) (Done 0)

-- the state of a search: what is known of the bodies, and those that it is within, the last one first
pub record Searched : Type 0 where
  pub marks : List Mark
  pub path : List Visit

-- the state of the code's search, and its graph
abbrev pub search_view : Search → Searched
search_view search = record { marks = search.marks.items; path = search.path }

abbrev pub graph_view : Search → List Body
graph_view search = map body_view search.graph.now

-- a body that is begun
abbrev pub begun : (body : ℕ) → Searched → Searched
begun body s = record {
  marks = slice_set s.marks body Open;
  path = record { body = body; next = 0; greatest = 0 } ∷ s.path;
}

-- a call of a body is passed whose need is known
abbrev pub passed : Visit → (need : ℕ) → Visit
passed visit need = record visit { next = visit.next + 1; greatest = max visit.greatest need }

-- a step, where the next call of a visit is one of this body, by what is known of that
abbrev pub called : Mark → Visit → (callee : ℕ) → Searched → Searched × Progress
called (Done need) visit callee s = (record s { path = passed visit need ∷ s.path }, Going)
called Open visit callee s = (s, Cyclic)
called New visit callee s = (begun callee (record s { path = visit ∷ s.path }), Going)

abbrev pub progress_after : (need : ℕ) → List Visit → Progress
progress_after need path = if is_ended path then Finished need else Going

abbrev pub need_shown : List Body → Visit → ℕ
need_shown graph visit = min (charge_in graph visit.body + visit.greatest) 4294967295

-- a step, if a visit has no further call
abbrev pub finished : List Body → Visit → Searched → Searched × Progress
finished graph visit s = (
  record s { marks = slice_set s.marks visit.body (Done (need_shown graph visit)) },
  progress_after (need_shown graph visit) s.path,
)

-- a step with the last visit, which was taken from the path
abbrev pub stepped_to : Option ℕ → List Body → Visit → Searched → Searched × Progress
stepped_to None graph visit s = finished graph visit s
stepped_to (Some callee) graph visit s = called (mark_of s.marks callee) visit callee s

abbrev pub stepped : List Body → Visit → Searched → Searched × Progress
stepped graph visit s = stepped_to (slice_get (callees_of graph visit.body) visit.next) graph visit s
