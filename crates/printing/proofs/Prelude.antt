-- The names that the proofs of this crate cite, passed on from one place. Declares nothing.
pub use Rattle.std.proofs.{Common.{Err, List, Ok, OnErr, Option, Result, [], ap, append-nil, append_assoc, ap₂, arith, drop, get_or, length, refl, subst, sym, take, take-append-drop, take_all, ℕ, ◌*◌, ◌++◌, ◌+◌, ◌-◌, ◌<◌, ◌∙◌, ◌∷◌, ◌≡◌, ◌≤◌}, KnownBytes.{Appends-trans}, Math.Seq.{take-add, take-append-add}, lemmas.Grind.{common_steps}, lemmas.List.{take-append-le, take_more}, lemmas.List.Concat.{flat_map-append}}
pub use Rattle.std.specs.{Io.KnownBytes.{Appends}, List.{flat_map}}
pub use Rattle.failure.proofs.WritingLemmas.{beginning_after, on_err}
pub use Rattle.failure.specs.Writing.{AppendsBeginning}
pub use Rattle.ports.specs.{Events.{IsBeginning}, declared.event.Event.{Event}}
pub use Rattle.printing.specs.Report.{report_of, shown_line}
