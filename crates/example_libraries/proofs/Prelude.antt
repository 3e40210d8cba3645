-- The names that the proofs of this crate cite, passed on from one place. Declares nothing.
pub use Rattle.std.proofs.{Common.{Bor, List, [], arith, drop, get_or, inl, inr, length, map, min, subst, suc, sym, take, ℕ, ◌*◌, ◌++◌, ◌+◌, ◌<◌, ◌∷◌, ◌≡◌, ◌≢◌, ◌≤◌, ◌⊎◌}, lemmas.{Bool.{cases_lt}, Grind.{common_steps}, List.{get_or_past, FromFn.{get_or-range_with_len, length-range_with_len}}}}
pub use Rattle.std.specs.List.{AllZip, range_with_len}
pub use Rattle.ports.specs.{Events.{read_event}, Input.{input_value, reads_of}, declared.event.Event.{Event}}
pub use Rattle.object_modules.specs.{Module.{ObjectModule}, Spelling.{HasFirstFault, Spells}, declared.fault.Fault.{Fault}}
pub use Rattle.link.proofs.Reading.{bytes_of, one_more, parted}
pub use Rattle.example_libraries.specs.Counter.{counter_script}
pub use Rattle.example_libraries.specs.Images.{FirstIsFaulty}
