-- The names that the proofs of this crate cite, passed on from one place. Declares nothing.
pub use Rattle.std.proofs.{Common.{Bool, Err, IsTrue, List, None, Ok, Result, [], ap, append-nil, append_assoc, arith, drop, false, inl, inr, length, map, max, min, not, refl, replicate, rules, set, slice_index_or, subst, suc, sym, take, true, zero, ℕ, ◌%◌, ◌*◌, ◌++◌, ◌+◌, ◌-◌, ◌<◌, ◌==◌, ◌^◌, ◌||◌, ◌∙◌, ◌∷◌, ◌≡◌, ◌≢◌, ◌≤◌, ◌⊎◌}, lemmas.Bool.{cases_lt, eq-eqb, lt-ltb, or_from}, lemmas.List.{length-set}, lemmas.List.Folds.{list_any-append}, lemmas.Nat.{pow_below}}
pub use Rattle.std.specs.{Option.{option_map_or}, Prelude.{Option, Some, if◌then◌else◌, option_map, unwrap_or}}
pub use Rattle.object_modules.specs.declared.segment.Target.TheVariants.{External, InSegment}
pub use Rattle.asm8080.proofs.Loops.{not_equal}
pub use Rattle.asm8080.specs.{Assembled.{IsFinished}, Items.{Assembly, BoundOnce, IsAssembly, is_bound, marks}, declared.fault.Fault.{Fault}, declared.item.Item.{Item, TheVariants.{Address, Byte, Gap, Mark, Plain, WithWord}}, declared.item.Reference.{Reference, TheVariants.{AtLabel, AtNumber, AtTarget}}}
pub use Rattle.steps8080.specs.internal.Step.{plain, repeat_steps}
pub use Rattle.steps8080.specs.internal.Widths.{power_from}
pub use Rattle.steps8080.specs.internal.Writer.{AreWritable, CountsNamed, CountsOne, GrowsFor, KeepsMarks, MarksOnly, NumbersNames, Writes, Written, in_front, is_marked, jump_item, known_label, name_label, names_label, numbered, numbered_item, numbered_reference, use_name, uses_name}
