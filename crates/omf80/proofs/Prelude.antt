-- The names that the proofs of this crate cite, passed on from one place. Declares nothing.
pub use Rattle.std.proofs.{Common.{Bool, Err, List, None, Ok, OnErr, OnOk, Option, Result, Some, [], ap, arith, cond, drop, false, find, is_none, length, min, nat_lt, not, refl, slice_index, subst, suc, sum, sym, take, true, zero, ℕ, ◌%◌, ◌*◌, ◌++◌, ◌+◌, ◌-◌, ◌/◌, ◌<◌, ◌==◌, ◌||◌, ◌∙◌, ◌∷◌, ◌≡◌, ◌≤◌}, KnownBytes.{Appends-trans}, lemmas.Bool.{eq-eqb, eqb-false, eqb-true, le-ltb, lt-ltb, ltb-false, ne_eqb, not-false, or_parts}, lemmas.List.{append-nil, append_assoc, drop_at, length-append, length-drop, length-take, take_at}, lemmas.Option.{none-some, same_Some}}
pub use Rattle.std.specs.{Io.KnownBytes.{Appends}, List.{fold}}
pub use Rattle.failure.proofs.WritingLemmas.{beginning_after, on_err}
pub use Rattle.mem80.proofs.{ByteLists.{bytes_drop, bytes_take}, Sums.{checksum_is, fold_append, sum_with_last}}
pub use Rattle.mem80.specs.Sums.{checksum_of}
pub use Rattle.omf80.specs.Records.{BeginsWith, first_body, first_that_holds, kind_of_type, kinds, record_end, stated_length, type_byte, word_bytes}
unfoldable pub use Rattle.omf80.specs.Records.{record_bytes, record_fault}
pub use Rattle.omf80.specs.declared.fault.Fault.{Fault}
pub use Rattle.omf80.specs.declared.fault.Fault.TheVariants.{Truncated, UnknownType, WrongLength, WrongSum}
pub use Rattle.omf80.specs.declared.kind.RecordKind.{RecordKind}
pub use Rattle.omf80.specs.declared.kind.TheConstants.{BODY_LIMIT}
