-- The names that the proofs of this crate cite, passed on from one place. Declares nothing.
pub use Rattle.std.proofs.{Common.{Bool, Bor, List, None, Option, Some, [], ap, arith, codes, decimal, drop, false, get_or, inl, inr, length, map, refl, subst, sym, take, true, true≢false, ℕ, ◌++◌, ◌-◌, ◌<◌, ◌∙◌, ◌∷◌, ◌≡◌, ◌≤◌}, KnownBytes.{Appends-nil}, Math.Seq.{take-length}, lemmas.{Bool.{and_parts}, List.{append-nil, append_assoc}}}
pub use Rattle.std.specs.{Io.KnownBytes.{Appends}, List.{flat_map}, Prelude.{not, ◌&&◌, ◌==◌}}
pub use Rattle.failure.proofs.WritingLemmas.{beginning_after}
pub use Rattle.failure.specs.Writing.{AppendsBeginning, IsBeginning}
pub use Rattle.ports.specs.Events.{CountsFailure}
pub use Rattle.host.specs.Files.{Directory, HasFile, KeepsFiles}
pub use Rattle.host.specs.Reading.{HasFiles, StopsAt}
pub use Rattle.host.specs.Refusals.{IsOfNoFile, Tells, TellsOther, file_line, is_fault_number, output_line}
unfoldable pub use Rattle.host.specs.Refusals.{TellsRefusal, refusal_line}
