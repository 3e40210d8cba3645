-- The names that the proofs of this crate cite, passed on from one place. Declares nothing.
pub use Rattle.std.proofs.Common.{List, Option, arith, drop, length, length-drop, length-take, min, refl, suc, take, zero, ℕ, ◌++◌, ◌+◌, ◌-◌, ◌<◌, ◌≡◌, ◌≤◌}
pub use Rattle.host.proofs.FilesRead.{files_stay, stays_on}
pub use Rattle.host.specs.{Files.{Counts, Directory, KeepsFiles}, Outcome.{Failure, TheVariants.{Fault, Memory}}}
pub use Rattle.explaining.specs.Looking.{Looks}
