-- The names that the proofs of this crate cite, passed on from one place. Declares nothing.
pub use Rattle.std.proofs.Common.{List, Option, length, ℕ, ◌++◌, ◌+◌, ◌≡◌}
pub use Rattle.host.specs.Files.{Directory}
pub use Rattle.clap.specs.{Walk.{texts}, Words.{Text}}
pub use Rattle.explaining.specs.{Growing.{Grows}, Looking.{Looks}}
pub use Rattle.explained_commands.specs.Asking.{asks, asks_after, plain_after, plain_words, table_count, tables_after}
pub use Rattle.explained_commands.specs.Ending.{Ends, EndsExplained}
