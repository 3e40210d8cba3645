pub use Rattle.isa8080.specs.Arithmetic
