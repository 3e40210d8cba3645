-- The names that the proofs of this crate cite, passed on from one place. Declares nothing.
pub use Rattle.std.proofs.{Common.{Bool, IsTrue, List, [], ap, append_assoc, arith, false, length, length-append, nat_eq, refl, replicate, set, suc, sym, take, true, ℕ, ◌&&◌, ◌++◌, ◌+◌, ◌-◌, ◌<◌, ◌∙◌, ◌∷◌, ◌≡◌, ◌≤◌}, Math.Bool.{and-false}, Math.Dec.{eqb-suc-suc, eqb-suc-zero, eqb-zero-suc}, Math.Seq.{set-append_seam}, lemmas.Cmp.{nat_list_eq_equiv}, lemmas.Grind.{common_steps}, lemmas.List.{take_at}, lemmas.List.Folds.{list_all-append}}
pub use Rattle.std.specs.{List.{list_all}, Str.{bytes_eq}}
pub use Rattle.symbols.specs.Names.{is_name, is_name_character, name_of}
