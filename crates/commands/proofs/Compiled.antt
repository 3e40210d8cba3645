-- Sources that are compiled to object files.
use Rattle.commands.proofs.Prelude.{◌≡◌, ℕ, List, [], ◌∷◌, Option, inl, inr, refl, subst, ChangesFiles, Directory, HasFile, KeepsFiles, with_file, ObjectModule, text_of, IsBeginning, StopsAt, stays_on, StopsWriting, kept_then_written, IsCompiledTo, CompilesFile, CompilesTo, StopsCompiling}

-- the command stopped at its source, or at its object once that was read
pub stops_at_source : (files : Option Directory) (name out : List ℕ) → StopsAt files (name ∷ out ∷ []) name
stops_at_source files name out = record { before = []; rest = out ∷ []; texts = []; names_are = refl; read = tt }

pub stops_at_object : (files : Option Directory) (name out text : List ℕ) → HasFile files name text → StopsAt files (name ∷ out ∷ []) out
stops_at_object files name out text read = record { before = name ∷ []; rest = []; texts = text ∷ []; names_are = refl; read = (read, tt) }

pub compiles_to : (text bytes : List ℕ) (object : ObjectModule) → IsCompiledTo text object → bytes ≡ text_of object → CompilesTo text bytes
compiles_to text bytes object compiled is = record { object = object; compiled = compiled; text_is = is }

-- a source that was read and compiled
pub compiles : (old now new : Option Directory) (name out text bytes : List ℕ) → KeepsFiles old now → HasFile old name text → CompilesTo text bytes
    → ChangesFiles now new (with_file out bytes) → CompilesFile old new name out
compiles old now new name out text bytes kept read m written = record {
  text = text;
  read = read;
  object = m.object;
  compiled = m.compiled;
  written = kept_then_written old now new out (text_of m.object) kept (subst (λ (l : List ℕ). ChangesFiles now new (with_file out l)) m.text_is written);
}

-- one that was not
pub not_compiled : (old new : Option Directory) (name out : List ℕ) → KeepsFiles old new → StopsCompiling old new name out
not_compiled old new name out kept = inl kept

-- one that was read and compiled, but not written whole
pub stops_compiling : (old now new : Option Directory) (name out text bytes : List ℕ) → KeepsFiles old now → HasFile old name text → CompilesTo text bytes
    → StopsWriting now new out bytes → StopsCompiling old new name out
stops_compiling old now new name out text bytes kept read m (inl stays) = inl (stays_on old now new kept stays)
stops_compiling old now new name out text bytes kept read m (inr (sent, is, written)) = inr (record {
  text = text;
  read = read;
  object = m.object;
  compiled = m.compiled;
  written = (sent, subst (λ (l : List ℕ). IsBeginning sent l) m.text_is is, kept_then_written old now new out sent kept written);
})
