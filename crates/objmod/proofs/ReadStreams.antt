-- What a reader gave, once all of it was read.
use Rattle.objmod.proofs.Prelude.{◌≡◌, ℕ, List, [], Option, subst, appended_bytes, Consumes, IsAtEnd, Fault, ObjectModule, HasFirstFault, Spells}
use Rattle.objmod.specs.Streams.{ReadsFault, ReadsModule, TakesSome}

pub takes_some :
    (old new : Option (List ℕ)) (before bytes : List ℕ) → Consumes old new (appended_bytes before bytes)
    → TakesSome old new
takes_some old new before bytes read = (appended_bytes before bytes, read)

pub reads_module :
    (old new : Option (List ℕ)) (before bytes : List ℕ) (object : ObjectModule) → before ≡ []
    → Consumes old new (appended_bytes before bytes) → IsAtEnd new → Spells bytes object
    → ReadsModule old new object
reads_module old new before bytes object none read end spelled = record {
  bytes = bytes;
  read = subst (λ start. Consumes old new (appended_bytes start bytes)) none read;
  at_end = end;
  spelled = spelled;
}

pub reads_fault :
    (old new : Option (List ℕ)) (before bytes : List ℕ) (fault : Fault) → before ≡ []
    → Consumes old new (appended_bytes before bytes) → IsAtEnd new → HasFirstFault bytes fault
    → ((object : ObjectModule) → ¬ Spells bytes object) → ReadsFault old new fault
reads_fault old new before bytes fault none read end faulty spelled_none = record {
  bytes = bytes;
  read = subst (λ start. Consumes old new (appended_bytes start bytes)) none read;
  at_end = end;
  faulty = faulty;
  none = spelled_none;
}
