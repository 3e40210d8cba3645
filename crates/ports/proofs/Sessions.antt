-- Sessions with the same queues, events and failures are the same.
use Rattle.std.proofs.Common.{◌≡◌, ℕ, List}
use Rattle.std.specs.Coded.{Π_prop, →_prop, le_prop}
use mathlib.Core.HLevel.{is_prop→PathP}
use Rattle.ports.specs.Input.{IsScript}
use Rattle.ports.specs.Session.{Session}

-- that a script holds bytes has one proof
is_script-prop : (script : List (List ℕ)) → IsProp (IsScript script)
is_script-prop script = Π_prop (λ port. Π_prop (λ k. Π_prop (λ d. →_prop le_prop)))

pub same_session : (old new : Session)
    → new.script ≡ old.script
    → new.events ≡ old.events
    → new.failures ≡ old.failures
    → new ≡ old
same_session old new script events failures i = record {
  script = script i;
  events = events i;
  failures = failures i;
  bytes = is_prop→PathP (λ j. IsScript (script j)) (λ j. is_script-prop (script j)) new.bytes old.bytes i;
}
