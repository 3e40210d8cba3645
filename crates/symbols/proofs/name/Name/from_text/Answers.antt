use Rattle.symbols.proofs.Prelude.{◌∙◌, ◌∷◌, IsTrue, arith, append_assoc, ◌≡◌, ◌++◌, take, common_steps, is_name, name_of}
use Rattle.symbols.proofs.Names.{long-is-no-name, other-character-is-no-name, take-set-filled, IsFilled-push}
use Rattle.symbols.proofs.name.Name.from_text.Goals as goal
use Rattle.symbols.proofs.name.Name.from_text.Goals.{then-count-eq31-via-then-count-eq31, then-count-eq31-via-else-count-eq31+then-not-is_character}

-- src/name.rt:67:17
pub returns-then-count-eq31-clause-valid : goal.returns-then-count-eq31-clause-valid
returns-then-count-eq31-clause-valid c =
    let taken = take c.loop-character.count c.loop-character.bytes in
    let e : name_of c.args.text.now ≡ taken ++ c.in-Some.character ∷ name_of c.in-Some.after.now =
    grind (arith, common_steps) in
    let not_a_name : IsTrue (is_name (name_of c.args.text.now)) → ⊥ = λ h.
    elim c.then-count-eq31.branch [
      | then-count-eq31-via-then-count-eq31 w ↦ long-is-no-name taken (name_of c.in-Some.after.now)
          c.in-Some.character (c.loop-character.invariant.filled.counted ∙ w.if-count-eq31.true) (rw e at h)
      | then-count-eq31-via-else-count-eq31+then-not-is_character w ↦ other-character-is-no-name taken
          (name_of c.in-Some.after.now) c.in-Some.character (grind (arith, common_steps)) (rw e at h)
    ] in
    (λ f. cc, λ h. absurd (not_a_name h))

-- src/name.rt:65:9
pub loop-character-preserved : goal.loop-character-preserved
loop-character-preserved c =
    let taken =
    take-set-filled c.loop-character.bytes c.loop-character.count c.in-Some.character
    c.loop-character.invariant.filled (omega arith) in
    record {
      spelled = rw (taken, append_assoc) (grind (arith, common_steps));
      filled =
          IsFilled-push _ _ _ c.loop-character.invariant.filled (omega arith) (grind (arith, common_steps));
    }
