-- The worked program, computed at one place.
use Rattle.asm8080.proofs.Prelude.{refl, step_of, state_after}
use Rattle.asm8080.specs.internal.Examples.{Counts}

pub counts : Counts
unfolding step_of state_after
counts = record {
  stands = (
    (refl, (refl, (refl, tt))),
    (
      (refl, (refl, tt)),
      (
        refl,
        (
          (refl, (refl, (refl, tt))),
          (
            (refl, tt),
            (
              (refl, (refl, (refl, tt))),
              (
                (refl, tt),
                (
                  refl,
                  (
                    (refl, tt),
                    (
                      (refl, tt),
                      refl,
                    ),
                  ),
                ),
              ),
            ),
          ),
        ),
      ),
    ),
  );
  halted = refl;
  counted = refl;
}
