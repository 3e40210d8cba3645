-- Two operands are put into HL and DE, as comparisons require.
use Rattle.task_laws.proofs.Prelude.{ℕ, List, [], refl, sym, subst, arith, append-nil, Gave, Registers, Step, does_without_step, PairOrder, LeftInHl, RightInHl, pair_order, pair_steps, wish_for_left, knowing, Context, IsSound, StepsStand, PartDoes}
use Rattle.task_laws.proofs.Machine.Addresses.{nothing_goes}
use Rattle.task_laws.proofs.Bytes.BytesAsked.{PairLies, PairsGiven}
use Rattle.task_laws.proofs.Words.PairedWords.{pair_below}
use Rattle.task_laws.proofs.Words.Pairs.{HasPair, pair_then}

pair_lies : (order : PairOrder) (x y : ℕ) (r : Registers) → HasPair order x y r → PairLies order x y r
pair_lies LeftInHl x y r has = (has.h, has.l, has.d, has.e)
pair_lies RightInHl x y r has = (has.h, has.l, has.d, has.e)

pub pairs_given : (context : Context) → IsSound context → PairsGiven context
pairs_given context sound facts last left right wants pushed from to bound first second one types two
    other_types stand top base s r memory below room ready known asked =
    pair_then context sound {go = λ x y u. Gave (x, y) u} (wish_for_left wants) [] from s r memory
    (record { bound = bound; is = one; types = types })
    (record { bound = bound; is = two; types = other_types }) below room
    (omega arith) (omega arith)
    (subst (λ (steps : List Step). StepsStand context (PartDoes context) facts from steps last to)
    (sym (append-nil (pair_steps (knowing context.site facts) left right wants pushed))) stand)
    (record { ready = ready; known = known })
    (λ x y t now ended middle found less ends on has.
    nothing_goes now ends on
    (λ final.
    let small =
    pair_below (pair_order (knowing context.site facts) left right wants) x y now
    final.ready.registers has in
    does_without_step (record {
      r = now;
      memory = ended;
      is_at = refl;
      ready = final.ready;
      holds = record {
        lies = pair_lies (pair_order (knowing context.site facts) left right wants) x y now has;
        small = small.0;
        other_small = small.1;
        known = final.known;
      };
    })))
