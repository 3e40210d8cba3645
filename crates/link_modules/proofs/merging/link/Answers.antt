use Rattle.link_modules.proofs.Prelude.{◌≡◌, List, Ok, Err, subst, ◌∙◌, IfOk, IfFault, ObjectModule, starts_of, merge_of, refusal_of, LinkFault}
use Rattle.link_modules.specs.Merging.{Merged}
use Rattle.link_modules.proofs.merging.link.Goals as goal

pub returns-clause-merged : goal.returns-clause-merged
returns-clause-merged c =
    subst
    (λ (modules : List ObjectModule). IfOk c.merge.result
    (λ (merged : Merged). merge_of modules ≡ Ok merged.object))
    (c.as_slice.ensures.value ∙ c.in_ok-inputs.ensures) c.merge.ensures.merged

pub returns-clause-starts : goal.returns-clause-starts
returns-clause-starts c =
    subst
    (λ (modules : List ObjectModule). IfOk c.merge.result
    (λ (merged : Merged). merged.starts ≡ starts_of modules))
    (c.as_slice.ensures.value ∙ c.in_ok-inputs.ensures) c.merge.ensures.starts

pub returns-clause-refused : goal.returns-clause-refused
returns-clause-refused c =
    subst
    (λ (modules : List ObjectModule).
    IfFault c.merge.result (λ (fault : LinkFault). merge_of modules ≡ Err (refusal_of fault)))
    (c.as_slice.ensures.value ∙ c.in_ok-inputs.ensures) c.merge.ensures.refused
