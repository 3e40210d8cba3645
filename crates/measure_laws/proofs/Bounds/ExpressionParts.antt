-- Parts of expressions as planned steps.
use Rattle.measure_laws.proofs.Prelude.{◌≡◌, ℕ, ◌+◌, ◌≤◌, Bool, List, [], ◌∷◌, arith, Byte, SentTo, StoredIn, TypedExpression, TypedTarget, weight_of_reference, weight_of_storing, weight_of_target, Item, size_of_items, size_in_parts, ExpressionNumber, IsExpression, nodes_of, Facts, Part, Step, Task, Site, AreWritten, IsWritten, PartWritten, Body, part, Here, AreCarriedOut, StepCarriedOut, carried_steps, site_of, Source, TypesHold, TreeModule, Option}
use Rattle.steps8080.specs.declared.step.Step.TheVariants as steps
use Rattle.measure_laws.proofs.{Bounds.Fitting.{no_size}, Bounds.Pieces.{HoldNoPart, bytes_of_steps, steps_within}}
use Rattle.measure_laws.specs.internal.Footprints.{IsTyped}

-- a part before steps without parts
pub part_within :
    {site : Site} {called : List Bool} {facts last : Facts} {one : Part}
    {others : List Step} {list : List Item}
    (most : ℕ)
    → ((known : Facts) (first : List Item) → IsWritten site called facts one first known
    → size_of_items first ≤ most)
    → HoldNoPart others
    → AreWritten site called facts (steps.Part one ∷ others) list last
    → size_of_items list ≤ most + bytes_of_steps others
part_within {others = others} most within none
    (PartWritten {middle = middle} {first = first} {more = more} written rest) =
    omega (arith, size_in_parts first more, within middle first written, steps_within others none rest)

-- a task as a planned step
pub task_small :
    {body : Body} {called : List Bool} {here last : Here} {waiting : Option Facts} {list : List Item}
    (task : Task) (pushed most : ℕ)
    → ((facts known : Facts) (first : List Item)
    → IsWritten (site_of body) called facts (record { task = task; pushed = pushed }) first known
    → size_of_items first ≤ most)
    → AreCarriedOut body called here waiting (part task pushed ∷ []) list last
    → size_of_items list ≤ most
unfolding carried_steps
task_small {here = here} task pushed most within
    (StepCarriedOut {first = first} {more = more} alone written rest) =
    let small = part_within most (λ middle first one. within here.facts middle first one) tt written in
    omega (arith, size_in_parts first more, no_size rest, small)

-- an expression with its types
pub typed_is :
    {tree : TreeModule} {source : Source tree} {bound : ℕ} {number : ExpressionNumber}
    {expression : TypedExpression}
    → IsExpression (nodes_of tree) source.storage bound number.index expression
    → TypesHold source.typed source.within expression
    → IsTyped tree source number expression
typed_is {bound = bound} node types = record { bound = bound; node = node; types = types }

-- the weight of a target beside 1
abbrev pub weight_beside : TypedTarget → ℕ
weight_beside (StoredIn from to reference) = weight_of_storing from to + weight_of_reference reference
weight_beside (SentTo from port) = weight_of_storing from Byte

pub target_weighs : (tree : TypedTarget) → weight_of_target tree ≡ 1 + weight_beside tree
target_weighs (StoredIn from to reference) = omega arith
target_weighs (SentTo from port) = omega arith
