-- What the walk of lines adds to its tables, step by step.
use Rattle.std.proofs.Common.{List, [], ap, arith, drop, get_or, length, map, refl, suc, sym, zero, ℕ, ◌++◌, ◌+◌, ◌<◌, ◌∙◌, ◌∷◌, ◌≡◌, ◌≤◌}
use Rattle.std.proofs.Math.Seq.{set-append_seam}
use Rattle.std.proofs.lemmas.List.{append-nil, append_assoc, at_drop_all, length-map, map-append}
use Rattle.std.proofs.lemmas.List.Sums.{sum_by-cons}
use Rattle.std.specs.Prelude.{slice_set, sum_by}
use Rattle.trees.proofs.Lists.{drop_item}
use Rattle.trees.specs.Trees.{ModuleTree, StatementTrees}
use Rattle.trees.specs.internal.Views.{block_declarations, block_statements, kind_tree, statement_trees}
use Rattle.trees.specs.declared.identifier.Place.{Place}
use Rattle.trees.specs.declared.statement.Block.{Block}
use Rattle.trees.specs.declared.statement.DoCase.{DoCase, out-DoCase}
use Rattle.trees.specs.declared.statement.Loop.{Loop, out-Loop}
use Rattle.trees.specs.declared.statement.StatementKind.TheVariants as kinds
use Rattle.names.proofs.TreesOfParts.{do_tree_is, loop_tree_is, case_tree_is}
use Rattle.typing.specs.internal.Untyped.{bodies_in, bodies_in_kind, bodies_in_statements}
use Rattle.sources.specs.declared.lines.LineWalk.{LineWalk}
use Rattle.sources.specs.declared.lines.ProcedureLines.{ProcedureLines}
use Rattle.sources.specs.declared.lines.SourceLines.{SourceLines}
use Rattle.sources.specs.internal.Counted.{HasLineOfEach, bodies_of, count_of_parts, count_of_statements, counted, counts_of, lines_of_body}

-- the bodies that a loop over trees adds
module _ {T : Type 0} (bodies : List T → List StatementTrees) (first_bodies : T → List StatementTrees)
    (cons : (first : T) (others : List T) → bodies (first ∷ others) ≡ first_bodies first ++ bodies others)
    (items : List T) (i : ℕ) (made total : List ℕ)
    (rest : made ++ counted (bodies (drop i items)) ≡ total) where
  pub bodies_go_on : (item : T) (now : List ℕ) → i < length items → item ≡ get_or items i item
      → now ≡ made ++ counted (first_bodies item) → now ++ counted (bodies (drop (i + 1) items)) ≡ total
  bodies_go_on item now within is given =
      ap (λ list. list ++ counted (bodies (drop (i + 1) items))) given
      ∙ append_assoc made (counted (first_bodies item)) (counted (bodies (drop (i + 1) items)))
      ∙ ap (λ list. made ++ list)
      (sym (map-append count_of_statements (first_bodies item) (bodies (drop (i + 1) items))))
      ∙ ap (λ list. made ++ counted list) (sym (cons item (drop (i + 1) items)))
      ∙ sym (drop_item (λ left. made ++ counted (bodies left)) items i item within is)
      ∙ rest

  pub bodies_ended : bodies [] ≡ [] → length items ≤ i → made ≡ total
  bodies_ended none past =
      sym (append-nil made)
      ∙ ap (λ list. made ++ counted list) (sym none)
      ∙ sym (at_drop_all (λ left. made ++ counted (bodies left)) items i past) ∙ rest

-- and how many it counts
module _ {T : Type 0} (count : List T → ℕ) (first_count : T → ℕ)
    (cons : (first : T) (others : List T) → count (first ∷ others) ≡ first_count first + count others)
    (items : List T) (i made total : ℕ) (rest : made + count (drop i items) ≡ total) where
  pub count_goes_on : (item : T) (now : ℕ) → i < length items → item ≡ get_or items i item
      → now ≡ made + first_count item → now + count (drop (i + 1) items) ≡ total
  count_goes_on item now within is given =
      let first : count (drop i items) ≡ count (item ∷ drop (i + 1) items) = drop_item count items i item within is in
      let more : count (item ∷ drop (i + 1) items) ≡ first_count item + count (drop (i + 1) items) =
      cons item (drop (i + 1) items) in
      omega (arith, first, more, given, rest)

  pub count_ended : count [] ≡ 0 → length items ≤ i → made ≡ total
  count_ended none past =
      let end : count (drop i items) ≡ count [] = at_drop_all count items i past in
      omega (arith, end, none, rest)

-- a procedure gets its lines
pub counts_set : (procedures : List ProcedureLines) (number : ℕ) (one : ProcedureLines)
    → map lines_of_body (slice_set procedures number one)
    ≡ slice_set (map lines_of_body procedures) number (lines_of_body one)
counts_set [] number one = refl
counts_set (first ∷ others) zero one = refl
counts_set (first ∷ others) (suc number) one =
    ap (λ rest. lines_of_body first ∷ rest) (counts_set others number one)

-- and those of its body come before those of the procedures in it
pub procedure_counted : (old begun inside new : List ℕ) (number count : ℕ) (body : StatementTrees)
    (inner : List StatementTrees)
    → number ≡ length old → begun ≡ old ++ 0 ∷ [] → inside ≡ begun ++ counted inner
    → count ≡ count_of_statements body → new ≡ slice_set inside number count
    → new ≡ old ++ counted (body ∷ inner)
procedure_counted old begun inside new number count body inner at one two is three =
    three
    ∙ ap (λ list. slice_set list number count)
    (two ∙ ap (λ list. list ++ counted inner) one ∙ append_assoc old (0 ∷ []) (counted inner))
    ∙ ap (λ place. slice_set (old ++ 0 ∷ counted inner) place count) at
    ∙ set-append_seam old 0 (counted inner) count
    ∙ ap (λ one. old ++ one ∷ counted inner) is

-- the bodies and the parts of statements of the code
pub do_bodies : (place : Place) (p : _) (block : Block)
    → bodies_in_kind (kind_tree (kinds.Do' place p block))
    ≡ bodies_in (block_declarations block) ++ bodies_in_statements (block_statements block)
do_bodies place p block = ap bodies_in_kind (do_tree_is place p block)

pub do_parts : (place : Place) (p : _) (block : Block)
    → count_of_parts (kind_tree (kinds.Do' place p block)) ≡ count_of_statements (block_statements block)
do_parts place p block = ap count_of_parts (do_tree_is place p block)

pub loop_bodies : (p : _) (turns : Loop)
    → bodies_in_kind (kind_tree (kinds.Loop' p turns))
    ≡ bodies_in_statements (statement_trees (out-Loop turns).body.items)
loop_bodies p turns = ap bodies_in_kind (loop_tree_is p turns)

pub loop_parts : (p : _) (turns : Loop)
    → count_of_parts (kind_tree (kinds.Loop' p turns))
    ≡ count_of_statements (statement_trees (out-Loop turns).body.items)
loop_parts p turns = ap count_of_parts (loop_tree_is p turns)

pub case_bodies : (p : _) (choice : DoCase)
    → bodies_in_kind (kind_tree (kinds.Case' p choice))
    ≡ bodies_in_statements (statement_trees (out-DoCase choice).body.items)
case_bodies p choice = ap bodies_in_kind (case_tree_is p choice)

pub case_parts : (p : _) (choice : DoCase)
    → count_of_parts (kind_tree (kinds.Case' p choice))
    ≡ count_of_statements (statement_trees (out-DoCase choice).body.items)
case_parts p choice = ap count_of_parts (case_tree_is p choice)

-- each procedure and each statement of a module has a line
same_sum : (procedures : List ProcedureLines) (bodies : List StatementTrees)
    → map lines_of_body procedures ≡ counted bodies
    → sum_by lines_of_body procedures ≡ sum_by count_of_statements bodies
same_sum [] [] same = refl
same_sum [] (body ∷ bodies) same = absurd cc
same_sum (procedure ∷ procedures) [] same = absurd cc
same_sum (procedure ∷ procedures) (body ∷ bodies) same =
    let one : lines_of_body procedure ≡ count_of_statements body = cc in
    let others : map lines_of_body procedures ≡ counted bodies = cc in
    let left = sum_by-cons lines_of_body procedure procedures in
    let right = sum_by-cons count_of_statements body bodies in
    omega (arith, one, left, right, same_sum procedures bodies others)

pub has_line_of_each : (tree : ModuleTree) (walk : LineWalk) (start : List ℕ) (main : ℕ) (lines : SourceLines)
    → start ≡ [] → counts_of walk ≡ start ++ counted (bodies_of tree) → main ≡ count_of_statements tree.statements
    → length lines.procedures.items ≡ length walk.procedures.items
    → length lines.statements.items ≡ sum_by lines_of_body walk.procedures.items + main
    → HasLineOfEach tree lines
has_line_of_each tree walk start main lines none counts is procedures statements =
    let same : map lines_of_body walk.procedures.items ≡ counted (bodies_of tree) =
    counts ∙ ap (λ list. list ++ counted (bodies_of tree)) none in
    let total = same_sum walk.procedures.items (bodies_of tree) same in
    record {
      procedures =
          procedures ∙ sym (length-map walk.procedures.items lines_of_body) ∙ ap length same
          ∙ length-map (bodies_of tree) count_of_statements;
      statements = omega (arith, total, is, statements);
    }
