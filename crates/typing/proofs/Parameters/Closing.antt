-- At its end a procedure takes its place in the table with its parameters.
use Rattle.typing.proofs.Prelude.{◌≡◌, ℕ, zero, suc, ◌+◌, ◌<◌, ◌≤◌, ◌⊎◌, inl, inr, List, [], ◌∷◌, ◌++◌, length, Option, Some, None, unwrap_or, refl, ap, sym, subst, ◌∙◌, append_assoc, length-append, arith, slice_get, slice_set, AllByRecursion, enumerate_from, lookup, bytes_eq, none-some, DeclarationTrees, HeadingTree, Object, Procedure, Body, Here, Names, after_body, out_of_body, with_procedure, HasParameters, TypedList, TypedModule, TypedObject, TypedProcedure, Block, OfProcedure, Owner, Progress, TheModule, close_procedure, own_block, parameter_types, procedure_with, scalar_in_block}
use Rattle.typing.proofs.Types.TypesOfDeclarations.{heading_procedure}
use Rattle.typing.proofs.Types.TypesWalked.{closed_table}
use Rattle.typing.proofs.Parameters.Elements.{GoesOn, may_below}
use Rattle.typing.proofs.Parameters.Grown.{Grown, IsApart, IsBelow, IsNew, IsParameterOf, NoMore, Numbered, OwnerStands, Standing, all_append, all_more, grown_more, grown_then}
use Rattle.typing.proofs.Parameters.ParameterItems.{May, Owned, not_again, owned_other, owned_rest, owns}
use Rattle.typing.proofs.Parameters.Opening.{Opened}
use Rattle.typing.proofs.Parameters.OwnBlock.{OwnBlock, Scan}
use Rattle.typing.proofs.Parameters.Parameters.{AreNamed, has_parameters}

-- one of many
pub at_place : {X : Type 0} (P : X → Type 0) (all : List X) (place : ℕ) (item : X)
    → AllByRecursion P all → slice_get all place ≡ Some item → P item
at_place P [] place item holds found = absurd (none-some item found)
at_place P (first ∷ all) zero item holds found =
    subst P (ap (λ (one : Option _). unwrap_or one first) found) holds.0
at_place P (first ∷ all) (suc place) item holds found = at_place P all place item holds.1 found

-- the scan of a text of which nothing is read
abbrev pub nothing : Scan
nothing name = None

-- and the one of declarations
abbrev pub scan_of : DeclarationTrees → Scan
scan_of declared name = scalar_in_block declared name

-- where the body of a procedure begins nothing is declared in its block
block_begins : (number : ℕ) (heading : HeadingTree) (objects : List TypedObject) (block : Names)
    → block ≡ []
    → AllByRecursion (IsBelow number) objects
    → OwnBlock number heading nothing objects block
block_begins number heading objects block empty below = record {
  named = λ name place found parameter.
      absurd (none-some (Object place)
      (sym (ap (lookup (bytes_eq name)) empty) ∙ found));
  kept = λ place object found parameter.
      let less = at_place (IsBelow number) objects place object below found number parameter in
      absurd (omega (arith, less));
  unseen = λ name found. refl;
}

pub own_begins : (heading : HeadingTree) (declared : DeclarationTrees) (block : Block)
    (progress opened : Progress)
    → Standing block.owner progress
    → Opened heading declared progress opened
    → Owned (own_block heading progress) nothing opened.known.objects opened.known.here.body.block
own_begins heading declared block progress opened stands opens =
    block_begins (length progress.known.procedures) heading opened.known.objects opened.known.here.body.block
    opens.block
    (subst (AllByRecursion (IsBelow (length progress.known.procedures))) (sym opens.objects) stands.below)

pub own_stands : (heading : HeadingTree) (declared : DeclarationTrees) (block : Block)
    (progress opened : Progress)
    → Standing block.owner progress
    → Opened heading declared progress opened
    → Standing (OfProcedure (length progress.known.procedures) heading) opened
own_stands heading declared block progress opened stands opens =
    let number : ℕ = length progress.known.procedures in
    let more : length opened.known.procedures ≡ number + 1 =
    ap length opens.procedures ∙ length-append progress.known.procedures
    (heading_procedure heading declared ∷ []) in
    let counted = stands.count in
    record {
      count = opens.count ∙ counted ∙ sym (ap length opens.objects);
      below = subst (AllByRecursion (IsBelow (length opened.known.procedures))) (sym opens.objects)
          (all_more (IsBelow number) (IsBelow (length opened.known.procedures)) progress.known.objects
          (λ object is each parameter. further number (length opened.known.procedures) each more
          (is each parameter))
          stands.below);
      own = omega (arith, more);
    }
  where
    further : (low high each : ℕ) → high ≡ low + 1 → each < low → each < high
    further low high each is less = omega (arith, is, less)

-- out of a body
left_body : (here : Here) (body : Body) (outer : List Body)
    → here.outer_bodies ≡ body ∷ outer
    → ((out_of_body here).outer_bodies ≡ outer) × ((out_of_body here).body ≡ body)
    × ((out_of_body here).objects ≡ here.objects)
left_body here body outer is = (
  ap (λ (bodies : List Body). (after_body bodies here).outer_bodies) is,
  ap (λ (bodies : List Body). (after_body bodies here).body) is,
  ap (λ (bodies : List Body). (after_body bodies here).objects) is,
)

module _
    (block : Block) (heading : HeadingTree) (declared : DeclarationTrees) (scan : Scan)
    (progress opened within done : Progress) (places : List ℕ) (body : TypedList)
    (stands : Standing block.owner progress)
    (owned : Owned block scan progress.known.objects progress.known.here.body.block)
    (opens : Opened heading declared progress opened)
    (goes : GoesOn (own_block heading progress) opened (scan_of declared) within)
    (named : AreNamed within.known.here.body.block heading.parameters places)
    (grown : Grown NoMore within done)
  where
    abbrev Number : ℕ
    Number = length progress.known.procedures

    abbrev Last : TypedProcedure
    Last = procedure_with heading (parameter_types declared heading.parameters) places done.frame body

    abbrev Closed : Progress
    Closed = close_procedure heading declared (length progress.known.procedures) places body done

    own_below : (number : ℕ) → May (own_block heading progress) number
        → number < length opened.known.procedures
    own_below number may =
        may_below (own_block heading progress) opened
        (own_stands heading declared block progress opened stands opens)
        number may

    inside : Grown (May (own_block heading progress)) opened done
    inside = grown_then own_below goes.0 (grown_more (λ number none. absurd none) grown)

    opened_count : length opened.known.procedures ≡ Number + 1
    opened_count =
        ap length opens.procedures ∙ length-append progress.known.procedures
        (heading_procedure heading declared ∷ [])

    within_count : length opened.known.procedures + length (goes.0).procedures
        ≡ length within.known.procedures
    within_count =
        sym (ap length (goes.0).adds ∙ length-append opened.known.procedures (goes.0).procedures)

    -- the table at its end
    table_is : slice_set done.known.procedures Number Last
        ≡ progress.known.procedures ++ Last ∷ inside.procedures
    table_is =
        closed_table progress.known.procedures (heading_procedure heading declared) Last inside.procedures
        done.known.procedures
        (inside.adds ∙ ap (λ (all : List TypedProcedure). all ++ inside.procedures) opens.procedures)

    objects_are : done.known.objects ≡ progress.known.objects ++ inside.objects
    objects_are = inside.grows ∙ ap (λ (all : List TypedObject). all ++ inside.objects) opens.objects

    around : done.known.here.outer_bodies
        ≡ (with_procedure heading.name.name progress.known.here).body ∷ progress.known.here.outer_bodies
    around = inside.around ∙ opens.around

    -- the parameters fit
    first_fits : (tables : TypedModule) (rest : List TypedObject)
        → tables.objects ≡ done.known.objects ++ rest
        → AllByRecursion (IsApart Number (Number + suc (length inside.procedures))) rest
        → HasParameters tables Number Last
    first_fits tables rest same apart =
        has_parameters Number heading (scan_of declared) within.known.objects
        within.known.here.body.block goes.1 tables
        (grown.objects ++ rest)
        (same ∙ ap (λ (all : List TypedObject). all ++ rest) grown.grows
        ∙ append_assoc within.known.objects grown.objects rest)
        places done.frame body (parameter_types declared heading.parameters) named opens.differ opens.few refl
        (all_append (λ (object : TypedObject). IsParameterOf Number object → ⊥) grown.objects rest
        (all_more
        (IsNew NoMore (length within.known.procedures)
        (length within.known.procedures + length grown.procedures))
        (λ (object : TypedObject). IsParameterOf Number object → ⊥) grown.objects
        (λ object is parameter.
        later (length within.known.procedures) (length within.known.procedures + length grown.procedures)
        (omega (arith, within_count, opened_count)) (is Number parameter)) grown.new)
        (all_more (IsApart Number (Number + suc (length inside.procedures)))
        (λ (object : TypedObject). IsParameterOf Number object → ⊥) rest
        (λ object is parameter. outside (Number + suc (length inside.procedures)) (omega arith)
        (is Number parameter))
        apart))
      where
        later : (low high : ℕ) → Number < low → ((low ≤ Number) × (Number < high)) ⊎ NoMore Number → ⊥
        later low high less (inl is) = omega (arith, less, is.0)
        later low high less (inr is) = is

        outside : (high : ℕ) → Number < high → (Number < Number) ⊎ (high ≤ Number) → ⊥
        outside high less (inl is) = omega (arith, is)
        outside high less (inr is) = omega (arith, less, is)

    others_fit : (tables : TypedModule) (rest : List TypedObject)
        → tables.objects ≡ done.known.objects ++ rest
        → AllByRecursion (IsApart Number (Number + suc (length inside.procedures))) rest
        → AllByRecursion (Numbered tables) (enumerate_from (Number + 1) inside.procedures)
    others_fit tables rest same apart =
        subst (λ (at : ℕ). AllByRecursion (Numbered tables) (enumerate_from at inside.procedures))
        opened_count
        (inside.fit tables rest same
        (all_more (IsApart Number (Number + suc (length inside.procedures)))
        (IsApart (length opened.known.procedures) (length opened.known.procedures + length inside.procedures))
        rest
        (λ object is number parameter.
        narrower (length opened.known.procedures)
        (length opened.known.procedures + length inside.procedures)
        (Number + suc (length inside.procedures)) number
        (omega (arith, opened_count)) (omega (arith, opened_count)) (is number parameter)) apart))
      where
        narrower : (low high limit number : ℕ) → Number ≤ low → high ≤ limit
            → (number < Number) ⊎ (limit ≤ number)
            → (number < low) ⊎ (high ≤ number)
        narrower low high limit number ge le (inl is) = inl (omega (arith, ge, is))
        narrower low high limit number ge le (inr is) = inr (omega (arith, le, is))

    abbrev IsInside : TypedObject → Type 0
    IsInside object =
        IsNew (May (own_block heading progress)) (length opened.known.procedures)
        (length opened.known.procedures + length inside.procedures) object

    new_number : (number : ℕ)
        → ((length opened.known.procedures ≤ number)
        × (number < length opened.known.procedures + length inside.procedures))
        ⊎ May (own_block heading progress) number
        → (Number ≤ number) × (number < Number + suc (length inside.procedures))
    new_number number (inl is) = (omega (arith, opened_count, is.0), omega (arith, opened_count, is.1))
    new_number number (inr is) = (omega (arith, is.1), omega (arith, is.1))

    pub closed_goes : GoesOn block progress scan Closed
    closed_goes =
        let left =
        left_body done.known.here (with_procedure heading.name.name progress.known.here).body
        progress.known.here.outer_bodies around in (
          record {
            objects = inside.objects;
            grows = objects_are;
            procedures = Last ∷ inside.procedures;
            adds = table_is;
            new = all_more IsInside
                (IsNew (May block) Number (Number + suc (length inside.procedures))) inside.objects
                (λ object is number parameter. inl (new_number number (is number parameter))) inside.new;
            around = left.0;
            count = λ counted.
                left.2 ∙ inside.count (opens.count ∙ counted ∙ sym (ap length opens.objects));
            fit = λ tables rest same apart.
                (first_fits tables rest same apart, others_fit tables rest same apart);
          },
          subst
              (λ (names : Names). Owned block scan done.known.objects names)
              (sym (ap (λ (body : Body). body.block) left.1))
              (subst
              (λ (all : List TypedObject).
              Owned block scan all (with_procedure heading.name.name progress.known.here).body.block)
              (sym objects_are)
              (owned_rest block.owner block.is_own scan progress.known.objects inside.objects
              (with_procedure heading.name.name progress.known.here).body.block
              (λ number place object its found parameter.
              not_its block.owner stands.own number its
              (new_number number (at_place IsInside inside.objects place object inside.new found
              number parameter)).0)
              (owned_other block.owner block.is_own scan progress.known.objects progress.known.here.body.block
              heading.name.name (Procedure progress.known.here.procedures) (λ place same. absurd cc)
              (not_again progress.known.here heading.name.name opens.new) owned))),
        )
      where
        not_its : (owner : Owner) → OwnerStands owner Number → (number : ℕ) → owns owner number
            → Number ≤ number → ⊥
        not_its TheModule own number its past = absurd its
        not_its (OfProcedure at heading) own number its past = omega (arith, own, its, past)
