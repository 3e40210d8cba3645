-- What the types of a typed part say, whatever a module holds beside what is known where the part stands.
use Rattle.typing.proofs.Prelude.{◌≡◌, ◌≤◌, List, map, length, Option, Some, None, subst, arith, IsSomeAnd, ScalarType, Visibility, TypedProcedure, TypedModule, Constants, Known}
use Rattle.typing.proofs.Tables.{Keeps}

-- what a heading says of a procedure: its result, the types of its parameters, and who sees it
abbrev pub Heading : Type 0
Heading = Option ScalarType × List ScalarType × Visibility

abbrev pub heading_of : TypedProcedure → Heading
heading_of procedure = (procedure.result, procedure.parameter_types, procedure.visibility)

abbrev pub headings : List TypedProcedure → List Heading
headings procedures = map heading_of procedures

-- a module that holds what is known at a place
abbrev pub Has : TypedModule → Known → Type 0
Has tables known =
    Keeps known.objects tables.objects × Keeps (headings known.procedures) (headings tables.procedures)

abbrev pub HasLists : TypedModule → Constants → Type 0
HasLists tables constants = length constants.lists ≤ length tables.constants.lists

-- a typed part, with the constants before it and after it
pub record Holding (known : Known) (before after : Constants) (Says : TypedModule → Type 0) : Type 0 where
  pub grows : length before.lists ≤ length after.lists
  pub says : (tables : TypedModule) → Has tables known → HasLists tables after → Says tables

pub holding_at : {known : Known} {constants : Constants} {Says : TypedModule → Type 0}
    → ((tables : TypedModule) → Has tables known → Says tables)
    → Holding known constants constants Says
holding_at says = record { grows = omega arith; says = λ tables has lists. says tables has }

pub holding_more : {known : Known} {before after : Constants} {P Q : TypedModule → Type 0}
    → Holding known before after P
    → ((tables : TypedModule) → Has tables known → P tables → Q tables)
    → Holding known before after Q
holding_more holding more = record {
  grows = holding.grows;
  says = λ tables has lists. more tables has (holding.says tables has lists);
}

pub holding_both : {known : Known} {before between after : Constants} {P Q R : TypedModule → Type 0}
    → Holding known before between P
    → Holding known between after Q
    → ((tables : TypedModule) → Has tables known → P tables → Q tables → R tables)
    → Holding known before after R
holding_both first second both = record {
  grows = omega (arith, first.grows, second.grows);
  says = λ tables has lists.
      both tables has (first.says tables has (omega (arith, lists, second.grows)))
      (second.says tables has lists);
}

pub of_some : {X : Type 0} (P : X → Type 0) (option : Option X) (x : X) → option ≡ Some x
    → IsSomeAnd option P → P x
of_some P option x is holds = subst (λ found. IsSomeAnd found P) is holds

pub and_more : {X : Type 0} (P Q : X → Type 0) (option : Option X)
    → ((x : X) → P x → Q x) → IsSomeAnd option P → IsSomeAnd option Q
and_more P Q (Some x) more holds = more x holds
and_more P Q None more holds = absurd holds
