-- The labels that a list binds, and those of the lists around it.
use Rattle.measure_laws.proofs.Prelude.{bound_after, bound_first, ◌≡◌, inl, inr, refl, sym, ap, ◌∙◌, subst, ℕ, ◌+◌, ◌<◌, ◌≤◌, true, List, [], ◌∷◌, ◌++◌, length, Option, Some, None, Any, arith, slice_get, none-some, same_Some, IsAmongLabels, JumpsStay, LabelsOf, LabelsStand, labels_of_list, LabelStatement, TypedStatement, TypedStatements, Item, Range, StatementNumber, AreMoreStatements, AreNoStatements, AreStatements, IsGoto, IsLabel, IsStatement, IsStatementForm, IsStatementNode, nodes_of, statement, Facts, LabelNumber, knowing, Body, body_label, goto_label, goto_label_of, Here, AreAllCarriedOut, AreCarriedOut, IsCarriedOut, IsListCarriedOut, ListPlanned, StatementPlanned, site_of, statement_steps, ItemsBind, at_or_after, BodyGround, MayBind, MayGo}
use Rattle.treecode.specs.declared.statement.Statement.{Statement}
use Rattle.treecode.specs.declared.statement.Statement.TheVariants as statements
use Rattle.treecode.proofs.LabelNumbers.{first_or_later}
use Rattle.codegen8080.specs.internal.Generated as generated
use Rattle.measure_laws.proofs.Labels.Binding.{plan_bound}

-- the labels of the lists around a place may be referred to, by their numbers in a body
abbrev pub AroundGo : BodyGround → (labels : List ℕ) → (around : List LabelsOf) → Type 0
AroundGo at labels around =
    (number label : ℕ)
    → slice_get labels number ≡ Some label
    → Any (IsAmongLabels label) around
    → MayGo at (body_label at.body number).index

-- there is no list around a body
pub none_around : (at : BodyGround) (labels : List ℕ) → AroundGo at labels []
none_around at labels number label named any = absurd (omega (arith, any.2))

-- no label of a body has two numbers
abbrev pub LabelsDiffer : (labels : List ℕ) → Type 0
LabelsDiffer labels =
    (one other label : ℕ) → slice_get labels one ≡ Some label
    → slice_get labels other ≡ Some label → one ≡ other

-- the label that a GOTO refers to
pub goto_is :
    (body : Body) (number : StatementNumber) (found : Statement) (label : LabelNumber)
    → statement body.tree.now number ≡ Some found
    → goto_label body number ≡ Some label
    → goto_label_of body found ≡ Some label
goto_is body number found label there is =
    sym (ap (λ (given : Option Statement). elim given as (λ (any : Option Statement). Option LabelNumber) [
      | Some one ↦ goto_label_of body one
      | None ↦ None
    ]) there) ∙ is

module _ (at : BodyGround) (labels : List ℕ) where
  -- the label that a label statement binds
  label_binds :
      {bound label : ℕ} (number : StatementNumber) {facts : Facts} {last : Here} {list : List Item}
      → IsStatement (nodes_of at.body.tree.now) at.source.storage labels bound number.index
      (LabelStatement label)
      → IsCarriedOut at.body at.called facts number list last
      → (place : ℕ) × (slice_get labels place ≡ Some label) × ItemsBind (body_label at.body place).index list
  unfolding statement_steps
  label_binds number {facts = facts} {last = last} {list = list}
      (IsStatementNode {statement = found} below there (IsLabel {number = place} is))
      (StatementPlanned {statement = one} first here planned) =
      let same : one ≡ statements.Label place = same_Some one (statements.Label place) (sym here ∙ there) in
      let carried : AreCarriedOut at.body at.called (record { facts = facts; goes_on = true }) None
      (statement_steps at.body (knowing (site_of at.body) facts) (statements.Label place) first) list last =
      subst (λ (given : Statement). AreCarriedOut at.body at.called
      (record { facts = facts; goes_on = true }) None
      (statement_steps at.body (knowing (site_of at.body) facts) given first) list last) same planned in
      (place, is, plan_bound (body_label at.body place).index carried (inl refl))

  -- each label of a list is bound by its code
  abbrev HasBound : (label : ℕ) → List Item → Type 0
  HasBound label list =
      (place : ℕ) × (slice_get labels place ≡ Some label) × ItemsBind (body_label at.body place).index list

  bound_further : (label : ℕ) (first more : List Item) → HasBound label more → HasBound label (first ++ more)
  bound_further label first more has =
      (has.0, has.1, bound_after (body_label at.body has.0).index first more has.2)

  list_binds :
      {bound first count : ℕ} {trees : TypedStatements} {here last : Here} {list : List Item}
      (label place : ℕ) (places : List ℕ) (wanted : ℕ)
      → AreStatements (nodes_of at.body.tree.now) at.source.storage labels bound first count trees
      → LabelsStand label place places trees
      → AreAllCarriedOut at.body at.called here first count list last
      → label ≤ wanted
      → wanted < label + length places
      → HasBound wanted list
  list_binds label place places wanted AreNoStatements stand done low high =
      let none : length places ≡ 0 = ap (λ (given : List ℕ). length given) stand in
      absurd (omega (arith, none, low, high))
  list_binds label place [] wanted (AreMoreStatements {tree = LabelStatement number} named is are)
      stand done low high =
      absurd stand
  list_binds label place (first ∷ places) wanted
      (AreMoreStatements {number = entry} {tree = LabelStatement number} named is are) stand
      (generated.MoreStatements {here = here} {middle = middle} {number = other} {list = list} {more = more}
      found done rest) low high =
      elim (at_or_after label wanted low) [
        | inl same ↦
            let one : other ≡ entry = same_Some other entry (sym found ∙ named) in
            let has = label_binds entry is
            (subst (λ (n : StatementNumber). IsCarriedOut at.body at.called here.facts n list middle) one
            done) in
            let label_is : number ≡ wanted = stand.0 ∙ same in (
              has.0,
              subst (λ (l : ℕ). slice_get labels has.0 ≡ Some l) label_is has.1,
              bound_first (body_label at.body has.0).index list more has.2,
            )
        | inr past ↦
            bound_further wanted list more
            (list_binds (label + 1) (place + 1) places wanted are stand.2 rest (omega (arith, past))
            (omega (arith, high)))
      ]
  list_binds label place [] wanted (AreMoreStatements {tree = tree} named is are) stand done low high =
      absurd (omega (arith, low, high))
  list_binds label place (first ∷ places) wanted (AreMoreStatements {tree = tree} named is are) stand
      (generated.MoreStatements {list = list} {more = more} found done rest) low high =
      bound_further wanted list more
      (list_binds label (place + 1) (first ∷ places) wanted are stand rest low high)

  -- so the labels of a list may be referred to, if those that its code binds may be
  pub around_list :
      {bound : ℕ} {trees : TypedStatements} {facts : Facts} {last : Here} {list : List Item} {range : Range}
      (around : List LabelsOf) (label : ℕ) (places : List ℕ)
      → (at.counts → LabelsDiffer labels)
      → AreStatements (nodes_of at.body.tree.now) at.source.storage labels bound range.first range.count trees
      → (at.counts → LabelsStand label 0 places trees)
      → IsListCarriedOut at.body at.called facts range list last
      → MayBind at list
      → AroundGo at labels around
      → AroundGo at labels (labels_of_list label places ∷ around)
  around_list around label places differ are stand (ListPlanned done) own outer number wanted named any =
      elim (first_or_later (labels_of_list label places) around any) [
        | inl among ↦ λ c.
            let has = list_binds label 0 places wanted are (stand c) done among.0 among.1 in
            let same : has.0 ≡ number = differ c has.0 number wanted has.1 named in
            subst (λ (n : ℕ). at.ok (body_label at.body n).index) same
            (own (body_label at.body has.0).index has.2 c)
        | inr later ↦ outer number wanted named later
      ]

  -- a GOTO
  pub goto_ok :
      {bound : ℕ} {tree : TypedStatement} (found : Statement) (around : List LabelsOf) (label : LabelNumber)
      → IsStatementForm (nodes_of at.body.tree.now) at.source.storage labels bound found tree
      → (at.counts → JumpsStay around tree)
      → AroundGo at labels around
      → goto_label_of at.body found ≡ Some label
      → MayGo at label.index
  goto_ok (statements.Goto number) around label (IsGoto {label = wanted} named) stay outer is =
      let same : body_label at.body number ≡ label = same_Some (body_label at.body number) label is in
      subst (λ (given : LabelNumber). MayGo at given.index) same (λ c. outer number wanted named (stay c) c)
  goto_ok found around label form stay outer is = absurd (none-some label is)
