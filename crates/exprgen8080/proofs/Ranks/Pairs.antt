-- Two words in HL and DE.
use Rattle.exprgen8080.proofs.Prelude.{◌&&◌, if◌then◌else◌, Bool, ExpressionNumber, IfSome, LeftInHl, LeftKeeps, LeftKnown, None, Option, PairForm, PairOrder, Place, RightInHl, RightKeeps, RightKnown, Site, Some, TreeModule, false, form_steps, known, order_of, pair_form, pair_in_order_steps, pair_steps, wish_for_left, true, wished_steps, ℕ}
use Rattle.operands8080.specs.declared.pairs.PairForm.TheVariants.{RightFree, LeftFree, Pushed}
use Rattle.steps8080.proofs.SiteNames.{IsOwn, known_is_own}
use Rattle.operands8080.specs.declared.pairs.Choices.{Choices}
use Rattle.operands8080.specs.internal.Pairs.{any_order, choices_of, left_in_hl, right_in_hl}
use Rattle.exprgen8080.proofs.Ranks.{Joining.{Falls, IsUnder, falls, joined}}

-- the known word of a form is named by the module
abbrev PlaceOfForm : TreeModule → PairForm → Type 0
PlaceOfForm tree (RightKnown place) = IsOwn tree place
PlaceOfForm tree (LeftKnown place) = IsOwn tree place
PlaceOfForm tree form = Unit {0}

record IsOwnForm (tree : TreeModule) (form : PairForm) : Type 0 where
  known : PlaceOfForm tree form

either_form : {tree : TreeModule} {one two : PairForm} (b : Bool) → IsOwnForm tree one → IsOwnForm tree two
    → IsOwnForm tree (if b then one else two)
either_form true one two = one
either_form false one two = two

any_is_own : (tree : TreeModule) (choices : Choices) → IsOwnForm tree (any_order choices)
any_is_own tree choices =
    either_form (choices.left_keeps && choices.right_is_in_hl) (record { known = tt })
    (either_form choices.right_keeps (record { known = tt })
    (either_form choices.left_keeps (record { known = tt })
    (either_form choices.right_is_free (record { known = tt })
    (either_form choices.left_is_free (record { known = tt }) (record { known = tt })))))

left_is_own : (tree : TreeModule) (choices : Choices) → IsOwnForm tree (left_in_hl choices)
left_is_own tree choices =
    either_form (choices.left_is_in_hl && choices.right_is_free) (record { known = tt })
    (either_form (choices.left_is_in_hl && choices.right_keeps) (record { known = tt })
    (either_form choices.left_keeps (record { known = tt })
    (either_form choices.right_is_free (record { known = tt }) (any_is_own tree choices))))

right_is_own : (tree : TreeModule) (choices : Choices) → IsOwnForm tree (right_in_hl choices)
right_is_own tree choices =
    either_form (choices.right_is_in_hl && choices.left_is_free) (record { known = tt })
    (either_form (choices.right_is_in_hl && choices.left_keeps) (record { known = tt })
    (either_form choices.right_keeps (record { known = tt })
    (either_form choices.left_is_free (record { known = tt }) (any_is_own tree choices))))

form_is_own : (site : Site) (left right : ExpressionNumber) (wish : Option PairOrder)
    → IsOwnForm site.tree.now (pair_form site left right wish)
form_is_own site left right wish =
    by (known site right) (known site left) wish (known_is_own site right) (known_is_own site left)
  where
    wished : (wish : Option PairOrder)
        → IsOwnForm site.tree.now (elim wish [
          | Some order ↦ elim order [
            | LeftInHl ↦ left_in_hl (choices_of site left right)
            | RightInHl ↦ right_in_hl (choices_of site left right)
          ]
          | None ↦ any_order (choices_of site left right)
        ])
    wished (Some LeftInHl) = left_is_own site.tree.now (choices_of site left right)
    wished (Some RightInHl) = right_is_own site.tree.now (choices_of site left right)
    wished None = any_is_own site.tree.now (choices_of site left right)

    by : (first second : Option Place) (wish : Option PairOrder)
        → IfSome first (IsOwn site.tree.now)
        → IfSome second (IsOwn site.tree.now)
        → IsOwnForm site.tree.now (elim first [
          | Some place ↦ RightKnown place
          | None ↦ elim second [
            | Some place ↦ LeftKnown place
            | None ↦ elim wish [
              | Some order ↦ elim order [
                | LeftInHl ↦ left_in_hl (choices_of site left right)
                | RightInHl ↦ right_in_hl (choices_of site left right)
              ]
              | None ↦ any_order (choices_of site left right)
            ]
          ]
        ])
    by (Some place) second wish one two = record { known = one }
    by None (Some place) wish one two = record { known = two }
    by None None wish one two = wished wish

pair_form_fall :
    {site : Site} {limit : ℕ} (form : PairForm)
    (left right : ExpressionNumber) (pushed : ℕ)
    → IsUnder site.tree.now limit left → IsUnder site.tree.now limit right
    → IsOwnForm site.tree.now form
    → Falls site limit (form_steps form left right pushed)
pair_form_fall (RightKnown place) left right pushed one two own = falls (one, (own.known, tt))
pair_form_fall (LeftKnown place) left right pushed one two own = falls (two, (own.known, tt))
pair_form_fall RightKeeps left right pushed one two own = falls (one, (two, tt))
pair_form_fall LeftKeeps left right pushed one two own = falls (two, (one, tt))
pair_form_fall RightFree left right pushed one two own = falls (one, (two, tt))
pair_form_fall LeftFree left right pushed one two own = falls (two, (one, tt))
pair_form_fall Pushed left right pushed one two own = falls (one, (two, tt))

wished_fall :
    {site : Site} {limit : ℕ} (wish : Option PairOrder) (order : PairOrder)
    → Falls site limit (wished_steps wish order)
wished_fall None order = falls tt
wished_fall (Some LeftInHl) LeftInHl = falls tt
wished_fall (Some LeftInHl) RightInHl = falls tt
wished_fall (Some RightInHl) LeftInHl = falls tt
wished_fall (Some RightInHl) RightInHl = falls tt

pub pair_in_order_fall :
    {site : Site} {limit : ℕ} (left right : ExpressionNumber)
    (wish : Option PairOrder) (pushed : ℕ)
    → IsUnder site.tree.now limit left → IsUnder site.tree.now limit right
    → Falls site limit (pair_in_order_steps site left right wish pushed)
pair_in_order_fall {site = site} left right wish pushed one two =
    joined (pair_form_fall (pair_form site left right wish) left right pushed one two (form_is_own site left right wish))
    (wished_fall wish (order_of (pair_form site left right wish)))

pub pair_fall :
    {site : Site} {limit : ℕ} (left right : ExpressionNumber)
    (wants_left_in_hl : Bool) (pushed : ℕ)
    → IsUnder site.tree.now limit left → IsUnder site.tree.now limit right
    → Falls site limit (pair_steps site left right wants_left_in_hl pushed)
pair_fall left right wants_left_in_hl pushed one two =
    pair_in_order_fall left right (wish_for_left wants_left_in_hl) pushed one two
