-- What is known of a value at a site is what the traits of its node say.
use Rattle.steps8080.proofs.Prelude.{◌≡◌, ◌∙◌, refl, ap, Option, Some, None, option_map_or}
use Rattle.std.specs.Prelude.{slice_get}
use Rattle.treecode.specs.declared.expression.Expression.{Expression}
use Rattle.treecode.specs.declared.expression.ExpressionNumber.{ExpressionNumber}
use Rattle.treecode.specs.declared.place.Place.{Place}
use Rattle.treecode.specs.internal.Known.{known_number}
use Rattle.treecode.specs.internal.Nodes.{nodes_of}
use Rattle.treecode.specs.internal.Queries.{place_number}
use Rattle.treecode.specs.internal.Traits.{known_at, no_traits, number_at}
unfoldable use Rattle.steps8080.specs.internal.Queries.{known, number}
use Rattle.steps8080.specs.declared.sites.site.Site.{Site}
unfoldable use Rattle.steps8080.specs.internal.Site.{expression}

-- the value that is known, if any
pub known_is : (site : Site) (of : ExpressionNumber) → known site of ≡ known_at (nodes_of site.tree.now) of
unfolding known expression
known_is site of = by (slice_get site.tree.now.expressions.items of.index)
  where
    by : (found : Option Expression)
        → elim found [ Some one ↦ one.traits.known | None ↦ None ]
        ≡ (option_map_or (λ (one : Expression). one.traits) found no_traits).known
    by (Some one) = refl
    by None = refl

-- the number that a known place is
number_of_known : (found : Option Place)
    → elim found [ Some place ↦ place_number place | None ↦ None ] ≡ known_number found
number_of_known (Some place) = refl
number_of_known None = refl

-- the number that is known, if any
pub number_is : (site : Site) (of : ExpressionNumber) → number site of ≡ number_at (nodes_of site.tree.now) of
unfolding number
number_is site of =
    number_of_known (known site of) ∙ ap (λ (found : Option Place). known_number found) (known_is site of)
