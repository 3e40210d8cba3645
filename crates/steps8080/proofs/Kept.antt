-- The queries about an expression return its traits.
use Rattle.steps8080.proofs.Prelude.{◌≡◌, Option, Some, None, ap, option_map_or}
use Rattle.treecode.specs.{declared.expression.Expression.{Expression}, declared.expression.ExpressionNumber.{ExpressionNumber}, declared.traits.Traits.{Traits}, internal.Nodes.{nodes_of}, internal.Queries.{inside, low_byte_at}, internal.Traits.{no_traits, traits_at}}
use Rattle.steps8080.specs.declared.sites.site.Site.{Site}
use Rattle.steps8080.specs.internal.Queries.{is_free, is_quiet, keeps, known, same_low_byte, stores_nothing}
use Rattle.steps8080.specs.internal.Site.{expression, scalar}

kept :
    {A : Type 0} (of : Traits → A) (found : Option Expression) (traits : Traits)
    → traits ≡ option_map_or (λ (it : Expression). it.traits) found no_traits
    → of traits ≡ elim found [ Some it ↦ of it.traits | None ↦ of no_traits ]
kept of None traits is = ap of is
kept of (Some it) traits is = ap of is

pub known_is_kept : (site : Site) (number : ExpressionNumber) (traits : Traits)
    → traits ≡ traits_at (nodes_of site.tree.now) number → traits.known ≡ known site number
unfolding expression known
known_is_kept site number traits is = kept (λ it. it.known) (expression site number) traits is

pub is_quiet_is_kept : (site : Site) (number : ExpressionNumber) (traits : Traits)
    → traits ≡ traits_at (nodes_of site.tree.now) number → traits.is_quiet ≡ is_quiet site number
unfolding expression is_quiet
is_quiet_is_kept site number traits is = kept (λ it. it.is_quiet) (expression site number) traits is

pub stores_nothing_is_kept : (site : Site) (number : ExpressionNumber) (traits : Traits)
    → traits ≡ traits_at (nodes_of site.tree.now) number → traits.stores_nothing ≡ stores_nothing site number
unfolding expression stores_nothing
stores_nothing_is_kept site number traits is =
    kept (λ it. it.stores_nothing) (expression site number) traits is

pub is_free_is_kept : (site : Site) (number : ExpressionNumber) (traits : Traits)
    → traits ≡ traits_at (nodes_of site.tree.now) number → traits.is_free ≡ is_free site number
unfolding expression is_free
is_free_is_kept site number traits is = kept (λ it. it.is_free) (expression site number) traits is

pub keeps_is_kept : (site : Site) (number : ExpressionNumber) (traits : Traits)
    → traits ≡ traits_at (nodes_of site.tree.now) number → traits.keeps ≡ keeps site number
unfolding expression keeps
keeps_is_kept site number traits is = kept (λ it. it.keeps) (expression site number) traits is

pub scalar_is_kept : (site : Site) (number : ExpressionNumber) (traits : Traits)
    → traits ≡ traits_at (nodes_of site.tree.now) number → traits.scalar ≡ scalar site number
unfolding expression scalar
scalar_is_kept site number traits is = kept (λ it. it.scalar) (expression site number) traits is

pub same_low_byte_is_kept : (site : Site) (number result : ExpressionNumber)
    → result ≡ low_byte_at site.tree.now number → result ≡ same_low_byte site number
unfolding expression same_low_byte
same_low_byte_is_kept site number result is = by_found (expression site number) is
  where
    by_found : (found : Option Expression)
        → result ≡ option_map_or (λ (it : Expression). inside number it.form) found number
        → result ≡ elim found [ Some it ↦ inside number it.form | None ↦ number ]
    by_found None same = same
    by_found (Some it) same = same
