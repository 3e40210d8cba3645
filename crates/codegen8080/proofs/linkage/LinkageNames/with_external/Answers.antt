use Rattle.codegen8080.proofs.Prelude.{◌≡◌, List, ℕ, [], ◌∷◌, ◌++◌, map, ap, ◌∙◌, rules, owned_public_view, Linkage, names_of}
use Rattle.codegen8080.proofs.NewNames.{external_names, linkage_with_name}
use Rattle.codegen8080.proofs.linkage.LinkageNames.with_external.Goals as goal

pub invariant_of-result : goal.invariant_of-result
invariant_of-result c =
    let before : Linkage = record {
      externals = c.self.inside.externals.items;
      publics = map owned_public_view c.self.inside.publics.items;
    } in
    let after : Linkage = record {
      externals = c.push.new.self.items;
      publics = map owned_public_view c.self.inside.publics.items;
    } in
    let none : map owned_public_view c.self.inside.publics.items ≡ [] = search rules in
    let more : names_of after ≡ names_of before ++ c.args.name ∷ [] =
    ap (λ (e : List (List ℕ)). names_of (record { externals = e; publics = after.publics }))
    c.in_ok-push.ensures.items
    ∙ external_names before.externals before.publics c.args.name none in
    linkage_with_name before after c.args.name more c.self.invariant (search rules)
    (search rules) c.self.invariant.publics
