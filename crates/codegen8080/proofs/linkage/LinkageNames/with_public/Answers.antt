use Rattle.codegen8080.proofs.Prelude.{◌≡◌, true, List, [], ◌∷◌, ◌++◌, map, ap, ◌∙◌, rules, list_all, Public, is_valid_public, owned_public_view, Linkage, names_of}
use Rattle.codegen8080.proofs.NewNames.{all_and_one, linkage_with_name, map_more, public_names}
use Rattle.codegen8080.proofs.linkage.LinkageNames.with_public.Goals as goal

pub invariant_of-result : goal.invariant_of-result
invariant_of-result c =
    let before : Linkage = record {
      externals = c.self.inside.externals.items;
      publics = map owned_public_view c.self.inside.publics.items;
    } in
    let after : Linkage = record {
      externals = c.self.inside.externals.items;
      publics = map owned_public_view c.push.new.self.items;
    } in
    let public : Public = owned_public_view c.args.public in
    let pushed : after.publics ≡ before.publics ++ public ∷ [] =
    ap (map owned_public_view) c.in_ok-push.ensures.items
    ∙ map_more owned_public_view c.self.inside.publics.items c.args.public in
    let more : names_of after ≡ names_of before ++ public.name ∷ [] =
    ap (λ (p : List Public). names_of (record { externals = after.externals; publics = p })) pushed
    ∙ public_names before.externals before.publics public in
    let valid : is_valid_public public ≡ true = search rules in
    linkage_with_name before after public.name more c.self.invariant (search rules) (search rules)
    (ap (list_all is_valid_public) pushed
    ∙ all_and_one is_valid_public before.publics public c.self.invariant.publics valid)
