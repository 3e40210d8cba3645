use Rattle.link_modules.proofs.Prelude.{map, ap, sym, subst, ◌∙◌, ◌+◌, ◌≤◌, Code, Data, ObjectModule, length_of, start_of, owned_public_view, code_kept, data_kept, grown_from}
use Rattle.link_modules.proofs.modules.ModuleWalkLinkable.add_contents.Goals as goal

pub add_runs-requires-clause-room : goal.add_runs-requires-clause-room
add_runs-requires-clause-room c =
    subst (λ (object : ObjectModule). start_of c.args.resolved.now.start Code + length_of object Code ≤ 65535)
    (sym c.self.view_is) c.requires.code

pub returns-clause-code : goal.returns-clause-code
returns-clause-code c =
    c.in_ok-add_runs.ensures
    ∙ code_kept c.args.resolved.now c.args.code.now c.self.inside.object.now
    (map owned_public_view c.self.inside.publics.now) c.self.inside.externals.now
    ∙ ap (λ (object : ObjectModule). grown_from c.args.resolved.now Code c.args.code.now object)
    c.self.view_is

pub returns-clause-data_bytes : goal.returns-clause-data_bytes
returns-clause-data_bytes c =
    c.in_ok-add_runs-2.ensures
    ∙ data_kept c.args.resolved.now c.args.data_bytes.now c.self.inside.object.now
    (map owned_public_view c.self.inside.publics.now) c.self.inside.externals.now
    ∙ ap (λ (object : ObjectModule). grown_from c.args.resolved.now Data c.args.data_bytes.now object)
    c.self.view_is
