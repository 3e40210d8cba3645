use Rattle.types.proofs.Prelude.{module_tree, Declares, FramesFit, ParametersFit, ListsGlobals, JumpsAreSound, IsStorable, IsWellTyped, module_view, typing_of, GivesBack, jumps_are_sound, gives_back, is_storable, where_typed, is_well_typed, globals_are_listed, frames_are_summed, parameters_fit}
use Rattle.types.proofs.Declares.DeclaredTables.{declares}
use Rattle.typing_rules.specs.Modules.{ModuleTyping}
use Rattle.typing_rules.proofs.Laws.{typed_by_rules, refused_by_rules}
use Rattle.types.proofs.walk.check.Goals as goal

pub returns-clause-rules : goal.returns-clause-rules
returns-clause-rules c =
    where_typed module_view c.typed.result (typing_of (module_tree c.args.parsed))
    (ModuleTyping (module_tree c.args.parsed)) c.typed.ensures.typing
    (typed_by_rules (module_tree c.args.parsed))

pub returns-clause-broken : goal.returns-clause-broken
returns-clause-broken c =
    refused_by_rules module_view c.typed.result (module_tree c.args.parsed) c.typed.ensures.typing

pub returns-clause-given_back : goal.returns-clause-given_back
returns-clause-given_back c =
    where_typed module_view c.typed.result (typing_of (module_tree c.args.parsed))
    (GivesBack (module_tree c.args.parsed)) c.typed.ensures.typing
    (gives_back (module_tree c.args.parsed))

pub returns-clause-jumps : goal.returns-clause-jumps
returns-clause-jumps c =
    where_typed module_view c.typed.result (typing_of (module_tree c.args.parsed)) JumpsAreSound
    c.typed.ensures.typing (jumps_are_sound (module_tree c.args.parsed))

pub returns-clause-storable : goal.returns-clause-storable
returns-clause-storable c =
    where_typed module_view c.typed.result (typing_of (module_tree c.args.parsed)) IsStorable
    c.typed.ensures.typing (is_storable (module_tree c.args.parsed))

pub returns-clause-types : goal.returns-clause-types
returns-clause-types c =
    where_typed module_view c.typed.result (typing_of (module_tree c.args.parsed)) IsWellTyped
    c.typed.ensures.typing
    (is_well_typed (module_tree c.args.parsed))

pub returns-clause-globals : goal.returns-clause-globals
returns-clause-globals c =
    where_typed module_view c.typed.result (typing_of (module_tree c.args.parsed)) ListsGlobals
    c.typed.ensures.typing
    (globals_are_listed (module_tree c.args.parsed))

pub returns-clause-frames : goal.returns-clause-frames
returns-clause-frames c =
    where_typed module_view c.typed.result (typing_of (module_tree c.args.parsed)) FramesFit
    c.typed.ensures.typing
    (frames_are_summed (module_tree c.args.parsed))

pub returns-clause-parameters : goal.returns-clause-parameters
returns-clause-parameters c =
    where_typed module_view c.typed.result (typing_of (module_tree c.args.parsed)) ParametersFit
    c.typed.ensures.typing
    (parameters_fit (module_tree c.args.parsed))

pub returns-clause-declared : goal.returns-clause-declared
returns-clause-declared c =
    where_typed module_view c.typed.result (typing_of (module_tree c.args.parsed))
    (Declares (module_tree c.args.parsed)) c.typed.ensures.typing
    (declares (module_tree c.args.parsed))
