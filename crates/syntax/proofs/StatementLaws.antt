-- The laws of reading statements and declarations.
use Rattle.syntax.proofs.Prelude.{ℕ, Bool, Shrinks, block, statement, declaration}
use Rattle.syntax.proofs.StatementLengths.{statement-shorter, declaration-shorter}
use Rattle.syntax.proofs.StatementSoundness.{GetsBlocks, statement-gets, declaration-gets, block-gets}
use Rattle.syntax.proofs.StatementVerdicts.{HasBlockVerdicts, statement-verdict, declaration-verdict, block-verdict}

-- a statement, and a declaration, takes a symbol at least
pub statement-shrinks : (strict : Bool) (room : ℕ) → Shrinks (statement strict room)
statement-shrinks strict room s r t e = statement-shorter ((statement-gets strict room s).holds (t, r) e).0

pub declaration-shrinks : (strict : Bool) (room : ℕ) → Shrinks (declaration strict room)
declaration-shrinks strict room s r t e =
    declaration-shorter ((declaration-gets strict room s).holds (t, r) e)

-- declarations and then statements
pub body-gets : (strict : Bool) (room : ℕ)
    → GetsBlocks (block (declaration strict room) (statement strict room))
body-gets strict room =
    block-gets (declaration strict room) (statement strict room) (declaration-gets strict room)
    (statement-gets strict room)

pub body-verdict : (strict : Bool) (room : ℕ)
    → HasBlockVerdicts strict room (block (declaration strict room) (statement strict room))
body-verdict strict room =
    block-verdict strict room (declaration strict room) (statement strict room)
    (declaration-verdict strict room) (statement-verdict strict room)
