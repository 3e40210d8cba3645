use Rattle.listings.proofs.{Prelude.{◌≡◌, ℕ, ◌+◌, length, None, Option, Some, refl, ap, ◌∙◌, none-some, same_Some, bytes_of, Instr, AllThere}, Codes.{code_read}}
use Rattle.listings.proofs.image.decoded_at.Goals as goal

pub returns-in_err-instr-clause-whole : goal.returns-in_err-instr-clause-whole
returns-in_err-instr-clause-whole c =
    λ (i : Instr) (there : AllThere c.args.pieces.now c.args.address (bytes_of i)).
    let read =
    code_read c.args.pieces.now c.args.address c.byte_or_0-first.result c.byte_or_0-second.result
    c.byte_or_0-third.result (c.args.address + 1) (c.args.address + 2) c.decode.result refl refl
    c.byte_or_0-first.ensures c.byte_or_0-second.ensures c.byte_or_0-third.ensures
    c.decode.ensures.instruction i there in
    let none : ◌≡◌ {A = Option (Instr × ℕ)} None (Some (i, length (bytes_of i))) = cc in
    absurd (none-some (i, length (bytes_of i)) none)

pub returns-clause-whole : goal.returns-clause-whole
returns-clause-whole c = λ (i : Instr) (there : AllThere c.args.pieces.now c.args.address (bytes_of i)).
    let read =
    code_read c.args.pieces.now c.args.address c.byte_or_0-first.result c.byte_or_0-second.result
    c.byte_or_0-third.result (c.args.address + 1) (c.args.address + 2) c.decode.result refl refl
    c.byte_or_0-first.ensures c.byte_or_0-second.ensures c.byte_or_0-third.ensures
    c.decode.ensures.instruction i there in
    let same : ◌≡◌ {A = Option (Instr × ℕ)} (Some (c.in_ok-instr.instr, c.in_ok-instr.field-0-1))
    (Some (i, length (bytes_of i))) = cc in
    c.coded_of.ensures.instr ∙ ap (λ (p : Instr × ℕ). p.0)
    (same_Some (c.in_ok-instr.instr, c.in_ok-instr.field-0-1) (i, length (bytes_of i)) same)
