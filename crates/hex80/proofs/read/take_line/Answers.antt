use Rattle.hex80.proofs.Prelude.{◌≡◌, ℕ, ◌+◌, ◌-◌, List, [], ◌∷◌, ◌++◌, take, drop, option_map, ap, sym, ◌∙◌, arith, common_steps, Piece, line_at}
use Rattle.hex80.proofs.ReadLemmas.{bad_line, marks_taken, overlaps, takes_line}
use Rattle.hex80.proofs.read.take_line.Goals as goal

pub returns-clause-marks : goal.returns-clause-marks
returns-clause-marks c =
    let size : 4 + c.in-Some.place.count - 4 ≡ c.in-Some.place.count = omega arith in
    let added : List ℕ → List Piece =
    λ bytes. c.args.pieces.now.items ++ (record { start = c.in-Some.place.start; bytes = bytes }) ∷ [] in
    marks_taken c.args.used.now c.mark.new.used c.args.pieces.now.items c.push.new.self.items
    c.read_line.new.buffer
    c.in-Some.place c.requires c.in-Some.ensures.fits (grind (arith, common_steps)) c.mark.ensures
    (c.in_ok-push.ensures.items
    ∙ ap added
    (c.from_vec.ensures.same ∙ c.in_ok-bytes.ensures.items
    ∙ ap (λ n. take n (drop 4 c.read_line.new.buffer)) size))

pub returns-clause-ok : goal.returns-clause-ok
returns-clause-ok c =
    let size : 4 + c.in-Some.place.count - 4 ≡ c.in-Some.place.count = omega arith in
    let added : List ℕ → List Piece =
    λ bytes. c.args.pieces.now.items ++ (record { start = c.in-Some.place.start; bytes = bytes }) ∷ [] in
    takes_line c.args.used.now c.args.pieces.now.items c.push.new.self.items c.args.line.now
    c.read_line.new.buffer
    c.in-Some.place c.byte_sum.result c.requires c.in-Some.ensures.fits (grind (arith, common_steps))
    c.in-Some.ensures.read c.byte_sum.ensures (omega arith) (sym c.is_used.ensures ∙ c.if-is_used.false)
    (c.in_ok-push.ensures.items
    ∙ ap added
    (c.from_vec.ensures.same ∙ c.in_ok-bytes.ensures.items
    ∙ ap (λ n. take n (drop 4 c.read_line.new.buffer)) size))

pub returns-in_default-clause-fault : goal.returns-in_default-clause-fault
returns-in_default-clause-fault c =
    bad_line c.args.pieces.now.items c.args.line.now
    (c.read_line.ensures.read ∙ ap (option_map (line_at c.read_line.new.buffer)) c.in_default.is)

pub returns-then-is_used-clause-fault : goal.returns-then-is_used-clause-fault
returns-then-is_used-clause-fault c =
    overlaps c.args.used.now c.args.pieces.now.items c.args.line.now c.read_line.new.buffer c.in-Some.place
    c.byte_sum.result c.requires c.in-Some.ensures.fits (grind (arith, common_steps)) c.in-Some.ensures.read
    c.byte_sum.ensures (omega arith) (sym c.is_used.ensures ∙ c.if-is_used.true)
