use Rattle.names.proofs.Prelude.{◌≡◌, codes, rules, refl, arith, length, text_from_reads, HasBytesAt}
use Rattle.names.specs.BuiltIns.{built_in_of}
use Rattle.names.proofs.scopes.built_in.Goals as goal

pub returns-in-INPUT : goal.returns-in-INPUT
unfolding built_in_of
returns-in-INPUT c =
    let size : length c.args.name.now ≡ length (codes "INPUT") = omega arith in
    let bytes : HasBytesAt c.args.name.now 0 (codes "INPUT") = search rules in
    rw (text_from_reads c.args.name.now (codes "INPUT") size bytes) refl

pub returns-in-OUTPUT : goal.returns-in-OUTPUT
unfolding built_in_of
returns-in-OUTPUT c =
    let size : length c.args.name.now ≡ length (codes "OUTPUT") = omega arith in
    let bytes : HasBytesAt c.args.name.now 0 (codes "OUTPUT") = search rules in
    rw (text_from_reads c.args.name.now (codes "OUTPUT") size bytes) refl

pub returns-in-LOW : goal.returns-in-LOW
unfolding built_in_of
returns-in-LOW c =
    let size : length c.args.name.now ≡ length (codes "LOW") = omega arith in
    let bytes : HasBytesAt c.args.name.now 0 (codes "LOW") = search rules in
    rw (text_from_reads c.args.name.now (codes "LOW") size bytes) refl

pub returns-in-HIGH : goal.returns-in-HIGH
unfolding built_in_of
returns-in-HIGH c =
    let size : length c.args.name.now ≡ length (codes "HIGH") = omega arith in
    let bytes : HasBytesAt c.args.name.now 0 (codes "HIGH") = search rules in
    rw (text_from_reads c.args.name.now (codes "HIGH") size bytes) refl

pub returns-in-DOUBLE : goal.returns-in-DOUBLE
unfolding built_in_of
returns-in-DOUBLE c =
    let size : length c.args.name.now ≡ length (codes "DOUBLE") = omega arith in
    let bytes : HasBytesAt c.args.name.now 0 (codes "DOUBLE") = search rules in
    rw (text_from_reads c.args.name.now (codes "DOUBLE") size bytes) refl

pub returns-in-LENGTH : goal.returns-in-LENGTH
unfolding built_in_of
returns-in-LENGTH c =
    let size : length c.args.name.now ≡ length (codes "LENGTH") = omega arith in
    let bytes : HasBytesAt c.args.name.now 0 (codes "LENGTH") = search rules in
    rw (text_from_reads c.args.name.now (codes "LENGTH") size bytes) refl

pub returns-in-LAST : goal.returns-in-LAST
unfolding built_in_of
returns-in-LAST c =
    let size : length c.args.name.now ≡ length (codes "LAST") = omega arith in
    let bytes : HasBytesAt c.args.name.now 0 (codes "LAST") = search rules in
    rw (text_from_reads c.args.name.now (codes "LAST") size bytes) refl

pub returns-in-SIZE : goal.returns-in-SIZE
unfolding built_in_of
returns-in-SIZE c =
    let size : length c.args.name.now ≡ length (codes "SIZE") = omega arith in
    let bytes : HasBytesAt c.args.name.now 0 (codes "SIZE") = search rules in
    rw (text_from_reads c.args.name.now (codes "SIZE") size bytes) refl

pub returns-in-SHL : goal.returns-in-SHL
unfolding built_in_of
returns-in-SHL c =
    let size : length c.args.name.now ≡ length (codes "SHL") = omega arith in
    let bytes : HasBytesAt c.args.name.now 0 (codes "SHL") = search rules in
    rw (text_from_reads c.args.name.now (codes "SHL") size bytes) refl

pub returns-in-SHR : goal.returns-in-SHR
unfolding built_in_of
returns-in-SHR c =
    let size : length c.args.name.now ≡ length (codes "SHR") = omega arith in
    let bytes : HasBytesAt c.args.name.now 0 (codes "SHR") = search rules in
    rw (text_from_reads c.args.name.now (codes "SHR") size bytes) refl

pub returns-in-ROL : goal.returns-in-ROL
unfolding built_in_of
returns-in-ROL c =
    let size : length c.args.name.now ≡ length (codes "ROL") = omega arith in
    let bytes : HasBytesAt c.args.name.now 0 (codes "ROL") = search rules in
    rw (text_from_reads c.args.name.now (codes "ROL") size bytes) refl

pub returns-in-ROR : goal.returns-in-ROR
unfolding built_in_of
returns-in-ROR c =
    let size : length c.args.name.now ≡ length (codes "ROR") = omega arith in
    let bytes : HasBytesAt c.args.name.now 0 (codes "ROR") = search rules in
    rw (text_from_reads c.args.name.now (codes "ROR") size bytes) refl

pub returns-in-MOVE : goal.returns-in-MOVE
unfolding built_in_of
returns-in-MOVE c =
    let size : length c.args.name.now ≡ length (codes "MOVE") = omega arith in
    let bytes : HasBytesAt c.args.name.now 0 (codes "MOVE") = search rules in
    rw (text_from_reads c.args.name.now (codes "MOVE") size bytes) refl
