use Rattle.omf80.proofs.Prelude.{◌∷◌, [], slice_index, record_bytes, on_err}
use Rattle.omf80.proofs.Writing.{record_is, on_ok_then, on_err_then, record_written, heading_begun, body_begun, last_begun}
use Rattle.omf80.proofs.records.write_record.Goals as goal

pub returns-in_err-write_bytes-clause-err : goal.returns-in_err-write_bytes-clause-err
returns-in_err-write_bytes-clause-err g c =
    let word = c.word.result in
    let body = c.args.body.now in
    let whole =
    record_is c.args.kind c.checksum-last.result body word c.word.ensures c.checksum-last.ensures.byte
    c.checksum-last.ensures.adds_up in
    on_err c.from_residual.result _
    (heading_begun (g.W.Write.contents c.args.out.now) (g.W.Write.contents c.write_bytes.new.out)
    (g.W.Write.contents c.write_bytes.new.out) (g.W.Write.contents c.write_bytes.new.out)
    (c.args.kind ∷ slice_index word 0 ∷ slice_index word 1 ∷ []) body (c.checksum-last.result ∷ [])
    (record_bytes c.args.kind body) whole c.in_err-write_bytes.ensures.err)

pub returns-in_err-write_bytes-2-clause-err : goal.returns-in_err-write_bytes-2-clause-err
returns-in_err-write_bytes-2-clause-err g c =
    let word = c.word.result in
    let body = c.args.body.now in
    let whole =
    record_is c.args.kind c.checksum-last.result body word c.word.ensures c.checksum-last.ensures.byte
    c.checksum-last.ensures.adds_up in
    on_err c.from_residual-in_err-write_bytes-2.result _
    (body_begun (g.W.Write.contents c.args.out.now) (g.W.Write.contents c.write_bytes.new.out)
    (g.W.Write.contents c.write_bytes-2.new.out) (g.W.Write.contents c.write_bytes-2.new.out)
    (c.args.kind ∷ slice_index word 0 ∷ slice_index word 1 ∷ []) body (c.checksum-last.result ∷ [])
    (record_bytes c.args.kind body) whole c.in_ok-write_bytes.ensures.ok c.in_err-write_bytes-2.ensures.err)

pub returns-clause-ok : goal.returns-clause-ok
returns-clause-ok g c =
    let word = c.word.result in
    let body = c.args.body.now in
    let whole =
    record_is c.args.kind c.checksum-last.result body word c.word.ensures c.checksum-last.ensures.byte
    c.checksum-last.ensures.adds_up in
    on_ok_then c.write_bytes-3.result _ _ c.write_bytes-3.ensures.ok
    (record_written (g.W.Write.contents c.args.out.now) (g.W.Write.contents c.write_bytes.new.out)
    (g.W.Write.contents c.write_bytes-2.new.out) (g.W.Write.contents c.write_bytes-3.new.out)
    (c.args.kind ∷ slice_index word 0 ∷ slice_index word 1 ∷ []) body (c.checksum-last.result ∷ [])
    (record_bytes c.args.kind body) whole c.in_ok-write_bytes.ensures.ok c.in_ok-write_bytes-2.ensures.ok)

pub returns-clause-err : goal.returns-clause-err
returns-clause-err g c =
    let word = c.word.result in
    let body = c.args.body.now in
    let whole =
    record_is c.args.kind c.checksum-last.result body word c.word.ensures c.checksum-last.ensures.byte
    c.checksum-last.ensures.adds_up in
    on_err_then c.write_bytes-3.result _ _ c.write_bytes-3.ensures.err
    (last_begun (g.W.Write.contents c.args.out.now) (g.W.Write.contents c.write_bytes.new.out)
    (g.W.Write.contents c.write_bytes-2.new.out) (g.W.Write.contents c.write_bytes-3.new.out)
    (c.args.kind ∷ slice_index word 0 ∷ slice_index word 1 ∷ []) body (c.checksum-last.result ∷ [])
    (record_bytes c.args.kind body) whole c.in_ok-write_bytes.ensures.ok c.in_ok-write_bytes-2.ensures.ok)
