use Rattle.link.proofs.Prelude.{length, ap, sym, subst, ◌∙◌, Code, Data, same_segment, AreWithin, first_within}
use Rattle.link.proofs.contents.add_contents.Goals as goal

pub add-requires-clause-within : goal.add-requires-clause-within
add-requires-clause-within c =
    subst (AreWithin c.in-Some.content.offset (length c.in-Some.content.bytes.now))
    (sym (c.as_slice.ensures ∙ c.in_ok-take.ensures.fixes))
    (first_within c.args.resolved.now Code c.in-Some.content.offset c.in-Some.content.bytes.now
    c.next_content.new.self.fixes c.loop-content.walk.contents c.next_content.new.self.contents
    c.in-Some.content.segment c.loop-content.invariant.code_fits c.in-Some.ensures.0
    (ap (λ s. same_segment s Code) c.in-Code.is))

pub add-requires-in-Data-clause-within : goal.add-requires-in-Data-clause-within
add-requires-in-Data-clause-within c =
    subst (AreWithin c.in-Some.content.offset (length c.in-Some.content.bytes.now))
    (sym (c.as_slice-in-Data.ensures ∙ c.in_ok-take.ensures.fixes))
    (first_within c.args.resolved.now Data c.in-Some.content.offset c.in-Some.content.bytes.now
    c.next_content.new.self.fixes c.loop-content.walk.contents c.next_content.new.self.contents
    c.in-Some.content.segment c.loop-content.invariant.data_fits c.in-Some.ensures.0
    (ap (λ s. same_segment s Data) c.in-Data.is))
