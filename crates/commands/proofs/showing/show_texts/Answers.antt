use Rattle.commands.proofs.{Prelude.{place_in, refl, sym, ap, ◌∙◌, map, texts_of}, Shown.{listing_printed, listing_stopped, memory_shown, printed_by, refused_by, refused_not_done}}
use Rattle.commands.proofs.showing.show_texts.Goals as goal

pub returns-then-takes_object-clause-printed : goal.returns-then-takes_object-clause-printed
returns-then-takes_object-clause-printed g c = λ done.
    printed_by _ _ _ _ _ (sym c.takes_object.ensures ∙ c.if-takes_object.true) _ refl _ _
    (listing_printed c.args.order.now.action _ (map (λ text. text.items) c.args.texts.now) _ _ _ c.text_at.ensures (c.print_list.ensures.printed done))

pub returns-then-takes_object-clause-refused : goal.returns-then-takes_object-clause-refused
returns-then-takes_object-clause-refused g c = λ refused.
    refused_by _ _ _ _ _ (sym c.takes_object.ensures ∙ c.if-takes_object.true) _ refl _ _ _ _ _
    (listing_stopped c.args.order.now.action _ (map (λ text. text.items) c.args.texts.now) _ (place_in c.args.order.now).files _ _ _ _ c.text_at.ensures (c.print_list.ensures.told refused) (c.print_list.ensures.refused (refused_not_done _ refused)))

pub returns-in-Ok-clause-printed : goal.returns-in-Ok-clause-printed
returns-in-Ok-clause-printed g c = λ done.
    printed_by _ _ _ _ _ (sym c.takes_object.ensures ∙ c.if-takes_object.false) _ (ap texts_of c.as_slice-in-Ok.ensures.value ∙ c.in-Ok.ensures) _ _
    (c.show_sources.ensures.printed done)

pub returns-in-Ok-clause-refused : goal.returns-in-Ok-clause-refused
returns-in-Ok-clause-refused g c = λ refused.
    refused_by _ _ _ _ _ (sym c.takes_object.ensures ∙ c.if-takes_object.false) _ (ap texts_of c.as_slice-in-Ok.ensures.value ∙ c.in-Ok.ensures) _ _ _ _ _
    (c.show_sources.ensures.refused refused)

pub returns-in-Err-clause-refused : goal.returns-in-Err-clause-refused
returns-in-Err-clause-refused g c = λ refused.
    refused_by _ _ _ _ _ (sym c.takes_object.ensures ∙ c.if-takes_object.false) _ refl _ _ _ _ _
    (memory_shown _ _ _ _ _ _ _ c.refuse_memory.ensures.line)
