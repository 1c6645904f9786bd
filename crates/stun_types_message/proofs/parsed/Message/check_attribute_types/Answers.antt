use Rattle.std.proofs.Common.{rules, ◌≡◌, ℕ, List, [], length, map, true, false, None, Some, refl, sym, ap, subst, ◌∙◌}
use Rattle.std.specs.Prelude.{Option}
use Rattle.std.proofs.lemmas.List.{length-map}
use Rattle.stun_types_attributes.specs.Base.Refusals.{IsCause}
use Rattle.stun_types_attributes.specs.Wire.declared.attribute.AttributeType.{AttributeType}
use Rattle.stun_types_attributes.specs.Wire.declared.error.StunWriteError.{StunWriteError}
use Rattle.stun_types_attributes.specs.Wire.declared.error.StunWriteError.TheVariants.{NoMemory}
use Rattle.stun_types_attributes.specs.Wire.Grammar.{number_at, visible}
use Rattle.stun_types_add.specs.Calls.{IsComposed}
use Rattle.stun_types_message.specs.Objections.{IsObjected, error_type, objection_refusal, objection_refusal_to, objection_to, unknown_refusal, unknown_response_attributes}
use Rattle.stun_types_message.proofs.Listing.{missing_is, none_visible, unknown_objection, unknown_refused}
use Rattle.stun_types_message.proofs.parsed.Message.check_attribute_types.Goals as goal

abbrev numbers : List AttributeType → List ℕ
numbers types = map (λ (t : AttributeType). t.0) types

-- A cause of one error is a cause of an equal one.
cause_as : (one other : Option StunWriteError) (error : StunWriteError) → one ≡ other → IsCause NoMemory one error → IsCause NoMemory other error
cause_as one other error same h = subst (λ (r : Option StunWriteError). IsCause NoMemory r error) same h

pub returns-in_err-room_for_types-clause-cause : goal.returns-in_err-room_for_types-clause-cause
returns-in_err-room_for_types-clause-cause g c =
    let shows = sym c.shows_unknown.ensures ∙ c.if-shows_unknown.true in
    let limit = (g.W.MessageWrite.draft c.args.writer).limit in
    let same = unknown_refused limit (visible c.args.msg.now) (numbers c.args.supported.now) (numbers c.args.required.now) _ shows c.unknown_types-unknown.ensures.count in
    let here : IsCause NoMemory (unknown_refusal limit c.unknown_types-unknown.result.count) c.in_err-room_for_types.field-0.0 = record {
      named = λ _. c.in_err-room_for_types.ensures.answer;
      last = λ is. absurd (c.in_err-room_for_types.ensures.named is);
    } in
    let cause = cause_as _ _ _ same here in
    search rules

pub returns-then-unknown-clause-cause : goal.returns-then-unknown-clause-cause
returns-then-unknown-clause-cause g c =
    let shows = sym c.shows_unknown.ensures ∙ c.if-shows_unknown.true in
    let limit = (g.W.MessageWrite.draft c.args.writer).limit in
    let same = unknown_refused limit (visible c.args.msg.now) (numbers c.args.supported.now) (numbers c.args.required.now) _ shows c.unknown_types-unknown.ensures.count in
    let here : IsCause NoMemory (unknown_refusal limit c.unknown_types-unknown.result.count) NoMemory = record {
      named = λ other. absurd (other refl);
      last = λ is. c.in_ok-room_for_types.ensures.answer;
    } in
    cause_as _ _ _ same here

pub returns-in_err-reply-clause-cause : goal.returns-in_err-reply-clause-cause
returns-in_err-reply-clause-cause g c =
    let shows = sym c.shows_unknown.ensures ∙ c.if-shows_unknown.true in
    let limit = (g.W.MessageWrite.draft c.args.writer).limit in
    let enough : c.unknown_types-unknown.result.lacks_memory ≡ false = search rules in
    let counted = sym (length-map c.unknown_types-unknown.result.types.items (λ (t : AttributeType). t.0)) ∙ ap length (c.unknown_types-unknown.ensures.types enough) in
    let listed : length c.as_slice.result.now ≡ length c.unknown_types-unknown.result.types.items = ap length c.as_slice.ensures.value in
    let same = unknown_refused limit (visible c.args.msg.now) (numbers c.args.supported.now) (numbers c.args.required.now) _ shows (listed ∙ counted) in
    let cause = cause_as _ _ _ same c.in_err-reply.ensures.cause in
    search rules

pub returns-then-shows_unknown-clause-ok : goal.returns-then-shows_unknown-clause-ok
returns-then-shows_unknown-clause-ok g c =
    let shows = sym c.shows_unknown.ensures ∙ c.if-shows_unknown.true in
    let enough : c.unknown_types-unknown.result.lacks_memory ≡ false = search rules in
    let listed = ap (λ (l : List AttributeType). map (λ (t : AttributeType). t.0) l) c.as_slice.ensures.value ∙ c.unknown_types-unknown.ensures.types enough in
    let kind = error_type c.args.msg.now in
    let number = number_at c.args.msg.now in
    let old = g.W.MessageWrite.draft c.args.writer in
    let new = g.W.MessageWrite.draft c.in_ok-reply.reply in
    let made : IsComposed kind number (unknown_response_attributes _) old new = subst (λ (l : List ℕ). IsComposed kind number (unknown_response_attributes l) old new) listed c.in_ok-reply.ensures.ok in
    subst (λ o. IsObjected o kind number old (Some new)) (sym (unknown_objection (visible c.args.msg.now) (numbers c.args.supported.now) (numbers c.args.required.now) shows)) made

pub returns-then-shows_unknown-clause-cause : goal.returns-then-shows_unknown-clause-cause
returns-then-shows_unknown-clause-cause g c =
    let shows = sym c.shows_unknown.ensures ∙ c.if-shows_unknown.true in
    let limit = (g.W.MessageWrite.draft c.args.writer).limit in
    let same = unknown_refused limit (visible c.args.msg.now) (numbers c.args.supported.now) (numbers c.args.required.now) _ shows c.unknown_types-unknown.ensures.count in
    sym same ∙ c.in_ok-room_for_types.ensures.answer

pub returns-in_err-reply-2-clause-cause : goal.returns-in_err-reply-2-clause-cause
returns-in_err-reply-2-clause-cause g c =
    let limit = (g.W.MessageWrite.draft c.args.writer).limit in
    let hidden : c.shows_unknown.result ≡ false = search rules in
    let lacks : c.lacks_type.result ≡ true = search rules in
    let none = none_visible (visible c.args.msg.now) (numbers c.args.supported.now) (sym c.shows_unknown.ensures ∙ hidden) in
    let missing = missing_is (visible c.args.msg.now) c.args.required.now _ true c.lacks_type.ensures lacks in
    let same : objection_refusal_to limit [] true ≡ objection_refusal limit (visible c.args.msg.now) (numbers c.args.supported.now) (numbers c.args.required.now) = sym (λ i. objection_refusal_to limit (none i) (missing i)) in
    let cause = cause_as _ _ _ same c.in_err-reply-2.ensures.cause in
    search rules

pub returns-then-lacks_type-clause-ok : goal.returns-then-lacks_type-clause-ok
returns-then-lacks_type-clause-ok g c =
    let hidden : c.shows_unknown.result ≡ false = search rules in
    let lacks : c.lacks_type.result ≡ true = search rules in
    let none = none_visible (visible c.args.msg.now) (numbers c.args.supported.now) (sym c.shows_unknown.ensures ∙ hidden) in
    let missing = missing_is (visible c.args.msg.now) c.args.required.now _ true c.lacks_type.ensures lacks in
    let kind = error_type c.args.msg.now in
    let number = number_at c.args.msg.now in
    let old = g.W.MessageWrite.draft c.args.writer in
    let new = g.W.MessageWrite.draft c.in_ok-reply-2.reply in
    let same = sym (λ i. objection_to (none i) (missing i)) in
    subst (λ o. IsObjected o kind number old (Some new)) same c.in_ok-reply-2.ensures.ok

pub returns-then-lacks_type-clause-cause : goal.returns-then-lacks_type-clause-cause
returns-then-lacks_type-clause-cause g c =
    let limit = (g.W.MessageWrite.draft c.args.writer).limit in
    let hidden : c.shows_unknown.result ≡ false = search rules in
    let lacks : c.lacks_type.result ≡ true = search rules in
    let none = none_visible (visible c.args.msg.now) (numbers c.args.supported.now) (sym c.shows_unknown.ensures ∙ hidden) in
    let missing = missing_is (visible c.args.msg.now) c.args.required.now _ true c.lacks_type.ensures lacks in
    (λ i. objection_refusal_to limit (none i) (missing i)) ∙ c.in_ok-reply-2.ensures.cause

pub returns-clause-ok : goal.returns-clause-ok
returns-clause-ok g c =
    let hidden : c.shows_unknown.result ≡ false = search rules in
    let lacks : c.lacks_type.result ≡ false = search rules in
    let none = none_visible (visible c.args.msg.now) (numbers c.args.supported.now) (sym c.shows_unknown.ensures ∙ hidden) in
    let missing = missing_is (visible c.args.msg.now) c.args.required.now _ false c.lacks_type.ensures lacks in
    let same = sym (λ i. objection_to (none i) (missing i)) in
    subst (λ o. IsObjected o (error_type c.args.msg.now) (number_at c.args.msg.now) (g.W.MessageWrite.draft c.args.writer) None) same tt

pub returns-clause-cause : goal.returns-clause-cause
returns-clause-cause g c =
    let limit = (g.W.MessageWrite.draft c.args.writer).limit in
    let hidden : c.shows_unknown.result ≡ false = search rules in
    let lacks : c.lacks_type.result ≡ false = search rules in
    let none = none_visible (visible c.args.msg.now) (numbers c.args.supported.now) (sym c.shows_unknown.ensures ∙ hidden) in
    let missing = missing_is (visible c.args.msg.now) c.args.required.now _ false c.lacks_type.ensures lacks in
    λ i. objection_refusal_to limit (none i) (missing i)
