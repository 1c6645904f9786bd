use Rattle.std.proofs.Common.{rules, ◌≡◌, ◌∷◌, [], None, List, ℕ, length, refl, ap, subst, ◌∙◌}
use Rattle.std.proofs.lemmas.List.{length-map}
use Rattle.stun_types_attributes.specs.Base.Refusals.{IsCause}
use Rattle.stun_types_attributes.specs.Wire.declared.error.StunWriteError.TheVariants.{NoMemory}
use Rattle.stun_types_attributes.specs.Wire.declared.attribute.AttributeType.{AttributeType}
use Rattle.stun_types_attributes.specs.Wire.Grammar.{number_at}
use Rattle.stun_types_add.specs.Calls.{IsComposed}
use Rattle.stun_types_add.proofs.Taken.{composed_more}
use Rattle.stun_types_message.specs.Objections.{error_attribute, error_type, unknown_attribute, unknown_refusal}
use Rattle.stun_types_message.proofs.Refusing.{no_room, one-length, second_answer}
use Rattle.stun_types_message.proofs.parsed.Message.unknown_attributes.Goals as goal

pub returns-clause-ok : goal.returns-clause-ok
returns-clause-ok g c =
    let kind = error_type c.args.request.now in
    let number = number_at c.args.request.now in
    let made = composed_more kind number (error_attribute 420 ∷ []) _ _ _ _ c.in_ok-reply.ensures.ok c.in_ok-add_as.ensures.ok refl c.in_ok-add_as.ensures.cause in
    subst (λ (kinds : List ℕ). IsComposed kind number (error_attribute 420 ∷ unknown_attribute kinds ∷ []) (g.W.MessageWrite.draft c.args.writer) (g.W.MessageWrite.draft c.add_as.new.writer)) c.in_ok-unknown.ensures.ok.0 made

pub returns-clause-cause : goal.returns-clause-cause
returns-clause-cause g c =
    let many : length c.in_ok-unknown.unknown ≡ length c.args.types.now = ap length c.in_ok-unknown.ensures.ok.0 ∙ length-map c.args.types.now (λ (t : AttributeType). t.0) in
    let reply = c.in_ok-reply.ensures.ok in
    let size = one-length _ _ _ _ reply.text in
    second_answer _ c.in_ok-unknown.unknown _ (length c.args.types.now) None reply.ended reply.limit size many c.in_ok-unknown.ensures.ok.1 c.in_ok-reply.ensures.cause c.in_ok-add_as.ensures.cause

pub returns-in_err-reply-clause-cause : goal.returns-in_err-reply-clause-cause
returns-in_err-reply-clause-cause g c =
    let accepted : unknown_refusal (g.W.MessageWrite.draft c.args.writer).limit (length c.args.types.now) ≡ None = search rules in
    let cause : IsCause NoMemory (unknown_refusal (g.W.MessageWrite.draft c.args.writer).limit (length c.args.types.now)) c.in_err-reply.field-0.0 =
    record { named = λ other. no_room _ _ _ c.in_ok-unknown.ensures.ok.1 (c.in_err-reply.ensures.cause.named other); last = λ is. accepted } in
    search rules

pub returns-in_err-add_as-clause-cause : goal.returns-in_err-add_as-clause-cause
returns-in_err-add_as-clause-cause g c =
    let accepted : unknown_refusal (g.W.MessageWrite.draft c.args.writer).limit (length c.args.types.now) ≡ None = search rules in
    let many : length c.in_ok-unknown.unknown ≡ length c.args.types.now = ap length c.in_ok-unknown.ensures.ok.0 ∙ length-map c.args.types.now (λ (t : AttributeType). t.0) in
    let reply = c.in_ok-reply.ensures.ok in
    let size = one-length _ _ _ _ reply.text in
    let cause : IsCause NoMemory (unknown_refusal (g.W.MessageWrite.draft c.args.writer).limit (length c.args.types.now)) c.in_err-add_as.field-0.0 = record {
      named = λ other. second_answer _ c.in_ok-unknown.unknown _ (length c.args.types.now) _ reply.ended reply.limit size many c.in_ok-unknown.ensures.ok.1 c.in_ok-reply.ensures.cause (c.in_err-add_as.ensures.cause.named other);
      last = λ is. accepted;
    } in
    search rules
