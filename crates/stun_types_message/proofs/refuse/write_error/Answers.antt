use Rattle.std.proofs.Common.{◌∷◌, [], None, refl, subst}
use Rattle.stun_types_attributes.specs.Wire.Attributes.{Attr}
use Rattle.stun_types_attributes.specs.Wire.Grammar.{number_at}
use Rattle.stun_types_add.specs.Calls.{IsComposed}
use Rattle.stun_types_add.proofs.Taken.{composed_more, composed_none}
use Rattle.stun_types_message.specs.Objections.{error_attribute, error_type}
use Rattle.stun_types_message.proofs.Refusing.{default_error, first_answer}
use Rattle.stun_types_message.proofs.refuse.write_error.Goals as goal

pub returns-clause-ok : goal.returns-clause-ok
returns-clause-ok g c =
    let same = default_error c.builder.result c.in_ok-error.error c.args.code c.builder.ensures.code c.builder.ensures.reason c.in_ok-error.ensures.ok.0 c.in_ok-error.ensures.ok.1 in
    let kind = error_type c.args.request.now in
    let number = number_at c.args.request.now in
    let made = composed_more kind number [] _ _ _ _ (composed_none kind number _ _ c.in_ok-reply.ensures.started) c.in_ok-add_as.ensures.ok refl c.in_ok-add_as.ensures.cause in
    subst (λ (a : Attr). IsComposed kind number (a ∷ []) (g.W.MessageWrite.draft c.args.writer) (g.W.MessageWrite.draft c.add_as.new.writer)) same made

pub returns-clause-cause : goal.returns-clause-cause
returns-clause-cause g c =
    let same = default_error c.builder.result c.in_ok-error.error c.args.code c.builder.ensures.code c.builder.ensures.reason c.in_ok-error.ensures.ok.0 c.in_ok-error.ensures.ok.1 in
    let started = c.in_ok-reply.ensures.started in
    first_answer _ _ _ (error_attribute c.args.code) None started.ended started.limit started.size same c.in_ok-add_as.ensures.cause
