use Rattle.std.proofs.Common.{rules, ◌≡◌, ◌∷◌, [], refl, subst}
use Rattle.stun_types_wire.specs.Attributes.{Attr}
use Rattle.stun_types_wire.specs.Grammar.{number_at}
use Rattle.stun_types_wire.specs.declared.error.StunWriteError.TheVariants.{NoMemory}
use Rattle.stun_types_write.specs.Lent.{own_draft}
use Rattle.stun_types_add.specs.Calls.{IsComposed}
use Rattle.stun_types_add.proofs.Taken.{composed_more, composed_none}
use Rattle.stun_types_message.proofs.Refusing.{default_error}
use Rattle.stun_types_message.specs.Objections.{error_type}
use Rattle.turn_desk_core.proofs.Room.{code_accepted, error_room, only_memory}
use Rattle.turn_desk_core.proofs.Sizes.{failure_reply}
use Rattle.turn_desk_core.proofs.failure.write_failure.Goals as goal

pub returns-in_err-code-clause-memory : goal.returns-in_err-code-clause-memory
returns-in_err-code-clause-memory c =
    let memory : c.in_err-code.field-0.0 ≡ NoMemory =
    only_memory _ _ c.in_err-code.ensures.cause (code_accepted c.builder.result c.args.code c.builder.ensures.code c.builder.ensures.reason c.requires.least c.requires.most) in
    search rules

pub returns-in_err-add_as-clause-memory : goal.returns-in_err-add_as-clause-memory
returns-in_err-add_as-clause-memory c =
    let same = default_error c.builder.result c.in_ok-code.code c.args.code c.builder.ensures.code c.builder.ensures.reason c.in_ok-code.ensures.ok.0 c.in_ok-code.ensures.ok.1 in
    let started = composed_none (error_type c.args.request.now) (number_at c.args.request.now) _ _ c.in_ok-reply.ensures.started in
    let memory : c.in_err-add_as.field-0.0 ≡ NoMemory =
    only_memory _ _ c.in_err-add_as.ensures.cause
    (error_room (error_type c.args.request.now) (number_at c.args.request.now) c.args.code _ (own_draft c.new.result) (own_draft c.in_ok-reply.reply) c.new.ensures started same) in
    search rules

pub returns-clause-reply : goal.returns-clause-reply
returns-clause-reply c =
    let kind = error_type c.args.request.now in
    let number = number_at c.args.request.now in
    let same = default_error c.builder.result c.in_ok-code.code c.args.code c.builder.ensures.code c.builder.ensures.reason c.in_ok-code.ensures.ok.0 c.in_ok-code.ensures.ok.1 in
    let made = composed_more kind number [] _ _ _ _ (composed_none kind number _ _ c.in_ok-reply.ensures.started) c.in_ok-add_as.ensures.ok refl c.in_ok-add_as.ensures.cause in
    let composed = subst (λ (a : Attr). IsComposed kind number (a ∷ []) (own_draft c.new.result) (own_draft c.add_as.new.writer)) same made in
    failure_reply kind number c.args.code (own_draft c.new.result) (own_draft c.add_as.new.writer) c.new.ensures composed
