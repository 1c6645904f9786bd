use Rattle.std.proofs.Common.{refl, sym, ◌∙◌}
use Rattle.stun_proto_server.specs.Server.{refreshed}
use Rattle.stun_proto_server.proofs.Apart.{same_for-then}
use Rattle.stun_proto_server.proofs.Validated.{accepted_by_same, response_draws_none, response_is_refused}
use Rattle.stun_proto_server.proofs.long_term.LongTermServerAuth.validate_incoming_message.Goals as goal

pub returns-then-is_response-clause-refused : goal.returns-then-is_response-clause-refused
returns-then-is_response-clause-refused g c _ =
    let response = sym c.is_response.ensures ∙ c.if-is_response.true in
    (response_is_refused (refreshed c.args.self.now c.args.from c.args.now (g.R.Rng.stream c.args.rng.now)) c.args.from c.args.message.now response, rw response refl)

pub returns-then-is_response-clause-stream : goal.returns-then-is_response-clause-stream
returns-then-is_response-clause-stream g c =
    response_draws_none c.args.self.now c.args.from c.args.message.now c.args.now (g.R.Rng.stream c.args.rng.now) (sym c.is_response.ensures ∙ c.if-is_response.true)

pub returns-clause-accepted : goal.returns-clause-accepted
returns-clause-accepted g c =
    accepted_by_same c.args.self.now c.refresh_nonce.new.self c.args.from c.args.now (g.R.Rng.stream c.args.rng.now) c.args.message.now c.validate_request.result c.validate_request.new.self
    c.in_ok-refresh_nonce.ensures.ok c.validate_request.ensures.valid c.validate_request.ensures.refused

pub returns-clause-others : goal.returns-clause-others
returns-clause-others g c other different none =
    same_for-then other c.args.self.now c.refresh_nonce.new.self c.validate_request.new.self (c.refresh_nonce.ensures.others other different none) (c.validate_request.ensures.others other different)
