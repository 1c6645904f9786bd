use Rattle.turn_client_proto_messages.proofs.signer.Signer.validate_incoming_message.Goals as goal

pub invariant_of-self : goal.invariant_of-self
invariant_of-self c =
    c.proof_texts_stay_short.ensures.stay c.self.inside.auth c.validate_incoming_message.new.self c.args.message.now c.validate_incoming_message.result c.validate_incoming_message.ensures c.self.invariant
